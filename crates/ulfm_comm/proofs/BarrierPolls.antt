-- What the poll of a barrier promises.
use Rattle.std.proofs.Common.{◌≡◌, ◌⊎◌, ℕ, ◌<◌, ◌≤◌, Bool, true, false, not, List, [], ◌∷◌, filter, Some, is_some, refl, ap, ap₂, sym, ◌∙◌, subst, arith, inl}
use Rattle.std.proofs.Common.{inr, if◌then◌else◌}
use Rattle.std.specs.List.{list_all}
use Rattle.std.proofs.lemmas.List.Elements.{Contains-push_cases}
use Rattle.ulfm_model.specs.declared.call.Call.TheVariants as call
use Rattle.ulfm_model.specs.declared.{call.Call.{Call}, call.Request.TheVariants.{Barrier}, event.Caller.TheVariants.{Rank}, event.Entry.{Entry}}
use Rattle.ulfm_model.specs.declared.{event.Event.TheVariants.{Arrive}, limits.Limits.{Limits}, refusal.Refusal.TheVariants.{Idle, IsRevoked, ProcFailed}}
use Rattle.ulfm_model.specs.declared.{reply.Reply.{Reply}, reply.Reply.TheVariants.{Done, Pending, Refused}}
use Rattle.ulfm_model.specs.Answers.{PollReplies, AtPoint, barrier_reply, closed, first_refusal, left_by, polled_by, refusal_on}
use Rattle.ulfm_model.specs.{History.{History, IsLegal, MayFollow, failures, has, has_arrived, is_revoked}, Records.{Fits, FitsRequest, Record, held_at}}
use Rattle.ulfm_model.specs.Runs.{Did, unsettled_of}
use Rattle.ulfm_model.specs.Terms.{IsOwn, contexts_of, request_of}
use Rattle.ulfm_model.proofs.{Histories.{by_events}}
use Rattle.ulfm_model.specs.Records.{moment}
use Rattle.ulfm_words.specs.Steps.{IsView, Over, Sight, view_at}
use Rattle.ulfm_words.proofs.Trails.{did_prefix, did_wait}
use Rattle.ulfm_steps.proofs.Arriving.{arrivals_stay}
use Rattle.ulfm_steps.specs.Rounds.{IsRoundOf}
use Rattle.ulfm_steps.specs.Arriving.{MissingAre}
use Rattle.ulfm_steps.specs.declared.arrivals.{Missing.{Missing}, Missing.TheVariants.{Nobody, Others, Declared}}
use Rattle.ulfm_comm.specs.{Barrier.{Awaits, missing_leaves, missing_reply}, Calls.{Linearizes}, Ends.{IsEndRun}, Look.{Looked}}
use Rattle.ulfm_comm.proofs.{CallRuns.{calls_early, calls_is}, Revokes.{standing_before}, Holding.{comm_is, exists_is, group_is, holds}}
use Rattle.ulfm_comm.proofs.WholeCall.{held_before, replied}
use Rattle.ulfm_comm.specs.Local.{local}

-- an arrival of a legal history is in a round that there is
arrived_in_rounds : {P : Type 0} (meld : P → P → P) (limits : Limits) (h : History P) → IsLegal meld limits h → (c k r : ℕ) → IsOwn h r (Arrive c k r)
    → k < limits.rounds
arrived_in_rounds {P} meld limits h legal c k r own =
    by_events meld limits (λ w. IsOwn w r (Arrive c k r) → k < limits.rounds) (λ own. absurd (omega (arith, own.1)))
    (λ w e lw q may own. step w e may q (Contains-push_cases w e _ own)) h legal own
  where
    step : (w : History P) (e : Entry P) → MayFollow meld limits w e.event → (IsOwn w r (Arrive c k r) → k < limits.rounds)
        → IsOwn w r (Arrive c k r) ⊎ (e ≡ record { by = Rank r; event = Arrive c k r }) → k < limits.rounds
    step w e may q (inl before) = q before
    step w e may q (inr last) = (subst (λ x. MayFollow meld limits w x.event) last may).0.in_rounds

-- an open barrier has a round
pub awaited_round : {P : Type 0} (meld : P → P → P) (limits : Limits) (h : History P) (c k : ℕ) (own : Record) → IsLegal meld limits h
    → (a : Awaits meld limits h c k own) → IsRoundOf limits h c k a.x.group
awaited_round meld limits h c k own legal a =
    record {
      exists = exists_is meld limits h own c a.x a.fits a.held;
      group_is = group_is meld limits h own c a.x a.fits a.held;
      in_rounds = arrived_in_rounds meld limits h legal a.x.comm k own.number (subst (FitsRequest h own.number (contexts_of own.held) a.x.comm) a.open_is
          (holds meld limits h own c a.x a.fits a.held).request);
    }

-- the reply, by the three tests
abbrev choice : {P : Type 0} → Bool → Bool → Bool → Reply P
choice revoked all listed = if revoked then Refused IsRevoked else (if all then Done else (if listed then Pending else Refused ProcFailed))

module _ {P : Type 0} (meld : P → P → P) (limits : Limits) (alone : Bool) (before look : History P) (old mid : Record)
    (looked : Looked alone before look old mid) (c k : ℕ) (a : Awaits meld limits look c k mid) where
  abbrev asked : Call P
  asked = call.Poll old.number c

  held_first : held_at old c ≡ Some a.x
  held_first = held_before meld limits alone before look old mid looked c (Some a.x) a.held

  pub barrier_polled : polled_by {P = P} old (call.Poll old.number c) ≡ Some (Barrier k)
  barrier_polled = ap request_of held_first ∙ a.open_is

  module _ (point : History P) (did : Did alone [] look point) (legal : IsLegal meld limits point) where
    abbrev view : AtPoint P
    view = record { look = failures look; history = point; own = []; spread = false }

    -- a poll that has its point here
    barrier_run : (reply : Reply P) (new : Record) → reply ≡ barrier_reply view a.x k → new ≡ left_by limits.ranks point mid asked reply
        → IsEndRun meld limits alone (moment old before) asked reply (moment new point)
    barrier_run reply new is left =
        replied meld limits alone before look old mid looked point [] asked reply new a.x did legal held_first
        (ap (λ w. refusal_on {P = P} old w asked) held_first ∙ ap (λ request. first_refusal ((not (is_some request), Idle) ∷ [])) a.open_is) tt
        (subst (λ request. PollReplies meld limits view old.number a.x request reply) (sym a.open_is) is) left
        (λ here polls not_declared. sym (ap (unsettled_of limits.ranks before c) barrier_polled))

    at : a.x.comm ≡ c
    at = comm_is meld limits look mid c a.x a.fits a.held

    by_tests : (revoked all listed : Bool) → is_revoked point c ≡ revoked → list_all (has_arrived point c k) a.x.group ≡ all
        → list_all (has_arrived point c k) (filter (has a.x.group) (failures look)) ≡ listed
        → choice revoked all listed ≡ barrier_reply view a.x k
    by_tests revoked all listed one two three =
        sym (ap (λ w. choice (is_revoked point w) (list_all (has_arrived point w k) a.x.group)
        (list_all (has_arrived point w k) (filter (has a.x.group) (failures look)))) at
        ∙ (ap (λ b. choice b (list_all (has_arrived point c k) a.x.group) (list_all (has_arrived point c k) (filter (has a.x.group) (failures look)))) one
        ∙ ap₂ (choice revoked) two three))

    -- the communicator is revoked
    pub barrier_revoked : (new : Record) → is_revoked point c ≡ true → new ≡ closed mid c
        → IsEndRun meld limits alone (moment old before) asked (Refused IsRevoked) (moment new point)
    barrier_revoked new is left = barrier_run (Refused IsRevoked) new (by_tests true _ _ is refl refl) left

    -- it isn't: by who is missing
    pub barrier_waits : (missing : Missing) (new : Record) → is_revoked point c ≡ false → MissingAre point c k a.x.group (failures look) missing
        → new ≡ missing_leaves mid c missing
        → IsEndRun meld limits alone (moment old before) asked (missing_reply missing) (moment new point)
    barrier_waits Nobody new standing are left = barrier_run Done new (by_tests false true _ standing are refl) left
    barrier_waits Others new standing are left = barrier_run Pending new (by_tests false false true standing are.0 are.1) left
    barrier_waits Declared new standing are left = barrier_run (Refused ProcFailed) new (by_tests false false false standing are.0 are.1) left

-- what the poll of a barrier promises
module _ {P : Type 0} (meld : P → P → P) (alone : Bool) (name : Over P) (before look after : Sight P) (old mid : Record)
    (fits : Fits meld name.limits before.seen old) (looked : Looked alone before.seen look.seen old mid)
    (c k : ℕ) (a : Awaits meld name.limits look.seen c k mid) (of : IsView meld (view_at name after)) (onward : before.steps ≤ after.steps) where
  -- where the communicator is revoked at its end
  pub polls_revoked : (new : Record) → Did alone [] look.seen after.seen → is_revoked after.seen c ≡ true → new ≡ closed mid c
      → Linearizes meld alone (call.Poll old.number c) (local old (view_at name before)) (Refused IsRevoked) (local new (view_at name after))
  polls_revoked new did is left =
      calls_is meld alone name before after onward (call.Poll old.number c) old (Refused IsRevoked) new of fits (λ is no. absurd (cc (is, no)))
      (barrier_revoked meld name.limits alone before.seen look.seen old mid looked c k a after.seen did of.legal new is left)

  -- where it isn't, and somebody was missing before the last load
  calls_waiting_at : (point : History P) (group fs : List ℕ) (missing : Missing) (new : Record) → Did alone [] look.seen point → IsLegal meld name.limits point
      → Did alone [] point after.seen → is_revoked after.seen c ≡ false
      → group ≡ a.x.group → fs ≡ mid.seen → MissingAre point c k group fs missing → new ≡ missing_leaves mid c missing
      → (missing_reply {P = P} missing ≡ Pending) ⊎ (missing_reply {P = P} missing ≡ Refused ProcFailed)
      → Linearizes meld alone (call.Poll old.number c) (local old (view_at name before)) (missing_reply missing) (local new (view_at name after))
  calls_waiting_at point group fs missing new did legal wait standing same seen are left early =
      let found = seen ∙ ap (λ (r : Record). r.seen) looked.record_is in
      calls_early meld alone name before after onward (call.Poll old.number c) old (missing_reply missing) new of fits (λ is no. absurd (cc (is, no))) (record {
        found = point;
        run =
            barrier_waits meld name.limits alone before.seen look.seen old mid looked c k a point did legal missing new
            (standing_before point after.seen c (did_prefix alone [] point after.seen wait) standing)
            (subst (λ w. MissingAre point c k w (failures look.seen) missing) same (subst (λ w. MissingAre point c k group w missing) found are)) left;
        waited = wait;
        round = k;
        open_is = barrier_polled meld name.limits alone before.seen look.seen old mid looked c k a;
        missing = early;
      })

  -- the same, by who was missing; where nobody was, nobody is at the end
  pub calls_missing_at : (point : History P) (group fs : List ℕ) (missing : Missing) (new : Record) → Did alone [] look.seen point
      → IsLegal meld name.limits point → Did alone [] point after.seen → is_revoked after.seen c ≡ false
      → group ≡ a.x.group → fs ≡ mid.seen → MissingAre point c k group fs missing → new ≡ missing_leaves mid c missing
      → Linearizes meld alone (call.Poll old.number c) (local old (view_at name before)) (missing_reply missing) (local new (view_at name after))
  calls_missing_at point group fs Nobody new did legal wait standing same seen are left =
      calls_is meld alone name before after onward (call.Poll old.number c) old Done new of fits (λ is no. absurd (cc (is, no)))
      (barrier_waits meld name.limits alone before.seen look.seen old mid looked c k a after.seen (did_wait alone [] look.seen point after.seen did wait)
      of.legal Nobody new standing
      (subst (λ w. MissingAre after.seen c k w (failures look.seen) Nobody) same
      (arrivals_stay point after.seen c k group (did_prefix alone [] point after.seen wait) are)) left)
  calls_missing_at point group fs Others new did legal wait standing same seen are left = calls_waiting_at point group fs Others new did legal wait standing
      same seen are left (inl refl)
  calls_missing_at point group fs Declared new did legal wait standing same seen are left = calls_waiting_at point group fs Declared new did legal wait standing
      same seen are left (inr refl)

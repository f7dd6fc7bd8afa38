-- Each step of the sequential object is the computed one.
use Rattle.std.proofs.Common.{◌≡◌, ℕ, ◌<◌, ◌==◌, Bool, true, false, List, [], ◌∷◌, ◌++◌, Option, Some, None, nat_lt, refl, ap, ap₂, sym, ◌∙◌, subst, append-nil, inl, inr, if◌then◌else◌}
use Rattle.std.proofs.lemmas.Bool.{le-ltb, lt-ltb}
use Rattle.ulfm_model.specs.declared.call.Call.{Call}
use Rattle.ulfm_model.specs.declared.call.Call.TheVariants as call
use Rattle.ulfm_model.specs.declared.event.Caller.TheVariants.{Outside}
use Rattle.ulfm_model.specs.declared.event.Event.{Event}
use Rattle.ulfm_model.specs.declared.event.Event.TheVariants.{Fail}
use Rattle.ulfm_model.specs.declared.limits.Limits.{Limits}
use Rattle.ulfm_model.specs.declared.refusal.Refusal.TheVariants.{NoSuchRank}
use Rattle.ulfm_model.specs.declared.reply.Reply.{Reply}
use Rattle.ulfm_model.specs.declared.reply.Reply.TheVariants.{AlreadyFailed, Declared, Refused}
use Rattle.ulfm_model.specs.History.{History, entries_by, failures, has}
use Rattle.ulfm_model.specs.Terms.{after_call}
use Rattle.ulfm_model.specs.{History.{IsLegal, MayFollow}, Runs.{IsRankStep, IsSound, IsStep, State}}
use Rattle.ulfm_model.specs.Computed.{Next, CallOutcome, fail_outcome, next, next_by, next_of_rank}
use Rattle.ulfm_model.specs.Terms.{record_at}
use Rattle.ulfm_model.specs.Records.{Fits, Record}
use Rattle.ulfm_model.specs.Answers.{AnswersFail, AtPoint, left_by, traits_of}
use Rattle.ulfm_model.specs.Runs.{IsFailRun}
use Rattle.ulfm_model.proofs.Histories.{legal_parts}
use Rattle.ulfm_model.proofs.Lists.{at_member, find_holds}
use Rattle.ulfm_model.proofs.Marking.{failures_below}
use Rattle.ulfm_model.proofs.OnlyRuns.{HasOutcome, run_is, span_is}

module _ {P : Type 0} (meld : P → P → P) (limits : Limits) (h : History P) (rank : ℕ) (events : List (Event P)) (legal : IsLegal meld limits (h ++ entries_by Outside events)) (reply : Reply P) where
  abbrev by_tests : Bool → Bool → CallOutcome P
  by_tests known declared =
      if known then (if declared then (record { own = []; reply = AlreadyFailed }) else (record { own = Fail rank ∷ []; reply = Declared })) else (record { own = []; reply = Refused NoSuchRank })

  has_tests : (a b : Bool) → nat_lt rank limits.ranks ≡ a → has (failures h) rank ≡ b → HasOutcome events reply (by_tests a b) → HasOutcome events reply (fail_outcome limits h rank)
  has_tests a b known declared out = subst (HasOutcome events reply) (ap₂ by_tests (sym known) (sym declared)) out

  -- a declaration where nobody else steps is the computed one
  pub fail_is : AnswersFail limits (record { look = failures h; history = h ++ entries_by Outside events; own = events; spread = false }) rank reply → HasOutcome events reply (fail_outcome limits h rank)
  fail_is (inl (declared, one, stands)) =
      let may : MayFollow meld limits h (Fail rank) = (legal_parts meld limits h (entries_by Outside (Fail rank ∷ [])) (subst (λ es. IsLegal meld limits (h ++ entries_by Outside es)) one legal)).1.0 in
      has_tests true false (lt-ltb rank limits.ranks may.0) may.1 (one, declared)
  fail_is (inr (inl (already, none, stands))) =
      let stood : has (failures h) rank ≡ true = ap (λ w. has (failures w) rank) (sym (ap (λ es. h ++ entries_by Outside es) none ∙ append-nil h)) ∙ stands in
      let below = at_member (λ r. r < limits.ranks) (failures h) rank (failures_below meld limits h (legal_parts meld limits h (entries_by Outside events) legal).0) stood in
      has_tests true true (lt-ltb rank limits.ranks below) stood (none, already)
  fail_is (inr (inr (refused, none, above))) = has_tests false (has (failures h) rank) (le-ltb rank limits.ranks above) refl (none, refused)

-- a declaration's run where nobody else steps is the computed one
pub fail_run_is : {P : Type 0} (meld : P → P → P) (limits : Limits) (h after : History P) (rank : ℕ) (reply : Reply P) → (run : IsFailRun meld limits true h after rank reply) → run.span.point ≡ after
    → (after ≡ h ++ entries_by Outside (fail_outcome limits h rank).own) × (reply ≡ (fail_outcome limits h rank).reply)
fail_run_is {P = P} meld limits h after rank reply run ends =
    let events = run.span.own in
    let parts = span_is h after run.span in
    let views : record { look = failures run.span.look; history = run.span.point; own = events; spread = false } ≡ record { look = failures h; history = h ++ entries_by Outside events; own = events; spread = false } =
    ap₂ (λ l w. let v : AtPoint P = record { look = failures l; history = w; own = events; spread = false } in v) parts.0 (ends ∙ parts.1) in
    let out = fail_is meld limits h rank events (subst (IsLegal meld limits) parts.1 run.span.legal) reply (subst (λ v. AnswersFail limits v rank reply) views run.answer) in
    (parts.1 ∙ ap (λ es. h ++ entries_by Outside es) out.0, out.1)

module _ {P : Type 0} (meld : P → P → P) (state : State P) (sound : IsSound meld state) where
  -- the reply and the state are these
  abbrev pub Is : Reply P → State P → Next P → Type 0
  Is reply new out = (reply ≡ out.reply) × (new ≡ out.state)

  fail_step_is : (rank : ℕ) (reply : Reply P) (new : State P) → IsStep meld state Outside (call.Fail rank) reply new → Is reply new (next meld state (call.Fail rank))
  fail_step_is rank reply new (r, asked, after, run, ends, is) =
      let same : rank ≡ r = cc asked in
      let out = fail_run_is meld state.limits state.history after r reply run ends in
      subst (λ m. Is reply new (next meld state (call.Fail m))) (sym same) (out.1, is ∙ ap (λ w. record state { history = w }) out.0)

  rank_step_is : (r : ℕ) (found : Option Record) → record_at state r ≡ found → (asked : Call P) (reply : Reply P) (new : State P) → IsRankStep meld state r found asked reply new → Is reply new (next_of_rank meld state r found asked)
  rank_step_is r None at asked reply new step = (step.0, step.1)
  rank_step_is r (Some own) at asked reply new (inl (refused, is, same)) =
      (is ∙ ap (λ b. (next_by meld state r own asked b).reply) (sym refused), same ∙ ap (λ b. (next_by meld state r own asked b).state) (sym refused))
  rank_step_is r (Some own) at asked reply new (inr (after, left, alone, is)) =
      let fits = (find_holds (λ x. x.number == r) (Fits meld state.limits state.history) state.records own sound.fits at).0 in
      let out = run_is meld state.limits state.history after own asked reply left fits alone in
      let computed = next_by meld state r own asked false in
      let used : own.refused ≡ false = alone.run.in_use in
      let state_is : after_call state r after left ≡ computed.state =
      ap₂ (after_call state r) out.history (out.left_is ∙ ap₂ (λ w p. left_by state.limits.ranks w (record own { seen = failures state.history }) asked p) out.history out.reply_is) in
      (out.reply_is ∙ ap (λ b. (next_by meld state r own asked b).reply) (sym used), is ∙ (state_is ∙ ap (λ b. (next_by meld state r own asked b).state) (sym used)))

  -- each step of a sound state is the computed one
  pub step_is_next : (asked : Call P) (reply : Reply P) (new : State P) → IsStep meld state (traits_of asked).by asked reply new → (reply ≡ (next meld state asked).reply) × (new ≡ (next meld state asked).state)
  step_is_next (call.Fail rank) reply new step = fail_step_is rank reply new step
  step_is_next (call.GetFailed rank c) reply new step = rank_step_is rank (record_at state rank) refl (call.GetFailed rank c) reply new step
  step_is_next (call.FailureGetAcked rank c) reply new step = rank_step_is rank (record_at state rank) refl (call.FailureGetAcked rank c) reply new step
  step_is_next (call.Ack rank c count) reply new step = rank_step_is rank (record_at state rank) refl (call.Ack rank c count) reply new step
  step_is_next (call.FailureAck rank c) reply new step = rank_step_is rank (record_at state rank) refl (call.FailureAck rank c) reply new step
  step_is_next (call.Agree rank c value) reply new step = rank_step_is rank (record_at state rank) refl (call.Agree rank c value) reply new step
  step_is_next (call.Shrink rank c) reply new step = rank_step_is rank (record_at state rank) refl (call.Shrink rank c) reply new step
  step_is_next (call.Barrier rank c) reply new step = rank_step_is rank (record_at state rank) refl (call.Barrier rank c) reply new step
  step_is_next (call.Poll rank c) reply new step = rank_step_is rank (record_at state rank) refl (call.Poll rank c) reply new step
  step_is_next (call.Revoke rank c) reply new step = rank_step_is rank (record_at state rank) refl (call.Revoke rank c) reply new step
  step_is_next (call.IsRevoked rank c) reply new step = rank_step_is rank (record_at state rank) refl (call.IsRevoked rank c) reply new step
  step_is_next (call.Free rank c) reply new step = rank_step_is rank (record_at state rank) refl (call.Free rank c) reply new step

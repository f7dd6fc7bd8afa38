-- The poll of a barrier, step by step.
use Rattle.std.proofs.Common.{◌≡◌, ℕ, ◌<◌, ◌≤◌, Bool, true, false, List, [], Some, refl, ap, sym, ◌∙◌, subst, arith, inr, IsTrue}
use Rattle.ulfm_model.specs.declared.call.Call.TheVariants as call
use Rattle.ulfm_model.specs.declared.{call.Call.{Call}, limits.Limits.{Limits}, refusal.Refusal.TheVariants.{IsRevoked}, reply.Reply.{Reply}}
use Rattle.ulfm_model.specs.declared.reply.Reply.TheVariants.{Pending, Refused}
use Rattle.ulfm_model.specs.{Answers.{closed, polled_by}, History.{History, IsLegal, is_revoked}, Records.{Fits, Held, Record, held_at}, Runs.{Did}}
use Rattle.ulfm_model.specs.Terms.{comm_of}
use Rattle.ulfm_model.proofs.Stable.{fits_stays}
use Rattle.ulfm_model.specs.Records.{moment}
use Rattle.ulfm_words.specs.Steps.{IsView, Over, Sight, view_at}
use Rattle.ulfm_words.proofs.Trails.{did_none, did_prefix, did_wait}
use Rattle.ulfm_steps.specs.declared.{arrivals.Arrivals.{Arrivals}, arrivals.Missing.{Missing}, arrivals.Missing.TheVariants.{Nobody, Others, Declared}}
use Rattle.ulfm_steps.specs.{Arriving.{AtArrival, MissingAre}, Rounds.{IsRoundOf}}
use Rattle.ulfm_comm.specs.{Barrier.{Awaits, missing_leaves, missing_reply, IsChecking, IsWaiting}, Calls.{Linearizes, HasReplied}, Ends.{IsEndRun}}
use Rattle.ulfm_comm.specs.{Polls.{EndsInMissing, IsAgreement}, Phase.{Answered, Stands}}
use Rattle.ulfm_comm.specs.declared.phases.phase.Phase.TheVariants.{Waiting, Checking}
use Rattle.ulfm_comm.proofs.{BarrierPolls.{awaited_round, barrier_polled, barrier_waits, calls_missing_at, polls_revoked}, AmongOthers.{did_loosely}}
use Rattle.ulfm_comm.proofs.{Revokes.{held_below, standing_before}, Holding.{same_held}}
use Rattle.ulfm_comm.specs.Local.{frame, local}
use Rattle.ulfm_comm.specs.Prepared.{Prepared}

-- the poll of a barrier, under way
module _ {P : Type 0} (meld : P → P → P) (limits : Limits) (alone : Bool) (c k : ℕ) (x : Held) (old : Record) (before : History P) (own : Record)
    (now : History P) (p : IsWaiting (frame meld limits alone) c k x (moment old before) (moment own now)) where
  abbrev waiting_awaits : IsLegal meld limits now → Awaits meld limits now c k own
  waiting_awaits legal = record {
    fits = fits_stays meld limits p.since.look now own (did_prefix alone [] p.since.look now p.waited) legal p.since.fits;
    x = x;
    held = p.since.held;
    open_is = p.open_is;
  }

  -- the round is one of the members' that the rank holds
  waiting_round : IsLegal meld limits now → IsRoundOf limits now c k x.group
  waiting_round legal = awaited_round meld limits now c k own legal (waiting_awaits legal)

  -- after others' events
  pub waiting_on : (quiet : Bool) → (IsTrue alone → IsTrue quiet) → (after : History P) → Did quiet [] now after
      → IsWaiting (frame meld limits alone) c k x (moment old before) (moment own after)
  waiting_on quiet only after did =
      record {
        since = p.since;
        legal = p.legal;
        open_is = p.open_is;
        waited = did_wait alone [] p.since.look now after p.waited (did_loosely alone quiet only [] now after did);
      }

-- a call that stands between two loads of arrivals, by what the code knows of the communicator
module _ {P : Type 0} (meld : P → P → P) (name : Over P) (asked : Call P) (arrivals : Arrivals) (prepared : Prepared) (own : Record) (now : Sight P)
    (of : IsView meld (view_at name now)) (y : Held) (w : ℕ) (found : held_at own w ≡ Some y) (w_is : w ≡ comm_of asked)
    (members declared : List ℕ) (members_are : members ≡ y.group) (declared_are : declared ≡ own.seen) (alone : Bool) (old : Record) (before : Sight P)
    (st : Stands meld alone (local old (view_at name before)) (record { asked = asked; phase = Waiting arrivals; prepared = prepared }) (local own (view_at name now))) where
  abbrev waits : IsWaiting (frame meld name.limits alone) (comm_of asked) arrivals.round st.at.2 (moment old before.seen) (moment own now.seen)
  waits = st.at.3

  arrived_same : members ≡ st.at.2.group
  arrived_same = members_are ∙ ap (λ (z : Held). z.group) (same_held own (comm_of asked) w st.at.2 y w_is found waits.since.held)

  -- the next one may be made
  pub waiting_may : IsRoundOf name.limits now.seen arrivals.comm arrivals.round members
  waiting_may =
      let round = waiting_round meld name.limits alone (comm_of asked) arrivals.round st.at.2 old before.seen own now.seen waits of.legal in
      subst (λ c. IsRoundOf name.limits now.seen c arrivals.round members) (sym st.at.1)
      (subst (λ ms. IsRoundOf name.limits now.seen (comm_of asked) arrivals.round ms) (sym arrived_same) round)

  module _ (quiet : Bool) (only : IsTrue alone → IsTrue quiet) (after : Sight P) (did : Did quiet [] now.seen after.seen)
      (steps : now.steps ≤ after.steps) where
    waits_on : IsWaiting (frame meld name.limits alone) (comm_of asked) arrivals.round st.at.2 (moment old before.seen) (moment own after.seen)
    waits_on = waiting_on meld name.limits alone (comm_of asked) arrivals.round st.at.2 old before.seen own now.seen waits quiet only after.seen did

    -- more are left
    pub waiting_goes : (next : Arrivals) → next.comm ≡ arrivals.comm → next.round ≡ arrivals.round → AtArrival members declared next after.seen
        → Stands meld alone (local old (view_at name before)) (record { asked = asked; phase = Waiting next; prepared = prepared }) (local own (view_at name after))
    waiting_goes next comm round at =
        record {
          fits = st.fits;
          mine = st.mine;
          onward = omega (arith, st.onward, steps);
          at = (
            st.at.0,
            comm ∙ st.at.1,
            st.at.2,
            subst (λ k. IsWaiting (frame meld name.limits alone) (comm_of asked) k st.at.2 (moment old before.seen) (moment own after.seen)) (sym round) waits_on,
            subst (λ ms. AtArrival ms own.seen next after.seen) arrived_same (subst (λ s. AtArrival members s next after.seen) declared_are at),
          );
        }

    -- who is missing is known from now on
    pub waiting_checks : (missing : Missing) → MissingAre after.seen arrivals.comm arrivals.round members declared missing → IsLegal meld name.limits after.seen
        → IsChecking (frame meld name.limits alone) (comm_of asked) missing after.seen (moment old before.seen) (moment own after.seen)
    waiting_checks missing are legal =
        let there : MissingAre after.seen (comm_of asked) arrivals.round members declared missing =
        subst (λ c. MissingAre after.seen c arrivals.round members declared missing) st.at.1 are in
        record {
          x = st.at.2;
          k = arrivals.round;
          waits = waits_on;
          are = subst (λ ms. MissingAre after.seen (comm_of asked) arrivals.round ms own.seen missing) arrived_same
              (subst (λ s. MissingAre after.seen (comm_of asked) arrivals.round members s missing) declared_are there);
          legal = legal;
          waited = did_none alone after.seen;
        }

    -- it is known who is missing
    pub waiting_ends : (missing : Missing) → MissingAre after.seen arrivals.comm arrivals.round members declared missing → IsLegal meld name.limits after.seen
        → Stands meld alone (local old (view_at name before)) (record { asked = asked; phase = Checking missing; prepared = prepared }) (local own (view_at name after))
    waiting_ends missing are legal =
        record {
          fits = st.fits;
          mine = st.mine;
          onward = omega (arith, st.onward, steps);
          at = (st.at.0, after.seen, waiting_checks missing are legal);
        }

-- its answer, by the revocation
module _ {P : Type 0} (meld : P → P → P) (alone : Bool) (name : Over P) (c k : ℕ) (x : Held) (old : Record) (before : Sight P) (own : Record)
    (earlier : History P) (after : Sight P) (fits : Fits meld name.limits before.seen old)
    (p : IsWaiting (frame meld name.limits alone) c k x (moment old before.seen) (moment own earlier)) (of : IsView meld (view_at name after)) (onward : before.steps ≤ after.steps)
    (wait : Did alone [] earlier after.seen) where
  abbrev asked : Call P
  asked = call.Poll old.number c

  abbrev look : Sight P
  look = record after { seen = p.since.look }

  abbrev awaits : Awaits meld name.limits p.since.look c k own
  awaits = record { fits = p.since.fits; x = x; held = p.since.held; open_is = p.open_is }

  -- no agreement is open
  no_agreement : (reply : Reply P) (new : Record) → reply ≡ Pending → IsAgreement (polled_by old asked) → EndsInMissing meld alone c (local old (view_at name before)) (local new (view_at name after))
  no_agreement reply new is agrees = absurd (subst IsAgreement (barrier_polled meld name.limits alone before.seen p.since.look old own p.since.looked c k awaits) agrees)

  answers_revoked : is_revoked after.seen c ≡ true → (new : Record) → new ≡ closed own c
      → Answered meld alone asked (local old (view_at name before)) (Refused IsRevoked) (local new (view_at name after))
  answers_revoked is new left =
      record {
        ends = inr (polls_revoked meld alone name before look after old own fits p.since.looked c k awaits of onward new
            (did_wait alone [] p.since.look earlier after.seen p.waited wait) is left);
        pending = no_agreement (Refused IsRevoked) new;
      }

  answers_missing : is_revoked after.seen c ≡ false → (missing : Missing) → MissingAre earlier c k x.group own.seen missing → IsLegal meld name.limits earlier
      → (new : Record) → new ≡ missing_leaves own c missing
      → Answered meld alone asked (local old (view_at name before)) (missing_reply missing) (local new (view_at name after))
  answers_missing standing missing are legal new left =
      record {
        ends = inr (by_missing missing (calls_missing_at meld alone name before look after old own fits p.since.looked c k awaits of onward earlier x.group own.seen
            missing new p.waited legal wait standing refl refl are left));
        pending = no_agreement (missing_reply missing) new;
      }
    where
      by_missing : (missing : Missing) → Linearizes meld alone asked (local old (view_at name before)) (missing_reply missing) (local new (view_at name after))
          → HasReplied meld alone asked (local old (view_at name before)) (missing_reply missing) (local new (view_at name after))
      by_missing Nobody called = called
      by_missing Others called = called
      by_missing Declared called = called

-- a call that stands before the load of the revocation
module _ {P : Type 0} (meld : P → P → P) (alone : Bool) (name : Over P) (asked : Call P) (missing : Missing) (prepared : Prepared) (own : Record) (now : Sight P)
    (of : IsView meld (view_at name now)) (old : Record) (before : Sight P)
    (st : Stands meld alone (local old (view_at name before)) (record { asked = asked; phase = Checking missing; prepared = prepared }) (local own (view_at name now))) where
  -- the communicator has a place of its own
  pub checking_within : (w : ℕ) → w ≡ comm_of asked → w < name.limits.comms
  checking_within w is =
      let i = st.at.2 in
      let p = i.waits in
      let fits = fits_stays meld name.limits p.since.look now.seen own (did_prefix alone [] p.since.look now.seen
      (did_wait alone [] p.since.look st.at.1 now.seen p.waited i.waited)) of.legal p.since.fits in
      let within = held_below meld name.limits now.seen own (comm_of asked) i.x fits p.since.held of.legal of.may_open in
      omega (arith, is, within)

  module _ (quiet : Bool) (only : IsTrue alone → IsTrue quiet) (after : Sight P) (of_after : IsView meld (view_at name after)) (did : Did quiet [] now.seen after.seen)
      (went : now.steps ≤ after.steps) (w : ℕ) (w_is : w ≡ comm_of asked) (new : Record) where
    abbrev i : IsChecking (frame meld name.limits alone) (comm_of asked) missing st.at.1 (moment old before.seen) (moment own now.seen)
    i = st.at.2

    onward : before.steps ≤ after.steps
    onward = omega (arith, st.onward, went)

    wait : Did alone [] st.at.1 after.seen
    wait = did_wait alone [] st.at.1 now.seen after.seen i.waited (did_loosely alone quiet only [] now.seen after.seen did)

    named : (reply : Reply P) → Answered meld alone (call.Poll old.number (comm_of asked)) (local old (view_at name before)) reply (local new (view_at name after))
        → Answered meld alone asked (local old (view_at name before)) reply (local new (view_at name after))
    named reply answered = subst (λ (a : Call P). Answered meld alone a (local old (view_at name before)) reply (local new (view_at name after))) (sym st.at.0) answered

    pub checking_revoked : is_revoked after.seen w ≡ true → new ≡ closed own w → Answered meld alone asked (local old (view_at name before)) (Refused IsRevoked) (local new (view_at name after))
    checking_revoked is left =
        named (Refused IsRevoked)
        (answers_revoked meld alone name (comm_of asked) i.k i.x old before own st.at.1 after st.fits i.waits of_after onward wait
        (sym (ap (is_revoked after.seen) w_is) ∙ is) new (left ∙ ap (closed own) w_is))

    pub checking_missing : is_revoked after.seen w ≡ false → (which : Missing) → missing ≡ which → new ≡ missing_leaves own w which
        → Answered meld alone asked (local old (view_at name before)) (missing_reply which) (local new (view_at name after))
    checking_missing standing which is left =
        named (missing_reply which)
        (answers_missing meld alone name (comm_of asked) i.k i.x old before own st.at.1 after st.fits i.waits of_after onward wait
        (sym (ap (is_revoked after.seen) w_is) ∙ standing) which
        (subst (MissingAre st.at.1 (comm_of asked) i.k i.x.group own.seen) is i.are) i.legal new (left ∙ ap (λ c. missing_leaves own c which) w_is))

-- where the communicator isn't revoked, the answer holds when it was found who was missing
pub checking_early : {P : Type 0} (meld : P → P → P) (limits : Limits) (alone quiet : Bool) (only : IsTrue alone → IsTrue quiet) (asked : Call P)
    (missing : Missing) (earlier : History P) (old : Record) (before : History P) (own : Record) (now after : History P)
    → asked ≡ call.Poll old.number (comm_of asked) → (i : IsChecking (frame meld limits alone) (comm_of asked) missing earlier (moment old before) (moment own now))
    → Did quiet [] now after → (w : ℕ) → w ≡ comm_of asked → is_revoked after w ≡ false
    → (which : Missing) → missing ≡ which → (new : Record) → new ≡ missing_leaves own w which
    → IsEndRun meld limits alone (moment old before) asked (missing_reply which) (moment new earlier)
checking_early {P} meld limits alone quiet only asked missing earlier old before own now after polls i did w w_is standing which is new left =
    let c = comm_of asked in
    let p = i.waits in
    let awaits : Awaits meld limits p.since.look c i.k own = record { fits = p.since.fits; x = i.x; held = p.since.held; open_is = p.open_is } in
    let wait = did_wait alone [] earlier now after i.waited (did_loosely alone quiet only [] now after did) in
    let here = sym (ap (is_revoked after) w_is) ∙ standing in
    let seen = ap (λ (r : Record). r.seen) p.since.looked.record_is in
    subst (λ (a : Call P). IsEndRun meld limits alone (moment old before) a (missing_reply which) (moment new earlier)) (sym polls)
    (barrier_waits meld limits alone before p.since.look old own p.since.looked c i.k awaits earlier p.waited i.legal which new
    (standing_before earlier after c (did_prefix alone [] earlier after wait) here)
    (subst (λ s. MissingAre earlier c i.k i.x.group s which) seen (subst (MissingAre earlier c i.k i.x.group own.seen) is i.are))
    (left ∙ ap (λ n. missing_leaves own n which) w_is))

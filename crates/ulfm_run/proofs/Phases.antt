-- What is known of a call behind its look, by what it does next.
use Rattle.std.proofs.Common.{◌≡◌, ◌⊎◌, ℕ, Bool, true, false, List, Some, None, refl, ap, sym, ◌∙◌, subst, inl, inr, IsFalse}
use Rattle.ulfm_model.specs.declared.call.Call.TheVariants as call
use Rattle.ulfm_model.specs.declared.{call.Call.{Call}, call.Request.{Request}, call.Request.TheVariants.{Barrier}, contribution.Offer.{Offer}}
use Rattle.ulfm_model.specs.{Answers.{polled_by}, History.{History}, Records.{Held, Record, held_at, is_shrink}}
use Rattle.ulfm_model.specs.Terms.{comm_of, request_of}
use Rattle.ulfm_words.specs.Steps.{Sight, Over as Named, view_at}
use Rattle.ulfm_steps.specs.declared.{arrivals.Arrivals.{Arrivals}, arrivals.Missing.{Missing}}
use Rattle.ulfm_comm.specs.{Exchange.{StartsWith}, Look.{Looked as HasFound}, Phase.{LeadsTo, StandsAt, is_looking, is_making, next_of}, Requests.{agreement}, Step.{StepSees}}
use Rattle.ulfm_comm.specs.declared.phases.phase.{Phase.{Phase}, Phase.TheVariants.{Over, Begun, Looking, Spreading, Settling, Arriving, Revoking, Asking, Peeking, Marking, Reading, ReadingOn, Spawning, Waiting, Checking}}
use Rattle.ulfm_comm.proofs.{Polls.{polls_it}, WholeCall.{held_before}}
use Rattle.ulfm_comm.specs.Local.{local}
use Rattle.ulfm_comm.specs.Prepared.{Prepared}

seen_same : (own old : Record) (s : List ℕ) → own ≡ record old { seen = s } → own ≡ record old { seen = own.seen }
seen_same own old s is = is ∙ ap (λ w. record old { seen = w }) (sym (ap (λ (r : Record). r.seen) is))

-- an agreement is no barrier
no_barrier : (shrinks : Bool) (k l : ℕ) → agreement shrinks k ≡ Barrier l → ⊥
no_barrier false k l is = cc is
no_barrier true k l is = cc is

-- nor is a start a poll
starts_no_poll : {P : Type 0} (old own : Record) (x : Held) (request other : Request) (offer : Offer P) (asked : Call P) → StartsWith asked own x request offer → polled_by old asked ≡ Some other → ⊥
starts_no_poll old own x request other offer (call.Agree rank c value) starts polls = cc polls
starts_no_poll old own x request other offer (call.Shrink rank c) starts polls = cc polls
starts_no_poll old own x request other offer _ starts polls = starts

-- it reads who has arrived in a barrier, or makes the last load of its poll
abbrev pub IsBarrier : {P : Type 0} → Phase P → Type 0
IsBarrier {P} phase = ((arrivals : Arrivals) × (phase ≡ Waiting arrivals)) ⊎ ((missing : Missing) × (phase ≡ Checking missing))

module _ {P : Type 0} (meld : P → P → P) (alone : Bool) (name : Named P) (asked : Call P) (old : Record) (before : Sight P) (prepared : Prepared) (own : Record) (now : Sight P) (in_use : IsFalse old.refused) where
  -- of the record only what was seen is new
  pub stands_same : (phase : Phase P) → is_looking phase ≡ false → StandsAt meld alone asked (local old (view_at name before)) phase prepared (local own (view_at name now)) → own ≡ record old { seen = own.seen }
  stands_same Over past p = absurd (cc (p.0, in_use))
  stands_same Begun past p = absurd (cc past)
  stands_same Looking past p = absurd (cc past)
  stands_same (Spreading request offer) past p = seen_same own old _ p.0.looked.record_is
  stands_same (Settling request offer) past p = seen_same own old _ p.0.looked.record_is
  stands_same (Arriving round) past p = seen_same own old _ p.0.looked.record_is
  stands_same Revoking past p = seen_same own old _ p.0.looked.record_is
  stands_same Asking past p = seen_same own old _ p.0.looked.record_is
  stands_same (Peeking peek shrinks) past p = seen_same own old _ p.1.since.looked.record_is
  stands_same (Marking marks blocks shrinks) past p = seen_same own old _ p.1.since.looked.record_is
  stands_same (Reading reading shrinks) past p = seen_same own old _ p.1.marked.since.looked.record_is
  stands_same (ReadingOn on made) past p = p.2.own_is ∙ ap (λ (w : Record). record w { seen = own.seen }) p.2.said.marked.since.looked.record_is
  stands_same (Spawning append context reach) past p = p.1.decided.own_is ∙ ap (λ (w : Record). record w { seen = own.seen }) p.1.decided.said.marked.since.looked.record_is
  stands_same (Waiting arrivals) past p = seen_same own old _ p.3.since.looked.record_is
  stands_same (Checking missing) past p = seen_same own old _ p.2.waits.since.looked.record_is

  -- one that comes by a communicator polls a shrink
  pub making_shrinks : (phase : Phase P) → is_making phase ≡ true → StandsAt meld alone asked (local old (view_at name before)) phase prepared (local own (view_at name now)) → is_shrink (polled_by old asked) ≡ true
  making_shrinks (ReadingOn on made) making p =
      ap is_shrink (ap (polled_by old) p.0 ∙ polls_it meld name.limits alone before.seen old p.2.mid (comm_of asked) true made.round p.1 p.2.decided p.2.said.marked)
  making_shrinks (Spawning append context reach) making p =
      let d = p.1.decided in
      ap is_shrink (ap (polled_by old) p.0 ∙ polls_it meld name.limits alone before.seen old d.mid (comm_of asked) true p.1.round p.1.x d.decided d.said.marked)
  making_shrinks _ making p = absurd (cc making)

  -- what an open request on the communicator says of the poll
  open_polls : (c : ℕ) (look : History P) (x : Held) (request : Request) → c ≡ comm_of asked → asked ≡ call.Poll old.number (comm_of asked) → HasFound alone before.seen look old own → held_at own c ≡ Some x → x.request ≡ Some request → polled_by old asked ≡ Some request
  open_polls c look x request c_is polls looked held open_is =
      ap (polled_by old) polls ∙ (ap request_of (held_before meld name.limits alone before.seen look old own looked (comm_of asked) (Some x) (subst (λ w. held_at own w ≡ Some x) c_is held)) ∙ open_is)

  -- the poll of a barrier does nothing else behind its look
  pub barrier_phase : (k : ℕ) → polled_by old asked ≡ Some (Barrier k) → (phase : Phase P) → is_looking phase ≡ false → StandsAt meld alone asked (local old (view_at name before)) phase prepared (local own (view_at name now)) → IsBarrier phase
  barrier_phase k polls (Waiting arrivals) past p = inl (arrivals, refl)
  barrier_phase k polls (Checking missing) past p = inr (missing, refl)
  barrier_phase k polls Over past p = absurd (cc (p.0, in_use))
  barrier_phase k polls Begun past p = absurd (cc past)
  barrier_phase k polls Looking past p = absurd (cc past)
  barrier_phase k polls (Spreading request offer) past p = absurd (starts_no_poll old old p.0.x request (Barrier k) offer asked p.1 polls)
  barrier_phase k polls (Settling request offer) past p = absurd (starts_no_poll old old p.0.x request (Barrier k) offer asked p.1 polls)
  barrier_phase k polls (Arriving round) past p = absurd (cc (sym polls ∙ ap (polled_by old) p.1))
  barrier_phase k polls Revoking past p = absurd (cc (sym polls ∙ ap (polled_by old) p.1))
  barrier_phase k polls Asking past p = absurd (cc (sym polls ∙ ap (polled_by old) p.1))
  barrier_phase k polls (Peeking peek shrinks) past p =
      let m = p.1 in absurd (no_barrier shrinks peek.round k (cc (sym (open_polls (comm_of asked) m.since.look m.x _ refl p.0 m.since.looked m.since.held m.open_is) ∙ polls)))
  barrier_phase k polls (Marking marks blocks shrinks) past p =
      let m = p.1 in absurd (no_barrier shrinks marks.round k (cc (sym (open_polls (comm_of asked) m.since.look m.x _ refl p.0 m.since.looked m.since.held m.open_is) ∙ polls)))
  barrier_phase k polls (Reading reading shrinks) past p =
      let m = p.1.marked in absurd (no_barrier shrinks reading.round k (cc (sym (open_polls (comm_of asked) m.since.look p.1.x _ refl p.0 m.since.looked m.since.held m.open_is) ∙ polls)))
  barrier_phase k polls (ReadingOn on made) past p =
      let is = ap (polled_by old) p.0 ∙ polls_it meld name.limits alone before.seen old p.2.mid (comm_of asked) true made.round p.1 p.2.decided p.2.said.marked in absurd (cc (sym is ∙ polls))
  barrier_phase k polls (Spawning append context reach) past p =
      let d = p.1.decided in
      let is = ap (polled_by old) p.0 ∙ polls_it meld name.limits alone before.seen old d.mid (comm_of asked) true p.1.round p.1.x d.decided d.said.marked in absurd (cc (sym is ∙ polls))

  -- a barrier's poll that makes its last load is one
  pub checking_polls : (missing : Missing) (p : StandsAt meld alone asked (local old (view_at name before)) (Checking missing) prepared (local own (view_at name now))) → polled_by old asked ≡ Some (Barrier p.2.k)
  checking_polls missing p = let w = p.2.waits in open_polls (comm_of asked) w.since.look p.2.x (Barrier p.2.k) refl p.0 w.since.looked w.since.held w.open_is

-- but where it comes by a communicator, a step behind the look leaves what was seen
pub seen_stays : {P : Type 0} (phase : Phase P) → is_looking phase ≡ false → is_making phase ≡ false → (old new : List ℕ) → StepSees phase old new → new ≡ old
seen_stays Begun past other old new is = absurd (cc past)
seen_stays Looking past other old new is = absurd (cc past)
seen_stays (ReadingOn on made) past other old new is = absurd (cc other)
seen_stays _ past other old new is = is

making_past : {P : Type 0} (phase : Phase P) → is_making phase ≡ true → is_looking phase ≡ false
making_past Begun making = absurd (cc making)
making_past Looking making = absurd (cc making)
making_past _ making = refl

-- a call doesn't come back to its look
pub stays_past : {P : Type 0} (phase next : Phase P) → is_looking phase ≡ false → LeadsTo phase (next_of None next) → is_looking next ≡ false
stays_past Begun next past leads = absurd (cc past)
stays_past Looking next past leads = absurd (cc past)
stays_past (ReadingOn on made) next past leads = making_past next leads
stays_past (Spawning append context reach) next past leads = making_past next leads
stays_past _ next past leads = leads

-- nor back from where it comes by a communicator
pub stays_making : {P : Type 0} (phase next : Phase P) → is_making phase ≡ true → LeadsTo phase (next_of None next) → is_making next ≡ true
stays_making (ReadingOn on made) next making leads = leads
stays_making (Spawning append context reach) next making leads = leads
stays_making _ next making leads = absurd (cc making)

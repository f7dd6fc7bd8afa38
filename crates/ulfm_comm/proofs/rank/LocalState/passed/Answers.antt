use Rattle.std.proofs.Common.{◌≡◌, Bool, arith, None, Some, length, filter, min, ap, ap₂, refl, sym, ◌∙◌, subst}
use Rattle.std.specs.List.Sorted.{IsStrictlyIncreasing}
use Rattle.ulfm_model.specs.declared.{call.Call.{Call}, reply.Reply.{Reply}}
use Rattle.ulfm_model.specs.{Answers.{first_refusal}, History.{has}, Records.{Held, Record, held_at}}
use Rattle.ulfm_model.specs.Terms.{comm_of, tests_of}
use Rattle.ulfm_model.specs.Records.{moment}
use Rattle.ulfm_words.specs.Steps.{view_of, Sight, over}
use Rattle.ulfm_comm.specs.declared.phases.phase.Phase.{Phase}
use Rattle.ulfm_comm.specs.{Phase.{Answered, Stands, StandsAt, under_way}, Prepared.{Prepared}, Look.{HasLooked, JustLooked}}
use Rattle.ulfm_comm.proofs.Behind.{ends_behind, goes_behind}
use Rattle.ulfm_comm.proofs.Look.{just_acked, just_acked_all, just_counted, just_listed, just_fits, just_freed, just_passed, own_barrier, own_question, own_revoke, starts_agree}
use Rattle.ulfm_comm.proofs.Look.{starts_shrink}
use Rattle.ulfm_comm.proofs.Holding.{group_rises}
use Rattle.ulfm_comm.proofs.rank.LocalState.passed.Goals as goal
use Rattle.ulfm_comm.proofs.rank.LocalState.passed.Goals.{After-held_comm-x}
use Rattle.ulfm_comm.specs.Local.{Local, frame, local}

-- the communicator of the call
held : (g : _) (c : After-held_comm-x g) → held_at c.args.self.now (comm_of c.args.asked.now) ≡ Some c.held_comm-x.result.now
held g c = ap (held_at c.args.self.now) (sym c.comm_of.ensures) ∙ c.held_comm-x.ensures

held_for : (g : _) (c : After-held_comm-x g) (asked : Call g.row.P.Denot) → c.args.asked.now ≡ asked
    → held_at c.args.self.now (comm_of asked) ≡ Some c.held_comm-x.result.now
held_for g c asked is = ap (λ (a : Call g.row.P.Denot). held_at c.args.self.now (comm_of a)) (sym is) ∙ held g c

-- the record doesn't refuse the call on it
passes : (g : _) (c : After-held_comm-x g) → first_refusal (tests_of c.args.self.now c.held_comm-x.result.now c.args.asked.now) ≡ None
passes g c =
    let first = held g c in
    let second = c.requires.passes.held in
    let same : c.requires.passes.x ≡ c.held_comm-x.result.now = cc (first, second) in
    subst (λ y. first_refusal (tests_of c.args.self.now y c.args.asked.now) ≡ None) same c.requires.passes.passed

-- so the call goes on after its look
abbrev looked : (g : _) (c : After-held_comm-x g) (alone : Bool) (old : Record) (before : Sight g.row.P.Denot)
    → JustLooked g.P.Meld.meld alone c.args.asked.now (local old (view_of g.P.Packed.pack (g.W.Words.name c.args.words.now) before)) (local c.args.self.now (view_of g.P.Packed.pack (g.W.Words.name c.args.words.now) (g.W.Words.sight c.args.pass.now)))
    → HasLooked (frame g.P.Meld.meld (g.W.Words.name c.args.words.now).limits alone) c.args.asked.now (moment old before.seen) (moment c.args.self.now (g.W.Words.sight c.args.pass.now).seen)
looked g c alone old before j =
    just_passed g.P.Meld.meld alone (over g.P.Packed.pack (g.W.Words.name c.args.words.now)) c.args.asked.now old before c.args.self.now
    (g.W.Words.sight c.args.pass.now) j c.requires.of c.held_comm-x.result.now (held g c) (passes g c)

rises : (g : _) (c : After-held_comm-x g) → IsStrictlyIncreasing c.held_comm-x.result.now.group
rises g c =
    let j = c.requires.just in
    group_rises g.P.Meld.meld (g.W.Words.name c.args.words.now).limits (g.W.Words.sight c.args.pass.now).seen c.args.self.now
    (comm_of c.args.asked.now) c.held_comm-x.result.now
    (just_fits g.P.Meld.meld _ (over g.P.Packed.pack (g.W.Words.name c.args.words.now)) c.args.asked.now j.0 j.1 c.args.self.now (g.W.Words.sight c.args.pass.now) j.2
    c.requires.of) (held g c)

module _ {P : Type 0} {meld : P → P → P} {alone : Bool} {asked : Call P} {start now : Local P} where
  -- where it stands then
  stands : {prepared : Prepared} {phase : Phase P} → JustLooked meld alone asked start now → StandsAt meld alone asked start phase prepared now
      → Stands meld alone start (under_way asked phase prepared) now
  stands j at = record { fits = j.fits; mine = j.mine; onward = j.onward; at = at }

  -- a call is answered as it is by its own name
  answers : {same : Call P} {reply : Reply P} {new : Local P} → asked ≡ same → (JustLooked meld alone same start now → Answered meld alone same start reply new)
      → JustLooked meld alone asked start now → Answered meld alone asked start reply new
  answers {same} {reply} {new} is = subst (λ a. JustLooked meld alone a start now → Answered meld alone a start reply new) (sym is)

pub known-requires : goal.known-requires
known-requires g c = subst IsStrictlyIncreasing (sym (c.deref.ensures.value ∙ ap (λ (y : Held). y.group) c.x.view_is))
    (rises g (goal.at.known-requires g c).After-held_comm-x)

pub known-requires-in-FailureGetAcked : goal.known-requires-in-FailureGetAcked
known-requires-in-FailureGetAcked g c = subst IsStrictlyIncreasing (sym (c.deref-in-FailureGetAcked.ensures.value ∙ ap (λ (y : Held). y.group) c.x.view_is))
    (rises g (goal.at.known-requires-in-FailureGetAcked g c).After-held_comm-x)

pub acknowledge_known-requires : goal.acknowledge_known-requires
acknowledge_known-requires g c =
    let at = (goal.at.acknowledge_known-requires g c).After-held_comm-x in
    (c.held_comm-x.result.now, held_for g at _ c.in-Ack.is, rises g at)

pub acknowledge_known-requires-in-FailureAck : goal.acknowledge_known-requires-in-FailureAck
acknowledge_known-requires-in-FailureAck g c =
    let at = (goal.at.acknowledge_known-requires-in-FailureAck g c).After-held_comm-x in
    (c.held_comm-x.result.now, held_for g at _ c.in-FailureAck.is, rises g at)

pub returns-in-GetFailed : goal.returns-in-GetFailed
returns-in-GetFailed g c =
    ends_behind refl (λ cached of. absurd (cc of)) (λ prepared alone old before. answers c.in-GetFailed.is
    (just_counted g.P.Meld.meld alone (over g.P.Packed.pack (g.W.Words.name c.args.words.now)) _ _ old before c.args.self.now (g.W.Words.sight c.args.pass.now) c.requires.of
    c.held_comm-x.result.now (held_for g (goal.at.returns-in-GetFailed g c).After-held_comm-x _ c.in-GetFailed.is) _ (c.known.ensures ∙ ap (λ w. min 1024 (length (filter (has w) c.args.self.now.seen))) (c.deref.ensures.value ∙ ap (λ (y : Held). y.group) c.x.view_is))))

pub returns-in-FailureGetAcked : goal.returns-in-FailureGetAcked
returns-in-FailureGetAcked g c =
    ends_behind refl (λ cached of. absurd (cc of)) (λ prepared alone old before. answers c.in-FailureGetAcked.is
    (just_listed g.P.Meld.meld alone (over g.P.Packed.pack (g.W.Words.name c.args.words.now)) _ _ old before c.args.self.now (g.W.Words.sight c.args.pass.now) c.requires.of
    c.held_comm-x.result.now (held_for g (goal.at.returns-in-FailureGetAcked g c).After-held_comm-x _ c.in-FailureGetAcked.is) _ (c.known-in-FailureGetAcked.ensures ∙ ap₂ (λ m w. min m (length (filter (has w) c.args.self.now.seen))) (ap (λ (y : Held). y.acked) c.x.view_is) (c.deref-in-FailureGetAcked.ensures.value ∙ ap (λ (y : Held). y.group) c.x.view_is))))

pub returns-in-Ack : goal.returns-in-Ack
returns-in-Ack g c =
    ends_behind (ap (λ (w : Record). w.seen) c.acknowledge_known.ensures.kept) (λ cached of. absurd (cc of)) (λ prepared alone old before.
    let at = (goal.at.returns-in-Ack g c).After-held_comm-x in
    answers c.in-Ack.is
    (just_acked g.P.Meld.meld alone (over g.P.Packed.pack (g.W.Words.name c.args.words.now)) _ _ old before c.args.self.now (g.W.Words.sight c.args.pass.now) c.requires.of
    c.held_comm-x.result.now (held_for g at _ c.in-Ack.is) _ _ _ (c.acknowledge_known.ensures.count c.held_comm-x.result.now (held_for g at _ c.in-Ack.is)) c.acknowledge_known.ensures.kept))

pub returns-in-FailureAck : goal.returns-in-FailureAck
returns-in-FailureAck g c =
    ends_behind (ap (λ (w : Record). w.seen) c.acknowledge_known-in-FailureAck.ensures.kept) (λ cached of. absurd (cc of)) (λ prepared alone old before.
    let at = (goal.at.returns-in-FailureAck g c).After-held_comm-x in
    answers c.in-FailureAck.is
    (just_acked_all g.P.Meld.meld alone (over g.P.Packed.pack (g.W.Words.name c.args.words.now)) _ _ old before c.args.self.now (g.W.Words.sight c.args.pass.now) c.requires.of
    c.held_comm-x.result.now (held_for g at _ c.in-FailureAck.is) _ _ (c.acknowledge_known-in-FailureAck.ensures.count c.held_comm-x.result.now (held_for g at _ c.in-FailureAck.is)) c.acknowledge_known-in-FailureAck.ensures.kept))

pub returns-in-Agree : goal.returns-in-Agree
returns-in-Agree g c =
    goes_behind c.requires.passes c.in-Agree.is (omega arith) refl refl (λ cached. tt) (λ cached. tt) (λ prepared alone old before j. stands j (
      looked g (goal.at.returns-in-Agree g c).After-held_comm-x alone old before j,
      starts_agree c.args.asked.now _ _ _ old c.held_comm-x.result.now _ c.in-Agree.is (ap (λ (y : Held). y.next_agreement) c.x.view_is),
    ))

pub returns-in-Shrink : goal.returns-in-Shrink
returns-in-Shrink g c =
    goes_behind c.requires.passes c.in-Shrink.is (omega arith) refl refl (λ cached. tt) (λ cached. tt) (λ prepared alone old before j. stands j (
      looked g (goal.at.returns-in-Shrink g c).After-held_comm-x alone old before j,
      starts_shrink c.args.asked.now _ _ old c.args.self.now _ c.held_comm-x.result.now _ _ c.in-Shrink.is j.looked.record_is c.free_ids.ensures (ap (λ (y : Held). y.next_agreement) c.x.view_is),
    ))

pub returns-in-Barrier : goal.returns-in-Barrier
returns-in-Barrier g c =
    goes_behind c.requires.passes c.in-Barrier.is (omega arith) refl refl (λ cached. tt) (λ cached. tt) (λ prepared alone old before j. stands j (
      looked g (goal.at.returns-in-Barrier g c).After-held_comm-x alone old before j,
      own_barrier c.args.asked.now _ _ old.number j.mine c.in-Barrier.is,
      ap (λ (y : Held). y.next_barrier) c.x.view_is,
    ))

pub returns-in-Revoke : goal.returns-in-Revoke
returns-in-Revoke g c =
    goes_behind c.requires.passes c.in-Revoke.is (omega arith) refl refl (λ cached. tt) (λ cached. tt) (λ prepared alone old before j.
    stands j (looked g (goal.at.returns-in-Revoke g c).After-held_comm-x alone old before j, own_revoke c.args.asked.now _ _ old.number j.mine c.in-Revoke.is))

pub returns-in-IsRevoked : goal.returns-in-IsRevoked
returns-in-IsRevoked g c =
    goes_behind c.requires.passes c.in-IsRevoked.is (omega arith) refl refl (λ cached. tt) (λ cached. tt) (λ prepared alone old before j.
    stands j (looked g (goal.at.returns-in-IsRevoked g c).After-held_comm-x alone old before j, own_question c.args.asked.now _ _ old.number j.mine c.in-IsRevoked.is))

pub returns-in-Free : goal.returns-in-Free
returns-in-Free g c =
    ends_behind (ap (λ (w : Record). w.seen) c.release.ensures) (λ cached of. absurd (cc of)) (λ prepared alone old before.
    let at = (goal.at.returns-in-Free g c).After-held_comm-x in
    answers c.in-Free.is
    (just_freed g.P.Meld.meld alone (over g.P.Packed.pack (g.W.Words.name c.args.words.now)) _ _ old before c.args.self.now (g.W.Words.sight c.args.pass.now) c.requires.of
    c.held_comm-x.result.now (held_for g at _ c.in-Free.is) _
    (subst (λ a. first_refusal (tests_of c.args.self.now c.held_comm-x.result.now a) ≡ None) c.in-Free.is (passes g at)) c.release.ensures))

pub returns-in-Poll : goal.returns-in-Poll
returns-in-Poll g c = c.ready.ensures

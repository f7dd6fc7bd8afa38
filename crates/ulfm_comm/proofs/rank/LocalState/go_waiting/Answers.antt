use Rattle.std.proofs.Common.{◌≡◌, ◌+◌, ◌<◌, ◌≤◌, ℕ, List, [], Some, true, false, refl, ap, sym, ◌∙◌, subst, arith}
use Rattle.ulfm_words.proofs.Trails.{did_prefix}
use Rattle.ulfm_comm.proofs.{Turning.{turn_past}, Wings.{turn_same}}
use Rattle.std.proofs.lemmas.Bool.{false≢true}
use Rattle.ulfm_comm.specs.{Phase.{IsFurther, LeadsTo, Turns, next_step}, Step.{TakesTurn}, StepsLeft.{MakesStep, group_of, steps_left}}
use Rattle.ulfm_comm.specs.declared.{phases.phase.Next.TheVariants.{Goes}, phases.phase.Phase.{Phase}, phases.phase.Phase.TheVariants.{Waiting}}
use Rattle.ulfm_model.specs.Terms.{comm_of}
use Rattle.ulfm_model.specs.Records.{Held, Record, held_at}
use Rattle.ulfm_model.specs.declared.{call.Call.{Call}, limits.Limits.{Limits}, place.Place.TheVariants.{Arrival}}
use Rattle.ulfm_words.specs.Steps.{view_of, Sight, over}
use Rattle.ulfm_steps.specs.{Arriving.{arrivals_left}, Turns.{IsOneStep}}
use Rattle.ulfm_steps.specs.declared.arrivals.Arrivals.{Arrivals}
use Rattle.ulfm_comm.specs.{AlsoLeft.{AlsoSpends, also_left}, Known.{KnowsNext}}
use Rattle.ulfm_comm.proofs.AlsoLeft.{also_checks, also_waits}
use Rattle.ulfm_comm.proofs.Barrier.{waiting_checks, waiting_ends, waiting_goes, waiting_may}
use Rattle.ulfm_comm.proofs.rank.LocalState.go_waiting.Goals as goal
use Rattle.ulfm_comm.proofs.rank.LocalState.go_waiting.Goals.{After-advance, After-deref}
use Rattle.ulfm_comm.specs.Local.{stance, local}
use Rattle.ulfm_comm.specs.Phase.{under_way}
use Rattle.ulfm_comm.specs.Step.{coming}
use Rattle.ulfm_comm.specs.Prepared.{Prepared}

-- one more on both sides
one_more : (after left now most : ℕ) → after + left ≤ now + most → after + (left + 1) ≤ now + (most + 1)
one_more after left now most few = omega arith

-- one more where none is left
one_left : (after now most : ℕ) → after ≤ now + most → after + 1 ≤ now + (most + 1)
one_left after now most few = omega arith

-- none is left
ended : (after most : ℕ) → after + 0 ≤ most → after ≤ most
ended after most few = omega arith

-- a step was made, so that fewer are left
fewer : (after left now most : ℕ) → after + left ≤ now + most → now < after → left < most
fewer after left now most few made = omega arith

-- the last load of a barrier's poll is nearer to its reply than those before it
nearest : 1 < 2
nearest = omega arith

-- the loads of a reading of arrivals, by what the code knows of the communicator
module _ {P : Type 0} (limits : Limits) (own : Record) (asked : Call P) (x : Held) (held : held_at own (comm_of asked) ≡ Some x) (members declared : List ℕ)
    (members_are : members ≡ x.group) (declared_are : declared ≡ own.seen) (arrivals : Arrivals)
    (now after : ℕ) where
  members_now : members ≡ group_of (held_at own (comm_of asked))
  members_now = members_are ∙ sym (ap group_of held)

  waits_on : (next : Arrivals) → after + arrivals_left members declared next ≤ now + arrivals_left members declared arrivals
      → after + steps_left limits own asked (Waiting next) ≤ now + steps_left limits own asked (Waiting arrivals)
  waits_on next few =
      let group = group_of (held_at own (comm_of asked)) in
      one_more after (arrivals_left group own.seen next) now (arrivals_left group own.seen arrivals)
      (subst (λ s. after + arrivals_left group s next ≤ now + arrivals_left group s arrivals) declared_are
      (subst (λ g. after + arrivals_left g declared next ≤ now + arrivals_left g declared arrivals) members_now few))

  waits_over : after ≤ now + arrivals_left members declared arrivals → after + 1 ≤ now + steps_left limits own asked (Waiting arrivals)
  waits_over few =
      let group = group_of (held_at own (comm_of asked)) in
      one_left after now (arrivals_left group own.seen arrivals)
      (subst (λ s. after ≤ now + arrivals_left group s arrivals) declared_are (subst (λ g. after ≤ now + arrivals_left g declared arrivals) members_now few))

-- a load of an arrival is the step that is named
wait_named : {P : Type 0} (arrivals : Arrivals) (rank c member : ℕ) (old new : Sight P) → arrivals.comm ≡ c
    → IsOneStep (Arrival arrivals.comm arrivals.round member) true old new → MakesStep (next_step {P = P} (Waiting arrivals)) rank c old new
wait_named arrivals rank c member old new there one = (arrivals.round, member, subst (λ w. IsOneStep (Arrival w arrivals.round member) true old new) there one)

-- the members that the code reads
members : (g : _) (c : After-deref g) → c.deref.result.now ≡ c.held_comm-x.result.now.group
members g c = c.deref.ensures.value ∙ ap (λ (y : Held). y.group) c.x.view_is

pub advance-requires-clause-round : goal.advance-requires-clause-round
advance-requires-clause-round g c =
    let stands = c.requires.stands.1 in
    waiting_may g.P.Meld.meld (over g.P.Packed.pack (g.W.Words.name c.args.words.now)) c.args.asked.now c.args.arrivals c.requires.stands.0 c.args.self.now
    (g.W.Words.sight c.args.pass.now) c.requires.of
    c.held_comm-x.result.now c.comm_of.result c.held_comm-x.ensures c.comm_of.ensures c.deref.result.now c.failures.result.now
    (members g (goal.at.advance-requires-clause-round g c).After-deref) c.failures.ensures false stands.0 stands.1 stands.2

pub returns-in-None-clause-checks : goal.returns-in-None-clause-checks
returns-in-None-clause-checks g c = λ prepared. tt

pub returns-in-Some-clause-checks : goal.returns-in-Some-clause-checks
returns-in-Some-clause-checks g c = λ prepared alone only old before stands.
    waiting_checks g.P.Meld.meld (over g.P.Packed.pack (g.W.Words.name c.args.words.now)) c.args.asked.now c.args.arrivals prepared c.args.self.now
    (g.W.Words.sight c.args.pass.now) c.requires.of
    c.held_comm-x.result.now c.comm_of.result c.held_comm-x.ensures c.comm_of.ensures c.deref.result.now c.failures.result.now
    (members g (goal.at.returns-in-Some-clause-checks g c).After-deref) c.failures.ensures alone old before stands
    g.W.Words.alone only (g.W.Words.sight c.advance.new.pass) c.advance.ensures.goes.did c.advance.ensures.goes.onward c.in-Some.missing c.in-Some.ensures.are
    c.advance.ensures.goes.of.legal

-- the communicator is held
held : (g : _) (c : After-deref g) → held_at c.args.self.now (comm_of c.args.asked.now) ≡ Some c.held_comm-x.result.now
held g c = ap (held_at c.args.self.now) (sym c.comm_of.ensures) ∙ c.held_comm-x.ensures

-- the loads leave what the rank holds and has seen
waits : (g : _) (c : After-advance g) (phase : Phase g.row.P.Denot) → (g.W.Words.sight c.advance.new.pass).steps + steps_left (g.W.Words.name c.args.words.now).limits c.args.self.now c.args.asked.now phase
    ≤ (g.W.Words.sight c.args.pass.now).steps + steps_left (g.W.Words.name c.args.words.now).limits c.args.self.now c.args.asked.now (Waiting c.args.arrivals)
    → (g.W.Words.sight c.args.pass.now).steps < (g.W.Words.sight c.advance.new.pass).steps
    → (c.args.whole ≡ true → IsFurther (Waiting c.args.arrivals) (Goes phase)) → LeadsTo (Waiting c.args.arrivals) (Goes phase)
    → KnowsNext c.args.self.now c.args.asked.now (g.W.Words.sight c.advance.new.pass).cached (Goes phase)
    → AlsoSpends (also_left (g.W.Words.name c.args.words.now).limits c.args.self.now c.args.asked.now (Waiting c.args.arrivals)) (g.W.Words.name c.args.words.now).limits c.args.asked.now (stance c.args.self.now (g.W.Words.sight c.args.pass.now)) (Goes phase) (stance c.args.self.now (g.W.Words.sight c.advance.new.pass))
    → ((prepared : Prepared) → Turns g.P.Meld.meld g.W.Words.alone (under_way c.args.asked.now (Waiting c.args.arrivals) prepared) (local c.args.self.now (view_of g.P.Packed.pack (g.W.Words.name c.args.words.now) (g.W.Words.sight c.args.pass.now))) (Goes phase) prepared (local c.args.self.now (view_of g.P.Packed.pack (g.W.Words.name c.args.words.now) (g.W.Words.sight c.advance.new.pass))))
    → (prepared : Prepared) → TakesTurn g.P.Meld.meld g.W.Words.alone c.args.whole (under_way c.args.asked.now (Waiting c.args.arrivals) prepared) (local c.args.self.now (view_of g.P.Packed.pack (g.W.Words.name c.args.words.now) (g.W.Words.sight c.args.pass.now))) (coming (Goes phase) prepared) (local c.args.self.now (view_of g.P.Packed.pack (g.W.Words.name c.args.words.now) (g.W.Words.sight c.advance.new.pass)))
waits g c phase spends some further leads knows also turns = λ prepared.
    let goes = c.advance.ensures.goes in
    let now = g.W.Words.sight c.args.pass.now in
    let after = g.W.Words.sight c.advance.new.pass in
    turn_past refl (record { of = goes.of; own = []; did = goes.did; onward = goes.onward; cached = goes.cached })
    (turn_same _ _ _ _ _ (λ w. w) (did_prefix g.W.Words.alone _ _ _ goes.did) goes.caches)
    (λ single. (
      wait_named c.args.arrivals c.args.self.now.number (comm_of c.args.asked.now) _ now after c.requires.stands.1.2.at.1
          (c.advance.ensures.takes.one single),
      fewer after.steps (steps_left (g.W.Words.name c.args.words.now).limits c.args.self.now c.args.asked.now phase) now.steps
          (steps_left (g.W.Words.name c.args.words.now).limits c.args.self.now c.args.asked.now (Waiting c.args.arrivals)) spends some,
    ))
    spends (λ all. also) further goes.did refl (λ known. knows) leads (turns prepared)

pub returns-in-None-clause-turn : goal.returns-in-None-clause-turn
returns-in-None-clause-turn g c =
    let at = (goal.at.returns-in-None-clause-turn g c).After-deref in
    let limits = (g.W.Words.name c.args.words.now).limits in
    let spends = waits_on limits c.args.self.now c.args.asked.now c.held_comm-x.result.now (held g at) c.deref.result.now c.failures.result.now
    (members g at) c.failures.ensures c.args.arrivals _ _ c.advance.new.self c.in-None.ensures.takes.turns in
    waits g (goal.at.returns-in-None-clause-turn g c).After-advance _ spends c.in-None.ensures.takes.some
    (λ whole. absurd (false≢true (sym c.in-None.ensures.done ∙ whole))) refl tt
    (also_waits limits c.args.asked.now c.args.self.now _ _ c.args.arrivals c.advance.new.self spends) (λ prepared alone only old before stands.
    waiting_goes g.P.Meld.meld (over g.P.Packed.pack (g.W.Words.name c.args.words.now)) c.args.asked.now c.args.arrivals prepared c.args.self.now
    (g.W.Words.sight c.args.pass.now) c.requires.of
    c.held_comm-x.result.now c.comm_of.result c.held_comm-x.ensures c.comm_of.ensures c.deref.result.now c.failures.result.now
    (members g at) c.failures.ensures alone old before stands
    g.W.Words.alone only (g.W.Words.sight c.advance.new.pass) c.advance.ensures.goes.did c.advance.ensures.goes.onward c.advance.new.self c.advance.ensures.comm
    c.advance.ensures.round c.in-None.ensures.at)

pub returns-in-Some-clause-turn : goal.returns-in-Some-clause-turn
returns-in-Some-clause-turn g c =
    let at = (goal.at.returns-in-Some-clause-turn g c).After-deref in
    let after = g.W.Words.sight c.advance.new.pass in
    let spends = waits_over (g.W.Words.name c.args.words.now).limits c.args.self.now c.args.asked.now c.held_comm-x.result.now (held g at) c.deref.result.now
    c.failures.result.now (members g at) c.failures.ensures c.args.arrivals _ after.steps (ended after.steps _ c.in-Some.ensures.takes.turns) in
    waits g (goal.at.returns-in-Some-clause-turn g c).After-advance _ spends c.in-Some.ensures.takes.some (λ whole. nearest) refl tt
    (also_checks (g.W.Words.name c.args.words.now).limits c.args.asked.now c.args.self.now _ after c.args.arrivals c.in-Some.missing spends)
    (λ prepared alone only old before stands.
    waiting_ends g.P.Meld.meld (over g.P.Packed.pack (g.W.Words.name c.args.words.now)) c.args.asked.now c.args.arrivals prepared c.args.self.now
    (g.W.Words.sight c.args.pass.now) c.requires.of
    c.held_comm-x.result.now c.comm_of.result c.held_comm-x.ensures c.comm_of.ensures c.deref.result.now c.failures.result.now
    (members g at) c.failures.ensures alone old before stands
    g.W.Words.alone only (g.W.Words.sight c.advance.new.pass) c.advance.ensures.goes.did c.advance.ensures.goes.onward c.in-Some.missing c.in-Some.ensures.are
    c.advance.ensures.goes.of.legal)

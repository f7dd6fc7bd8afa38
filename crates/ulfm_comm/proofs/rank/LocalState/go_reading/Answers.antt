use Rattle.std.proofs.Common.{refl, rules, ◌≡◌, Some, true, false, [], ap, subst, sym, ◌∙◌, arith}
use Rattle.ulfm_words.proofs.Trails.{did_prefix}
use Rattle.ulfm_comm.proofs.{Turning.{turn_past}, Wings.{turn_blocks}}
use Rattle.ulfm_model.specs.{Records.{Held, Record, held_at}, Terms.{comm_of}}
use Rattle.ulfm_steps.specs.Blocks.{AllSet, AreSet}
use Rattle.ulfm_comm.specs.{Known.{KnowsNext}, Phase.{IsFurther, IsPast, NextBelow, Turns}, Requests.{agreement}, Step.{TakesTurn}}
use Rattle.ulfm_comm.specs.StepsLeft.{FewerLeft, Spends, steps_left}
use Rattle.ulfm_model.specs.declared.reply.Reply.TheVariants.{Pending}
use Rattle.ulfm_comm.specs.declared.{phases.phase.Next.{Next}, phases.phase.Next.TheVariants.{Ends}, phases.phase.Phase.TheVariants.{Reading}}
use Rattle.ulfm_comm.proofs.{Known.{agreement_caches, known_next, round_known}, Agreement.{reading_ends, reading_goes, reading_may, reading_pends, reads_named}}
use Rattle.ulfm_comm.proofs.StepsLeft.{reads_fewer, reads_on, reads_spend}
use Rattle.ulfm_comm.proofs.rank.LocalState.go_reading.Goals as goal
use Rattle.ulfm_comm.proofs.rank.LocalState.go_reading.Goals.{After-deref, After-advance}
use Rattle.ulfm_comm.specs.Local.{local}
use Rattle.ulfm_comm.specs.Phase.{under_way}
use Rattle.ulfm_comm.specs.Step.{coming}
use Rattle.ulfm_words.specs.Steps.{view_at, view_of, over}
use Rattle.ulfm_comm.specs.Prepared.{Prepared}

-- the members that the code reads
members : (g : _) (c : After-deref g) → c.deref.result.now ≡ c.held_comm-x.result.now.group
members g c = c.deref.ensures.value ∙ ap (λ (y : Held). y.group) c.x.view_is

pub advance-requires : goal.advance-requires
advance-requires g c =
    let stands = c.requires.stands in
    reading_may g.P.Meld.meld (over g.P.Packed.pack (g.W.Words.name c.args.words.now)) c.args.asked.now c.args.reading c.args.shrinks c.args.prepared.now c.args.self.now
    (g.W.Words.sight c.args.pass.now)
    c.held_comm-x.result.now c.comm_of.result c.held_comm-x.ensures c.comm_of.ensures c.deref.result.now (members g (goal.at.advance-requires g c).After-deref)
    false stands.0 stands.1 stands.2 c.requires.of

pub decided-requires-clause-read : goal.decided-requires-clause-read
decided-requires-clause-read g c =
    let stands = c.requires.stands in (
      stands.0,
      stands.1,
      reading_ends g.P.Meld.meld (over g.P.Packed.pack (g.W.Words.name c.args.words.now)) c.args.asked.now c.args.reading c.args.shrinks c.args.prepared.now c.args.self.now
          (g.W.Words.sight c.args.pass.now)
          c.held_comm-x.result.now c.comm_of.result c.held_comm-x.ensures c.comm_of.ensures c.deref.result.now
          (members g (goal.at.decided-requires-clause-read g c).After-deref) false stands.0 stands.1 stands.2
          g.W.Words.alone (λ here. absurd (cc here)) (g.W.Words.sight c.advance.new.pass) c.advance.ensures.goes.of c.advance.ensures.goes.did
          c.advance.ensures.goes.onward c.advance.new.self c.advance.ensures.comm c.advance.ensures.round c.in-Some-All.all
          (rw c.in-Some-All.field-0-is at c.in-Some-All.ensures.tells),
    )

-- the communicator is held
held : (g : _) (c : After-deref g) → held_at c.args.self.now (comm_of c.args.asked.now) ≡ Some c.held_comm-x.result.now
held g c = ap (held_at c.args.self.now) (sym c.comm_of.ensures) ∙ c.held_comm-x.ensures

-- the steps add nothing; what comes after them leaves the failures that were seen
reads : (g : _) (c : After-advance g) (next : Next g.row.P.Denot) (left : Prepared) (new : Record)
    → (c.args.whole ≡ false → FewerLeft (steps_left (g.W.Words.name c.args.words.now).limits c.args.self.now c.args.asked.now
    (Reading c.args.reading c.args.shrinks)) (g.W.Words.name c.args.words.now).limits new c.args.asked.now next)
    → Spends (steps_left (g.W.Words.name c.args.words.now).limits c.args.self.now c.args.asked.now (Reading c.args.reading c.args.shrinks))
    (g.W.Words.name c.args.words.now).limits new c.args.asked.now next (g.W.Words.sight c.args.pass.now) (g.W.Words.sight c.advance.new.pass)
    → (c.args.whole ≡ true → IsFurther (Reading c.args.reading c.args.shrinks) next) → new.seen ≡ c.args.self.now.seen → IsPast next
    → (AreSet (g.W.Words.sight c.args.pass.now).cached c.args.reading.comm c.args.reading.round c.args.reading.blocks
    → KnowsNext c.args.self.now c.args.asked.now (g.W.Words.sight c.advance.new.pass).cached next)
    → Turns g.P.Meld.meld g.W.Words.alone (under_way c.args.asked.now (Reading c.args.reading c.args.shrinks) c.args.prepared.now) (local c.args.self.now (view_of g.P.Packed.pack (g.W.Words.name c.args.words.now) (g.W.Words.sight c.args.pass.now))) next left (local new (view_of g.P.Packed.pack (g.W.Words.name c.args.words.now) (g.W.Words.sight c.advance.new.pass)))
    → TakesTurn g.P.Meld.meld g.W.Words.alone c.args.whole (under_way c.args.asked.now (Reading c.args.reading c.args.shrinks) c.args.prepared.now) (local c.args.self.now (view_of g.P.Packed.pack (g.W.Words.name c.args.words.now) (g.W.Words.sight c.args.pass.now))) (coming next left) (local new (view_of g.P.Packed.pack (g.W.Words.name c.args.words.now) (g.W.Words.sight c.advance.new.pass)))
reads g c next left new nearer spends further sees leads knows turns =
    let goes = c.advance.ensures.goes in
    let now = g.W.Words.sight c.args.pass.now in
    let stands = c.requires.stands in
    let at = stands.2.at.1 in
    turn_past refl (record { of = goes.of; own = []; did = goes.did; onward = goes.onward; cached = goes.cached })
    (turn_blocks _ _ _ _ _ (λ w. w) (did_prefix g.W.Words.alone _ _ _ goes.did)
    (agreement_caches c.args.self.now c.args.asked.now stands.0.number stands.2.at.0 at.x at.marked.since.held c.args.shrinks c.args.reading.round at.marked.open_is)
    goes.caches)
    (λ single. (
      reads_named c.deref.result.now c.args.reading c.args.shrinks c.args.self.now.number (comm_of c.args.asked.now) now
          (g.W.Words.sight c.advance.new.pass) c.requires.stands.2.at.1.there (c.advance.ensures.takes.one single),
      nearer single,
    ))
    spends (λ never. absurd never) further goes.did sees knows leads turns

pub returns-in-None : goal.returns-in-None
returns-in-None g c =
    let takes = c.in-None.ensures.takes in
    let after = g.W.Words.sight c.advance.new.pass in
    let left = reads_on (g.W.Words.name c.args.words.now).limits c.args.self.now c.args.asked.now c.held_comm-x.result.now
    (held g (goal.at.returns-in-None g c).After-deref) c.args.shrinks c.deref.result.now (members g (goal.at.returns-in-None g c).After-deref)
    c.args.reading c.advance.new.self (g.W.Words.sight c.args.pass.now).steps after.steps takes.turns in
    reads g (goal.at.returns-in-None g c).After-advance _ _ _ (λ single. omega (arith, left, takes.some)) left (search rules) (search rules)
    (search rules) c.in-None.ensures.sets (λ alone only old before stands.
    reading_goes g.P.Meld.meld (over g.P.Packed.pack (g.W.Words.name c.args.words.now)) c.args.asked.now c.args.reading c.args.shrinks c.args.prepared.now c.args.self.now
    (g.W.Words.sight c.args.pass.now)
    c.held_comm-x.result.now c.comm_of.result c.held_comm-x.ensures c.comm_of.ensures c.deref.result.now (members g (goal.at.returns-in-None g c).After-deref)
    alone old before stands
    g.W.Words.alone only (g.W.Words.sight c.advance.new.pass) c.advance.ensures.goes.of c.advance.ensures.goes.did c.advance.ensures.goes.onward
    c.advance.new.self c.advance.ensures.comm c.advance.ensures.round c.in-None.ensures.tells (c.in-None.ensures.half refl))

pub returns-in-Some-Missing : goal.returns-in-Some-Missing
returns-in-Some-Missing g c =
    let name = over g.P.Packed.pack (g.W.Words.name c.args.words.now) in
    let takes = c.in-Some-Missing.ensures.takes in
    let start = g.W.Words.sight c.args.pass.now in
    let after = g.W.Words.sight c.advance.new.pass in
    let at = (goal.at.returns-in-Some-Missing g c).After-deref in
    let own = c.args.self.now in
    let prepared = c.args.prepared.now in
    subst (λ (w : Record). TakesTurn g.P.Meld.meld g.W.Words.alone c.args.whole (under_way c.args.asked.now (Reading c.args.reading c.args.shrinks) prepared) (local own (view_at name start)) (coming (Ends Pending) prepared) (local w (view_at name after)))
    (sym c.await_at.ensures)
    (reads g (goal.at.returns-in-Some-Missing g c).After-advance (Ends Pending) prepared own (λ single. tt)
    (reads_spend (g.W.Words.name c.args.words.now).limits own c.args.asked.now c.held_comm-x.result.now (held g at) c.args.shrinks c.deref.result.now
    (members g at) c.args.reading own (Ends Pending) start after (omega (arith, takes.turns)) tt)
    (λ whole. tt) refl tt (λ known of. absurd (cc of)) (λ alone only old before stands.
    reading_pends g.P.Meld.meld name c.args.asked.now c.args.reading c.args.shrinks prepared own start
    c.held_comm-x.result.now c.comm_of.result c.held_comm-x.ensures c.comm_of.ensures c.deref.result.now
    (members g at) alone old before stands
    g.W.Words.alone only after c.advance.ensures.goes.of c.advance.ensures.goes.did c.advance.ensures.goes.onward
    c.advance.new.self c.advance.ensures.comm c.advance.ensures.round takes.some (rw c.in-Some-Missing.field-0-is at c.in-Some-Missing.ensures.tells)))

-- the round's blocks are all set
known : (g : _) (c : After-advance g) (next : Next g.row.P.Denot) → NextBelow 5 next
    → AllSet (g.W.Words.sight c.advance.new.pass).cached c.advance.new.self.comm c.advance.new.self.round c.deref.result.now
    → KnowsNext c.args.self.now c.args.asked.now (g.W.Words.sight c.advance.new.pass).cached next
known g c next below all =
    let before = (goal.at.After-advance g c).After-deref in
    let at = c.requires.stands.2.at in
    let x = c.held_comm-x.result.now in
    let both : Some x ≡ Some at.1.x = sym (held g before) ∙ at.1.marked.since.held in
    let same : x ≡ at.1.x = cc both in
    let cached = (g.W.Words.sight c.advance.new.pass).cached in
    known_next c.args.self.now c.args.asked.now cached next below
    (round_known c.args.self.now c.args.asked.now c.requires.stands.0.number at.0 x (held g before) c.args.shrinks c.advance.new.self.round
    (ap (λ (z : Held). z.request) same ∙ (at.1.marked.open_is ∙ ap (λ j. Some (agreement c.args.shrinks j)) (sym c.advance.ensures.round)))
    c.advance.new.self.comm (c.advance.ensures.comm ∙ at.1.there) c.deref.result.now (members g before) cached all)

pub returns-in-Some-All : goal.returns-in-Some-All
returns-in-Some-All g c =
    let takes = c.in-Some-All.ensures.takes in
    let after = g.W.Words.sight c.advance.new.pass in
    reads g (goal.at.returns-in-Some-All g c).After-advance _ _ _
    (λ single. reads_fewer (g.W.Words.name c.args.words.now).limits c.args.self.now c.args.asked.now c.held_comm-x.result.now
    (held g (goal.at.returns-in-Some-All g c).After-deref) c.args.shrinks c.deref.result.now (members g (goal.at.returns-in-Some-All g c).After-deref)
    c.args.reading _ _ c.decided.ensures.nearer)
    (reads_spend (g.W.Words.name c.args.words.now).limits c.args.self.now c.args.asked.now c.held_comm-x.result.now
    (held g (goal.at.returns-in-Some-All g c).After-deref) c.args.shrinks c.deref.result.now (members g (goal.at.returns-in-Some-All g c).After-deref)
    c.args.reading _ _ (g.W.Words.sight c.args.pass.now) after (omega (arith, takes.turns)) c.decided.ensures.nearer)
    (λ whole. c.decided.ensures.further) c.decided.ensures.sees c.decided.ensures.past
    (λ are. known g (goal.at.returns-in-Some-All g c).After-advance _ c.decided.ensures.further
    ((rw c.in-Some-All.field-0-is at c.in-Some-All.ensures.sets) are)) (λ alone only old before stands.
    c.decided.ensures.turns alone old before
    (reading_ends g.P.Meld.meld (over g.P.Packed.pack (g.W.Words.name c.args.words.now)) c.args.asked.now c.args.reading c.args.shrinks c.args.prepared.now c.args.self.now
    (g.W.Words.sight c.args.pass.now)
    c.held_comm-x.result.now c.comm_of.result c.held_comm-x.ensures c.comm_of.ensures c.deref.result.now
    (members g (goal.at.returns-in-Some-All g c).After-deref) alone old before stands
    g.W.Words.alone only (g.W.Words.sight c.advance.new.pass) c.advance.ensures.goes.of c.advance.ensures.goes.did c.advance.ensures.goes.onward
    c.advance.new.self c.advance.ensures.comm c.advance.ensures.round c.in-Some-All.all (rw c.in-Some-All.field-0-is at c.in-Some-All.ensures.tells)))

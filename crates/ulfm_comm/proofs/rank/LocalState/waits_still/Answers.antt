use Rattle.std.proofs.Common.{◌≡◌, Some, false, ap, subst, sym, refl, ◌∙◌}
use Rattle.ulfm_model.specs.Records.{Held, Record, held_at}
use Rattle.ulfm_model.specs.declared.reply.Reply.TheVariants.{Pending}
use Rattle.ulfm_words.specs.Steps.{over, view_at, Goes}
use Rattle.ulfm_comm.proofs.Waiting.{goes_none}
use Rattle.ulfm_comm.specs.{Local.{local}, Phase.{Stands, StillStands, Turns, under_way}, StepsLeft.{reads_first}}
use Rattle.ulfm_comm.specs.declared.phases.phase.{Next.TheVariants.{Ends}, Phase.{Phase}, Phase.TheVariants.{Reading}}
use Rattle.ulfm_comm.proofs.Agreement.{reading_may, reading_pends}
use Rattle.ulfm_comm.proofs.rank.LocalState.waits_still.Goals as goal
use Rattle.ulfm_comm.proofs.rank.LocalState.waits_still.Goals.{After-comm_of, After-deref, After-load_missing}

-- the members that the code reads
members : (g : _) (c : After-deref g) → c.deref.result.now ≡ c.held_comm-x.result.now.group
members g c = c.deref.ensures.value ∙ ap (λ (y : Held). y.group) c.x.view_is

-- the communicator is held
held : (g : _) (c : After-deref g) → held_at c.args.self.now c.comm_of.result ≡ Some c.held_comm-x.result.now
held g c = ap (λ (w : Record). held_at w c.comm_of.result) (sym c.take_awaited.ensures) ∙ c.held_comm-x.ensures

-- the call stands before its reading
stood : (g : _) (c : After-comm_of g) → StillStands g.P.Meld.meld (under_way c.args.asked.now (Reading c.in-Reading.reading c.in-Reading.shrinks) c.requires.stands.0)
    (local c.args.self.now (view_at (over g.P.Packed.pack (g.W.Words.name c.args.words.now)) (g.W.Words.sight c.args.pass.now)))
stood g c = subst (λ (phase : Phase g.row.P.Denot). StillStands g.P.Meld.meld (under_way c.args.asked.now phase c.requires.stands.0)
    (local c.args.self.now (view_at (over g.P.Packed.pack (g.W.Words.name c.args.words.now)) (g.W.Words.sight c.args.pass.now)))) c.in-Reading.is c.requires.stands.1

pub held_comm-x-requires : goal.held_comm-x-requires
held_comm-x-requires g c =
    let at = (stood g (goal.at.held_comm-x-requires g c).After-comm_of).2.at.1 in
    (at.x, ap (λ (w : Record). held_at w c.comm_of.result) c.take_awaited.ensures ∙ (ap (held_at c.args.self.now) c.comm_of.ensures ∙ at.marked.since.held))

pub load_missing-requires : goal.load_missing-requires
load_missing-requires g c =
    let at = (goal.at.load_missing-requires g c).After-deref in
    let s = stood g (goal.at.After-deref g at).After-comm_of in
    reading_may g.P.Meld.meld (over g.P.Packed.pack (g.W.Words.name c.args.words.now)) c.args.asked.now c.in-Reading.reading c.in-Reading.shrinks c.requires.stands.0 c.args.self.now
    (g.W.Words.sight c.args.pass.now) c.held_comm-x.result.now c.comm_of.result (held g at) c.comm_of.ensures c.deref.result.now (members g at) false s.0 s.1 s.2 c.requires.of

-- a load at most
went : (g : _) (c : After-load_missing g) → Goes g.P.Meld.meld g.W.Words.alone false (reads_first c.args.phase.now) (view_at (over g.P.Packed.pack (g.W.Words.name c.args.words.now)) (g.W.Words.sight c.args.pass.now)) (view_at (over g.P.Packed.pack (g.W.Words.name c.args.words.now)) (g.W.Words.sight c.load_missing.new.pass))
went g c = subst (λ (phase : Phase g.row.P.Denot). Goes g.P.Meld.meld g.W.Words.alone false (reads_first phase) (view_at (over g.P.Packed.pack (g.W.Words.name c.args.words.now)) (g.W.Words.sight c.args.pass.now)) (view_at (over g.P.Packed.pack (g.W.Words.name c.args.words.now)) (g.W.Words.sight c.load_missing.new.pass)))
    (sym c.in-Reading.is) c.load_missing.ensures.goes

pub returns-in_default-clause-goes : goal.returns-in_default-clause-goes
returns-in_default-clause-goes g c =
    goes_none g.P.Meld.meld g.W.Words.alone (over g.P.Packed.pack (g.W.Words.name c.args.words.now)) (reads_first c.args.phase.now) (g.W.Words.sight c.args.pass.now) c.requires.of

pub returns-in_default-take_awaited-clause-goes : goal.returns-in_default-take_awaited-clause-goes
returns-in_default-take_awaited-clause-goes g c =
    goes_none g.P.Meld.meld g.W.Words.alone (over g.P.Packed.pack (g.W.Words.name c.args.words.now)) (reads_first c.args.phase.now) (g.W.Words.sight c.args.pass.now) c.requires.of

pub returns-then-not-load_missing-clause-goes : goal.returns-then-not-load_missing-clause-goes
returns-then-not-load_missing-clause-goes g c = went g (goal.at.returns-then-not-load_missing-clause-goes g c).After-load_missing

pub returns-clause-goes : goal.returns-clause-goes
returns-clause-goes g c = went g (goal.at.returns-clause-goes g c).After-load_missing

pub returns-clause-pends : goal.returns-clause-pends
returns-clause-pends g c =
    let name = over g.P.Packed.pack (g.W.Words.name c.args.words.now) in
    let asked = c.args.asked.now in
    let own = c.args.self.now in
    let now = g.W.Words.sight c.args.pass.now in
    let after = g.W.Words.sight c.load_missing.new.pass in
    let reading = c.in-Reading.reading in
    let at = (goal.at.returns-clause-pends g c).After-deref in
    let goes = c.load_missing.ensures.goes in
    let further = c.load_missing.ensures.loads c.if-not-load_missing.false in
    let missing = c.load_missing.ensures.missing c.if-not-load_missing.false in
    λ prepared.
    subst (λ (w : Record). Turns g.P.Meld.meld g.W.Words.alone (under_way asked c.args.phase.now prepared) (local own (view_at name now)) (Ends Pending) prepared (local w (view_at name after)))
    (sym (c.await_at.ensures ∙ c.take_awaited.ensures))
    (subst (λ (phase : Phase g.row.P.Denot). Turns g.P.Meld.meld g.W.Words.alone (under_way asked phase prepared) (local own (view_at name now)) (Ends Pending) prepared (local own (view_at name after)))
    (sym c.in-Reading.is)
    (λ alone only old before stands.
    reading_pends g.P.Meld.meld name asked reading c.in-Reading.shrinks prepared own now c.held_comm-x.result.now c.comm_of.result (held g at) c.comm_of.ensures c.deref.result.now (members g at)
    alone old before stands g.W.Words.alone only after goes.of goes.did goes.onward reading refl refl further missing))

use Rattle.std.proofs.Common.{◌≡◌, sym, subst, false}
use Rattle.ulfm_model.specs.Terms.{comm_of}
use Rattle.ulfm_comm.specs.{Local.{local}, Phase.{StillStands, UnderWay, under_way}, Proposals.{Proposes}}
use Rattle.ulfm_comm.specs.declared.phases.phase.Phase.{Phase}
use Rattle.ulfm_comm.specs.declared.phases.phase.Phase.TheVariants.{Spreading, Settling, Marking}
use Rattle.ulfm_words.specs.Steps.{over, view_at, view_of}
use Rattle.ulfm_comm.proofs.Stands.{stands_lasts}
use Rattle.ulfm_comm.proofs.Proposals.{MayOffer, marks_on, may_offer}
use Rattle.ulfm_comm.proofs.rank.LocalState.proposed_by.Goals as goal
use Rattle.ulfm_comm.proofs.rank.LocalState.proposed_by.Goals.{After-comm_of-comm}

-- where the call stands, in the phase that the code found
stands : (g : _) (c : After-comm_of-comm g) (phase : Phase g.row.P.Denot) → c.way.inside.phase ≡ phase
    → StillStands g.P.Meld.meld (under_way c.way.inside.asked phase c.way.inside.prepared) (local c.args.self.now (view_of g.P.Packed.pack (g.W.Words.name c.args._words.now) (g.W.Words.sight c.args._pass.now)))
stands g c phase is =
    let p = c.requires.stood in
    let name = over g.P.Packed.pack (g.W.Words.name c.args._words.now) in
    let now = g.W.Words.sight c.args._pass.now in
    let here : StillStands g.P.Meld.meld c.args.way.now (local c.args.self.now (view_at name now)) = (p.0, p.1, stands_lasts g.P.Meld.meld false name p.0 p.1 c.args.way.now c.args.self.now p.2 now p.3 p.4 c.requires.of) in
    subst (λ (phase : Phase g.row.P.Denot). StillStands g.P.Meld.meld (under_way c.way.inside.asked phase c.way.inside.prepared) (local c.args.self.now (view_at name now))) is
    (subst (λ (doing : UnderWay g.row.P.Denot). StillStands g.P.Meld.meld doing (local c.args.self.now (view_at name now))) (sym c.way.view_is) here)

pub given_to-requires : goal.given_to-requires
given_to-requires g c =
    let s = stands g (goal.at.given_to-requires g c).After-comm_of-comm (Spreading c.in-Spreading.request c.in-Spreading.offer) c.in-Spreading.is in
    let m = may_offer g.P.Meld.meld (g.W.Words.name c.args._words.now).limits false s.0 s.1.seen c.args.self.now (g.W.Words.sight c.args._pass.now).seen c.requires.of.legal c.requires.of.may_open c.way.inside.asked s.2.at.0 in
    let here = subst (MayOffer c.args.self.now) (sym c.comm_of-comm.ensures) m in
    record { held = (here.x, here.held, here.rises, here.few, here.acked) }

pub given_to-requires-in-Settling : goal.given_to-requires-in-Settling
given_to-requires-in-Settling g c =
    let s = stands g (goal.at.given_to-requires-in-Settling g c).After-comm_of-comm (Settling c.in-Settling.request c.in-Settling.offer) c.in-Settling.is in
    let m = may_offer g.P.Meld.meld (g.W.Words.name c.args._words.now).limits false s.0 s.1.seen c.args.self.now (g.W.Words.sight c.args._pass.now).seen c.requires.of.legal c.requires.of.may_open c.way.inside.asked s.2.at.0 in
    let here = subst (MayOffer c.args.self.now) (sym c.comm_of-comm.ensures) m in
    record { held = (here.x, here.held, here.rises, here.few, here.acked) }

pub marked_by-requires-clause-few : goal.marked_by-requires-clause-few
marked_by-requires-clause-few g c =
    let marks = c.in-Marking.marks in
    let s = stands g (goal.at.marked_by-requires-clause-few g c).After-comm_of-comm (Marking marks c.in-Marking.blocks c.in-Marking.shrinks) c.in-Marking.is in
    (marks_on g.P.Meld.meld (g.W.Words.name c.args._words.now).limits false s.0 s.1.seen c.args.self.now (g.W.Words.sight c.args._pass.now).seen c.requires.of.legal c.requires.of.may_open (comm_of c.way.inside.asked) c.in-Marking.shrinks marks c.in-Marking.blocks s.2.at.1 s.2.at.2).0

pub returns-in-Marking-clause-event : goal.returns-in-Marking-clause-event
returns-in-Marking-clause-event g c =
    subst (λ (w : UnderWay g.row.P.Denot). Proposes c.args.self.now w.asked w.phase c.marked_by.result) c.way.view_is
    (subst (λ (p : Phase g.row.P.Denot). Proposes c.args.self.now c.way.inside.asked p c.marked_by.result) (sym c.in-Marking.is) c.marked_by.ensures)

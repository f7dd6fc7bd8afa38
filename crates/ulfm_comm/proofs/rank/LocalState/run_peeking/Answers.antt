use Rattle.std.proofs.Common.{true, refl, subst}
use Rattle.ulfm_words.specs.Steps.{over, view_at}
use Rattle.ulfm_comm.specs.{Local.{local}, Phase.{under_way}, Step.{TakesTurn, coming}}
use Rattle.ulfm_comm.specs.declared.phases.phase.Phase.TheVariants.{Peeking}
use Rattle.ulfm_comm.proofs.Runs.{turn_ends, turn_goes, turn_stands}
use Rattle.ulfm_comm.proofs.rank.LocalState.run_peeking.Goals as goal
use Rattle.ulfm_comm.proofs.rank.LocalState.run_peeking.Goals.{After-go_peeking}
use Rattle.ulfm_comm.specs.Prepared.{unprepared}

-- its turn, where nothing is prepared yet for a communicator that it makes
turn : (g : _) (c : After-go_peeking g) → let name = over g.P.Packed.pack (g.W.Words.name c.args.words.now) in
    TakesTurn g.P.Meld.meld g.W.Words.alone true (under_way c.args.asked.now (Peeking c.args.peek c.args.shrinks) unprepared)
    (local c.args.self.now (view_at name (g.W.Words.sight c.args.pass.now))) (coming c.go_peeking.result c.go_peeking.new.prepared)
    (local c.go_peeking.new.self (view_at name (g.W.Words.sight c.go_peeking.new.pass)))
turn g c =
    let name = over g.P.Packed.pack (g.W.Words.name c.args.words.now) in
    subst (λ prepared. TakesTurn g.P.Meld.meld g.W.Words.alone true (under_way c.args.asked.now (Peeking c.args.peek c.args.shrinks) prepared)
    (local c.args.self.now (view_at name (g.W.Words.sight c.args.pass.now))) (coming c.go_peeking.result c.go_peeking.new.prepared)
    (local c.go_peeking.new.self (view_at name (g.W.Words.sight c.go_peeking.new.pass)))) c.new-prepared.ensures c.go_peeking.ensures

pub run_on-requires-clause-stands : goal.run_on-requires-clause-stands
run_on-requires-clause-stands g c = turn_stands c.requires.stands refl c.in-Goes.is (turn g (goal.at.run_on-requires-clause-stands g c).After-go_peeking)

pub returns-in-Goes : goal.returns-in-Goes
returns-in-Goes g c = turn_goes c.requires.stands refl c.in-Goes.is (turn g (goal.at.returns-in-Goes g c).After-go_peeking) c.run_on.ensures

pub returns-in-Ends : goal.returns-in-Ends
returns-in-Ends g c = turn_ends c.requires.stands refl c.in-Ends.is (turn g (goal.at.returns-in-Ends g c).After-go_peeking)

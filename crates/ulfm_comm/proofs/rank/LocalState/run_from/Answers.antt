use Rattle.std.proofs.Common.{true, refl, sym, subst}
use Rattle.ulfm_words.specs.Steps.{over, view_at}
use Rattle.ulfm_comm.specs.{Local.{local}, Phase.{under_way}, Step.{TakesTurn, coming}}
use Rattle.ulfm_comm.specs.declared.phases.phase.Next.TheVariants.{Ends}
use Rattle.ulfm_comm.proofs.Runs.{turn_ends}
use Rattle.ulfm_comm.proofs.rank.LocalState.run_from.Goals as goal
use Rattle.ulfm_comm.specs.Prepared.{unprepared}

pub returns-in-Settling : goal.returns-in-Settling
returns-in-Settling g c =
    let name = over g.P.Packed.pack (g.W.Words.name c.args.words.now) in
    turn_ends c.requires.stands c.requires.past refl
    (subst (λ phase. TakesTurn g.P.Meld.meld g.W.Words.alone true (under_way c.args.asked.now phase unprepared)
    (local c.args.self.now (view_at name (g.W.Words.sight c.args.pass.now))) (coming (Ends c.go_settling.result) unprepared)
    (local c.go_settling.new.self (view_at name (g.W.Words.sight c.go_settling.new.pass))))
    (sym c.in-Settling.is) (c.go_settling.ensures.turn unprepared true))

use Rattle.std.proofs.Common.{true, refl, subst}
use Rattle.ulfm_comm.specs.Phase.{IsPast}
use Rattle.ulfm_comm.proofs.Runs.{turn_ends, turn_goes, turn_stands}
use Rattle.ulfm_comm.proofs.rank.LocalState.run_agree.Goals as goal
use Rattle.ulfm_comm.specs.Prepared.{unprepared}

pub run_from-requires-clause-of : goal.run_from-requires-clause-of
run_from-requires-clause-of g c = (c.go_spreading.ensures.turn unprepared true).walks.of

pub run_from-requires-clause-stands : goal.run_from-requires-clause-stands
run_from-requires-clause-stands g c = turn_stands c.requires.stands refl c.in-Goes.is (c.go_spreading.ensures.turn unprepared true)

pub run_from-requires-clause-past : goal.run_from-requires-clause-past
run_from-requires-clause-past g c = subst (λ next. IsPast next) c.in-Goes.is (c.go_spreading.ensures.turn unprepared true).leads

pub returns-in-Goes : goal.returns-in-Goes
returns-in-Goes g c = turn_goes c.requires.stands refl c.in-Goes.is (c.go_spreading.ensures.turn unprepared true) c.run_from.ensures

pub returns-in-Ends : goal.returns-in-Ends
returns-in-Ends g c = turn_ends c.requires.stands refl c.in-Ends.is (c.go_spreading.ensures.turn unprepared true)

use Rattle.ulfm_comm.proofs.Resumes.{resumed_run, resumed_stands, resumed_there}
use Rattle.ulfm_comm.proofs.rank.LocalState.run_begun.Goals as goal

pub run_looking-requires-clause-stands : goal.run_looking-requires-clause-stands
run_looking-requires-clause-stands g c = resumed_stands c.requires.of (resumed_there c.requires.stands c.requires.some) c.requires.stands

pub returns : goal.returns
returns g c = resumed_run c.requires.of (resumed_there c.requires.stands c.requires.some) c.requires.stands c.run_looking.ensures

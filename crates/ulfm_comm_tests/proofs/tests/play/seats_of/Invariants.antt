use Rattle.std.proofs.Common.{[]}
use Rattle.std.specs.List.{AllByRecursion}
use Rattle.ulfm_words.specs.Steps.{over}
use Rattle.ulfm_model.specs.Records.{Fits}
use Rattle.ulfm_comm.specs.Counts.{records_of}
use Rattle.ulfm_comm_tests.specs.Playing.{Plays}
use Rattle.ulfm_comm_tests.proofs.tests.play.seats_of.Given as goal

abbrev pub invariant-loop-own : goal.invariant-loop-own
invariant-loop-own g l =
    AllByRecursion (Fits g.P.Meld.meld l.fn.world.limits []) (records_of l.own-iterator.rest.items)
    × AllByRecursion (Plays g.P.Meld.meld (over g.P.Packed.pack l.fn.world) (g.W.Words.sight l.fn.pass)) l.seats.items

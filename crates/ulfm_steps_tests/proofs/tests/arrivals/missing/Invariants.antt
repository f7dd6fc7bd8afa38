use Rattle.std.proofs.Common.{◌-◌, length}
use Rattle.ulfm_words.specs.Steps.{view_of, IsView}
use Rattle.ulfm_steps.specs.Arriving.{AtArrival, asked_before, in_order}
use Rattle.ulfm_steps.specs.Rounds.{IsRoundOf}
use Rattle.ulfm_steps_tests.proofs.tests.arrivals.missing.Given as goal

abbrev pub invariant-loop-missing : goal.invariant-loop-missing
invariant-loop-missing g l = record {
  of : IsView g.P.Meld.meld (view_of g.P.Packed.pack (g.W.Words.name l.words) (g.W.Words.sight l.pass));
  round_of : IsRoundOf (g.W.Words.name l.words).limits (g.W.Words.sight l.pass).seen l.arrivals.comm l.arrivals.round l.group;
  at : AtArrival l.group l.declared l.arrivals (g.W.Words.sight l.pass).seen;
}

abbrev pub decreases-loop-missing : goal.decreases-loop-missing
decreases-loop-missing g l = length (in_order l.group l.declared) - length (asked_before l.group l.declared l.arrivals.others l.arrivals.next)

use Rattle.std.proofs.Common.{◌≡◌, ◌+◌, false, true, length}
use Rattle.std.specs.List.{list_all}
use Rattle.ulfm_model.specs.{History.{has_arrived}}
use Rattle.ulfm_words.specs.Steps.{view_of}
use Rattle.ulfm_steps.specs.{Arriving.{asked_before}, Rounds.{IsRoundOf}}
use Rattle.ulfm_steps.proofs.Going.{Went}
use Rattle.ulfm_steps.proofs.arrivals.arrived_from.Given as goal

abbrev pub invariant-loop-at : goal.invariant-loop-at
invariant-loop-at g l = record {
  went : Went g.P.Meld.meld g.W.Words.alone false (view_of g.P.Packed.pack (g.W.Words.name l.words) (g.W.Words.sight l.initial.pass)) (view_of g.P.Packed.pack (g.W.Words.name l.words) (g.W.Words.sight l.pass));
  round_of : IsRoundOf (g.W.Words.name l.words).limits (g.W.Words.sight l.pass).seen l.comm l.round l.group;
  steps : (g.W.Words.sight l.pass).steps + length (asked_before l.group l.declared l.others l.start) ≡ (g.W.Words.sight l.initial.pass).steps + length (asked_before l.group l.declared l.others l.at);
  arrived : list_all (has_arrived (g.W.Words.sight l.pass).seen l.comm l.round) (asked_before l.group l.declared l.others l.at) ≡ true;
}

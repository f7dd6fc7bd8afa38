use Rattle.std.proofs.Common.{◌≡◌, drop, map}
use Rattle.ulfm_explore.specs.Tellings.{answer_to}
use Rattle.ulfm_explore.specs.Views.{told_of}
use Rattle.ulfm_explore.proofs.telling.Outcomes.print_answer.Given as goal

abbrev pub invariant-loop-outcome : goal.invariant-loop-outcome
invariant-loop-outcome g l =
    (l.text.items ≡ l.fn.text.items)
    × (answer_to l.fn.text.items l.self.program.now l.question l.self.is_whole l.number (drop l.outcome-index (map told_of l.self.shown.now))
    ≡ answer_to l.fn.text.items l.self.program.now l.question l.self.is_whole 1 (map told_of l.self.shown.now))

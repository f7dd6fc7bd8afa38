use Rattle.std.proofs.Common.{◌≡◌, ℕ, ◌+◌, ◌≤◌, List, length, Option, Some}
use Rattle.ulfm_laws.specs.Flags.{flag_meld}
use Rattle.ulfm_model.specs.declared.step_name.StepName.{StepName}
use Rattle.ulfm_words.specs.Steps.{IsView}
use Rattle.ulfm_words.specs.Steps.{view_at}
use Rattle.ulfm_lines.specs.Walked.{IsCountOf}
use Rattle.ulfm_run.specs.Walks.{stage, AreOther, SeatWalks, flag_words}
use Rattle.ulfm_run.proofs.Walking.{to_go}
use Rattle.ulfm_run.proofs.walks.walk_until.Given as goal

abbrev pub invariant-steps : goal.invariant-steps
invariant-steps g l =
    let name = l.fn.world in
    IsView flag_meld (view_at (flag_words name) l.pass) × (names : List (Option StepName)) × IsCountOf (length names) l.made
    × ((most : ℕ) → l.fn.reach.most ≡ Some most → length names ≤ most) × ((n : StepName) → l.fn.reach.name ≡ Some n → AreOther n names)
    × (l.pass.steps ≡ l.initial.pass.steps + length names)
    × SeatWalks name names (stage l.initial.pass l.initial.seat l.initial.teller.text.items) (stage l.pass l.seat l.teller.text.items)

abbrev pub decreases-steps : goal.decreases-steps
decreases-steps g l = to_go l.fn.world.limits l.seat.own l.seat.call

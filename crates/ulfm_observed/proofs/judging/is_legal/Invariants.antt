use Rattle.std.proofs.Common.{drop}
use Rattle.std.specs.Prelude.{map}
use Rattle.ulfm_laws.specs.{Flags.{flag_meld}, declared.flag_and.FlagAnd.{FlagAnd}}
use Rattle.ulfm_judge.specs.Standing.{JudgeStands}
use Rattle.ulfm_model.specs.Traces.{AreLegalAfter, IsLegalTrace, Traced}
use Rattle.ulfm_observed.specs.Stages.{told_of}
use Rattle.ulfm_observed.proofs.judging.is_legal.Given as goal

-- The judge stands for what was said, and what is left has only to be legal after it.
abbrev pub invariant-loop-step : goal.invariant-loop-step
invariant-loop-step g l =
    (now : Traced FlagAnd) × JudgeStands l.judge now
    × (AreLegalAfter flag_meld now (map told_of (drop l.step-index l.steps))
    → IsLegalTrace flag_meld l.fn.limits (map told_of l.steps))

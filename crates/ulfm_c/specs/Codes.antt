-- The code that C sees of an answer: 0, or the number of the refusal.
use Rattle.std.specs.Prelude.{ℤ, pos, Result, Ok, Err}
use Rattle.ulfm_model.specs.Answers.{printed}
use Rattle.ulfm_model.specs.declared.refusal.Refusal.{Refusal}

abbrev pub code : {X : Type 0} → Result X Refusal → ℤ
code (Ok x) = pos 0
code (Err refusal) = pos ((printed refusal).0)

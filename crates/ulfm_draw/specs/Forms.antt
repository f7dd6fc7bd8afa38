-- What the two forms of a picture say of a trace.
use Rattle.std.specs.Prelude.{◌≡◌, ℕ, List, ◌++◌}
use Rattle.ulfm_draw.specs.Markup.{EndsWith, IsWellFormed}
use Rattle.ulfm_trace.specs.{Verdicts.{verdict_text}, declared.verdict.Verdict.{Verdict}}
use Rattle.ulfm_draw.specs.Columns.{own_lines, without_columns}

-- a text form ends with the verdict's line, and without its columns what stands before is the trace, up to its bad line if it has one
pub record IsTextForm (text : List ℕ) (verdict : Verdict) (shown : List ℕ) : Type 0 where
  pub body : List ℕ
  pub told : shown ≡ body ++ verdict_text verdict
  pub back : without_columns body ≡ own_lines verdict text

-- a picture is one element, whose elements are all closed, and its last words are the verdict's
pub record IsPicture (verdict : Verdict) (shown : List ℕ) : Type 0 where
  pub well_formed : IsWellFormed shown
  pub told : EndsWith shown (verdict_text verdict)

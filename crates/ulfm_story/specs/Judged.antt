-- A trace that was read and judged.
use Rattle.std.specs.Prelude.{◌≡◌, ℕ, List, ◌++◌}
use Rattle.ulfm_script.specs.Ends.{IsTextOf, KnownText}
use Rattle.ulfm_trace.specs.declared.verdict.{Verdict.{Verdict}, Verdict.TheVariants.{Legal, Illegal}}
use Rattle.ulfm_trace.specs.Texts.{IsFirstBad, IsLegalText}

-- what the definition says of a text
abbrev pub IsVerdict : List ℕ → Verdict → Type 0
IsVerdict text Legal = IsLegalText text
IsVerdict text (Illegal line why) = IsFirstBad text line why

-- A beginning of a reader's text has this verdict, or all of it: all of it where it is legal.
pub record IsJudged (known : KnownText) (verdict : Verdict) (text : List ℕ) : Type 0 where
  pub begins : (rest : List ℕ) × IsTextOf known (text ++ rest)
  pub whole : verdict ≡ Legal → IsTextOf known text
  pub judged : IsVerdict text verdict

-- A trace that was read, judged and explained.
use Rattle.std.specs.Prelude.{◌≡◌, ◌-◌, ℕ, List}
use Rattle.ulfm_script.specs.Ends.{KnownText}
use Rattle.ulfm_story.specs.Judged.{IsJudged}
use Rattle.ulfm_trace.specs.declared.verdict.{Verdict.{Verdict}, Verdict.TheVariants.{Legal, Illegal}}
use Rattle.ulfm_trace.specs.{Texts.{first_lines}, Verdicts.{verdict_text}}
use Rattle.ulfm_explain.specs.Sheets.{TellsBad}

-- What is told of a text with this verdict: the verdict's line; and where the text is illegal, behind it, lines each of which makes a legal trace in
-- the place of the bad one, and then notes.
abbrev pub IsExplained : List ℕ → Verdict → List ℕ → Type 0
IsExplained text Legal shown = shown ≡ verdict_text Legal
IsExplained text (Illegal line why) shown = TellsBad (first_lines (line - 1) text) (verdict_text (Illegal line why)) shown

-- A beginning of a reader's text was judged and explained, or all of it: all of it where it is legal.
pub record ExplainsText (known : KnownText) (verdict : Verdict) (shown : List ℕ) : Type 0 where
  pub text : List ℕ
  pub judged : IsJudged known verdict text
  pub explained : IsExplained text verdict shown

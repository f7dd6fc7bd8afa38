-- A trace that was read, judged and drawn.
use Rattle.std.specs.Prelude.{◌≡◌, ℕ, ◌-◌, List, [], ◌++◌}
use Rattle.ulfm_script.specs.Ends.{KnownText}
use Rattle.ulfm_story.specs.Judged.{IsJudged}
use Rattle.ulfm_trace.specs.declared.verdict.{Verdict.{Verdict}, Verdict.TheVariants.{Legal, Illegal}}
use Rattle.ulfm_trace.specs.Verdicts.{verdict_text}
use Rattle.ulfm_draw.specs.declared.drawing.{Form.{Form}, Form.TheVariants.{Picture, Text}}
use Rattle.ulfm_draw.specs.{Columns.{lines_taken, without_columns}, Forms.{IsPicture}}

-- the lines that a text form gives back: the whole trace where it is legal, and else the lines before the bad one
abbrev pub given_back : Verdict → List ℕ → List ℕ
given_back Legal text = text
given_back (Illegal line why) text = lines_taken [] (line - 1) text

-- The text was drawn: as a picture that is well-formed and ends with the verdict's line; or in characters, which end with it, and what stands
-- before gives the text back without its columns, byte for byte.
abbrev pub IsDrawn : Form → List ℕ → Verdict → List ℕ → Type 0
IsDrawn Picture text verdict shown = IsPicture verdict shown
IsDrawn (Text looks) text verdict shown =
    (body : List ℕ) × (shown ≡ body ++ verdict_text verdict) × (without_columns body ≡ given_back verdict text)

-- A beginning of a reader's text was judged and drawn, or all of it: all of it where it is legal.
pub record DrawsText (known : KnownText) (form : Form) (verdict : Verdict) (shown : List ℕ) : Type 0 where
  pub text : List ℕ
  pub judged : IsJudged known verdict text
  pub drawn : IsDrawn form text verdict shown

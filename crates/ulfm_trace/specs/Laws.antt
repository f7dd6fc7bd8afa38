-- The laws of texts of traces, as statements: each is what a function of src/laws.rt ensures.
use Rattle.std.specs.Prelude.{◌≡◌, ◌⊎◌, ℕ, ◌-◌, ◌<◌, List}
use Rattle.ulfm_laws.specs.{Flags.{flag_meld}}
use Rattle.ulfm_lines.specs.{LineTexts.{TraceLine}, Stepped.{TraceState}}
use Rattle.ulfm_model.specs.declared.line.{Why.{Why}, Why.TheVariants.{Text}}
use Rattle.ulfm_model.specs.Traces.{IsBad}
use Rattle.ulfm_trace.specs.Texts.{IsFirstBad, IsLegalText, first_lines}

-- A legal text is bad at no line, one that isn't legal isn't without such a line, and none is bad at two lines or for two reasons. The lines before
-- the bad one are a legal text, or there is none before it, and with it they aren't; whole first lines of a legal text are one.
pub record HasOneVerdict (text : List ℕ) : Type 0 where
  pub apart : (number : ℕ) (why : Why) → IsFirstBad text number why → ¬ IsLegalText text
  pub some : ¬ IsLegalText text → ¬ ((number : ℕ) (why : Why) → ¬ IsFirstBad text number why)
  pub one : (n m : ℕ) (why other : Why) → IsFirstBad text n why → IsFirstBad text m other → (n ≡ m) × (why ≡ other)
  pub exact : (n : ℕ) (why : Why) → IsFirstBad text n why → ((n ≡ 1) ⊎ IsLegalText (first_lines (n - 1) text)) × ¬ IsLegalText (first_lines n text)
  pub beginnings : (n : ℕ) → 0 < n → IsLegalText text → IsLegalText (first_lines n text)

-- each text has one verdict; and what a line of the grammar tells is never bad for its text
pub record TextsHaveOneVerdict : Type 0 where
  pub once : (text : List ℕ) → HasOneVerdict text
  pub of_grammar : (now : TraceState) (group : List ℕ) (line : TraceLine) → ¬ IsBad flag_meld now group line Text

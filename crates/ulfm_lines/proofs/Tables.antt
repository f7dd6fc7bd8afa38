-- Names, looked up one after another.
use Rattle.std.proofs.Common.{◌≡◌, ℕ, suc, ◌+◌, ◌<◌, List, [], ◌∷◌, length, drop, get_or, Bool, false, cond, if◌then◌else◌, Result, Ok, Err, refl, sym, ap, ◌∙◌, add-one}
use Rattle.std.proofs.Math.Seq.{drop-cons}
use Rattle.std.specs.{Prelude.{◌&&◌, ◌==◌}, Str.{bytes_eq}}
use Rattle.ulfm_model.specs.Answers.{printed}
use Rattle.ulfm_model.specs.declared.{refusal.Refusal.{Refusal}, step_name.StepName.{StepName}}
use Rattle.ulfm_script.specs.declared.line_kind.LineKind.{LineKind}
use Rattle.ulfm_script.specs.declared.line_kind.LineKind.TheVariants.{Step, Words}
use Rattle.ulfm_lines.specs.{LineReading.{or_refusal}, StepNames.{step_text}}

-- the step, where the word is its name
abbrev pub or_name : List ℕ → StepName → Result StepName LineKind → Result StepName LineKind
or_name word name other = if bytes_eq word (step_text name) then Ok name else other

-- the first of these steps whose name a word is
abbrev pub first_name : List StepName → List ℕ → Result StepName LineKind
first_name [] word = Err Step
first_name (name ∷ names) word = or_name word name (first_name names word)

-- the first of these refusals that has the number and the name
abbrev pub first_refusal : List Refusal → ℕ → List ℕ → Result Refusal LineKind
first_refusal [] number name = Err Words
first_refusal (one ∷ refusals) number name = or_refusal number name one (first_refusal refusals number name)

-- a test that failed leaves the other value
otherwise : {A : Type 0} (b : Bool) (x y : A) → b ≡ false → cond b x y ≡ y
otherwise b x y e = rw e refl

-- a step whose name a word isn't is passed over
pub passed_name : (names : List StepName) (i : ℕ) (none : StepName) (word shown : List ℕ) (found : Result StepName LineKind) (same : Bool)
    → i < length names → shown ≡ step_text (get_or names i none) → same ≡ bytes_eq word shown → same ≡ false
    → first_name (drop i names) word ≡ found → first_name (drop (i + 1) names) word ≡ found
passed_name names i none word shown found same lt is test other first =
    let name = get_or names i none in
    let no : bytes_eq word (step_text name) ≡ false = ap (bytes_eq word) (sym is) ∙ sym test ∙ other in
    let step : first_name (name ∷ drop (suc i) names) word ≡ found =
    ap (λ (l : List StepName). first_name l word) (sym (drop-cons names i none lt)) ∙ first in
    let kept : first_name (drop (suc i) names) word ≡ found =
    sym (otherwise (bytes_eq word (step_text name)) (Ok name) (first_name (drop (suc i) names) word) no) ∙ step in
    rw add-one kept

-- whether a refusal has this number and this name
abbrev pub is_named : Refusal → ℕ → List ℕ → Bool
is_named one number name = (number == (printed one).0) && bytes_eq name (printed one).1

-- a refusal with another number or name is passed over
pub passed_refusal : (refusals : List Refusal) (i : ℕ) (none : Refusal) (number : ℕ) (name : List ℕ) (found : Result Refusal LineKind) (same : Bool)
    → i < length refusals → same ≡ is_named (get_or refusals i none) number name → same ≡ false
    → first_refusal (drop i refusals) number name ≡ found → first_refusal (drop (i + 1) refusals) number name ≡ found
passed_refusal refusals i none number name found same lt test other first =
    let one = get_or refusals i none in
    let no : is_named one number name ≡ false = sym test ∙ other in
    let step : first_refusal (one ∷ drop (suc i) refusals) number name ≡ found =
    ap (λ (l : List Refusal). first_refusal l number name) (sym (drop-cons refusals i none lt)) ∙ first in
    let kept : first_refusal (drop (suc i) refusals) number name ≡ found =
    sym (otherwise (is_named one number name) (Ok one) (first_refusal (drop (suc i) refusals) number name) no) ∙ step in
    rw add-one kept

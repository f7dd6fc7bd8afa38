-- How an option that takes no value is read.
use Rattle.std.proofs.Common.{◌≡◌, ◌≢◌, ℕ, Bool, true, false, List, Option, Some, None, Result, Ok, Err, refl, sym, ap, codes}
use Rattle.std.specs.{Option.{option_map_or}, Str.{bytes_eq}}
use Rattle.std.specs.Str.Parse.{ParsesBool, true_text}
use Rattle.std.proofs.lemmas.Slice.Eq.{bytes_eq-Decides}
use Rattle.clap.specs.Matches.{TriesOne}

-- whether the option is given, by its text
abbrev pub says_true : Option (List ℕ) → Bool
says_true given = option_map_or (λ text. bytes_eq text (codes "true")) given false

-- whether it is, as it was read
abbrev pub is_true : {E : Type 0} → Result (Option Bool) E → Bool
is_true (Ok (Some b)) = b
is_true (Ok None) = false
is_true (Err e) = false

false_by : (b : Bool) → (b ≡ true → ⊥) → b ≡ false
false_by true no_truth = absurd (no_truth refl)
false_by false no_truth = refl

not_true : (t : List ℕ) → t ≢ true_text → bytes_eq t true_text ≡ false
not_true t other = false_by (bytes_eq t true_text) (λ e. other ((bytes_eq-Decides t true_text).0 e))

-- a text that was read as a truth value says what was read
read_is : (E : Type 0) (t : List ℕ) (r : Result (Option Bool) E) → TriesOne (λ bs (x : Result Bool E). ParsesBool bs x) t r → is_true r ≡ bytes_eq t true_text
read_is E t (Ok (Some true)) is = sym (ap (λ x. bytes_eq x true_text) is)
read_is E t (Ok (Some false)) is = sym (ap (λ x. bytes_eq x true_text) is)
read_is E t (Ok None) is = absurd is
read_is E t (Err e) is = sym (not_true t is.0)

-- an option that is read as a truth value is given exactly where it says so
pub flag_is : (E : Type 0) (given : Option (List ℕ)) (r : Result (Option Bool) E) → (given ≡ None → r ≡ Ok None)
    → ((t : List ℕ) → given ≡ Some t → TriesOne (λ bs (x : Result Bool E). ParsesBool bs x) t r) → is_true r ≡ says_true given
flag_is E None r none value = ap is_true (none refl)
flag_is E (Some t) r none value = read_is E t r (value t refl)

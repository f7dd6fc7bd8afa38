-- Words that are put into a line are read from it, and those that are read stand in it.
use Rattle.std.proofs.Common.{◌≡◌, ◌≢◌, ℕ, ◌^◌, ◌<◌, List, [], ◌∷◌, ◌++◌, length, Option, Some, None, Result, Ok, Err, Bool, true, false, cond, refl, sym, ap, ◌∙◌, append_assoc, inl, inr, arith}
use Rattle.std.specs.{Prelude.{◌==◌}, List.{AllByRecursion}, Fmt.{decimal}}
use Rattle.std.proofs.lemmas.{Bool.{ne_eqb, cases_eq, eq-eqb}, List.{append-nil}, Fmt.{digits_decimal, decimal_nonempty}}
use Rattle.ulfm_laws.specs.declared.flag_and.FlagAnd.{FlagAnd}
use Rattle.ulfm_script.specs.declared.line_kind.LineKind.{LineKind}
use Rattle.ulfm_script.specs.declared.line_kind.LineKind.TheVariants.{Words}
use Rattle.ulfm_script.specs.{Digits.{flag_text, spelled_flag}, Steps.{◌>>=◌}, Words.{word_from, first_word, next_word, if_last, one_of, two_of, three_of, four_of}}
use Rattle.ulfm_script.proofs.{Hexadecimal.{spelled_few, spelled_free}, Numerals.{AreDigits, own}}

-- a text that can be a word
pub record IsWord (text : List ℕ) : Type 0 where
  pub free : AllByRecursion (λ x. x ≢ 32) text
  pub some : 0 < length text

digits_free : (ds : List ℕ) → AreDigits ds → AllByRecursion (λ x. x ≢ 32) ds
digits_free [] h = tt
digits_free (c ∷ cs) h = ((λ e. omega (arith, h.0, e)), digits_free cs h.1)

-- a decimal number can be a word
pub decimal_is_word : (n : ℕ) → n < 2 ^ 64 → IsWord (decimal n)
decimal_is_word n h = record { free = digits_free (decimal n) (digits_decimal own n h); some = decimal_nonempty n h }

-- a flag can be a word
pub spelled_is_word : (padded : Bool) (flag : FlagAnd) → IsWord (spelled_flag padded flag)
spelled_is_word padded flag = record { free = spelled_free padded flag; some = (spelled_few padded flag).0 }

pub flag_is_word : (flag : FlagAnd) → IsWord (flag_text flag)
flag_is_word flag = spelled_is_word false flag

abbrev parts : List ℕ → Option (List ℕ) → List ℕ × Option (List ℕ)
parts word rest = (word, rest)

pub word_before : (front word rest : List ℕ) → AllByRecursion (λ x. x ≢ 32) word → word_from front (word ++ 32 ∷ rest) ≡ (front ++ word, Some rest)
word_before front [] rest h = ap (λ (t : List ℕ). parts t (Some rest)) (sym (append-nil front))
word_before front (x ∷ xs) rest h = rw (ne_eqb x 32 h.0) (word_before (front ++ x ∷ []) xs rest h.1 ∙ ap (λ (t : List ℕ). parts t (Some rest)) (append_assoc front (x ∷ []) xs))

word_alone : (front word : List ℕ) → AllByRecursion (λ x. x ≢ 32) word → word_from front word ≡ (front ++ word, None)
word_alone front [] h = ap (λ (t : List ℕ). parts t None) (sym (append-nil front))
word_alone front (x ∷ xs) h = rw (ne_eqb x 32 h.0) (word_alone (front ++ x ∷ []) xs h.1 ∙ ap (λ (t : List ℕ). parts t None) (append_assoc front (x ∷ []) xs))

not_empty : (word : List ℕ) → IsWord word → length word ≢ 0
not_empty word h e = omega (arith, h.some, e)

-- the next word, where more stand behind it
pub next_before : (word rest : List ℕ) → IsWord word → next_word (Some (word ++ 32 ∷ rest)) ≡ Ok (word, Some rest)
unfolding next_word
next_before word rest h = rw (word_before [] word rest h.free, ne_eqb (length word) 0 (not_empty word h)) refl

-- the next word, where it is the last
pub next_alone : (word : List ℕ) → IsWord word → next_word (Some word) ≡ Ok (word, None)
unfolding next_word
next_alone word h = rw (word_alone [] word h.free, ne_eqb (length word) 0 (not_empty word h)) refl

-- one word that stands alone is read
pub one_again : (a : List ℕ) → IsWord a → one_of (Some a) ≡ Ok a
unfolding one_of
one_again a h = rw (next_alone a h) refl

-- two words with a space between them are read
pub two_again : (a b : List ℕ) → IsWord a → IsWord b → two_of (Some (a ++ 32 ∷ b)) ≡ Ok (a, b)
unfolding two_of
two_again a b h k = rw (next_before a b h, one_again b k) refl

-- so are three words
pub three_again : (a b c : List ℕ) → IsWord a → IsWord b → IsWord c → three_of (Some (a ++ 32 ∷ (b ++ 32 ∷ c))) ≡ Ok (a, b, c)
unfolding three_of
three_again a b c h k l = rw (next_before a (b ++ 32 ∷ c) h, two_again b c k l) refl

-- so are four words
pub four_again : (a b c d : List ℕ) → IsWord a → IsWord b → IsWord c → IsWord d → four_of (Some (a ++ 32 ∷ (b ++ 32 ∷ (c ++ 32 ∷ d)))) ≡ Ok (a, b, c, d)
unfolding four_of
four_again a b c d h k l m = rw (next_before a (b ++ 32 ∷ (c ++ 32 ∷ d)) h, three_again b c d k l m) refl

-- a word and the text behind it, put together again
abbrev pub joined : List ℕ → Option (List ℕ) → List ℕ
joined word None = word
joined word (Some rest) = word ++ 32 ∷ rest

joined_from : (front text : List ℕ) → joined (word_from front text).0 (word_from front text).1 ≡ front ++ text
joined_from front [] = sym (append-nil front)
joined_from front (x ∷ xs) = elim (cases_eq x 32) [
  | inl e ↦ rw (eq-eqb x 32 e) (ap (λ (y : ℕ). front ++ y ∷ xs) (sym e))
  | inr n ↦ rw (ne_eqb x 32 n) (joined_from (front ++ x ∷ []) xs ∙ append_assoc front (x ∷ []) xs)
]

-- the first word and the text behind it make up the text
pub joined_word : (text : List ℕ) → joined (first_word text).0 (first_word text).1 ≡ text
joined_word text = joined_from [] text

-- a step that didn't stop
pub step_found : {A B : Type 0} (r : Result A LineKind) (f : A → Result B LineKind) (y : B) → (r >>= f) ≡ Ok y → (x : A) × (r ≡ Ok x) × (f x ≡ Ok y)
step_found (Ok x) f y e = (x, refl, e)
step_found (Err kind) f y e = absurd cc

-- what was read
abbrev pub done : {A : Type 0} → A → Result A LineKind
done x = Ok x

-- two values that were both read are one
pub same_done : {A : Type 0} (x y : A) → done x ≡ Ok y → x ≡ y
same_done x y e = cc

passed_word : (b : Bool) (x y : List ℕ × Option (List ℕ)) → cond b (Err Words) (done x) ≡ Ok y → x ≡ y
passed_word true x y e = absurd cc
passed_word false x y e = same_done x y e

-- the next word that was read stands there
pub next_found : (text : Option (List ℕ)) (x : List ℕ × Option (List ℕ)) → next_word text ≡ Ok x → text ≡ Some (joined x.0 x.1)
unfolding next_word
next_found None x e = absurd cc
next_found (Some text) x e =
    let is = passed_word (length (first_word text).0 == 0) (first_word text) x e in
    ap (λ (t : List ℕ). Some t) (sym (joined_word text) ∙ ap (λ (y : List ℕ × Option (List ℕ)). joined y.0 y.1) is)

-- nothing stands behind what was read
pub ended_found : {A : Type 0} (text : Option (List ℕ)) (x y : A) → if_last text x ≡ Ok y → (text ≡ None) × (x ≡ y)
ended_found None x y e = (refl, same_done x y e)
ended_found (Some text) x y e = absurd cc

-- one word that was read stands alone
pub one_found : (text : Option (List ℕ)) (a : List ℕ) → one_of text ≡ Ok a → text ≡ Some a
unfolding one_of
one_found text a e =
    let first = step_found (next_word text) (λ x. if_last x.1 x.0) a e in
    let last = ended_found first.0.1 first.0.0 a first.2 in
    next_found text first.0 first.1 ∙ ap (λ (o : Option (List ℕ)). Some (joined first.0.0 o)) last.0 ∙ ap (λ (t : List ℕ). Some t) last.1

-- two words that were read stand with a space between them
pub two_found : (text : Option (List ℕ)) (x : List ℕ × List ℕ) → two_of text ≡ Ok x → text ≡ Some (x.0 ++ 32 ∷ x.1)
unfolding two_of
two_found text x e =
    let first = step_found (next_word text) (λ a. one_of a.1 >>= λ b. Ok (a.0, b)) x e in
    let rest = step_found (one_of first.0.1) (λ b. done (first.0.0, b)) x first.2 in
    let is = same_done (first.0.0, rest.0) x rest.2 in
    next_found text first.0 first.1 ∙ ap (λ (o : Option (List ℕ)). Some (joined first.0.0 o)) (one_found first.0.1 rest.0 rest.1) ∙ ap (λ (y : List ℕ × List ℕ). Some (y.0 ++ 32 ∷ y.1)) is

-- so do three words
pub three_found : (text : Option (List ℕ)) (x : List ℕ × List ℕ × List ℕ) → three_of text ≡ Ok x → text ≡ Some (x.0 ++ 32 ∷ (x.1 ++ 32 ∷ x.2))
unfolding three_of
three_found text x e =
    let first = step_found (next_word text) (λ a. two_of a.1 >>= λ b. Ok (a.0, b.0, b.1)) x e in
    let rest = step_found (two_of first.0.1) (λ b. done (first.0.0, b.0, b.1)) x first.2 in
    let is = same_done (first.0.0, rest.0.0, rest.0.1) x rest.2 in
    next_found text first.0 first.1 ∙ ap (λ (o : Option (List ℕ)). Some (joined first.0.0 o)) (two_found first.0.1 rest.0 rest.1) ∙ ap (λ (y : List ℕ × List ℕ × List ℕ). Some (y.0 ++ 32 ∷ (y.1 ++ 32 ∷ y.2))) is

-- so do four words
pub four_found : (text : Option (List ℕ)) (x : List ℕ × List ℕ × List ℕ × List ℕ) → four_of text ≡ Ok x → text ≡ Some (x.0 ++ 32 ∷ (x.1 ++ 32 ∷ (x.2 ++ 32 ∷ x.3)))
unfolding four_of
four_found text x e =
    let first = step_found (next_word text) (λ a. three_of a.1 >>= λ b. Ok (a.0, b.0, b.1, b.2)) x e in
    let rest = step_found (three_of first.0.1) (λ b. done (first.0.0, b.0, b.1, b.2)) x first.2 in
    let is = same_done (first.0.0, rest.0.0, rest.0.1, rest.0.2) x rest.2 in
    next_found text first.0 first.1 ∙ ap (λ (o : Option (List ℕ)). Some (joined first.0.0 o)) (three_found first.0.1 rest.0 rest.1) ∙ ap (λ (y : List ℕ × List ℕ × List ℕ × List ℕ). Some (y.0 ++ 32 ∷ (y.1 ++ 32 ∷ (y.2 ++ 32 ∷ y.3)))) is

-- The first lines of a text, byte for byte.
use Rattle.std.proofs.Common.{◌≡◌, ℕ, zero, suc, ◌+◌, ◌-◌, ◌<◌, ◌==◌, Bool, true, false, List, [], ◌∷◌, ◌++◌, length, take, drop, get_or, refl, sym, ap, ◌∙◌, add-one, arith}
use Rattle.std.proofs.lemmas.List.{append-nil}
use Rattle.std.proofs.Math.Seq.{drop-length, take-length}
use Rattle.std.specs.Prelude.{if◌then◌else◌}
use Rattle.ulfm_trace.specs.Texts.{first_lines}

-- the lines of nothing
lines_of_none : (n : ℕ) → first_lines n [] ≡ []
lines_of_none zero = refl
lines_of_none (suc n) = refl

-- what is left behind a first byte
behind_byte : (n x : ℕ) (xs : List ℕ) (is : Bool) → (if is then first_lines n xs else first_lines (suc n) xs) ≡ first_lines (if is then n else suc n) xs
behind_byte n x xs true = refl
behind_byte n x xs false = refl

-- one byte of the first lines more
one_more : (text : List ℕ) (i n : ℕ) → i < length text → take i text ++ first_lines (suc n) (drop i text)
    ≡ take (suc i) text ++ first_lines (if get_or text i 0 == 10 then n else suc n) (drop (suc i) text)
one_more [] i n less = absurd (omega (arith, less))
one_more (x ∷ xs) zero n less = ap (λ (t : List ℕ). x ∷ t) (behind_byte n x xs (x == 10))
one_more (x ∷ xs) (suc i) n less = ap (λ (t : List ℕ). x ∷ t) (one_more xs i n (omega (arith, less)))

-- the same, where some lines are left
pub byte_more : (text all : List ℕ) (i left less : ℕ) → i < length text → 0 < left → less ≡ (if get_or text i 0 == 10 then left - 1 else left)
    → all ≡ take i text ++ first_lines left (drop i text) → all ≡ take (i + 1) text ++ first_lines less (drop (i + 1) text)
byte_more text all i zero less within some is so = absurd (omega (arith, some))
byte_more text all i (suc n) less within some is so =
    let same : suc n - 1 ≡ n = omega arith in
    let less_is : less ≡ (if get_or text i 0 == 10 then n else suc n) = is ∙ ap (λ m. if get_or text i 0 == 10 then m else suc n) same in
    rw add-one (so ∙ one_more text i n within ∙ ap (λ m. take (suc i) text ++ first_lines m (drop (suc i) text)) (sym less_is))

-- the text has no more bytes
pub all_lines : (text all : List ℕ) (i left : ℕ) → i ≡ length text → all ≡ take i text ++ first_lines left (drop i text) → text ≡ all
all_lines text all i left e so =
    let taken : take i text ≡ text = ap (λ m. take m text) e ∙ take-length text in
    let gone : drop i text ≡ [] = ap (λ m. drop m text) e ∙ drop-length text in
    sym (so ∙ ap (λ (t : List ℕ). t ++ first_lines left (drop i text)) taken ∙ ap (λ (t : List ℕ). text ++ t) (ap (first_lines left) gone ∙ lines_of_none left) ∙ append-nil text)

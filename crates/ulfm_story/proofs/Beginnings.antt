-- Beginnings of a reader's text, and lines taken off a text.
use Rattle.std.proofs.Common.{◌≡◌, ◌∙◌, ℕ, ◌+◌, ◌<◌, ◌≤◌, nat_le, arith, Bool, true, false, List, [], ◌∷◌, ◌++◌, length, take, drop, Option, Some, None, refl, sym, ap, subst, append_assoc, append-nil}
use Rattle.std.proofs.lemmas.{Bool.{leb-true}, List.{length-take, take_all, take-append-drop, take-append-le}}
use Rattle.std.specs.Io.KnownBytes.{Consumes, IsAtEnd, Keeps}
use Rattle.ulfm_script.specs.Ends.{IsTextOf, KnownText}
use Rattle.ulfm_script.proofs.{ByteLemmas.{consumes_keeps, consumes_then}, RunLemmas.{whole_text}}
use Rattle.ulfm_story.specs.Texts.{BeginsUnread}

-- what was taken begins the text
pub text_of : (a b : KnownText) (done : List ℕ) → Consumes a b done → (rest : List ℕ) × IsTextOf a (done ++ rest)
text_of None b done h = ([], tt)
text_of (Some xs) None done h = absurd h
text_of (Some xs) (Some ys) done h = (ys, sym h)

-- all of a text was taken
pub all_of : (known b c : KnownText) (done : List ℕ) → Consumes known b done → Keeps b c → IsAtEnd c → BeginsUnread known true done
all_of known b c done q k z =
    let t = whole_text known c done (consumes_keeps known b c done q k) z in
    record { begins = ([], subst (λ (xs : List ℕ). IsTextOf known xs) (sym (append-nil done)) t); whole = λ e. t }

-- what was taken, and then so many bytes of what was taken next, begin the text
pub part_of : (known b c : KnownText) (done more : List ℕ) (n : ℕ) → Consumes known b done → Consumes b c more → BeginsUnread known false (done ++ take n more)
part_of known b c done more n q r =
    let t = text_of known c (done ++ more) (consumes_then known b c done more q r) in
    let same : (done ++ more) ++ t.0 ≡ (done ++ take n more) ++ (drop n more ++ t.0) =
    ap (λ (xs : List ℕ). (done ++ xs) ++ t.0) (sym (take-append-drop n more)) ∙ ap (λ (xs : List ℕ). xs ++ t.0) (sym (append_assoc done (take n more) (drop n more)))
    ∙ append_assoc (done ++ take n more) (drop n more) t.0 in
    record {
      begins = (drop n more ++ t.0, subst (λ (xs : List ℕ). IsTextOf known xs) same t.1);
      whole = λ e. let bad : false ≡ true = e in cc;
    }

-- the same of a line and its newline
pub part_of_line : (known b c : KnownText) (done line : List ℕ) (n : ℕ) → n ≤ length line → Consumes known b done → Consumes b c (line ++ 10 ∷ []) → BeginsUnread known false (done ++ take n line)
part_of_line known b c done line n few q r =
    subst (λ (xs : List ℕ). BeginsUnread known false (done ++ xs)) (take-append-le n line (10 ∷ []) few) (part_of known b c done (line ++ 10 ∷ []) n q r)

-- the rest of a text was taken, without a newline at its end
pub cut_of : (known b c : KnownText) (done line : List ℕ) (n : ℕ) (is_whole : Bool) → Consumes known b done → Consumes b c line → IsAtEnd c
    → (is_whole ≡ true → length line ≤ n) → BeginsUnread known is_whole (done ++ take n line)
cut_of known b c done line n true q r z few =
    let t = whole_text known c (done ++ line) (consumes_then known b c done line q r) z in
    let all : done ++ line ≡ done ++ take n line = ap (λ (xs : List ℕ). done ++ xs) (sym (take_all n line (few refl))) in
    let is : IsTextOf known (done ++ take n line) = subst (λ (xs : List ℕ). IsTextOf known xs) all t in
    record { begins = ([], subst (λ (xs : List ℕ). IsTextOf known xs) (sym (append-nil (done ++ take n line))) is); whole = λ e. is }
cut_of known b c done line n false q r z few = part_of known b c done line n q r

-- what was taken begins a text, whatever stands behind it
pub begins_so : (known b : KnownText) (done : List ℕ) → Consumes known b done → BeginsUnread known false done
begins_so known b done q = record { begins = text_of known b done q; whole = λ e. let bad : false ≡ true = e in cc }

-- a line of so many bytes as are kept at most is kept whole
pub kept_whole : (n : ℕ) (line : List ℕ) → length (take (n + 1) line) ≤ n → length line ≤ n
kept_whole n line few = omega (arith, few, length-take (n + 1) line)

-- a line more was taken, and kept
pub line_more : (known b c : KnownText) (done line kept : List ℕ) (n : ℕ) → Consumes known b done → Consumes b c (line ++ 10 ∷ []) → kept ≡ take (n + 1) line
    → length kept ≤ n → Consumes known c ((done ++ kept) ++ 10 ∷ [])
line_more known b c done line kept n q r e few =
    let short : length line ≤ n = kept_whole n line (omega (arith, few, ap length e)) in
    let same : kept ≡ line = e ∙ take_all (n + 1) line (omega (arith, short)) in
    let all : done ++ (line ++ 10 ∷ []) ≡ (done ++ kept) ++ 10 ∷ [] =
    sym (append_assoc done line (10 ∷ [])) ∙ ap (λ (xs : List ℕ). (done ++ xs) ++ 10 ∷ []) (sym same) in
    subst (λ (xs : List ℕ). Consumes known c xs) all (consumes_then known b c done (line ++ 10 ∷ []) q r)

-- the text ends inside a line, of which a beginning is kept
pub cut_kept : (known b c : KnownText) (done line kept : List ℕ) (n m : ℕ) → Consumes known b done → Consumes b c line → IsAtEnd c → kept ≡ take (n + 1) line
    → length kept ≡ m → BeginsUnread known (nat_le m n) (done ++ kept)
cut_kept known b c done line kept n m q r z e is =
    subst (λ (xs : List ℕ). BeginsUnread known (nat_le m n) (done ++ xs)) (sym e)
    (cut_of known b c done line (n + 1) (nat_le m n) q r z
    (λ t.
    let few : m ≤ n = leb-true m n t in
    let kept_few : length (take (n + 1) line) ≤ n = omega (arith, few, is, ap length e) in
    omega (arith, kept_whole n line kept_few)))

-- a line that is too long was taken, and its beginning is kept
pub long_kept : (known b c : KnownText) (done line kept : List ℕ) (n : ℕ) → Consumes known b done → Consumes b c (line ++ 10 ∷ []) → kept ≡ take (n + 1) line
    → n < length kept → BeginsUnread known false (done ++ kept)
long_kept known b c done line kept n q r e long =
    subst (λ (xs : List ℕ). BeginsUnread known false (done ++ xs)) (sym e)
    (part_of_line known b c done line (n + 1) (omega (arith, long, ap length e, length-take (n + 1) line)) q r)

-- Pending bytes: those of a line are taken, up to a newline where one was found among them.
use Rattle.std.proofs.Common.{◌≡◌, ◌≢◌, ℕ, suc, ◌+◌, ◌-◌, ◌<◌, ◌≤◌, List, [], ◌∷◌, ◌++◌, length, take, drop, Option, Some, None, min, inl, inr, refl, sym, ap, ◌∙◌, append_assoc, arith, add-one}
use Rattle.std.specs.Prelude.{slice_range, slice_index}
use Rattle.std.specs.Io.KnownBytes.{Consumes, prepend_known}
use Rattle.std.proofs.lemmas.{Bool.{cases_lt}, List.{take-append-drop, take-take, take_all, drop-drop, drop-take, get_or-take, length-take}}
use Rattle.std.proofs.Math.Seq.{drop-cons}
use Rattle.memchr.specs.Find.{IsFirstByte, Nowhere, Passes, is_byte}
use Rattle.ulfm_script.specs.Buffers.{HasNoNewline}

-- bytes none of which is a newline
pub free_of : (xs : List ℕ) → ((k : ℕ) → k < length xs → slice_index xs k ≢ 10) → HasNoNewline xs
free_of [] each = tt
free_of (x ∷ xs) each = (each 0 (omega arith), free_of xs (λ k less. each (suc k) (omega (arith, less))))

-- no newline was found
pub none_found : (xs : List ℕ) → IsFirstByte (is_byte 10) xs None → HasNoNewline xs
none_found xs nowhere = free_of xs (λ k less is. nowhere k (omega arith) less (rw is refl))

-- .. before the first that was
pub none_before : (xs : List ℕ) (at : ℕ) → at ≤ length xs → Nowhere (Passes (is_byte 10) xs) 0 at → HasNoNewline (take at xs)
none_before xs at few nowhere =
    free_of (take at xs) (λ k less is.
    let before : k < at = omega (arith, less, length-take at xs) in
    nowhere k (omega arith) before (rw (sym (get_or-take at xs k 0 before) ∙ is) refl))

-- a newline was found: the bytes are those before it, itself, and what is pending behind it
pub split_at : (xs : List ℕ) (s e at : ℕ) → at < length (slice_range xs s e) → slice_index (slice_range xs s e) at ≡ 10
    → slice_range xs s e ≡ take at (slice_range xs s e) ++ 10 ∷ slice_range xs (s + (at + 1)) e
split_at xs s e at less is =
    let all = slice_range xs s e in
    let rest : e - s ≡ suc at + (e - (s + (at + 1))) = omega (arith, less, length-take (e - s) (drop s xs)) in
    let behind : drop (suc at) all ≡ slice_range xs (s + (at + 1)) e =
    ap (λ n. drop (suc at) (take n (drop s xs))) rest ∙ (drop-take (suc at) (e - (s + (at + 1))) (drop s xs) ∙ ap (take (e - (s + (at + 1)))) (rw (add-one at) (drop-drop (suc at) s xs))) in
    sym (take-append-drop at all) ∙ ap (λ ys. take at all ++ ys) (drop-cons all at 0 less ∙ (ap (λ x. x ∷ drop (suc at) all) is ∙ ap (λ ys. 10 ∷ ys) behind))

-- the bytes that were pending and aren't are taken
pub part_taken : (old part new : List ℕ) (known : Option (List ℕ)) → old ≡ part ++ new → Consumes (prepend_known old known) (prepend_known new known) part
part_taken old part new None is = tt
part_taken old part new (Some us) is = ap (λ ys. ys ++ us) is ∙ append_assoc part new us

-- a line without a newline, and more of it
pub free_append : (xs ys : List ℕ) → HasNoNewline xs → HasNoNewline ys → HasNoNewline (xs ++ ys)
free_append [] ys here there = there
free_append (x ∷ xs) ys here there = (here.0, free_append xs ys here.1 there)

-- so many of the first bytes of a line, as the range of the buffer in which they stand
pub kept_range : (xs : List ℕ) (s e at most : ℕ) → at < length (slice_range xs s e) → slice_range xs s (s + min at most) ≡ take most (take at (slice_range xs s e))
kept_range xs s e at most less =
    let few : at ≤ e - s = omega (arith, less, length-take (e - s) (drop s xs)) in
    let whole : take at (slice_range xs s e) ≡ take at (drop s xs) = take-take at (e - s) (drop s xs) few in
    elim (cases_lt most at) [
      | inl more ↦
          let n : s + min at most - s ≡ most = omega (arith, more) in
          ap (λ (k : ℕ). take k (drop s xs)) n ∙ sym (ap (take most) whole ∙ take-take most at (drop s xs) (omega (arith, more)))
      | inr all ↦
          let n : s + min at most - s ≡ at = omega (arith, all) in
          ap (λ (k : ℕ). take k (drop s xs)) n ∙ sym (ap (take most) whole ∙ take_all most (take at (drop s xs)) (omega (arith, all, length-take at (drop s xs))))
    ]

-- Walks through lists from their start: what is left begins with the element that was read there.
use Rattle.std.proofs.Common.{◌≡◌, ◌<◌, ◌+◌, ℕ, Bool, true, false, List, ◌∷◌, drop, length, map, sym, ap, ◌∙◌}
use Rattle.std.specs.Prelude.{cond, filter, get_or}
use Rattle.std.proofs.lemmas.List.{drop_more, drop-map}

-- What is left of a list begins with the element that was read there.
pub left_from : {X : Type 0} (xs : List X) (i : ℕ) (x : X) → i < length xs → x ≡ get_or xs i x → drop i xs ≡ x ∷ drop (i + 1) xs
left_from xs i x lt is = drop_more xs i x lt ∙ ap (λ y. y ∷ drop (i + 1) xs) (sym is)

-- So does what is left of a list whose elements are seen in another way.
pub mapped_from : {X Y : Type 0} (f : X → Y) (xs : List X) (i : ℕ) (x : X) → i < length xs → x ≡ get_or xs i x
    → drop i (map f xs) ≡ f x ∷ drop (i + 1) (map f xs)
mapped_from f xs i x lt is = drop-map f i xs ∙ ap (map f) (left_from xs i x lt is) ∙ ap (λ ys. f x ∷ ys) (sym (drop-map f (i + 1) xs))

-- An element that passes is kept.
pub kept_first : {X : Type 0} (p : X → Bool) (x : X) (xs : List X) → p x ≡ true → filter p (x ∷ xs) ≡ x ∷ filter p xs
kept_first p x xs passes = ap (λ b. cond b (x ∷ filter p xs) (filter p xs)) passes

-- One that doesn't pass is not.
pub passed_first : {X : Type 0} (p : X → Bool) (x : X) (xs : List X) → p x ≡ false → filter p (x ∷ xs) ≡ filter p xs
passed_first p x xs fails = ap (λ b. cond b (x ∷ filter p xs) (filter p xs)) fails

-- The members of communicators, by number.
use Rattle.std.specs.Prelude.{ℕ, ◌==◌, Bool, List, [], slice_get, unwrap_or, Option, Vec}
use Rattle.std.specs.{Cmp.Lexicographic.{pointwise}, Option.{option_map}}

-- the group of a number, or nobody
abbrev pub group_at : List (List ℕ) → ℕ → List ℕ
group_at groups c = unwrap_or (slice_get groups c) []

-- the ranks of a list of them, if there is one
abbrev pub items_of : {A : Type 0} → Option (Vec ℕ A) → Option (List ℕ)
items_of {A} group = option_map (λ (ranks : Vec ℕ A). ranks.items) group

-- whether two lists of ranks are one
abbrev pub same_ranks : List ℕ → List ℕ → Bool
same_ranks xs ys = pointwise ◌==◌ xs ys

-- A rank of a new world.
use Rattle.std.proofs.Common.{◌≡◌, ℕ, zero, suc, ◌<◌, List, [], ◌∷◌, get_or, length, map, Some, refl, ap, ◌∙◌, subst, arith}
use Rattle.std.specs.{List.{AllByRecursion}, Prelude.{slice_get}}
use Rattle.ulfm_model.specs.declared.limits.Limits.{Limits}
use Rattle.ulfm_model.specs.{History.{first_ranks}, Records.{Fits, new_record}}
use Rattle.ulfm_model.proofs.RankGroups.{first_at, first_length}
use Rattle.ulfm_comm.specs.Counts.{Ranked, new_rank, records_of}

get_map : {X Y : Type 0} (f : X → Y) (xs : List X) (i : ℕ) (y : Y) → slice_get (map f xs) i ≡ Some y → (x : X) × (slice_get xs i ≡ Some x) × (y ≡ f x)
get_map f [] i y is = absurd (cc is)
get_map f (x ∷ xs) zero y is = (x, refl, cc is)
get_map f (x ∷ xs) (suc i) y is = get_map f xs i y is

all_get : {X Y : Type 0} (Q : Y → Type 0) (f : X → Y) (xs : List X) (i : ℕ) (x : X) → AllByRecursion Q (map f xs) → slice_get xs i ≡ Some x → Q (f x)
all_get Q f [] i x all is = absurd (cc is)
all_get Q f (y ∷ ys) zero x all is = let same : y ≡ x = cc is in subst (λ w. Q (f w)) same all.0
all_get Q f (y ∷ ys) (suc i) x all is = all_get Q f ys i x all.1 is

get_there : {X : Type 0} (xs : List X) (i : ℕ) (x z : X) → slice_get xs i ≡ Some x → (i < length xs) × (slice_get xs i ≡ Some (get_or xs i z))
get_there [] i x z is = absurd (cc is)
get_there (y ∷ ys) zero x z is = (omega arith, refl)
get_there (y ∷ ys) (suc i) x z is = let below = (get_there ys i x z is).0 in (omega (arith, below), (get_there ys i x z is).1)

first_get : (n i r : ℕ) → slice_get (first_ranks n) i ≡ Some r → r ≡ i
first_get n i r is =
    let there = get_there (first_ranks n) i r 0 is in
    let below : i < n = omega (arith, there.0, first_length n) in
    let same : r ≡ get_or (first_ranks n) i 0 = cc (is, there.1) in
    same ∙ first_at n i below

-- a world's rank of some number: its record is new, and fits a history in which nothing has happened
pub rank_new : {P : Type 0} (meld : P → P → P) (limits : Limits) (ranks : List Ranked) (r : ℕ) (rank : Ranked) → ranks ≡ map (new_rank limits) (first_ranks limits.ranks)
    → AllByRecursion (Fits meld limits []) (records_of ranks) → slice_get ranks r ≡ Some rank → (rank.own ≡ new_record limits r) × Fits meld limits [] rank.own
rank_new meld limits ranks r rank are fit is =
    let at = get_map (new_rank limits) (first_ranks limits.ranks) r rank (subst (λ rs. slice_get rs r ≡ Some rank) are is) in
    let same : rank ≡ new_rank limits r = at.2 ∙ ap (new_rank limits) (first_get limits.ranks r at.0 at.1) in
    (ap (λ (w : Ranked). w.own) same, all_get (Fits meld limits []) (λ (w : Ranked). w.own) ranks r rank fit is)

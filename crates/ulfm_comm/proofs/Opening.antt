-- The ranks of a new world.
use Rattle.std.proofs.Common.{◌≡◌, ℕ, ◌+◌, true, List, [], ◌∷◌, ◌++◌, map, refl, ap, ◌∙◌, add-one}
use Rattle.std.specs.List.{AllByRecursion}
use Rattle.std.proofs.lemmas.List.{map-append}
use Rattle.ulfm_model.specs.declared.limits.Limits.{Limits}
use Rattle.ulfm_model.specs.{History.{first_ranks, has}, Records.{Fits, new_record}}
use Rattle.ulfm_comm.specs.Counts.{new_rank, records_of}
use Rattle.ulfm_model.proofs.{Lists.{all_has}, LeftSound.{new_fits}}

-- one rank more
pub one_more : (n : ℕ) → first_ranks (n + 1) ≡ first_ranks n ++ n ∷ []
one_more n = rw add-one refl

-- one new rank more
pub one_rank_more : (limits : Limits) (n : ℕ) → map (new_rank limits) (first_ranks (n + 1)) ≡ map (new_rank limits) (first_ranks n) ++ new_rank limits n ∷ []
one_rank_more limits n = ap (map (new_rank limits)) (one_more n) ∙ map-append (new_rank limits) (first_ranks n) (n ∷ [])

-- the records of new ranks
pub records_are : (limits : Limits) (numbers : List ℕ) → records_of (map (new_rank limits) numbers) ≡ map (new_record limits) numbers
records_are limits [] = refl
records_are limits (n ∷ numbers) = ap (λ records. new_record limits n ∷ records) (records_are limits numbers)

-- each new record fits a history in which nothing has happened
pub each_fits : {P : Type 0} (meld : P → P → P) (limits : Limits) → AllByRecursion (Fits meld limits [])
    (records_of (map (new_rank limits) (first_ranks limits.ranks)))
each_fits meld limits = go (first_ranks limits.ranks) (all_has (first_ranks limits.ranks))
  where
    go : (rs : List ℕ) → AllByRecursion (λ r. has (first_ranks limits.ranks) r ≡ true) rs
        → AllByRecursion (Fits meld limits []) (records_of (map (new_rank limits) rs))
    go [] all = tt
    go (r ∷ rs) all = (new_fits meld limits r all.0, go rs all.1)

-- The first ranks, as lists.
use Rattle.std.proofs.Common.{◌≡◌, ℕ, zero, suc, ◌<◌, false, arith, nat_eq}
use Rattle.std.specs.List.{AllByRecursion, IsDistinct}
use Rattle.std.proofs.lemmas.Bool.{ne_eqb}
use Rattle.ulfm_model.specs.History.{first_ranks}
use Rattle.ulfm_model.proofs.Lists.{any_none, distinct_push, each_from, each_push, none_distinct}

all_below : (n : ℕ) → AllByRecursion (λ r. r < n) (first_ranks n)
all_below zero = tt
all_below (suc n) =
    each_push (λ r. r < suc n) (first_ranks n) n (each_from (λ r. r < n) (λ r. r < suc n) (λ r less. omega (arith, less)) (first_ranks n) (all_below n)) (omega arith)

-- all ranks differ
pub ranks_distinct : (n : ℕ) → IsDistinct nat_eq (first_ranks n)
ranks_distinct zero = none_distinct nat_eq
ranks_distinct (suc n) =
    distinct_push nat_eq (first_ranks n) n (ranks_distinct n)
    (any_none (λ r. nat_eq r n) (first_ranks n) (each_from (λ r. r < n) (λ r. nat_eq r n ≡ false) (λ r less. ne_eqb r n (λ same. omega (arith, less, same))) (first_ranks n) (all_below n)))

-- What jobs on threads give.
use Rattle.std.proofs.Common.{◌≡◌, ℕ, zero, suc, ◌<◌, List, [], ◌∷◌, ◌++◌, length, get_or, take, drop, Result, Ok, Err, IfOk, Vec, vec_len, subst, arith}
use Rattle.std.specs.Fork.{GivesJobs}
use Rattle.std.specs.Fn.{FnReturns, Shared}
use Rattle.std.specs.List.{AllByRecursion}

-- what follows at each place from what the element at that place has, the elements of the second list have
each_along : {X Y : Type 0} (P : X → Type 0) (Q : Y → Type 0) (xs : List X) (ys : List Y) → length ys ≡ length xs → ((i : ℕ) (d : X) (e : Y) → i < length xs → P (get_or xs i d) → Q (get_or ys i e)) → AllByRecursion P xs → AllByRecursion Q ys
each_along P Q xs [] same imp all = tt
each_along P Q [] (y ∷ ys) same imp all = absurd (omega (arith, same))
each_along P Q (x ∷ xs) (y ∷ ys) same imp all =
    (imp 0 x y (omega arith) all.0, each_along P Q xs ys (omega (arith, same)) (λ i d e lt has. imp (suc i) d e (omega (arith, lt)) has) all.1)

module _ {F J R : Type 0} (g : Shared F (J × Unit {0}) R) (f : F) (P : J → Type 0) (Q : R → Type 0) (imp : (job : J) (r : R) → P job → FnReturns g f (job, tt) r → Q r) where
  -- a fact of each job gives what each call makes of it
  each_given : (jobs : List J) (rs : List R) → length rs ≡ length jobs → GivesJobs g f jobs rs → AllByRecursion P jobs → AllByRecursion Q rs
  each_given jobs rs same gives all =
      each_along P Q jobs rs same (λ i d e lt has. let by = (gives i e lt).1 in imp by.job (get_or rs i e) (subst P (by.job_is d) has) by.call) all

  -- and so in the results that are there
  pub jobs_give : {A B E : Type 0} (o : Result (Vec R A) E) (jobs : Vec J B) → IfOk o (λ v. vec_len v ≡ vec_len jobs) → IfOk o (λ v. GivesJobs g f jobs.items v.items) → AllByRecursion P jobs.items → IfOk o (λ v. AllByRecursion Q v.items)
  jobs_give (Ok v) jobs same gives all = each_given jobs.items v.items (omega (arith, v.ok.0, jobs.ok.0, same)) gives all
  jobs_give (Err e) jobs same gives all = tt

-- what all have, one of them has
pub each_at : {X : Type 0} (P : X → Type 0) (xs : List X) (i : ℕ) (d : X) → AllByRecursion P xs → i < length xs → P (get_or xs i d)
each_at P [] i d all lt = absurd (omega (arith, lt))
each_at P (x ∷ xs) zero d all lt = all.0
each_at P (x ∷ xs) (suc i) d all lt = each_at P xs i d all.1 (omega (arith, lt))

-- what all have, the others have
pub each_remove : {X : Type 0} (P : X → Type 0) (xs : List X) (i : ℕ) → AllByRecursion P xs → AllByRecursion P (take i xs ++ drop (suc i) xs)
each_remove P [] zero all = tt
each_remove P [] (suc i) all = tt
each_remove P (x ∷ xs) zero all = all.1
each_remove P (x ∷ xs) (suc i) all = (all.0, each_remove P xs i all.1)

-- Values that are put at places of arrays.
use Rattle.std.proofs.Common.{◌≡◌, ◌≢◌, ◌<◌, ◌==◌, ◌&&◌, ◌∷◌, ◌++◌, [], ℕ, zero, suc, Bool, true, false, if◌then◌else◌, List, length, Some, get_or, set, slice_get, refl, sym, ap, ◌∙◌, arith}
use Rattle.std.specs.Option.{option_map_or}
use Rattle.std.specs.Prelude.{Err, Ok, OnOk, Result}
use Rattle.std.proofs.lemmas.Bool.{eqb-true, eq-eqb}

-- what stands elsewhere stays, and what is written stands
pub get_other : {X : Type 0} (xs : List X) (i j : ℕ) (y : X) → j ≢ i → slice_get (set xs i y) j ≡ slice_get xs j
get_other [] i j y apart = refl
get_other (x ∷ xs) zero zero y apart = absurd (apart refl)
get_other (x ∷ xs) zero (suc j) y apart = refl
get_other (x ∷ xs) (suc i) zero y apart = refl
get_other (x ∷ xs) (suc i) (suc j) y apart = get_other xs i j y (λ e. apart (ap suc e))

pub get_same : {X : Type 0} (xs : List X) (i : ℕ) (y : X) → i < length xs → slice_get (set xs i y) i ≡ Some y
get_same [] i y within = absurd (omega (arith, within))
get_same (x ∷ xs) zero y within = refl
get_same (x ∷ xs) (suc i) y within = get_same xs i y (omega (arith, within))

-- what is read at an index, of what stands there
module _ {X V : Type 0} (f : X → V) (none : V) where
  abbrev pub read_at : List X → ℕ → V
  read_at xs i = option_map_or f (slice_get xs i) none

  -- a further entry of which nothing is read
  pub read_longer : (xs : List X) (x : X) → f x ≡ none → (i : ℕ) → read_at (xs ++ x ∷ []) i ≡ read_at xs i
  read_longer [] x is zero = is
  read_longer [] x is (suc i) = refl
  read_longer (y ∷ ys) x is zero = refl
  read_longer (y ∷ ys) x is (suc i) = read_longer ys x is i

  -- an entry that is written
  pub read_written : (xs : List X) (i : ℕ) (x : X) → i < length xs → (j : ℕ) → read_at (set xs i x) j ≡ (if i == j then f x else read_at xs j)
  read_written xs i x within j = go (i == j) refl
    where
      go : (b : Bool) → (i == j) ≡ b → read_at (set xs i x) j ≡ (if b then f x else read_at xs j)
      go true same = ap (read_at (set xs i x)) (sym (eqb-true i j same)) ∙ ap (λ o. option_map_or f o none) (get_same xs i x within)
      go false apart = ap (λ o. option_map_or f o none) (get_other xs i j x (λ same. absurd (cc (apart, eq-eqb i j (sym same)))))

  -- an entry that is there
  pub read_there : (xs : List X) (i : ℕ) (d : X) → i < length xs → f (get_or xs i d) ≡ read_at xs i
  read_there [] i d within = absurd (omega (arith, within))
  read_there (x ∷ xs) zero d within = refl
  read_there (x ∷ xs) (suc i) d within = read_there xs i d (omega (arith, within))

-- one of two, by three tests at once
pub by_all : {X : Type 0} (a b c : Bool) (x y : X) → (if a then (if b then (if c then x else y) else y) else y) ≡ (if (a && b) && c then x else y)
by_all true true c x y = refl
by_all true false c x y = refl
by_all false b c x y = refl

-- what is read of one of two
pub read_either : {X V : Type 0} (f : X → V) (b : Bool) (x y : X) → f (if b then x else y) ≡ (if b then f x else f y)
read_either f true x y = refl
read_either f false x y = refl

-- what holds where a call went well makes something else hold there
pub ok_then : {X E T U : Type 0} (result : Result X E) → (T → U) → OnOk result T → OnOk result U
ok_then (Ok x) f t = f t
ok_then (Err e) f t = tt

-- a value that is put below an entry that is there, where reading tells the old values
pub put_below : {X V Q : Type 0} (f : X → Q → V) (none : V) (xs : List X) (old : ℕ → Q → V) (i n : ℕ) (x new : X) (puts : Q → V → V) → i ≡ n → i < length xs → x ≡ get_or xs i x
    → ((j : ℕ) (q : Q) → read_at (λ y. f y q) none xs j ≡ old j q) → ((q : Q) → f new q ≡ puts q (f x q))
    → (j : ℕ) (q : Q) → read_at (λ y. f y q) none (set xs i new) j ≡ (if n == j then puts q (old j q) else old j q)
put_below {X} {V} f none xs old i n x new puts at within is tells put j q =
    read_written (λ y. f y q) none xs i new within j ∙ (go (i == j) refl ∙ ap (λ m. if m == j then puts q (old j q) else old j q) at)
  where
    go : (b : Bool) → (i == j) ≡ b → (if b then f new q else read_at (λ y. f y q) none xs j) ≡ (if b then puts q (old j q) else old j q)
    go true same =
        let here : f x q ≡ old i q = ap (λ y. f y q) is ∙ (read_there (λ y. f y q) none xs i x within ∙ tells i q) in
        put q ∙ ap (puts q) (here ∙ ap (λ k. old k q) (eqb-true i j same))
    go false apart = tells j q

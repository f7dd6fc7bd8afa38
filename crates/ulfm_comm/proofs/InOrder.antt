-- The records of ranks that stand in the order of their numbers.
use Rattle.std.proofs.Common.{◌≡◌, ◌≢◌, ℕ, zero, suc, ◌<◌, ◌≤◌, ◌==◌, Bool, true, false, cond, List, [], ◌∷◌, map, length, get_or, set, Some, None, refl, ap}
use Rattle.std.proofs.Common.{ap₂, sym, ◌∙◌, arith, if◌then◌else◌}
use Rattle.std.specs.List.{AllByRecursion, find}
use Rattle.std.proofs.lemmas.Bool.{eq-eqb, ne_eqb}
use Rattle.std.proofs.lemmas.List.{get_or-map, length-map}
use Rattle.ulfm_model.proofs.Places.{found_at}
use Rattle.ulfm_model.specs.{History.{first_ranks}, Records.{Record}}
use Rattle.ulfm_model.proofs.RankGroups.{first_at, first_length}

module _ {X : Type 0} (p : X → Bool) where
  -- none passes
  none_at : (xs : List X) (d : X) → ((k : ℕ) → k < length xs → p (get_or xs k d) ≡ false) → find p xs ≡ None
  none_at [] d fails = refl
  none_at (x ∷ xs) d fails = ap (λ b. cond b (Some x) (find p xs)) (fails 0 (omega arith)) ∙ none_at xs d (λ k lt. fails (suc k) (omega arith))

  kept_at : (xs : List X) (d y : X) → ((k : ℕ) → k < length xs → p (get_or xs k d) ≡ false) → xs ≡ map (λ x. if p x then y else x) xs
  kept_at [] d y fails = refl
  kept_at (x ∷ xs) d y fails = ap₂ (λ z zs. z ∷ zs) (sym (ap (λ (b : Bool). if b then y else x) (fails 0 (omega arith))))
      (kept_at xs d y (λ k lt. fails (suc k) (omega arith)))

  -- the only one that passes is changed
  changed_at : (xs : List X) (i : ℕ) (d y : X) → i < length xs → p (get_or xs i d) ≡ true → ((k : ℕ) → k < length xs → k ≢ i → p (get_or xs k d) ≡ false)
      → set xs i y ≡ map (λ x. if p x then y else x) xs
  changed_at [] i d y below is others = absurd (omega arith)
  changed_at (x ∷ xs) zero d y below is others =
      ap₂ (λ z zs. z ∷ zs) (sym (ap (λ (b : Bool). if b then y else x) is)) (kept_at xs d y
      (λ k lt. others (suc k) (omega arith) (λ same. absurd (omega (arith, same)))))
  changed_at (x ∷ xs) (suc i) d y below is others =
      ap₂ (λ z zs. z ∷ zs) (sym (ap (λ (b : Bool). if b then y else x) (others 0 (omega arith) (λ same. absurd (omega (arith, same))))))
      (changed_at xs i d y (omega arith) is (λ k lt apart. others (suc k) (omega arith) (λ same. apart (omega (arith, same)))))

-- what holds of each holds of each afterwards
pub each_set : {X : Type 0} (Q : X → Type 0) (xs : List X) (i : ℕ) (y : X) → AllByRecursion Q xs → Q y → AllByRecursion Q (set xs i y)
each_set Q [] i y all is = tt
each_set Q (x ∷ xs) zero y all is = (is, all.1)
each_set Q (x ∷ xs) (suc i) y all is = (all.0, each_set Q xs i y all.1 is)

module _ (n : ℕ) (ranks : List Record) (numbers : map (λ x. x.number) ranks ≡ first_ranks n) where
  -- there are so many
  pub count_is : length ranks ≡ n
  count_is = sym (length-map ranks (λ (x : Record). x.number)) ∙ (ap length numbers ∙ first_length n)

  -- each has the number of its place
  pub number_at : (i : ℕ) (d : Record) → i < length ranks → (get_or ranks i d).number ≡ i
  number_at i d below =
      sym (get_or-map (λ (x : Record). x.number) ranks i d 0 below) ∙ (ap (λ ns. get_or ns i 0) numbers ∙ first_at n i (omega (arith, below, count_is)))

  is_at : (i : ℕ) (d : Record) → i < length ranks → ((get_or ranks i d).number == i) ≡ true
  is_at i d below = eq-eqb (get_or ranks i d).number i (number_at i d below)

  apart_at : (i k : ℕ) (d : Record) → k < length ranks → k ≢ i → ((get_or ranks k d).number == i) ≡ false
  apart_at i k d below apart = ne_eqb (get_or ranks k d).number i (λ same. absurd (apart (sym (number_at k d below) ∙ same)))

  -- the record of a rank stands at its place
  pub rank_found : (i : ℕ) (d : Record) → i < length ranks → find (λ x. x.number == i) ranks ≡ Some (get_or ranks i d)
  rank_found i d below = found_at (λ (x : Record). x.number == i) ranks i d below (is_at i d below)
      (λ k less. apart_at i k d (omega (arith, below, less)) (λ same. absurd (omega (arith, less, same))))

  -- no other rank has one
  pub rank_missing : (i : ℕ) (d : Record) → n ≤ i → find (λ x. x.number == i) ranks ≡ None
  rank_missing i d above = none_at (λ (x : Record). x.number == i) ranks d (λ k below. apart_at i k d below
      (λ same. absurd (omega (arith, above, below, same, count_is))))

  -- a rank's record is changed at its place
  pub rank_changed : (i : ℕ) (d y : Record) → i < length ranks → set ranks i y ≡ map (λ x. if x.number == i then y else x) ranks
  rank_changed i d y below = changed_at (λ (x : Record). x.number == i) ranks i d y below (is_at i d below) (λ k lt apart. apart_at i k d lt apart)

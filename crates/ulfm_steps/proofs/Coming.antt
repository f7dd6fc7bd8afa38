-- What may come at any time.
use Rattle.std.proofs.Common.{◌≡◌, ℕ, suc, ◌<◌, ◌==◌, Bool, true, false, List, [], ◌∷◌, ◌||◌, Some, slice_get, refl, ap}
use Rattle.std.proofs.lemmas.Bool.{eqb-true}
use Rattle.ulfm_model.specs.declared.limits.Limits.{Limits}
use Rattle.ulfm_model.specs.History.{History, IsPlace, failures, first_ranks, has}
use Rattle.ulfm_model.proofs.RankGroups.{first_has}
use Rattle.ulfm_steps.specs.Appends.{MayAppend}
use Rattle.ulfm_steps.specs.declared.item.Item.TheVariants.{Failure}
use Rattle.ulfm_steps.proofs.{Appending.{failure_stands}, Reading.{member_place, world_round}}

module _ {P : Type 0} (meld : P → P → P) (limits : Limits) where
  -- each rank is a member of the world's own communicator
  pub world_place : (h : History P) (k r : ℕ) → k < limits.rounds → r < limits.ranks → IsPlace limits h 0 k r
  world_place h k r k_lt r_lt = member_place limits h 0 k r (first_ranks limits.ranks) (world_round limits h k k_lt) (first_has limits.ranks r r_lt)

  -- a rank that isn't declared may be declared next
  pub may_fail : (seen : History P) (r : ℕ) → r < limits.ranks → MayAppend meld limits seen (Failure r)
  may_fail seen r lt more begins legal none room = (lt, go (has (failures more) r) refl)
    where
      at : (fs : List ℕ) → has fs r ≡ true → (j : ℕ) × (slice_get fs j ≡ Some r)
      at [] e = absurd (cc e)
      at (x ∷ fs) e = step (at fs) (x == r) refl e
        where
          step : (has fs r ≡ true → (j : ℕ) × (slice_get fs j ≡ Some r)) → (b : Bool) → (x == r) ≡ b → (b || has fs r) ≡ true → (j : ℕ) × (slice_get (x ∷ fs) j ≡ Some r)
          step rest true same e = (0, ap Some (eqb-true x r same))
          step rest false same e = let found = rest e in (suc found.0, found.1)

      go : (b : Bool) → has (failures more) r ≡ b → b ≡ false
      go false e = refl
      go true e = let found = at (failures more) e in absurd (none found.0 (failure_stands more found.0 r r found.1))

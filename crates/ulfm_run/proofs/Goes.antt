-- How far steps take a rank's call.
use Rattle.std.proofs.Common.{◌≡◌, ℕ, zero, suc, ◌+◌, ◌<◌, ◌≤◌, List, [], ◌∷◌, length, get_or, set, Some, None, refl, ap, sym, ◌∙◌, subst, arith, inl, inr}
use Rattle.std.specs.Prelude.{◌⊎◌, slice_get}
use Rattle.ulfm_laws.specs.declared.flag_and.FlagAnd.{FlagAnd}
use Rattle.ulfm_model.specs.declared.step_name.StepName.{StepName}
use Rattle.ulfm_words.specs.Steps.{Name, Sight}
use Rattle.ulfm_run.specs.Seats.{next_in}
use Rattle.ulfm_lines.specs.{Progress.{GoesFar, IsReached, Progress}, Walked.{IsCountOf}}
use Rattle.ulfm_lines.specs.declared.step_machine.Reach.{Reach}
use Rattle.ulfm_run.specs.{Table.{seat_next, progress_of}, Walks.{FlagSeat, WalksUntil}}
use Rattle.std.proofs.lemmas.Option.{slice_get-get_or}
use Rattle.ulfm_run.specs.Walks.{stage}

-- there is no element past the last
get_none : {X : Type 0} (xs : List X) (i : ℕ) → length xs ≤ i → slice_get xs i ≡ None
get_none [] i over = refl
get_none (x ∷ xs) zero over = absurd (omega (arith, over))
get_none (x ∷ xs) (suc i) over = get_none xs i (omega (arith, over))

-- an element that was set is there
get_set : {X : Type 0} (xs : List X) (i : ℕ) (x : X) → i < length xs → slice_get (set xs i x) i ≡ Some x
get_set [] i x below = absurd (omega (arith, below))
get_set (y ∷ ys) zero x below = refl
get_set (y ∷ ys) (suc i) x below = get_set ys i x (omega (arith, below))

module _ (pass : Sight FlagAnd) (seats : List FlagSeat) (r : ℕ) (reach : Reach) where
  -- no step
  pub goes_nowhere : seat_next (slice_get seats r) ≡ None → GoesFar (progress_of pass seats) (progress_of pass seats) r reach 0
  goes_nowhere none = record { count = 0; counted = inl (refl, omega arith); within = λ most is. omega arith; steps = omega arith; stops = inl none }

  -- of a rank that the world doesn't have
  pub no_seat : length seats ≤ r → seat_next (slice_get seats r) ≡ None
  no_seat over = ap seat_next (get_none seats r over)

  -- of one without a call
  pub no_step : (d : FlagSeat) → r < length seats → (get_or seats r d).call ≡ None → seat_next (slice_get seats r) ≡ None
  no_step d below none = ap seat_next (slice_get-get_or seats r d below) ∙ ap next_in none

  -- steps of its call
  pub goes_until : (made : ℕ) (name : Name) (seat : FlagSeat) (text : List ℕ) (after : Sight FlagAnd) (left : FlagSeat) (more : List ℕ) → r < length seats → WalksUntil reach made name (stage pass seat text) (stage after left more)
      → GoesFar (progress_of pass seats) (progress_of after (set seats r left)) r reach made
  goes_until made name seat text after left more below w = record { count = length w.names; counted = w.counted; within = w.within; steps = w.steps; stops = stops w.stops }
    where
      next : seat_next (slice_get (set seats r left) r) ≡ next_in left.call
      next = ap seat_next (get_set seats r left below)

      stops : (left.call ≡ None) ⊎ IsReached reach made (next_in left.call) → (seat_next (slice_get (set seats r left) r) ≡ None) ⊎ IsReached reach made (seat_next (slice_get (set seats r left) r))
      stops (inl over) = inl (next ∙ ap next_in over)
      stops (inr reached) = inr (subst (IsReached reach made) (sym next) reached)

module _ (old new : Progress) (r made : ℕ) where
  -- so many steps, or fewer where the call is over
  pub goes_stepped : (count : ℕ) → count < 4294967295 → GoesFar old new r (record { most = Some count; name = None }) made → (new.steps ≤ old.steps + count) × ((new.next r ≡ None) ⊎ (new.steps ≡ old.steps + count))
  goes_stepped count below g = let within = g.within count refl in let steps = g.steps in (omega (arith, within, steps), go g.counted g.stops)
    where
      go : IsCountOf g.count made → (new.next r ≡ None) ⊎ IsReached (record { most = Some count; name = None }) made (new.next r) → (new.next r ≡ None) ⊎ (new.steps ≡ old.steps + count)
      go all (inl over) = inl over
      go (inl all) (inr (inl reached)) = let same : count ≡ made = cc reached in let steps = g.steps in inr (omega (arith, same, all.0, steps))
      go (inr full) (inr (inl reached)) = let same : count ≡ made = cc reached in absurd (omega (arith, same, full.0, below))
      go all (inr (inr named)) = absurd (cc named.1)

  -- up to a step
  pub goes_before : (name : StepName) → GoesFar old new r (record { most = None; name = Some name }) made → (new.next r ≡ None) ⊎ (new.next r ≡ Some name)
  goes_before name g = go g.stops
    where
      go : (new.next r ≡ None) ⊎ IsReached (record { most = None; name = Some name }) made (new.next r) → (new.next r ≡ None) ⊎ (new.next r ≡ Some name)
      go (inl over) = inl over
      go (inr (inl reached)) = absurd (cc reached)
      go (inr (inr named)) = inr (named.2 ∙ sym named.1)

  -- to the end
  pub goes_all : GoesFar old new r (record { most = None; name = None }) made → new.next r ≡ None
  goes_all g = go g.stops
    where
      go : (new.next r ≡ None) ⊎ IsReached (record { most = None; name = None }) made (new.next r) → new.next r ≡ None
      go (inl over) = over
      go (inr (inl reached)) = absurd (cc reached)
      go (inr (inr named)) = absurd (cc named.1)

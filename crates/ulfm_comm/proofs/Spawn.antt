-- The communicator that is made of a round.
use Rattle.std.proofs.Common.{◌≡◌, ◌⊎◌, inl, inr, ℕ, zero, suc, ◌+◌, ◌-◌, ◌<◌, ◌≤◌, ◌^◌, ◌==◌, ◌&&◌, ◌||◌, Bool, true, false, List, [], ◌∷◌, length, map, Some}
use Rattle.std.proofs.Common.{slice_get, refl, ap, ap₂, sym, ◌∙◌, subst, arith}
use Rattle.std.specs.List.{list_any}
use Rattle.std.proofs.lemmas.Bool.{and_parts, eqb-true}
use Rattle.std.proofs.lemmas.List.{length-map}
use Rattle.ulfm_model.specs.declared.{event.Caller.{Caller}, event.Event.TheVariants.{Spawn}}
use Rattle.ulfm_model.specs.{History.{spawns}}
use Rattle.ulfm_model.proofs.Lists.{in_list}
use Rattle.ulfm_words.specs.Steps.{Over, Sight, view_at}
use Rattle.ulfm_words.proofs.{Ranks.{spawns_below}, Trails.{did_added}}
use Rattle.ulfm_steps.specs.Appends.{wanted, Appends}
use Rattle.ulfm_steps.specs.declared.{append.Appended.{Appended}, append.Appended.TheVariants.{Won, Found, Full}, item.Item.{Item}}
use Rattle.ulfm_steps.specs.declared.item.Item.TheVariants.{Comm}
use Rattle.ulfm_steps.specs.Rounds.{round_on}
use Rattle.ulfm_comm.specs.Spawning.{IsFullBy, IsMadeBy}

-- the round at a place of the list
round_at : (xs : List (ℕ × ℕ)) (i c k : ℕ) → slice_get (map (λ made. Comm made.0 made.1) xs) i ≡ Some (Comm c k) → slice_get xs i ≡ Some (c, k)
round_at [] i c k e = absurd (cc e)
round_at (x ∷ xs) zero c k e =
    let same : Comm x.0 x.1 ≡ Comm c k = cc e in
    let first : x.0 ≡ c = cc same in
    let second : x.1 ≡ k = cc same in
    ap Some (ap₂ (λ a b. (a, b)) first second)
round_at (x ∷ xs) (suc i) c k e = round_at xs i c k e

-- where each of the first places has another round, and there are no more, none has this one
none_made : (xs : List (ℕ × ℕ)) (c k : ℕ) → ((j : ℕ) → j < length xs → (x : Item) × (slice_get (map (λ made. Comm made.0 made.1) xs) j ≡ Some x) × (x ≡ Comm c k
    → ⊥)) → list_any (λ made. (made.0 == c) && (made.1 == k)) xs ≡ false
none_made [] c k others = refl
none_made (x ∷ xs) c k others = go (none_made xs c k (λ j lt. others (suc j) (omega (arith, lt)))) ((x.0 == c) && (x.1 == k)) refl
  where
    go : list_any (λ made. (made.0 == c) && (made.1 == k)) xs ≡ false → (b : Bool) → ((x.0 == c) && (x.1 == k)) ≡ b
        → (b || list_any (λ made. (made.0 == c) && (made.1 == k)) xs) ≡ false
    go rest false is = rest
    go rest true is =
        let both = and_parts (x.0 == c) (x.1 == k) is in
        let here = others 0 (omega arith) in
        let at : Comm x.0 x.1 ≡ here.0 = cc here.1 in
        absurd (here.2 (sym at ∙ ap₂ Comm (eqb-true x.0 c both.0) (eqb-true x.1 k both.1)))

-- so many places that are taken
so_many : (xs : List (ℕ × ℕ)) (n : ℕ) → ((j : ℕ) → j < n → (x : Item) × (slice_get (map (λ made. Comm made.0 made.1) xs) j ≡ Some x)) → n ≤ length xs
so_many xs zero all = omega arith
so_many xs (suc n) all = let last = all n (omega arith) in omega (
  arith,
  in_list (map (λ made. Comm made.0 made.1) xs) n last.0 last.1,
  length-map xs
      (λ (made : ℕ × ℕ). Comm made.0 made.1),
)

module _ {P : Type 0} (meld : P → P → P) (alone : Bool) (name : Over P) (by : Caller) (c k : ℕ) (before after : Sight P) (most i : ℕ) where
  one_more : i + 1 - 1 ≡ i
  one_more = omega arith

  -- this call made it
  won_makes : Appends meld alone (wanted (Comm c k) by) most (view_at name before) (Won i) (view_at name after) → IsMadeBy meld alone by (round_on c k) (view_at name before) (i + 1) (view_at name after)
  won_makes appends =
      record {
        of = appends.of;
        own = Spawn (i + 1) c k ∷ [];
        makes = ((i + 1, refl), tt);
        few = inr (i + 1, refl);
        settles_none = refl;
        did = did_added alone (record { by = by; event = Spawn (i + 1) c k }) before.seen after.seen appends.outcome.0;
        some = omega arith;
        made = ap (slice_get (spawns after.seen)) one_more ∙ round_at (spawns after.seen) i c k appends.outcome.1;
        onward = appends.onward;
        cached = appends.cached;
        caches = appends.caches;
      }

  -- it had been made
  found_made : Appends meld alone (wanted (Comm c k) by) most (view_at name before) (Found i) (view_at name after) → IsMadeBy meld alone by (round_on c k) (view_at name before) (i + 1) (view_at name after)
  found_made appends =
      record {
        of = appends.of;
        own = [];
        makes = tt;
        few = inl refl;
        settles_none = refl;
        did = appends.outcome.0;
        some = omega arith;
        made = ap (slice_get (spawns after.seen)) one_more ∙ round_at (spawns after.seen) i c k appends.outcome.1;
        onward = appends.onward;
        cached = appends.cached;
        caches = appends.caches;
      }

  -- one or the other
  pub makes : (end : Appended) → (end ≡ Won i) ⊎ (end ≡ Found i) → Appends meld alone (wanted (Comm c k) by) most (view_at name before) end (view_at name after)
      → IsMadeBy meld alone by (round_on c k) (view_at name before) (i + 1) (view_at name after)
  makes end (inl won) appends = won_makes (subst (λ e. Appends meld alone (wanted (Comm c k) by) most (view_at name before) e (view_at name after)) won appends)
  makes end (inr found) appends = found_made (subst (λ e. Appends meld alone (wanted (Comm c k) by) most (view_at name before) e (view_at name after)) found appends)

module _ {P : Type 0} (meld : P → P → P) (alone : Bool) (name : Over P) (by : Caller) (c k : ℕ) (before after : Sight P) where
  -- all that there may be were made of other rounds
  pub full_of : (most : ℕ) → Appends meld alone (wanted (Comm c k) by) most (view_at name before) Full (view_at name after) → IsFullBy meld alone (round_on c k) (view_at name before) (view_at name after)
  full_of most appends =
      let passed = appends.outcome.1 in
      let many = so_many (spawns after.seen) (name.limits.comms - 1) (λ j lt. let at = passed j lt in (at.0, at.1)) in
      let some = appends.of.may_open.in_range.some_comms in
      let few = spawns_below meld name.limits after.seen appends.of.legal some in
      let full : length (spawns after.seen) + 1 ≡ name.limits.comms = omega (arith, many, few, some) in
      record {
        of = appends.of;
        did = appends.outcome.0;
        full = full;
        unmade = none_made (spawns after.seen) c k (λ j lt. passed j (omega (arith, lt, full)));
        onward = appends.onward;
        cached = appends.cached;
        caches = appends.caches;
      }

  -- its number is small
  pub number_fits : (j : ℕ) → IsMadeBy meld alone by (round_on c k) (view_at name before) j (view_at name after) → j < 2 ^ 16
  number_fits j made =
      let range = made.of.may_open.in_range in
      let below = spawns_below meld name.limits after.seen made.of.legal range.some_comms in
      let here = in_list (spawns after.seen) (j - 1) (c, k) made.made in
      let some = made.some in
      let few = range.comms in
      omega (arith, few, below, here, some)

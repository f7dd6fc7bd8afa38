-- The steps of a legal history, in order.
use Rattle.std.proofs.Common.{◌≡◌, ◌≢◌, ℕ, zero, suc, ◌+◌, ◌-◌, ◌/◌, ◌%◌, List, [], ◌∷◌, ◌++◌, length, take, Option, Some, None, slice_get, refl, ap, sym, ◌∙◌, subst, arith}
use Rattle.std.specs.Option.{option_map_or}
use Rattle.ulfm_model.specs.declared.{contribution.Slot.{Slot}, contribution.Slot.TheVariants.{Given, Mark as Marked}, event.Caller.{Caller}, event.Entry.{Entry}, event.Event.TheVariants.{Fail, Settle, Mark, Arrive, Revoke, Spawn}, limits.Limits.{Limits}, place.Place.{Place}, place.Place.TheVariants.{List as ListAt, Comm as CommAt, Revoked as RevokedAt, Slot as SlotAt, Arrival as ArrivalAt}}
use Rattle.ulfm_model.specs.{History.{History, IsLegal, failures}, Laws.{SetsWord}, Words.{place_of, word_at, word_of}}
use Rattle.ulfm_model.proofs.{OnlyMarks.{same_index}, Spawned.{failures_distinct}, WordRules.{has_words}}
use Rattle.ulfm_words.specs.{Entries.{entry_by, entry_of, put_if}, Pass.{IsNth}, Slots.{number_in, slot_in}}
use Rattle.ulfm_words.specs.declared.step.Step.{Step}

-- what stands behind the i-th element
split_at : {X : Type 0} (xs : List X) (i : ℕ) (x : X) → slice_get xs i ≡ Some x → (rest : List X) × (take i xs ++ x ∷ rest ≡ xs)
split_at [] i x is = absurd (cc is)
split_at (y ∷ xs) zero x is = let same : y ≡ x = cc is in (xs, ap (λ z. z ∷ xs) (sym same))
split_at (y ∷ xs) (suc i) x is = let rest = split_at xs i x is in (rest.0, ap (λ zs. y ∷ zs) rest.1)

-- the rank at an entry whose word isn't 0
rank_of : (o : Option ℕ) (w : ℕ) → option_map_or (λ rank. rank + 1) o 0 ≡ w → w ≢ 0 → o ≡ Some (w - 1)
rank_of None w is some = absurd (some (sym is))
rank_of (Some r) w is some = let same : r ≡ w - 1 = omega (arith, is) in ap Some same

module _ {P : Type 0} (meld : P → P → P) (pack : P → ℕ) (unpack : ℕ → Option P) (limits : Limits) (h : History P) (legal : IsLegal meld limits h) where
  -- the place whose word is that of an event, which set a word after these, is the event's
  place_set : (p : Place) (w half : ℕ) (by : Caller) (e : Entry P) (before : History P) → entry_of unpack (record { place = p; word = w; half = half; by = by }) ≡ Some e → w ≢ 0 → word_at pack h p ≡ w
      → word_at pack h (place_of before e.event) ≡ word_of pack e.event → p ≡ place_of before e.event
  place_set (ListAt i) w half by e before is some here set =
      let same : record { by = by; event = Fail (w - 1) } ≡ e = cc is in
      subst (λ (x : Entry P). word_at pack h (place_of before x.event) ≡ word_of pack x.event → ListAt i ≡ place_of before x.event) same
      (λ stood.
      let whole : w - 1 + 1 ≡ w = grind (arith, some) in
      let mine = rank_of (slice_get (failures h) i) w here some in
      let also = rank_of (slice_get (failures h) (length (failures before))) w (stood ∙ whole) some in
      ap ListAt (same_index (failures h) i (length (failures before)) (w - 1) (failures_distinct meld limits h legal) mine also)) set
  place_set (CommAt j) w half by e before is some here set = let same : record { by = by; event = Spawn j ((w - 1) / 4096) ((w - 1) % 4096) } ≡ e = cc is in ap (λ (x : Entry P). place_of before x.event) same
  place_set (RevokedAt c) w half by e before is some here set = let same : record { by = by; event = Revoke c } ≡ e = cc is in ap (λ (x : Entry P). place_of before x.event) same
  place_set (ArrivalAt c k r) w half by e before is some here set = let same : record { by = by; event = Arrive c k r } ≡ e = cc is in ap (λ (x : Entry P). place_of before x.event) same
  place_set (SlotAt c k r) w half by e before is some here set = put (slot_in unpack (number_in w half)) is
    where
      put : (o : Option (Slot P)) → entry_by by (put_if c k r o) ≡ Some e → SlotAt c k r ≡ place_of before e.event
      put None none = absurd (cc none)
      put (Some (Given given)) one = let same : record { by = by; event = Settle c k r given } ≡ e = cc one in ap (λ (x : Entry P). place_of before x.event) same
      put (Some (Marked mark)) one = let same : record { by = by; event = Mark c k r mark } ≡ e = cc one in ap (λ (x : Entry P). place_of before x.event) same

  -- the step whose word stands, with the i-th event
  pub nth_step : (i : ℕ) (s : Step) (e : Entry P) → slice_get h i ≡ Some e → entry_of unpack s ≡ Some e → s.word ≢ 0 → word_at pack h s.place ≡ s.word → IsNth pack unpack h i s
  nth_step i s e at is some here =
      let rest = split_at h i e at in
      let sets : SetsWord h (place_of (take i h) e.event) e = record { before = take i h; rest = rest.0; stands = rest.1; place_is = refl } in
      let set = (has_words pack meld limits h legal).set (place_of (take i h) e.event) e sets in
      let there = place_set s.place s.word s.half s.by e (take i h) is some here set in
      record { entry = e; stands = at; is_entry = is; place = there; word = sym here ∙ (ap (word_at pack h) there ∙ set) }

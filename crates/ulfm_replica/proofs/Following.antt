-- An event that may come next may be set, whatever comes in between, and then it comes.
use Rattle.std.proofs.Common.{◌≡◌, ◌⊎◌, inl, inr, ℕ, ◌+◌, ◌-◌, ◌<◌, ◌≤◌, ◌^◌, true, false, [], ◌∷◌, ◌++◌, length, Option, Some, Err, Ok, slice_get, refl, ap, sym, subst, ◌∙◌, arith, append-nil, add-one}
use Rattle.std.specs.Prelude.{Result, MatchResult}
use Rattle.ulfm_laws.specs.Ranges.{payload_bits}
use Rattle.ulfm_model.specs.declared.{contribution.Slot.TheVariants.{Given, Mark as Marked}, event.Caller.{Caller}, event.Entry.{Entry}, event.Event.{Event}, event.Event.TheVariants.{Fail, Settle, Mark, Arrive, Revoke, Spawn}, limits.Limits.{Limits}, place.Place.TheVariants.{Slot as SlotAt}}
use Rattle.ulfm_model.specs.{History.{History, IsLegal, MayFollow, failures, spawns}, Runs.{Did}, Terms.{made_at}, Words.{MayOpen, place_of, slot_word, word_at}}
use Rattle.ulfm_model.proofs.{Stable.{same_prefix, fail_stays, settle_stays, mark_stays, arrive_stays, revoke_stays, spawn_stays}, Histories.{failures_begin}, WordRules.{sets_one_word}}
use Rattle.ulfm_words.specs.{Entries.{entry_of}, Places.{IsWithin}, Steps.{MaySet, Wins, Loses}}
use Rattle.ulfm_words.proofs.{Setting.{made_parts, may_declare, may_put, may_make, may_come, may_end, put_read}, Pairs.{mark_half}, Ranks.{full_has, place_within, spawns_below}}
use Rattle.ulfm_replica.specs.Replays.{step_after}

below_or : (a b : ℕ) → (a < b) ⊎ (b ≤ a)
below_or a b = grind arith

next_made : {P : Type 0} (h : History P) (i : ℕ) → made_at h (i + 1) ≡ slice_get (spawns h) i
next_made h i = rw add-one refl

module _ {P : Type 0} (meld : P → P → P) (pack : P → ℕ) (unpack : ℕ → Option P) (limits : Limits) (h : History P) (by : Caller) (opens : MayOpen limits)
    (back : (x : P) → unpack (pack x) ≡ Some x) (fits : (x : P) → pack x < 2 ^ payload_bits) where
  pub may_set : (e : Event P) → MayFollow meld limits h e → MaySet meld pack unpack limits h (step_after pack h (record { by = by; event = e }))
  may_set (Fail r) may =
      may_declare meld pack unpack limits h by (length (failures h)) r
      (λ more begins legal none. (fail_stays meld limits h more r begins may none, ap length (same_prefix (failures h) (failures more) (failures_begin h more begins) none)))
  may_set (Settle c k r given) may = may_put meld pack unpack limits h by back fits c k r (Given given) (λ more begins legal none. settle_stays meld limits h more c k r given begins legal may none)
  may_set (Mark c k r mark) may =
      subst (λ n. MaySet meld pack unpack limits h (record { place = SlotAt c k r; word = slot_word pack (Marked mark); half = n; by = by })) (mark_half mark.known.count (omega (arith, mark.known.in_range)))
      (may_put meld pack unpack limits h by back fits c k r (Marked mark) (λ more begins legal none. mark_stays meld limits h more c k r mark begins legal may none))
  may_set (Arrive c k r) may = may_come meld pack unpack limits h by c k r (λ more begins legal none. arrive_stays meld limits h more c k r begins legal may none)
  may_set (Revoke c) may = may_end meld pack unpack limits h by c (λ more begins legal none. revoke_stays meld limits h more c begins legal may none)
  may_set (Spawn j c k) may =
      may_make meld pack unpack limits h by j c k (omega (arith, may.in_rounds, opens.in_range.rounds))
      (λ more begins legal none. spawn_stays meld limits h more j c k begins legal may (sym (next_made more (length (spawns h))) ∙ (ap (made_at more) (sym may.next) ∙ none)))

  pub entry_is : (e : Event P) → MayFollow meld limits h e → entry_of unpack (step_after pack h (record { by = by; event = e })) ≡ Some (record { by = by; event = e })
  entry_is (Fail r) may = let back_it : r + 1 - 1 ≡ r = omega arith in ap (λ n. Some (let x : Entry P = record { by = by; event = Fail n } in x)) back_it
  entry_is (Settle c k r given) may = put_read meld pack unpack limits h by back fits c k r (Given given)
  entry_is (Mark c k r mark) may =
      subst (λ n. entry_of unpack (record { place = SlotAt c k r; word = slot_word pack (Marked mark); half = n; by = by }) ≡ Some (record { by = by; event = Mark c k r mark })) (mark_half mark.known.count (omega (arith, mark.known.in_range)))
      (put_read meld pack unpack limits h by back fits c k r (Marked mark))
  entry_is (Arrive c k r) may = refl
  entry_is (Revoke c) may = refl
  entry_is (Spawn j c k) may = let parts = made_parts c k (omega (arith, may.in_rounds, opens.in_range.rounds)) in rw (parts.0, parts.1) refl

  pub place_in : IsLegal meld limits h → (e : Event P) → MayFollow meld limits h e → IsWithin limits (place_of h e)
  place_in legal (Fail r) may =
      elim (below_or (length (failures h)) limits.ranks) [
        | inl lt ↦ lt
        | inr le ↦ let clash : true ≡ false = sym (full_has meld limits h r legal may.0 le) ∙ may.1 in absurd (cc clash)
      ]
  place_in legal (Settle c k r given) may = place_within meld limits h c k r legal opens may.0
  place_in legal (Mark c k r mark) may = place_within meld limits h c k r legal opens may.0
  place_in legal (Arrive c k r) may = place_within meld limits h c k r legal opens may.0
  place_in legal (Revoke c) may = omega (arith, may.0, spawns_below meld limits h legal opens.in_range.some_comms)
  place_in legal (Spawn j c k) may = (omega (arith, may.next), may.room)

  quiet_end : (new : History P) → Did true [] h new → new ≡ h
  quiet_end new did = sym did.goes_on ∙ (ap (λ w. h ++ w) (did.quiet refl) ∙ append-nil h)

  -- where nobody else steps, an event that may follow wins its exchange
  pub comes : (e : Event P) → MayFollow meld limits h e → (new : History P) (result : Result (Unit {0}) ℕ)
      → MatchResult result (λ _. Wins pack unpack true (step_after pack h (record { by = by; event = e })) h new) (λ w. Loses pack true (place_of h e) w h new)
      → new ≡ h ++ record { by = by; event = e } ∷ []
  comes e may new (Ok u) wins =
      let same : Some wins.entry ≡ Some (let x : Entry P = record { by = by; event = e } in x) = sym wins.is_entry ∙ entry_is e may in
      let entry : wins.entry ≡ (let x : Entry P = record { by = by; event = e } in x) = cc same in
      wins.added.is ∙ (ap (λ w. w ++ wins.entry ∷ []) (quiet_end wins.added.before wins.added.did) ∙ ap (λ x. h ++ x ∷ []) entry)
  comes e may new (Err w) loses =
      let one = sets_one_word pack meld limits h (record { by = by; event = e }) may in
      let still : word_at pack h (place_of h e) ≡ w = ap (λ x. word_at pack x (place_of h e)) (sym (quiet_end new loses.did)) ∙ loses.stands in
      absurd (omega (arith, loses.some, one.was_zero, still))

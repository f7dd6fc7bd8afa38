-- The caller's condition of each exchange, and what it tells.
use Rattle.std.proofs.Common.{◌≡◌, ℕ, ◌+◌, ◌-◌, ◌*◌, ◌/◌, ◌%◌, ◌^◌, ◌<◌, ◌==◌, ◌&&◌, ◌++◌, ◌∷◌, [], Bool, false, true, Option, Some, None, refl, ap, sym, ◌∙◌, subst, arith, if◌then◌else◌}
use Rattle.ulfm_model.specs.declared.{contribution.Slot.{Slot}, contribution.Slot.TheVariants.{Given, Mark as Marked}, event.Caller.{Caller}, event.Entry.{Entry}, event.Event.{Event}, event.Event.TheVariants.{Fail, Settle, Mark, Arrive, Revoke, Spawn}, limits.Limits.{Limits}, place.Place.TheVariants.{List as ListAt, Comm as CommAt, Revoked as RevokedAt, Slot as SlotAt, Arrival as ArrivalAt}}
use Rattle.ulfm_model.specs.{History.{History, IsLegal, has_arrived, is_revoked, same_place, slot}, Words.{half_of, place_of, slot_half, slot_word, word_of}}
use Rattle.ulfm_laws.specs.Ranges.{payload_bits}
use Rattle.std.proofs.lemmas.Bool.{eq-eqb}
use Rattle.ulfm_model.proofs.{Histories.{legal_parts, slot_push}, WordRules.{word_some}}
use Rattle.ulfm_words.specs.declared.step.Step.{Step}
use Rattle.ulfm_words.specs.{Entries.{entry_by, entry_of, put_if, put_of}, Steps.{IsAdded, MaySet, Wins}, Tries.{MayDeclare, MayPut, MayMake, MayArrive, MayEnd, entry}}
use Rattle.ulfm_words.proofs.{Reading.{nothing, unlisted, not_made}, Pairs.{mark_half, slot_halves}}

-- the parts of a communicator's word
pub made_parts : (c k : ℕ) → k < 4096 → ((1 + c * 4096 + k - 1) / 4096 ≡ c) × ((1 + c * 4096 + k - 1) % 4096 ≡ k)
made_parts c k small = (omega (arith, small), omega (arith, small))

module _ {P : Type 0} (meld : P → P → P) (pack : P → ℕ) (unpack : ℕ → Option P) (limits : Limits) (seen : History P) (by : Caller) where
  pub may_declare : (i r : ℕ) → MayDeclare meld limits seen i r → MaySet meld pack unpack limits seen (record { place = ListAt i; word = r + 1; half = 0; by = by })
  may_declare i r may =
      record {
        entry = entry by (Fail r);
        is_entry = let back : r + 1 - 1 ≡ r = omega arith in ap (λ n. Some (entry by (Fail n))) back;
        word = refl;
        half = refl;
        legal = λ more begins legal none. let both = may more begins legal (unlisted meld pack limits more i 0 (sym none) refl) in (both.0, ap ListAt both.1);
      }

  pub may_make : (j c k : ℕ) → k < 4096 → MayMake meld limits seen j c k → MaySet meld pack unpack limits seen (record { place = CommAt j; word = 1 + c * 4096 + k; half = 0; by = by })
  may_make j c k small may =
      record {
        entry = entry by (Spawn j c k);
        is_entry = let parts = made_parts c k small in rw (parts.0, parts.1) refl;
        word = refl;
        half = refl;
        legal = λ more begins legal none. (may more begins legal (not_made meld pack limits more j 0 (sym none) refl), refl);
      }

  pub may_come : (c k r : ℕ) → MayArrive meld limits seen c k r → MaySet meld pack unpack limits seen (record { place = ArrivalAt c k r; word = 1; half = 0; by = by })
  may_come c k r may =
      record { entry = entry by (Arrive c k r); is_entry = refl; word = refl; half = refl; legal = λ more begins legal none. (may more begins legal (not_true (has_arrived more c k r) none), refl) }
    where
      not_true : (b : Bool) → (let n : ℕ = if b then 1 else 0 in n) ≡ 0 → b ≡ false
      not_true true e = absurd (omega (arith, e))
      not_true false e = refl

  pub may_end : (c : ℕ) → MayEnd meld limits seen c → MaySet meld pack unpack limits seen (record { place = RevokedAt c; word = 1; half = 0; by = by })
  may_end c may =
      record { entry = entry by (Revoke c); is_entry = refl; word = refl; half = refl; legal = λ more begins legal none. (may more begins legal (not_true (is_revoked more c) none), refl) }
    where
      not_true : (b : Bool) → (let n : ℕ = if b then 1 else 0 in n) ≡ 0 → b ≡ false
      not_true true e = absurd (omega (arith, e))
      not_true false e = refl

  put_word : (c k r : ℕ) (put : Slot P) → word_of pack (put_of c k r put) ≡ slot_word pack put
  put_word c k r (Marked mark) = refl
  put_word c k r (Given given) = refl

  put_half : (c k r : ℕ) (put : Slot P) → half_of pack (put_of c k r put) ≡ slot_half pack put
  put_half c k r (Marked mark) = sym (mark_half mark.known.count (omega (arith, mark.known.in_range)))
  put_half c k r (Given given) = refl

  put_place : (h : History P) (c k r : ℕ) (put : Slot P) → place_of h (put_of c k r put) ≡ SlotAt c k r
  put_place h c k r (Marked mark) = refl
  put_place h c k r (Given given) = refl

  pub slot_some : (put : Slot P) → 0 < slot_word pack put
  slot_some (Marked mark) = let e : Event P = Mark 0 0 0 mark in word_some pack e
  slot_some (Given given) = let e : Event P = Settle 0 0 0 given in word_some pack e

  module _ (back : (x : P) → unpack (pack x) ≡ Some x) (fits : (x : P) → pack x < 2 ^ payload_bits) where
    pub put_read : (c k r : ℕ) (put : Slot P) → entry_of unpack (record { place = SlotAt c k r; word = slot_word pack put; half = slot_half pack put; by = by }) ≡ Some (entry by (put_of c k r put))
    put_read c k r put = ap (λ o. entry_by by (put_if c k r o)) (slot_halves unpack pack back fits put)

    pub may_put : (c k r : ℕ) (put : Slot P) → MayPut meld limits seen c k r put → MaySet meld pack unpack limits seen (record { place = SlotAt c k r; word = slot_word pack put; half = slot_half pack put; by = by })
    may_put c k r put may =
        record {
          entry = entry by (put_of c k r put);
          is_entry = put_read c k r put;
          word = put_word c k r put;
          half = put_half c k r put;
          legal = λ more begins legal none. (may more begins legal (nothing (slot_word pack) (slot more c k r) slot_some none), put_place more c k r put);
        }

-- the event that came is that of the step
pub won_by : {P : Type 0} (pack : P → ℕ) (unpack : ℕ → Option P) (alone : Bool) (s : Step) (e : Entry P) (old new : History P) → entry_of unpack s ≡ Some e → Wins pack unpack alone s old new → IsAdded alone e old new
won_by pack unpack alone s e old new is wins = subst (λ x. IsAdded alone x old new) (same wins.entry e (sym wins.is_entry ∙ is)) wins.added
  where
    same : {X : Type 0} (x y : X) → (let o : Option X = Some x in o) ≡ Some y → x ≡ y
    same x y e = cc

pub same_entry : {P : Type 0} (x y : Entry P) → (let o : Option (Entry P) = Some x in o) ≡ Some y → x ≡ y
same_entry x y e = cc

-- what was put last stands
module _ {P : Type 0} (meld : P → P → P) (limits : Limits) where
  itself : (c k r : ℕ) → same_place (c, k, r) (c, k, r) ≡ true
  itself c k r = rw (eq-eqb c c refl, eq-eqb k k refl, eq-eqb r r refl) refl

  put_stands : (h : History P) (by : Caller) (c k r : ℕ) (put : Slot P) → IsLegal meld limits (h ++ entry by (put_of c k r put) ∷ []) → slot (h ++ entry by (put_of c k r put) ∷ []) c k r ≡ Some put
  put_stands h by c k r (Marked mark) legal =
      let may = (legal_parts meld limits h (entry by (Mark c k r mark) ∷ []) legal).1.0 in
      slot_push h (entry by (Mark c k r mark)) c k r may.1 ∙ ap (λ b. if b then Some (Marked mark) else None) (itself c k r)
  put_stands h by c k r (Given given) legal =
      let may = (legal_parts meld limits h (entry by (Settle c k r given) ∷ []) legal).1.0 in
      slot_push h (entry by (Settle c k r given)) c k r may.1 ∙ ap (λ b. if b then Some (Given given) else None) (itself c k r)

  pub added_stands : (alone : Bool) (old new : History P) (by : Caller) (c k r : ℕ) (put : Slot P) → IsLegal meld limits new → IsAdded alone (entry by (put_of c k r put)) old new → slot new c k r ≡ Some put
  added_stands alone old new by c k r put legal added =
      subst (λ h. slot h c k r ≡ Some put) (sym added.is) (put_stands added.before by c k r put (subst (IsLegal meld limits) added.is legal))

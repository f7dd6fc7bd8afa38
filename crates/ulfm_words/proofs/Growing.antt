-- A word that is set stays as it is.
use Rattle.std.proofs.Common.{◌≡◌, ℕ, zero, suc, ◌+◌, ◌*◌, ◌<◌, Bool, true, false, List, [], ◌∷◌, ◌++◌, Option, Some, None, slice_get, filter_map, refl, ap, sym, ◌∙◌, arith, append-nil, append_assoc, ◌==◌, if◌then◌else◌}
use Rattle.std.specs.List.{list_any}
use Rattle.std.proofs.lemmas.Bool.{or_left}
use Rattle.std.proofs.lemmas.List.Folds.{list_any-append}
use Rattle.std.proofs.lemmas.List.Elements.{filter_map-append}
use mathlib.Core.List.{IsPrefix}
use Rattle.ulfm_model.specs.declared.{place.Place.{Place}, place.Place.TheVariants.{List as ListAt, Comm as CommAt, Revoked as RevokedAt, Slot as SlotAt, Arrival as ArrivalAt}}
use Rattle.ulfm_model.specs.{History.{History, failures, has_arrived, is_revoked, same_place, says, slot, spawns}, Words.{slot_word, word_at}}
use Rattle.ulfm_model.specs.Terms.{word_or_zero}
use Rattle.ulfm_model.proofs.{Histories.{failures_begin, slot_stays}, Lists.{get_prefix}, Stable.{spawns_begin}}

pub prefix_self : {X : Type 0} (xs : List X) → IsPrefix xs xs
prefix_self xs = ([], append-nil xs)

pub prefix_push : {X : Type 0} (xs ys : List X) (x : X) → IsPrefix xs ys → IsPrefix xs (ys ++ x ∷ [])
prefix_push xs ys x begins = (begins.0 ++ x ∷ [], grow)
  where
    grow : xs ++ (begins.0 ++ x ∷ []) ≡ ys ++ x ∷ []
    grow = sym (append_assoc xs begins.0 (x ∷ [])) ∙ ap (λ w. w ++ x ∷ []) begins.1

-- an option that has a word keeps it
kept_some : {X : Type 0} (word : X → ℕ) (o p : Option X) → ((x : X) → o ≡ Some x → p ≡ Some x) → 0 < word_or_zero word o → word_or_zero word p ≡ word_or_zero word o
kept_some word None p stays set = absurd (omega (arith, set))
kept_some word (Some x) p stays set = ap (word_or_zero word) (stays x refl)

kept_true : (a b : Bool) → (a ≡ true → b ≡ true) → (let n : ℕ = if a then 1 else 0 in 0 < n) → (let n : ℕ = if b then 1 else 0 in n) ≡ (let n : ℕ = if a then 1 else 0 in n)
kept_true true b stays set = ap (λ x. if x then 1 else 0) (stays refl)
kept_true false b stays set = absurd (omega (arith, set))

any_stays : {X : Type 0} (p : X → Bool) (xs ys : List X) → IsPrefix xs ys → list_any p xs ≡ true → list_any p ys ≡ true
any_stays p xs ys begins is = ap (list_any p) (sym begins.1) ∙ (list_any-append p xs begins.0 ∙ or_left (list_any p xs) (list_any p begins.0) is)

picked_begins : {X Y : Type 0} (f : X → Option Y) (xs ys : List X) → IsPrefix xs ys → IsPrefix (filter_map f xs) (filter_map f ys)
picked_begins f xs ys begins = (filter_map f begins.0, sym (filter_map-append f xs begins.0) ∙ ap (filter_map f) begins.1)

module _ {P : Type 0} where
  pub revoked_stays : (h longer : History P) (c : ℕ) → IsPrefix h longer → is_revoked h c ≡ true → is_revoked longer c ≡ true
  revoked_stays h longer c begins is = any_stays (λ x. x == c) _ _ (picked_begins (λ e. (says e.event).revokes) h longer begins) is

  pub arrival_stays : (h longer : History P) (c k r : ℕ) → IsPrefix h longer → has_arrived h c k r ≡ true → has_arrived longer c k r ≡ true
  arrival_stays h longer c k r begins is = any_stays (λ place. same_place place (c, k, r)) _ _ (picked_begins (λ e. (says e.event).arrives) h longer begins) is

  pub word_stays : (pack : P → ℕ) (p : Place) (h longer : History P) → IsPrefix h longer → 0 < word_at pack h p → word_at pack longer p ≡ word_at pack h p
  word_stays pack (ListAt i) h longer begins set = kept_some (λ rank. rank + 1) (slice_get (failures h) i) (slice_get (failures longer) i) (λ x. get_prefix (failures h) (failures longer) i x (failures_begin h longer begins)) set
  word_stays pack (CommAt zero) h longer begins set = refl
  word_stays pack (CommAt (suc j)) h longer begins set =
      kept_some (λ made. 1 + made.0 * 4096 + made.1) (slice_get (spawns h) j) (slice_get (spawns longer) j) (λ x. get_prefix (spawns h) (spawns longer) j x (spawns_begin h longer begins)) set
  word_stays pack (RevokedAt c) h longer begins set = kept_true (is_revoked h c) (is_revoked longer c) (revoked_stays h longer c begins) set
  word_stays pack (SlotAt c k r) h longer begins set = kept_some (slot_word pack) (slot h c k r) (slot longer c k r) (λ s. slot_stays h longer c k r s begins) set
  word_stays pack (ArrivalAt c k r) h longer begins set = kept_true (has_arrived h c k r) (has_arrived longer c k r) (arrival_stays h longer c k r begins) set

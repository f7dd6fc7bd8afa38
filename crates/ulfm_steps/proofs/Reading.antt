-- Reading a round, member by member.
use Rattle.std.proofs.Common.{◌≡◌, ℕ, zero, suc, ◌+◌, ◌<◌, ◌==◌, true, List, [], ◌∷◌, ◌++◌, None, Some, length, take, slice_index_or, refl, ap, sym, ◌∙◌, arith, IsTrue, add-one}
use Rattle.std.specs.Option.{option_map_or}
use Rattle.std.proofs.lemmas.Bool.{eq-eqb, or_left, or_right}
use Rattle.std.proofs.Math.Seq.{take-suc}
use mathlib.Core.List.{IsPrefix}
use Rattle.ulfm_model.specs.declared.{limits.Limits.{Limits}, place.Place.TheVariants.{Slot as SlotAt}}
use Rattle.ulfm_model.specs.{History.{History, IsLegal, IsPlace, first_ranks, has, slot}, Words.{MayOpen, slot_word, word_at}}
use Rattle.ulfm_model.proofs.{Histories.{members_stay}}
use Rattle.ulfm_words.specs.{Places.{IsCell}, Steps.{Sight}, declared.step.Site.{Site}}
use Rattle.ulfm_words.proofs.Ranks.{place_within}
use Rattle.ulfm_steps.specs.Rounds.{IsMissing, IsRoundOf}

pub take_one_more : (xs : List ℕ) (i d : ℕ) → i < length xs → take (i + 1) xs ≡ take i xs ++ slice_index_or xs i d ∷ []
take_one_more xs i d lt = rw add-one (take-suc xs i d lt)

pub has_at : (xs : List ℕ) (i d : ℕ) → i < length xs → has xs (slice_index_or xs i d) ≡ true
has_at [] i d lt = absurd (omega arith)
has_at (x ∷ xs) zero d lt = or_left (x == x) (has xs x) (eq-eqb x x refl)
has_at (x ∷ xs) (suc i) d lt = or_right (x == slice_index_or xs i d) (has xs (slice_index_or xs i d)) (has_at xs i d (omega arith))

-- a member whose place was found empty is missing
pub missing_at : {P : Type 0} (pack : P → ℕ) (sight : Sight P) (c k i : ℕ) (group : List ℕ) → i < length group → slot sight.seen c k (slice_index_or group i 0) ≡ None
    → sight.last ≡ Some (record { at = Site.Place (SlotAt c k (slice_index_or group i 0)); word = word_at pack sight.seen (SlotAt c k (slice_index_or group i 0)); load = true }) → IsMissing sight.last sight.seen c k group
missing_at pack sight c k i group lt none last =
    let rank = slice_index_or group i 0 in
    let word : word_at pack sight.seen (SlotAt c k rank) ≡ 0 = ap (λ s. option_map_or (slot_word pack) s 0) none in
    record { rank = rank; member = has_at group i 0 lt; empty = none; found = last ∙ ap (λ w. Some (record { at = Site.Place (SlotAt c k rank); word = w; load = true })) word }

module _ {P : Type 0} (limits : Limits) where
  -- the members of a round stay
  pub round_stays : (h longer : History P) (c k : ℕ) (group : List ℕ) → IsPrefix h longer → IsRoundOf limits h c k group → IsRoundOf limits longer c k group
  round_stays h longer c k group begins round =
      let same = members_stay limits.ranks h longer c begins round.exists in
      record { exists = same.0; group_is = round.group_is ∙ sym same.1; in_rounds = round.in_rounds }

  -- all ranks, in order, are the members of the world's own communicator
  pub world_round : (h : History P) (k : ℕ) → k < limits.rounds → IsRoundOf limits h 0 k (first_ranks limits.ranks)
  world_round h k lt =
      let begins : IsPrefix [] h = (h, refl) in
      let same = members_stay limits.ranks [] h 0 begins (omega arith) in
      record { exists = same.0; group_is = sym same.1; in_rounds = lt }

  -- each member has a place in it
  pub member_place : (h : History P) (c k r : ℕ) (group : List ℕ) → IsRoundOf limits h c k group → IsTrue (has group r) → IsPlace limits h c k r
  member_place h c k r group round member = record { exists = round.exists; member = ap (λ ms. has ms r) (sym round.group_is) ∙ member; in_rounds = round.in_rounds }

  pub member_within : (meld : P → P → P) (h : History P) (c k r : ℕ) (group : List ℕ) → IsLegal meld limits h → MayOpen limits → IsRoundOf limits h c k group → IsTrue (has group r) → IsCell limits c k r
  member_within meld h c k r group legal may round member = place_within meld limits h c k r legal may (member_place h c k r group round member)

-- What the word at a place says of the history.
use Rattle.std.proofs.Common.{◌≡◌, ◌≢◌, ℕ, zero, suc, ◌+◌, ◌-◌, ◌*◌, ◌/◌, ◌%◌, ◌^◌, ◌<◌, Option, Some, None, IsSome, is_some, slice_get, refl, ap, sym, ◌∙◌, arith}
use Rattle.ulfm_model.specs.declared.{block.Block.{Block}, block.Wing.{Wing}, contribution.Contribution.{Contribution}, contribution.MarkCount.{MarkCount}, contribution.Offer.{Offer}, contribution.Offer.TheVariants.{Flag, Ctx}, contribution.Slot.{Slot}, contribution.Slot.TheVariants.{Given, Mark as Marked}, limits.Limits.{Limits}, place.Place.TheVariants.{List as ListAt, Comm as CommAt, Slot as SlotAt}}
use Rattle.ulfm_model.specs.{History.{History, IsLegal, failures, slot, spawns}, Words.{MayOpen, slot_word, word_at}}
use Rattle.ulfm_model.specs.Terms.{made_at, word_or_zero}
use Rattle.ulfm_model.specs.{Blocks.{IsBlock, IsWing, block_wing, block_word}, Laws.{summary_of}, Words.{first_word, offer_number, packed, slot_wing, upper_half, wing_word}}
use mathlib.Core.List.{IsPrefix}
use Rattle.ulfm_model.proofs.{Blocks.{block_stays}, Histories.{slot_stays}}
use Rattle.ulfm_words.specs.{Blocks.{IsFirstOf}, Slots.{tag_in}}
use Rattle.ulfm_words.proofs.{BlockWords.{slot_is_said}, Pairs.{mark_half}, Ranks.{failure_below, made_below}}

-- nothing stands where the word is 0
pub nothing : {X : Type 0} (word : X → ℕ) (o : Option X) → ((x : X) → 0 < word x) → word_or_zero word o ≡ 0 → o ≡ None
nothing word None some e = refl
nothing word (Some x) some e = absurd (omega (arith, some x, e))

module _ {P : Type 0} (meld : P → P → P) (pack : P → ℕ) (limits : Limits) (h : History P) where
  rank_of : (o : Option ℕ) (w : ℕ) → w ≡ word_or_zero (λ rank. rank + 1) o → w ≢ 0 → o ≡ Some (w - 1)
  rank_of None w e some = absurd (some e)
  rank_of (Some r) w e some = ap Some (omega (arith, e))

  -- an entry of the list of failures
  pub listed : (i w : ℕ) → IsLegal meld limits h → w ≡ word_at pack h (ListAt i) → w ≢ 0 → (slice_get (failures h) i ≡ Some (w - 1)) × (w - 1 < limits.ranks)
  listed i w legal e some = let there = rank_of (slice_get (failures h) i) w e some in (there, failure_below meld limits h i (w - 1) legal there)

  pub unlisted : (i w : ℕ) → w ≡ word_at pack h (ListAt i) → w ≡ 0 → slice_get (failures h) i ≡ None
  unlisted i w e none = nothing (λ rank. rank + 1) (slice_get (failures h) i) (λ x. omega arith) (sym e ∙ none)

  parts : (c k w : ℕ) → k < 4096 → w ≡ 1 + c * 4096 + k → ((w - 1) / 4096 ≡ c) × ((w - 1) % 4096 ≡ k)
  parts c k w small e = (omega (arith, small, e), omega (arith, small, e))

  made_of : (o : Option (ℕ × ℕ)) (w : ℕ) → w ≡ word_or_zero (λ made. 1 + made.0 * 4096 + made.1) o → w ≢ 0 → ((c k : ℕ) → o ≡ Some (c, k) → (c < limits.comms) × (k < limits.rounds)) → MayOpen limits
      → (o ≡ Some ((w - 1) / 4096, (w - 1) % 4096)) × ((w - 1) / 4096 < 256)
  made_of None w e some below may = absurd (some e)
  made_of (Some (c, k)) w e some below may =
      let lt = below c k refl in
      let p = parts c k w (omega (arith, lt.1, may.in_range.rounds)) e in
      (rw (p.0, p.1) refl, omega (arith, lt.0, may.in_range.comms, p.0))

  -- an entry of the list of communicators
  pub made_is : (j w : ℕ) → IsLegal meld limits h → MayOpen limits → w ≡ word_at pack h (CommAt j) → w ≢ 0 → (made_at h j ≡ Some ((w - 1) / 4096, (w - 1) % 4096)) × ((w - 1) / 4096 < 256)
  made_is zero w legal may e some = absurd (some e)
  made_is (suc j) w legal may e some = made_of (slice_get (spawns h) j) w e some (λ c k. made_below meld limits h legal j c k) may

  pub not_made : (j w : ℕ) → w ≡ word_at pack h (CommAt j) → w ≡ 0 → made_at h j ≡ None
  not_made zero w e none = refl
  not_made (suc j) w e none = nothing (λ made. 1 + made.0 * 4096 + made.1) (slice_get (spawns h) j) (λ x. omega arith) (sym e ∙ none)

-- a word that isn't 0 is that of the slot that stands there
pub slot_some_word : {P : Type 0} (pack : P → ℕ) (h : History P) (c k r w : ℕ) → w ≡ word_at pack h (SlotAt c k r) → w ≢ 0 → (s : Slot P) × (slot h c k r ≡ Some s) × (w ≡ slot_word pack s)
slot_some_word {P} pack h c k r w e some = go (slot h c k r) refl
  where
    go : (o : Option (Slot P)) → slot h c k r ≡ o → (s : Slot P) × (slot h c k r ≡ Some s) × (w ≡ slot_word pack s)
    go None is = absurd (some (e ∙ ap (word_or_zero (slot_word pack)) is))
    go (Some s) is = (s, is, e ∙ ap (word_or_zero (slot_word pack)) is)

module _ {P : Type 0} (pack : P → ℕ) where
  -- a word with a mark's tag is a mark's, and with another a contribution's
  given_tag : (g : Contribution P) (o : Offer P) → 0 < tag_in (first_word (offer_number pack g.known.count g.acked.count o))
  given_tag g (Flag flag) = omega arith
  given_tag g (Ctx mask) = omega arith

  pub marked_of : (s : Slot P) → tag_in (slot_word pack s) ≡ 0 → (m : MarkCount) × (s ≡ Marked m)
  marked_of (Marked m) tag = (m, refl)
  marked_of (Given g) tag = absurd (omega (arith, given_tag g g.offer, tag))

  pub given_of : (s : Slot P) → tag_in (slot_word pack s) ≢ 0 → (g : Contribution P) × (s ≡ Given g)
  given_of (Marked m) tag = absurd (tag (mark_tag m.known.count))
    where
      mark_tag : (n : ℕ) → tag_in (first_word (packed 0 n 2047 0)) ≡ 0
      mark_tag n = omega arith
  given_of (Given g) tag = (g, refl)

  -- a slot's word is that of what it says, and so is a contribution's wing
  pub slot_word_said : (s : Slot P) → slot_word pack s ≡ block_word pack (summary_of s)
  slot_word_said s = ap first_word (slot_is_said pack s)

  pub given_wing_said : (g : Contribution P) → slot_wing pack (Given g) ≡ block_wing pack (summary_of (Given g))
  given_wing_said g = ap (λ n. wing_word (upper_half n)) (slot_is_said pack (Given g))

  -- a mark's wing would have no half
  pub mark_wing_said : (m : MarkCount) → (let s : Slot P = Marked m in 1 ≡ block_wing pack (summary_of s))
  mark_wing_said m = let none = mark_half m.known.count (omega (arith, m.known.in_range)) in omega (arith, none)

  -- both words of a contribution say what it says
  pub both_said : (h longer : History P) (c k r v w : ℕ) → IsPrefix h longer → IsFirstOf pack (slot h c k r) v → (stands : (g : Contribution P) × (slot longer c k r ≡ Some (Given g)) × (w ≡ slot_wing pack (Given g)))
      → (v ≡ block_word pack (summary_of (Given stands.0))) × (w ≡ block_wing pack (summary_of (Given stands.0)))
  both_said h longer c k r v w begins first stands =
      let still = slot_stays h longer c k r (Given first.0) begins first.1 in
      let same : first.0 ≡ stands.0 = cc (still, stands.1) in
      (first.2 ∙ (ap (λ (g : Contribution P). slot_word pack (Given g)) same ∙ slot_word_said (Given stands.0)), stands.2 ∙ given_wing_said stands.0)

  -- both words of a block say what its members say
  pub block_both_said : (meld : P → P → P) (ranks : ℕ) (h longer : History P) (b : Block) (v w : ℕ) → IsPrefix h longer → IsBlock meld pack ranks h b v → (stands : IsWing meld pack ranks longer (Wing.Block b) w)
      → (v ≡ block_word pack stands.all) × (w ≡ block_wing pack stands.all)
  block_both_said meld ranks h longer b v w begins is stands =
      let still = block_stays meld pack ranks h longer b v begins is in
      (still.word_is ∙ ap (block_word pack) (still.summed.is ∙ sym stands.summed.is), stands.word_is)

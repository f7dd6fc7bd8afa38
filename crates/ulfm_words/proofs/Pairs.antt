-- The two words of a slot or a block: a number's lowest bits, and a wing with the others.
use Rattle.std.proofs.Common.{◌≡◌, ◌↔◌, ℕ, ◌+◌, ◌*◌, ◌%◌, ◌^◌, ◌<◌, Bool, true, false, cond, Option, Some, None, IsSome, IfSome, is_some, refl, ap, ap₂, sym, ◌∙◌, subst, arith, mod-eq_of_lt}
use Rattle.std.proofs.lemmas.Bool.Decides.{nat_tests}
use Rattle.ulfm_laws.specs.{declared.summary.CtxMask.{CtxMask}, Counts.{acked_le}, Masks.{same_mask}, Ranges.{payload_bits}}
use Rattle.ulfm_laws.specs.declared.summary.Summary.{Summary}
use Rattle.ulfm_model.specs.declared.{contribution.Contribution.{Contribution}, contribution.Offer.{Offer}, contribution.Offer.TheVariants.{Flag, Ctx}, contribution.Slot.{Slot}, contribution.Slot.TheVariants.{Given, Mark as Marked}}
use Rattle.ulfm_model.specs.{Blocks.{block_number, block_wing, block_word}, Words.{first_word, half_bits, offer_number, packed, slot_half, slot_number, slot_wing, slot_word, upper_half, wing_word, word_bits}}
use Rattle.ulfm_words.specs.{Blocks.{BlocksAreRead, BlocksHaveOneWord, IsNumberOf}, Slots.{HasPair, HaveOneWord, IsExact, IsFlag, IsSlotPair, acked_in, flag_offer, given_of, half_in, is_mark_word, is_pair, is_wing_word, known_in, mark_if, mask_of, number_bits, offer_wing, number_in, payload_in, slot_in, slot_of, tag_in}}
use Rattle.ulfm_words.proofs.BlockWords.{is_number, number_below, one_number, one_summary}
use Rattle.ulfm_words.proofs.SlotWords.{OfferIn, one_word, read_at, slot_back, slot_exactly, sound, tag_back}

-- both words have the whole number
pub number_back : (n : ℕ) → number_in (first_word n) (upper_half n) ≡ n
number_back n = omega arith

pub half_back : (h : ℕ) → half_in (wing_word h) ≡ h
half_back h = omega arith

pub pair_back : (n : ℕ) → number_in (first_word n) (half_in (wing_word (upper_half n))) ≡ n
pair_back n = ap (number_in (first_word n)) (half_back (upper_half n)) ∙ number_back n

-- what comes of a word and a half is in them
pub first_back : (word half : ℕ) → word < 2 ^ word_bits → first_word (number_in word half) ≡ word
first_back word half small = omega (arith, small)

pub upper_back : (word half : ℕ) → word < 2 ^ word_bits → upper_half (number_in word half) ≡ half
upper_back word half small = omega (arith, small)

pub first_small : (n : ℕ) → first_word n < 2 ^ word_bits
first_small n = omega arith

pub upper_small : (n : ℕ) → n < 2 ^ number_bits → upper_half n < 2 ^ half_bits
upper_small n small = omega (arith, small)

pub wing_small : (wing : ℕ) → is_wing_word wing ≡ true → (wing % 2 ≡ 1) × (wing < 2 ^ (1 + half_bits))
wing_small wing is = (grind (arith, nat_tests), grind (arith, nat_tests))

pub wing_formed : (wing : ℕ) → wing % 2 ≡ 1 → wing < 2 ^ (1 + half_bits) → is_wing_word wing ≡ true
wing_formed wing odd small = grind (arith, nat_tests)

pub wing_is : (h : ℕ) → h < 2 ^ half_bits → is_wing_word (wing_word h) ≡ true
wing_is h small = wing_formed (wing_word h) (omega arith) (omega (arith, small))

pub wing_again : (wing : ℕ) → is_wing_word wing ≡ true → wing_word (half_in wing) ≡ wing
wing_again wing is = let parts = wing_small wing is in omega (arith, parts.0)

-- the parts of a number before its payload are those of its word
pub number_odd : (word half : ℕ) → number_in word half % 2 ≡ word % 2
number_odd word half = omega arith

pub number_tag : (word half : ℕ) → tag_in (number_in word half) ≡ tag_in word
number_tag word half = omega arith

pub number_known : (word half : ℕ) → known_in (number_in word half) ≡ known_in word
number_known word half = omega arith

pub number_acked : (word half : ℕ) → acked_in (number_in word half) ≡ acked_in word
number_acked word half = omega arith

pub number_payload : (word half : ℕ) → payload_in (number_in word half) ≡ payload_in word + half * 2 ^ half_bits
number_payload word half = omega arith

pub number_small : (word wing : ℕ) → word < 2 ^ word_bits → wing < 2 ^ (1 + half_bits) → number_in word (half_in wing) < 2 ^ number_bits
number_small word wing small short = omega (arith, small, short)

-- a mark's number has no upper half
pub mark_number : (known : ℕ) → known < 2048 → packed 0 known 2047 0 < 2 ^ word_bits
mark_number known small = omega (arith, small)

pub mark_half : (known : ℕ) → known < 2048 → upper_half (packed 0 known 2047 0) ≡ 0
mark_half known small = omega (arith, small)

first_is : (n : ℕ) → n < 2 ^ word_bits → first_word n ≡ n
first_is n small = omega (arith, small)

whole : (n : ℕ) → number_in n (half_in 0) ≡ n
whole n = omega arith

first_tag : (n : ℕ) → tag_in (first_word n) ≡ tag_in n
first_tag n = omega arith

pair_mark : (word : ℕ) → word < 2 ^ word_bits → tag_in word ≡ 0 → is_pair word 0 ≡ true
pair_mark word small tag = grind (arith, nat_tests)

pair_given : (word wing : ℕ) → word < 2 ^ word_bits → 0 < tag_in word → is_wing_word wing ≡ true → is_pair word wing ≡ true
pair_given word wing small tag is = grind (arith, nat_tests)

-- what two words that may be a slot's are
pub pair_small : (word wing : ℕ) → is_pair word wing ≡ true → word < 2 ^ word_bits
pair_small word wing is = grind (arith, nat_tests)

pub pair_zero : (word wing : ℕ) → is_pair word wing ≡ true → tag_in word ≡ 0 → wing ≡ 0
pair_zero word wing is tag = grind (arith, nat_tests)

pub pair_wing : (word wing : ℕ) → is_pair word wing ≡ true → 0 < tag_in word → is_wing_word wing ≡ true
pair_wing word wing is tag = grind (arith, nat_tests)

module _ {P : Type 0} (unpack : ℕ → Option P) where
  pub of_pair : (word wing : ℕ) → is_pair word wing ≡ true → slot_of unpack word wing ≡ slot_in unpack (number_in word (half_in wing))
  of_pair word wing is = ap (λ b. cond b (slot_in unpack (number_in word (half_in wing))) None) is

  pub of_none : (word wing : ℕ) → is_pair word wing ≡ false → slot_of unpack word wing ≡ None
  of_none word wing is = ap (λ b. cond b (slot_in unpack (number_in word (half_in wing))) None) is

  -- what is read has a pair
  pub pair_of : (word wing : ℕ) (s : Slot P) → slot_of unpack word wing ≡ Some s → (is_pair word wing ≡ true) × (slot_in unpack (number_in word (half_in wing)) ≡ Some s)
  pair_of word wing s e = go (is_pair word wing) refl
    where
      go : (b : Bool) → is_pair word wing ≡ b → (is_pair word wing ≡ true) × (slot_in unpack (number_in word (half_in wing)) ≡ Some s)
      go true is = (is, sym (of_pair word wing is) ∙ e)
      go false is = let none = of_none word wing is in absurd (cc (none, e))

  -- the words and wings that are read are those of slots
  pub pair_exactly : (word wing : ℕ) → IsSome (slot_of unpack word wing) ↔ IsSlotPair unpack word wing
  pair_exactly word wing = (go (is_pair word wing) refl, λ is. subst IsSome (sym (of_pair word wing is.pair)) ((slot_exactly unpack (number_in word (half_in wing))).1 is.number))
    where
      go : (b : Bool) → is_pair word wing ≡ b → IsSome (slot_of unpack word wing) → IsSlotPair unpack word wing
      go true is some = record { pair = is; number = (slot_exactly unpack (number_in word (half_in wing))).0 (subst IsSome (of_pair word wing is) some) }
      go false is some = absurd (cc (some, ap is_some (of_none word wing is)))

  module _ (pack : P → ℕ) where
    has_pair : (word wing : ℕ) (s : Slot P) → is_pair word wing ≡ true → slot_in unpack (number_in word (half_in wing)) ≡ Some s → slot_number pack s ≡ number_in word (half_in wing) → HasPair pack word wing s
    has_pair word wing (Marked mark) is e same =
        let small = pair_small word wing is in
        let reads = (sound unpack (number_in word (half_in wing)) (Marked mark) e).2 in
        (ap first_word same ∙ first_back word (half_in wing) small, sym (pair_zero word wing is (sym (number_tag word (half_in wing)) ∙ reads.0.tag)))
    has_pair word wing (Given given) is e same =
        let small = pair_small word wing is in
        let n = number_in word (half_in wing) in
        let some : 0 < tag_in word = tagged_some given.offer (sound unpack n (Given given) e).2.2 in
        (ap first_word same ∙ first_back word (half_in wing) small, ap (λ m. wing_word (upper_half m)) same ∙ (ap wing_word (upper_back word (half_in wing) small) ∙ wing_again wing (pair_wing word wing is some)))
      where
        tagged_some : (offer : Offer P) → OfferIn unpack (number_in word (half_in wing)) offer → 0 < tag_in word
        tagged_some (Flag flag) there = omega (arith, number_tag word (half_in wing), there.0)
        tagged_some (Ctx mask) there = omega (arith, number_tag word (half_in wing), there.0)

    -- marks and masks have one word and one wing, and so do flags where each payload is the packing of what it unpacks to
    pub one_pair : (word wing : ℕ) → IfSome (slot_of unpack word wing) (λ s. (IsFlag s → IsExact pack unpack) → HasPair pack word wing s)
    one_pair word wing = go (slot_of unpack word wing) refl
      where
        at : (s : Slot P) (o : Option (Slot P)) → o ≡ Some s → IfSome o (λ s. (IsFlag s → IsExact pack unpack) → slot_number pack s ≡ number_in word (half_in wing)) → (IsFlag s → IsExact pack unpack) → slot_number pack s ≡ number_in word (half_in wing)
        at s o e all = subst (λ (x : Option (Slot P)). IfSome x (λ s. (IsFlag s → IsExact pack unpack) → slot_number pack s ≡ number_in word (half_in wing))) e all

        go : (o : Option (Slot P)) → slot_of unpack word wing ≡ o → IfSome o (λ s. (IsFlag s → IsExact pack unpack) → HasPair pack word wing s)
        go None e = tt
        go (Some s) e = λ exact.
            let both = pair_of word wing s e in
            let n = number_in word (half_in wing) in
            has_pair word wing s both.0 both.1 (at s (slot_in unpack n) both.1 (one_word unpack pack n) exact)

    pub have_one_pair : IsExact pack unpack → HaveOneWord pack unpack
    have_one_pair exact word wing s e = subst (λ (x : Option (Slot P)). IfSome x (λ s. (IsFlag s → IsExact pack unpack) → HasPair pack word wing s)) e (one_pair word wing) (λ flag. exact)

    module _ (back : (x : P) → unpack (pack x) ≡ Some x) (fits : (x : P) → pack x < 2 ^ payload_bits) where
      number_lt : (s : Slot P) → slot_number pack s < 2 ^ number_bits
      number_lt s = (sound unpack (slot_number pack s) s (slot_back unpack pack back fits s)).1

      pub half_lt : (s : Slot P) → upper_half (slot_number pack s) < 2 ^ half_bits
      half_lt s = upper_small (slot_number pack s) (number_lt s)

      -- a slot's word and wing are read as that slot
      pub slot_pair : (s : Slot P) → slot_of unpack (slot_word pack s) (slot_wing pack s) ≡ Some s
      slot_pair (Marked mark) =
          let n = slot_number pack (Marked mark) in
          let small : n < 2 ^ word_bits = mark_number mark.known.count (omega (arith, mark.known.in_range)) in
          let tag : tag_in (first_word n) ≡ 0 = first_tag n ∙ tag_back 0 mark.known.count 2047 0 (omega arith) in
          of_pair (first_word n) 0 (pair_mark (first_word n) (first_small n) tag) ∙ (ap (slot_in unpack) (whole (first_word n) ∙ first_is n small) ∙ slot_back unpack pack back fits (Marked mark))
      slot_pair (Given given) =
          let n = slot_number pack (Given given) in
          let tag : 0 < tag_in (first_word n) = omega (arith, first_tag n, tag_some given.offer) in
          of_pair (first_word n) (wing_word (upper_half n)) (pair_given (first_word n) (wing_word (upper_half n)) (first_small n) tag (wing_is (upper_half n) (half_lt (Given given))))
          ∙ (ap (slot_in unpack) (pair_back n) ∙ slot_back unpack pack back fits (Given given))
        where
          tag_some : (offer : Offer P) → 0 < tag_in (offer_number pack given.known.count given.acked.count offer)
          tag_some (Flag flag) = omega (arith, tag_back 1 given.known.count given.acked.count (pack flag) (omega arith))
          tag_some (Ctx mask) = omega (arith, tag_back 2 given.known.count given.acked.count mask.bits (omega arith))

      -- .. by the halves of a step
      pub slot_halves : (s : Slot P) → slot_in unpack (number_in (slot_word pack s) (slot_half pack s)) ≡ Some s
      slot_halves s = ap (slot_in unpack) (number_back (slot_number pack s)) ∙ slot_back unpack pack back fits s

      pub are_read : BlocksAreRead pack unpack
      are_read all some =
          let n = block_number pack all in
          record {
            first = first_small n;
            second = wing_is (upper_half n) (upper_small n (number_below pack unpack back fits all));
            number = subst (λ m. IsNumberOf unpack m all) (sym (pair_back n)) (is_number pack unpack back fits all some);
          }

    pub have_one_word : BlocksHaveOneWord pack unpack
    have_one_word word wing all is = (
      λ other that. one_summary pack unpack (number_in word (half_in wing)) other all that.number is.number,
      λ exact.
          let same = one_number pack unpack (number_in word (half_in wing)) all is.number exact in
          (ap first_word same ∙ first_back word (half_in wing) is.first, ap (λ m. wing_word (upper_half m)) same ∙ (ap wing_word (upper_back word (half_in wing) is.first) ∙ wing_again wing is.second)),
    )

-- a block's two words have its number
pub words_number : {P : Type 0} (pack : P → ℕ) (word wing : ℕ) (s : Summary P) → word ≡ block_word pack s → wing ≡ block_wing pack s → number_in word (half_in wing) ≡ block_number pack s
words_number pack word wing s first second = ap (λ w. number_in w (half_in wing)) first ∙ (ap (λ v. number_in (block_word pack s) (half_in v)) second ∙ pair_back (block_number pack s))

-- what two words are read as, by their tag
module _ {P : Type 0} (unpack : ℕ → Option P) (word wing : ℕ) (odd : word % 2 ≡ 1) (small : word < 2 ^ word_bits) where
  pub read_mark : tag_in word ≡ 0 → wing ≡ 0 → slot_of unpack word wing ≡ mark_if word (is_mark_word word) refl
  read_mark tag none =
      let pair : is_pair word 0 ≡ true = pair_mark word small tag in
      ap (slot_of unpack word) none ∙ (of_pair unpack word 0 pair ∙ (ap (slot_in unpack) (whole word) ∙ read_at unpack word 0 odd (omega (arith, small)) tag))

  module _ (is : is_wing_word wing ≡ true) (some : 0 < tag_in word) where
    n : ℕ
    n = number_in word (half_in wing)

    number_is : slot_of unpack word wing ≡ slot_in unpack n
    unfolding n
    number_is = of_pair unpack word wing (pair_given word wing small some is)

    below_is : n < 2 ^ number_bits
    unfolding n
    below_is = number_small word wing small (wing_small wing is).1

    odd_is : n % 2 ≡ 1
    unfolding n
    odd_is = number_odd word (half_in wing) ∙ odd

    known_is : known_in n ≡ known_in word
    unfolding n
    known_is = number_known word (half_in wing)

    acked_is : acked_in n ≡ acked_in word
    unfolding n
    acked_is = number_acked word (half_in wing)

    given_is_read : (o : Option (Offer P)) → given_of (known_in n) (acked_in n) o ≡ given_of (known_in word) (acked_in word) o
    given_is_read o = ap₂ (λ k a. given_of k a o) known_is acked_is

    pub read_flag : (payload : ℕ) → payload ≡ payload_in (number_in word (half_in wing)) → tag_in word ≡ 1 → slot_of unpack word wing ≡ given_of (known_in word) (acked_in word) (flag_offer (unpack payload))
    unfolding n
    read_flag payload is_payload tag =
        number_is ∙ (read_at unpack n 1 odd_is below_is (number_tag word (half_in wing) ∙ tag)
        ∙ (given_is_read (flag_offer (unpack (payload_in n))) ∙ ap (λ p. given_of (known_in word) (acked_in word) (flag_offer (unpack p))) (sym is_payload)))

    pub read_ids : (mask : CtxMask) → mask.bits ≡ payload_in (number_in word (half_in wing)) → tag_in word ≡ 2 → slot_of unpack word wing ≡ given_of (known_in word) (acked_in word) (Some (Ctx mask))
    unfolding n
    read_ids mask bits tag =
        let short : payload_in n < 2 ^ payload_bits = omega (arith, below_is) in
        let same : mask_of (payload_in n) ≡ mask = same_mask (mask_of (payload_in n)) mask (mod-eq_of_lt short ∙ sym bits) in
        number_is ∙ (read_at unpack n 2 odd_is below_is (number_tag word (half_in wing) ∙ tag) ∙ (given_is_read (Some (Ctx (mask_of (payload_in n)))) ∙ ap (λ m. given_of (known_in word) (acked_in word) (Some (Ctx m))) same))

-- a contribution's wing is that of its offer
pub given_wing : {P : Type 0} (pack : P → ℕ) (g : Contribution P) → slot_wing pack (Given g) ≡ offer_wing pack g.offer
given_wing {P} pack g = by_offer g.offer
  where
    by_offer : (o : Offer P) → wing_word (upper_half (offer_number pack g.known.count g.acked.count o)) ≡ offer_wing pack o
    by_offer (Flag flag) = let few = acked_le g.acked.count g.acked.in_range in omega (arith, g.known.in_range, few)
    by_offer (Ctx mask) = let few = acked_le g.acked.count g.acked.in_range in omega (arith, g.known.in_range, few)

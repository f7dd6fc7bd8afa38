-- Each slot has a number, which is read as that slot.
use Rattle.std.proofs.Common.{◌≡◌, ◌↔◌, ◌⊎◌, inl, inr, ℕ, ◌%◌, ◌≤◌, ◌<◌, ◌^◌, ◌==◌, Bool, true, false, cond, Option, Some, None, IsSome, IfSome, is_some, refl, ap, sym, ◌∙◌, subst, arith, lit<, mod-lt, mod-eq_of_lt}
use Rattle.std.proofs.lemmas.Bool.Decides.{nat_tests}
use Rattle.std.specs.Coded.{le_prop}
use Rattle.ulfm_laws.specs.{declared.summary.Known.{Known}, declared.summary.Acked.{Acked}, declared.summary.CtxMask.{CtxMask}, Counts.{same_known, same_acked, acked_le}, Flags.{flag_unpack}, Masks.{same_mask}}
use Rattle.ulfm_model.specs.declared.{contribution.Contribution.{Contribution}, contribution.MarkCount.{MarkCount}, contribution.Offer.{Offer}, contribution.Offer.TheVariants.{Flag, Ctx}, contribution.Slot.{Slot}, contribution.Slot.TheVariants.{Given, Mark as Marked}}
use Rattle.ulfm_laws.specs.Ranges.{payload_bits}
use Rattle.ulfm_model.specs.Words.{packed, slot_number}
use Rattle.ulfm_model.proofs.Lists.{is_some_of}
use Rattle.ulfm_words.specs.Slots.{tag_in, known_in, acked_in, payload_in, IsMarkWord, IsGivenWord, IsSlotNumber, IsFlag, IsFlagOffer, IsExact, is_formed, number_bits, is_mark_word, are_counts, mark_if, given_if, given_of, mask_of, flag_offer, tagged, slot_in}

-- the parts of a word are those that it was made of

pub tag_back : (t k a p : ℕ) → t < 4 → tag_in (packed t k a p) ≡ t
tag_back t k a p lt = omega arith

pub known_back : (t k a p : ℕ) → t < 4 → k < 2048 → known_in (packed t k a p) ≡ k
known_back t k a p t_lt k_lt = omega arith

pub acked_back : (t k a p : ℕ) → t < 4 → k < 2048 → a < 2048 → acked_in (packed t k a p) ≡ a
acked_back t k a p t_lt k_lt a_lt = omega arith

pub payload_back : (t k a p : ℕ) → t < 4 → k < 2048 → a < 2048 → payload_in (packed t k a p) ≡ p
payload_back t k a p t_lt k_lt a_lt = omega arith

pub odd : (t k a p : ℕ) → packed t k a p % 2 ≡ 1
odd t k a p = omega arith

pub below : (t k a p : ℕ) → t < 4 → k < 2048 → a < 2048 → p < 2 ^ payload_bits → packed t k a p < 2 ^ number_bits
below t k a p t_lt k_lt a_lt p_lt = omega arith

pub parts_are : (w t k a p : ℕ) → w % 2 ≡ 1 → tag_in w ≡ t → known_in w ≡ k → acked_in w ≡ a → payload_in w ≡ p → packed t k a p ≡ w
parts_are w t k a p first tag known acked payload = omega arith

-- values with the same counts are the same

pub same_mark : (x y : MarkCount) → x.known.count ≡ y.known.count → x ≡ y
same_mark x y e =
    let Q : Known → Type 0 = λ k. (counted : 0 < k.count) → x ≡ record { known = k; counted = counted } in
    subst Q (same_known x.known y.known e) (λ r. let mk : (0 < x.known.count) → MarkCount = λ f. record { known = x.known; counted = f } in ap mk (le_prop x.counted r)) y.counted

module _ {P : Type 0} where
  same_within : (offer : Offer P) (k : Known) (a : Acked) (x y : a.count ≤ k.count) → (let c : Contribution P = record { offer = offer; known = k; acked = a; within = x } in c) ≡ record { offer = offer; known = k; acked = a; within = y }
  same_within offer k a x y = let mk : (a.count ≤ k.count) → Contribution P = λ f. record { offer = offer; known = k; acked = a; within = f } in ap mk (le_prop x y)

  pub same_given : (x y : Contribution P) → x.offer ≡ y.offer → x.known.count ≡ y.known.count → x.acked.count ≡ y.acked.count → x ≡ y
  same_given x y offer known acked =
      let Q : Offer P → Known → Acked → Type 0 = λ o k a. (within : a.count ≤ k.count) → x ≡ record { offer = o; known = k; acked = a; within = within } in
      let first : Q x.offer x.known x.acked = λ w. same_within x.offer x.known x.acked x.within w in
      let second : Q y.offer x.known x.acked = subst (λ o. Q o x.known x.acked) offer first in
      let third : Q y.offer y.known x.acked = subst (λ k. Q y.offer k x.acked) (same_known x.known y.known known) second in
      subst (λ a. Q y.offer y.known a) (same_acked x.acked y.acked acked) third y.within

  -- what a word is read as
  pub mark_is : (w : ℕ) (m : MarkCount) (b : Bool) (is : is_mark_word w ≡ b) → b ≡ true → m.known.count ≡ known_in w → (let o : Option (Slot P) = mark_if w b is in o) ≡ Some (Marked m)
  mark_is w m true is holds known = ap (λ x. Some (Marked x)) (same_mark _ m (sym known))
  mark_is w m false is holds known = absurd cc

  pub given_is : (offer : Offer P) (g : Contribution P) (known acked : ℕ) (b : Bool) (is : are_counts known acked ≡ b) → b ≡ true → g.offer ≡ offer → g.known.count ≡ known → g.acked.count ≡ acked → given_if offer known acked b is ≡ Some (Given g)
  given_is offer g known acked true is holds o k a = ap (λ x. Some (Given x)) (same_given _ g (sym o) (sym k) (sym a))
  given_is offer g known acked false is holds o k a = absurd cc

pub counts_are : (known acked : ℕ) → acked ≤ known → known ≤ 1024 → are_counts known acked ≡ true
counts_are known acked le small = grind (arith, nat_tests)

pub mark_word_is : (w : ℕ) → 0 < known_in w → known_in w ≤ 1024 → acked_in w ≡ 2047 → payload_in w ≡ 0 → is_mark_word w ≡ true
mark_word_is w some small acked payload = grind (arith, nat_tests)

pub formed_is : (w : ℕ) → w % 2 ≡ 1 → w < 2 ^ number_bits → is_formed w ≡ true
formed_is w first last = grind (arith, nat_tests)

formed_parts : (w : ℕ) → is_formed w ≡ true → (w % 2 ≡ 1) × (w < 2 ^ number_bits)
formed_parts w is = (grind (arith, nat_tests), grind (arith, nat_tests))

some_is : {X : Type 0} (x y : X) → (let o : Option X = Some x in o) ≡ Some y → x ≡ y
some_is x y e = cc

module _ {P : Type 0} (unpack : ℕ → Option P) where
  abbrev pub OfferIn : ℕ → Offer P → Type 0
  OfferIn w (Flag flag) = (tag_in w ≡ 1) × (unpack (payload_in w) ≡ Some flag)
  OfferIn w (Ctx mask) = (tag_in w ≡ 2) × (mask.bits ≡ payload_in w)

  -- the parts of a word are those of the slot
  abbrev pub Reads : ℕ → Slot P → Type 0
  Reads w (Marked mark) = IsMarkWord w × (mark.known.count ≡ known_in w)
  Reads w (Given given) = (given.known.count ≡ known_in w) × (given.acked.count ≡ acked_in w) × OfferIn w given.offer

  offered : (w : ℕ) (g : Contribution P) (offer : Offer P) → g.offer ≡ offer → OfferIn w offer → w < 2 ^ number_bits → g.known.count ≡ known_in w → g.acked.count ≡ acked_in w → tagged unpack w (tag_in w) ≡ Some (Given g)
  offered w g (Flag flag) is there last known acked =
      let counts = counts_are (known_in w) (acked_in w) (omega (arith, g.within, known, acked)) (omega (arith, g.known.in_range, known)) in
      let read : given_of (known_in w) (acked_in w) (flag_offer (unpack (payload_in w))) ≡ Some (Given g) = ap (λ (o : Option P). given_of (known_in w) (acked_in w) (flag_offer o)) there.1 ∙ given_is (Flag flag) g (known_in w) (acked_in w) (are_counts (known_in w) (acked_in w)) refl counts is known acked in
      ap (λ t. tagged unpack w t) there.0 ∙ read
  offered w g (Ctx mask) is there last known acked =
      let counts = counts_are (known_in w) (acked_in w) (omega (arith, g.within, known, acked)) (omega (arith, g.known.in_range, known)) in
      let fits : payload_in w < 2 ^ payload_bits = omega (arith, last) in
      let same : mask ≡ mask_of (payload_in w) = same_mask mask (mask_of (payload_in w)) (there.1 ∙ sym (mod-eq_of_lt fits)) in
      ap (λ t. tagged unpack w t) there.0 ∙ given_is (Ctx (mask_of (payload_in w))) g (known_in w) (acked_in w) (are_counts (known_in w) (acked_in w)) refl counts (is ∙ ap Ctx same) known acked

  -- a word with the parts of a slot is read as it
  pub complete : (w : ℕ) (s : Slot P) → w % 2 ≡ 1 → w < 2 ^ number_bits → Reads w s → slot_in unpack w ≡ Some s
  complete w (Marked mark) first last reads =
      let m = reads.0 in
      let holds = mark_word_is w m.some m.known m.acked m.payload in
      let read : tagged unpack w (tag_in w) ≡ Some (Marked mark) = ap (λ t. tagged unpack w t) m.tag ∙ mark_is w mark (is_mark_word w) refl holds reads.1 in
      ap (λ b. cond b (tagged unpack w (tag_in w)) None) (formed_is w first last) ∙ read
  complete w (Given given) first last reads =
      ap (λ b. cond b (tagged unpack w (tag_in w)) None) (formed_is w first last) ∙ offered w given given.offer refl reads.2 last reads.0 reads.1

  mark_sound : (w : ℕ) (s : Slot P) (b : Bool) (is : is_mark_word w ≡ b) → tag_in w ≡ 0 → mark_if w b is ≡ Some s → Reads w s
  mark_sound w s true is tag e =
      subst (Reads w) (some_is _ s e)
      (record { tag = tag; some = grind (arith, nat_tests); known = grind (arith, nat_tests); acked = grind (arith, nat_tests); payload = grind (arith, nat_tests) }, refl)
  mark_sound w s false is tag e = absurd cc

  given_sound : (w : ℕ) (s : Slot P) (offer : Offer P) (b : Bool) (is : are_counts (known_in w) (acked_in w) ≡ b) → OfferIn w offer → given_if offer (known_in w) (acked_in w) b is ≡ Some s → Reads w s
  given_sound w s offer true is there e = subst (Reads w) (some_is _ s e) (refl, refl, there)
  given_sound w s offer false is there e = absurd cc

  flag_sound : (w : ℕ) (s : Slot P) (o : Option P) → unpack (payload_in w) ≡ o → tag_in w ≡ 1 → given_of (known_in w) (acked_in w) (flag_offer o) ≡ Some s → Reads w s
  flag_sound w s None is tag e = absurd cc
  flag_sound w s (Some flag) is tag e = given_sound w s (Flag flag) (are_counts (known_in w) (acked_in w)) refl (tag, is) e

  tag_cases : (t : ℕ) (X : Type 0) → (t ≡ 0 → X) → (t ≡ 1 → X) → (t ≡ 2 → X) → (((t == 0) ≡ false) → ((t == 1) ≡ false) → ((t == 2) ≡ false) → X) → X
  tag_cases t X zero one two other = go (t == 0) refl (t == 1) refl (t == 2) refl
    where
      at : (n : ℕ) → (t == n) ≡ true → t ≡ n
      at n e = grind (arith, nat_tests)

      go : (a : Bool) → (t == 0) ≡ a → (b : Bool) → (t == 1) ≡ b → (c : Bool) → (t == 2) ≡ c → X
      go true e b f c g = zero (at 0 e)
      go false e true f c g = one (at 1 f)
      go false e false f true g = two (at 2 g)
      go false e false f false g = other e f g

  none_tagged : (w t : ℕ) → (t == 0) ≡ false → (t == 1) ≡ false → (t == 2) ≡ false → tagged unpack w t ≡ None
  none_tagged w t a b c = rw (a, b, c) refl

  tag_sound : (w : ℕ) (s : Slot P) → w < 2 ^ number_bits → tagged unpack w (tag_in w) ≡ Some s → Reads w s
  tag_sound w s last e =
      tag_cases (tag_in w) (Reads w s)
      (λ tag. mark_sound w s (is_mark_word w) refl tag (ap (λ t. tagged unpack w t) (sym tag) ∙ e))
      (λ tag. flag_sound w s (unpack (payload_in w)) refl tag (ap (λ t. tagged unpack w t) (sym tag) ∙ e))
      (λ tag.
      let fits : payload_in w < 2 ^ payload_bits = omega (arith, last) in
      given_sound w s (Ctx (mask_of (payload_in w))) (are_counts (known_in w) (acked_in w)) refl (tag, mod-eq_of_lt fits) (ap (λ t. tagged unpack w t) (sym tag) ∙ e))
      (λ a b c. absurd (none_some (sym (none_tagged w (tag_in w) a b c) ∙ e)))
    where
      none_some : (let o : Option (Slot P) = None in o) ≡ Some s → ⊥
      none_some h = absurd cc

  -- a word that is read as a slot has its parts
  pub sound : (w : ℕ) (s : Slot P) → slot_in unpack w ≡ Some s → (w % 2 ≡ 1) × (w < 2 ^ number_bits) × Reads w s
  sound w s e = go (is_formed w) refl e
    where
      go : (b : Bool) → is_formed w ≡ b → cond b (tagged unpack w (tag_in w)) None ≡ Some s → (w % 2 ≡ 1) × (w < 2 ^ number_bits) × Reads w s
      go true is e = let parts = formed_parts w is in (parts.0, parts.1, tag_sound w s parts.1 e)
      go false is e = absurd cc

  slot_word_of : (w : ℕ) (s : Slot P) → w % 2 ≡ 1 → w < 2 ^ number_bits → Reads w s → IsSlotNumber unpack w
  slot_word_of w (Marked mark) first last reads = record { first_bit = first; last_bits = last; parts = inl reads.0 }
  slot_word_of w (Given given) first last reads =
      record {
        first_bit = first;
        last_bits = last;
        parts = inr (record { tag = tag given.offer reads.2; acked = omega (arith, given.within, reads.0, reads.1); known = omega (arith, given.known.in_range, reads.0); payload = payload given.offer reads.2 });
      }
    where
      tag : (offer : Offer P) → OfferIn w offer → (tag_in w ≡ 1) ⊎ (tag_in w ≡ 2)
      tag (Flag flag) there = inl there.0
      tag (Ctx mask) there = inr there.0

      payload : (offer : Offer P) → OfferIn w offer → tag_in w ≡ 1 → IsSome (unpack (payload_in w))
      payload (Flag flag) there one = ap is_some there.1
      payload (Ctx mask) there one = absurd (omega (arith, one, there.0))

  read_given : (w : ℕ) → w % 2 ≡ 1 → w < 2 ^ number_bits → (g : IsGivenWord unpack w) → (tag_in w ≡ 1) ⊎ (tag_in w ≡ 2) → IsSome (slot_in unpack w)
  read_given w first last g (inl one) =
      let flag = is_some_of (unpack (payload_in w)) (g.payload one) in
      ap is_some (complete w (Given (record { offer = Flag flag.0; known = record { count = known_in w; in_range = g.known }; acked = record { count = acked_in w; in_range = grind (arith, nat_tests, g.acked, g.known) }; within = g.acked })) first last (refl, refl, (one, flag.1)))
  read_given w first last g (inr two) =
      let fits : payload_in w < 2 ^ payload_bits = omega (arith, last) in
      ap is_some (complete w (Given (record { offer = Ctx (record { bits = payload_in w; fits = fits }); known = record { count = known_in w; in_range = g.known }; acked = record { count = acked_in w; in_range = grind (arith, nat_tests, g.acked, g.known) }; within = g.acked })) first last (refl, refl, (two, refl)))

  read_parts : (w : ℕ) → w % 2 ≡ 1 → w < 2 ^ number_bits → IsMarkWord w ⊎ IsGivenWord unpack w → IsSome (slot_in unpack w)
  read_parts w first last (inl m) = ap is_some (complete w (Marked (record { known = record { count = known_in w; in_range = m.known }; counted = m.some })) first last (m, refl))
  read_parts w first last (inr g) = read_given w first last g g.tag

  -- the words that are read are those of slots
  pub slot_exactly : (w : ℕ) → IsSome (slot_in unpack w) ↔ IsSlotNumber unpack w
  slot_exactly w = (λ some. let s = is_some_of (slot_in unpack w) some in let parts = sound w s.0 s.1 in slot_word_of w s.0 parts.0 parts.1 parts.2, λ is. read_parts w is.first_bit is.last_bits is.parts)

  module _ (pack : P → ℕ) where
    word_again : (w : ℕ) (offer : Offer P) (k : Known) (a : Acked) (within : a.count ≤ k.count) → (IsFlagOffer offer → IsExact pack unpack) → w % 2 ≡ 1 → w < 2 ^ number_bits → k.count ≡ known_in w → a.count ≡ acked_in w → OfferIn w offer
        → slot_number pack (Given (record { offer = offer; known = k; acked = a; within = within })) ≡ w
    word_again w (Flag flag) k a within exact first last known acked there =
        parts_are w 1 k.count a.count (pack flag) first there.0 (sym known) (sym acked) (sym (exact tt (payload_in w) flag (omega (arith, last)) there.1))
    word_again w (Ctx mask) k a within exact first last known acked there =
        parts_are w 2 k.count a.count mask.bits first there.0 (sym known) (sym acked) (sym there.1)

    reads_again : (w : ℕ) (s : Slot P) → (IsFlag s → IsExact pack unpack) → w % 2 ≡ 1 → w < 2 ^ number_bits → Reads w s → slot_number pack s ≡ w
    reads_again w (Marked mark) exact first last reads =
        let m = reads.0 in parts_are w 0 mark.known.count 2047 0 first m.tag (sym reads.1) m.acked m.payload
    reads_again w (Given given) exact first last reads = word_again w given.offer given.known given.acked given.within exact first last reads.0 reads.1 reads.2

    -- marks and masks have one number, and so do flags where each payload is the packing of what it unpacks to
    pub one_word : (w : ℕ) → IfSome (slot_in unpack w) (λ s. (IsFlag s → IsExact pack unpack) → slot_number pack s ≡ w)
    one_word w = go (slot_in unpack w) refl
      where
        go : (o : Option (Slot P)) → slot_in unpack w ≡ o → IfSome o (λ s. (IsFlag s → IsExact pack unpack) → slot_number pack s ≡ w)
        go None e = tt
        go (Some s) e = λ exact. let parts = sound w s e in reads_again w s exact parts.0 parts.1 parts.2

    module _ (back : (x : P) → unpack (pack x) ≡ Some x) (fits : (x : P) → pack x < 2 ^ payload_bits) where
      own_offer : (offer : Offer P) (k : Known) (a : Acked) (within : a.count ≤ k.count) → (let g : Contribution P = record { offer = offer; known = k; acked = a; within = within } in slot_in unpack (slot_number pack (Given g)) ≡ Some (Given g))
      own_offer (Flag flag) k a within =
          let k_lt : k.count < 2048 = omega (arith, k.in_range) in
          let a_lt : a.count < 2048 = omega (arith, acked_le a.count a.in_range) in
          let t_lt : 1 < 4 = omega arith in
          let n = packed 1 k.count a.count (pack flag) in
          complete n (Given (record { offer = Flag flag; known = k; acked = a; within = within })) (odd 1 k.count a.count (pack flag)) (below 1 k.count a.count (pack flag) t_lt k_lt a_lt (fits flag))
          (sym (known_back 1 k.count a.count (pack flag) t_lt k_lt), sym (acked_back 1 k.count a.count (pack flag) t_lt k_lt a_lt), (tag_back 1 k.count a.count (pack flag) t_lt, ap unpack (payload_back 1 k.count a.count (pack flag) t_lt k_lt a_lt) ∙ back flag))
      own_offer (Ctx mask) k a within =
          let k_lt : k.count < 2048 = omega (arith, k.in_range) in
          let a_lt : a.count < 2048 = omega (arith, acked_le a.count a.in_range) in
          let t_lt : 2 < 4 = omega arith in
          let n = packed 2 k.count a.count mask.bits in
          complete n (Given (record { offer = Ctx mask; known = k; acked = a; within = within })) (odd 2 k.count a.count mask.bits) (below 2 k.count a.count mask.bits t_lt k_lt a_lt mask.fits)
          (sym (known_back 2 k.count a.count mask.bits t_lt k_lt), sym (acked_back 2 k.count a.count mask.bits t_lt k_lt a_lt), (tag_back 2 k.count a.count mask.bits t_lt, sym (payload_back 2 k.count a.count mask.bits t_lt k_lt a_lt)))

      -- a slot's number is read as that slot
      pub slot_back : (s : Slot P) → slot_in unpack (slot_number pack s) ≡ Some s
      slot_back (Marked mark) =
          let k = mark.known.count in
          let k_lt : k < 2048 = omega (arith, mark.known.in_range) in
          let a_lt : 2047 < 2048 = omega arith in
          let t_lt : 0 < 4 = omega arith in
          let known = known_back 0 k 2047 0 t_lt k_lt in
          complete (packed 0 k 2047 0) (Marked mark) (odd 0 k 2047 0) (below 0 k 2047 0 t_lt k_lt a_lt (omega arith))
          (record { tag = tag_back 0 k 2047 0 t_lt; some = omega (arith, known, mark.counted); known = omega (arith, known, mark.known.in_range); acked = acked_back 0 k 2047 0 t_lt k_lt a_lt; payload = payload_back 0 k 2047 0 t_lt k_lt a_lt }, sym known)
      slot_back (Given given) = own_offer given.offer given.known given.acked given.within

module _ {P : Type 0} (unpack : ℕ → Option P) where
  -- what a word of this tag is read as
  pub read_at : (w tag : ℕ) → w % 2 ≡ 1 → w < 2 ^ number_bits → tag_in w ≡ tag → slot_in unpack w ≡ tagged unpack w tag
  read_at w tag first last is = ap (λ b. cond b (tagged unpack w (tag_in w)) None) (formed_is w first last) ∙ ap (λ t. tagged unpack w t) is

  pub read_mask : (w : ℕ) (mask : CtxMask) → w % 2 ≡ 1 → w < 2 ^ number_bits → tag_in w ≡ 2 → mask.bits ≡ payload_in w → slot_in unpack w ≡ given_if (Ctx mask) (known_in w) (acked_in w) (are_counts (known_in w) (acked_in w)) refl
  read_mask w mask first last tag bits =
      let fits : payload_in w < 2 ^ payload_bits = omega (arith, last) in
      let same : mask_of (payload_in w) ≡ mask = same_mask (mask_of (payload_in w)) mask (mod-eq_of_lt fits ∙ sym bits) in
      read_at w 2 first last tag ∙ ap (λ m. given_of (known_in w) (acked_in w) (Some (Ctx m))) same

-- a flag is its own payload
pub flags_exact : IsExact (λ x. x.bits) flag_unpack
flags_exact payload x lt e =
    let same : record { bits = payload % 2 ^ payload_bits; fits = mod-lt payload (lit< tt) } ≡ x = cc e in
    ap (λ f. f.bits) (sym same) ∙ mod-eq_of_lt lt

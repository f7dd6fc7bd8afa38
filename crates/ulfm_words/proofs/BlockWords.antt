-- A block's number stands for one summary, and a slot's number is that of what it says.
use Rattle.std.proofs.Common.{◌≡◌, ◌⊎◌, inl, inr, ℕ, ◌≤◌, ◌<◌, ◌^◌, min, max, Option, Some, List, [], ◌∷◌, refl, ap, sym, ◌∙◌, subst, arith}
use Rattle.ulfm_laws.specs.{declared.summary.Body.{Body}, declared.summary.Body.TheVariants.{Unit as Nothing, Flag as OfFlags, Ctx as OfIds, Clash}, declared.summary.Summary.{Summary}, Bodies.{body_meld}, Counts.{acked_le, same_acked, same_known}, Masks.{same_mask}}
use Rattle.ulfm_laws.specs.Ranges.{payload_bits}
use Rattle.ulfm_model.specs.declared.{contribution.Offer.{Offer}, contribution.Offer.TheVariants.{Flag, Ctx}, contribution.Slot.{Slot}, contribution.Slot.TheVariants.{Given, Mark as Marked}}
use Rattle.ulfm_model.specs.{Blocks.{block_number, payload_of, tag_of}, History.{body_of}, Laws.{all_of, summary_of}, Words.{offer_number, packed, slot_number}}
use Rattle.ulfm_words.specs.{Blocks.{FitsBody, IsBodyOf, IsFlagBody, IsNumberOf, IsOfSome, SlotsAreOfSome}, Slots.{IsExact, number_bits, acked_in, known_in, payload_in, tag_in}}
use Rattle.ulfm_words.proofs.SlotWords.{acked_back, below, known_back, odd, parts_are, payload_back, tag_back}

module _ {P : Type 0} (pack : P → ℕ) where
  -- the number of a slot is that of what it says
  pub slot_is_said : (s : Slot P) → slot_number pack s ≡ block_number pack (summary_of s)
  slot_is_said (Marked mark) = refl
  slot_is_said (Given given) = by_offer given.offer
    where
      by_offer : (o : Offer P) → offer_number pack given.known.count given.acked.count o ≡ packed (tag_of (body_of o)) given.known.count given.acked.count (payload_of pack (body_of o))
      by_offer (Flag flag) = refl
      by_offer (Ctx mask) = refl

  tag_lt : (body : Body P) → tag_of body < 4
  tag_lt Nothing = omega arith
  tag_lt (OfFlags flag) = omega arith
  tag_lt (OfIds mask) = omega arith
  tag_lt Clash = omega arith

  known_lt : (s : Summary P) → s.known.count < 2048
  known_lt s = omega (arith, s.known.in_range)

  acked_lt : (s : Summary P) → s.acked.count < 2048
  acked_lt s = omega (arith, acked_le s.acked.count s.acked.in_range)

  -- the parts of a word are those of its summary
  pub record Parts (w : ℕ) (s : Summary P) : Type 0 where
    pub tag : tag_in w ≡ tag_of s.body
    pub known : known_in w ≡ s.known.count
    pub acked : acked_in w ≡ s.acked.count
    pub payload : payload_in w ≡ payload_of pack s.body

  pub parts : (w : ℕ) (s : Summary P) → w ≡ block_number pack s → Parts w s
  parts w s e =
      let t = tag_of s.body in
      let p = payload_of pack s.body in
      record {
        tag = ap tag_in e ∙ tag_back t s.known.count s.acked.count p (tag_lt s.body);
        known = ap known_in e ∙ known_back t s.known.count s.acked.count p (tag_lt s.body) (known_lt s);
        acked = ap acked_in e ∙ acked_back t s.known.count s.acked.count p (tag_lt s.body) (known_lt s) (acked_lt s);
        payload = ap payload_in e ∙ payload_back t s.known.count s.acked.count p (tag_lt s.body) (known_lt s) (acked_lt s);
      }

  same_all : (x y : Summary P) → x.body ≡ y.body → x.known ≡ y.known → x.acked ≡ y.acked → x ≡ y
  same_all x y body known acked = λ i. record { body = body i; known = known i; acked = acked i }

  some_is : (x y : P) → (let o : Option P = Some x in o) ≡ Some y → x ≡ y
  some_is x y e = cc e

  module _ (unpack : ℕ → Option P) where
    -- one body has this tag and this payload
    pub same_body : (t p : ℕ) (x y : Body P) → IsBodyOf unpack t p x → IsBodyOf unpack t p y → x ≡ y
    same_body t p Nothing Nothing x y = refl
    same_body t p Nothing (OfFlags g) x y = absurd (omega (arith, x.0, y.0))
    same_body t p Nothing (OfIds n) x y = absurd (omega (arith, x.0, y.0))
    same_body t p Nothing Clash x y = absurd (omega (arith, x.0, y.0))
    same_body t p (OfFlags f) Nothing x y = absurd (omega (arith, x.0, y.0))
    same_body t p (OfFlags f) (OfFlags g) x y = ap OfFlags (some_is f g (sym x.1 ∙ y.1))
    same_body t p (OfFlags f) (OfIds n) x y = absurd (omega (arith, x.0, y.0))
    same_body t p (OfFlags f) Clash x y = absurd (omega (arith, x.0, y.0))
    same_body t p (OfIds m) Nothing x y = absurd (omega (arith, x.0, y.0))
    same_body t p (OfIds m) (OfFlags g) x y = absurd (omega (arith, x.0, y.0))
    same_body t p (OfIds m) (OfIds n) x y = ap OfIds (same_mask m n (x.1 ∙ sym y.1))
    same_body t p (OfIds m) Clash x y = absurd (omega (arith, x.0, y.0))
    same_body t p Clash Nothing x y = absurd (omega (arith, x.0, y.0))
    same_body t p Clash (OfFlags g) x y = absurd (omega (arith, x.0, y.0))
    same_body t p Clash (OfIds n) x y = absurd (omega (arith, x.0, y.0))
    same_body t p Clash Clash x y = refl

    same_said : (w : ℕ) (x y : Summary P) → x.known.count ≡ known_in w → x.acked.count ≡ acked_in w → y.known.count ≡ known_in w → y.acked.count ≡ acked_in w → IsBodyOf unpack (tag_in w) (payload_in w) x.body
        → IsBodyOf unpack (tag_in w) (payload_in w) y.body → x ≡ y
    same_said w x y known acked known' acked' body body' =
        same_all x y (same_body (tag_in w) (payload_in w) x.body y.body body body') (same_known x.known y.known (known ∙ sym known')) (same_acked x.acked y.acked (acked ∙ sym acked'))

    -- a body whose tag and payload are a word's
    word_of_body : (w : ℕ) (body : Body P) → (IsFlagBody body → IsExact pack unpack) → w < 2 ^ number_bits → IsBodyOf unpack (tag_in w) (payload_in w) body → (tag_in w ≡ tag_of body) × (payload_in w ≡ payload_of pack body)
    word_of_body w Nothing exact last is = (is.0, is.1)
    word_of_body w (OfFlags flag) exact last is = (is.0, sym (exact tt (payload_in w) flag (omega (arith, last)) is.1))
    word_of_body w (OfIds mask) exact last is = (is.0, sym is.1)
    word_of_body w Clash exact last is = (is.0, is.1)

    pub one_summary : (w : ℕ) (x y : Summary P) → IsNumberOf unpack w x → IsNumberOf unpack w y → x ≡ y
    one_summary w x y is that = same_said w x y is.known is.acked that.known that.acked is.body that.body

    pub one_number : (w : ℕ) (all : Summary P) → IsNumberOf unpack w all → (IsFlagBody all.body → IsExact pack unpack) → block_number pack all ≡ w
    one_number w all is exact =
        let b = word_of_body w all.body exact is.last_bits is.body in
        parts_are w (tag_of all.body) all.known.count all.acked.count (payload_of pack all.body) is.first_bit b.0 (sym is.known) (sym is.acked) b.1

    module _ (back : (x : P) → unpack (pack x) ≡ Some x) where
      own_body : (body : Body P) → IsBodyOf unpack (tag_of body) (payload_of pack body) body
      own_body Nothing = (refl, refl)
      own_body (OfFlags flag) = (refl, back flag)
      own_body (OfIds mask) = (refl, refl)
      own_body Clash = (refl, refl)

      body_in : (w : ℕ) (s : Summary P) → Parts w s → IsBodyOf unpack (tag_in w) (payload_in w) s.body
      body_in w s p = subst (λ t. IsBodyOf unpack t (payload_in w) s.body) (sym p.tag) (subst (λ n. IsBodyOf unpack (tag_of s.body) n s.body) (sym p.payload) (own_body s.body))

      -- a summary of the parts of a word is the word's
      pub said_is : (w : ℕ) (s all : Summary P) → all.known.count ≡ known_in w → all.acked.count ≡ acked_in w → IsBodyOf unpack (tag_in w) (payload_in w) all.body → w ≡ block_number pack s → all ≡ s
      said_is w s all known acked body e =
          let p = parts w s e in same_said w all s known acked (sym p.known) (sym p.acked) body (body_in w s p)

      flag_there : (w : ℕ) (body : Body P) → tag_in w ≡ tag_of body → payload_in w ≡ payload_of pack body → tag_in w ≡ 1 → (x : P) × (unpack (payload_in w) ≡ Some x)
      flag_there w Nothing tag payload one = absurd (omega (arith, tag, one))
      flag_there w (OfFlags g) tag payload one = (g, ap unpack payload ∙ back g)
      flag_there w (OfIds n) tag payload one = absurd (omega (arith, tag, one))
      flag_there w Clash tag payload one = absurd (omega (arith, tag, one))

      pub flag_unpacks : (w : ℕ) (s : Summary P) → w ≡ block_number pack s → tag_in w ≡ 1 → (x : P) × (unpack (payload_in w) ≡ Some x)
      flag_unpacks w s e one = let p = parts w s e in flag_there w s.body p.tag p.payload one

      pub no_payload : (w : ℕ) (s : Summary P) → w ≡ block_number pack s → (tag_in w ≡ 0) ⊎ (tag_in w ≡ 3) → payload_in w ≡ 0
      no_payload w s e which = let p = parts w s e in go s.body p.tag p.payload which
        where
          go : (body : Body P) → tag_in w ≡ tag_of body → payload_in w ≡ payload_of pack body → (tag_in w ≡ 0) ⊎ (tag_in w ≡ 3) → payload_in w ≡ 0
          go Nothing tag payload which = payload
          go Clash tag payload which = payload
          go (OfFlags g) tag payload (inl none) = absurd (omega (arith, tag, none))
          go (OfFlags g) tag payload (inr clash) = absurd (omega (arith, tag, clash))
          go (OfIds n) tag payload (inl none) = absurd (omega (arith, tag, none))
          go (OfIds n) tag payload (inr clash) = absurd (omega (arith, tag, clash))

      module _ (fits : (x : P) → pack x < 2 ^ payload_bits) where
        payload_lt : (body : Body P) → payload_of pack body < 2 ^ payload_bits
        payload_lt Nothing = omega arith
        payload_lt (OfFlags flag) = fits flag
        payload_lt (OfIds mask) = mask.fits
        payload_lt Clash = omega arith

        pub number_below : (all : Summary P) → block_number pack all < 2 ^ number_bits
        number_below all = below (tag_of all.body) all.known.count all.acked.count (payload_of pack all.body) (tag_lt all.body) (known_lt all) (acked_lt all) (payload_lt all.body)

        pub is_number : (all : Summary P) → IsOfSome all → IsNumberOf unpack (block_number pack all) all
        is_number all some =
            let w = block_number pack all in
            let ps = parts w all refl in
            record {
              first_bit = odd (tag_of all.body) all.known.count all.acked.count (payload_of pack all.body);
              last_bits = number_below all;
              known = sym ps.known;
              acked = sym ps.acked;
              body = body_in w all ps;
              fits = some;
            }

-- what settled members say together fits, where there is one
module _ {P : Type 0} (meld : P → P → P) where
  -- what no member says has acknowledged everyone, too
  abbrev Fits : Body P → ℕ → ℕ → Type 0
  Fits Nothing known acked = acked ≡ 2047
  Fits (OfFlags flag) known acked = acked ≤ known
  Fits (OfIds mask) known acked = acked ≤ known
  Fits Clash known acked = acked ≤ known

  two_fit : (x y : Body P) (n a m b : ℕ) → a ≤ 2047 → b ≤ 2047 → FitsBody x n a → Fits y m b → FitsBody (body_meld meld x y) (max n m) (min a b)
  two_fit Nothing Nothing n a m b p q x y = (omega (arith, x.0), omega (arith, x.1, y))
  two_fit Nothing (OfFlags g) n a m b p q x y = omega (arith, x.1, y)
  two_fit Nothing (OfIds g) n a m b p q x y = omega (arith, x.1, y)
  two_fit Nothing Clash n a m b p q x y = omega (arith, x.1, y)
  two_fit (OfFlags f) Nothing n a m b p q x y = omega (arith, x, y)
  two_fit (OfFlags f) (OfFlags g) n a m b p q x y = omega (arith, x, y)
  two_fit (OfFlags f) (OfIds g) n a m b p q x y = omega (arith, x, y)
  two_fit (OfFlags f) Clash n a m b p q x y = omega (arith, x, y)
  two_fit (OfIds f) Nothing n a m b p q x y = omega (arith, x, y)
  two_fit (OfIds f) (OfFlags g) n a m b p q x y = omega (arith, x, y)
  two_fit (OfIds f) (OfIds g) n a m b p q x y = omega (arith, x, y)
  two_fit (OfIds f) Clash n a m b p q x y = omega (arith, x, y)
  two_fit Clash Nothing n a m b p q x y = omega (arith, x, y)
  two_fit Clash (OfFlags g) n a m b p q x y = omega (arith, x, y)
  two_fit Clash (OfIds g) n a m b p q x y = omega (arith, x, y)
  two_fit Clash Clash n a m b p q x y = omega (arith, x, y)

  weaker : (x : Body P) (n a : ℕ) → FitsBody x n a → Fits x n a
  weaker Nothing n a x = x.1
  weaker (OfFlags f) n a x = x
  weaker (OfIds f) n a x = x
  weaker Clash n a x = x

  one_fits : (s : Slot P) → IsOfSome (summary_of s)
  one_fits (Marked mark) = (mark.counted, refl)
  one_fits (Given given) = by_offer given.offer given.within
    where
      by_offer : (o : Offer P) → given.acked.count ≤ given.known.count → FitsBody (body_of o) given.known.count given.acked.count
      by_offer (Flag flag) le = le
      by_offer (Ctx mask) le = le

  one_more : (s : Slot P) (y : Summary P) → Fits y.body y.known.count y.acked.count → FitsBody (body_meld meld (summary_of s).body y.body) (max (summary_of s).known.count y.known.count) (min (summary_of s).acked.count y.acked.count)
  one_more s y fits =
      let x = summary_of s in
      two_fit x.body y.body x.known.count x.acked.count y.known.count y.acked.count (acked_le x.acked.count x.acked.in_range) (acked_le y.acked.count y.acked.in_range) (one_fits s) fits

  rest_fits : (more : List (Slot P)) → Fits (all_of meld more).body (all_of meld more).known.count (all_of meld more).acked.count
  rest_fits [] = refl
  rest_fits (s ∷ more) = weaker (all_of meld (s ∷ more)).body (all_of meld (s ∷ more)).known.count (all_of meld (s ∷ more)).acked.count (one_more s (all_of meld more) (rest_fits more))

  pub are_of_some : SlotsAreOfSome meld
  are_of_some s more = one_more s (all_of meld more) (rest_fits more)

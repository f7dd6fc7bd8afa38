-- Numbers of slots, read bit by bit: bit 0 is 1; bits 1 and 2 are the tag; bits 3 to 13 known; bits 14 to 24 acknowledged; then comes the payload.
-- A slot's word has the number's lowest bits, up to the payload's lower half, and its wing has the upper half.
use Rattle.std.specs.Prelude.{◌≡◌, ◌⊎◌, ◌≤◌, ◌<◌, ◌+◌, ◌*◌, ◌^◌, ℕ, ◌/◌, ◌%◌, ◌==◌, ◌&&◌, Bool, true, false, Option, Some, None, if◌then◌else◌, nat_le, nat_lt, IsTrue}
use Rattle.std.specs.Prelude.{IsSome, refl}
use Rattle.std.proofs.Common.{mod-lt, lit<, arith}
use Rattle.std.proofs.lemmas.Bool.Decides.{nat_tests}
use Rattle.ulfm_laws.specs.{Ranges.{is_acked_count, payload_bits}, declared.summary.CtxMask.{CtxMask}}
use Rattle.ulfm_model.specs.declared.{contribution.Offer.{Offer}, contribution.Offer.TheVariants.{Flag, Ctx}, contribution.Slot.{Slot}}
use Rattle.ulfm_model.specs.declared.{contribution.Slot.TheVariants.{Given, Mark as Marked}}
use Rattle.ulfm_model.specs.Words.{half_bits, slot_wing, slot_word, wing_word, word_bits}

abbrev pub tag_in : ℕ → ℕ
tag_in w = w / 2 % 2 ^ 2

abbrev pub known_in : ℕ → ℕ
known_in w = w / 2 ^ 3 % 2 ^ 11

abbrev pub acked_in : ℕ → ℕ
acked_in w = w / 2 ^ 14 % 2 ^ 11

abbrev pub payload_in : ℕ → ℕ
payload_in w = w / 2 ^ 25

-- a mark has no payload, knows of 1 to 1024 failures, and has acknowledged everyone
pub record IsMarkWord (w : ℕ) : Type 0 where
  pub tag : tag_in w ≡ 0
  pub some : 0 < known_in w
  pub known : known_in w ≤ 1024
  pub acked : acked_in w ≡ 2047
  pub payload : payload_in w ≡ 0

-- a contribution is a flag, whose payload unpacks, or a mask; it has acknowledged no more failures than it knows of
pub record IsGivenWord {P : Type 0} (unpack : ℕ → Option P) (w : ℕ) : Type 0 where
  pub tag : (tag_in w ≡ 1) ⊎ (tag_in w ≡ 2)
  pub acked : acked_in w ≤ known_in w
  pub known : known_in w ≤ 1024
  pub payload : tag_in w ≡ 1 → IsSome (unpack (payload_in w))

-- how many bits a number has: those before the payload, and the payload's
abbrev pub number_bits : ℕ
number_bits = 25 + payload_bits

-- the numbers of slots
pub record IsSlotNumber {P : Type 0} (unpack : ℕ → Option P) (w : ℕ) : Type 0 where
  pub first_bit : w % 2 ≡ 1
  pub last_bits : w < 2 ^ number_bits
  pub parts : IsMarkWord w ⊎ IsGivenWord unpack w

abbrev pub IsFlagOffer : {P : Type 0} → Offer P → Type 0
IsFlagOffer (Flag flag) = Unit {0}
IsFlagOffer (Ctx mask) = ⊥

-- each payload that unpacks is the packing of what it unpacks to
abbrev pub IsExact : {P : Type 0} → (P → ℕ) → (ℕ → Option P) → Type 0
IsExact {P} pack unpack = (payload : ℕ) (x : P) → payload < 2 ^ payload_bits → unpack payload ≡ Some x → pack x ≡ payload

-- a contribution of a flag
abbrev pub IsFlag : {P : Type 0} → Slot P → Type 0
IsFlag (Marked mark) = ⊥
IsFlag (Given given) = IsFlagOffer given.offer

abbrev pub is_formed : ℕ → Bool
is_formed w = (w % 2 == 1) && nat_lt w (2 ^ number_bits)

abbrev pub is_mark_word : ℕ → Bool
is_mark_word w = nat_lt 0 (known_in w) && nat_le (known_in w) 1024 && (acked_in w == 2047) && (payload_in w == 0)

abbrev pub are_counts : ℕ → ℕ → Bool
are_counts known acked = nat_le acked known && nat_le known 1024

pub some_marked : (w : ℕ) → is_mark_word w ≡ true → 0 < known_in w
some_marked w is = grind (arith, nat_tests)

pub mark_fits : (w : ℕ) → is_mark_word w ≡ true → known_in w ≤ 1024
mark_fits w is = grind (arith, nat_tests)

pub known_fits : (known acked : ℕ) → are_counts known acked ≡ true → known ≤ 1024
known_fits known acked is = grind (arith, nat_tests)

pub acked_fits : (known acked : ℕ) → are_counts known acked ≡ true → IsTrue (is_acked_count acked)
acked_fits known acked is = grind (arith, nat_tests)

pub acked_within : (known acked : ℕ) → are_counts known acked ≡ true → acked ≤ known
acked_within known acked is = grind (arith, nat_tests)

-- the mark of a word, if it is one
abbrev pub mark_if : {P : Type 0} → (w : ℕ) (b : Bool) → is_mark_word w ≡ b → Option (Slot P)
mark_if w true is = Some (Marked (record { known = record { count = known_in w; in_range = mark_fits w is }; counted = some_marked w is }))
mark_if w false is = None

-- the contribution of an offer with these counts, if they are counts of one
abbrev pub given_if : {P : Type 0} → Offer P → (known acked : ℕ) (b : Bool) → are_counts known acked ≡ b → Option (Slot P)
given_if offer known acked true is =
    Some (Given (record {
      offer = offer;
      known = record { count = known; in_range = known_fits known acked is };
      acked = record { count = acked; in_range = acked_fits known acked is };
      within = acked_within known acked is;
    }))
given_if offer known acked false is = None

abbrev pub given_of : {P : Type 0} → ℕ → ℕ → Option (Offer P) → Option (Slot P)
given_of known acked None = None
given_of known acked (Some offer) = given_if offer known acked (are_counts known acked) refl

-- a payload as a mask; the remainder changes nothing, since a payload has no more bits
abbrev pub mask_of : ℕ → CtxMask
mask_of payload = record { bits = payload % 2 ^ payload_bits; fits = mod-lt payload (lit< tt) }

abbrev pub flag_offer : {P : Type 0} → Option P → Option (Offer P)
flag_offer None = None
flag_offer (Some flag) = Some (Flag flag)

-- what a number of this tag stands for
abbrev pub tagged : {P : Type 0} → (ℕ → Option P) → ℕ → ℕ → Option (Slot P)
tagged unpack w tag =
    if tag == 0 then mark_if w (is_mark_word w) refl
    else (if tag == 1 then given_of (known_in w) (acked_in w) (flag_offer (unpack (payload_in w)))
    else (if tag == 2 then given_of (known_in w) (acked_in w) (Some (Ctx (mask_of (payload_in w)))) else None))

-- the slot that has this number
abbrev pub slot_in : {P : Type 0} → (ℕ → Option P) → ℕ → Option (Slot P)
slot_in unpack w = if is_formed w then tagged unpack w (tag_in w) else None

-- the number of a word, with the upper half that its wing has
abbrev pub number_in : ℕ → ℕ → ℕ
number_in word half = word + half * 2 ^ word_bits

-- the half that a wing has
abbrev pub half_in : ℕ → ℕ
half_in wing = wing / 2

-- a wing has a 1 as its lowest bit, and then a half
abbrev pub is_wing_word : ℕ → Bool
is_wing_word wing = (wing % 2 == 1) && nat_lt wing (2 ^ (1 + half_bits))

-- the wing of a contribution that offers this
abbrev pub offer_wing : {P : Type 0} → (P → ℕ) → Offer P → ℕ
offer_wing pack (Flag flag) = wing_word (pack flag / 2 ^ half_bits)
offer_wing pack (Ctx mask) = wing_word (mask.bits / 2 ^ half_bits)

-- the two may be a slot's: a mark has no wing, and its is given as 0
abbrev pub is_pair : ℕ → ℕ → Bool
is_pair word wing = nat_lt word (2 ^ word_bits) && (if tag_in word == 0 then wing == 0 else is_wing_word wing)

-- the slot that has this word and this wing
abbrev pub slot_of : {P : Type 0} → (ℕ → Option P) → ℕ → ℕ → Option (Slot P)
slot_of unpack word wing = if is_pair word wing then slot_in unpack (number_in word (half_in wing)) else None

-- the words and wings of slots
pub record IsSlotPair {P : Type 0} (unpack : ℕ → Option P) (word wing : ℕ) : Type 0 where
  pub pair : is_pair word wing ≡ true
  pub number : IsSlotNumber unpack (number_in word (half_in wing))

-- the slot's word and wing are these
abbrev pub HasPair : {P : Type 0} → (P → ℕ) → ℕ → ℕ → Slot P → Type 0
HasPair pack word wing s = (slot_word pack s ≡ word) × (slot_wing pack s ≡ wing)

-- what is read as a slot is the word and the wing of that slot
abbrev pub HaveOneWord : {P : Type 0} → (P → ℕ) → (ℕ → Option P) → Type 0
HaveOneWord {P} pack unpack = (word wing : ℕ) (s : Slot P) → slot_of unpack word wing ≡ Some s → HasPair pack word wing s

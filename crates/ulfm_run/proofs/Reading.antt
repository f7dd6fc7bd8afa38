-- What a pass reads its events off.
use Rattle.std.proofs.Common.{◌≡◌, ℕ, zero, suc, ◌≤◌, ◌<◌, ◌^◌, ◌==◌, ◌&&◌, Bool, true, false, List, [], ◌∷◌, ◌++◌, length, take, Option, Some, None, refl, ap, ap₂, sym, ◌∙◌, subst, arith, if◌then◌else◌, nat_le, nat_lt}
use Rattle.std.proofs.lemmas.Bool.{eqb-true, ne_eqb}
use Rattle.std.proofs.lemmas.Bool.Decides.{nat_tests}
use Rattle.std.specs.Prelude.{MatchOption, slice_get}
use Rattle.ulfm_model.specs.declared.{contribution.Slot.TheVariants.{Given, Mark as Marked}, event.Caller.{Caller}, event.Event.{Event}, event.Event.TheVariants.{Arrive, Fail, Mark, Revoke, Settle, Spawn}, limits.Limits.{Limits}}
use Rattle.ulfm_model.specs.{History.{History, IsLegal, MayFollow}, Words.{MayOpen, half_bits, place_of, slot_number, wing_word, word_bits, word_of}}
use Rattle.ulfm_model.proofs.Histories.{legal_parts}
use Rattle.ulfm_words.specs.{declared.step.Step.{Step}, Entries.{entry_by, event_in}, Pass.{IsNth}}
use Rattle.ulfm_words.specs.Slots.{acked_in, half_in, is_formed, is_mark_word, is_pair, is_wing_word, known_in, mark_if, number_in, payload_in, slot_in, slot_of, tag_in, tagged}
use Rattle.ulfm_words.proofs.Pairs.{first_small, half_back, number_payload, number_tag, wing_is}
use Rattle.ulfm_run.specs.Events.{IsEventWord, wing_by}

-- a wing is no word of a mark
module _ {P : Type 0} (unpack : ℕ → Option P) (word half : ℕ) (small : word < 2 ^ word_bits) (short : half < 2 ^ half_bits) where
  fits_is : nat_lt word (2 ^ word_bits) ≡ true
  fits_is = grind (arith, nat_tests)

  with_wing : tag_in word == 0 ≡ false → slot_of unpack word (wing_word half) ≡ slot_in unpack (number_in word half)
  with_wing given =
      let pair : is_pair word (wing_word half) ≡ true = ap₂ (λ a b. a && (if b then wing_word half == 0 else is_wing_word (wing_word half))) fits_is given ∙ wing_is half short in
      ap (λ (b : Bool). if b then slot_in unpack (number_in word (half_in (wing_word half))) else None) pair ∙ ap (λ n. slot_in unpack (number_in word n)) (half_back half)

  without : tag_in word == 0 ≡ true → half ≡ 0 → slot_of unpack word 0 ≡ slot_in unpack (number_in word half)
  without mark none =
      let pair : is_pair word 0 ≡ true = ap₂ (λ a b. a && (if b then true else is_wing_word 0)) fits_is mark in
      ap (λ (b : Bool). if b then slot_in unpack (number_in word 0) else None) pair ∙ ap (λ n. slot_in unpack (number_in word n)) (sym none)

  none_with : tag_in word == 0 ≡ true → half == 0 ≡ false → slot_of unpack word (wing_word half) ≡ slot_in unpack (number_in word half)
  none_with mark some =
      let other : wing_word half == 0 ≡ false = ne_eqb (wing_word half) 0 (λ zero. omega (arith, zero)) in
      let pair : is_pair word (wing_word half) ≡ false = ap₂ (λ a b. a && (if b then wing_word half == 0 else is_wing_word (wing_word half))) fits_is mark ∙ other in
      ap (λ (b : Bool). if b then slot_in unpack (number_in word (half_in (wing_word half))) else None) pair ∙ sym nothing
    where
      number : ℕ
      number = number_in word half

      tag : tag_in number ≡ 0
      tag = number_tag word half ∙ eqb-true (tag_in word) 0 mark

      no_mark : is_mark_word number ≡ false
      no_mark =
          let payload = number_payload word half in
          let some_half : 0 < half = grind (arith, nat_tests) in
          let not : payload_in number == 0 ≡ false = ne_eqb (payload_in number) 0 (λ zero. omega (arith, zero, payload, some_half)) in
          ap (λ b. nat_lt 0 (known_in number) && nat_le (known_in number) 1024 && (acked_in number == 2047) && b) not ∙ last (nat_lt 0 (known_in number)) (nat_le (known_in number) 1024) (acked_in number == 2047)
        where
          last : (a b c : Bool) → (a && b && c && false) ≡ false
          last true true true = refl
          last true true false = refl
          last true false c = refl
          last false b c = refl

      unmarked : (b : Bool) (is : is_mark_word number ≡ b) → b ≡ false → mark_if {P = P} number b is ≡ None
      unmarked true is not = absurd (cc not)
      unmarked false is not = refl

      formed : (b : Bool) → is_formed number ≡ b → (if b then tagged unpack number (tag_in number) else None) ≡ None
      formed true is = ap (tagged unpack number) tag ∙ unmarked (is_mark_word number) refl no_mark
      formed false is = refl

      nothing : slot_in unpack number ≡ None
      nothing = formed (is_formed number) refl

  -- a word and the wing beside it are read as their number is
  pub read_with : slot_of unpack word (wing_by word half) ≡ slot_in unpack (number_in word half)
  read_with = go (tag_in word == 0) refl (half == 0) refl
    where
      go : (a : Bool) → tag_in word == 0 ≡ a → (b : Bool) → half == 0 ≡ b → slot_of unpack word (if a && b then 0 else wing_word half) ≡ slot_in unpack (number_in word half)
      go false given b is = with_wing given
      go true mark true none = without mark (eqb-true half 0 none)
      go true mark false some = none_with mark some

-- what stands behind the i-th element
split_at : {X : Type 0} (xs : List X) (i : ℕ) (x : X) → slice_get xs i ≡ Some x → (rest : List X) × (take i xs ++ x ∷ rest ≡ xs)
split_at [] i x is = absurd (cc is)
split_at (y ∷ xs) zero x is = let same : y ≡ x = cc is in (xs, ap (λ z. z ∷ xs) (sym same))
split_at (y ∷ xs) (suc i) x is = let rest = split_at xs i x is in (rest.0, ap (λ zs. y ∷ zs) rest.1)

module _ {P : Type 0} (meld : P → P → P) (pack : P → ℕ) (unpack : ℕ → Option P) (limits : Limits) (may_open : MayOpen limits) (h : History P) (legal : IsLegal meld limits h) (i : ℕ) (s : Step) (n : IsNth pack unpack h i s) where
  by_event : (before : History P) (event : Event P) → MayFollow meld limits before event → IsEventWord (place_of before event) (word_of pack event)
  by_event before (Fail r) may = let range = may_open.in_range.ranks in let below = may.0 in (omega arith, omega (arith, range, below))
  by_event before (Spawn j c k) may =
      let comms = may_open.in_range.comms in
      let rounds = may_open.in_range.rounds in (omega arith, omega (arith, comms, rounds, may.next, may.room, may.exists, may.in_rounds))
  by_event before (Settle c k r given) may = first_small (slot_number pack (Given given))
  by_event before (Mark c k r mark) may = first_small (slot_number pack (Marked mark))
  by_event before (Arrive c k r) may = tt
  by_event before (Revoke c) may = tt

  pub word_fits : IsEventWord s.place s.word
  word_fits =
      let parts = split_at h i n.entry n.stands in
      let may = (legal_parts meld limits (take i h) (n.entry ∷ parts.0) (subst (IsLegal meld limits) (sym parts.1) legal)).1.0 in
      subst (λ p. IsEventWord p s.word) (sym n.place) (subst (λ w. IsEventWord (place_of (take i h) n.entry.event) w) (sym n.word) (by_event (take i h) n.entry.event may))

  pub event_is : (event : Option (Event P)) → event ≡ event_in unpack s.place s.word s.half → MatchOption event (length h ≤ i) (λ e. (by : Caller) × (slice_get h i ≡ Some (record { by = by; event = e })))
  event_is None is = let none : entry_by s.by None ≡ Some n.entry = ap (entry_by s.by) is ∙ n.is_entry in absurd (cc none)
  event_is (Some e) is = (s.by, n.stands ∙ sym (ap (entry_by s.by) is ∙ n.is_entry))

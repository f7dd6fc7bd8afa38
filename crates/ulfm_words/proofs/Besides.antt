-- The words that no event sets, as a history grows and more of them are set.
use Rattle.std.proofs.Common.{◌≡◌, ◌≢◌, ◌⊎◌, inl, inr, ℕ, ◌<◌, ◌||◌, ◌&&◌, ◌==◌, Bool, true, false, List, [], ◌∷◌, ◌++◌, Option, Some, None, refl, ap, sym, ◌∙◌, subst, arith, if◌then◌else◌}
use Rattle.ulfm_model.specs.declared.{block.Beside.{Beside}, block.Block.{Block}, block.Wing.{Wing}, contribution.Contribution.{Contribution}, contribution.Slot.{Slot}, contribution.Slot.TheVariants.{Given, Mark as Marked}}
use Rattle.ulfm_model.specs.declared.{event.Entry.{Entry}, event.Event.{Event}, event.Event.TheVariants.{Fail, Settle, Mark, Arrive, Revoke, Spawn}, limits.Limits.{Limits}}
use Rattle.ulfm_model.specs.{Blocks.{IsBlock, IsBlockWithin, IsCached, IsWing, has_block, has_wing, is_block, is_wing, same_block, same_wing}, History.{History, same_place, slot}, Words.{slot_wing}}
use Rattle.ulfm_model.proofs.{Blocks.{block_self, block_some, cached_stays, has_block_push, has_wing_push, is_wing_parts, same_block_is, same_wing_is, wing_self, wing_stays}, Histories.{slot_push, slot_stays}, OneEvent.{put_by}}
use Rattle.std.proofs.lemmas.Bool.{and_parts, eqb-true}
use Rattle.ulfm_words.specs.{Besides.{AreBeside, written}, Places.{IsCell, IsWingWithin}, Steps.{IsWinged}}

not_both : (b : Bool) → b ≡ true → b ≡ false → ⊥
not_both true e f = absurd (cc f)
not_both false e f = absurd (cc e)

-- two blocks are one or not
pub block_or_not : (a b : Block) → (a ≡ b) ⊎ ((a ≢ b) × (same_block a b ≡ false))
block_or_not a b = go (same_block a b) refl
  where
    go : (t : Bool) → same_block a b ≡ t → (a ≡ b) ⊎ ((a ≢ b) × (same_block a b ≡ false))
    go true is = inl (same_block_is a b is)
    go false is = inr (λ same. not_both (same_block a b) (subst (λ x. same_block a x ≡ true) same (block_self a)) is, is)

pub wing_or_not : (a b : Wing) → (a ≡ b) ⊎ (a ≢ b)
wing_or_not a b = go (same_wing a b) refl
  where
    go : (t : Bool) → same_wing a b ≡ t → (a ≡ b) ⊎ (a ≢ b)
    go true is = inl (same_wing_is a b is)
    go false is = inr (λ same. not_both (same_wing a b) (subst (λ x. same_wing a x ≡ true) same (wing_self a)) is)

-- what is among one more is that or was among them
pub has_or : (xs : List Beside) (a : Beside) (b : Block) → has_block (xs ++ a ∷ []) b ≡ true → (has_block xs b ≡ true) ⊎ (is_block b a ≡ true)
has_or xs a b has = go (has_block xs b) refl (sym (has_block_push xs a b) ∙ has)
  where
    go : (t : Bool) → has_block xs b ≡ t → (t || is_block b a) ≡ true → (has_block xs b ≡ true) ⊎ (is_block b a ≡ true)
    go true is e = inl is
    go false is e = inr e

pub wing_or : (xs : List Beside) (a : Beside) (x : Wing) (w : ℕ) → has_wing (xs ++ a ∷ []) x w ≡ true → (has_wing xs x w ≡ true) ⊎ (is_wing x w a ≡ true)
wing_or xs a x w has = go (has_wing xs x w) refl (sym (has_wing_push xs a x w) ∙ has)
  where
    go : (t : Bool) → has_wing xs x w ≡ t → (t || is_wing x w a) ≡ true → (has_wing xs x w ≡ true) ⊎ (is_wing x w a ≡ true)
    go true is e = inl is
    go false is e = inr e

module _ {P : Type 0} (meld : P → P → P) (pack : P → ℕ) where
  -- a contribution that stands after an event stood before, or is the event's
  given_or : (h : History P) (e : Entry P) (c k r : ℕ) (g : Contribution P) → slot (h ++ e ∷ []) c k r ≡ Some (Given g) → (slot h c k r ≡ Some (Given g)) ⊎ (e.event ≡ Settle c k r g)
  given_or h e c k r g is = go (slot h c k r) refl
    where
      one : (x y : Slot P) → (let o : Option (Slot P) = Some x in o) ≡ Some y → x ≡ y
      one x y same = cc same

      by : (event : Event P) → put_by c k r event ≡ Some (Given g) → event ≡ Settle c k r g
      by (Fail rank) same = absurd (cc same)
      by (Arrive d l s) same = absurd (cc same)
      by (Revoke d) same = absurd (cc same)
      by (Spawn j d l) same = absurd (cc same)
      by (Mark d l s mark) same = at (same_place (d, l, s) (c, k, r)) same
        where
          at : (t : Bool) → (let o : Option (Slot P) = (if t then Some (Marked mark) else None) in o) ≡ Some (Given g) → Mark d l s mark ≡ Settle c k r g
          at true same = absurd (cc same)
          at false same = absurd (cc same)
      by (Settle d l s other) same = at (same_place (d, l, s) (c, k, r)) refl same
        where
          at : (t : Bool) → same_place (d, l, s) (c, k, r) ≡ t → (let o : Option (Slot P) = (if t then Some (Given other) else None) in o) ≡ Some (Given g) → Settle d l s other ≡ Settle c k r g
          at true place same =
              let both = and_parts ((d == c) && (l == k)) (s == r) place in
              let first = and_parts (d == c) (l == k) both.0 in
              let x = eqb-true d c first.0 in
              let y = eqb-true l k first.1 in
              let z = eqb-true s r both.1 in
              let given : other ≡ g = cc same in
              cc (x, y, z, given)
          at false place same = absurd (cc same)

      go : (o : Option (Slot P)) → slot h c k r ≡ o → (slot h c k r ≡ Some (Given g)) ⊎ (e.event ≡ Settle c k r g)
      go (Some s) before =
          let still = slot_stays h (h ++ e ∷ []) c k r s (e ∷ [], refl) before in
          inl (before ∙ ap Some (one s (Given g) (sym still ∙ is)))
      go None before = inr (by e.event (sym (slot_push h e c k r before) ∙ is))

  module _ (limits : Limits) (block : Block → ℕ) (wing : Wing → ℕ) where
    -- after an event, whose wing is known to be set where it is a contribution
    pub beside_event : (h : History P) (e : Entry P) (cached : List Beside) → IsWinged pack cached e.event
        → AreBeside meld pack (written h limits cached) block wing → AreBeside meld pack (written (h ++ e ∷ []) limits cached) block wing
    beside_event h e cached winged are = record {
      word = λ b there. cached_stays meld pack limits.ranks h (h ++ e ∷ []) b (block b) (e ∷ [], refl) (are.word b there);
      told = are.told;
      first = are.first;
      known = are.known;
      given = λ c k r cell g is. by c k r cell g (given_or h e c k r g is);
      said = λ b there. later b (are.said b there);
    }
      where
        by : (c k r : ℕ) → IsCell limits c k r → (g : Contribution P) → (slot h c k r ≡ Some (Given g)) ⊎ (e.event ≡ Settle c k r g) → wing (Wing.Slot c k r) ≡ slot_wing pack (Given g)
        by c k r cell g (inl before) = are.given c k r cell g before
        by c k r cell g (inr new) = (are.known (Wing.Slot c k r) cell (slot_wing pack (Given g)) (subst (IsWinged pack cached) new winged)).0

        later : (b : Block) → (wing (Wing.Block b) ≡ 0) ⊎ IsWing meld pack limits.ranks h (Wing.Block b) (wing (Wing.Block b))
            → (wing (Wing.Block b) ≡ 0) ⊎ IsWing meld pack limits.ranks (h ++ e ∷ []) (Wing.Block b) (wing (Wing.Block b))
        later b (inl none) = inl none
        later b (inr is) = inr (wing_stays meld pack limits.ranks h (h ++ e ∷ []) (Wing.Block b) (wing (Wing.Block b)) (e ∷ [], refl) is)

    -- after a step that found a block set
    pub beside_found : (h : History P) (cached : List Beside) (a : Block) → IsBlockWithin limits a → block a ≢ 0 → AreBeside meld pack (written h limits cached) block wing
        → AreBeside meld pack (written h limits (cached ++ Beside.Block a ∷ [])) block wing
    beside_found h cached a there some are = record {
      word = are.word;
      told = λ b within has. by b within (has_or cached (Beside.Block a) b has);
      first = are.first;
      known = λ x within w has. wing_by x within w (wing_or cached (Beside.Block a) x w has);
      given = are.given;
      said = are.said;
    }
      where
        by : (b : Block) → IsBlockWithin limits b → (has_block cached b ≡ true) ⊎ (same_block a b ≡ true) → block b ≢ 0
        by b within (inl before) = are.told b within before
        by b within (inr same) = subst (λ x. block x ≢ 0) (same_block_is a b same) some

        wing_by : (x : Wing) → IsWingWithin limits x → (w : ℕ) → (has_wing cached x w ≡ true) ⊎ (is_wing x w (Beside.Block a) ≡ true) → (wing x ≡ w) × (0 < w)
        wing_by x within w (inl before) = are.known x within w before
        wing_by x within w (inr never) = absurd (cc never)

    -- after a step that found a wing set
    pub beside_stood : (h : History P) (cached : List Beside) (a : Wing) → wing a ≢ 0 → AreBeside meld pack (written h limits cached) block wing
        → AreBeside meld pack (written h limits (cached ++ Beside.Wing a (wing a) ∷ [])) block wing
    beside_stood h cached a some are = record {
      word = are.word;
      told = λ b within has. by b within (has_or cached (Beside.Wing a (wing a)) b has);
      first = are.first;
      known = λ x within w has. wing_by x within w (wing_or cached (Beside.Wing a (wing a)) x w has);
      given = are.given;
      said = are.said;
    }
      where
        by : (b : Block) → IsBlockWithin limits b → (has_block cached b ≡ true) ⊎ (is_block b (Beside.Wing a (wing a)) ≡ true) → block b ≢ 0
        by b within (inl before) = are.told b within before
        by b within (inr never) = absurd (cc never)

        wing_by : (x : Wing) → IsWingWithin limits x → (w : ℕ) → (has_wing cached x w ≡ true) ⊎ (is_wing x w (Beside.Wing a (wing a)) ≡ true) → (wing x ≡ w) × (0 < w)
        wing_by x within w (inl before) = are.known x within w before
        wing_by x within w (inr same) =
            let parts = is_wing_parts x w a (wing a) same in
            (ap wing (sym parts.0) ∙ parts.1, omega (arith, parts.1, some))

    -- after a block's word, which was 0, is set
    pub beside_block : (h : History P) (cached : List Beside) (a : Block) (w : ℕ) (block' : Block → ℕ) (wing' : Wing → ℕ) → IsBlockWithin limits a → IsBlock meld pack limits.ranks h a w → wing (Wing.Block a) ≢ 0
        → block' a ≡ w → ((b : Block) → IsBlockWithin limits b → b ≢ a → block' b ≡ block b) → ((x : Wing) → IsWingWithin limits x → wing' x ≡ wing x)
        → AreBeside meld pack (written h limits cached) block wing → AreBeside meld pack (written h limits (cached ++ Beside.Block a ∷ [])) block' wing'
    beside_block h cached a w block' wing' there is spread set others wings are = record {
      word = λ b within. word_by b within (block_or_not b a);
      told = λ b within has. told_by b within (block_or_not b a) (has_or cached (Beside.Block a) b has);
      first = λ b within some. first_by b within (block_or_not b a) some;
      known = λ x within v has. wing_by x within v (wing_or cached (Beside.Block a) x v has);
      given = λ c k r cell g stands. wings (Wing.Slot c k r) cell ∙ are.given c k r cell g stands;
      said = λ b within. subst (λ v. (v ≡ 0) ⊎ IsWing meld pack limits.ranks h (Wing.Block b) v) (sym (wings (Wing.Block b) within)) (are.said b within);
    }
      where
        some_there : block' a ≢ 0
        some_there zero = let pos = block_some meld pack limits.ranks h a w is in absurd (omega (arith, pos, set, zero))

        word_by : (b : Block) → IsBlockWithin limits b → (b ≡ a) ⊎ ((b ≢ a) × (same_block b a ≡ false)) → IsCached meld pack limits.ranks h b (block' b)
        word_by b within (inl same) = inr (subst (λ x. IsBlock meld pack limits.ranks h x (block' x)) (sym same) (subst (IsBlock meld pack limits.ranks h a) (sym set) is))
        word_by b within (inr other) = subst (IsCached meld pack limits.ranks h b) (sym (others b within other.0)) (are.word b within)

        told_by : (b : Block) → IsBlockWithin limits b → (b ≡ a) ⊎ ((b ≢ a) × (same_block b a ≡ false)) → (has_block cached b ≡ true) ⊎ (same_block a b ≡ true) → block' b ≢ 0
        told_by b within (inl same) has = subst (λ x. block' x ≢ 0) (sym same) some_there
        told_by b within (inr other) (inl before) = λ zero. are.told b within before (sym (others b within other.0) ∙ zero)
        told_by b within (inr other) (inr same) = absurd (other.0 (sym (same_block_is a b same)))

        first_by : (b : Block) → IsBlockWithin limits b → (b ≡ a) ⊎ ((b ≢ a) × (same_block b a ≡ false)) → block' b ≢ 0 → wing' (Wing.Block b) ≢ 0
        first_by b within (inl same) some = λ zero. spread (ap (λ x. wing (Wing.Block x)) (sym same) ∙ (sym (wings (Wing.Block b) within) ∙ zero))
        first_by b within (inr other) some = λ zero. are.first b within (λ none. some (others b within other.0 ∙ none)) (sym (wings (Wing.Block b) within) ∙ zero)

        wing_by : (x : Wing) → IsWingWithin limits x → (v : ℕ) → (has_wing cached x v ≡ true) ⊎ (is_wing x v (Beside.Block a) ≡ true) → (wing' x ≡ v) × (0 < v)
        wing_by x within v (inl before) = let k = are.known x within v before in (wings x within ∙ k.0, k.1)
        wing_by x within v (inr never) = absurd (cc never)

    -- after a wing, which was 0, is set
    pub beside_wing : (h : History P) (cached : List Beside) (a : Wing) (w : ℕ) (block' : Block → ℕ) (wing' : Wing → ℕ) → 0 < w → ((b : Block) → a ≡ Wing.Block b → IsWing meld pack limits.ranks h (Wing.Block b) w) → wing a ≡ 0
        → wing' a ≡ w → ((x : Wing) → IsWingWithin limits x → x ≢ a → wing' x ≡ wing x) → ((b : Block) → IsBlockWithin limits b → block' b ≡ block b)
        → AreBeside meld pack (written h limits cached) block wing → AreBeside meld pack (written h limits (cached ++ Beside.Wing a w ∷ [])) block' wing'
    beside_wing h cached a w block' wing' pos is zero set others blocks are = record {
      word = λ b within. subst (IsCached meld pack limits.ranks h b) (sym (blocks b within)) (are.word b within);
      told = λ b within has. told_by b within (has_or cached (Beside.Wing a w) b has);
      first = λ b within some. first_by b within (wing_or_not (Wing.Block b) a) some;
      known = λ x within v has. known_by x within v (wing_or_not x a) (wing_or cached (Beside.Wing a w) x v has);
      given = λ c k r cell g stands. given_by c k r cell g stands (wing_or_not (Wing.Slot c k r) a);
      said = λ b within. said_by b within (wing_or_not (Wing.Block b) a);
    }
      where
        told_by : (b : Block) → IsBlockWithin limits b → (has_block cached b ≡ true) ⊎ (is_block b (Beside.Wing a w) ≡ true) → block' b ≢ 0
        told_by b within (inl before) = λ none. are.told b within before (sym (blocks b within) ∙ none)
        told_by b within (inr never) = absurd (cc never)

        first_by : (b : Block) → IsBlockWithin limits b → (Wing.Block b ≡ a) ⊎ (Wing.Block b ≢ a) → block' b ≢ 0 → wing' (Wing.Block b) ≢ 0
        first_by b within (inl same) some = λ none. absurd (omega (arith, pos, ap wing' (sym same) ∙ none, set))
        first_by b within (inr other) some = λ none. are.first b within (λ nothing. some (blocks b within ∙ nothing)) (sym (others (Wing.Block b) within other) ∙ none)

        known_by : (x : Wing) → IsWingWithin limits x → (v : ℕ) → (x ≡ a) ⊎ (x ≢ a) → (has_wing cached x v ≡ true) ⊎ (is_wing x v (Beside.Wing a w) ≡ true) → (wing' x ≡ v) × (0 < v)
        known_by x within v (inl same) (inl before) = let k = are.known x within v before in absurd (omega (arith, k.0, k.1, ap wing same, zero))
        known_by x within v (inr other) (inl before) = let k = are.known x within v before in (others x within other ∙ k.0, k.1)
        known_by x within v which (inr now) =
            let parts = is_wing_parts x v a w now in (ap wing' (sym parts.0) ∙ (set ∙ parts.1), omega (arith, pos, parts.1))

        given_by : (c k r : ℕ) → IsCell limits c k r → (g : Contribution P) → slot h c k r ≡ Some (Given g) → (Wing.Slot c k r ≡ a) ⊎ (Wing.Slot c k r ≢ a) → wing' (Wing.Slot c k r) ≡ slot_wing pack (Given g)
        given_by c k r cell g stands (inl same) = absurd (omega (arith, are.given c k r cell g stands, ap wing same, zero))
        given_by c k r cell g stands (inr other) = others (Wing.Slot c k r) cell other ∙ are.given c k r cell g stands

        said_by : (b : Block) → IsBlockWithin limits b → (Wing.Block b ≡ a) ⊎ (Wing.Block b ≢ a) → (wing' (Wing.Block b) ≡ 0) ⊎ IsWing meld pack limits.ranks h (Wing.Block b) (wing' (Wing.Block b))
        said_by b within (inl same) = inr (subst (IsWing meld pack limits.ranks h (Wing.Block b)) (sym (ap wing' same ∙ set)) (is b (sym same)))
        said_by b within (inr other) = subst (λ v. (v ≡ 0) ⊎ IsWing meld pack limits.ranks h (Wing.Block b) v) (sym (others (Wing.Block b) within other)) (are.said b within)

-- what words that are all 0 are, where nothing is known
pub beside_new : {P : Type 0} (meld : P → P → P) (pack : P → ℕ) (limits : Limits) (block : Block → ℕ) (wing : Wing → ℕ) → ((b : Block) → IsBlockWithin limits b → block b ≡ 0) → ((x : Wing) → IsWingWithin limits x → wing x ≡ 0)
    → AreBeside meld pack (written [] limits []) block wing
beside_new meld pack limits block wing blocks wings = record {
  word = λ b within. inl (blocks b within);
  told = λ b within has. absurd (cc has);
  first = λ b within some. absurd (some (blocks b within));
  known = λ x within w has. absurd (cc has);
  given = λ c k r cell g is. absurd (cc is);
  said = λ b within. inl (wings (Wing.Block b) within);
}

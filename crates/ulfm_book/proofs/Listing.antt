-- The words of blocks and the wings, each of which is listed, as a history grows and more of them are set.
use Rattle.std.proofs.Common.{◌≡◌, ◌≢◌, ◌⊎◌, inl, inr, ℕ, ◌<◌, true, false, List, [], ◌∷◌, ◌++◌, sym, ◌∙◌, subst}
use mathlib.Core.List.{IsPrefix}
use Rattle.ulfm_model.specs.declared.{block.Beside.{Beside}, block.Block.{Block}, block.Wing.{Wing}, event.Entry.{Entry}, event.Event.{Event}, event.Event.TheVariants.{Fail, Settle, Mark, Arrive, Revoke, Spawn}, limits.Limits.{Limits}}
use Rattle.ulfm_model.specs.declared.contribution.Slot.{Slot}
use Rattle.ulfm_model.specs.{Blocks.{IsBlock, IsBlockWithin, IsCached, IsWing, has_block, has_wing, same_block}, History.{History}, Words.{slot_wing}}
use Rattle.ulfm_model.proofs.Blocks.{has_block_stays, has_wing_stays, now_has_wing}
use Rattle.ulfm_words.specs.{Besides.{AreBeside, written}, Places.{IsWingWithin}, Steps.{IsWinged}}
use Rattle.ulfm_words.proofs.{Besides.{beside_block, beside_event, beside_new, beside_wing, block_or_not, wing_or_not}, Growing.{prefix_push, prefix_self}, Standing.{now_has}}
use Rattle.ulfm_book.specs.Rules.{AreListed}

-- an event whose wing is known to be set stays so
pub winged_stays : {P : Type 0} (pack : P → ℕ) (xs ys : List Beside) (e : Event P) → IsPrefix xs ys → IsWinged pack xs e → IsWinged pack ys e
winged_stays pack xs ys (Fail rank) begins is = tt
winged_stays pack xs ys (Settle c k r given) begins is = has_wing_stays xs ys (Wing.Slot c k r) (slot_wing pack (Slot.Given given)) begins is
winged_stays pack xs ys (Mark c k r mark) begins is = tt
winged_stays pack xs ys (Arrive c k r) begins is = tt
winged_stays pack xs ys (Revoke c) begins is = tt
winged_stays pack xs ys (Spawn j c k) begins is = tt

module _ {P : Type 0} (meld : P → P → P) (pack : P → ℕ) (limits : Limits) (h : History P) (cached : List Beside) (block : Block → ℕ) (wing : Wing → ℕ) where
  one_more : (a : Beside) → IsPrefix cached (cached ++ a ∷ [])
  one_more a = prefix_push cached cached a (prefix_self cached)

  -- words that are the same are listed, too
  module _ (block' : Block → ℕ) (wing' : Wing → ℕ) (blocks : (b : Block) → IsBlockWithin limits b → block' b ≡ block b) (wings : (x : Wing) → IsWingWithin limits x → wing' x ≡ wing x) where
    beside_as : AreBeside meld pack (written h limits cached) block wing → AreBeside meld pack (written h limits cached) block' wing'
    beside_as are = record {
      word = λ b within. subst (IsCached meld pack limits.ranks h b) (sym (blocks b within)) (are.word b within);
      told = λ b within has none. are.told b within has (sym (blocks b within) ∙ none);
      first = λ b within some none. are.first b within (λ zero. some (blocks b within ∙ zero)) (sym (wings (Wing.Block b) within) ∙ none);
      known = λ x within w has. (wings x within ∙ (are.known x within w has).0, (are.known x within w has).1);
      given = λ c k r cell g is. wings (Wing.Slot c k r) cell ∙ are.given c k r cell g is;
      said = λ b within. subst (λ v. (v ≡ 0) ⊎ IsWing meld pack limits.ranks h (Wing.Block b) v) (sym (wings (Wing.Block b) within)) (are.said b within);
    }

    pub listed_as : AreListed meld pack (written h limits cached) block wing → AreListed meld pack (written h limits cached) block' wing'
    listed_as are = record {
      beside = beside_as are.beside;
      blocks = λ b within some. are.blocks b within (λ zero. some (blocks b within ∙ zero));
      wings = λ x within some. subst (λ v. has_wing cached x v ≡ true) (sym (wings x within)) (are.wings x within (λ zero. some (wings x within ∙ zero)));
    }

  -- after an event, whose wing is known to be set where it is a contribution
  pub listed_event : (e : Entry P) → IsWinged pack cached e.event → AreListed meld pack (written h limits cached) block wing → AreListed meld pack (written (h ++ e ∷ []) limits cached) block wing
  listed_event e winged are = record {
    beside = beside_event meld pack limits block wing h e cached winged are.beside;
    blocks = are.blocks;
    wings = are.wings;
  }

  -- after a block's word, which was 0, is set
  pub listed_block : (a : Block) (w : ℕ) (block' : Block → ℕ) (wing' : Wing → ℕ) → IsBlockWithin limits a → IsBlock meld pack limits.ranks h a w → wing (Wing.Block a) ≢ 0
      → block' a ≡ w → ((b : Block) → IsBlockWithin limits b → b ≢ a → block' b ≡ block b) → ((x : Wing) → IsWingWithin limits x → wing' x ≡ wing x)
      → AreListed meld pack (written h limits cached) block wing → AreListed meld pack (written h limits (cached ++ Beside.Block a ∷ [])) block' wing'
  listed_block a w block' wing' there is spread set others wings are = record {
    beside = beside_block meld pack limits block wing h cached a w block' wing' there is spread set others wings are.beside;
    blocks = λ b within some. by b within some (block_or_not b a);
    wings = λ x within some.
        subst (λ v. has_wing (cached ++ Beside.Block a ∷ []) x v ≡ true) (sym (wings x within))
        (has_wing_stays cached (cached ++ Beside.Block a ∷ []) x (wing x) (one_more (Beside.Block a)) (are.wings x within (λ zero. some (wings x within ∙ zero))));
  }
    where
      by : (b : Block) → IsBlockWithin limits b → block' b ≢ 0 → (b ≡ a) ⊎ ((b ≢ a) × (same_block b a ≡ false)) → has_block (cached ++ Beside.Block a ∷ []) b ≡ true
      by b within some (inl same) = subst (λ x. has_block (cached ++ Beside.Block a ∷ []) x ≡ true) (sym same) (now_has cached a)
      by b within some (inr other) =
          has_block_stays cached (cached ++ Beside.Block a ∷ []) b (one_more (Beside.Block a)) (are.blocks b within (λ zero. some (others b within other.0 ∙ zero)))

  -- after a wing, which was 0, is set
  pub listed_wing : (a : Wing) (w : ℕ) (block' : Block → ℕ) (wing' : Wing → ℕ) → 0 < w → ((b : Block) → a ≡ Wing.Block b → IsWing meld pack limits.ranks h (Wing.Block b) w) → wing a ≡ 0
      → wing' a ≡ w → ((x : Wing) → IsWingWithin limits x → x ≢ a → wing' x ≡ wing x) → ((b : Block) → IsBlockWithin limits b → block' b ≡ block b)
      → AreListed meld pack (written h limits cached) block wing → AreListed meld pack (written h limits (cached ++ Beside.Wing a w ∷ [])) block' wing'
  listed_wing a w block' wing' pos is zero set others blocks are = record {
    beside = beside_wing meld pack limits block wing h cached a w block' wing' pos is zero set others blocks are.beside;
    blocks = λ b within some. has_block_stays cached (cached ++ Beside.Wing a w ∷ []) b (one_more (Beside.Wing a w)) (are.blocks b within (λ none. some (blocks b within ∙ none)));
    wings = λ x within some. by x within some (wing_or_not x a);
  }
    where
      by : (x : Wing) → IsWingWithin limits x → wing' x ≢ 0 → (x ≡ a) ⊎ (x ≢ a) → has_wing (cached ++ Beside.Wing a w ∷ []) x (wing' x) ≡ true
      by x within some (inl same) =
          let now : has_wing (cached ++ Beside.Wing a w ∷ []) a (wing' a) ≡ true = subst (λ v. has_wing (cached ++ Beside.Wing a w ∷ []) a v ≡ true) (sym set) (now_has_wing cached a w) in
          subst (λ y. has_wing (cached ++ Beside.Wing a w ∷ []) y (wing' y) ≡ true) (sym same) now
      by x within some (inr other) =
          subst (λ v. has_wing (cached ++ Beside.Wing a w ∷ []) x v ≡ true) (sym (others x within other))
          (has_wing_stays cached (cached ++ Beside.Wing a w ∷ []) x (wing x) (one_more (Beside.Wing a w)) (are.wings x within (λ none. some (others x within other ∙ none))))

-- words that are all 0, of which none is listed
pub listed_new : {P : Type 0} (meld : P → P → P) (pack : P → ℕ) (limits : Limits) (block : Block → ℕ) (wing : Wing → ℕ) → ((b : Block) → IsBlockWithin limits b → block b ≡ 0) → ((x : Wing) → IsWingWithin limits x → wing x ≡ 0)
    → AreListed meld pack (written [] limits []) block wing
listed_new meld pack limits block wing blocks wings = record {
  beside = beside_new meld pack limits block wing blocks wings;
  blocks = λ b within some. absurd (some (blocks b within));
  wings = λ x within some. absurd (some (wings x within));
}

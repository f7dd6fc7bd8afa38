-- Blocks: how wide they are, that what stands at them stays right, and that both together say what all members say.
use Rattle.std.proofs.Common.{◌≡◌, ◌⊎◌, inl, inr, ℕ, zero, suc, ◌+◌, ◌-◌, ◌*◌, ◌^◌, ◌≤◌, ◌<◌, ◌==◌, ◌&&◌, ◌||◌, Bool, true, false, cond, List, [], ◌∷◌, ◌++◌, length, take, drop, refl, ap, sym, ◌∙◌, subst, arith, nat_le}
use Rattle.std.proofs.lemmas.Bool.{and_parts, and_from, eqb-true, eq-eqb, or_left, or_right}
use Rattle.std.proofs.lemmas.Bool.Decides.{nat_tests}
use mathlib.Core.List.{IsPrefix}
use Rattle.std.proofs.Math.Nat.{pow-succ'}
use Rattle.ulfm_laws.specs.{declared.summary.Summary.{Summary}, Lawful.{IsLawful}, Summaries.{summary_meld}}
use Rattle.ulfm_model.specs.declared.{block.Beside.{Beside}, block.Block.{Block}, block.Wing.{Wing}, contribution.Contribution.{Contribution}, contribution.Slot.TheVariants.{Given}, block.Side.{Side}, block.Side.TheVariants.{Front, Back}}
use Rattle.ulfm_model.specs.{Blocks.{IsBlock, IsCached, IsSide, IsSummed, IsWing, IsWritten, block_of, block_wing, block_word, has_block, has_wing, is_block, is_wing, same_block, same_side, same_wing, width, wider}, History.{History, members}}
use Rattle.ulfm_model.specs.Words.{slot_wing}
use Rattle.ulfm_model.proofs.{Histories.{members_stay, slot_stays}, Summed.{summed_join, summed_later}}

some_wider : (n w : ℕ) → w ≤ n → n ≤ 2 * w → (wider (suc n) w ≤ suc n) × (suc n < 2 * wider (suc n) w)
some_wider n zero low high = (omega arith, omega (arith, high))
some_wider n (suc w) low high =
    elim (nat_le (2 * suc w) (suc n)) as (λ b. nat_le (2 * suc w) (suc n) ≡ b → (cond b (2 * suc w) (suc w) ≤ suc n) × (suc n < 2 * cond b (2 * suc w) (suc w)))
    [ true ↦ λ is. (grind (arith, nat_tests), omega (arith, high)) | false ↦ λ is. (omega (arith, low), grind (arith, nat_tests)) ] refl

pub width_is : (n : ℕ) → (width n ≤ n) × (n ≤ 2 * width n)
width_is zero = (omega arith, omega arith)
width_is (suc n) = let w = width_is n in let is = some_wider n (width n) w.0 w.1 in (is.0, omega (arith, is.1))

-- two blocks are more than enough where there are members
pub width_wide : (n : ℕ) → 0 < n → n < 2 * width n
width_wide zero some = absurd (omega (arith, some))
width_wide (suc n) some = let w = width_is n in (some_wider n (width n) w.0 w.1).1

module _ {P : Type 0} (meld : P → P → P) (written : Summary P → ℕ) (ranks : ℕ) where
  -- whatever comes later, also in a history that isn't known to be legal
  pub written_stays : (h longer : History P) (b : Block) (w : ℕ) → IsPrefix h longer → IsWritten meld written ranks h b w → IsWritten meld written ranks longer b w
  written_stays h longer b w begins is =
      let same = members_stay ranks h longer b.comm begins is.exists in
      record {
        exists = same.0;
        side = subst (IsSide b.side) (sym same.1) is.side;
        all = is.all;
        summed = subst (λ g. IsSummed meld longer b.comm b.round (block_of b.side g) is.all) (sym same.1) (summed_later meld h longer b.comm b.round (block_of b.side (members ranks h b.comm)) is.all begins is.summed);
        word_is = is.word_is;
      }

  -- what is written so is one word
  pub one_written : (h : History P) (b : Block) (v w : ℕ) → IsWritten meld written ranks h b v → IsWritten meld written ranks h b w → v ≡ w
  one_written h b v w x y = x.word_is ∙ (ap written (x.summed.is ∙ sym y.summed.is) ∙ sym y.word_is)

module _ {P : Type 0} (meld : P → P → P) (pack : P → ℕ) (ranks : ℕ) where
  pub block_stays : (h longer : History P) (b : Block) (w : ℕ) → IsPrefix h longer → IsBlock meld pack ranks h b w → IsBlock meld pack ranks longer b w
  block_stays = written_stays meld (block_word pack) ranks

  -- a wing's word stays
  pub wing_stays : (h longer : History P) (wing : Wing) (w : ℕ) → IsPrefix h longer → IsWing meld pack ranks h wing w → IsWing meld pack ranks longer wing w
  wing_stays h longer (Wing.Slot c k r) w begins is = (is.0, slot_stays h longer c k r (Given is.0) begins is.1, is.2)
  wing_stays h longer (Wing.Block b) w begins is = written_stays meld (block_wing pack) ranks h longer b w begins is

  -- a wing has one word
  pub one_wing : (h : History P) (wing : Wing) (v w : ℕ) → IsWing meld pack ranks h wing v → IsWing meld pack ranks h wing w → v ≡ w
  one_wing h (Wing.Slot c k r) v w x y = let same : x.0 ≡ y.0 = cc (x.1, y.1) in x.2 ∙ (ap (λ (g : Contribution P). slot_wing pack (Given g)) same ∙ sym y.2)
  one_wing h (Wing.Block b) v w x y = one_written meld (block_wing pack) ranks h b v w x y

  -- which isn't 0
  pub wing_some : (h : History P) (wing : Wing) (w : ℕ) → IsWing meld pack ranks h wing w → 0 < w
  wing_some h (Wing.Slot c k r) w is = omega (arith, is.2)
  wing_some h (Wing.Block b) w is = omega (arith, is.word_is)

  pub cached_stays : (h longer : History P) (b : Block) (w : ℕ) → IsPrefix h longer → IsCached meld pack ranks h b w → IsCached meld pack ranks longer b w
  cached_stays h longer b w begins (inl none) = inl none
  cached_stays h longer b w begins (inr is) = inr (block_stays h longer b w begins is)

  -- a block has one word
  pub one_block : (h : History P) (b : Block) (v w : ℕ) → IsBlock meld pack ranks h b v → IsBlock meld pack ranks h b w → v ≡ w
  one_block h b v w x y = one_written meld (block_word pack) ranks h b v w x y

-- which isn't 0
pub block_some : {P : Type 0} (meld : P → P → P) (pack : P → ℕ) (ranks : ℕ) (h : History P) (b : Block) (w : ℕ) → IsBlock meld pack ranks h b w → 0 < w
block_some meld pack ranks h b w is = omega (arith, is.word_is)

-- the melds of both blocks give that of all members
pub blocks_join : {P : Type 0} {unit : P} (meld : P → P → P) → IsLawful unit meld → (h : History P) (c k : ℕ) (g : List ℕ) (x y : Summary P)
    → IsSummed meld h c k (block_of Front g) x → IsSummed meld h c k (block_of Back g) y → IsSummed meld h c k g (summary_meld meld x y)
blocks_join meld laws h c k g x y front back =
    let w = width_is (length g) in summed_join meld laws h c k (length g - width (length g)) (width (length g)) g x y (omega (arith, w.0, w.1)) front back

-- where the front block has all members it says what they say
take_whole : (n : ℕ) (g : List ℕ) → n ≡ length g → take n g ≡ g
take_whole zero [] is = refl
take_whole zero (x ∷ g) is = absurd (omega (arith, is))
take_whole (suc n) [] is = refl
take_whole (suc n) (x ∷ g) is = ap (λ w. x ∷ w) (take_whole n g (omega (arith, is)))

pub front_whole : {P : Type 0} (meld : P → P → P) (h : History P) (c k : ℕ) (g : List ℕ) (x : Summary P) → width (length g) ≡ length g → IsSummed meld h c k (block_of Front g) x → IsSummed meld h c k g x
front_whole meld h c k g x is front = subst (λ w. IsSummed meld h c k w x) (take_whole (width (length g)) g is) front

pub same_side_is : (a b : Side) → same_side a b ≡ true → a ≡ b
same_side_is Front Front e = refl
same_side_is Back Back e = refl
same_side_is Front Back e = absurd (cc e)
same_side_is Back Front e = absurd (cc e)

side_self : (a : Side) → same_side a a ≡ true
side_self Front = refl
side_self Back = refl

pub same_block_is : (a b : Block) → same_block a b ≡ true → a ≡ b
same_block_is a b e =
    let one = and_parts ((a.comm == b.comm) && (a.round == b.round)) (same_side a.side b.side) e in
    let two = and_parts (a.comm == b.comm) (a.round == b.round) one.0 in
    let comm = eqb-true a.comm b.comm two.0 in
    let round = eqb-true a.round b.round two.1 in
    let side = same_side_is a.side b.side one.1 in
    λ i. record { comm = comm i; round = round i; side = side i }

pub block_self : (b : Block) → same_block b b ≡ true
block_self b = and_from ((b.comm == b.comm) && (b.round == b.round)) (same_side b.side b.side) (and_from (b.comm == b.comm) (b.round == b.round) (eq-eqb b.comm b.comm refl) (eq-eqb b.round b.round refl)) (side_self b.side)

has_more : (xs ys : List Beside) (b : Block) → has_block xs b ≡ true → has_block (xs ++ ys) b ≡ true
has_more [] ys b e = absurd (cc e)
has_more (x ∷ xs) ys b e = elim (is_block b x) as (λ t. (t || has_block xs b) ≡ true → (t || has_block (xs ++ ys) b) ≡ true) [ true ↦ λ _. refl | false ↦ λ rest. has_more xs ys b rest ] e

-- what is among these stays so
pub has_block_stays : (xs ys : List Beside) (b : Block) → IsPrefix xs ys → has_block xs b ≡ true → has_block ys b ≡ true
has_block_stays xs ys b begins e = subst (λ w. has_block w b ≡ true) begins.1 (has_more xs begins.0 b e)

-- a block that is added is there, and another that wasn't there isn't
pub has_block_push : (xs : List Beside) (a : Beside) (b : Block) → has_block (xs ++ a ∷ []) b ≡ (has_block xs b || is_block b a)
has_block_push [] a b = elim (is_block b a) as (λ t. (t || false) ≡ (false || t)) [ true ↦ refl | false ↦ refl ]
has_block_push (x ∷ xs) a b = elim (is_block b x) as (λ t. (t || has_block (xs ++ a ∷ []) b) ≡ ((t || has_block xs b) || is_block b a)) [ true ↦ refl | false ↦ has_block_push xs a b ]

doubled : (w j : ℕ) → w ≡ 2 ^ j → 2 * w ≡ 2 ^ suc j
doubled w j is = ap (λ m. 2 * m) is ∙ sym (pow-succ' 2 j)

-- a width is a power of two
pub width_power : (n : ℕ) → 0 < n → (j : ℕ) × (width n ≡ 2 ^ j)
width_power zero some = absurd (omega (arith, some))
width_power (suc zero) some = (0, refl)
width_power (suc (suc n)) some = go (width (suc n)) (width_power (suc n) (omega arith)) (width_wide (suc n) (omega arith))
  where
    go : (w : ℕ) → (j : ℕ) × (w ≡ 2 ^ j) → suc n < 2 * w → (j : ℕ) × (wider (suc (suc n)) w ≡ 2 ^ j)
    go zero power wide = absurd (omega (arith, wide))
    go (suc w) power wide =
        elim (nat_le (2 * suc w) (suc (suc n))) as (λ b. (j : ℕ) × (cond b (2 * suc w) (suc w) ≡ 2 ^ j))
        [ true ↦ (suc power.0, doubled (suc w) power.0 power.1) | false ↦ power ]

-- what isn't among these wasn't before
pub has_block_not : (xs ys : List Beside) (b : Block) → IsPrefix xs ys → has_block ys b ≡ false → has_block xs b ≡ false
has_block_not xs ys b begins none = go (has_block xs b) refl
  where
    go : (t : Bool) → has_block xs b ≡ t → t ≡ false
    go true has = let still = has_block_stays xs ys b begins has in absurd (cc (still, none))
    go false has = refl

has_more_wings : (xs ys : List Beside) (wing : Wing) (w : ℕ) → has_wing xs wing w ≡ true → has_wing (xs ++ ys) wing w ≡ true
has_more_wings [] ys wing w e = absurd (cc e)
has_more_wings (x ∷ xs) ys wing w e = elim (is_wing wing w x) as (λ t. (t || has_wing xs wing w) ≡ true → (t || has_wing (xs ++ ys) wing w) ≡ true) [ true ↦ λ _. refl | false ↦ λ rest. has_more_wings xs ys wing w rest ] e

-- a wing that is among these stays so
pub has_wing_stays : (xs ys : List Beside) (wing : Wing) (w : ℕ) → IsPrefix xs ys → has_wing xs wing w ≡ true → has_wing ys wing w ≡ true
has_wing_stays xs ys wing w begins e = subst (λ l. has_wing l wing w ≡ true) begins.1 (has_more_wings xs begins.0 wing w e)

-- a wing that is added is there, and another that wasn't there isn't
pub has_wing_push : (xs : List Beside) (a : Beside) (wing : Wing) (w : ℕ) → has_wing (xs ++ a ∷ []) wing w ≡ (has_wing xs wing w || is_wing wing w a)
has_wing_push [] a wing w = elim (is_wing wing w a) as (λ t. (t || false) ≡ (false || t)) [ true ↦ refl | false ↦ refl ]
has_wing_push (x ∷ xs) a wing w = elim (is_wing wing w x) as (λ t. (t || has_wing (xs ++ a ∷ []) wing w) ≡ ((t || has_wing xs wing w) || is_wing wing w a)) [ true ↦ refl | false ↦ has_wing_push xs a wing w ]

place_self : (c k r : ℕ) → same_wing (Wing.Slot c k r) (Wing.Slot c k r) ≡ true
place_self c k r = rw (eq-eqb c c refl, eq-eqb k k refl, eq-eqb r r refl) refl

pub wing_self : (wing : Wing) → same_wing wing wing ≡ true
wing_self (Wing.Slot c k r) = place_self c k r
wing_self (Wing.Block b) = block_self b

pub same_wing_is : (a b : Wing) → same_wing a b ≡ true → a ≡ b
same_wing_is (Wing.Slot c k r) (Wing.Slot d l s) e =
    let one = and_parts ((c == d) && (k == l)) (r == s) e in
    let two = and_parts (c == d) (k == l) one.0 in
    let x = eqb-true c d two.0 in
    let y = eqb-true k l two.1 in
    let z = eqb-true r s one.1 in
    cc (x, y, z)
same_wing_is (Wing.Slot c k r) (Wing.Block b) e = absurd (cc e)
same_wing_is (Wing.Block a) (Wing.Slot c k r) e = absurd (cc e)
same_wing_is (Wing.Block a) (Wing.Block b) e = ap Wing.Block (same_block_is a b e)

-- what is found to be a wing's word was put there as it
pub is_wing_parts : (wing : Wing) (w : ℕ) (x : Wing) (v : ℕ) → is_wing wing w (Beside.Wing x v) ≡ true → (x ≡ wing) × (v ≡ w)
is_wing_parts wing w x v e = let parts = and_parts (same_wing x wing) (v == w) e in (same_wing_is x wing parts.0, eqb-true v w parts.1)

pub is_wing_self : (wing : Wing) (w : ℕ) → is_wing wing w (Beside.Wing wing w) ≡ true
is_wing_self wing w = and_from (same_wing wing wing) (w == w) (wing_self wing) (eq-eqb w w refl)

-- the wing that was added is there
pub now_has_wing : (xs : List Beside) (wing : Wing) (w : ℕ) → has_wing (xs ++ Beside.Wing wing w ∷ []) wing w ≡ true
now_has_wing xs wing w = has_wing_push xs (Beside.Wing wing w) wing w ∙ or_right (has_wing xs wing w) (is_wing wing w (Beside.Wing wing w)) (is_wing_self wing w)

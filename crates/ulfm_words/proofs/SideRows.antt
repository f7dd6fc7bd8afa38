-- Where the words that no event sets stand among those of one owner: two have two places.
use Rattle.std.proofs.Common.{◌≡◌, ◌≢◌, ℕ, zero, suc, ◌+◌, ◌*◌, ◌<◌, List, length, replicate, refl, ap, ap₂, sym, ◌∙◌, arith, get_or-set_other, get_or-set_same}
use Rattle.std.specs.Prelude.{slice_index, slice_set}
use Rattle.std.proofs.lemmas.Nat.{mul-add-lt}
use Rattle.ulfm_model.specs.declared.{block.Block.{Block}, block.Side.{Side}, block.Side.TheVariants.{Front, Back}, block.Wing.{Wing}, limits.Limits.{Limits}, place.Place.{Place}}
use Rattle.ulfm_model.specs.{Blocks.{IsBlockWithin}, Words.{size_of}}
use Rattle.ulfm_words.specs.{Places.{IsCell, IsWingWithin, key_in}, Rows.{SideWords, block_key, side_key, wing_in}}
use Rattle.ulfm_words.proofs.{Keys.{key_lt, one_key}, Numbering.{digits}}

sides : (x y : ℕ) (s t : Side) → 2 * x + side_key s ≡ 2 * y + side_key t → (x ≡ y) × (s ≡ t)
sides x y Front Front e = (omega (arith, e), refl)
sides x y Back Back e = (omega (arith, e), refl)
sides x y Front Back e = absurd (omega (arith, e))
sides x y Back Front e = absurd (omega (arith, e))

-- two blocks have two keys, all below the number of blocks
pub one_block_key : (limits : Limits) (a b : Block) → IsBlockWithin limits a → IsBlockWithin limits b → block_key limits a ≡ block_key limits b → a ≡ b
one_block_key limits a b x y same =
    let s = sides (a.round * limits.comms + a.comm) (b.round * limits.comms + b.comm) a.side b.side same in
    let t = digits limits.comms a.round a.comm b.round b.comm x.comm y.comm s.0 in
    λ i. record { comm = t.1 i; round = t.0 i; side = s.1 i }

side_below : (s : Side) → side_key s < 2
side_below Front = omega arith
side_below Back = omega arith

pub block_key_lt : (limits : Limits) (b : Block) → IsBlockWithin limits b → block_key limits b < 2 * (limits.rounds * limits.comms)
block_key_lt limits b x =
    let row : b.round * limits.comms + b.comm < limits.comms * limits.rounds = mul-add-lt b.round limits.comms b.comm limits.rounds x.round x.comm in
    omega (arith, row, side_below b.side)

pub zeros_at : (n i : ℕ) → slice_index (replicate n 0) i ≡ 0
zeros_at zero i = refl
zeros_at (suc n) zero = refl
zeros_at (suc n) (suc i) = zeros_at n i

-- two slots have two keys
pub slot_keys : (limits : Limits) (c k r d l s : ℕ) → IsCell limits c k r → IsCell limits d l s → key_in limits (Place.Slot c k r) ≡ key_in limits (Place.Slot d l s) → Wing.Slot c k r ≡ Wing.Slot d l s
slot_keys limits c k r d l s x y same =
    let one : Place.Slot c k r ≡ Place.Slot d l s = one_key limits (Place.Slot c k r) (Place.Slot d l s) x y same in
    let a : c ≡ d = cc one in
    let b : k ≡ l = cc one in
    let e : r ≡ s = cc one in
    cc (a, b, e)

module _ (limits : Limits) (ws : List ℕ) (i w : ℕ) (a : Block) (there : IsBlockWithin limits a) where
  -- another block keeps its word, and each block its wing, where a block's word is set
  pub other_block : i ≡ 2 * block_key limits a → (b : Block) → IsBlockWithin limits b → b ≢ a → slice_index (slice_set ws i w) (2 * block_key limits b) ≡ slice_index ws (2 * block_key limits b)
  other_block at b here other =
      get_or-set_other ws i (2 * block_key limits b) w 0 (λ same. other (one_block_key limits b a here there (omega (arith, same, at))))

  -- another block keeps its wing where a block's is set
  pub other_wing : i ≡ 2 * block_key limits a + 1 → (b : Block) → IsBlockWithin limits b → b ≢ a → slice_index (slice_set ws i w) (2 * block_key limits b + 1) ≡ slice_index ws (2 * block_key limits b + 1)
  other_wing at b here other =
      get_or-set_other ws i (2 * block_key limits b + 1) w 0 (λ same. other (one_block_key limits b a here there (omega (arith, same, at))))

-- another slot keeps its wing
pub other_slot : (limits : Limits) (ws : List ℕ) (w c k r d l s : ℕ) → IsCell limits c k r → IsCell limits d l s → Wing.Slot d l s ≢ Wing.Slot c k r
    → slice_index (slice_set ws (key_in limits (Place.Slot c k r)) w) (key_in limits (Place.Slot d l s)) ≡ slice_index ws (key_in limits (Place.Slot d l s))
other_slot limits ws w c k r d l s x y other =
    get_or-set_other ws (key_in limits (Place.Slot c k r)) (key_in limits (Place.Slot d l s)) w 0 (λ same. other (slot_keys limits d l s c k r y x same))

pub same_slot : (limits : Limits) (ws : List ℕ) (w c k r : ℕ) → IsCell limits c k r → length ws ≡ size_of limits → slice_index (slice_set ws (key_in limits (Place.Slot c k r)) w) (key_in limits (Place.Slot c k r)) ≡ w
same_slot limits ws w c k r x long = get_or-set_same ws (key_in limits (Place.Slot c k r)) w 0 (omega (arith, key_lt limits (Place.Slot c k r) x, long))

-- what setting a slot's wing does to each wing
pub slot_set : (old new : SideWords) (c k r w : ℕ) → IsCell old.limits c k r → length old.wings ≡ size_of old.limits → new.limits ≡ old.limits → new.words ≡ old.words → new.wings ≡ slice_set old.wings (key_in old.limits (Place.Slot c k r)) w
    → (wing_in new (Wing.Slot c k r) ≡ w) × ((x : Wing) → IsWingWithin old.limits x → x ≢ Wing.Slot c k r → wing_in new x ≡ wing_in old x)
slot_set old new c k r w cell long limits words wings = (at c k r ∙ same_slot old.limits old.wings w c k r cell long, others)
  where
    at : (d l s : ℕ) → wing_in new (Wing.Slot d l s) ≡ slice_index (slice_set old.wings (key_in old.limits (Place.Slot c k r)) w) (key_in old.limits (Place.Slot d l s))
    at d l s = ap₂ (λ (m : Limits) (ws : List ℕ). slice_index ws (key_in m (Place.Slot d l s))) limits wings

    others : (x : Wing) → IsWingWithin old.limits x → x ≢ Wing.Slot c k r → wing_in new x ≡ wing_in old x
    others (Wing.Slot d l s) there other = at d l s ∙ other_slot old.limits old.wings w c k r d l s cell there other
    others (Wing.Block b) there other = ap₂ (λ (m : Limits) (ws : List ℕ). slice_index ws (2 * block_key m b + 1)) limits words

-- what setting a block's does to the others
pub block_wing_set : (old new : SideWords) (a : Block) (i w : ℕ) → IsBlockWithin old.limits a → i ≡ 2 * block_key old.limits a + 1 → new.limits ≡ old.limits → new.wings ≡ old.wings → new.words ≡ slice_set old.words i w
    → (x : Wing) → IsWingWithin old.limits x → x ≢ Wing.Block a → wing_in new x ≡ wing_in old x
block_wing_set old new a i w within at limits wings words (Wing.Slot d l s) there other = ap₂ (λ (m : Limits) (ws : List ℕ). slice_index ws (key_in m (Place.Slot d l s))) limits wings
block_wing_set old new a i w within at limits wings words (Wing.Block b) there other =
    ap₂ (λ (m : Limits) (ws : List ℕ). slice_index ws (2 * block_key m b + 1)) limits words ∙ other_wing old.limits old.words i w a within at b there (λ same. other (ap Wing.Block same))

-- The members of blocks, what is known of them later, and what both say.
use Rattle.std.proofs.Common.{◌≡◌, ◌⊎◌, inl, inr, ℕ, zero, suc, ◌+◌, ◌-◌, ◌*◌, ◌^◌, ◌≤◌, ◌<◌, if◌then◌else◌, Bool, true, false, List, [], ◌∷◌, length, take, drop, Option, Some, None, IfSome, is_some, nat_lt, refl, ap, sym, ◌∙◌, subst, arith}
use Rattle.std.specs.Prelude.{Result}
use Rattle.std.specs.List.{slice_index}
use Rattle.std.proofs.lemmas.Bool.Decides.{nat_tests}
use Rattle.std.proofs.lemmas.List.{length-take-le, length-drop}
use Rattle.std.proofs.Math.Nat.{pow-succ'}
use Rattle.std.proofs.Math.Pow.{pow_mono}
use mathlib.Core.List.{IsPrefix}
use Rattle.ulfm_laws.specs.{declared.summary.Summary.{Summary}}
use Rattle.ulfm_model.specs.declared.{block.Wing.{Wing}, block.Side.{Side}, block.Side.TheVariants.{Front, Back}, place.Place.TheVariants.{Slot as SlotAt}, limits.Limits.{Limits}}
use Rattle.ulfm_model.specs.{Blocks.{IsBlockWithin, IsSide, IsSummed, IsWritten, block_of, width}, History.{History, IsLegal}, Words.{MayOpen}}
use Rattle.ulfm_model.proofs.{Blocks.{width_is, width_power, width_wide}, RankGroups.{members_few}, Lists.{none_of}, Summed.{summed_later, summed_none}}
use Rattle.ulfm_words.specs.{Blocks.{Caches, BlockSays}, Steps.{Over, Sight, View}, declared.step.Site.{Site}}
use Rattle.ulfm_words.proofs.Ranks.{spawns_below}
use Rattle.ulfm_words.specs.Steps.{view_at}
use Rattle.ulfm_steps.specs.{Blocks.{BothTell, AtBlock, HoldsHalf, MayReadBlocks, MembersTell, begins_at, block_at, blocks_cost, blocks_left, cost_behind, cost_of, first_of, next_in_block, peeks_from, peeks_left, site_of, starts_at, unread_cost, has_back, is_whole, said_at}, Rounds.{IsRoundOf}, Turns.{Running, TakesAt}}
use Rattle.ulfm_steps.specs.declared.{blocks.Peek.{Peek}, blocks.ReadBlocks.{ReadBlocks}, blocks.RoundBlocks.{RoundBlocks}}

-- a block has as many members as it is wide
pub block_length : (side : Side) (g : List ℕ) → length (block_of side g) ≡ width (length g)
block_length Front g = let w = width_is (length g) in length-take-le (width (length g)) g w.0
block_length Back g = let w = width_is (length g) in let d = length-drop (length g - width (length g)) g in omega (arith, d, w.0)

take_at : (n i : ℕ) (g : List ℕ) → i < n → slice_index (take n g) i ≡ slice_index g i
take_at zero i g lt = absurd (omega (arith, lt))
take_at (suc n) i [] lt = refl
take_at (suc n) zero (x ∷ g) lt = refl
take_at (suc n) (suc i) (x ∷ g) lt = take_at n i g (omega (arith, lt))

drop_at : (m i : ℕ) (g : List ℕ) → slice_index (drop m g) i ≡ slice_index g (m + i)
drop_at zero i g = let e : i ≡ 0 + i = omega arith in ap (slice_index g) e
drop_at (suc m) i [] = refl
drop_at (suc m) i (x ∷ g) = let e : suc (m + i) ≡ suc m + i = omega arith in drop_at m i g ∙ ap (λ n. slice_index (x ∷ g) n) e

-- its members stand side by side in the group
pub block_index : (side : Side) (i : ℕ) (g : List ℕ) → i < width (length g) → slice_index (block_of side g) i ≡ slice_index g (first_of side (length g) + i)
block_index Front i g lt = let e : i ≡ 0 + i = omega arith in take_at (width (length g)) i g lt ∙ ap (slice_index g) e
block_index Back i g lt = drop_at (length g - width (length g)) i g

pub index_within : (side : Side) (i : ℕ) (g : List ℕ) → i < width (length g) → first_of side (length g) + i < length g
index_within Front i g lt = let w = width_is (length g) in omega (arith, lt, w.0)
index_within Back i g lt = let w = width_is (length g) in omega (arith, lt, w.0)

take_more : (n : ℕ) (g : List ℕ) → length g ≤ n → take n g ≡ g
take_more zero [] le = refl
take_more zero (x ∷ g) le = absurd (omega (arith, le))
take_more (suc n) [] le = refl
take_more (suc n) (x ∷ g) le = ap (λ w. x ∷ w) (take_more n g (omega (arith, le)))

pub block_all : (side : Side) (n : ℕ) (g : List ℕ) → n ≡ width (length g) → take n (block_of side g) ≡ block_of side g
block_all side n g is = take_more n (block_of side g) (omega (arith, is, block_length side g))

module _ {P : Type 0} (meld : P → P → P) where
  -- what is known of blocks stays
  tells_later : (h longer : History P) (c k : ℕ) (g : List ℕ) (said : Option (Summary P)) → IsPrefix h longer → MembersTell meld h c k g said → MembersTell meld longer c k g said
  tells_later h longer c k g None begins tells = tt
  tells_later h longer c k g (Some all) begins tells = summed_later meld h longer c k g all begins tells

  pub are_later : (h longer : History P) (c k : ℕ) (g : List ℕ) (blocks : RoundBlocks P) → IsPrefix h longer → BothTell meld h c k g blocks → BothTell meld longer c k g blocks
  are_later h longer c k g blocks begins are = record { front = tells_later h longer c k (block_of Front g) blocks.front begins are.front; back = tells_later h longer c k (block_of Back g) blocks.back begins are.back }

  -- and so where a reading of them stands
  pub at_block_later : (h longer : History P) (g : List ℕ) (r : ReadBlocks P) → IsPrefix h longer → AtBlock meld h g r → AtBlock meld longer g r
  at_block_later h longer g r begins at =
      record {
        are = are_later h longer r.comm r.round g r.blocks begins at.are;
        unknown = at.unknown;
        side = at.side;
        front = at.front;
        wide = at.wide;
        begins = at.begins;
        within = at.within;
        read = summed_later meld h longer r.comm r.round (take r.read (block_of r.side g)) r.all begins at.read;
      }

-- no more members than ranks are in a round
pub few_members : {P : Type 0} (limits : Limits) (h : History P) (c k : ℕ) (g : List ℕ) → MayOpen limits → IsRoundOf limits h c k g → length g ≤ 1024
few_members limits h c k g may round = let few = members_few limits.ranks h c in omega (arith, few, may.in_range.ranks, ap length round.group_is)

-- powers of two between a number and its double are one
same_power : (i j n : ℕ) → 2 ^ i ≤ n → n < 2 * 2 ^ i → 2 ^ j ≤ n → n < 2 * 2 ^ j → 2 ^ i ≡ 2 ^ j
same_power i j n a b c d = go (either i j)
  where
    either : (i j : ℕ) → (i < j) ⊎ ((i ≡ j) ⊎ (j < i))
    either i j = grind arith

    apart : (i j : ℕ) → i < j → 2 * 2 ^ i ≤ 2 ^ j
    apart i j lt = let more : 2 ^ suc i ≤ 2 ^ j = pow_mono (omega (arith, lt)) in omega (arith, more, pow-succ' 2 i)

    go : (i < j) ⊎ ((i ≡ j) ⊎ (j < i)) → 2 ^ i ≡ 2 ^ j
    go (inl lt) = absurd (omega (arith, apart i j lt, b, c))
    go (inr (inl same)) = ap (λ m. 2 ^ m) same
    go (inr (inr lt)) = absurd (omega (arith, apart j i lt, d, a))

pub width_of_power : (n i : ℕ) → 0 < n → 2 ^ i ≤ n → n < 2 * 2 ^ i → width n ≡ 2 ^ i
width_of_power n i some low high =
    let p = width_power n some in
    let w = width_is n in
    let wide = width_wide n some in
    p.1 ∙ same_power p.0 i n (omega (arith, p.1, w.0)) (omega (arith, p.1, wide)) low high

-- the words of a block of a round, whose members were read, each of whom is settled
pub is_written : {P : Type 0} (meld : P → P → P) (written : Summary P → ℕ) (limits : Limits) (h : History P) (c k : ℕ) (side : Side) (g : List ℕ) (n w : ℕ) (all : Summary P) → IsRoundOf limits h c k g → IsSide side g → n ≡ width (length g)
    → IsSummed meld h c k (take n (block_of side g)) all → w ≡ written all → IsWritten meld written limits.ranks h (block_at c k side) w
is_written meld written limits h c k side g n w all round there is read word = record {
  exists = round.exists;
  side = subst (IsSide side) round.group_is there;
  all = all;
  summed = subst (λ x. IsSummed meld h c k (block_of side x) all) round.group_is (subst (λ x. IsSummed meld h c k x all) (block_all side n g is) read);
  word_is = word;
}

-- what a block that was loaded says
pub told_of : {P : Type 0} (meld : P → P → P) (limits : Limits) (h : History P) (c k : ℕ) (side : Side) (g : List ℕ) (said : Option (Summary P)) → IsRoundOf limits h c k g → IfSome said (BlockSays meld limits.ranks h (block_at c k side))
    → MembersTell meld h c k (block_of side g) said
told_of meld limits h c k side g None round says = tt
told_of meld limits h c k side g (Some all) round says = subst (λ x. IsSummed meld h c k (block_of side x) all) (sym round.group_is) says.summed

pub within_of : {P : Type 0} (meld : P → P → P) (limits : Limits) (h : History P) (c k : ℕ) (side : Side) (g : List ℕ) → IsLegal meld limits h → MayOpen limits → IsRoundOf limits h c k g → IsBlockWithin limits (block_at c k side)
within_of meld limits h c k side g legal may round = record { comm = omega (arith, round.exists, spawns_below meld limits h legal may.in_range.some_comms); round = round.in_rounds }

module _ {P : Type 0} (meld : P → P → P) (g : List ℕ) (now : Running (ReadBlocks P) P) where
  -- the block that is read is one of the round's
  pub reads_within : MayReadBlocks meld g now → IsBlockWithin now.view.words.limits (block_at now.state.comm now.state.round now.state.side)
  reads_within may = within_of meld now.view.words.limits now.view.pass.seen now.state.comm now.state.round now.state.side g may.of.legal may.of.may_open may.round

  -- .. and what its members say, all of whom were read, may be written there
  pub writes : (written : Summary P → ℕ) (w : ℕ) → MayReadBlocks meld g now → now.state.read ≡ width (length g) → w ≡ written now.state.all → IsWritten meld written now.view.words.limits.ranks now.view.pass.seen (block_at now.state.comm now.state.round now.state.side) w
  writes written w may all word =
      let r = now.state in is_written meld written now.view.words.limits now.view.pass.seen r.comm r.round r.side g r.read w r.all may.round may.at.side all may.at.read word

-- nothing is held of a member once all were read
pub nothing_held : {P : Type 0} (view : View P) (g : List ℕ) (r : ReadBlocks P) → HoldsHalf view g r → width (length g) ≤ r.read → r.first ≡ None
nothing_held view g r half le = go r.first refl
  where
    go : (o : Option ℕ) → r.first ≡ o → r.first ≡ None
    go None e = e
    go (Some w) e = absurd (let lt = half.more (ap is_some e) in omega (arith, lt, le))

-- one more block is known
abbrev pub known_with : {P : Type 0} → RoundBlocks P → Side → Summary P → RoundBlocks P
known_with blocks Front all = record blocks { front = Some all }
known_with blocks Back all = record blocks { back = Some all }

module _ {P : Type 0} (meld : P → P → P) (h longer : History P) (g : List ℕ) (r : ReadBlocks P) (begins : IsPrefix h longer) (at : AtBlock meld h g r) (all : r.read ≡ width (length g)) where
  read_all : IsSummed meld longer r.comm r.round (block_of r.side g) r.all
  read_all = summed_later meld h longer r.comm r.round (block_of r.side g) r.all begins (subst (λ x. IsSummed meld h r.comm r.round x r.all) (block_all r.side r.read g all) at.read)

  pub are_with : BothTell meld longer r.comm r.round g (known_with r.blocks r.side r.all)
  are_with = go r.side (are_later meld h longer r.comm r.round g r.blocks begins at.are) read_all
    where
      go : (side : Side) → BothTell meld longer r.comm r.round g r.blocks → IsSummed meld longer r.comm r.round (block_of side g) r.all → BothTell meld longer r.comm r.round g (known_with r.blocks side r.all)
      go Front are said = record { front = said; back = are.back }
      go Back are said = record { front = are.front; back = said }

-- where not all blocks are known after one more, it was the front one, and the back one comes
pub next_by : {P : Type 0} (side : Side) (b : RoundBlocks P) (all : Summary P) (n : ℕ) → (side ≡ Back → is_some b.front ≡ true) → is_whole (known_with b side all) n ≡ false
    → (is_some (known_with b side all).front ≡ true) × ((known_with b side all).back ≡ None) × (has_back n ≡ true)
next_by {P} Front b all n before more = go (has_back n) refl more
  where
    go : (t : Bool) → has_back n ≡ t → (if t then is_some b.back else true) ≡ false → (is_some (known_with b Front all).front ≡ true) × ((known_with b Front all).back ≡ None) × (has_back n ≡ true)
    go true apart none = (refl, none_of b.back none, apart)
    go false apart other = absurd (cc other)
next_by {P} Back b all n before more = absurd (go (has_back n) (is_some b.front) (before refl) more)
  where
    go : (t f : Bool) → f ≡ true → (if t then (if f then true else false) else f) ≡ false → ⊥
    go true true is other = absurd (cc other)
    go true false is other = absurd (cc is)
    go false true is other = absurd (cc other)
    go false false is other = absurd (cc is)

pub apart_lt : (n : ℕ) → has_back n ≡ true → width n < n
apart_lt n is = grind (arith, nat_tests)

-- the member that a reading loads next
pub rank_is : {P : Type 0} (meld : P → P → P) (h : History P) (g : List ℕ) (r : ReadBlocks P) → AtBlock meld h g r → slice_index g (r.begin + r.read) ≡ next_in_block g r
rank_is meld h g r at = ap (λ n. slice_index g (n + r.read)) at.begins

pub rank_within : {P : Type 0} (meld : P → P → P) (h : History P) (g : List ℕ) (r : ReadBlocks P) → AtBlock meld h g r → r.read < width (length g) → r.begin + r.read < length g
rank_within meld h g r at more = let lt = index_within r.side r.read g more in omega (arith, lt, at.begins)

-- where a reading's next step is, and whether it is a load
pub takes_there : {P : Type 0} (g : List ℕ) (r : ReadBlocks P) (site : Site) (load : Bool) (before after : ℕ) (old new : Sight P) → site_of g r ≡ site → nat_lt r.read r.width ≡ load → TakesAt false site load before after old new
    → TakesAt false (site_of g r) (nat_lt r.read r.width) before after old new
takes_there g r site load before after old new at is takes =
    subst (λ b. TakesAt false (site_of g r) b before after old new) (sym is) (subst (λ s. TakesAt false s load before after old new) (sym at) takes)

module _ {P : Type 0} (g : List ℕ) (r : ReadBlocks P) where
  reads_on : r.read < r.width → nat_lt r.read r.width ≡ true
  reads_on lt = grind (arith, nat_tests)

  read_up : r.width ≤ r.read → nat_lt r.read r.width ≡ false
  read_up le = grind (arith, nat_tests)

  site_slot : r.read < r.width → r.first ≡ None → site_of g r ≡ Site.Place (SlotAt r.comm r.round (next_in_block g r))
  site_slot lt none = rw (reads_on lt, none) refl

  site_slot_wing : (w : ℕ) → r.read < r.width → r.first ≡ Some w → site_of g r ≡ Site.Wing (Wing.Slot r.comm r.round (next_in_block g r))
  site_slot_wing w lt some = rw (reads_on lt, some) refl

  site_wing : r.width ≤ r.read → r.winged ≡ false → site_of g r ≡ Site.Wing (Wing.Block (block_at r.comm r.round r.side))
  site_wing le bare = rw (read_up le, bare) refl

  site_block : r.width ≤ r.read → r.winged ≡ true → site_of g r ≡ Site.Block (block_at r.comm r.round r.side)
  site_block le set = rw (read_up le, set) refl

  module _ (before after : ℕ) (old new : Sight P) where
    -- a load of the next member's place
    pub takes_member : r.read < r.width → r.first ≡ None → TakesAt false (Site.Place (SlotAt r.comm r.round (next_in_block g r))) true before after old new → TakesAt false (site_of g r) (nat_lt r.read r.width) before after old new
    takes_member lt none takes = takes_there g r _ true before after old new (site_slot lt none) (reads_on lt) takes

    -- .. and of its wing
    pub takes_member_wing : (w : ℕ) → r.read < r.width → r.first ≡ Some w → TakesAt false (Site.Wing (Wing.Slot r.comm r.round (next_in_block g r))) true before after old new → TakesAt false (site_of g r) (nat_lt r.read r.width) before after old new
    takes_member_wing w lt some takes = takes_there g r _ true before after old new (site_slot_wing w lt some) (reads_on lt) takes

    -- an exchange of the block's wing
    pub takes_wing : r.width ≤ r.read → r.winged ≡ false → TakesAt false (Site.Wing (Wing.Block (block_at r.comm r.round r.side))) false before after old new → TakesAt false (site_of g r) (nat_lt r.read r.width) before after old new
    takes_wing le bare takes = takes_there g r _ false before after old new (site_wing le bare) (read_up le) takes

    -- .. and of its word
    pub takes_cache : (meld : P → P → P) (alone : Bool) (name : Over P) (word : ℕ) (result : Result (Unit {0}) ℕ) → r.width ≤ r.read → r.winged ≡ true → after + 1 ≤ before
        → Caches meld alone (block_at r.comm r.round r.side) word (view_at name old) result (view_at name new) → TakesAt false (site_of g r) (nat_lt r.read r.width) before after old new
    takes_cache meld alone name word result le set fewer caches =
        takes_there g r _ false before after old new (site_block le set) (read_up le)
        (record { one = λ _. record { steps = caches.steps; word = _; last = caches.last }; some = omega (arith, caches.steps); turns = omega (arith, caches.steps, fewer) })

-- the cost of the block that comes next
pub next_cost : {P : Type 0} (side : Side) (b : RoundBlocks P) (all : Summary P) (n : ℕ) → (side ≡ Back → is_some b.front ≡ true) → is_whole (known_with b side all) n ≡ false → cost_behind b side n ≡ 2 * width n + 2
next_cost Front b all n before more = let next = next_by Front b all n before more in rw (next.2, next.1) refl
next_cost Back b all n before more = let next = next_by Back b all n before more in absurd (let none = next.1 in cc none)

-- a peek and the readings of both blocks make four steps for each member at most, and four more
pub peek_most : {P : Type 0} (n : ℕ) (peek : Peek P) → 0 < n → peeks_left n peek + blocks_cost n ≤ 4 * n + 4
peek_most n peek some = let most = go peek.side (has_back n) refl in omega (arith, most)
  where
    go : (side : Side) (t : Bool) → has_back n ≡ t → peeks_from n side + blocks_cost n ≤ 4 * n + 4
    go Front true apart = let lt = apart_lt n apart in rw apart (omega (arith, lt))
    go Front false whole = let w = width_is n in rw whole (omega (arith, w.0, some))
    go Back true apart = let lt = apart_lt n apart in rw apart (omega (arith, lt))
    go Back false whole = let w = width_is n in rw whole (omega (arith, w.0, some))

-- a block takes a peek two loads
pub from_some : (n : ℕ) (side : Side) → 1 < peeks_from n side
from_some n Front = go (has_back n)
  where
    go : (t : Bool) → 1 < (if t then 4 else 2)
    go true = omega arith
    go false = omega arith
from_some n Back = omega arith

less_one : (n : ℕ) (t : Bool) → 1 < n → 0 < n - (if t then 1 else 0)
less_one n true more = omega (arith, more)
less_one n false more = omega (arith, more)

-- at least one load is left of a peek
pub peek_some : {P : Type 0} (n : ℕ) (peek : Peek P) → 0 < peeks_left n peek
peek_some n peek = less_one (peeks_from n peek.side) (is_some peek.first) (from_some n peek.side)

-- .. and four at most
pub peeks_most : {P : Type 0} (n : ℕ) (peek : Peek P) → peeks_left n peek ≤ 4
peeks_most n peek = go peek.side
  where
    front : (t : Bool) → (if t then 4 else 2) ≤ 4
    front true = omega arith
    front false = omega arith

    go : (side : Side) → peeks_from n side - (if is_some peek.first then 1 else 0) ≤ 4
    go Front = let most = front (has_back n) in omega (arith, most)
    go Back = omega arith

-- no more is to be read than both blocks
pub unread_most : {P : Type 0} (blocks : RoundBlocks P) (n : ℕ) → unread_cost blocks n ≤ blocks_cost n
unread_most {P} blocks n = go (has_back n)
  where
    cost : (o : Option (Summary P)) → cost_of o n ≤ 2 * width n + 2
    cost None = omega arith
    cost (Some all) = omega arith

    go : (t : Bool) → cost_of blocks.front n + (if t then cost_of blocks.back n else 0) ≤ 2 * width n + 2 + (if t then 2 * width n + 2 else 0)
    go true = omega (arith, cost blocks.front, cost blocks.back)
    go false = omega (arith, cost blocks.front)

-- no more steps are left than both blocks cost
pub blocks_most : {P : Type 0} (n : ℕ) (r : ReadBlocks P) → blocks_left n r ≤ 2 * (2 * width n + 2)
blocks_most {P} n r = go r.side
  where
    cost : (o : Option (Summary P)) → cost_of o n ≤ 2 * width n + 2
    cost None = omega arith
    cost (Some all) = omega arith

    behind : (t : Bool) → (if t then cost_of r.blocks.back n else 0) ≤ 2 * width n + 2
    behind true = cost r.blocks.back
    behind false = omega arith

    own : (f w : Bool) → 2 * (width n - r.read) - (if f then 1 else 0) + (if w then 1 else 2) ≤ 2 * width n + 2
    own true true = omega arith
    own true false = omega arith
    own false true = omega arith
    own false false = omega arith

    go : (side : Side) → 2 * (width n - r.read) - (if is_some r.first then 1 else 0) + (if r.winged then 1 else 2) + cost_behind r.blocks side n ≤ 2 * (2 * width n + 2)
    go Front = omega (arith, own (is_some r.first) r.winged, behind (has_back n))
    go Back = omega (arith, own (is_some r.first) r.winged)

-- a reading of blocks that aren't all known begins at one that isn't
pub starts : {P : Type 0} (meld : P → P → P) (h : History P) (c k : ℕ) (g : List ℕ) (blocks : RoundBlocks P) → 0 < length g → BothTell meld h c k g blocks → is_whole blocks (length g) ≡ false → AtBlock meld h g (starts_at c k blocks (length g))
starts {P} meld h c k g blocks some are more = go blocks.front refl blocks.back refl (has_back (length g)) refl
  where
    begun : (side : Side) → (if is_some blocks.front then Back else Front) ≡ side → said_at blocks side ≡ None → IsSide side g → (side ≡ Back → is_some blocks.front ≡ true) → AtBlock meld h g (starts_at c k blocks (length g))
    begun side is unknown there front =
        let at : AtBlock meld h g (begins_at c k blocks (length g) side) =
        record { are = are; unknown = unknown; side = there; front = front; wide = refl; begins = refl; within = omega arith; read = summed_none meld h c k } in
        subst (λ s. AtBlock meld h g (begins_at c k blocks (length g) s)) (sym is) at

    go : (f : Option (Summary P)) → blocks.front ≡ f → (b : Option (Summary P)) → blocks.back ≡ b → (t : Bool) → has_back (length g) ≡ t → AtBlock meld h g (starts_at c k blocks (length g))
    go None none b is t apart = begun Front (ap (λ o. if is_some o then Back else Front) none) none some (λ back. absurd (cc back))
    go (Some x) known None none true apart = begun Back (ap (λ o. if is_some o then Back else Front) known) none (apart_lt (length g) apart) (λ _. ap is_some known)
    go (Some x) known (Some y) both true apart = absurd (let e : is_whole blocks (length g) ≡ true = rw (apart, known, both) refl in cc (e, more))
    go (Some x) known b is false apart = absurd (let e : is_whole blocks (length g) ≡ true = rw (apart, known) refl in cc (e, more))

-- so many steps are left at its beginning
pub starts_left : {P : Type 0} (c k n : ℕ) (blocks : RoundBlocks P) → is_whole blocks n ≡ false → blocks_left n (starts_at c k blocks n) ≤ unread_cost blocks n
starts_left {P} c k n blocks more = go blocks.front refl blocks.back refl (has_back n) refl
  where
    go : (f : Option (Summary P)) → blocks.front ≡ f → (b : Option (Summary P)) → blocks.back ≡ b → (t : Bool) → has_back n ≡ t → blocks_left n (starts_at c k blocks n) ≤ unread_cost blocks n
    go None none b is t apart = rw none (omega arith)
    go (Some x) known None none true apart = rw (known, none, apart) (omega arith)
    go (Some x) known (Some y) both true apart = absurd (let e : is_whole blocks n ≡ true = rw (apart, known, both) refl in cc (e, more))
    go (Some x) known b is false apart = absurd (let e : is_whole blocks n ≡ true = rw (apart, known) refl in cc (e, more))

-- What is known of a round's blocks, and what the machines that load and read them ask for and tell.
use Rattle.std.specs.Prelude.{◌≡◌, ℕ, ◌+◌, ◌-◌, ◌*◌, ◌<◌, ◌≤◌, Bool, not, true, false, List, Option, Some, None, IfSome, IsSome, is_some}
use Rattle.std.specs.Prelude.{length, slice_index, take, if◌then◌else◌, nat_lt}
use Rattle.ulfm_laws.specs.{declared.summary.Summary.{Summary}, Summaries.{summary_unit}}
use Rattle.ulfm_model.specs.declared.{block.Beside.{Beside}, block.Block.{Block}, block.Wing.{Wing}, block.Side.{Side}, block.Side.TheVariants.{Front, Back}, place.Place.TheVariants.{Slot as SlotAt}}
use Rattle.ulfm_model.specs.{Blocks.{IsSide, IsSummed, block_of, has_block, width}, History.{History, slot}}
use Rattle.ulfm_words.specs.{Blocks.{IsBlockIn, IsFirstOf, IsSpreadBlock}, Steps.{Goes, IsView, Sight, View}, declared.{step.Site.{Site}}}
use Rattle.ulfm_steps.specs.{Rounds.{IsMissing, IsRoundOf}, Turns.{Running, TakesAt, left_without}}
use Rattle.ulfm_steps.specs.declared.{blocks.Peek.{Peek}, blocks.ReadBlocks.{ReadBlocks}, blocks.Found.{Found}, blocks.Found.TheVariants.{Missing, All}}
use Rattle.ulfm_steps.specs.declared.blocks.RoundBlocks.{RoundBlocks}

-- a block of a round
abbrev pub block_at : ℕ → ℕ → Side → Block
block_at c k side = record { comm = c; round = k; side = side }

-- nothing is known of these members, or what they say, each of whom is settled
abbrev pub MembersTell : {P : Type 0} → (P → P → P) → History P → ℕ → ℕ → List ℕ → Option (Summary P) → Type 0
MembersTell meld h c k group None = Unit {0}
MembersTell meld h c k group (Some all) = IsSummed meld h c k group all

-- .. of the members of both blocks of a round
pub record BothTell {P : Type 0} (meld : P → P → P) (h : History P) (c k : ℕ) (group : List ℕ) (blocks : RoundBlocks P) : Type 0 where
  pub front : MembersTell meld h c k (block_of Front group) blocks.front
  pub back : MembersTell meld h c k (block_of Back group) blocks.back

-- what is known of a block
abbrev pub said_at : {P : Type 0} → RoundBlocks P → Side → Option (Summary P)
said_at blocks Front = blocks.front
said_at blocks Back = blocks.back

-- the front block doesn't have all of so many members, so that there is a back one
abbrev pub has_back : ℕ → Bool
has_back n = nat_lt (width n) n

-- all blocks of a round of so many members are known
abbrev pub is_whole : {P : Type 0} → RoundBlocks P → ℕ → Bool
is_whole blocks n = if has_back n then (if is_some blocks.front then is_some blocks.back else false) else is_some blocks.front

-- how many loads it costs to peek at this block and those behind it, each of its word and its wing
abbrev pub peeks_from : ℕ → Side → ℕ
peeks_from n Front = if has_back n then 4 else 2
peeks_from n Back = 2

-- how many loads a peek may still make: one less where the next block's first word was loaded
abbrev pub peeks_left : {P : Type 0} → ℕ → Peek P → ℕ
peeks_left n peek = peeks_from n peek.side - (if is_some peek.first then 1 else 0)

-- .. none at its end
abbrev pub peeks_after : {P : Type 0} → Bool → ℕ → Peek P → ℕ
peeks_after true n peek = 0
peeks_after false n peek = peeks_left n peek

-- where a peek's next load is: of the next block's word, or of its wing
abbrev pub peek_site : {P : Type 0} → Peek P → Site
peek_site peek =
    if is_some peek.first then Site.Wing (Wing.Block (block_at peek.comm peek.round peek.side)) else Site.Block (block_at peek.comm peek.round peek.side)

-- the loads of a peek, the first of them there
abbrev pub PeekTakes : {P : Type 0} → Bool → ℕ → Peek P → Bool → Peek P → Sight P → Sight P → Type 0
PeekTakes whole n old done new = TakesAt whole (peek_site old) true (peeks_left n old) (peeks_after done n new)

-- where the next block's first word was loaded, it is that of what the block's members say, and the block is known to be set
abbrev pub HoldsFirst : {P : Type 0} → (P → P → P) → View P → Peek P → Type 0
HoldsFirst meld view peek =
    IfSome peek.first (λ word. IsBlockIn meld view.words.pack view (block_at peek.comm peek.round peek.side) word
    × (has_block view.pass.cached (block_at peek.comm peek.round peek.side) ≡ true))

-- what is known of a round's blocks is known of such as are among these
abbrev pub AreSet : {P : Type 0} → List Beside → ℕ → ℕ → RoundBlocks P → Type 0
AreSet cached c k blocks = (side : Side) → is_some (said_at blocks side) ≡ true → has_block cached (block_at c k side) ≡ true

-- all blocks of a round of these members are among these
abbrev pub AllSet : List Beside → ℕ → ℕ → List ℕ → Type 0
AllSet cached c k group = (side : Side) → IsSide side group → has_block cached (block_at c k side) ≡ true

-- a block that was set already was found set
abbrev pub FindsSet : {P : Type 0} → List Beside → Peek P → Side → Type 0
FindsSet cached peek side = has_block cached (block_at peek.comm peek.round side) ≡ true → is_some (said_at peek.blocks side) ≡ true

-- what a peek asks for: the pass is of these words, these are its round's members, it has the next block, and what it knows stands
pub record MayPeek {P : Type 0} (meld : P → P → P) (group : List ℕ) (at : Running (Peek P) P) : Type 0 where
  pub of : IsView meld at.view
  pub round : IsRoundOf at.view.words.limits at.view.pass.seen at.state.comm at.state.round group
  pub some : IsSide at.state.side group
  pub first : HoldsFirst meld at.view at.state
  pub are : BothTell meld at.view.pass.seen at.state.comm at.state.round group at.state.blocks

-- loads of a peek, four at most, and whether the last was made: what it knows stands, and says which blocks were set before; and what it
-- knows is known to be set from then on
pub record PeeksOn {P : Type 0} (meld : P → P → P) (alone whole : Bool) (group : List ℕ) (old : Running (Peek P) P) (done : Bool) (new : Running (Peek P) P)
    : Type 0 where
  pub goes : Goes meld alone false 4 old.view new.view
  pub takes : PeekTakes whole (length group) old.state done new.state old.view.pass new.view.pass
  pub comm : new.state.comm ≡ old.state.comm
  pub round : new.state.round ≡ old.state.round
  pub are : BothTell meld new.view.pass.seen old.state.comm old.state.round group new.state.blocks
  pub some : done ≡ false → IsSide new.state.side group
  pub first : done ≡ false → HoldsFirst meld new.view new.state
  pub ends : whole ≡ true → done ≡ true
  pub front : old.state.side ≡ Front → new.state.side ≡ Back → FindsSet old.view.pass.cached new.state Front
  pub onward : old.state.side ≡ Back → new.state.side ≡ Back
  pub last : done ≡ true → new.state.side ≡ Back
  pub back : done ≡ true → has_back (length group) ≡ true → FindsSet old.view.pass.cached new.state Back
  pub kept : old.state.side ≡ Back → new.state.blocks.front ≡ old.state.blocks.front
  pub sets : AreSet old.view.pass.cached old.state.comm old.state.round old.state.blocks
      → AreSet new.view.pass.cached old.state.comm old.state.round new.state.blocks

-- a peek whose next block says this, where it is set
abbrev pub told_side : {P : Type 0} → Peek P → Side → Option (Summary P) → Peek P
told_side peek Front said = record peek { blocks = record peek.blocks { front = said }; side = Back; first = None }
told_side peek Back said = record peek { blocks = record peek.blocks { back = said }; first = None }

abbrev pub told_peek : {P : Type 0} → Peek P → Option (Summary P) → Peek P
told_peek peek said = told_side peek peek.side said

-- whether the next block of a peek is the last one
abbrev pub ends_at : Side → ℕ → Bool
ends_at Front n = not (has_back n)
ends_at Back n = true

abbrev pub ends_peek : {P : Type 0} → Peek P → ℕ → Bool
ends_peek peek n = ends_at peek.side n

-- where a block's members begin among those of its round
abbrev pub first_of : Side → ℕ → ℕ
first_of Front n = 0
first_of Back n = n - width n

-- the next member of a block
abbrev pub next_in_block : {P : Type 0} → List ℕ → ReadBlocks P → ℕ
next_in_block group reading = slice_index group (first_of reading.side (length group) + reading.read)

-- how many steps it costs to read a block that isn't known: two loads for each member, its wing and its cache
abbrev pub cost_of : {P : Type 0} → Option (Summary P) → ℕ → ℕ
cost_of None n = 2 * width n + 2
cost_of (Some all) n = 0

-- .. and those that come behind this one
abbrev pub cost_behind : {P : Type 0} → RoundBlocks P → Side → ℕ → ℕ
cost_behind blocks Front n = if has_back n then cost_of blocks.back n else 0
cost_behind blocks Back n = 0

-- how many it costs to read those blocks that aren't known
abbrev pub unread_cost : {P : Type 0} → RoundBlocks P → ℕ → ℕ
unread_cost blocks n = cost_of blocks.front n + (if has_back n then cost_of blocks.back n else 0)

-- .. where none is
abbrev pub blocks_cost : ℕ → ℕ
blocks_cost n = 2 * width n + 2 + (if has_back n then 2 * width n + 2 else 0)

-- how many steps a reading of blocks may still make
abbrev pub blocks_left : {P : Type 0} → ℕ → ReadBlocks P → ℕ
blocks_left n reading =
    2 * (width n - reading.read) - (if is_some reading.first then 1 else 0) + (if reading.winged then 1 else 2)
    + cost_behind reading.blocks reading.side n

-- A reading stands at a block that isn't known, behind the members of it that were read. At a back block the front one is known.
pub record AtBlock {P : Type 0} (meld : P → P → P) (h : History P) (group : List ℕ) (reading : ReadBlocks P) : Type 0 where
  pub are : BothTell meld h reading.comm reading.round group reading.blocks
  pub unknown : said_at reading.blocks reading.side ≡ None
  pub side : IsSide reading.side group
  pub front : reading.side ≡ Back → is_some reading.blocks.front ≡ true
  pub wide : reading.width ≡ width (length group)
  pub begins : reading.begin ≡ first_of reading.side (length group)
  pub within : reading.read ≤ width (length group)
  pub read : IsSummed meld h reading.comm reading.round (take reading.read (block_of reading.side group)) reading.all

-- it stands at a block; or a member isn't settled, as the last step found; or this is what all members say, each of whom is settled
abbrev pub BlocksTell : {P : Type 0} → (P → P → P) → Sight P → List ℕ → ReadBlocks P → Option (Found P) → Type 0
BlocksTell meld sight group reading None = AtBlock meld sight.seen group reading
BlocksTell meld sight group reading (Some Missing) = IsMissing sight.last sight.seen reading.comm reading.round group
BlocksTell meld sight group reading (Some (All all)) = IsSummed meld sight.seen reading.comm reading.round group all

-- where a reading's next step is: at the next member's place, or its wing; or, once all of the block's are read, at the block's wing, or the block
abbrev pub site_of : {P : Type 0} → List ℕ → ReadBlocks P → Site
site_of group reading =
    if nat_lt reading.read reading.width
    then (if is_some reading.first then Site.Wing (Wing.Slot reading.comm reading.round (next_in_block group reading))
    else Site.Place (SlotAt reading.comm reading.round (next_in_block group reading)))
    else (if reading.winged then Site.Block (block_at reading.comm reading.round reading.side)
    else Site.Wing (Wing.Block (block_at reading.comm reading.round reading.side)))

-- What a reading holds of two words of which it knows one: the first word of the next member's contribution, or the block's wing, which is known
-- to be set.
pub record HoldsHalf {P : Type 0} (view : View P) (group : List ℕ) (reading : ReadBlocks P) : Type 0 where
  pub first : IfSome reading.first (IsFirstOf view.words.pack (slot view.pass.seen reading.comm reading.round (next_in_block group reading)))
  pub more : is_some reading.first ≡ true → reading.read < width (length group)
  pub winged : reading.winged ≡ true → IsSpreadBlock view (block_at reading.comm reading.round reading.side)

-- its steps, the first of them a load there, or an exchange of the block's wing or word
abbrev pub BlocksTake : {P : Type 0} → Bool → List ℕ → ReadBlocks P → Option (Found P) → ReadBlocks P → Sight P → Sight P → Type 0
BlocksTake whole group old found new =
    TakesAt whole (site_of group old) (nat_lt old.read old.width) (blocks_left (length group) old)
    (left_without found (blocks_left (length group) new))

-- The blocks that a reading knows are known to be set; or, once it has found what all members say, all blocks of its round. Where a member is
-- missing nothing is said.
abbrev pub SetsBlocks : {P : Type 0} → List Beside → List ℕ → ReadBlocks P → Option (Found P) → Type 0
SetsBlocks cached group reading None = AreSet cached reading.comm reading.round reading.blocks
SetsBlocks cached group reading (Some Missing) = Unit {0}
SetsBlocks cached group reading (Some (All all)) = AllSet cached reading.comm reading.round group

-- what a reading of blocks asks for: the pass is of these words, these are its round's members, and it stands at a block
pub record MayReadBlocks {P : Type 0} (meld : P → P → P) (group : List ℕ) (now : Running (ReadBlocks P) P) : Type 0 where
  pub of : IsView meld now.view
  pub round : IsRoundOf now.view.words.limits now.view.pass.seen now.state.comm now.state.round group
  pub at : AtBlock meld now.view.pass.seen group now.state
  pub half : HoldsHalf now.view group now.state

-- how many steps a reading of both blocks makes at most: two loads for each member of a block's width, a wing and a cache, of each
abbrev pub reads_most : ℕ → ℕ
reads_most n = 2 * (2 * width n + 2)

-- Steps of a reading of blocks, and what was found: an answer, where all are made at once, or else where it stands. Whoever finds what all
-- members say leaves no block of the round unset.
pub record ReadsBlocks {P : Type 0} (meld : P → P → P) (alone whole : Bool) (group : List ℕ) (old : Running (ReadBlocks P) P) (found : Option (Found P))
    (new : Running (ReadBlocks P) P) : Type 0 where
  pub goes : Goes meld alone true (reads_most (length group)) old.view new.view
  pub takes : BlocksTake whole group old.state found new.state old.view.pass new.view.pass
  pub comm : new.state.comm ≡ old.state.comm
  pub round : new.state.round ≡ old.state.round
  pub tells : BlocksTell meld new.view.pass group new.state found
  pub half : found ≡ None → HoldsHalf new.view group new.state
  pub sets : AreSet old.view.pass.cached old.state.comm old.state.round old.state.blocks → SetsBlocks new.view.pass.cached group new.state found
  pub ends : whole ≡ true → IsSome found

-- a reading that has read nothing of a block yet
abbrev pub begins_at : {P : Type 0} → ℕ → ℕ → RoundBlocks P → ℕ → Side → ReadBlocks P
begins_at c k blocks n side =
    record {
      comm = c;
      round = k;
      side = side;
      width = width n;
      begin = first_of side n;
      read = 0;
      all = summary_unit;
      blocks = blocks;
      first = None;
      winged = false;
    }

-- a reading that has read nothing yet: at the front block, or, where that is known, at the back one
abbrev pub starts_at : {P : Type 0} → ℕ → ℕ → RoundBlocks P → ℕ → ReadBlocks P
starts_at c k blocks n = begins_at c k blocks n (if is_some blocks.front then Back else Front)

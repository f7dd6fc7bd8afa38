-- The poll of an agreement: its peek at the round's blocks, its marks, and its reading of those blocks that aren't known.
use Rattle.std.specs.Prelude.{◌≡◌, ℕ, ◌≤◌, Bool, false, [], Some, length, nat_lt}
use Rattle.ulfm_laws.specs.declared.{summary.Body.{Body}, summary.Summary.{Summary}}
use Rattle.ulfm_laws.specs.declared.summary.Body.TheVariants.{Unit as Nothing, Flag as OfFlag, Ctx as OfIds, Clash}
use Rattle.ulfm_model.specs.declared.call.Call.TheVariants as call
use Rattle.ulfm_model.specs.declared.{call.Call.{Call}, refusal.Refusal.TheVariants.{Mismatch}, reply.Reply.{Reply}}
use Rattle.ulfm_model.specs.declared.reply.Reply.TheVariants.{Agreed, Refused}
use Rattle.ulfm_model.specs.{History.{History, IsLegal, failures}, Records.{Fits, Held, Moment}, Runs.{Did}, Terms.{comm_of}}
use Rattle.ulfm_steps.specs.declared.{blocks.MarkAll.{MarkAll}, blocks.Peek.{Peek}, blocks.ReadBlocks.{ReadBlocks}}
use Rattle.ulfm_steps.specs.declared.blocks.RoundBlocks.{RoundBlocks}
use Rattle.ulfm_model.specs.Blocks.{IsSummed}
use Rattle.ulfm_steps.specs.{Blocks.{BothTell, AtBlock, is_whole}, Marks.{IsAt, Marks, members_in}}
use Rattle.ulfm_comm.specs.{Local.{Frame, Local, frame_of, moment_of}, Look.{HoldsSince}, Polls.{PollHasMarked}, Requests.{PolledRound, polled_round, agreement}}

-- The poll of an agreement has looked, and loads the blocks of its round, of which it knows those that were set. Since its look there were
-- others' events alone.
pub record IsPeeking {P : Type 0} (by : Frame P) (c : ℕ) (shrinks : Bool) (peek : Peek P) (start now : Moment P) : Type 0 where
  pub x : Held
  pub since : HoldsSince by c x start now.own
  pub legal : IsLegal by.meld by.limits since.look
  pub open_is : x.request ≡ Some (agreement shrinks peek.round)
  pub there : peek.comm ≡ c
  pub are : BothTell by.meld now.seen peek.comm peek.round x.group peek.blocks
  pub waited : Did by.alone [] since.look now.seen

-- It has loaded them, and not all were set; it has marked the declared members up to the machine's next one. Since then there were others'
-- events alone.
pub record IsMarking {P : Type 0} (by : Frame P) (c : ℕ) (shrinks : Bool) (marks : MarkAll) (blocks : RoundBlocks P) (start now : Moment P) : Type 0 where
  pub x : Held
  pub since : HoldsSince by c x start now.own
  pub legal : IsLegal by.meld by.limits since.look
  pub open_is : x.request ≡ Some (agreement shrinks marks.round)
  pub mine : marks.rank ≡ start.own.number
  pub there : marks.comm ≡ c
  pub at : IsAt x.group (failures since.look) marks.next marks.known
  pub marked : History P
  pub has_marked : Marks by.alone start.own.number c marks.round (members_in x.group (failures since.look) marks.next) since.look marked
  pub waited : Did by.alone [] marked now.seen
  pub are : BothTell by.meld now.seen marks.comm marks.round x.group blocks
  pub unknown : is_whole blocks (length x.group) ≡ false

-- It has marked them all, and reads the blocks that weren't set.
pub record IsReading {P : Type 0} (by : Frame P) (c : ℕ) (shrinks : Bool) (reading : ReadBlocks P) (start now : Moment P) : Type 0 where
  pub x : Held
  pub marked : PollHasMarked by c (polled_round shrinks reading.round) x start now
  pub there : reading.comm ≡ c
  pub at : AtBlock by.meld now.seen x.group reading

-- the poll of a request goes on, whose record fit what its pass had seen when it began
pub record PollsOn {P : Type 0} (meld : P → P → P) (asked : Call P) (start now : Local P) : Type 0 where
  pub fits : Fits meld start.view.words.limits start.view.pass.seen start.own
  pub polls : asked ≡ call.Poll start.own.number (comm_of asked)
  pub onward : start.view.pass.steps ≤ now.view.pass.steps

-- the poll of an agreement has just loaded its round's blocks, of which not all were set
pub record HasPeeked {P : Type 0} (meld : P → P → P) (alone : Bool) (asked : Call P) (shrinks : Bool) (peek : Peek P) (start now : Local P) : Type 0 where
  pub on : PollsOn meld asked start now
  pub peeked : IsPeeking (frame_of meld alone start) (comm_of asked) shrinks peek (moment_of start) (moment_of now)
  pub unknown : is_whole peek.blocks (length peeked.x.group) ≡ false

-- the poll of an agreement has just found what all its round's members say together
pub record HasReadAll {P : Type 0} (meld : P → P → P) (alone : Bool) (asked : Call P) (which : PolledRound) (all : Summary P) (start now : Local P)
    : Type 0 where
  pub on : PollsOn meld asked start now
  pub x : Held
  pub marked : PollHasMarked (frame_of meld alone start) (comm_of asked) which x (moment_of start) (moment_of now)
  pub read : IsSummed meld now.view.pass.seen (comm_of asked) which.round x.group all

-- what an agree's round says, as a reply
abbrev pub agreed_reply : {P : Type 0} → Summary P → Body P → Reply P
agreed_reply all Nothing = Refused Mismatch
agreed_reply all (OfFlag value) = Agreed (nat_lt all.acked.count all.known.count) all.known.count value
agreed_reply all (OfIds mask) = Refused Mismatch
agreed_reply all Clash = Refused Mismatch

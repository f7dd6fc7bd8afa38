-- What a call that only reads promises.
use Rattle.std.specs.Prelude.{◌≡◌, ℕ, ℤ, Option, Some, None, pos}
use Rattle.ulfm_laws.specs.declared.flag_and.FlagAnd.{FlagAnd}
use Rattle.ulfm_model.specs.Records.{Held, Record, held_at}
use Rattle.ulfm_wait.specs.Members.{Membership}
use Rattle.ulfm_c.specs.Written.{Lent, Lists}
use Rattle.ulfm_c.specs.declared.party.Party.{Party}
use Rattle.ulfm_c.specs.declared.party.Party.TheVariants.{Outside, Rank, Replica}

-- a reading by what the handle holds, which it holds still: 18 where that is nothing
abbrev pub HandleReads : (Party → ℤ → Type 0) → Option Party → Option Party → ℤ → Type 0
HandleReads reads None new answered = (new ≡ None) × (answered ≡ pos 18)
HandleReads reads (Some party) new answered = (new ≡ Some party) × reads party answered

-- a reading of a rank's record by what the party is: 19 where that is the outside, 23 where it is a replica that is lost
abbrev pub PartyReads : (Record → ℤ → Type 0) → Party → ℤ → Type 0
PartyReads reads (Rank m) answered = reads m.own answered
PartyReads reads (Replica (Some r)) answered = reads r.at.own answered
PartyReads reads (Replica None) answered = answered ≡ pos 23
PartyReads reads (Outside _) answered = answered ≡ pos 19

-- a reading of a rank of threads: 19 where the party is another
abbrev pub MemberReads : (Membership FlagAnd → ℤ → Type 0) → Party → ℤ → Type 0
MemberReads reads (Rank m) answered = reads m answered
MemberReads reads (Outside _) answered = answered ≡ pos 19
MemberReads reads (Replica _) answered = answered ≡ pos 19

-- a number of the rank's
pub record RankShows (out shown : ℕ) (answered : ℤ) : Type 0 where
  pub code_is : answered ≡ pos 0
  pub written : out ≡ shown

-- the failures that the rank has seen
pub record RankLists (out : Lent) (own : Record) (answered : ℤ) : Type 0 where
  pub code_is : answered ≡ pos 0
  pub written : Lists own.seen out

-- something of a communicator: 2 where the rank doesn't hold it
abbrev pub OfComm : (Held → Type 0) → Option Held → ℤ → Type 0
OfComm written None answered = answered ≡ pos 2
OfComm written (Some x) answered = (answered ≡ pos 0) × written x

abbrev pub RankHolds : (Held → Type 0) → ℕ → Record → ℤ → Type 0
RankHolds written comm own answered = OfComm written (held_at own comm) answered

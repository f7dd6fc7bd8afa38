-- A world, all its ranks and one pass, in one hand.
use Rattle.std.specs.Prelude.{◌≡◌, ◌==◌, ◌<◌, ℕ, ⊤, Bool, false, true, List, [], Some, IsTrue, length, map, take}
use Rattle.std.specs.{List.{find}, Option.{option_and_then}}
use mathlib.Core.List.{IsPrefix}
use Rattle.ulfm_model.specs.declared.{call.Call.{Call}, reply.Reply.{Reply}}
use Rattle.ulfm_model.specs.declared.call.Call.TheVariants.{Fail, GetFailed, Ack, FailureAck, FailureGetAcked, Agree, Shrink, Barrier, Poll, Revoke, IsRevoked, Free}
use Rattle.ulfm_model.specs.declared.reply.Reply.TheVariants.{Started, Pending, Agreed, Shrunk, Done, FailedGroup, Acked, Declared, AlreadyFailed, Revoked}
use Rattle.ulfm_model.specs.declared.reply.Reply.TheVariants.{AlreadyRevoked, Standing, Freed, Refused}
use Rattle.ulfm_model.specs.{Answers.{polled_by, traits_of}, History.{failed, members}, Records.{Record, held_at, is_shrink}, Runs.{IsSound, IsStep, State}}
use Rattle.ulfm_words.specs.Steps.{IsView, View}
use Rattle.ulfm_comm.specs.{Queries.{acked_of}, Wings.{WingsSettled}}

-- the object's state: what the pass has seen, and the ranks' records
abbrev pub state_seen : {P : Type 0} → View P → List Record → State P
state_seen view ranks = record { limits = view.words.limits; history = view.pass.seen; records = ranks }

-- The pass is of these words, and each rank, in order, has a record that fits what the pass has seen. Where nobody else steps, no wing stands
-- without its contribution.
pub record IsJob {P : Type 0} (meld : P → P → P) (alone : Bool) (view : View P) (ranks : List Record) : Type 0 where
  pub of : IsView meld view
  pub sound : IsSound meld (state_seen view ranks)
  pub wings : IsTrue alone → WingsSettled view

-- all ranks of a world, by their records, and the view that they share
pub record Crew (P : Type 0) : Type 0 where
  pub view : View P
  pub ranks : List Record

abbrev pub crew : {P : Type 0} → View P → List Record → Crew P
crew view ranks = record { view = view; ranks = ranks }

-- One call of a rank, or a declaration: what was seen has grown, and where nobody else steps it is one step of the sequential
-- object.
pub record StepsBy {P : Type 0} (meld : P → P → P) (alone : Bool) (asked : Call P) (old : Crew P) (reply : Reply P) (new : Crew P) : Type 0 where
  pub job : IsJob meld alone new.view new.ranks
  pub begins : IsPrefix old.view.pass.seen new.view.pass.seen
  pub step : IsTrue alone → IsStep meld (state_seen old.view old.ranks) (traits_of asked).by asked reply (state_seen new.view new.ranks)

-- What the caller's vector has after a reply to a call on communicator c, by the state then: the first ranks of the failed group, as many as the
-- reply counts, or the members of a new communicator, where the reply is about them; else what it had.
abbrev pub IsAbout : {P : Type 0} → State P → ℕ → List ℕ → List ℕ → Reply P → Type 0
IsAbout state c old group Started = group ≡ old
IsAbout state c old group Pending = group ≡ old
IsAbout state c old group (Agreed raised count value) = group ≡ old
IsAbout state c old group (Shrunk j context size) = group ≡ members state.limits.ranks state.history j
IsAbout state c old group Done = group ≡ old
IsAbout state c old group (FailedGroup count) = group ≡ take count (failed state.limits.ranks state.history c)
IsAbout state c old group (Acked count) = group ≡ old
IsAbout state c old group Declared = group ≡ old
IsAbout state c old group AlreadyFailed = group ≡ old
IsAbout state c old group Revoked = group ≡ old
IsAbout state c old group AlreadyRevoked = group ≡ old
IsAbout state c old group (Standing revoked) = group ≡ old
IsAbout state c old group Freed = group ≡ old
IsAbout state c old group (Refused refusal) = group ≡ old

-- a call of a rank, any but a query of the failed group
abbrev pub IsOther : {P : Type 0} → Call P → Type 0
IsOther (Fail rank) = ⊥
IsOther (GetFailed rank c) = ⊥
IsOther (FailureGetAcked rank c) = ⊥
IsOther (Ack rank c count) = ⊤
IsOther (FailureAck rank c) = ⊤
IsOther (Agree rank c value) = ⊤
IsOther (Shrink rank c) = ⊤
IsOther (Barrier rank c) = ⊤
IsOther (Poll rank c) = ⊤
IsOther (Revoke rank c) = ⊤
IsOther (IsRevoked rank c) = ⊤
IsOther (Free rank c) = ⊤

-- a record but for what its rank has seen
abbrev pub unseen : Record → Record
unseen own = record own { seen = [] }

-- of each rank's record at most what it has seen is new
abbrev pub KeepsRecords : List Record → List Record → Type 0
KeepsRecords old new = map unseen new ≡ map unseen old

-- the rank of this number polls a shrink
abbrev pub PollsShrink : {P : Type 0} → List Record → ℕ → Call P → Type 0
PollsShrink records rank asked = (own : Record) × (find (λ x. x.number == rank) records ≡ Some own) × IsTrue (is_shrink (polled_by own asked))

-- how many failures of communicator c the rank of this number has acknowledged; none where there is no such rank, or it doesn't hold c
abbrev pub acked_by : List Record → ℕ → ℕ → ℕ
acked_by records rank c = acked_of (option_and_then (λ own. held_at own c) (find (λ x. x.number == rank) records))

-- the ranks of communicator c's failed group that a query by this rank lists: all of them, or of the acknowledged alone the first so many
abbrev pub queried : Bool → List Record → ℕ → ℕ → List ℕ → List ℕ
queried false records rank c group = group
queried true records rank c group = take (acked_by records rank c) group

-- What a call may lack memory for, where the caller's vector has this room: a query of the failed group, or of those in it that are acknowledged,
-- for more ranks to list; and the poll of a shrink. No other call lacks memory.
abbrev pub MayLack : {P : Type 0} → ℕ → State P → Call P → State P → Type 0
MayLack capacity old (GetFailed rank c) new = capacity < length (queried false old.records rank c (failed new.limits.ranks new.history c))
MayLack capacity old (FailureGetAcked rank c) new = capacity < length (queried true old.records rank c (failed new.limits.ranks new.history c))
MayLack {P} capacity old (Poll rank c) new = PollsShrink {P = P} old.records rank (Poll rank c)
MayLack capacity old asked new = ⊥

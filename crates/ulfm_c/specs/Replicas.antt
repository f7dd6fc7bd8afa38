-- What the calls of a rank that replays a log promise through its handle.
use Rattle.std.specs.Prelude.{◌≡◌, ◌≢◌, ◌⊎◌, ℕ, ℤ, Bool, false, true, List, Option, Some, None, Result, filter, Ok, Err, if◌then◌else◌, length, pos}
use Rattle.ulfm_laws.specs.Flags.{flag_meld}
use Rattle.ulfm_laws.specs.declared.flag_and.FlagAnd.{FlagAnd}
use Rattle.ulfm_model.specs.declared.{call.Call.{Call}, limits.Limits.{Limits}}
use Rattle.ulfm_model.specs.declared.call.Call.TheVariants as call
use Rattle.ulfm_model.specs.declared.reply.Reply.{Reply}
use Rattle.ulfm_model.specs.declared.reply.Reply.TheVariants as reply
use Rattle.ulfm_model.specs.{Answers.{printed}, History.{has}, Records.{Held, Record, held_at}}
use Rattle.ulfm_replica.specs.Wire.{entry_bytes}
use Rattle.ulfm_replica.specs.Replicas.{BeginsIn, FeedsIn, IsNewReplica, Replicated, Rules, RunsIn, rules}
use Rattle.ulfm_replica.specs.declared.answers.{Fed.{Fed}, FeedFault.{FeedFault}, FeedFault.TheVariants.{Gap, Lost as IsLost}, Lost.{Lost}, Ran.{Ran}}
use Rattle.ulfm_replica.specs.declared.answers.Fed.TheVariants as fed
use Rattle.ulfm_replica.specs.declared.answers.Ran.TheVariants as ran
use Rattle.ulfm_c.specs.Calls.{flag_pack}
use Rattle.ulfm_c.specs.Written.{HasNoComm, HasNoFlag, Lent, Lists}
use Rattle.ulfm_c.specs.declared.asked.Asked.{Asked}
use Rattle.ulfm_c.specs.declared.asked.Asked.TheVariants as asked
use Rattle.ulfm_c.specs.declared.polled.PolledReply.{PolledReply}
use Rattle.ulfm_c.specs.declared.party.Party.{Party}
use Rattle.ulfm_c.specs.declared.party.Party.TheVariants.{Outside, Rank, Replica}

-- how flags are combined and packed
abbrev pub flag_rules : Rules FlagAnd
flag_rules = rules flag_meld flag_pack

-- a replica's call by what the party is: where that is a rank of threads or their outside, the code is 19, and the party is as it was
abbrev pub PartyReplays : (Option (Replicated FlagAnd) → Option (Replicated FlagAnd) → ℤ → Type 0) → Party → Party → ℤ → Type 0
PartyReplays calls (Replica old) (Replica new) answered = calls old new answered
PartyReplays calls (Replica old) (Rank new) answered = ⊥
PartyReplays calls (Replica old) (Outside new) answered = ⊥
PartyReplays calls (Rank old) new answered = (new ≡ Rank old) × (answered ≡ pos 19)
PartyReplays calls (Outside old) new answered = (new ≡ Outside old) × (answered ≡ pos 19)

-- a call begins: 21 where one is under way or its reply wasn't told yet, and 23 where the replica is lost; then nothing changes
abbrev pub ReplicaBegins : (ℕ → Call FlagAnd) → Option (Replicated FlagAnd) → Option (Replicated FlagAnd) → ℤ → Type 0
ReplicaBegins asked None new answered = (new ≡ None) × (answered ≡ pos 23)
ReplicaBegins asked (Some old) new answered =
    (begun : Bool) × BeginsIn flag_rules (Some old) (asked old.at.own.number) begun new × (answered ≡ (if begun then pos 0 else pos 21))

-- the call that is asked of a rank of this number
abbrev pub call_of : Asked → ℕ → Call FlagAnd
call_of (asked.Shrink comm) r = call.Shrink r comm
call_of (asked.Barrier comm) r = call.Barrier r comm
call_of (asked.Poll comm) r = call.Poll r comm
call_of (asked.Revoke comm) r = call.Revoke r comm
call_of (asked.IsRevoked comm) r = call.IsRevoked r comm
call_of (asked.GetFailed comm) r = call.GetFailed r comm
call_of (asked.Ack comm count) r = call.Ack r comm count
call_of (asked.FailureAck comm) r = call.FailureAck r comm
call_of (asked.FailureGetAcked comm) r = call.FailureGetAcked r comm
call_of (asked.Free comm) r = call.Free r comm

-- an agree, on the flag with these bits
abbrev pub ReplicaAgrees : ℕ → ℕ → Option (Replicated FlagAnd) → Option (Replicated FlagAnd) → ℤ → Type 0
ReplicaAgrees comm bits None new answered = (new ≡ None) × (answered ≡ pos 23)
ReplicaAgrees comm bits (Some old) new answered = (flag : FlagAnd) × (flag.bits ≡ bits) × ReplicaBegins (λ r. call.Agree r comm flag) (Some old) new answered

-- what an entry did, by its number
abbrev pub fed_code : Fed → ℕ
fed_code fed.LeftOut = 0
fed_code fed.Taken = 1
fed_code fed.Own = 2

-- a fed entry's code: 22 where it isn't the next, 23 where the replica is lost
abbrev pub FeedAnswers : Result Fed FeedFault → ℕ → ℤ → Type 0
FeedAnswers (Ok done) out answered = (answered ≡ pos 0) × (out ≡ fed_code done)
FeedAnswers (Err Gap) out answered = answered ≡ pos 22
FeedAnswers (Err IsLost) out answered = answered ≡ pos 23

-- an entry is fed, by its number and its bytes
pub record ReplicaFeeds (index : ℕ) (bytes : List ℕ) (out : ℕ) (old new : Option (Replicated FlagAnd)) (answered : ℤ) : Type 0 where
  pub done : Result Fed FeedFault
  pub feeds : FeedsIn flag_rules old index bytes done new
  pub code_is : FeedAnswers done out answered

-- what is written of a reply that tells no more than a number
abbrev pub IsPlain : ℕ → PolledReply → Type 0
IsPlain count out = (out.kind ≡ 0) × (out.flag ≡ 0) × (out.failed ≡ count) × (out.raised ≡ false) × HasNoComm out

abbrev pub one_if : Bool → ℕ
one_if b = if b then 1 else 0

-- a reply in C's words: a poll's as a poll's; of all others the number that they tell, in place of the size of a failed group
abbrev pub Tells : Reply FlagAnd → ℤ → PolledReply → Type 0
Tells (reply.Refused refusal) code out = (code ≡ pos ((printed refusal).0)) × IsPlain 0 out
Tells (reply.Agreed raised failed flag) code out =
    (code ≡ pos 0) × (out.kind ≡ 1) × ((out.flag ≡ flag.bits) × (out.failed ≡ failed) × (out.raised ≡ raised)) × HasNoComm out
Tells (reply.Shrunk comm context size) code out =
    (code ≡ pos 0) × (out.kind ≡ 2) × HasNoFlag out × ((out.comm ≡ comm) × (out.context ≡ context) × (out.size ≡ size))
Tells reply.Done code out = (code ≡ pos 0) × (out.kind ≡ 3) × HasNoFlag out × HasNoComm out
Tells (reply.FailedGroup count) code out = (code ≡ pos 0) × IsPlain count out
Tells (reply.Acked count) code out = (code ≡ pos 0) × IsPlain count out
Tells (reply.Standing revoked) code out = (code ≡ pos 0) × IsPlain (one_if revoked) out
Tells reply.Revoked code out = (code ≡ pos 0) × IsPlain 1 out
Tells reply.Declared code out = (code ≡ pos 0) × IsPlain 1 out
Tells _ code out = (code ≡ pos 0) × IsPlain 0 out

-- what is written out of running on
pub record RunOut : Type 0 where
  pub entry : List ℕ
  pub reply : PolledReply
  pub code : ℤ
  pub ran : ℕ

-- what running on came to, as it is written out: nothing; the bytes of the entry that is wanted; or the reply
abbrev pub WritesRan : Ran FlagAnd → RunOut → Type 0
WritesRan ran.Idle out = out.ran ≡ 0
WritesRan (ran.Wants entry) out = (out.ran ≡ 1) × (out.entry ≡ entry_bytes flag_pack entry)
WritesRan (ran.Answered reply) out = (out.ran ≡ 2) × Tells reply out.code out.reply

abbrev pub RunAnswers : Result (Ran FlagAnd) Lost → RunOut → ℤ → Type 0
RunAnswers (Ok ran) out answered = (answered ≡ pos 0) × WritesRan ran out
RunAnswers (Err lost) out answered = answered ≡ pos 23

-- a replica runs on
pub record ReplicaRuns (out : RunOut) (old new : Option (Replicated FlagAnd)) (answered : ℤ) : Type 0 where
  pub ran : Result (Ran FlagAnd) Lost
  pub runs : RunsIn flag_rules old ran new
  pub written : RunAnswers ran out answered

-- how many entries it was fed with
abbrev pub ReplicaCounts : ℕ → Option (Replicated FlagAnd) → Option (Replicated FlagAnd) → ℤ → Type 0
ReplicaCounts out None new answered = (new ≡ None) × (answered ≡ pos 23)
ReplicaCounts out (Some old) new answered = (new ≡ Some old) × (out ≡ length old.fed) × (answered ≡ pos 0)

-- a replica is opened: what the handle holds then
abbrev pub OpensReplica : Limits → ℕ → Option Party → Type 0
OpensReplica limits number party = (r : Replicated FlagAnd) × (party ≡ Some (Replica (Some r))) × IsNewReplica limits number r

-- the failed group that a rank has seen is written out, or it doesn't hold the communicator, or memory was refused
abbrev pub GroupIn : Lent → Record → Option Held → ℤ → Type 0
GroupIn out own None answered = answered ≡ pos 2
GroupIn out own (Some x) answered = ((answered ≡ pos 0) × Lists (filter (has x.group) own.seen) out) ⊎ (answered ≡ pos 14)

abbrev pub GroupOf : ℕ → Lent → Record → ℤ → Type 0
GroupOf comm out own answered = GroupIn out own (held_at own comm) answered

abbrev pub ReplicaLists : ℕ → Lent → Option (Replicated FlagAnd) → Option (Replicated FlagAnd) → ℤ → Type 0
ReplicaLists comm out None new answered = (new ≡ None) × (answered ≡ pos 23)
ReplicaLists comm out (Some old) new answered = (new ≡ Some old) × GroupOf comm out old.at.own answered

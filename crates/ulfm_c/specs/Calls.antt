-- What a call through a handle promises: what the rank's own call does, with the code of its answer. Where the handle holds no
-- rank, the code says so, and what it holds is as it was.
use Rattle.std.specs.Prelude.{◌≡◌, ℕ, ℤ, Bool, false, List, Option, Some, None, Result, IfOk, length, pos}
use Rattle.ulfm_laws.specs.Flags.{flag_meld}
use Rattle.ulfm_laws.specs.declared.flag_and.FlagAnd.{FlagAnd}
use Rattle.ulfm_model.specs.declared.{call.Call.{Call}, call.Call.TheVariants.{Agree, Shrink}, refusal.Refusal.{Refusal}, reply.Reply.{Reply}}
use Rattle.ulfm_model.specs.declared.reply.Reply.TheVariants.{Started}
use Rattle.ulfm_comm.specs.Calls.{reply_of}
use Rattle.ulfm_comm.specs.Excludes.{Excludes}
use Rattle.ulfm_comm.specs.{Fails.{Fails, declared}, Queries.{listed_in, query}}
use Rattle.ulfm_comm.specs.declared.calls.polled.Polled.{Polled}
use Rattle.ulfm_wait.specs.Members.{Membership, MemberCalls, MemberFails, MemberGets, MemberMisses, MemberPolls, Viewing, after_call, view_in, setting_of}
use Rattle.ulfm_c.specs.Codes.{code}
use Rattle.ulfm_c.specs.Written.{Lent, Lists, WritesPolled}
use Rattle.ulfm_c.specs.declared.polled.PolledReply.{PolledReply}
use Rattle.ulfm_c.specs.declared.party.Party.{Party}
use Rattle.ulfm_c.specs.declared.party.Party.TheVariants.{Outside, Rank, Replica}

-- a flag is packed into words as its bits
abbrev pub flag_pack : FlagAnd → ℕ
flag_pack flag = flag.bits

-- a call by what the handle holds: where that is nothing, the code is 18, and it holds nothing still
abbrev pub HandleCalls : (Party → Party → ℤ → Type 0) → Option Party → Option Party → ℤ → Type 0
HandleCalls calls None new answered = (new ≡ None) × (answered ≡ pos 18)
HandleCalls calls (Some old) None answered = ⊥
HandleCalls calls (Some old) (Some new) answered = calls old new answered

-- a rank's call by what the party is: where that is the outside or a replica, the code is 19, and it is as it was
abbrev pub PartyCalls : (Membership FlagAnd → Membership FlagAnd → ℤ → Type 0) → Party → Party → ℤ → Type 0
PartyCalls calls (Rank old) (Rank new) answered = calls old new answered
PartyCalls calls (Rank old) (Outside new) answered = ⊥
PartyCalls calls (Rank old) (Replica new) answered = ⊥
PartyCalls calls (Outside old) new answered = (new ≡ Outside old) × (answered ≡ pos 19)
PartyCalls calls (Replica old) new answered = (new ≡ Replica old) × (answered ≡ pos 19)

-- a call whose reply has no content but that it was made
pub record RankDoes (asked : ℕ → Call FlagAnd) (told : Reply FlagAnd) (old new : Membership FlagAnd) (answered : ℤ) : Type 0 where
  pub reply : Result (Unit {0}) Refusal
  pub calls : MemberCalls (setting_of flag_meld flag_pack false) (asked old.own.number) old (reply_of (λ _. told) reply) new
  pub code_is : answered ≡ code reply

-- an agree, on the flag with these bits
pub record RankAgrees (comm bits : ℕ) (old new : Membership FlagAnd) (answered : ℤ) : Type 0 where
  pub flag : FlagAnd
  pub bits_are : flag.bits ≡ bits
  pub does : RankDoes (λ r. Agree r comm flag) Started old new answered

-- A shrink. Where it starts, its outcome excludes the failures that the rank knew.
pub record RankShrinks (comm : ℕ) (old new : Membership FlagAnd) (answered : ℤ) : Type 0 where
  pub reply : Result (Unit {0}) Refusal
  pub calls : MemberCalls (setting_of flag_meld flag_pack false) (Shrink old.own.number comm) old (reply_of (λ _. Started) reply) new
  pub code_is : answered ≡ code reply
  pub excludes : IfOk reply (λ _. Excludes flag_meld old.view.words.limits old.view.pass.seen new.view.pass.seen old.own comm)

-- a call whose answer is a number or a truth value, which is written out where the code is 0
pub record RankTells {X : Type 0} (asked : ℕ → Call FlagAnd) (told : X → Reply FlagAnd) (out : X) (old new : Membership FlagAnd) (answered : ℤ) : Type 0 where
  pub reply : Result X Refusal
  pub calls : MemberCalls (setting_of flag_meld flag_pack false) (asked old.own.number) old (reply_of told reply) new
  pub code_is : answered ≡ code reply
  pub written : IfOk reply (λ x. out ≡ x)

-- a poll, whose answer is written out where the code is 0
pub record RankPolls (comm : ℕ) (out : PolledReply) (old new : Membership FlagAnd) (answered : ℤ) : Type 0 where
  pub reply : Result (Polled FlagAnd) Refusal
  pub polls : MemberPolls (setting_of flag_meld flag_pack false) comm old reply new
  pub code_is : answered ≡ code reply
  pub written : IfOk reply (λ polled. WritesPolled polled out)

-- a query of the failed group, or of those in it that are acknowledged, which are written out where the code is 0
pub record RankGets (acked : Bool) (comm : ℕ) (out : Lent) (old new : Membership FlagAnd) (answered : ℤ) : Type 0 where
  pub reply : Result (Unit {0}) Refusal
  pub found : List ℕ
  pub gets : MemberGets (setting_of flag_meld flag_pack false) (query acked old.own.number comm) old (length found) reply new
  pub group : IfOk reply (λ _. found ≡ listed_in acked (after_call flag_pack old new) comm)
  pub code_is : answered ≡ code reply
  pub written : IfOk reply (λ _. Lists found out)

-- a question who is missing in the round of the open request, whose answer is written out where the code is 0
pub record RankMisses (comm : ℕ) (out : Lent) (old new : Membership FlagAnd) (answered : ℤ) : Type 0 where
  pub reply : Result (Unit {0}) Refusal
  pub missing : List ℕ
  pub misses : MemberMisses (setting_of flag_meld flag_pack false) comm old reply missing new
  pub code_is : answered ≡ code reply
  pub written : IfOk reply (λ _. Lists missing out)

-- a declaration through a rank's handle
pub record RankFails (rank : ℕ) (first : Bool) (old new : Membership FlagAnd) (answered : ℤ) : Type 0 where
  pub reply : Result Bool Refusal
  pub fails : MemberFails (setting_of flag_meld flag_pack false) rank old (reply_of declared reply) new
  pub code_is : answered ≡ code reply
  pub written : IfOk reply (λ b. first ≡ b)

-- a declaration through the outside's handle
pub record OutsideFails (rank : ℕ) (first : Bool) (old new : Viewing FlagAnd) (answered : ℤ) : Type 0 where
  pub reply : Result Bool Refusal
  pub fails : Fails flag_meld false rank (view_in flag_pack old) (reply_of declared reply) (view_in flag_pack new)
  pub code_is : answered ≡ code reply
  pub written : IfOk reply (λ b. first ≡ b)

abbrev pub PartyFails : ℕ → Bool → Party → Party → ℤ → Type 0
PartyFails rank first (Rank old) (Rank new) answered = RankFails rank first old new answered
PartyFails rank first (Outside old) (Outside new) answered = OutsideFails rank first old new answered
PartyFails rank first (Rank old) (Outside new) answered = ⊥
PartyFails rank first (Outside old) (Rank new) answered = ⊥
PartyFails rank first (Rank old) (Replica new) answered = ⊥
PartyFails rank first (Outside old) (Replica new) answered = ⊥
PartyFails rank first (Replica old) new answered = (new ≡ Replica old) × (answered ≡ pos 19)

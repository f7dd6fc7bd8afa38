-- Requests of agreement rounds, and what of their rounds' blocks a poll knows.
use Rattle.std.specs.Prelude.{◌≡◌, ℕ, Bool, true, false, List, Option, Some, ⊤}
use Rattle.ulfm_model.specs.declared.call.Call.TheVariants as call
use Rattle.ulfm_model.specs.declared.{block.Beside.{Beside}, call.Call.{Call}, call.Request.{Request}, call.Request.TheVariants.{Agree, Shrink}}
use Rattle.ulfm_model.specs.declared.{refusal.Refusal.{Refusal}, refusal.Refusal.TheVariants.{Mismatch, NoContext, NoRoom, OutOfMemory}}
use Rattle.ulfm_model.specs.declared.{reply.Reply.{Reply}, reply.Reply.TheVariants.{Agreed, Refused, Shrunk}}
use Rattle.ulfm_model.specs.Records.{Held, Record, held_at}
use Rattle.ulfm_steps.specs.Blocks.{AllSet}

-- an agree or a shrink in round k
abbrev pub agreement : Bool → ℕ → Request
agreement false k = Agree k
agreement true k = Shrink k

-- the agreement round that is polled: whether it is a shrink, and its number
pub record PolledRound : Type 0 where
  pub shrinks : Bool
  pub round : ℕ

abbrev pub polled_round : Bool → ℕ → PolledRound
polled_round shrinks k = record { shrinks = shrinks; round = k }

-- A poll finds its round's blocks set: where an agree or a shrink is open on its communicator, all blocks of that round are among these.
abbrev pub BlocksStand : {P : Type 0} → Record → Call P → List Beside → Type 0
BlocksStand own (call.Poll rank c) cached =
    (x : Held) (shrinks : Bool) (k : ℕ) → held_at own c ≡ Some x → x.request ≡ Some (agreement shrinks k) → AllSet cached c k x.group
BlocksStand own _ cached = ⊤

-- whether a request is an agree or a shrink
abbrev pub is_agreement : Option Request → Bool
is_agreement (Some (Agree k)) = true
is_agreement (Some (Shrink k)) = true
is_agreement _ = false

-- whether a call contributes to an agreement round: the start of an agree or of a shrink
abbrev pub contributes : {P : Type 0} → Call P → Bool
contributes (call.Agree rank c value) = true
contributes (call.Shrink rank c) = true
contributes _ = false

-- a refusal that the poll of an agree or of a shrink gives only once it knows what its whole round says
abbrev pub is_round_refusal : Refusal → Bool
is_round_refusal Mismatch = true
is_round_refusal NoContext = true
is_round_refusal NoRoom = true
is_round_refusal OutOfMemory = true
is_round_refusal _ = false

-- .. a reply
abbrev pub is_of_round : {P : Type 0} → Reply P → Bool
is_of_round (Agreed raised count value) = true
is_of_round (Shrunk j context size) = true
is_of_round (Refused refusal) = is_round_refusal refusal
is_of_round _ = false

-- a call that gives such a reply leaves all blocks of its round known to be set
abbrev pub LeavesSet : {P : Type 0} → Record → Call P → Reply P → List Beside → Type 0
LeavesSet own asked reply cached = is_of_round reply ≡ true → BlocksStand own asked cached

-- What a rank's walk over its own lines says of a history.
use Rattle.std.specs.Prelude.{◌≡◌, ⊤, ℕ, ◌+◌, true, Option, Some, None}
use Rattle.ulfm_laws.specs.{Flags.{flag_meld}, declared.flag_and.FlagAnd.{FlagAnd}}
use Rattle.ulfm_model.specs.declared.{call.Request.TheVariants.{Agree}, limits.Limits.{Limits}, reply.Reply.{Reply}}
use Rattle.ulfm_model.specs.{History.{History}, Records.{Held, Record, held_at}}
use Rattle.ulfm_observed.specs.declared.log.Seen.{Seen}
use Rattle.ulfm_observed.specs.Explains.{IsSeen}
use Rattle.ulfm_observed.specs.declared.walk.Walk.{Walk}
use Rattle.ulfm_model.specs.Rounds.{Gave, IsDecision}

-- what was told is what round k of the world's communicator decided
pub record Tells (limits : Limits) (k : ℕ) (h : History FlagAnd) (seen : Seen) : Type 0 where
  pub reply : Reply FlagAnd
  pub decided : IsDecision flag_meld limits h 0 k reply
  pub seen_is : IsSeen seen reply

-- the rank gave the flag, and what it was told was decided
pub record IsSaid (limits : Limits) (r k : ℕ) (h : History FlagAnd) (walk : Walk) : Type 0 where
  pub gave : (flag : FlagAnd) → walk.gave ≡ Some flag → Gave h 0 k r flag
  pub told : (seen : Seen) → walk.told ≡ Some seen → Tells limits k h seen

-- the rank's record has come as far
pub record IsAt (k : ℕ) (x : Held) (walk : Walk) : Type 0 where
  pub left : (n : ℕ) → walk.left ≡ Some n → x.next_agreement + n ≡ k
  pub waits : walk.waits ≡ true → x.request ≡ Some (Agree k)

-- both, of a record
pub record Reaches (limits : Limits) (r k : ℕ) (h : History FlagAnd) (own : Record) (walk : Walk) : Type 0 where
  pub x : Held
  pub held : held_at own 0 ≡ Some x
  pub at : IsAt k x walk
  pub said : IsSaid limits r k h walk

-- the same of a walk that may have ended
abbrev pub MayReach : Limits → ℕ → ℕ → History FlagAnd → Record → Option Walk → Type 0
MayReach limits r k h own None = ⊤
MayReach limits r k h own (Some walk) = Reaches limits r k h own walk

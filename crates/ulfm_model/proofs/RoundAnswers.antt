-- A reply that isn't a refusal is one on a communicator that the rank holds, and that its look didn't refuse.
use Rattle.std.proofs.Common.{◌≡◌, ◌⊎◌, Bool, Option, Some, None, inl, inr, refl}
use Rattle.ulfm_model.specs.declared.{call.Call.{Call}, limits.Limits.{Limits}, refusal.Refusal.{Refusal}, refusal.Refusal.TheVariants.{SelfFailed}, reply.Reply.{Reply}, reply.Reply.TheVariants.{Refused}}
use Rattle.ulfm_model.specs.{Answers.{IsReply, IsSelfFailed, Replies, RepliesBy, AtPoint, refusal_of}, History.{History}, Records.{Held, Record, held_at}, Runs.{IsRun}}
use Rattle.ulfm_model.specs.Terms.{comm_of, rests_on}
use Rattle.ulfm_model.specs.Records.{moment}

pub record AnsweredOn {P : Type 0} (meld : P → P → P) (limits : Limits) (view : AtPoint P) (old : Record) (asked : Call P) (reply : Reply P) : Type 0 where
  pub x : Held
  pub held : held_at old (comm_of asked) ≡ Some x
  pub replies : Replies meld limits view old x asked reply

module _ {P : Type 0} (meld : P → P → P) (limits : Limits) (view : AtPoint P) (old : Record) (asked : Call P) (reply : Reply P) (other : (refusal : Refusal) → reply ≡ Refused refusal → ⊥) where
  on_held : (held : Option Held) (refusal : Option Refusal) → held_at old (comm_of asked) ≡ held → RepliesBy {P = P} (λ x. Replies meld limits view old x asked reply) reply held refusal
      → AnsweredOn meld limits view old asked reply
  on_held held (Some refusal) at is = absurd (other refusal is)
  on_held (Some x) None at replies = record { x = x; held = at; replies = replies }
  on_held None None at replies = absurd replies

  on_either : IsSelfFailed view old asked reply ⊎ IsReply meld limits view old asked reply → AnsweredOn meld limits view old asked reply
  on_either (inl failed) = absurd (other SelfFailed failed.reply_is)
  on_either (inr replied) = on_held (held_at old (comm_of asked)) (refusal_of old asked) refl replied.replies

pub answered_on : {P : Type 0} (meld : P → P → P) (limits : Limits) (alone : Bool) (before after : History P) (old : Record) (asked : Call P) (reply : Reply P) (new : Record) (run : IsRun meld limits alone (moment old before) asked reply (moment new after))
    → ((refusal : Refusal) → reply ≡ Refused refusal → ⊥) → AnsweredOn meld limits (rests_on run.span) old asked reply
answered_on meld limits alone before after old asked reply new run other = on_either meld limits (rests_on run.span) old asked reply other run.answer.replies

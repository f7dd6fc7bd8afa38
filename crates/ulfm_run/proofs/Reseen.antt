-- A record tells replies apart by what it holds, and never by the failures that were seen.
use Rattle.std.proofs.Common.{◌≡◌, ◌⊎◌, ℕ, List, Option, Some, None, refl, sym, ◌∙◌, subst, inl, inr}
use Rattle.ulfm_model.specs.declared.call.Call.TheVariants as call
use Rattle.ulfm_model.specs.declared.{call.Call.{Call}, contribution.Offer.{Offer}, contribution.Offer.TheVariants.{Ctx, Flag}, event.Event.{Event}, limits.Limits.{Limits}, refusal.Refusal.{Refusal}, reply.Reply.{Reply}}
use Rattle.ulfm_model.specs.declared.reply.Reply.TheVariants as is_reply
use Rattle.ulfm_model.specs.{Answers.{Effect, IsReply, IsSelfFailed, MayOwn, RepliesBy, StartReplies, AtPoint, comm_of, left_by, left_with, printed, refusal_of, refusal_on, traits_of}, History.{History}, Records.{Held, Record, free_ids, held_at}}
use Rattle.ulfm_model.specs.Answers.{Replies}

-- the record with other failures seen
abbrev pub reseen : Record → List ℕ → Record
reseen own s = record own { seen = s }

-- the refusal of a call
refusal_held : {P : Type 0} (old : Record) (s : List ℕ) (asked : Call P) (held : Option Held) → refusal_on (reseen old s) held asked ≡ refusal_on old held asked
refusal_held old s asked None = refl
refusal_held old s (call.Fail rank) (Some x) = refl
refusal_held old s (call.GetFailed rank c) (Some x) = refl
refusal_held old s (call.FailureGetAcked rank c) (Some x) = refl
refusal_held old s (call.Ack rank c count) (Some x) = refl
refusal_held old s (call.FailureAck rank c) (Some x) = refl
refusal_held old s (call.Agree rank c value) (Some x) = refl
refusal_held old s (call.Shrink rank c) (Some x) = refl
refusal_held old s (call.Barrier rank c) (Some x) = refl
refusal_held old s (call.Poll rank c) (Some x) = refl
refusal_held old s (call.Revoke rank c) (Some x) = refl
refusal_held old s (call.IsRevoked rank c) (Some x) = refl
refusal_held old s (call.Free rank c) (Some x) = refl

pub refusal_reseen : {P : Type 0} (old : Record) (s : List ℕ) (asked : Call P) → refusal_of (reseen old s) asked ≡ refusal_of old asked
refusal_reseen old s asked = refusal_held old s asked (held_at old (comm_of asked))

-- what the call may add
pub own_reseen : {P : Type 0} (look : List ℕ) (old : Record) (s : List ℕ) (asked : Call P) (event : Event P) → MayOwn look old asked event → MayOwn look (reseen old s) asked event
own_reseen look old s asked event may = record { not_declared = may.not_declared; not_refused = refusal_reseen old s asked ∙ may.not_refused; adds = may.adds }

-- its reply
module _ {P : Type 0} (meld : P → P → P) (limits : Limits) (view : AtPoint P) (old : Record) (s : List ℕ) where
  start_reseen : (x : Held) (offer : Offer P) (reply : Reply P) → StartReplies view old x offer reply → StartReplies view (reseen old s) x offer reply
  start_reseen x offer reply (inl (is, gives)) =
      inl (is, record { given = gives.given; own = gives.own; stands = gives.stands; offer_is = gives.offer_is; known = gives.known; acked = gives.acked })
  start_reseen x offer reply (inr twice) = inr twice

  by_reseen : (asked : Call P) (reply : Reply P) (held : Option Held) (refusal : Option Refusal) → RepliesBy {P = P} (λ x. Replies meld limits view old x asked reply) reply held refusal → RepliesBy {P = P} (λ x. Replies meld limits view (reseen old s) x asked reply) reply held refusal
  by_reseen asked reply held (Some refusal) r = r
  by_reseen asked reply None None r = absurd r
  by_reseen (call.Fail rank) reply (Some x) None r = r
  by_reseen (call.GetFailed rank c) reply (Some x) None r = r
  by_reseen (call.FailureGetAcked rank c) reply (Some x) None r = r
  by_reseen (call.Ack rank c count) reply (Some x) None r = r
  by_reseen (call.FailureAck rank c) reply (Some x) None r = r
  by_reseen (call.Agree rank c value) reply (Some x) None r = start_reseen x (Flag value) reply r
  by_reseen (call.Shrink rank c) reply (Some x) None r = start_reseen x (Ctx (free_ids old.held)) reply r
  by_reseen (call.Barrier rank c) reply (Some x) None r = r
  by_reseen (call.Poll rank c) reply (Some x) None r = r
  by_reseen (call.Revoke rank c) reply (Some x) None r = r
  by_reseen (call.IsRevoked rank c) reply (Some x) None r = r
  by_reseen (call.Free rank c) reply (Some x) None r = r

  reply_reseen : (asked : Call P) (reply : Reply P) → IsReply meld limits view old asked reply → IsReply meld limits view (reseen old s) asked reply
  reply_reseen asked reply r =
      record {
        not_declared = r.not_declared;
        replies = subst (RepliesBy {P = P} (λ x. Replies meld limits view (reseen old s) x asked reply) reply (held_at old (comm_of asked))) (sym (refusal_reseen old s asked)) (by_reseen asked reply (held_at old (comm_of asked)) (refusal_of old asked) r.replies);
      }

  pub answer_reseen : (asked : Call P) (reply : Reply P) → IsSelfFailed view old asked reply ⊎ IsReply meld limits view old asked reply
      → IsSelfFailed view (reseen old s) asked reply ⊎ IsReply meld limits view (reseen old s) asked reply
  answer_reseen asked reply (inl self) = inl (record { reply_is = self.reply_is; declared = self.declared; adds_nothing = self.adds_nothing })
  answer_reseen asked reply (inr r) = inr (reply_reseen asked reply r)

left_with_reseen : (now : Record) (s : List ℕ) (c : ℕ) (effect : Effect) → left_with (reseen now s) c effect ≡ reseen (left_with now c effect) s
left_with_reseen now s c Effect.Keeps = refl
left_with_reseen now s c Effect.Ends = refl
left_with_reseen now s c Effect.ForGood = refl

-- what the reply leaves, but for the failures that were seen
pub left_reseen : {P : Type 0} (ranks : ℕ) (h : History P) (now : Record) (s : List ℕ) (asked : Call P) (reply : Reply P) → left_by ranks h (reseen now s) asked reply ≡ reseen (left_by ranks h now asked reply) s
left_reseen ranks h now s asked is_reply.Started = refl
left_reseen ranks h now s asked is_reply.Pending = refl
left_reseen ranks h now s asked (is_reply.Agreed raised count value) = refl
left_reseen ranks h now s asked (is_reply.Shrunk j context size) = refl
left_reseen ranks h now s asked is_reply.Done = refl
left_reseen ranks h now s asked (is_reply.FailedGroup count) = refl
left_reseen ranks h now s asked (is_reply.Acked count) = refl
left_reseen ranks h now s asked is_reply.Declared = refl
left_reseen ranks h now s asked is_reply.AlreadyFailed = refl
left_reseen ranks h now s asked is_reply.Revoked = refl
left_reseen ranks h now s asked is_reply.AlreadyRevoked = refl
left_reseen ranks h now s asked (is_reply.Standing revoked) = refl
left_reseen ranks h now s asked is_reply.Freed = refl
left_reseen ranks h now s asked (is_reply.Refused refusal) = left_with_reseen now s (traits_of asked).comm (printed refusal).2

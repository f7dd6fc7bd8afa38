-- Which kind of reply each call has.
use Rattle.std.proofs.Common.{◌≡◌, ◌⊎◌, ℕ, ◌<◌, Bool, true, false, List, filter, Option, Some, None, inl, inr, refl, sym, ◌∙◌, subst, IsFalse, if◌then◌else◌}
use Rattle.std.specs.Bool.{⊤}
use Rattle.std.specs.List.{list_all}
use Rattle.ulfm_model.specs.declared.call.Call.TheVariants as call
use Rattle.ulfm_laws.specs.declared.summary.CtxMask.{CtxMask}
use Rattle.ulfm_model.specs.declared.{call.Call.{Call}, call.Request.{Request}, call.Request.TheVariants.{Agree, Shrink, Barrier}, contribution.Offer.{Offer}}
use Rattle.ulfm_model.specs.declared.{contribution.Offer.TheVariants.{Ctx, Flag}, limits.Limits.{Limits}, refusal.Refusal.{Refusal}}
use Rattle.ulfm_model.specs.declared.{refusal.Refusal.TheVariants.{IsRevoked, NoContext, ProcFailed, SelfFailed, Twice}, reply.Reply.{Reply}}
use Rattle.ulfm_model.specs.declared.reply.Reply.TheVariants.{AlreadyRevoked, Done, FailedGroup, Pending, Refused, Revoked, Started}
use Rattle.ulfm_model.specs.Answers.{AgreeReplies, IsReply, IsSelfFailed, PollReplies, Replies, RepliesBy, Sees, ShrinkReplies, SpawnReplies, StartReplies}
use Rattle.ulfm_model.specs.Answers.{AtPoint, polled_by, refusal_of}
use Rattle.ulfm_model.specs.History.{Decision, History, decision, failures, has, has_arrived, is_revoked}
use Rattle.ulfm_model.specs.{Records.{Held, free_ids, Record, held_at, is_shrink}, Runs.{IsRun}}
use Rattle.ulfm_model.specs.Terms.{comm_of, rests_on}
use Rattle.ulfm_model.specs.Records.{moment}
use Rattle.ulfm_comm.specs.Replies.{IsOfKind, Kind}

-- a reply of the call's kind
abbrev pub IsKind : {P : Type 0} → Call P → Reply P → Type 0
IsKind (call.Fail rank) reply = ⊤
IsKind (call.GetFailed rank c) reply = IsOfKind Kind.Counts reply
IsKind (call.FailureGetAcked rank c) reply = IsOfKind Kind.Counts reply
IsKind (call.Ack rank c count) reply = IsOfKind Kind.Acknowledges reply
IsKind (call.FailureAck rank c) reply = IsOfKind Kind.Acknowledges reply
IsKind (call.Agree rank c value) reply = IsOfKind Kind.Starts reply
IsKind (call.Shrink rank c) reply = IsOfKind Kind.Starts reply
IsKind (call.Barrier rank c) reply = IsOfKind Kind.Starts reply
IsKind (call.Poll rank c) reply = IsOfKind Kind.Polls reply
IsKind (call.Revoke rank c) reply = IsOfKind Kind.Revokes reply
IsKind (call.IsRevoked rank c) reply = IsOfKind Kind.Asks reply
IsKind (call.Free rank c) reply = IsOfKind Kind.Frees reply

barrier_kind : (P : Type 0) (revoked done waits : Bool) → IsOfKind {P = P} Kind.Polls
    (if revoked then Refused IsRevoked else (if done then Done else (if waits then Pending else Refused ProcFailed)))
barrier_kind P true done waits = tt
barrier_kind P false true waits = tt
barrier_kind P false false true = tt
barrier_kind P false false false = tt

module _ {P : Type 0} (meld : P → P → P) (limits : Limits) (view : AtPoint P) (old : Record) (x : Held) (reply : Reply P) where
  start_kind : (offer : Offer P) → StartReplies view old x offer reply → IsOfKind Kind.Starts reply
  start_kind offer (inl started) = subst (IsOfKind Kind.Starts) (sym started.0) tt
  start_kind offer (inr twice) = subst (IsOfKind Kind.Starts) (sym twice.0) tt

  either_kind : {X Y : Type 0} (K : Reply P → Type 0) (a b : Reply P) → K a → K b → ((reply ≡ a) × X) ⊎ ((reply ≡ b) × Y) → K reply
  either_kind K a b first second (inl is) = subst K (sym is.0) first
  either_kind K a b first second (inr is) = subst K (sym is.0) second

  agree_kind : (made : Decision P) → AgreeReplies made reply → IsOfKind Kind.Polls reply
  agree_kind made (inl agreed) = subst (IsOfKind Kind.Polls) (sym agreed.2) tt
  agree_kind made (inr clash) = subst (IsOfKind Kind.Polls) (sym clash.1) tt

  spawn_kind : (h : History P) (c k mask : ℕ) → SpawnReplies limits h c k mask reply → IsOfKind Kind.Polls reply
  spawn_kind h c k mask (inl made) = subst (IsOfKind Kind.Polls) (sym made.5) tt
  spawn_kind h c k mask (inr full) = subst (IsOfKind Kind.Polls) (sym full.2) tt

  ids_kind : (h : History P) (r c k : ℕ) (made : Decision P) (mask : CtxMask) → ((mask.bits ≡ 0) × (reply ≡ Refused NoContext)) ⊎
      ((0 < mask.bits) × IsFalse (has made.failed r) × SpawnReplies limits h c k mask.bits reply) → IsOfKind Kind.Polls reply
  ids_kind h r c k made mask (inl none) = subst (IsOfKind Kind.Polls) (sym none.1) tt
  ids_kind h r c k made mask (inr some) = spawn_kind h c k mask.bits some.2

  shrink_kind : (h : History P) (r c k : ℕ) (made : Decision P) → ShrinkReplies limits h r c k made reply → IsOfKind Kind.Polls reply
  shrink_kind h r c k made (inl on) = ids_kind h r c k made on.0 on.2
  shrink_kind h r c k made (inr clash) = subst (IsOfKind Kind.Polls) (sym clash.1) tt

  poll_kind : (request : Option Request) → PollReplies meld limits view old.number x request reply → IsOfKind Kind.Polls reply
  poll_kind None replies = absurd replies
  poll_kind (Some (Agree k)) (inl waits) = subst (IsOfKind Kind.Polls) (sym waits.1) tt
  poll_kind (Some (Agree k)) (inr decided) = agree_kind (decision meld limits.ranks view.history x.comm k) decided.1
  poll_kind (Some (Shrink k)) (inl waits) = subst (IsOfKind Kind.Polls) (sym waits.1) tt
  poll_kind (Some (Shrink k)) (inr decided) = shrink_kind view.history old.number x.comm k (decision meld limits.ranks view.history x.comm k) decided.1
  poll_kind (Some (Barrier k)) is = subst (IsOfKind Kind.Polls) (sym is)
      (barrier_kind P (is_revoked view.history x.comm) (list_all (has_arrived view.history x.comm k) x.group)
      (list_all (has_arrived view.history x.comm k) (filter (has x.group) view.look)))

  -- that of a call that the record doesn't refuse
  pub replies_kind : (asked : Call P) → Replies meld limits view old x asked reply → IsKind asked reply
  replies_kind (call.Fail rank) replies = tt
  replies_kind (call.GetFailed rank c) replies = subst (IsOfKind Kind.Counts) (sym replies.1) tt
  replies_kind (call.FailureGetAcked rank c) replies = subst (IsOfKind Kind.Counts) (sym replies.1) tt
  replies_kind (call.Ack rank c count) replies = subst (IsOfKind Kind.Acknowledges) (sym replies.1) tt
  replies_kind (call.FailureAck rank c) replies = subst (IsOfKind Kind.Acknowledges) (sym replies.1) tt
  replies_kind (call.Agree rank c value) replies = start_kind (Flag value) replies
  replies_kind (call.Shrink rank c) replies = start_kind (Ctx (free_ids old.held)) replies
  replies_kind (call.Barrier rank c) replies = either_kind (IsOfKind Kind.Starts) Started (Refused Twice) tt tt replies.1
  replies_kind (call.Poll rank c) replies = poll_kind x.request replies
  replies_kind (call.Revoke rank c) replies = either_kind (IsOfKind Kind.Revokes) Revoked AlreadyRevoked tt tt replies.1
  replies_kind (call.IsRevoked rank c) replies = subst (IsOfKind Kind.Asks) (sym replies) tt
  replies_kind (call.Free rank c) replies = subst (IsOfKind Kind.Frees) (sym replies) tt

-- a call that counted failures has seen all that were declared at its point
module _ {P : Type 0} (meld : P → P → P) (limits : Limits) (view : AtPoint P) (after : History P) (old : Record) (count : ℕ) (seen : List ℕ) where
  by_asked : (asked : Call P) (x : Held) → Replies meld limits view old x asked (FailedGroup count)
      → Sees (is_shrink (polled_by old asked)) view.look after seen → seen ≡ failures view.history
  by_asked (call.Fail rank) x replies sees = absurd replies
  by_asked (call.GetFailed rank c) x replies sees = sees ∙ sym replies.0
  by_asked (call.FailureGetAcked rank c) x replies sees = sees ∙ sym replies.0
  by_asked (call.Ack rank c count) x replies sees = absurd (cc (replies.1))
  by_asked (call.FailureAck rank c) x replies sees = absurd (cc (replies.1))
  by_asked (call.Agree rank c value) x replies sees = absurd (replies_kind meld limits view old x (FailedGroup count) (call.Agree rank c value) replies)
  by_asked (call.Shrink rank c) x replies sees = absurd (replies_kind meld limits view old x (FailedGroup count) (call.Shrink rank c) replies)
  by_asked (call.Barrier rank c) x replies sees = absurd (replies_kind meld limits view old x (FailedGroup count) (call.Barrier rank c) replies)
  by_asked (call.Poll rank c) x replies sees = absurd (replies_kind meld limits view old x (FailedGroup count) (call.Poll rank c) replies)
  by_asked (call.Revoke rank c) x replies sees = absurd (replies_kind meld limits view old x (FailedGroup count) (call.Revoke rank c) replies)
  by_asked (call.IsRevoked rank c) x replies sees = absurd (cc replies)
  by_asked (call.Free rank c) x replies sees = absurd (cc replies)

  by_held : (asked : Call P) (held : Option Held) (refusal : Option Refusal) → RepliesBy {P = P} (λ x. Replies meld limits view old x asked (FailedGroup count)) (FailedGroup count) held refusal
      → Sees (is_shrink (polled_by old asked)) view.look after seen → seen ≡ failures view.history
  by_held asked held (Some refusal) is sees = absurd (cc is)
  by_held asked (Some x) None replies sees = by_asked asked x replies sees
  by_held asked None None replies sees = absurd replies

  by_either : (asked : Call P) → IsSelfFailed view old asked (FailedGroup count) ⊎ IsReply meld limits view old asked (FailedGroup count)
      → Sees (is_shrink (polled_by old asked)) view.look after seen → seen ≡ failures view.history
  by_either asked (inl failed) sees = absurd (cc (failed.reply_is))
  by_either asked (inr replied) sees = by_held asked (held_at old (comm_of asked)) (refusal_of old asked) replied.replies sees

pub counted_seen : {P : Type 0} (meld : P → P → P) (limits : Limits) (alone : Bool) (before after : History P) (old : Record) (asked : Call P) (reply : Reply P)
    (new : Record) (run : IsRun meld limits alone (moment old before) asked reply (moment new after)) (count : ℕ)
    → reply ≡ FailedGroup count → new.seen ≡ failures run.span.point
counted_seen meld limits alone before after old asked reply new run count is =
    by_either meld limits (rests_on run.span) after old count new.seen asked (subst
    (λ r. IsSelfFailed (rests_on run.span) old asked r ⊎ IsReply meld limits (rests_on run.span) old asked r) is run.answer.replies) run.answer.leaves.seen

-- a reply that isn't a refusal is one on a communicator that the rank holds, and that its look didn't refuse
pub record AnsweredOn {P : Type 0} (meld : P → P → P) (limits : Limits) (view : AtPoint P) (old : Record) (asked : Call P) (reply : Reply P) : Type 0 where
  pub x : Held
  pub held : held_at old (comm_of asked) ≡ Some x
  pub not_declared : IsFalse (has view.look old.number)
  pub passed : refusal_of old asked ≡ None
  pub replies : Replies meld limits view old x asked reply

module _ {P : Type 0} (meld : P → P → P) (limits : Limits) (view : AtPoint P) (old : Record) (asked : Call P) (reply : Reply P) (other : (refusal : Refusal)
    → reply ≡ Refused refusal → ⊥) where
  on_held : IsFalse (has view.look old.number) → (held : Option Held) (refusal : Option Refusal) → held_at old (comm_of asked) ≡ held
      → refusal_of old asked ≡ refusal → RepliesBy {P = P} (λ x. Replies meld limits view old x asked reply) reply held refusal
      → AnsweredOn meld limits view old asked reply
  on_held look held (Some refusal) at passed is = absurd (other refusal is)
  on_held look (Some x) None at passed replies = record { x = x; held = at; not_declared = look; passed = passed; replies = replies }
  on_held look None None at passed replies = absurd replies

  on_either : IsSelfFailed view old asked reply ⊎ IsReply meld limits view old asked reply → AnsweredOn meld limits view old asked reply
  on_either (inl failed) = absurd (other SelfFailed failed.reply_is)
  on_either (inr replied) = on_held replied.not_declared (held_at old (comm_of asked)) (refusal_of old asked) refl refl replied.replies

pub answered_on : {P : Type 0} (meld : P → P → P) (limits : Limits) (alone : Bool) (before after : History P) (old : Record) (asked : Call P) (reply : Reply P)
    (new : Record) (run : IsRun meld limits alone (moment old before) asked reply (moment new after))
    → ((refusal : Refusal) → reply ≡ Refused refusal → ⊥) → AnsweredOn meld limits (rests_on run.span) old asked reply
answered_on meld limits alone before after old asked reply new run other = on_either meld limits (rests_on run.span) old asked reply other run.answer.replies

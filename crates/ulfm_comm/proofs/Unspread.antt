-- A call whose reply rests on no wing is one of the sequential object, which has none.
use Rattle.std.proofs.Common.{◌≡◌, ◌⊎◌, inl, inr, sym, subst, Bool, true, false, Option, Some, None, refl}
use Rattle.ulfm_model.specs.declared.call.Call.TheVariants as call
use Rattle.ulfm_model.specs.declared.{call.Call.{Call}, contribution.Contribution.{Contribution}, contribution.Offer.{Offer}, contribution.Offer.TheVariants.{Flag, Ctx}, contribution.Slot.{Slot}}
use Rattle.ulfm_model.specs.declared.{limits.Limits.{Limits}, refusal.Refusal.{Refusal}, refusal.Refusal.TheVariants.{Twice}, reply.Reply.{Reply}, reply.Reply.TheVariants.{Refused}}
use Rattle.ulfm_model.specs.{Answers.{AtPoint, IsReply, IsSelfFailed, Replies, RepliesBy, StartReplies, refusal_of}, History.{History, slot}, Records.{Held, Record, free_ids, held_at, moment}}
use Rattle.ulfm_model.specs.{Runs.{IsRun, rests_on}, Terms.{comm_of}}
use Rattle.ulfm_comm.specs.{Ends.{IsEndRun}, Requests.{contributes}}

abbrev with_none : {P : Type 0} → AtPoint P → AtPoint P
with_none view = record view { spread = false }

-- what a start finds at its own place, where it is answered `twice`
abbrev FindsGiven : {P : Type 0} → AtPoint P → Record → Held → Type 0
FindsGiven {P} view old x = (given : Contribution P) × (slot view.history x.comm x.next_agreement old.number ≡ Some (Slot.Given given))

start_unspread : {P : Type 0} (view : AtPoint P) (old : Record) (x : Held) (offer : Offer P) (reply : Reply P) → FindsGiven view old x → StartReplies view old x offer reply
    → StartReplies (with_none view) old x offer reply
start_unspread view old x offer reply finds (inl started) = inl (
  started.0,
  record {
    given = started.1.given;
    own = started.1.own;
    stands = started.1.stands;
    offer_is = started.1.offer_is;
    known = started.1.known;
    acked = started.1.acked;
  },
)
start_unspread view old x offer reply finds (inr twice) = inr (twice.0, twice.1, inl finds)

reply_unspread : {P : Type 0} (meld : P → P → P) (limits : Limits) (view : AtPoint P) (old : Record) (x : Held) (asked : Call P) (reply : Reply P) → contributes asked ≡ true → FindsGiven view old x
    → Replies meld limits view old x asked reply → Replies meld limits (with_none view) old x asked reply
reply_unspread meld limits view old x (call.Agree rank c value) reply starts finds is = start_unspread view old x (Flag value) reply finds is
reply_unspread meld limits view old x (call.Shrink rank c) reply starts finds is = start_unspread view old x (Ctx (free_ids old.held)) reply finds is
reply_unspread meld limits view old x _ reply starts finds is = absurd (cc starts)

by_record : {P : Type 0} (F G : Held → Type 0) (reply : Reply P) (held : Option Held) (refusal : Option Refusal) → ((x : Held) → held ≡ Some x → F x → G x) → RepliesBy F reply held refusal → RepliesBy G reply held refusal
by_record F G reply held (Some refusal) turn is = is
by_record F G reply (Some x) None turn is = turn x refl is
by_record F G reply None None turn is = is

module _ {P : Type 0} (meld : P → P → P) (limits : Limits) (alone : Bool) (before after : History P) (old : Record) (asked : Call P) (reply : Reply P)
    (new : Record) (ended : IsEndRun meld limits alone (moment old before) asked reply (moment new after))
    (rests : reply ≡ Refused Twice → contributes asked ≡ true → (x : Held) → held_at old (comm_of asked) ≡ Some x → (given : Contribution P) × (slot after x.comm x.next_agreement old.number ≡ Some (Slot.Given given))) where
  at_none : (on : Bool) → ended.run.span.spread ≡ on → (run : IsRun meld limits alone (moment old before) asked reply (moment new after)) × (run.span.spread ≡ false) × (run.span.point ≡ ended.run.span.point) × (run.span.own ≡ ended.run.span.own)
  at_none false is = let run = ended.run in (run, is, refl, refl)
  at_none true is =
      let span = ended.run.span in
      let answer = ended.run.answer in
      let twice = ended.rests is in
      let view : AtPoint P = rests_on span in
      let finds : (x : Held) → held_at old (comm_of asked) ≡ Some x → FindsGiven view old x =
      λ x held. (let given = rests twice.1 twice.0 x held in (given.0, subst (λ h. slot h x.comm x.next_agreement old.number ≡ Some (Slot.Given given.0)) (sym ended.at_end) given.1)) in
      let replies : IsSelfFailed (with_none view) old asked reply ⊎ IsReply meld limits (with_none view) old asked reply = by_kind view finds twice.0 answer.replies in
      let run : IsRun meld limits alone (moment old before) asked reply (moment new after) =
      record {
        in_use = ended.run.in_use;
        span = record span { spread = false };
        answer = record { own = answer.own; replies = replies; leaves = record { seen = answer.leaves.seen; record_is = answer.leaves.record_is } };
      } in
      (run, refl, refl, refl)
    where
      by_kind : (view : AtPoint P) → ((x : Held) → held_at old (comm_of asked) ≡ Some x → FindsGiven view old x) → contributes asked ≡ true → IsSelfFailed view old asked reply ⊎ IsReply meld limits view old asked reply
          → IsSelfFailed (with_none view) old asked reply ⊎ IsReply meld limits (with_none view) old asked reply
      by_kind view finds starts (inl failed) = inl (record { reply_is = failed.reply_is; declared = failed.declared; adds_nothing = failed.adds_nothing })
      by_kind view finds starts (inr replied) = inr (record {
        not_declared = replied.not_declared;
        replies = by_record (λ x. Replies meld limits view old x asked reply) (λ x. Replies meld limits (with_none view) old x asked reply) reply (held_at old (comm_of asked)) (refusal_of old asked)
            (λ x held. reply_unspread meld limits view old x asked reply starts (finds x held)) replied.replies;
      })

  -- the same call with no wing to rest on
  pub unspread : (run : IsRun meld limits alone (moment old before) asked reply (moment new after)) × (run.span.spread ≡ false) × (run.span.point ≡ ended.run.span.point) × (run.span.own ≡ ended.run.span.own)
  unspread = at_none ended.run.span.spread refl

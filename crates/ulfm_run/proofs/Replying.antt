-- The reply that a step gives is an answer by the look that was printed and by exactly the events that were.
use Rattle.std.proofs.Common.{◌≡◌, ◌⊎◌, ℕ, ◌==◌, ◌||◌, Bool, true, false, List, [], ◌∷◌, ◌++◌, Option, Some, None, refl, ap, sym, ◌∙◌, subst, append_assoc, inl, inr, if◌then◌else◌}
use Rattle.std.specs.Option.{option_and_then}
use mathlib.Core.List.{IsPrefix}
use Rattle.ulfm_model.specs.declared.call.Call.TheVariants as call
use Rattle.ulfm_model.specs.declared.{call.Call.{Call}, call.Request.{Request}, call.Request.TheVariants.{Agree, Shrink, Barrier}, event.Caller.{Caller}, event.Caller.TheVariants.{Rank}, event.Entry.{Entry}, event.Event.{Event}, limits.Limits.{Limits}, refusal.Refusal.{Refusal}, reply.Reply.{Reply}, reply.Reply.TheVariants.{Revoked, Started}}
use Rattle.ulfm_model.specs.{Answers.{IsReply, IsSelfFailed, PollReplies, RepliesBy, Sees, AtPoint, polled_by, refusal_of, traits_of}, History.{History, entries_by, failures, has}, Records.{Held, Record, held_at, is_shrink}, Runs.{StandsIn, rests_on}}
use Rattle.ulfm_model.specs.Answers.{Replies}
use Rattle.ulfm_model.proofs.Histories.{failures_begin}
use Rattle.ulfm_model.specs.Records.{moment}
use Rattle.ulfm_words.proofs.Trails.{did_prefix}
use Rattle.ulfm_comm.specs.Ends.{IsEndRun}
use Rattle.ulfm_model.specs.Traces.{same_caller}
use Rattle.ulfm_model.proofs.Callers.{same_rank}
use Rattle.ulfm_run.proofs.Swapping.{Agrees, answer_swaps}
use Rattle.ulfm_run.specs.Stepping.{events_by}

-- the events of two histories, one behind the other
pub by_append : {P : Type 0} (by : Caller) (xs ys : History P) → events_by by (xs ++ ys) ≡ events_by by xs ++ events_by by ys
by_append by [] ys = refl
by_append by (x ∷ xs) ys = go (same_caller x.by by) (by_append by xs ys)
  where
    go : (b : Bool) → events_by by (xs ++ ys) ≡ events_by by xs ++ events_by by ys → (if b then x.event ∷ events_by by (xs ++ ys) else events_by by (xs ++ ys)) ≡ (if b then x.event ∷ events_by by xs else events_by by xs) ++ events_by by ys
    go true rest = ap (λ es. x.event ∷ es) rest
    go false rest = rest

-- an entry that stands in a history is among its caller's events
stands_by : {P : Type 0} (r : ℕ) (e : Event P) (ys : History P) → StandsIn (record { by = Rank r; event = e } ∷ []) ys → (k l : List (Event P)) × (events_by (Rank r) ys ≡ k ++ e ∷ l)
stands_by r e [] is = absurd is
stands_by {P} r e (y ∷ ys) (inl is) =
    ([], events_by (Rank r) ys, sym (ap (λ (x : Entry P). if same_caller x.by (Rank r) then x.event ∷ events_by (Rank r) ys else events_by (Rank r) ys) is.0) ∙ ap (λ (b : Bool). if b then e ∷ events_by (Rank r) ys else events_by (Rank r) ys) (same_rank r))
stands_by {P} r e (y ∷ ys) (inr is) =
    let rest = stands_by r e ys is in go (same_caller y.by (Rank r)) rest.0 rest.1 rest.2
  where
    go : (b : Bool) (k l : List (Event P)) → events_by (Rank r) ys ≡ k ++ e ∷ l → (m n : List (Event P)) × ((if b then y.event ∷ events_by (Rank r) ys else events_by (Rank r) ys) ≡ m ++ e ∷ n)
    go true k l is = (y.event ∷ k, l, ap (λ es. y.event ∷ es) is)
    go false k l is = (k, l, is)

none_of : {E : Type 0} (k l : List E) (e : E) → k ++ e ∷ l ≡ [] → ⊥
none_of [] l e is = absurd (cc is)
none_of (a ∷ k) l e is = absurd (cc is)

one_of : {E : Type 0} (k l : List E) (e f : E) → k ++ e ∷ l ≡ f ∷ [] → e ≡ f
one_of [] l e f is = cc is
one_of (a ∷ k) l e f is = absurd (none_of k l e (cc is))

cancel : {E : Type 0} (xs ys zs : List E) → xs ++ ys ≡ xs ++ zs → ys ≡ zs
cancel [] ys zs is = is
cancel (x ∷ xs) ys zs is = cancel xs ys zs (cc is)

or_none : (a b : Bool) → (a || b) ≡ false → (a ≡ false) × (b ≡ false)
or_none true b is = absurd (cc is)
or_none false b is = (refl, is)

both_none : (a b : Bool) → a ≡ false → b ≡ false → (a || b) ≡ false
both_none true b x y = absurd (cc x)
both_none false b x y = y

-- who isn't in a list isn't in its beginning
not_before : (xs ys : List ℕ) (r : ℕ) → IsPrefix xs ys → has ys r ≡ false → has xs r ≡ false
not_before [] ys r begins none = refl
not_before (x ∷ xs) ys r begins none =
    let whole : has (x ∷ (xs ++ begins.0)) r ≡ false = ap (λ zs. has zs r) begins.1 ∙ none in
    let parts = or_none (x == r) (has (xs ++ begins.0) r) whole in
    both_none (x == r) (has xs r) parts.0 (not_before xs (xs ++ begins.0) r (begins.0, refl) parts.1)

-- the same view, but for the look
abbrev with_look : {P : Type 0} → AtPoint P → List ℕ → AtPoint P
with_look view look = record { look = look; history = view.history; own = view.own; spread = view.spread }

-- the poll of a shrink may rest on a beginning of what was read, too
module _ {P : Type 0} (meld : P → P → P) (limits : Limits) (view : AtPoint P) (look : List ℕ) (begins : IsPrefix look view.look) (old : Record) (reply : Reply P) where
  shrink_relooks : (rank c : ℕ) (held : Option Held) (refusal : Option Refusal) → is_shrink (option_and_then (λ x. x.request) held) ≡ true → RepliesBy {P = P} (λ x. Replies meld limits view old x (call.Poll rank c) reply) reply held refusal
      → RepliesBy {P = P} (λ x. Replies meld limits (with_look view look) old x (call.Poll rank c) reply) reply held refusal
  shrink_relooks rank c held (Some refusal) shrinks r = r
  shrink_relooks rank c None None shrinks r = r
  shrink_relooks rank c (Some x) None shrinks r = go x.request shrinks r
    where
      go : (request : Option Request) → is_shrink request ≡ true → PollReplies meld limits view old.number x request reply → PollReplies meld limits (with_look view look) old.number x request reply
      go None shrinks r = absurd (cc shrinks)
      go (Some (Agree k)) shrinks r = absurd (cc shrinks)
      go (Some (Barrier k)) shrinks r = absurd (cc shrinks)
      go (Some (Shrink k)) shrinks (inl (p, is)) = inl (record { member = p.member; in_group = p.in_group; not_declared = not_before look view.look p.member begins p.not_declared; unsettled = p.unsettled }, is)
      go (Some (Shrink k)) shrinks (inr r) = inr r

  replies_relook : (asked : Call P) → is_shrink (polled_by old asked) ≡ true → (refusal : Option Refusal) → RepliesBy {P = P} (λ x. Replies meld limits view old x asked reply) reply (held_at old (traits_of asked).comm) refusal
      → RepliesBy {P = P} (λ x. Replies meld limits (with_look view look) old x asked reply) reply (held_at old (traits_of asked).comm) refusal
  replies_relook (call.Poll rank c) shrinks refusal r = shrink_relooks rank c (held_at old c) refusal shrinks r
  replies_relook (call.Fail rank) shrinks refusal r = absurd (cc shrinks)
  replies_relook (call.GetFailed rank c) shrinks refusal r = absurd (cc shrinks)
  replies_relook (call.FailureGetAcked rank c) shrinks refusal r = absurd (cc shrinks)
  replies_relook (call.Ack rank c count) shrinks refusal r = absurd (cc shrinks)
  replies_relook (call.FailureAck rank c) shrinks refusal r = absurd (cc shrinks)
  replies_relook (call.Agree rank c value) shrinks refusal r = absurd (cc shrinks)
  replies_relook (call.Shrink rank c) shrinks refusal r = absurd (cc shrinks)
  replies_relook (call.Barrier rank c) shrinks refusal r = absurd (cc shrinks)
  replies_relook (call.Revoke rank c) shrinks refusal r = absurd (cc shrinks)
  replies_relook (call.IsRevoked rank c) shrinks refusal r = absurd (cc shrinks)
  replies_relook (call.Free rank c) shrinks refusal r = absurd (cc shrinks)

  pub shrink_answer : (asked : Call P) → is_shrink (polled_by old asked) ≡ true → IsSelfFailed view old asked reply ⊎ IsReply meld limits view old asked reply
      → IsSelfFailed (with_look view look) old asked reply ⊎ IsReply meld limits (with_look view look) old asked reply
  shrink_answer asked shrinks (inl self) = inl (record { reply_is = self.reply_is; declared = self.declared; adds_nothing = self.adds_nothing })
  shrink_answer asked shrinks (inr rep) = inr (record { not_declared = not_before look view.look old.number begins rep.not_declared; replies = replies_relook asked shrinks (refusal_of old asked) rep.replies })

-- A run of a call from its look on, with its point at its end: so much was seen at the look (`start`), and after it came these events of the rank, `mine`.
module _ {P : Type 0} (meld : P → P → P) (limits : Limits) (start after : History P) (old : Record) (asked : Call P) (reply : Reply P) (new : Record) (ended : IsEndRun meld limits false (moment old start) asked reply (moment new after)) (rest : History P) (goes_on : start ++ rest ≡ after)
    (mine : List (Event P)) (mine_is : events_by (Rank old.number) rest ≡ mine) (few : (traits_of asked).polls ≡ false → (mine ≡ []) ⊎ ((e : Event P) × (mine ≡ e ∷ []) × ((reply ≡ Started) ⊎ (reply ≡ Revoked))))
    (seen : is_shrink (polled_by old asked) ≡ false → new.seen ≡ failures start) where
  abbrev own : List (Event P)
  own = ended.run.span.own

  rest_is : rest ≡ ended.run.span.looked.since ++ ended.run.span.did.since
  rest_is =
      let span = ended.run.span in
      cancel start rest (span.looked.since ++ span.did.since) (goes_on ∙ (sym span.did.goes_on ∙ (ap (λ h. h ++ span.did.since) (sym span.looked.goes_on) ∙ append_assoc start span.looked.since span.did.since)))

  holds_one : (e : Event P) → own ≡ e ∷ [] → (k l : List (Event P)) × (mine ≡ k ++ e ∷ l)
  holds_one e is =
      let span = ended.run.span in
      let stands : StandsIn (record { by = Rank old.number; event = e } ∷ []) span.did.since = subst (λ es. StandsIn (entries_by (Rank old.number) es) span.did.since) is span.did.stands in
      let there = stands_by old.number e span.did.since stands in
      let before = events_by (Rank old.number) span.looked.since in (
        before ++ there.0,
        there.1,
        sym mine_is ∙ (ap (events_by (Rank old.number)) rest_is ∙ (by_append (Rank old.number) span.looked.since span.did.since ∙ (ap (λ es. before ++ es) there.2 ∙ sym (append_assoc before there.0 (e ∷ there.1))))),
      )

  agrees : Agrees asked reply own mine
  agrees = record { one = λ no_poll e is. one no_poll e (holds_one e is) (few no_poll); none = λ no_poll not_started not_revoked. none no_poll not_started not_revoked (few no_poll) }
    where
      one : (traits_of asked).polls ≡ false → (e : Event P) → ((k l : List (Event P)) × (mine ≡ k ++ e ∷ l)) → (mine ≡ []) ⊎ ((f : Event P) × (mine ≡ f ∷ []) × ((reply ≡ Started) ⊎ (reply ≡ Revoked))) → mine ≡ e ∷ []
      one no_poll e holds (inl nothing) = absurd (none_of holds.0 holds.1 e (sym holds.2 ∙ nothing))
      one no_poll e holds (inr (f, is, how)) = is ∙ ap (λ x. x ∷ []) (sym (one_of holds.0 holds.1 e f (sym holds.2 ∙ is)))

      none : (traits_of asked).polls ≡ false → (reply ≡ Started → ⊥) → (reply ≡ Revoked → ⊥) → (mine ≡ []) ⊎ ((f : Event P) × (mine ≡ f ∷ []) × ((reply ≡ Started) ⊎ (reply ≡ Revoked))) → mine ≡ []
      none no_poll not_started not_revoked (inl nothing) = nothing
      none no_poll not_started not_revoked (inr (f, is, inl started)) = absurd (not_started started)
      none no_poll not_started not_revoked (inr (f, is, inr revoked)) = absurd (not_revoked revoked)

  abbrev view : AtPoint P
  view = record { look = failures ended.run.span.look; history = after; own = mine; spread = true }

  at_point : IsSelfFailed view old asked reply ⊎ IsReply meld limits view old asked reply
  at_point =
      let span = ended.run.span in
      let swapped = answer_swaps meld limits (rests_on span) old mine asked reply agrees ended.run.answer.replies in
      subst (λ h. IsSelfFailed (record { look = failures span.look; history = h; own = mine; spread = true }) old asked reply ⊎ IsReply meld limits (record { look = failures span.look; history = h; own = mine; spread = true }) old asked reply) ended.at_end swapped

  -- the judge's test of a reply
  pub reply_answers : IsSelfFailed (record { look = failures start; history = after; own = mine; spread = true }) old asked reply ⊎ IsReply meld limits (record { look = failures start; history = after; own = mine; spread = true }) old asked reply
  reply_answers = go (is_shrink (polled_by old asked)) refl
    where
      go : (b : Bool) → is_shrink (polled_by old asked) ≡ b
          → IsSelfFailed (record { look = failures start; history = after; own = mine; spread = true }) old asked reply ⊎ IsReply meld limits (record { look = failures start; history = after; own = mine; spread = true }) old asked reply
      go true shrinks = shrink_answer meld limits view (failures start) (failures_begin start ended.run.span.look (did_prefix false [] start ended.run.span.look ended.run.span.looked)) old reply asked shrinks at_point
      go false other =
          let sees : Sees false (failures ended.run.span.look) after new.seen = subst (λ b. Sees b (failures ended.run.span.look) after new.seen) other ended.run.answer.leaves.seen in
          subst (λ s. IsSelfFailed (record { look = s; history = after; own = mine; spread = true }) old asked reply ⊎ IsReply meld limits (record { look = s; history = after; own = mine; spread = true }) old asked reply) (sym sees ∙ seen other) at_point

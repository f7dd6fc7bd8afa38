-- A call that its record doesn't refuse, where nobody else steps, adds and replies what is computed.
use Rattle.std.proofs.Common.{◌≡◌, ◌⊎◌, ℕ, ◌≤◌, true, false, List, [], ◌∷◌, ◌++◌, length, Option, Some, None, is_some, refl, ap, sym, ◌∙◌, subst, arith, append-nil, filter, inl, inr, if◌then◌else◌, IsTrue}
use Rattle.std.specs.Coded.{le_prop}
use Rattle.std.specs.List.{AllByRecursion, cons_option}
use Rattle.std.proofs.lemmas.Bool.{false_from_ne_true}
use Rattle.std.proofs.lemmas.List.Elements.{filter_map-append}
use Rattle.ulfm_laws.specs.declared.summary.Acked.{Acked}
use Rattle.ulfm_laws.specs.declared.summary.Known.{Known}
use Rattle.ulfm_laws.specs.Counts.{same_acked, same_known}
use Rattle.ulfm_model.specs.declared.call.Call.{Call}
use Rattle.ulfm_model.specs.declared.call.Call.TheVariants as call
use Rattle.ulfm_model.specs.declared.call.Request.{Request}
use Rattle.ulfm_model.specs.declared.call.Request.TheVariants.{Agree, Shrink, Barrier}
use Rattle.ulfm_model.specs.declared.contribution.Contribution.{Contribution}
use Rattle.ulfm_model.specs.declared.contribution.Offer.{Offer}
use Rattle.ulfm_model.specs.declared.contribution.Offer.TheVariants.{Flag, Ctx}
use Rattle.ulfm_model.specs.declared.event.Caller.{Caller}
use Rattle.ulfm_model.specs.declared.event.Caller.TheVariants.{Rank}
use Rattle.ulfm_model.specs.declared.event.Event.{Event}
use Rattle.ulfm_model.specs.declared.event.Event.TheVariants.{Settle, Arrive, Revoke}
use Rattle.ulfm_model.specs.declared.limits.Limits.{Limits}
use Rattle.ulfm_model.specs.declared.reply.Reply.{Reply}
use Rattle.ulfm_model.specs.declared.reply.Reply.TheVariants.{Started, AlreadyRevoked, Revoked, Refused}
use Rattle.ulfm_model.specs.declared.refusal.Refusal.TheVariants.{Twice}
use Rattle.ulfm_model.specs.History.{History, entries_by, failures, has, has_arrived, is_revoked, slot}
use Rattle.ulfm_model.specs.{History.{IsLegal, MayFollow, members}, Runs.{unsettled_of}}
use Rattle.ulfm_model.specs.Computed.{added, added_by_poll, given_at, marks_of, replied, settle_of, start_reply}
use Rattle.ulfm_model.specs.Terms.{settled_by}
use Rattle.ulfm_model.specs.Records.{FitsHeld, Held, Record, free_ids}
use Rattle.ulfm_model.specs.Answers.{BarrierStartReplies, CallAdds, PollAdds, PollReplies, Replies, StartReplies, AtPoint, traits_of}
use Rattle.ulfm_model.proofs.OneEvent.{declared_by}
use Rattle.ulfm_model.proofs.Histories.{failures_begin, legal_parts, members_stay}
use Rattle.ulfm_model.proofs.Lists.{each_from, has_prefix}
use Rattle.ulfm_model.proofs.OnlyPoll.{MarksRound, ShrinkAdds, agree_events, ends_at, made_is, shrink_events}
use Rattle.ulfm_model.proofs.OnlyReply.{poll_reply_is}

poll_declares_none : {P : Type 0} (look : List ℕ) (x : Held) (request : Option Request) (e : Event P) → PollAdds look x request e → declared_by e ≡ None
poll_declares_none look x None e adds = absurd adds
poll_declares_none look x (Some (Agree k)) e adds = ap declared_by adds.2
poll_declares_none look x (Some (Shrink k)) e (inl marks) = ap declared_by marks.2
poll_declares_none look x (Some (Shrink k)) e (inr (j, is)) = ap declared_by is
poll_declares_none look x (Some (Barrier k)) e adds = absurd adds

-- no call of a rank declares a failure
pub declares_none : {P : Type 0} (look : List ℕ) (r : ℕ) (x : Held) (asked : Call P) (e : Event P) → CallAdds look r x asked e → declared_by e ≡ None
declares_none look r x (call.Fail rank) e adds = absurd adds
declares_none look r x (call.GetFailed rank c) e adds = absurd adds
declares_none look r x (call.FailureGetAcked rank c) e adds = absurd adds
declares_none look r x (call.Ack rank c count) e adds = absurd adds
declares_none look r x (call.FailureAck rank c) e adds = absurd adds
declares_none look r x (call.Agree rank c value) e adds = ap declared_by adds.1
declares_none look r x (call.Shrink rank c) e adds = ap declared_by adds.1
declares_none look r x (call.Barrier rank c) e adds = ap declared_by adds
declares_none look r x (call.Poll rank c) e adds = poll_declares_none look x x.request e adds
declares_none look r x (call.Revoke rank c) e adds = ap declared_by adds
declares_none look r x (call.IsRevoked rank c) e adds = absurd adds
declares_none look r x (call.Free rank c) e adds = absurd adds

none_of_these : {P : Type 0} (by : Caller) (events : List (Event P)) → AllByRecursion (λ e. declared_by e ≡ None) events → failures (entries_by by events) ≡ []
none_of_these by [] none = refl
none_of_these by (e ∷ events) none = ap (λ o. cons_option o (failures (entries_by by events))) none.0 ∙ none_of_these by events none.1

-- events that declare no failure leave the failures
pub same_failures : {P : Type 0} (h : History P) (by : Caller) (events : List (Event P)) → AllByRecursion (λ e. declared_by e ≡ None) events → failures (h ++ entries_by by events) ≡ failures h
same_failures h by events none =
    filter_map-append (λ e. declared_by e.event) h (entries_by by events) ∙ (ap (λ w. failures h ++ w) (none_of_these by events none) ∙ append-nil (failures h))

-- a call that may add nothing adds nothing
pub adds_nothing : {P : Type 0} (Adds : Event P → Type 0) (events : List (Event P)) → ((e : Event P) → Adds e → ⊥) → AllByRecursion Adds events → events ≡ []
adds_nothing Adds [] none adds = refl
adds_nothing Adds (e ∷ events) none adds = absurd (none e adds.0)

-- contributions with equal offers and counts are one
same_given : {P : Type 0} (x y : Contribution P) → x.offer ≡ y.offer → x.known ≡ y.known → x.acked ≡ y.acked → x ≡ y
same_given {P = P} x y offers known acked =
    let Q : Offer P → Known → Acked → Type 0 = λ o m n. (within : n.count ≤ m.count) → x ≡ record { offer = o; known = m; acked = n; within = within } in
    let make : (x.acked.count ≤ x.known.count) → Contribution P = λ w. record { offer = x.offer; known = x.known; acked = x.acked; within = w } in
    subst (λ o. Q o y.known y.acked) offers (subst (λ m. Q x.offer m y.acked) known (subst (λ n. Q x.offer x.known n) acked (λ w. ap make (le_prop x.within w)))) y.within

-- a contribution is the computed one
given_is : {P : Type 0} (given : Contribution P) (offer : Offer P) (known acked : ℕ) → given.offer ≡ offer → given.known.count ≡ known → given.acked.count ≡ acked → given ≡ given_at offer known acked
given_is given offer known acked same knows acks =
    let made = given_at offer known acked in
    same_given given made same
    (same_known given.known made.known (omega (arith, knows, given.known.in_range)))
    (same_acked given.acked made.acked (omega (arith, knows, acks, given.known.in_range, given.within)))

module _ {P : Type 0} (meld : P → P → P) (limits : Limits) (h : History P) (own : Record) (events : List (Event P)) (legal : IsLegal meld limits (h ++ entries_by (Rank own.number) events)) where
  abbrev n : ℕ
  n = own.number

  -- the history at the call's end, which is its point
  abbrev pub after : History P
  after = h ++ entries_by (Rank n) events

  -- what the reply rests on
  abbrev pub view : AtPoint P
  view = record { look = failures h; history = after; own = events; spread = false }

  -- what the call adds and replies is what is computed
  pub record IsComputed (x : Held) (asked : Call P) (reply : Reply P) : Type 0 where
    pub adds : events ≡ added meld limits h own x asked
    pub replies : reply ≡ replied meld limits h view own x asked

  unchanged : events ≡ [] → after ≡ h
  unchanged none = ap (λ es. h ++ entries_by (Rank n) es) none ∙ append-nil h

  -- the only event of a call was allowed where the call began
  was_allowed : (e : Event P) → events ≡ e ∷ [] → MayFollow meld limits h e
  was_allowed e one = (legal_parts meld limits h (entries_by (Rank n) (e ∷ [])) (subst (λ es. IsLegal meld limits (h ++ entries_by (Rank n) es)) one legal)).1.0

  start_is : (x : Held) (offer : Offer P) (reply : Reply P) → StartReplies view own x offer reply
      → (events ≡ settle_of h n x offer) × (reply ≡ start_reply (slot h x.comm x.next_agreement n))
  start_is x offer reply (inl (started, gave)) =
      let empty : slot h x.comm x.next_agreement n ≡ None = (was_allowed (Settle x.comm x.next_agreement n gave.given) gave.own).1 in
      let size = length (filter (has x.group) (failures h)) in
      let same = given_is gave.given offer size x.acked gave.offer_is gave.known gave.acked in (
        gave.own ∙ (ap (λ g. Settle x.comm x.next_agreement n g ∷ []) same ∙ ap (λ o. if is_some o then [] else Settle x.comm x.next_agreement n (given_at offer size x.acked) ∷ []) (sym empty)),
        started ∙ ap start_reply (sym empty),
      )
  start_is x offer reply (inr (twice, none, inr spread)) = absurd (cc spread)
  start_is x offer reply (inr (twice, none, inl (given, stands))) =
      let stood = ap (λ w. slot w x.comm x.next_agreement n) (sym (unchanged none)) ∙ stands in
      let size = length (filter (has x.group) (failures h)) in
      (none ∙ ap (λ o. if is_some o then [] else Settle x.comm x.next_agreement n (given_at offer size x.acked) ∷ []) (sym stood), twice ∙ ap start_reply (sym stood))

  barrier_is : (x : Held) (reply : Reply P) → BarrierStartReplies view own x reply
      → (events ≡ (if has_arrived h x.comm x.next_barrier n then [] else Arrive x.comm x.next_barrier n ∷ [])) × (reply ≡ (if has_arrived h x.comm x.next_barrier n then Refused Twice else Started))
  barrier_is x reply (stands, inl (started, one)) =
      let away : has_arrived h x.comm x.next_barrier n ≡ false = (was_allowed (Arrive x.comm x.next_barrier n) one).1 in
      (one ∙ ap (λ b. if b then [] else Arrive x.comm x.next_barrier n ∷ []) (sym away), started ∙ ap (λ b. if b then Refused Twice else Started) (sym away))
  barrier_is x reply (stands, inr (twice, none)) =
      let there : has_arrived h x.comm x.next_barrier n ≡ true = ap (λ w. has_arrived w x.comm x.next_barrier n) (sym (unchanged none)) ∙ stands in
      (none ∙ ap (λ b. if b then [] else Arrive x.comm x.next_barrier n ∷ []) (sym there), twice ∙ ap (λ b. if b then Refused Twice else Started) (sym there))

  revoke_is : (c : ℕ) (reply : Reply P) → IsTrue (is_revoked after c) × (((reply ≡ Revoked) × (events ≡ Revoke c ∷ [])) ⊎ ((reply ≡ AlreadyRevoked) × (events ≡ [])))
      → (events ≡ (if is_revoked h c then [] else Revoke c ∷ [])) × (reply ≡ (if is_revoked h c then AlreadyRevoked else Revoked))
  revoke_is c reply (stands, inl (revoked, one)) =
      let open_before : is_revoked h c ≡ false = (was_allowed (Revoke c) one).1 in
      (one ∙ ap (λ b. if b then [] else Revoke c ∷ []) (sym open_before), revoked ∙ ap (λ b. if b then AlreadyRevoked else Revoked) (sym open_before))
  revoke_is c reply (stands, inr (already, none)) =
      let there : is_revoked h c ≡ true = ap (λ w. is_revoked w c) (sym (unchanged none)) ∙ stands in
      (none ∙ ap (λ b. if b then [] else Revoke c ∷ []) (sym there), already ∙ ap (λ b. if b then AlreadyRevoked else Revoked) (sym there))

  module _ (x : Held) (ids : List ℕ) (fits : FitsHeld meld limits.ranks h n ids x) (alive : has (failures h) n ≡ false) where
    before : IsLegal meld limits h
    before = (legal_parts meld limits h (entries_by (Rank n) events) legal).0

    -- the group is that of each history that goes on by events of the call
    group_after : (first : List (Event P)) → x.group ≡ members limits.ranks (h ++ entries_by (Rank n) first) x.comm
    group_after first = fits.group ∙ sym (members_stay limits.ranks h (h ++ entries_by (Rank n) first) x.comm (entries_by (Rank n) first, refl) fits.exists).1

    shrink_adds : (k : ℕ) → AllByRecursion (PollAdds (failures h) x (Some (Shrink k))) events → AllByRecursion (ShrinkAdds x.comm k) events
    shrink_adds k adds = each_from (PollAdds (failures h) x (Some (Shrink k))) (ShrinkAdds x.comm k) one events adds
      where
        one : (e : Event P) → PollAdds (failures h) x (Some (Shrink k)) e → ShrinkAdds x.comm k e
        one e (inl marks) = inl (marks.0, marks.1, marks.2)
        one e (inr made) = inr made

    shrink_poll_is : (k : ℕ) (reply : Reply P) → AllByRecursion (PollAdds (failures h) x (Some (Shrink k))) events → settled_by events ≡ unsettled_of limits.ranks h x.comm (Some (Shrink k))
        → PollReplies meld limits view n x (Some (Shrink k)) reply → events ≡ added_by_poll meld limits h n x.comm (Some (Shrink k))
    shrink_poll_is k reply adds settled replies =
        let marks = marks_of limits.ranks h x.comm k in
        let parts = shrink_events meld limits x.comm k (Rank n) h before fits.exists events (shrink_adds k adds) legal settled in
        let w : History P = h ++ entries_by (Rank n) marks in
        let goes_on : after ≡ w ++ entries_by (Rank n) parts.0 = ap (λ es. h ++ entries_by (Rank n) es) parts.1 ∙ ends_at h (Rank n) marks parts.0 in
        let both = legal_parts meld limits w (entries_by (Rank n) parts.0) (subst (IsLegal meld limits) goes_on legal) in
        let unchanged_failures = same_failures h (Rank n) events (each_from (PollAdds (failures h) x (Some (Shrink k))) (λ e. declared_by e ≡ None) (poll_declares_none (failures h) x (Some (Shrink k))) events adds) in
        let alive_after : has (failures after) n ≡ false = ap (λ F. has F n) unchanged_failures ∙ alive in
        let alive_then : has (failures w) n ≡ false =
        false_from_ne_true (has (failures w) n) (λ declared. let still = has_prefix (failures w) (failures after) n (failures_begin w after (entries_by (Rank n) parts.0, sym goes_on)) declared in cc (still, alive_after)) in
        let there = subst (λ v. PollReplies meld limits (record { look = failures h; history = v; own = events; spread = false }) n x (Some (Shrink k)) reply) goes_on replies in
        parts.1 ∙ ap (λ es. marks ++ es) (made_is meld limits w both.0 x (group_after marks) n k alive_then parts.0 (failures h) events reply parts.2 both.1 there)

    poll_adds : (request : Option Request) (reply : Reply P) → AllByRecursion (PollAdds (failures h) x request) events → settled_by events ≡ unsettled_of limits.ranks h x.comm request → PollReplies meld limits view n x request reply
        → events ≡ added_by_poll meld limits h n x.comm request
    poll_adds None reply adds settled replies = absurd replies
    poll_adds (Some (Agree k)) reply adds settled replies =
        agree_events meld limits x.comm k (Rank n) h before fits.exists events
        (each_from (PollAdds (failures h) x (Some (Agree k))) (MarksRound x.comm k) (λ e marks. (marks.0, marks.1, marks.2)) events adds) legal settled
    poll_adds (Some (Shrink k)) reply adds settled replies = shrink_poll_is k reply adds settled replies
    poll_adds (Some (Barrier k)) reply adds settled replies = adds_nothing (PollAdds (failures h) x (Some (Barrier k))) events (λ e none. none) adds

    -- a call that its record doesn't refuse, of a rank that isn't declared
    pub call_is : (asked : Call P) (reply : Reply P) → AllByRecursion (CallAdds (failures h) n x asked) events → (IsTrue (traits_of asked).polls → settled_by events ≡ unsettled_of limits.ranks h x.comm x.request)
        → Replies meld limits view own x asked reply → IsComputed x asked reply
    call_is (call.Fail rank) reply adds settled replies = absurd replies
    call_is (call.GetFailed rank c) reply adds settled replies = record { adds = adds_nothing (CallAdds (failures h) n x (call.GetFailed rank c)) events (λ e none. none) adds; replies = replies.1 }
    call_is (call.FailureGetAcked rank c) reply adds settled replies = record { adds = adds_nothing (CallAdds (failures h) n x (call.FailureGetAcked rank c)) events (λ e none. none) adds; replies = replies.1 }
    call_is (call.Ack rank c count) reply adds settled replies = record { adds = adds_nothing (CallAdds (failures h) n x (call.Ack rank c count)) events (λ e none. none) adds; replies = replies.1 }
    call_is (call.FailureAck rank c) reply adds settled replies = record { adds = adds_nothing (CallAdds (failures h) n x (call.FailureAck rank c)) events (λ e none. none) adds; replies = replies.1 }
    call_is (call.Agree rank c value) reply adds settled replies = let both = start_is x (Flag value) reply replies in record { adds = both.0; replies = both.1 }
    call_is (call.Shrink rank c) reply adds settled replies = let both = start_is x (Ctx (free_ids own.held)) reply replies in record { adds = both.0; replies = both.1 }
    call_is (call.Barrier rank c) reply adds settled replies = let both = barrier_is x reply replies in record { adds = both.0; replies = both.1 }
    call_is (call.Poll rank c) reply adds settled replies =
        record { adds = poll_adds x.request reply adds (settled refl) replies; replies = poll_reply_is meld limits view legal n x (group_after events) x.request reply replies }
    call_is (call.Revoke rank c) reply adds settled replies = let both = revoke_is c reply replies in record { adds = both.0; replies = both.1 }
    call_is (call.IsRevoked rank c) reply adds settled replies = record { adds = adds_nothing (CallAdds (failures h) n x (call.IsRevoked rank c)) events (λ e none. none) adds; replies = replies }
    call_is (call.Free rank c) reply adds settled replies = record { adds = adds_nothing (CallAdds (failures h) n x (call.Free rank c)) events (λ e none. none) adds; replies = replies }

-- Each line of a legal trace is one that can be told, and lists at most as many ranks as a world may have.
use Rattle.std.proofs.Common.{◌≡◌, ◌≢◌, ◌⊎◌, ℕ, ◌<◌, ◌≤◌, Bool, true, false, List, [], ◌∷◌, ◌++◌, length, take, drop, map, filter, Option, Some, None, is_some, refl, ap, sym, ◌∙◌, subst, append-nil, arith, IsTrue, IsFalse, inl, inr, if◌then◌else◌, max, min}
use Rattle.std.specs.List.{AllByRecursion, cons_option, list_all, list_any}
use Rattle.std.proofs.Math.Nat.{max-le, min-le_right}
use Rattle.std.proofs.lemmas.List.{take-append-drop}
use Rattle.std.proofs.lemmas.List.Elements.{filter_map-append}
use Rattle.ulfm_laws.specs.{Flags.{flag_meld}, declared.flag_and.FlagAnd.{FlagAnd}}
use Rattle.ulfm_model.specs.declared.{call.Request.{Request}, event.Caller.{Caller}, event.Entry.{Entry}, event.Event.TheVariants.{Fail, Settle, Mark, Arrive, Revoke, Spawn}}
use Rattle.ulfm_model.specs.declared.{limits.Limits.{Limits}, refusal.Refusal.{Refusal}, reply.Reply.{Reply}}
use Rattle.ulfm_model.specs.declared.call.Call.TheVariants as call
use Rattle.ulfm_model.specs.declared.call.Request.TheVariants as request
use Rattle.ulfm_model.specs.declared.refusal.Refusal.TheVariants as refusal
use Rattle.ulfm_model.specs.declared.reply.Reply.TheVariants as reply
use Rattle.ulfm_model.specs.Answers.{AnswersFail, AgreeReplies, DoneOrFound, IsReply, IsSelfFailed, PollReplies, Replies, RepliesBy, ShrinkReplies, SpawnReplies, StartReplies, barrier_reply, closed, comm_of, first_refusal, most_failures, rank_of, refusal_of, refusal_on, traits_of}
use Rattle.ulfm_model.specs.History.{History, IsLegal, MayFollow, decision, failed, failures, has, has_arrived, is_revoked, known_of, members, says, round}
use Rattle.ulfm_model.specs.{Records.{Fits, FitsHeld, Held, Record, held_at, new_held}, Words.{MayOpen}}
use Rattle.ulfm_model.proofs.{Contexts.{context_below}, RankGroups.{members_few}, Histories.{by_events, legal_parts}, LeftFits.{held_fits}, Lists.{all_has, each_filter, each_from, each_push, length-filter-le}}
use Rattle.ulfm_words.specs.Places.{IsCell}
use Rattle.ulfm_words.proofs.Ranks.{failures_le, members_below, place_within, spawns_below}
use Rattle.ulfm_script.specs.Calls.{ScriptCall}
use Rattle.ulfm_model.specs.declared.line.Line.{Line}
use Rattle.ulfm_model.specs.{TraceLaws.{IsAnswer}, Traces.{AnswersCall, AnswersRank, MayCome, Under, call_by, found_by, listed, record_in, taken_in, view_at}}
use Rattle.ulfm_lines.specs.{LineTexts.{TraceEvent, TraceLine}, Stepped.{TraceState}, Telling.{AreRanks, CallerFits, EventFits, LineFits, PlaceFits, ReplyFits}}
use Rattle.ulfm_filters.specs.Calls.{CalledFits}
use Rattle.ulfm_filters.proofs.{Lasting.{IsAnswered, IsOfTraces, IsUnder, Keeps, left_fits, under}, Sizes.{events_few}}

-- the ranks that a line lists: nobody where it is no reply
abbrev pub told_group : List ℕ → TraceLine → List ℕ
told_group group (Line.Replied by point told) = group
told_group group line = []

-- a line with these ranks can be told
pub record IsTellable (group : List ℕ) (line : TraceLine) : Type 0 where
  pub fits : LineFits (told_group group line) line
  pub few : length (told_group group line) ≤ 1024

-- the last of a list
each_last : {X : Type 0} (Q : X → Type 0) (xs : List X) (x : X) → AllByRecursion Q (xs ++ x ∷ []) → Q x
each_last Q [] x all = all.0
each_last Q (y ∷ xs) x all = each_last Q xs x all.1

some_has : (xs : List ℕ) (r : ℕ) → IsTrue (has xs r) → 0 < length xs
some_has [] r is = absurd (cc is)
some_has (x ∷ xs) r is = omega arith

-- a call that is spelled is in the name of a caller that a line can name
spelled_caller : (asked : ScriptCall) → IsOfTraces asked → CallerFits (traits_of asked).by
spelled_caller (call.Fail rank) is = tt
spelled_caller (call.GetFailed rank comm) is = is.1.rank_fits
spelled_caller (call.FailureGetAcked rank comm) is = is.1.1.rank_fits
spelled_caller (call.Ack rank comm count) is = is.1.1.rank_fits
spelled_caller (call.FailureAck rank comm) is = is.1.1.rank_fits
spelled_caller (call.Agree rank comm flag) is = is.1.2.rank_fits
spelled_caller (call.Shrink rank comm) is = is.1.rank_fits
spelled_caller (call.Barrier rank comm) is = is.1.rank_fits
spelled_caller (call.Poll rank comm) is = is.1.rank_fits
spelled_caller (call.Revoke rank comm) is = is.1.rank_fits
spelled_caller (call.IsRevoked rank comm) is = is.1.rank_fits
spelled_caller (call.Free rank comm) is = is.1.rank_fits

-- no record refuses a call for want of memory
first_not_memory : (tests : List (Bool × Refusal)) (one : Refusal) → AllByRecursion (λ (test : Bool × Refusal). test.1 ≢ refusal.OutOfMemory) tests → first_refusal tests ≡ Some one → one ≢ refusal.OutOfMemory
first_not_memory [] one all is = absurd (cc is)
first_not_memory (test ∷ tests) one all is = go test.0 is (first_not_memory tests one all.1)
  where
    go : (b : Bool) → (if b then Some test.1 else first_refusal tests) ≡ Some one → (first_refusal tests ≡ Some one → one ≢ refusal.OutOfMemory) → one ≢ refusal.OutOfMemory
    go true here more = let same : test.1 ≡ one = cc here in λ memory. all.0 (same ∙ memory)
    go false here more = more here

tests_not_memory : (asked : ScriptCall) (own : Record) (x : Held) → AllByRecursion (λ (test : Bool × Refusal). test.1 ≢ refusal.OutOfMemory) ((traits_of asked).tests own x)
tests_not_memory (call.Fail rank) own x = tt
tests_not_memory (call.GetFailed rank comm) own x = tt
tests_not_memory (call.FailureGetAcked rank comm) own x = tt
tests_not_memory (call.Ack rank comm count) own x = tt
tests_not_memory (call.FailureAck rank comm) own x = tt
tests_not_memory (call.Agree rank comm flag) own x = ((λ e. cc e), ((λ e. cc e), tt))
tests_not_memory (call.Shrink rank comm) own x = ((λ e. cc e), ((λ e. cc e), ((λ e. cc e), tt)))
tests_not_memory (call.Barrier rank comm) own x = ((λ e. cc e), ((λ e. cc e), tt))
tests_not_memory (call.Poll rank comm) own x = ((λ e. cc e), tt)
tests_not_memory (call.Revoke rank comm) own x = tt
tests_not_memory (call.IsRevoked rank comm) own x = tt
tests_not_memory (call.Free rank comm) own x = ((λ e. cc e), ((λ e. cc e), tt))

refused_not_memory : (own : Record) (held : Option Held) (asked : ScriptCall) (one : Refusal) → refusal_on own held asked ≡ Some one → one ≢ refusal.OutOfMemory
refused_not_memory own None asked one is = λ memory. let same : refusal.NoSuchComm ≡ one = cc is in cc (same, memory)
refused_not_memory own (Some x) asked one is = first_not_memory ((traits_of asked).tests own x) one (tests_not_memory asked own x) is

module _ (limits : Limits) (wide : MayOpen limits) (h : History FlagAnd) (legal : IsLegal flag_meld limits h) where
  failures_few : length (failures h) ≤ 1024
  failures_few = let few = failures_le flag_meld limits h legal in let most = wide.in_range.ranks in omega (arith, few, most)

  -- failed ranks and members can be listed
  failures_listed : AreRanks (failures h)
  failures_listed =
      by_events flag_meld limits (λ w. AreRanks (failures w)) tt
      (λ w e lw q may. subst AreRanks (sym (filter_map-append (λ (x : Entry FlagAnd). (says x.event).declares) w (e ∷ []))) (more w e.event may q)) h legal
    where
      more : (w : History FlagAnd) (event : TraceEvent) → MayFollow flag_meld limits w event → AreRanks (failures w) → AreRanks (failures w ++ cons_option (says event).declares [])
      more w (Fail r) may q = let lt = may.0 in let most = wide.in_range.ranks in each_push (λ r. r < 1024) (failures w) r q (omega (arith, lt, most))
      more w (Settle c k r given) may q = rw (append-nil (failures w)) q
      more w (Mark c k r mark) may q = rw (append-nil (failures w)) q
      more w (Arrive c k r) may q = rw (append-nil (failures w)) q
      more w (Revoke c) may q = rw (append-nil (failures w)) q
      more w (Spawn j c k) may q = rw (append-nil (failures w)) q

  failed_listed : (c : ℕ) → AreRanks (failed limits.ranks h c)
  failed_listed c = each_filter (has (members limits.ranks h c)) (λ r. r < 1024) (failures h) failures_listed

  failed_few : (c : ℕ) → length (failed limits.ranks h c) ≤ 1024
  failed_few c = let fewer = length-filter-le (has (members limits.ranks h c)) (failures h) in let few = failures_few in omega (arith, fewer, few)

  members_listed : (c : ℕ) → AreRanks (members limits.ranks h c)
  members_listed c =
      let most = wide.in_range.ranks in
      each_from (λ r. has (members limits.ranks h c) r ≡ true) (λ r. r < 1024)
      (λ r there. let lt = members_below limits.ranks h c r there in omega (arith, lt, most)) (members limits.ranks h c) (all_has (members limits.ranks h c))

  members_fit : (c : ℕ) → length (members limits.ranks h c) ≤ 1024
  members_fit c = let few = members_few limits.ranks h c in let most = wide.in_range.ranks in omega (arith, few, most)

  -- so many are left out of a round at most
  decided_few : (c k : ℕ) → length (decision flag_meld limits.ranks h c k).failed ≤ 1024
  decided_few c k =
      let fewer = length-filter-le (λ r. list_any (λ s. has (take (known_of s) (failed limits.ranks h c)) r) (round limits.ranks h c k)) (failed limits.ranks h c) in let few = failed_few c in omega (arith, fewer, few)

  cell : (c k r : ℕ) → IsCell limits c k r → PlaceFits c k r
  cell c k r is =
      let comm = is.comm in let round = is.round in let rank = is.rank in
      let comms = wide.in_range.comms in let rounds = wide.in_range.rounds in let ranks = wide.in_range.ranks in
      (omega (arith, comm, comms), (omega (arith, round, rounds), omega (arith, rank, ranks)))

  -- an event that may come can be told
  event_fits : (event : TraceEvent) → MayFollow flag_meld limits h event → EventFits event
  event_fits (Fail r) may = let lt = may.0 in let most = wide.in_range.ranks in omega (arith, lt, most)
  event_fits (Settle c k r given) may = cell c k r (place_within flag_meld limits h c k r legal wide may.0)
  event_fits (Mark c k r mark) may = cell c k r (place_within flag_meld limits h c k r legal wide may.0)
  event_fits (Arrive c k r) may = cell c k r (place_within flag_meld limits h c k r legal wide may.0)
  event_fits (Revoke c) may =
      let few = spawns_below flag_meld limits h legal wide.in_range.some_comms in let here = may.0 in let most = wide.in_range.comms in omega (arith, few, here, most)
  event_fits (Spawn j c k) may =
      let room = may.room in
      let few = spawns_below flag_meld limits h legal wide.in_range.some_comms in
      let here = may.exists in
      let inside = may.in_rounds in
      let comms = wide.in_range.comms in
      let rounds = wide.in_range.rounds in
      (omega (arith, room, comms), (omega (arith, few, here, comms), omega (arith, inside, rounds)))

module _ (now : TraceState) (wide : MayOpen now.limits) (kept : Keeps now) where
  -- a caller with a call under way is one that a line can name
  caller_fits : (by : Caller) (u : Under FlagAnd) → call_by now by ≡ Some u → CallerFits by
  caller_fits by u at = let is = under now by u kept at in subst CallerFits is.mine (spelled_caller u.asked is.begun.spelled)

  -- a reply at a point to a call that a line of a trace spells
  module _ (u : Under FlagAnd) (spelled : IsOfTraces u.asked) (point : ℕ) where
    abbrev past : History FlagAnd
    past = take point now.history

    past_legal : IsLegal flag_meld now.limits past
    past_legal = (legal_parts flag_meld now.limits past (drop point now.history) (subst (IsLegal flag_meld now.limits) (sym (take-append-drop point now.history)) kept.legal)).0

    -- a reply can be told with the group that it is about
    abbrev CanTell : Reply FlagAnd → Type 0
    CanTell told = let group = listed now.limits.ranks past (comm_of u.asked) told in ReplyFits told group × (length group ≤ 1024)

    refuses : (told : Reply FlagAnd) (one : Refusal) → told ≡ reply.Refused one → one ≢ refusal.OutOfMemory → CanTell told
    refuses told one is not_memory = subst CanTell (sym is) ((not_memory, refl), omega arith)

    lists_failed : (c : ℕ) → c ≡ comm_of u.asked → CanTell (reply.FailedGroup (length (failed now.limits.ranks past c)))
    lists_failed c same =
        ((ap (λ n. length (failed now.limits.ranks past n)) same, failed_listed now.limits wide past past_legal (comm_of u.asked)), failed_few now.limits wide past past_legal (comm_of u.asked))

    acks : (count : ℕ) → count ≤ 1024 → CanTell (reply.Acked count)
    acks count few = ((omega (arith, few), refl), omega arith)

    -- an acknowledgement of so many
    acks_most : (c count : ℕ) (x : Held) (told : Reply FlagAnd) → x.acked ≤ 1024 → told ≡ reply.Acked (max x.acked (min count (length (failed now.limits.ranks past c)))) → CanTell told
    acks_most c count x told few is =
        let all = failed_few now.limits wide past past_legal c in
        let less = min-le_right count (length (failed now.limits.ranks past c)) in
        subst CanTell (sym is) (acks (max x.acked (min count (length (failed now.limits.ranks past c)))) (max-le few (omega (arith, all, less))))

    -- traces don't have the query of the acknowledged
    no_query : (rank c : ℕ) → call.FailureGetAcked rank c ≡ u.asked → ⊥
    no_query rank c same = let of = subst IsOfTraces (sym same) spelled in cc (of.1.0)

    starts : (own : Record) (x : Held) (offer : _) (told : Reply FlagAnd) → StartReplies (view_at now u point) own x offer told → CanTell told
    starts own x offer told (inl is) = subst CanTell (sym is.0) (refl, omega arith)
    starts own x offer told (inr is) = refuses told refusal.Twice is.0 (λ e. cc e)

    agreed : (c k : ℕ) (told : Reply FlagAnd) → AgreeReplies (decision flag_meld now.limits.ranks past c k) told → CanTell told
    agreed c k told (inl is) =
        let few = decided_few now.limits wide past past_legal c k in
        subst CanTell (sym is.2) ((omega (arith, few), refl), omega arith)
    agreed c k told (inr is) = refuses told refusal.Mismatch is.1 (λ e. cc e)

    -- a record after this reply
    abbrev left_of : Record → Reply FlagAnd → Record
    left_of own told = taken_in now u point told own

    -- a communicator that was made
    shrunk : (own : Record) (told : Reply FlagAnd) (j context : ℕ) → Fits flag_meld now.limits now.history (left_of own told) → told ≡ reply.Shrunk j context (length (members now.limits.ranks past j)) → CanTell told
    shrunk own told j context left is =
        let group = members now.limits.ranks past j in
        let made : Reply FlagAnd = reply.Shrunk j context (length group) in
        let fits : Fits flag_meld now.limits now.history (left_of own made) = subst (λ w. Fits flag_meld now.limits now.history (left_of own w)) is left in
        let rest = (closed (record own { seen = if is_some u.look then found_by now u else own.seen }) (comm_of u.asked)).held in
        let last = each_last (FitsHeld flag_meld now.limits.ranks now.history (left_of own made).number (map (λ x. x.context) (left_of own made).held)) rest (new_held j context group) fits.held in
        let here = last.exists in
        let few = spawns_below flag_meld now.limits now.history kept.legal wide.in_range.some_comms in
        let comms = wide.in_range.comms in
        let low = context_below flag_meld now.limits.ranks now.history j context last.context in
        let some = some_has group (left_of own made).number last.member in
        subst CanTell (sym is)
        ((omega (arith, here, few, comms), omega (arith, low), some, refl, members_listed now.limits wide past past_legal j), members_fit now.limits wide past past_legal j)

    spawned : (own : Record) (c k mask : ℕ) (told : Reply FlagAnd) → Fits flag_meld now.limits now.history (left_of own told) → SpawnReplies now.limits past c k mask told → CanTell told
    spawned own c k mask told left (inl is) = shrunk own told is.0 is.1 left is.5
    spawned own c k mask told left (inr is) = refuses told refusal.NoRoom is.2 (λ e. cc e)

    shrinks : (own : Record) (r c k : ℕ) (told : Reply FlagAnd) → Fits flag_meld now.limits now.history (left_of own told) → ShrinkReplies now.limits past r c k (decision flag_meld now.limits.ranks past c k) told → CanTell told
    shrinks own r c k told left (inl is) = go is.2
      where
        go : ((is.0.bits ≡ 0) × (told ≡ reply.Refused refusal.NoContext)) ⊎ ((0 < is.0.bits) × IsFalse (has (decision flag_meld now.limits.ranks past c k).failed r) × SpawnReplies now.limits past c k is.0.bits told) → CanTell told
        go (inl none) = refuses told refusal.NoContext none.1 (λ e. cc e)
        go (inr some) = spawned own c k is.0.bits told left some.2
    shrinks own r c k told left (inr is) = refuses told refusal.Mismatch is.1 (λ e. cc e)

    barrier : (x : Held) (k : ℕ) → CanTell (barrier_reply (view_at now u point) x k)
    barrier x k = go (is_revoked past x.comm) (list_all (has_arrived past x.comm k) x.group) (list_all (has_arrived past x.comm k) (filter (has x.group) (found_by now u)))
      where
        go : (b c d : Bool) → CanTell (if b then reply.Refused refusal.IsRevoked else (if c then reply.Done else (if d then reply.Pending else reply.Refused refusal.ProcFailed)))
        go true c d = (((λ e. cc e), refl), omega arith)
        go false true d = (refl, omega arith)
        go false false true = (refl, omega arith)
        go false false false = (((λ e. cc e), refl), omega arith)

    polls : (own : Record) (x : Held) (asked : Option Request) (told : Reply FlagAnd) → Fits flag_meld now.limits now.history (left_of own told)
        → PollReplies flag_meld now.limits (view_at now u point) own.number x asked told → CanTell told
    polls own x None told left is = absurd is
    polls own x (Some (request.Agree k)) told left (inl is) = subst CanTell (sym is.1) (refl, omega arith)
    polls own x (Some (request.Agree k)) told left (inr is) = agreed x.comm k told is.1
    polls own x (Some (request.Shrink k)) told left (inl is) = subst CanTell (sym is.1) (refl, omega arith)
    polls own x (Some (request.Shrink k)) told left (inr is) = shrinks own own.number x.comm k told left is.1
    polls own x (Some (request.Barrier k)) told left is = subst CanTell (sym is) (barrier x k)

    done_or_found : (event : TraceEvent) (made found told : Reply FlagAnd) → CanTell made → CanTell found → DoneOrFound (view_at now u point) event made found told → CanTell told
    done_or_found event made found told one other (inl is) = subst CanTell (sym is.0) one
    done_or_found event made found told one other (inr is) = subst CanTell (sym is.0) other

    plain : (told : Reply FlagAnd) → CanTell told → (other : Reply FlagAnd) → other ≡ told → CanTell other
    plain told one other is = subst CanTell (sym is) one

    -- a reply to a call that the record doesn't refuse
    replies : (own : Record) (x : Held) (asked : ScriptCall) (told : Reply FlagAnd) → asked ≡ u.asked → x.acked ≤ 1024 → Fits flag_meld now.limits now.history (left_of own told)
        → Replies flag_meld now.limits (view_at now u point) own x asked told → CanTell told
    replies own x (call.Fail rank) told same few left is = absurd is
    replies own x (call.GetFailed rank c) told same few left is = subst CanTell (sym is.1) (lists_failed c (ap comm_of same))
    replies own x (call.FailureGetAcked rank c) told same few left is = absurd (no_query rank c same)
    replies own x (call.Ack rank c count) told same few left is = acks_most c count x told few is.1
    replies own x (call.FailureAck rank c) told same few left is = acks_most c most_failures x told few is.1
    replies own x (call.Agree rank c value) told same few left is = starts own x _ told is
    replies own x (call.Shrink rank c) told same few left is = starts own x _ told is
    replies own x (call.Barrier rank c) told same few left is =
        done_or_found (Arrive x.comm x.next_barrier own.number) reply.Started (reply.Refused refusal.Twice) told (refl, omega arith) (((λ e. cc e), refl), omega arith) is.1
    replies own x (call.Poll rank c) told same few left is = polls own x x.request told left is
    replies own x (call.Revoke rank c) told same few left is = done_or_found (Revoke c) reply.Revoked reply.AlreadyRevoked told (refl, omega arith) (refl, omega arith) is.1
    replies own x (call.IsRevoked rank c) told same few left is = subst CanTell (sym is) (refl, omega arith)
    replies own x (call.Free rank c) told same few left is = subst CanTell (sym is) (refl, omega arith)

    -- a rank's reply
    by_refusal : (own : Record) (told : Reply FlagAnd) (held : Option Held) (one : Option Refusal) → ((x : Held) → held ≡ Some x → x.acked ≤ 1024) → refusal_on own held u.asked ≡ one
        → Fits flag_meld now.limits now.history (left_of own told) → RepliesBy (λ x. Replies flag_meld now.limits (view_at now u point) own x u.asked told) told held one → CanTell told
    by_refusal own told held (Some one) few is left by = refuses told one by (refused_not_memory own held u.asked one is)
    by_refusal own told (Some x) None few is left by = replies own x u.asked told refl (few x refl) left by
    by_refusal own told None None few is left by = absurd by

    answered : (own : Record) (told : Reply FlagAnd) → Fits flag_meld now.limits now.history own → Fits flag_meld now.limits now.history (left_of own told)
        → IsSelfFailed (view_at now u point) own u.asked told ⊎ IsReply flag_meld now.limits (view_at now u point) own u.asked told → CanTell told
    answered own told fits left (inl is) = refuses told refusal.SelfFailed is.reply_is (λ e. cc e)
    answered own told fits left (inr is) = by_refusal own told (held_at own (comm_of u.asked)) (refusal_of own u.asked) few refl left is.replies
      where
        few : (x : Held) → held_at own (comm_of u.asked) ≡ Some x → x.acked ≤ 1024
        few x at =
            let acked = (held_fits flag_meld now.limits now.history own (comm_of u.asked) x fits at).0.acked in
            let all = failed_few now.limits wide now.history kept.legal x.comm in omega (arith, acked, all)

    rank_answers : (r : ℕ) (told : Reply FlagAnd) (o : Option Record) → record_in now r ≡ o → IsUnder now (Caller.Rank r) u → IsAnswer flag_meld now (Caller.Rank r) u point told
        → AnswersRank flag_meld now u point told o → CanTell told
    rank_answers r told None at is answer answers = refuses told refusal.NoSuchRank answers (λ e. cc e)
    rank_answers r told (Some own) at is answer (inl again) = refuses told refusal.SelfFailed again.1 (λ e. cc e)
    rank_answers r told (Some own) at is answer (inr some) = answered own told (kept.fits r own at) (left_fits now r u point told kept is own at answer) some.2

    outside_answers : (told : Reply FlagAnd) → AnswersFail now.limits (view_at now u point) (rank_of u.asked) told → CanTell told
    outside_answers told (inl is) = subst CanTell (sym is.0) (refl, omega arith)
    outside_answers told (inr (inl is)) = subst CanTell (sym is.0) (refl, omega arith)
    outside_answers told (inr (inr is)) = refuses told refusal.NoSuchRank is.0 (λ e. cc e)

    call_answers : (by : Caller) (told : Reply FlagAnd) → IsUnder now by u → IsAnswer flag_meld now by u point told → AnswersCall flag_meld now by u point told → CanTell told
    call_answers Caller.Outside told is answer answers = outside_answers told answers
    call_answers (Caller.Rank r) told is answer answers = rank_answers r told (record_in now r) refl is answer answers

  -- a line that may come can be told
  pub line_tells : (group : List ℕ) (line : TraceLine) → MayCome flag_meld now group line → CalledFits line → IsAnswered now line → IsTellable group line
  line_tells group (Line.Called asked padded) may fits answered = record { fits = (fits, refl); few = omega arith }
  line_tells group (Line.Looked r count) may fits answered =
      let few = failures_few now.limits wide now.history kept.legal in
      let is = may.1 in
      record { fits = (caller_fits (Caller.Rank r) may.0.call may.0.is_open, omega (arith, few, is), refl); few = omega arith }
  line_tells group (Line.Happened by None) may fits answered = absurd may
  line_tells group (Line.Happened Caller.Outside (Some event)) may fits answered =
      record { fits = (tt, event_fits now.limits wide now.history kept.legal event may.0, refl); few = omega arith }
  line_tells group (Line.Happened (Caller.Rank r) (Some event)) may fits answered =
      record { fits = (caller_fits (Caller.Rank r) may.1.call may.1.is_open, event_fits now.limits wide now.history kept.legal event may.0, refl); few = omega arith }
  line_tells group (Line.Replied by point None) may fits answered = absurd may
  line_tells group (Line.Replied by point (Some told)) may fits answered =
      let u = may.call in
      let same : answered.0 ≡ u = cc (answered.1, may.is_open) in
      let answer : IsAnswer flag_meld now by u point told = subst (λ (v : Under FlagAnd). IsAnswer flag_meld now by v point told) same answered.2 in
      let under_way = under now by u kept may.is_open in
      let can = call_answers u under_way.begun.spelled point by told under_way answer may.answers in
      let about = may.lists in
      let size = events_few flag_meld now.limits wide now.history kept.legal in
      let small = wide.small in
      let by_now = may.by_now in
      let fits : ReplyFits told group = subst (ReplyFits told) (sym about) can.0 in
      let few : length group ≤ 1024 = subst (λ g. length g ≤ 1024) (sym about) can.1 in
      record { fits = (caller_fits by u may.is_open, omega (arith, size, small, by_now), fits); few = few }

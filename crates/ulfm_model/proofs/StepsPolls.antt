-- Polls: what is computed for them is an answer.
use Rattle.std.proofs.Common.{◌≡◌, ℕ, ◌<◌, ◌≤◌, Bool, true, false, not, List, [], ◌∷◌, ◌++◌, map, Option, Some, None, is_some, refl, ap, sym, ◌∙◌, subst, append-nil, append_assoc, filter, filter_map, inl, inr, IsTrue, if◌then◌else◌}
use Rattle.std.specs.List.{AllByRecursion}
use Rattle.std.proofs.lemmas.List.{map-append}
use Rattle.std.proofs.lemmas.List.Elements.{filter_map-append}
use Rattle.ulfm_laws.specs.declared.summary.Body.{Body}
use Rattle.ulfm_laws.specs.declared.summary.Body.TheVariants.{Unit as NoBody, Flag as OfFlags, Ctx as OfIds, Clash}
use Rattle.ulfm_model.specs.declared.call.Call.TheVariants as call
use Rattle.ulfm_model.specs.declared.call.Request.{Request}
use Rattle.ulfm_model.specs.declared.call.Request.TheVariants.{Agree, Shrink, Barrier}
use Rattle.ulfm_model.specs.declared.reply.Reply.TheVariants.{Pending}
use Rattle.ulfm_model.specs.declared.refusal.Refusal.TheVariants.{Idle}
use Rattle.ulfm_model.specs.declared.contribution.Contribution.{Contribution}
use Rattle.ulfm_model.specs.declared.contribution.Slot.{Slot}
use Rattle.ulfm_model.specs.declared.contribution.Slot.TheVariants.{Given}
use Rattle.ulfm_model.specs.declared.limits.Limits.{Limits}
use Rattle.ulfm_model.specs.declared.event.Caller.TheVariants.{Rank}
use Rattle.ulfm_model.specs.declared.event.Entry.{Entry}
use Rattle.ulfm_model.specs.declared.event.Event.{Event}
use Rattle.ulfm_model.specs.declared.event.Event.TheVariants.{Settle, Spawn}
use Rattle.ulfm_model.specs.History.{History, entries_by, failures, has, says, slot}
use Rattle.ulfm_model.specs.{Answers.{AgreeReplies, MarksDeclared, PollAdds, PollReplies, first_refusal, refusal_of, refusal_on}, History.{Decision, Exists, IsLegal, IsLegalAfter, body_of, decision, is_decided, members}, Records.{FitsHeld, FitsRequest, Held, Record, held_at}, Runs.{unsettled_of}}
use Rattle.ulfm_model.specs.Computed.{added_by_poll, agree_reply, held_outcome, marks_of, poll_reply, shrink_reply, spawn_of}
use Rattle.ulfm_model.specs.Terms.{IsOwn, request_of, settled_by}
use Rattle.ulfm_model.proofs.Lists.{each_append, each_from, has_filter, has_passes}
use Rattle.ulfm_model.proofs.OneEvent.{declared_by}
use Rattle.ulfm_model.proofs.Histories.{legal_append, legal_parts, members_stay, slot_stays}
use Rattle.ulfm_model.proofs.Decisions.{slot_stands}
use Rattle.ulfm_model.proofs.Marking.{each_mark, marks_failures, marks_legal, marks_members, marks_settle, marks_settled_by, some_stays}
use Rattle.ulfm_model.proofs.StepsAlone.{IsGood, call_good, view_with}
use Rattle.ulfm_model.proofs.StepsRounds.{IsFlagged, IsMarked, IsMasked, IsSort, given_stands, offered, pends}
use Rattle.ulfm_model.proofs.StepsShrinks.{IsFull, IsSpawned, shrink_replied, spawned}

-- a decided agree replies what a flag or a clash decides
agree_replied : {P : Type 0} (made : Decision P) → IsFlagged made.body → AgreeReplies made (agree_reply made made.body)
agree_replied {P = P} made flagged = by_body made.body refl flagged
  where
    by_body : (body : Body P) → made.body ≡ body → IsFlagged body → AgreeReplies made (agree_reply made body)
    by_body NoBody is flagged = absurd flagged
    by_body (OfFlags value) is flagged = inl (value, is, refl)
    by_body (OfIds mask) is flagged = absurd (cc flagged)
    by_body Clash is flagged = inr (is, refl)

module _ {P : Type 0} (meld : P → P → P) (limits : Limits) (h : History P) (legal : IsLegal meld limits h) (own : Record) (alive : has (failures h) own.number ≡ false) (small : limits.ranks ≤ 1024) (some : 0 < limits.comms) (ids : List ℕ) (x : Held) (fits : FitsHeld meld limits.ranks h own.number ids x) where
  abbrev c : ℕ
  c = x.comm

  -- the round of the rank's own contribution is one of the communicator's
  round_below : (k : ℕ) (given : Contribution P) → IsOwn h own.number (Settle c k own.number given) → k < limits.rounds
  round_below k given did = (slot_stands meld limits h legal c k own.number (Given given) (given_stands meld limits h legal c k own.number given did)).place.in_rounds

  -- the history after the marks of round k
  abbrev marked : ℕ → History P
  marked k = h ++ entries_by (Rank own.number) (marks_of limits.ranks h c k)

  marked_legal : (k : ℕ) → k < limits.rounds → IsLegal meld limits (marked k)
  marked_legal k round = legal_append meld limits h (entries_by (Rank own.number) (marks_of limits.ranks h c k)) legal (marks_legal meld limits h (Rank own.number) c k legal fits.exists round small)

  -- with them each declared member is settled
  marked_marks : (k : ℕ) → IsMarked limits.ranks h (marked k) x k
  marked_marks k = record {
    group = marks_members meld limits h (Rank own.number) c k legal fits.exists ∙ sym fits.group;
    settles = subst (λ ms. AllByRecursion (λ r. IsTrue (is_some (slot (marked k) c k r))) (filter (has ms) (failures h))) (sym fits.group) (marks_settle meld limits h (Rank own.number) c k legal fits.exists);
  }

  -- each is of a member that the look found declared
  marks_declared : (k : ℕ) → AllByRecursion (MarksDeclared (failures h) x k) (marks_of limits.ranks h c k)
  marks_declared k =
      each_mark meld limits h (Rank own.number) c k legal fits.exists (MarksDeclared (failures h) x k)
      (λ r mark in_it. (r, mark, refl, has_filter (has (members limits.ranks h c)) (failures h) r in_it, ap (λ ms. has ms r) fits.group ∙ has_passes (has (members limits.ranks h c)) (failures h) r in_it))

  -- the decision of a history that goes on from h is of the sort that the rank has offered
  of_sort : (masks : Bool) (more : History P) (k : ℕ) (given : Contribution P) → IsOwn h own.number (Settle c k own.number given)
      → IsSort masks (body_of given.offer) → IsMarked limits.ranks h (h ++ more) x k → IsSort masks (decision meld limits.ranks (h ++ more) c k).body
  of_sort masks more k given did is marked =
      let stood = given_stands meld limits h legal c k own.number given did in
      offered meld masks (h ++ more) c k own.number given (slot_stays h (h ++ more) c k own.number (Given given) (more, refl) stood) is (members limits.ranks (h ++ more) c)
      (ap (λ ms. has ms own.number) marked.group ∙ fits.member)

  marked_exists : (k : ℕ) → Exists (marked k) c
  marked_exists k = (members_stay limits.ranks h (marked k) c (entries_by (Rank own.number) (marks_of limits.ranks h c k), refl) fits.exists).0

  marked_alive : (k : ℕ) → has (failures (marked k)) own.number ≡ false
  marked_alive k = ap (λ fs. has fs own.number) (marks_failures meld limits h (Rank own.number) c k legal fits.exists) ∙ alive

  -- the history after the marks of round k and these events of a shrink
  abbrev last : ℕ → List (Event P) → History P
  last k spawn = h ++ entries_by (Rank own.number) (marks_of limits.ranks h c k ++ spawn)

  -- it goes on from the marks
  joined : (k : ℕ) (spawn : List (Event P)) → marked k ++ entries_by (Rank own.number) spawn ≡ last k spawn
  joined k spawn =
      let by_rank : Event P → Entry P = λ e. record { by = Rank own.number; event = e } in
      append_assoc h (entries_by (Rank own.number) (marks_of limits.ranks h c k)) (entries_by (Rank own.number) spawn) ∙ ap (λ w. h ++ w) (sym (map-append by_rank (marks_of limits.ranks h c k) spawn))

  last_marks : (k : ℕ) (spawn : List (Event P)) → IsMarked limits.ranks h (last k spawn) x k
  last_marks k spawn = record {
    group = (members_stay limits.ranks h (last k spawn) c (entries_by (Rank own.number) (marks_of limits.ranks h c k ++ spawn), refl) fits.exists).1 ∙ sym fits.group;
    settles =
        subst (λ w. AllByRecursion (λ r. IsTrue (is_some (slot w c k r))) (filter (has x.group) (failures h))) (joined k spawn)
        (each_from (λ r. IsTrue (is_some (slot (marked k) c k r))) (λ r. IsTrue (is_some (slot (marked k ++ entries_by (Rank own.number) spawn) c k r)))
        (λ r settled. some_stays (marked k) (entries_by (Rank own.number) spawn) c k r (slot (marked k) c k r) refl settled) (filter (has x.group) (failures h)) (marked_marks k).settles);
  }

  -- where these events are what a shrink adds after its marks, its end is legal, doesn't declare the caller, and leaves no room for another
  module _ (k : ℕ) (spawn : List (Event P)) (made : IsSpawned meld limits (marked k) (Rank own.number) c k spawn) where
    last_legal : k < limits.rounds → IsLegal meld limits (last k spawn)
    last_legal round = subst (IsLegal meld limits) (joined k spawn) (legal_append meld limits (marked k) (entries_by (Rank own.number) spawn) (marked_legal k round) made.legal_after)

    last_alive : has (failures (last k spawn)) own.number ≡ false
    last_alive =
        ap (λ w. has (failures w) own.number) (sym (joined k spawn))
        ∙ (ap (λ fs. has fs own.number) (filter_map-append (λ e. declared_by e.event) (marked k) (entries_by (Rank own.number) spawn) ∙ (ap (λ fs. failures (marked k) ++ fs) made.declares_none ∙ append-nil (failures (marked k))))
        ∙ marked_alive k)

    last_full : IsFull meld limits (last k spawn) c k
    last_full = subst (λ w. IsFull meld limits w c k) (joined k spawn) made.full

    last_settled : settled_by (marks_of limits.ranks h c k ++ spawn) ≡ settled_by (marks_of limits.ranks h c k)
    last_settled =
        let rank_of : (ℕ × ℕ × ℕ) × Slot P → ℕ = λ put. put.0.2 in
        let marks = marks_of limits.ranks h c k in
        ap (map rank_of) (filter_map-append (λ e. (says e).settles) marks spawn)
        ∙ (map-append rank_of (filter_map (λ e. (says e).settles) marks) (filter_map (λ e. (says e).settles) spawn)
        ∙ (ap (λ rs. settled_by marks ++ rs) made.settles_none ∙ append-nil (settled_by marks)))

  -- what a poll adds is legal and of the request's sort, its reply is an answer, and it marks whom it has to
  record IsPoll (q : Option Request) : Type 0 where
    pub legal_after : IsLegalAfter meld limits h (entries_by (Rank own.number) (added_by_poll meld limits h own.number c q))
    pub adds : AllByRecursion (PollAdds (failures h) x q) (added_by_poll meld limits h own.number c q)
    pub replies : (let view = view_with meld limits h own (added_by_poll meld limits h own.number c q) in PollReplies meld limits view own.number x q (poll_reply meld limits view own.number x q))
    pub marks : settled_by (added_by_poll meld limits h own.number c q) ≡ unsettled_of limits.ranks h c q

  -- the poll of an open request that fits is such
  poll_is : (q : Option Request) → is_some q ≡ true → FitsRequest h own.number ids c q → IsPoll q
  poll_is None is request = absurd (cc is)
  poll_is (Some (Barrier k)) is request = record { legal_after = tt; adds = tt; replies = refl; marks = refl }
  poll_is (Some (Agree k)) is request =
      let events = marks_of limits.ranks h c k in
      let round = round_below k request.0 request.2 in
      let sort = of_sort false (entries_by (Rank own.number) events) k request.0 request.2 (subst (λ offer. IsFlagged (body_of offer)) (sym request.3) refl) (marked_marks k) in
      record {
        legal_after = marks_legal meld limits h (Rank own.number) c k legal fits.exists round small;
        adds = marks_declared k;
        replies = by_decision (is_decided limits.ranks (marked k) c k) refl sort;
        marks = marks_settled_by meld limits h (Rank own.number) c k legal fits.exists;
      }
    where
      by_decision : (b : Bool) → is_decided limits.ranks (marked k) c k ≡ b → IsFlagged (decision meld limits.ranks (marked k) c k).body
          → (let view = view_with meld limits h own (marks_of limits.ranks h c k) in
          let made = decision meld limits.ranks (marked k) c k in
          PollReplies meld limits view own.number x (Some (Agree k)) (if b then agree_reply made made.body else Pending))
      by_decision true decided sort = inr (decided, agree_replied (decision meld limits.ranks (marked k) c k) sort)
      by_decision false undecided sort = inl (pends limits.ranks h (marked k) (marks_of limits.ranks h c k) x k (marked_marks k) undecided, refl)
  poll_is (Some (Shrink k)) is request =
      let round = round_below k request.0 request.2 in
      let spawn = spawn_of meld limits (marked k) own.number c k in
      let made = spawned meld limits (marked k) (Rank own.number) own.number c k (marked_legal k round) (marked_exists k) some round (marked_alive k) in
      let ended = last_marks k spawn in
      let sort =
      of_sort true (entries_by (Rank own.number) (marks_of limits.ranks h c k ++ spawn)) k request.0 request.2 (subst (λ offer. IsMasked (body_of offer)) (sym request.3) refl) ended in
      record {
        legal_after = (legal_parts meld limits h (entries_by (Rank own.number) (marks_of limits.ranks h c k ++ spawn)) (last_legal k spawn made round)).1;
        adds =
            each_append (PollAdds (failures h) x (Some (Shrink k))) (marks_of limits.ranks h c k) spawn
            (each_from (MarksDeclared (failures h) x k) (PollAdds (failures h) x (Some (Shrink k))) (λ event marks. inl marks) (marks_of limits.ranks h c k) (marks_declared k))
            (each_from (λ event. (j : ℕ) × (event ≡ Spawn j c k)) (PollAdds (failures h) x (Some (Shrink k))) (λ event makes. inr makes) spawn made.adds);
        replies = by_decision spawn made ended sort (is_decided limits.ranks (last k spawn) c k) refl;
        marks = last_settled k spawn made ∙ marks_settled_by meld limits h (Rank own.number) c k legal fits.exists;
      }
    where
      by_decision : (spawn : List (Event P)) → IsSpawned meld limits (marked k) (Rank own.number) c k spawn → IsMarked limits.ranks h (last k spawn) x k → IsMasked (decision meld limits.ranks (last k spawn) c k).body
          → (b : Bool) → is_decided limits.ranks (last k spawn) c k ≡ b
          → (let view = view_with meld limits h own (marks_of limits.ranks h c k ++ spawn) in
          let made = decision meld limits.ranks (last k spawn) c k in
          PollReplies meld limits view own.number x (Some (Shrink k)) (if b then shrink_reply limits.ranks (last k spawn) own.number c k made made.body else Pending))
      by_decision spawn made ended sort true decided = inr (decided, shrink_replied meld limits (last k spawn) own.number c k (last_alive k spawn made) decided (last_full k spawn made) sort)
      by_decision spawn made ended sort false undecided = inl (pends limits.ranks h (last k spawn) (marks_of limits.ranks h c k ++ spawn) x k ended undecided, refl)

  -- a poll
  pub poll_good : (rank c : ℕ) → held_at own c ≡ Some x → refusal_of {P = P} own (call.Poll rank c) ≡ None → x.comm ≡ c → IsGood meld limits h own (call.Poll rank c) (held_outcome meld limits h own x (call.Poll rank c))
  poll_good rank c at passed same =
      let polled = poll_is x.request (not_idle x.request (sym (ap (λ held. refusal_on {P = P} own held (call.Poll rank c)) at) ∙ passed)) fits.request in
      call_good meld limits h own (call.Poll rank c) x (held_outcome meld limits h own x (call.Poll rank c)) at passed alive polled.legal_after polled.adds polled.replies
      (λ polls. polled.marks ∙ (ap (λ d. unsettled_of limits.ranks h d x.request) same ∙ ap (λ held. unsettled_of limits.ranks h c (request_of held)) (sym at)))
    where
      not_idle : (q : Option Request) → first_refusal ((not (is_some q), Idle) ∷ []) ≡ None → is_some q ≡ true
      not_idle None e = absurd (cc e)
      not_idle (Some q) e = refl

-- The events of a poll where nobody else steps are the computed ones.
use Rattle.std.proofs.Common.{◌≡◌, ◌⊎◌, ℕ, ◌+◌, ◌-◌, ◌<◌, ◌&&◌, Bool, true, false, not, List, [], ◌∷◌, ◌++◌, map, length, Some, is_some, nat_lt, slice_get, take, refl, ap, ap₂, sym, ◌∙◌, subst, arith, append-nil, append_assoc, filter, inl, inr, if◌then◌else◌}
use Rattle.std.specs.List.{AllByRecursion, list_any}
use Rattle.std.proofs.lemmas.Bool.{and_from, and_parts, false_from_ne_true, lt-ltb, ltb-true, not-true, not_from_false, or_left, or_right}
use Rattle.std.proofs.lemmas.List.{map-append}
use Rattle.std.proofs.lemmas.List.Folds.{list_any-append}
use Rattle.ulfm_laws.specs.declared.summary.Body.{Body}
use Rattle.ulfm_laws.specs.declared.summary.Body.TheVariants.{Unit as NoBody, Flag as OfFlags, Ctx as OfIds, Clash}
use Rattle.ulfm_laws.specs.declared.summary.CtxMask.{CtxMask}
use Rattle.ulfm_model.specs.declared.call.Request.TheVariants.{Shrink}
use Rattle.ulfm_model.specs.declared.contribution.MarkCount.{MarkCount}
use Rattle.ulfm_model.specs.declared.event.Caller.{Caller}
use Rattle.ulfm_model.specs.declared.event.Caller.TheVariants.{Rank}
use Rattle.ulfm_model.specs.declared.event.Entry.{Entry}
use Rattle.ulfm_model.specs.declared.event.Event.{Event}
use Rattle.ulfm_model.specs.declared.event.Event.TheVariants.{Mark, Spawn}
use Rattle.ulfm_model.specs.declared.limits.Limits.{Limits}
use Rattle.ulfm_model.specs.declared.reply.Reply.{Reply}
use Rattle.ulfm_model.specs.History.{History, entries_by, failures, has, slot, spawns}
use Rattle.ulfm_model.specs.History.{Decision, Exists, IsLegal, IsLegalAfter, MayFollow, MaySpawn, decision, failed, is_decided, is_made, known_of, members, round}
use Rattle.ulfm_model.specs.Computed.{is_free_mask, marks_of, spawn_of}
use Rattle.ulfm_model.specs.Terms.{settled_by}
use Rattle.ulfm_model.specs.Records.{Held}
use Rattle.ulfm_model.specs.Answers.{PollReplies}
use Rattle.ulfm_model.proofs.Lists.{distinct_filter, not_in_filter}
use Rattle.ulfm_model.proofs.Histories.{exists_push, legal_parts, legal_push, spawns_push}
use Rattle.ulfm_model.proofs.Decisions.{decision_push, failed_push}
use Rattle.ulfm_model.proofs.Spawned.{failures_distinct}
use Rattle.ulfm_model.proofs.OnlyMarks.{Counts, marked, marks_are}
use Rattle.ulfm_model.proofs.OnlyReply.{all_member, no_answer, of_itself}
use Rattle.ulfm_model.proofs.OnlySpawned.{is_of}

free_mask_of : {P : Type 0} (body : Body P) → is_free_mask body ≡ true → (mask : CtxMask) × (body ≡ OfIds mask) × (0 < mask.bits)
free_mask_of NoBody free = absurd (cc free)
free_mask_of (OfFlags flag) free = absurd (cc free)
free_mask_of (OfIds mask) free = (mask, refl, ltb-true 0 mask.bits free)
free_mask_of Clash free = absurd (cc free)

-- the event marks a rank in a round
abbrev pub MarksRound : {P : Type 0} → ℕ → ℕ → Event P → Type 0
MarksRound c k event = (r : ℕ) × (mark : MarkCount) × (event ≡ Mark c k r mark)

-- or makes a communicator of it
abbrev pub ShrinkAdds : {P : Type 0} → ℕ → ℕ → Event P → Type 0
ShrinkAdds c k event = MarksRound c k event ⊎ ((j : ℕ) × (event ≡ Spawn j c k))

-- events that are marks of a round, as the ranks and counts that they name
pub pairs_of : {P : Type 0} (c k : ℕ) (events : List (Event P)) → AllByRecursion (MarksRound c k) events → (pairs : List (ℕ × MarkCount)) × (events ≡ map (marked c k) pairs)
pairs_of c k [] adds = ([], refl)
pairs_of c k (e ∷ events) adds = let rest = pairs_of c k events adds.1 in ((adds.0.0, adds.0.1) ∷ rest.0, ap₂ (λ x xs. x ∷ xs) adds.0.2 rest.1)

-- a history that goes on by some events and then by others
pub ends_at : {P : Type 0} (h : History P) (by : Caller) (first last : List (Event P)) → h ++ entries_by by (first ++ last) ≡ (h ++ entries_by by first) ++ entries_by by last
ends_at h by first last = ap (λ w. h ++ w) (map-append (λ e. record { by = by; event = e }) first last) ∙ sym (append_assoc h (entries_by by first) (entries_by by last))

-- marks of a round, and then at most one communicator that is made of it
pub record IsSplit {P : Type 0} (c k : ℕ) (events : List (Event P)) : Type 0 where
  pub pairs : List (ℕ × MarkCount)
  pub tail : List (Event P)
  pub parts : events ≡ map (marked c k) pairs ++ tail
  pub last : (tail ≡ []) ⊎ ((j : ℕ) × (tail ≡ Spawn j c k ∷ []))

module _ {P : Type 0} (meld : P → P → P) (limits : Limits) (c k : ℕ) (by : Caller) where
  abbrev ranks : ℕ
  ranks = limits.ranks

  abbrev entry : Event P → Entry P
  entry e = record { by = by; event = e }

  -- a shrink's poll adds nothing to a round that is decided and made
  closed_round : (w : History P) (e : Event P) → is_decided ranks w c k ≡ true → is_made w c k ≡ true → ShrinkAdds c k e → MayFollow meld limits w e → ⊥
  closed_round w e all made (inl (r, mark, is)) may =
      let this : MayFollow meld limits w (Mark c k r mark) = subst (MayFollow meld limits w) is may in
      let some = all_member (λ m. is_some (slot w c k m)) (members ranks w c) r all this.0.member in
      let empty = ap is_some this.1 in
      cc (some, empty)
  closed_round w e all made (inr (j, is)) may = let this : MaySpawn meld limits w j c k = subst (MayFollow meld limits w) is may in cc (made, this.first)

  after_spawn : (w : History P) (j : ℕ) → IsLegal meld limits w → MaySpawn meld limits w j c k → (rest : List (Event P)) → IsLegalAfter meld limits (w ++ entry (Spawn j c k) ∷ []) (entries_by by rest)
      → AllByRecursion (ShrinkAdds c k) rest → rest ≡ []
  after_spawn w j legal may [] more adds = refl
  after_spawn w j legal may (e ∷ rest) more adds =
      let now : Entry P = entry (Spawn j c k) in
      let made : is_made (w ++ now ∷ []) c k ≡ true =
      ap (list_any (is_of c k)) (spawns_push w now) ∙ (list_any-append (is_of c k) (spawns w) ((c, k) ∷ []) ∙ or_right (list_any (is_of c k) (spawns w)) (list_any (is_of c k) ((c, k) ∷ [])) (or_left (is_of c k (c, k)) false (of_itself c k))) in
      absurd (closed_round (w ++ now ∷ []) e (decision_push meld limits w now c k legal may.exists may.decided may).0 made adds.0 more.0)

  -- the events of a shrink's poll are so
  pub split_of : (w : History P) → IsLegal meld limits w → (events : List (Event P)) → IsLegalAfter meld limits w (entries_by by events) → AllByRecursion (ShrinkAdds c k) events → IsSplit c k events
  split_of w legal [] more adds = record { pairs = []; tail = []; parts = refl; last = inl refl }
  split_of w legal (e ∷ events) more adds = go adds.0 (split_of (w ++ entry e ∷ []) (legal_push meld limits w (entry e) legal more.0) events more.1 adds.1)
    where
      go : ShrinkAdds c k e → IsSplit c k events → IsSplit c k (e ∷ events)
      go (inl (r, mark, is)) rest = record { pairs = (r, mark) ∷ rest.pairs; tail = rest.tail; parts = ap₂ (λ x xs. x ∷ xs) is rest.parts; last = rest.last }
      go (inr (j, is)) rest =
          let none : events ≡ [] = after_spawn w j legal (subst (MayFollow meld limits w) is more.0) events (subst (λ x. IsLegalAfter meld limits (w ++ entry x ∷ []) (entries_by by events)) is more.1) adds.1 in
          record { pairs = []; tail = Spawn j c k ∷ []; parts = ap₂ (λ x xs. x ∷ xs) is none; last = inr (j, refl) }

  -- legal marks count the failed group up to and with their ranks
  counts_are : (w : History P) (F : List ℕ) (pairs : List (ℕ × MarkCount)) → Exists w c → failed ranks w c ≡ F → IsLegalAfter meld limits w (entries_by by (map (marked c k) pairs)) → AllByRecursion (Counts F) pairs
  counts_are w F [] here same legal = tt
  counts_are w F (p ∷ pairs) here same legal =
      let now : Entry P = entry (marked c k p) in (
        ap (λ G. slice_get G (p.1.known.count - 1)) (sym same) ∙ legal.0.2,
        counts_are (w ++ now ∷ []) F pairs (exists_push w now c here) (failed_push meld limits w now c here legal.0 ∙ (append-nil (failed ranks w c) ∙ same)) legal.1,
      )

  settled_marks : (pairs : List (ℕ × MarkCount)) (tail : List (Event P)) → settled_by tail ≡ [] → settled_by (map (marked c k) pairs ++ tail) ≡ map (λ p. p.0) pairs
  settled_marks [] tail none = none
  settled_marks (p ∷ pairs) tail none = ap (λ rs. p.0 ∷ rs) (settled_marks pairs tail none)

  module _ (h : History P) (before : IsLegal meld limits h) (here : Exists h c) where
    -- the ranks that a poll marks
    abbrev pub unsettled : List ℕ
    unsettled = filter (λ r. not (is_some (slot h c k r))) (failed ranks h c)

    -- marks of just these ranks are the computed ones
    pub only_marks : (pairs : List (ℕ × MarkCount)) (tail : List (Event P)) → settled_by tail ≡ [] → IsLegal meld limits (h ++ entries_by by (map (marked c k) pairs ++ tail)) → settled_by (map (marked c k) pairs ++ tail) ≡ unsettled
        → map (marked c k) pairs ≡ marks_of ranks h c k
    only_marks pairs tail none legal settled =
        let marks : List (Event P) = map (marked c k) pairs in
        let first = (legal_parts meld limits (h ++ entries_by by marks) (entries_by by tail) (subst (IsLegal meld limits) (ends_at h by marks tail) legal)).0 in
        let after = (legal_parts meld limits h (entries_by by marks) first).1 in
        let F = failed ranks h c in
        marks_are h c k F (distinct_filter (has (members ranks h c)) (failures h) (failures_distinct meld limits h before)) [] F pairs refl (counts_are h F pairs here refl after) (sym (settled_marks pairs tail none) ∙ settled)

    -- the events of an agree's poll are the computed marks
    pub agree_events : (events : List (Event P)) → AllByRecursion (MarksRound c k) events → IsLegal meld limits (h ++ entries_by by events) → settled_by events ≡ unsettled → events ≡ marks_of ranks h c k
    agree_events events adds legal settled =
        let pairs = pairs_of c k events adds in
        let same : events ≡ map (marked c k) pairs.0 ++ [] = pairs.1 ∙ sym (append-nil (map (marked c k) pairs.0)) in
        pairs.1 ∙ only_marks pairs.0 [] refl (subst (λ es. IsLegal meld limits (h ++ entries_by by es)) same legal) (ap settled_by (sym same) ∙ settled)

    -- those of a shrink's poll begin with them, and then make at most one communicator
    pub shrink_events : (events : List (Event P)) → AllByRecursion (ShrinkAdds c k) events → IsLegal meld limits (h ++ entries_by by events) → settled_by events ≡ unsettled
        → (tail : List (Event P)) × (events ≡ marks_of ranks h c k ++ tail) × ((tail ≡ []) ⊎ ((j : ℕ) × (tail ≡ Spawn j c k ∷ [])))
    shrink_events events adds legal settled =
        let split = split_of h before events (legal_parts meld limits h (entries_by by events) legal).1 adds in
        let marks = only_marks split.pairs split.tail (settles_none split.tail split.last) (subst (λ es. IsLegal meld limits (h ++ entries_by by es)) split.parts legal) (ap settled_by (sym split.parts) ∙ settled) in
        (split.tail, split.parts ∙ ap (λ es. es ++ split.tail) marks, split.last)
      where
        settles_none : (tail : List (Event P)) → ((tail ≡ []) ⊎ ((j : ℕ) × (tail ≡ Spawn j c k ∷ []))) → settled_by tail ≡ []
        settles_none tail (inl none) = ap settled_by none
        settles_none tail (inr (j, one)) = ap settled_by one

module _ {P : Type 0} (meld : P → P → P) (limits : Limits) (w : History P) (legal : IsLegal meld limits w) (x : Held) (group : x.group ≡ members limits.ranks w x.comm) (r k : ℕ) (alive : has (failures w) r ≡ false) where
  abbrev made_there : Decision P
  made_there = decision meld limits.ranks w x.comm k

  abbrev made_by_test : Bool → List (Event P)
  made_by_test b = if b then Spawn (length (spawns w) + 1) x.comm k ∷ [] else []

  -- the tests of a communicator that may be made there
  abbrev may_make : Bool
  may_make = is_decided limits.ranks w x.comm k && (is_free_mask made_there.body && (not (has made_there.failed r) && (not (is_made w x.comm k) && nat_lt (length (spawns w) + 1) limits.comms)))

  -- a communicator that was made was to be made
  was_to_make : (j : ℕ) → MaySpawn meld limits w j x.comm k → may_make ≡ true
  was_to_make j may =
      let ms = members limits.ranks w x.comm in
      let mask = may.ids.0 in
      let free : is_free_mask made_there.body ≡ true = ap is_free_mask may.ids.1 ∙ lt-ltb 0 mask.bits may.ids.2 in
      let F = failed limits.ranks w x.comm in
      let kept : has made_there.failed r ≡ false = not_in_filter (λ m. list_any (λ s. has (take (known_of s) F) m) (round limits.ranks w x.comm k)) F r (not_in_filter (has ms) (failures w) r alive) in
      let room : nat_lt (length (spawns w) + 1) limits.comms ≡ true = lt-ltb (length (spawns w) + 1) limits.comms (omega (arith, may.next, may.room)) in
      let last = and_from (not (is_made w x.comm k)) (nat_lt (length (spawns w) + 1) limits.comms) (not_from_false (is_made w x.comm k) may.first) room in
      let third = and_from (not (has made_there.failed r)) (not (is_made w x.comm k) && nat_lt (length (spawns w) + 1) limits.comms) (not_from_false (has made_there.failed r) kept) last in
      let second = and_from (is_free_mask made_there.body) (not (has made_there.failed r) && (not (is_made w x.comm k) && nat_lt (length (spawns w) + 1) limits.comms)) free third in
      and_from (is_decided limits.ranks w x.comm k) (is_free_mask made_there.body && (not (has made_there.failed r) && (not (is_made w x.comm k) && nat_lt (length (spawns w) + 1) limits.comms))) may.decided second

  -- where one is to be made and none was, no reply is an answer
  none_to_make : (look : List ℕ) (own : List (Event P)) (reply : Reply P) → PollReplies meld limits (record { look = look; history = w; own = own; spread = false }) r x (Some (Shrink k)) reply → may_make ≡ true → ⊥
  none_to_make look own reply replies all =
      let p = and_parts (is_decided limits.ranks w x.comm k) (is_free_mask made_there.body && (not (has made_there.failed r) && (not (is_made w x.comm k) && nat_lt (length (spawns w) + 1) limits.comms))) all in
      let q = and_parts (is_free_mask made_there.body) (not (has made_there.failed r) && (not (is_made w x.comm k) && nat_lt (length (spawns w) + 1) limits.comms)) p.1 in
      let s = and_parts (not (has made_there.failed r)) (not (is_made w x.comm k) && nat_lt (length (spawns w) + 1) limits.comms) q.1 in
      let t = and_parts (not (is_made w x.comm k)) (nat_lt (length (spawns w) + 1) limits.comms) s.1 in
      let mask = free_mask_of made_there.body q.0 in
      no_answer meld limits (record { look = look; history = w; own = own; spread = false }) legal r x group k mask.0 reply p.0 mask.1 mask.2 (not-true (is_made w x.comm k) t.0) (ltb-true (length (spawns w) + 1) limits.comms t.1) replies

  -- what a shrink's poll adds after its marks is the computed communicator
  pub made_is : (tail : List (Event P)) (look : List ℕ) (own : List (Event P)) (reply : Reply P) → ((tail ≡ []) ⊎ ((j : ℕ) × (tail ≡ Spawn j x.comm k ∷ []))) → IsLegalAfter meld limits w (entries_by (Rank r) tail)
      → PollReplies meld limits (record { look = look; history = w ++ entries_by (Rank r) tail; own = own; spread = false }) r x (Some (Shrink k)) reply → tail ≡ spawn_of meld limits w r x.comm k
  made_is tail look own reply (inl none) after replies =
      let unmade : w ++ entries_by (Rank r) tail ≡ w = ap (λ es. w ++ entries_by (Rank r) es) none ∙ append-nil w in
      let here = subst (λ v. PollReplies meld limits (record { look = look; history = v; own = own; spread = false }) r x (Some (Shrink k)) reply) unmade replies in
      none ∙ sym (ap made_by_test (false_from_ne_true may_make (none_to_make look own reply here)))
  made_is tail look own reply (inr (j, one)) after replies =
      let may : MaySpawn meld limits w j x.comm k = (subst (λ es. IsLegalAfter meld limits w (entries_by (Rank r) es)) one after).0 in
      one ∙ (ap (λ i. Spawn i x.comm k ∷ []) may.next ∙ sym (ap made_by_test (was_to_make j may)))

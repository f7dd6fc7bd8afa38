-- Marking a round's declared members.
use Rattle.std.proofs.Common.{◌≡◌, ℕ, zero, suc, ◌+◌, ◌-◌, ◌<◌, ◌≤◌, ◌==◌, Bool, true, false, cond, not, ◌||◌, ◌&&◌, List, [], ◌∷◌, ◌++◌, length, map, filter, filter_map, take, drop, slice_index_or, slice_get, Option, Some, None, is_some, Result, Ok, Err, IsTrue, nat_eq, refl, ap, ap₂, sym, ◌∙◌, subst, arith, append-nil, append_assoc, length-append, if◌then◌else◌, inl, inr}
use Rattle.std.specs.Prelude.{MatchBool, MatchResult, is_ok}
use Rattle.std.specs.List.{slice_index, AllByRecursion, IsDistinct}
use Rattle.std.proofs.lemmas.Bool.{eq-eqb, or_left, or_right, or_parts, or_from}
use Rattle.std.proofs.lemmas.List.{map-append, take-append-drop}
use Rattle.std.proofs.lemmas.List.Elements.{filter-append, filter_map-append}
use Rattle.std.proofs.lemmas.List.Folds.{list_any-append}
use Rattle.std.proofs.lemmas.Map.Keys.{IsDistinct-head, IsDistinct-tail, IsDistinct-cons}
use mathlib.Core.List.{IsPrefix}
use Rattle.ulfm_model.specs.declared.{contribution.MarkCount.{MarkCount}, contribution.Slot.{Slot}, contribution.Slot.TheVariants.{Mark as Marked}, event.Caller.TheVariants.{Rank as ByRank}, event.Entry.{Entry}, event.Event.{Event}, event.Event.TheVariants.{Fail, Settle, Mark, Arrive, Revoke, Spawn}, limits.Limits.{Limits}, place.Place.TheVariants.{Slot as SlotAt}}
use Rattle.ulfm_model.specs.{History.{History, IsLegal, entries_by, failed, failures, has, says, slot}, Runs.{Did}, Words.{MayOpen}}
use Rattle.ulfm_model.specs.Terms.{settled_by}
use Rattle.ulfm_model.proofs.{Histories.{failures_begin, legal_parts, slot_kept, slot_stays}, Lists.{distinct_filter, each_always, each_append, each_from, filter_same, get_prefix, is_some_of, length_prefix, not_in_filter, prefix_trans}, OneEvent.{put_by}, Spawned.{failures_distinct}}
use Rattle.ulfm_words.specs.{Steps.{IsAdded, IsView, Over, Sight}, Tries.{MayPut, Tries, entry}}
use Rattle.ulfm_words.proofs.{Growing.{prefix_self}, Ranks.{failures_le}, Trails.{did_added, did_more, did_none, did_prefix, did_quiet, did_wait}}
use Rattle.ulfm_words.specs.Steps.{view_at}
use Rattle.ulfm_words.specs.{declared.accesses.Settled.{Settled}, Tries.{IsSettledBy, attempt}}
use Rattle.ulfm_steps.specs.declared.blocks.MarkAll.{MarkAll}
use Rattle.ulfm_steps.specs.Marks.{HasMarked, IsMarkOf, Marks, MarksOnce, MarkSteps, MayMarkAll, marks_left, members_in}
use Rattle.ulfm_steps.proofs.Reading.{member_place, round_stays, take_one_more}
use Rattle.ulfm_steps.specs.Among.{among}
use Rattle.ulfm_steps.specs.Rounds.{round_on}

filter_one : (b : Bool) (xs : List ℕ) (x : ℕ) → (let ys : List ℕ = cond b (x ∷ []) [] in xs ++ ys) ≡ cond b (xs ++ x ∷ []) xs
filter_one true xs x = refl
filter_one false xs x = append-nil xs

-- the members among one rank more
pub members_next : (group declared : List ℕ) (n : ℕ) → n < length declared → members_in group declared (n + 1) ≡ cond (has group (slice_index declared n)) (members_in group declared n ++ slice_index declared n ∷ []) (members_in group declared n)
members_next group declared n lt =
    ap (filter (has group)) (take_one_more declared n 0 lt) ∙ (filter-append (has group) (take n declared) (slice_index declared n ∷ []) ∙ filter_one (has group (slice_index declared n)) (members_in group declared n) (slice_index declared n))

-- .. with a member there
pub member_next : (group declared : List ℕ) (n : ℕ) → n < length declared → IsTrue (has group (slice_index declared n)) → members_in group declared (n + 1) ≡ members_in group declared n ++ slice_index declared n ∷ []
member_next group declared n lt member = members_next group declared n lt ∙ ap (λ b. cond b (members_in group declared n ++ slice_index declared n ∷ []) (members_in group declared n)) member

-- .. which is counted
pub counted_next : (group declared : List ℕ) (n next known : ℕ) → n < length declared → IsTrue (has group (slice_index declared n)) → members_in group declared next ≡ members_in group declared (n + 1) → known ≡ length (members_in group declared n)
    → known + 1 ≡ length (members_in group declared next)
counted_next group declared n next known lt member none counted =
    let more : members_in group declared next ≡ members_in group declared n ++ slice_index declared n ∷ [] = none ∙ member_next group declared n lt member in
    omega (arith, counted, ap length more, length-append (members_in group declared n) (slice_index declared n ∷ []))

few_passing : (p : ℕ → Bool) (xs : List ℕ) (n : ℕ) → length (filter p (take n xs)) ≤ n
few_passing p xs zero = omega arith
few_passing p [] (suc n) = omega arith
few_passing p (x ∷ xs) (suc n) =
    let rest = few_passing p xs n in
    elim (p x) as (λ b. length (cond b (x ∷ filter p (take n xs)) (filter p (take n xs))) ≤ suc n) [ true ↦ omega arith | false ↦ omega arith ]

-- the place of an element among those that pass
nth_passing : (p : ℕ → Bool) (xs : List ℕ) (n d : ℕ) → n < length xs → p (slice_index_or xs n d) ≡ true → slice_get (filter p xs) (length (filter p (take n xs))) ≡ Some (slice_index_or xs n d)
nth_passing p [] n d lt is = absurd (omega arith)
nth_passing p (x ∷ xs) zero d lt is = ap (λ b. slice_get (cond b (x ∷ filter p xs) (filter p xs)) 0) is
nth_passing p (x ∷ xs) (suc n) d lt is =
    let rest = nth_passing p xs n d (omega arith) is in
    elim (p x) as (λ b. slice_get (cond b (x ∷ filter p xs) (filter p xs)) (length (cond b (x ∷ filter p (take n xs)) (filter p (take n xs)))) ≡ Some (slice_index_or xs n d)) [ true ↦ rest | false ↦ rest ]

filter_begins : (p : ℕ → Bool) (xs ys : List ℕ) → IsPrefix xs ys → IsPrefix (filter p xs) (filter p ys)
filter_begins p xs ys begins = (filter p begins.0, sym (filter-append p xs begins.0) ∙ ap (filter p) begins.1)

distinct_start : (xs ys : List ℕ) → IsDistinct nat_eq (xs ++ ys) → IsDistinct nat_eq xs
unfolding IsDistinct
distinct_start [] ys distinct = tt
distinct_start (x ∷ xs) ys distinct =
    IsDistinct-cons nat_eq x xs (each_start xs ys (IsDistinct-head nat_eq x (xs ++ ys) distinct)) (distinct_start xs ys (IsDistinct-tail nat_eq x (xs ++ ys) distinct))
  where
    each_start : (xs ys : List ℕ) → AllByRecursion (λ y. nat_eq x y ≡ false) (xs ++ ys) → AllByRecursion (λ y. nat_eq x y ≡ false) xs
    each_start [] ys all = tt
    each_start (y ∷ xs) ys all = (all.0, each_start xs ys all.1)

at_each : (Q : ℕ → Type 0) (xs : List ℕ) (n d : ℕ) → AllByRecursion Q xs → n < length xs → Q (slice_index_or xs n d)
at_each Q [] n d all lt = absurd (omega arith)
at_each Q (x ∷ xs) zero d all lt = all.0
at_each Q (x ∷ xs) (suc n) d all lt = at_each Q xs n d all.1 (omega arith)

-- what stands in a list without repeats doesn't stand before
not_before : (xs : List ℕ) (n d : ℕ) → IsDistinct nat_eq xs → n < length xs → has (take n xs) (slice_index_or xs n d) ≡ false
not_before xs zero d distinct lt = refl
not_before [] (suc n) d distinct lt = refl
not_before (x ∷ xs) (suc n) d distinct lt =
    let below : n < length xs = omega arith in
    or_from (x == slice_index_or xs n d) (has (take n xs) (slice_index_or xs n d)) (at_each (λ y. nat_eq x y ≡ false) xs n d (IsDistinct-head nat_eq x xs distinct) below) (not_before xs n d (IsDistinct-tail nat_eq x xs distinct) below)

right_part : (xs ys : List ℕ) (r : ℕ) → has (xs ++ ys) r ≡ false → has ys r ≡ false
right_part xs ys r out = (or_parts (has xs r) (has ys r) (sym (list_any-append (λ x. x == r) xs ys) ∙ out)).1

-- the two parts of a list without repeats share nobody
distinct_apart : (xs ys : List ℕ) → IsDistinct nat_eq (xs ++ ys) → AllByRecursion (λ r. has xs r ≡ false) ys
unfolding IsDistinct
distinct_apart [] ys distinct = each_always (λ r. has [] r ≡ false) (λ r. refl) ys
distinct_apart (x ∷ xs) ys distinct =
    neither ys (each_end xs ys (IsDistinct-head nat_eq x (xs ++ ys) distinct)) (distinct_apart xs ys (IsDistinct-tail nat_eq x (xs ++ ys) distinct))
  where
    each_end : (xs ys : List ℕ) → AllByRecursion (λ y. nat_eq x y ≡ false) (xs ++ ys) → AllByRecursion (λ y. nat_eq x y ≡ false) ys
    each_end [] ys all = all
    each_end (z ∷ xs) ys all = each_end xs ys all.1

    neither : (zs : List ℕ) → AllByRecursion (λ y. nat_eq x y ≡ false) zs → AllByRecursion (λ r. has xs r ≡ false) zs → AllByRecursion (λ r. has (x ∷ xs) r ≡ false) zs
    neither [] one two = tt
    neither (z ∷ zs) one two = (or_from (x == z) (has xs z) one.0 two.0, neither zs one.1 two.1)

module _ {P : Type 0} (meld : P → P → P) (limits : Limits) where
  -- the count of a mark is one that a mark may have
  pub count_fits : (h : History P) (group declared : List ℕ) (n : ℕ) → IsLegal meld limits h → MayOpen limits → IsPrefix declared (failures h) → n < length declared → length (members_in group declared n) + 1 ≤ 1024
  count_fits h group declared n legal may begins lt =
      omega (arith, few_passing (has group) declared n, lt, length_prefix declared (failures h) begins, failures_le meld limits h legal, may.in_range.ranks)

  -- a declared member may be marked as long as its place is empty
  pub may_mark : (h : History P) (c k : ℕ) (group declared : List ℕ) (n : ℕ) (mark : MarkCount) → MayMarkAll limits h c k group declared → n < length declared → IsTrue (has group (slice_index declared n))
      → mark.known.count ≡ length (members_in group declared n) + 1 → MayPut meld limits h c k (slice_index declared n) (Marked mark)
  may_mark h c k group declared n mark may lt member count more begins legal none =
      let round = round_stays limits h more c k group begins may.round in
      let at : slice_get (filter (has group) declared) (length (members_in group declared n)) ≡ Some (slice_index declared n) = nth_passing (has group) declared n 0 lt member in
      let longer : IsPrefix (filter (has group) declared) (failed limits.ranks more c) =
      subst (λ ms. IsPrefix (filter (has group) declared) (filter (has ms) (failures more))) round.group_is
      (filter_begins (has group) declared (failures more) (prefix_trans declared (failures h) (failures more) may.begins (failures_begin h more begins))) in
      let index : mark.known.count - 1 ≡ length (members_in group declared n) = omega (arith, count) in (
        member_place limits more c k (slice_index declared n) group round member,
        none,
        rw index (get_prefix (filter (has group) declared) (failed limits.ranks more c) _ _ longer at),
      )

  -- and the next one is none of those before it
  pub new_member : (h : History P) (group declared start : List ℕ) (left : List ℕ) (n : ℕ) → IsLegal meld limits h → IsPrefix declared (failures h) → n < length declared → members_in group declared n ≡ start ++ left → has left (slice_index declared n) ≡ false
  new_member h group declared start left n legal begins lt is =
      let distinct = distinct_start declared begins.0 (subst (IsDistinct nat_eq) (sym begins.1) (failures_distinct meld limits h legal)) in
      let out = not_in_filter (has group) (take n declared) (slice_index declared n) (not_before declared n 0 distinct lt) in
      right_part start left (slice_index declared n) (ap (λ w. has w (slice_index declared n)) (sym is) ∙ out)

  -- nor are those that are marked from there on
  pub new_members : (h : History P) (group : List ℕ) (n : ℕ) (start between : List ℕ) → IsLegal meld limits h → members_in group (failures h) n ≡ start ++ between → AllByRecursion (λ r. has start r ≡ false) between
  new_members h group n start between legal is =
      let first = distinct_start (take n (failures h)) (drop n (failures h)) (subst (IsDistinct nat_eq) (sym (take-append-drop n (failures h))) (failures_distinct meld limits h legal)) in
      distinct_apart start between (subst (IsDistinct nat_eq) is (distinct_filter (has group) (take n (failures h)) first))

not_equal : (q r : ℕ) → IsTrue (not (has (r ∷ []) q)) → (r == q) ≡ false
not_equal q r out = go (r == q) out
  where
    go : (b : Bool) → IsTrue (not (b || false)) → b ≡ false
    go true e = absurd (cc e)
    go false e = refl

not_in : (xs : List ℕ) (r : ℕ) → has xs r ≡ false → IsTrue (not (has xs r))
not_in xs r out = ap not out

module _ {P : Type 0} (alone : Bool) (number c k : ℕ) where
  pub marks_none : (h : History P) → Marks alone number c k [] h h
  marks_none h = record { own = []; did = did_none alone h; marks = tt; settled = tt; exact = λ here. refl; others = λ here r out. refl }

  -- the mark came
  marks_won : (meld : P → P → P) (limits : Limits) (r : ℕ) (mark : MarkCount) (s : Slot P) (old new : History P) → IsAdded alone (entry (ByRank number) (Mark c k r mark)) old new → IsLegal meld limits new → slot new c k r ≡ Some s
      → Marks alone number c k (r ∷ []) old new
  marks_won meld limits r mark s old new added legal is =
      let e : Entry P = entry (ByRank number) (Mark c k r mark) in
      let parts = legal_parts meld limits added.before (e ∷ []) (subst (IsLegal meld limits) added.is legal) in
      let first : slot added.before c k r ≡ None = parts.1.0.1 in
      let itself : IsTrue (has (r ∷ []) r) = or_left (r == r) false (eq-eqb r r refl) in
      record {
        own = Mark c k r mark ∷ [];
        did = did_added alone e old new added;
        marks = ((refl, refl, itself), tt);
        settled = (ap is_some is, tt);
        exact = λ here.
            let empty : slot old c k r ≡ None = ap (λ w. slot w c k r) (sym (did_quiet alone old added.before added.did here)) ∙ first in
            sym (ap (λ o. filter (λ x. not (is_some o)) (r ∷ [])) empty);
        others = λ here q out.
            let apart : put_by c k q (Mark c k r mark) ≡ None = ap (λ b. if b then Some (Marked mark) else None) (and_from_right ((c == c) && (k == k)) (r == q) (not_equal q r out)) in
            ap (λ w. slot w c k q) added.is
            ∙ (slot_kept added.before e c k q apart
            ∙ ap (λ w. slot w c k q) (did_quiet alone old added.before added.did here));
      }
    where
      and_from_right : (a b : Bool) → b ≡ false → (a && b) ≡ false
      and_from_right true b e = e
      and_from_right false b e = refl

  -- the member was settled before
  marks_lost : (r : ℕ) (s : Slot P) (old new : History P) → Did alone [] old new → slot new c k r ≡ Some s → Marks alone number c k (r ∷ []) old new
  marks_lost r s old new did is =
      record {
        own = [];
        did = did;
        marks = tt;
        settled = (ap is_some is, tt);
        exact = λ here.
            let there : slot old c k r ≡ Some s = ap (λ w. slot w c k r) (sym (did_quiet alone old new did here)) ∙ is in
            sym (ap (λ o. filter (λ x. not (is_some o)) (r ∷ [])) there);
        others = λ here q out. ap (λ w. slot w c k q) (did_quiet alone old new did here);
      }

  wider : (xs ys : List ℕ) → ((r : ℕ) → has xs r ≡ true → has ys r ≡ true) → (e : Event P) → IsMarkOf c k xs e → IsMarkOf c k ys e
  wider xs ys more (Mark comm round rank mark) is = (is.0, is.1, more rank is.2)
  wider xs ys more (Fail rank) is = absurd is
  wider xs ys more (Settle comm round rank given) is = absurd is
  wider xs ys more (Arrive comm round rank) is = absurd is
  wider xs ys more (Revoke comm) is = absurd is
  wider xs ys more (Spawn comm parent round) is = absurd is

  -- who is settled stays so
  settled_on : (xs : List ℕ) (own y z : History P) → Did alone own y z → AllByRecursion (λ q. IsTrue (is_some (slot y c k q))) xs → AllByRecursion (λ q. IsTrue (is_some (slot z c k q))) xs
  settled_on xs own y z did settled =
      each_from (λ q. IsTrue (is_some (slot y c k q))) (λ q. IsTrue (is_some (slot z c k q)))
      (λ q e. let s = is_some_of (slot y c k q) e in ap is_some (slot_stays y z c k q s.0 (did_prefix alone own y z did) s.1)) xs settled

  settled_append : (xs ys : List (Event P)) → settled_by (xs ++ ys) ≡ settled_by xs ++ settled_by ys
  settled_append xs ys = ap (map (λ put. put.0.2)) (filter_map-append (λ e. (says e).settles) xs ys) ∙ map-append (λ put. put.0.2) (filter_map (λ e. (says e).settles) xs) (filter_map (λ e. (says e).settles) ys)

  -- others' events came after the marks
  pub marks_wait : (xs : List ℕ) (x y z : History P) → Marks alone number c k xs x y → Did alone [] y z → Marks alone number c k xs x z
  marks_wait xs x y z marks wait =
      record {
        own = marks.own;
        did = did_wait alone (entries_by (ByRank number) marks.own) x y z marks.did wait;
        marks = marks.marks;
        settled = settled_on xs [] y z wait marks.settled;
        exact = marks.exact;
        others = λ here q out. ap (λ w. slot w c k q) (did_quiet alone y z wait here) ∙ marks.others here q out;
      }

  -- further members, none of those before
  pub marks_join : (xs ys : List ℕ) (x y z : History P) → AllByRecursion (λ r. has xs r ≡ false) ys → Marks alone number c k xs x y → Marks alone number c k ys y z → Marks alone number c k (xs ++ ys) x z
  marks_join xs ys x y z out first last =
      let left : (q : ℕ) → has xs q ≡ true → has (xs ++ ys) q ≡ true = λ q e. list_any-append (λ w. w == q) xs ys ∙ or_left (has xs q) (has ys q) e in
      let right : (q : ℕ) → has ys q ≡ true → has (xs ++ ys) q ≡ true = λ q e. list_any-append (λ w. w == q) xs ys ∙ or_right (has xs q) (has ys q) e in
      record {
        own = first.own ++ last.own;
        did = did_more alone (ByRank number) first.own last.own x y z first.did last.did;
        marks = each_append (IsMarkOf c k (xs ++ ys)) first.own last.own (each_from (IsMarkOf c k xs) (IsMarkOf c k (xs ++ ys)) (wider xs (xs ++ ys) left) first.own first.marks) (each_from (IsMarkOf c k ys) (IsMarkOf c k (xs ++ ys)) (wider ys (xs ++ ys) right) last.own last.marks);
        settled = each_append (λ q. IsTrue (is_some (slot z c k q))) xs ys (settled_on xs (entries_by (ByRank number) last.own) y z last.did first.settled) last.settled;
        exact = λ here.
            let same : filter (λ q. not (is_some (slot y c k q))) ys ≡ filter (λ q. not (is_some (slot x c k q))) ys =
            filter_same (λ q. not (is_some (slot x c k q))) (λ q. not (is_some (slot y c k q))) ys
            (each_from (λ r. has xs r ≡ false) (λ q. not (is_some (slot y c k q)) ≡ not (is_some (slot x c k q))) (λ r new. ap (λ o. not (is_some o)) (first.others here r (not_in xs r new))) ys out) in
            settled_append first.own last.own ∙ (ap₂ (λ v w. v ++ w) (first.exact here) (last.exact here ∙ same) ∙ sym (filter-append (λ q. not (is_some (slot x c k q))) xs ys));
        others = λ here q apart.
            let both = or_parts (has xs q) (has ys q) (sym (list_any-append (λ w. w == q) xs ys) ∙ is_false (has (xs ++ ys) q) apart) in
            last.others here q (not_in ys q both.1) ∙ first.others here q (not_in xs q both.0);
      }
    where
      is_false : (b : Bool) → IsTrue (not b) → b ≡ false
      is_false true e = absurd (cc e)
      is_false false e = refl

  -- one more member
  pub marks_push : (xs : List ℕ) (r : ℕ) (x y z : History P) → has xs r ≡ false → Marks alone number c k xs x y → Marks alone number c k (r ∷ []) y z → Marks alone number c k (xs ++ r ∷ []) x z
  marks_push xs r x y z out first last = marks_join xs (r ∷ []) x y z (out, tt) first last

  -- whatever settles a place, something stands there
  settled_slot : (put : Option (Slot P)) (by : Settled) → IsSettledBy put by → (s : Slot P) × (put ≡ Some s)
  settled_slot put Settled.Marked stands = (Marked stands.0, stands.1)
  settled_slot put Settled.Contributed stands = (Slot.Given stands.0, stands.1)

  -- one exchange of a member's place
  pub marks_try : (meld : P → P → P) (pack : P → ℕ) (name : Over P) (r : ℕ) (mark : MarkCount) (result : Result (Unit {0}) Settled) (old new : Sight P)
      → Tries meld pack alone (attempt (SlotAt c k r) (entry (ByRank number) (Mark c k r mark))) (is_ok result) (view_at name old) (view_at name new)
      → MatchResult result (λ _. slot new.seen c k r ≡ Some (Marked mark)) (IsSettledBy (slot new.seen c k r)) → MarkSteps meld alone number (round_on c k) (r ∷ []) (view_at name old) (view_at name new)
  marks_try meld pack name r mark (Ok _) old new tries stands =
      record { of = tries.of; marks = marks_won meld name.limits r mark (Marked mark) old.seen new.seen tries.outcome tries.of.legal stands; cached = tries.cached; caches = tries.caches; onward = omega (arith, tries.steps); steps = omega (arith, tries.steps) }
  marks_try meld pack name r mark (Err by) old new tries stands =
      let s = settled_slot (slot new.seen c k r) by stands in
      record { of = tries.of; marks = marks_lost r s.0 old.seen new.seen tries.outcome s.1; cached = tries.cached; caches = tries.caches; onward = omega (arith, tries.steps); steps = omega (arith, tries.steps) }

-- what may be marked may be marked later
pub may_stays : {P : Type 0} (limits : Limits) (h longer : History P) (c k : ℕ) (group declared : List ℕ) → IsPrefix h longer → MayMarkAll limits h c k group declared → MayMarkAll limits longer c k group declared
may_stays limits h longer c k group declared begins may =
    record { round = round_stays limits h longer c k group begins may.round; begins = prefix_trans declared (failures h) (failures longer) may.begins (failures_begin h longer begins) }

-- the exchanges so far and one more
pub steps_push : {P : Type 0} (meld : P → P → P) (alone : Bool) (name : Over P) (number c k : ℕ) (xs : List ℕ) (r : ℕ) (x y z : Sight P) → has xs r ≡ false → MarkSteps meld alone number (round_on c k) xs (view_at name x) (view_at name y) → MarkSteps meld alone number (round_on c k) (r ∷ []) (view_at name y) (view_at name z)
    → MarkSteps meld alone number (round_on c k) (xs ++ r ∷ []) (view_at name x) (view_at name z)
steps_push meld alone name number c k xs r x y z out first last =
    record { of = last.of; marks = marks_push alone number c k xs r x.seen y.seen z.seen out first.marks last.marks; cached = prefix_trans x.cached y.cached z.cached first.cached last.cached; caches = last.caches ∙ first.caches; onward = omega (arith, first.onward, last.onward); steps = omega (arith, first.steps, last.steps, length-append xs (r ∷ [])) }

-- a marking that has marked nobody
pub marked_none : {P : Type 0} (meld : P → P → P) (alone : Bool) (name : Over P) (start : MarkAll) (group declared : List ℕ) (x : Sight P) → IsView meld (view_at name x) → HasMarked meld alone start (among group declared) start.next (view_at name x) (view_at name x)
marked_none meld alone name start group declared x of =
    record {
      between = [];
      members_are = sym (append-nil (members_in group declared start.next));
      marks = record { of = of; marks = marks_none alone start.rank start.comm start.round x.seen; cached = prefix_self x.cached; caches = refl; onward = omega arith; steps = omega arith };
    }

-- .. and one that has marked one more
pub marked_push : {P : Type 0} (meld : P → P → P) (alone : Bool) (name : Over P) (start here after : MarkAll) (group declared : List ℕ) (x y z : Sight P) → here.rank ≡ start.rank → here.comm ≡ start.comm → here.round ≡ start.round → IsPrefix declared (failures y.seen)
    → here.next < length declared → members_in group declared after.next ≡ members_in group declared here.next ++ slice_index declared here.next ∷ [] → HasMarked meld alone start (among group declared) here.next (view_at name x) (view_at name y)
    → MarkSteps meld alone here.rank (round_on here.comm here.round) (slice_index declared here.next ∷ []) (view_at name y) (view_at name z) → HasMarked meld alone start (among group declared) after.next (view_at name x) (view_at name z)
marked_push meld alone name start here after group declared x y z rank comm round begins more further so_far one =
    let r = slice_index declared here.next in
    let before = members_in group declared start.next in
    let last : MarkSteps meld alone start.rank (round_on start.comm start.round) (r ∷ []) (view_at name y) (view_at name z) = rw (← rank, ← comm, ← round) one in
    let new = new_member meld name.limits y.seen group declared before so_far.between here.next so_far.marks.of.legal begins more so_far.members_are in
    record {
      between = so_far.between ++ r ∷ [];
      members_are = further ∙ (ap (λ w. w ++ r ∷ []) so_far.members_are ∙ append_assoc before so_far.between (r ∷ []));
      marks = steps_push meld alone name start.rank start.comm start.round so_far.between r x y z new so_far.marks last;
    }

pub take_all : (xs : List ℕ) → take (length xs) xs ≡ xs
take_all [] = refl
take_all (x ∷ xs) = ap (λ w. x ∷ w) (take_all xs)

-- one exchange, won or lost
pub marks_once : {P : Type 0} (alone : Bool) (number c k r : ℕ) (mark : MarkCount) (old new : History P) (won : Bool) → MatchBool won (IsAdded alone (record { by = ByRank number; event = Mark c k r mark }) old new) (Did alone [] old new)
    → MarksOnce alone number c k r old new
marks_once alone number c k r mark old new true outcome = inr (mark, outcome)
marks_once alone number c k r mark old new false outcome = inl outcome

-- no more members stand before a place than there are
members_within : (group declared : List ℕ) (at : ℕ) → length (members_in group declared at) ≤ length (filter (has group) declared)
members_within group declared at =
    length_prefix (members_in group declared at) (filter (has group) declared) (filter_begins (has group) (take at declared) declared (drop at declared, take-append-drop at declared))

-- past a member one fewer is left
pub marks_fall : (group declared : List ℕ) (at next : ℕ) → at < length declared → IsTrue (has group (slice_index declared at)) → members_in group declared next ≡ members_in group declared (at + 1)
    → marks_left group declared next + 1 ≤ marks_left group declared at
marks_fall group declared at next lt member same =
    let before = members_in group declared at in
    let r = slice_index declared at in
    let one = members_next group declared at lt ∙ ap (λ b. cond b (before ++ r ∷ []) before) member in
    let more = ap length (same ∙ one) in
    let push = length-append before (r ∷ []) in
    let within = members_within group declared next in
    omega (arith, more, push, within)

-- those that were marked, and those that are left, are no more than were left before
pub marks_turn : {P : Type 0} (meld : P → P → P) (alone : Bool) (name : Over P) (start : MarkAll) (group declared : List ℕ) (at : ℕ) (old new : Sight P) → HasMarked meld alone start (among group declared) at (view_at name old) (view_at name new)
    → new.steps + marks_left group declared at ≤ old.steps + marks_left group declared start.next
marks_turn meld alone name start group declared at old new marked =
    let joined = ap length marked.members_are in
    let push = length-append (members_in group declared start.next) marked.between in
    let within = members_within group declared at in
    let few = marked.marks.steps in
    omega (arith, joined, push, within, few)

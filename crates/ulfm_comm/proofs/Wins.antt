-- Where nobody else steps, the event that an exchange is for comes where it may come next, and nothing where it may not.
use Rattle.std.proofs.Common.{◌≡◌, ◌⊎◌, inl, inr, ℕ, zero, suc, ◌+◌, ◌-◌, ◌*◌, ◌<◌, ◌≤◌, ◌==◌, ◌&&◌, ◌||◌, Bool, true, false, List, [], ◌∷◌, ◌++◌, append-nil, length, map, filter, take, slice_get, slice_index_or, Option, Some, None, is_some, if◌then◌else◌, nat_eq, refl, ap, ap₂, sym, ◌∙◌, subst, arith, IsTrue}
use Rattle.std.specs.Prelude.{MatchBool, Result, Ok, Err}
use Rattle.std.specs.List.{slice_index, list_any, AllByRecursion, IsDistinct}
use Rattle.std.proofs.lemmas.Bool.{eq-eqb, or_left, or_right, or_parts}
use Rattle.std.proofs.lemmas.List.{length-map}
use Rattle.std.proofs.lemmas.List.Folds.{list_any-append}
use mathlib.Core.List.{IsPrefix}
use Rattle.ulfm_model.specs.declared.{contribution.Contribution.{Contribution}, contribution.MarkCount.{MarkCount}, contribution.Offer.{Offer}, contribution.Slot.{Slot}, contribution.Slot.TheVariants.{Given, Mark as Marked}, limits.Limits.{Limits}}
use Rattle.ulfm_model.specs.declared.{event.Caller.{Caller}, event.Caller.TheVariants.{Rank}, event.Entry.{Entry}, event.Event.{Event}, event.Event.TheVariants.{Mark, Settle, Spawn}}
use Rattle.ulfm_model.specs.{History.{History, IsLegal, MayFollow, MaySpawn, entries_by, failed, failures, has, is_made, members, slot, spawns}, Records.{Held, Record, held_at}, Runs.{Did}, Words.{MayOpen}}
use Rattle.ulfm_model.proofs.{Histories.{legal_parts}, Lists.{at_member, distinct_filter, get_prefix, has_kept, in_list, is_some_of}, OnlyMarks.{same_index, same_mark}, Spawned.{failures_distinct}}
use Rattle.ulfm_words.specs.declared.{accesses.Settled.{Settled}, accesses.Settled.TheVariants.{Contributed, Marked as IsMarked}}
use Rattle.ulfm_words.specs.{Steps.{IsAdded, Over, Sight, view_at}, Tries.{IsSettledBy, entry}}
use Rattle.ulfm_words.proofs.{Growing.{prefix_self}, SlotWords.{same_given}, Trails.{did_quiet}}
use Rattle.ulfm_steps.specs.declared.{append.Append.{Append}, item.Item.{Item}, item.Item.TheVariants.{Comm as OfComm}}
use Rattle.ulfm_steps.specs.{Among.{among}, Appends.{turns_left}, Marks.{HasMarked, IsAt, MarksOnce, MayMarkAll, members_in}}
use Rattle.ulfm_steps.proofs.Marking.{may_mark, new_member}
use Rattle.ulfm_comm.specs.{Exchange.{IsOffered, Settles}, Local.{local}, Proposals.{MayNot, OffersOwn}, Spawning.{SpawnIs, SpawnTakes, seeking, target}}
use Rattle.ulfm_comm.specs.declared.{phases.spawning.Spawned.{Spawned}}
use Rattle.ulfm_comm.specs.declared.phases.spawning.Spawned.TheVariants as spawned

-- what an exchange came to: the event that may come next came, and one that may not didn't
abbrev pub Comes : {P : Type 0} → (P → P → P) → Limits → Caller → Event P → History P → History P → Type 0
Comes meld limits by event old new =
    (MayFollow meld limits old event → new ≡ old ++ entry by event ∷ []) × (MayNot meld limits old event → new ≡ old)

module _ {P : Type 0} (alone : Bool) (here : IsTrue alone) (now after : History P) where
  -- own events alone came
  own_alone : (own : History P) → Did alone own now after → after ≡ now ++ own
  own_alone own did = sym did.goes_on ∙ ap (λ w. now ++ w) (did.quiet here)

  added_alone : (e : Entry P) → IsAdded alone e now after → after ≡ now ++ e ∷ []
  added_alone e added = added.is ∙ ap (λ w. w ++ e ∷ []) (did_quiet alone now added.before added.did here)

module _ {P : Type 0} (meld : P → P → P) (limits : Limits) (now after : History P) (legal : IsLegal meld limits after) where
  -- an event that came may have come
  came_may : (e : Entry P) → after ≡ now ++ e ∷ [] → MayFollow meld limits now e.event
  came_may e is = (legal_parts meld limits now (e ∷ []) (subst (IsLegal meld limits) is legal)).1.0

  was_legal : (e : Entry P) → after ≡ now ++ e ∷ [] → IsLegal meld limits now
  was_legal e is = (legal_parts meld limits now (e ∷ []) (subst (IsLegal meld limits) is legal)).0

-- an event that may come next isn't one that may not
not_both : {P : Type 0} (meld : P → P → P) (limits : Limits) (now : History P) (e : Event P) → MayFollow meld limits now e → MayNot meld limits now e → ⊥
not_both meld limits now (Event.Fail r) may not = not may
not_both meld limits now (Settle c k r given) may not = not may
not_both meld limits now (Mark c k r mark) may not = not may
not_both meld limits now (Event.Arrive c k r) may not = not may
not_both meld limits now (Event.Revoke c) may not = not may
not_both meld limits now (Spawn j c k) may not = not j may

module _ {P : Type 0} (meld : P → P → P) (limits : Limits) (by : Caller) (now after : History P) (legal : IsLegal meld limits after) where
  -- where the event came
  comes_won : (e : Event P) → after ≡ now ++ entry by e ∷ [] → Comes meld limits by e now after
  comes_won e is = (λ may. is, λ not. absurd (not_both meld limits now e (came_may meld limits now after legal (entry by e) is) not))

  -- .. or nothing, since it may not have
  comes_lost : (e : Event P) → after ≡ now → (MayFollow meld limits now e → ⊥) → Comes meld limits by e now after
  comes_lost e is never = (λ may. absurd (never may), λ not. is)

  -- one exchange, whose place is set afterwards
  pub tried_comes : (alone : Bool) → IsTrue alone → (e : Event P) (won : Bool) → MatchBool won (IsAdded alone (entry by e) now after) (Did alone [] now after)
      → (after ≡ now → MayFollow meld limits now e → ⊥) → Comes meld limits by e now after
  tried_comes alone here e true added set = comes_won e (added_alone alone here now after (entry by e) added)
  tried_comes alone here e false did set = let is = did_quiet alone now after did here in comes_lost e is (set is)

-- what is settled isn't empty
settled_some : {P : Type 0} (put : Option (Slot P)) (by : Settled) → IsSettledBy put by → put ≡ None → ⊥
settled_some put IsMarked stands none = let clash = sym none ∙ stands.1 in absurd (cc clash)
settled_some put Contributed stands none = let clash = sym none ∙ stands.1 in absurd (cc clash)

-- the contribution that a start offers, by what the rank holds of its communicator
module _ {P : Type 0} (own : Record) (c : ℕ) (offer : Offer P) (x : Held) (held : held_at own c ≡ Some x) (event : Event P) (p : OffersOwn own c offer event) where
  one : p.x ≡ x
  one = let both : Some p.x ≡ Some x = sym p.held ∙ held in cc both

  settle_is : event ≡ Settle x.comm x.next_agreement own.number p.given
  settle_is = p.is ∙ ap (λ (y : Held). Settle y.comm y.next_agreement own.number p.given) one

  offered : IsOffered own x offer p.given
  offered = subst (λ (y : Held). IsOffered own y offer p.given) one p.offered

  -- where it may come next, its place is empty
  pub offers_empty : (meld : P → P → P) (limits : Limits) (now : History P) → MayFollow meld limits now event → slot now x.comm x.next_agreement own.number ≡ None
  offers_empty meld limits now may = (subst (λ e. MayFollow meld limits now e) settle_is may).1

  -- the exchange of the place
  pub settles_comes : (meld : P → P → P) (limits : Limits) (alone : Bool) → IsTrue alone → (now after : History P) → IsLegal meld limits after → (settled : Result (Unit {0}) Settled)
      → Settles alone now after own x offer settled → Comes meld limits (Rank own.number) event now after
  settles_comes meld limits alone here now after legal (Ok _) gave =
      let same : gave.given ≡ p.given = same_given gave.given p.given (gave.offer_is ∙ sym offered.offer_is) (gave.known ∙ sym offered.known) (gave.acked ∙ sym offered.acked) in
      let e : Event P = Settle x.comm x.next_agreement own.number gave.given in
      let named : e ≡ event = ap (λ g. Settle x.comm x.next_agreement own.number g) same ∙ sym settle_is in
      subst (λ e. Comes meld limits (Rank own.number) e now after) named
      (comes_won meld limits (Rank own.number) now after legal e (own_alone alone here now after (entry (Rank own.number) e ∷ []) gave.did))
  settles_comes meld limits alone here now after legal (Err by) was =
      let is = did_quiet alone now after was.did here in
      comes_lost meld limits (Rank own.number) now after legal event is
      (λ may. let none = offers_empty meld limits now may in settled_some (slot after x.comm x.next_agreement own.number) by was.stands (ap (λ w. slot w x.comm x.next_agreement own.number) is ∙ none))

-- a rank that stands in a list is among the first so many
among_first : (xs : List ℕ) (n m d : ℕ) → n < m → n < length xs → has (take m xs) (slice_index_or xs n d) ≡ true
among_first [] n m d lt within = absurd (omega (arith, within))
among_first (x ∷ xs) n zero d lt within = absurd (omega (arith, lt))
among_first (x ∷ xs) zero (suc m) d lt within = or_left (x == x) (has (take m xs) x) (eq-eqb x x refl)
among_first (x ∷ xs) (suc n) (suc m) d lt within = or_right (x == slice_index_or xs n d) (has (take m xs) (slice_index_or xs n d)) (among_first xs n m d (omega (arith, lt)) (omega (arith, within)))

-- the exchange of the next member's place, in a marking
module _ {P : Type 0} (meld : P → P → P) (limits : Limits) (now after : History P) (legal : IsLegal meld limits after) (c k : ℕ) (group declared : List ℕ) (next known : ℕ)
    (may_all : MayMarkAll limits now c k group declared) (at : IsAt group declared next known) (more : next < length declared) where
  abbrev r : ℕ
  r = slice_index declared next

  -- while its place is empty it may be marked
  marks_may : IsLegal meld limits now → (mark : MarkCount) → mark.known.count ≡ known + 1 → slot now c k r ≡ None → MayFollow meld limits now (Mark c k r mark)
  marks_may was mark count none =
      may_mark meld limits now c k group declared next mark may_all more (at.member more) (count ∙ ap (λ n. n + 1) at.counted) now (prefix_self now) was none

  -- it is settled afterwards
  pub next_settled : (further : ℕ) (between : List ℕ) → next < further → members_in group declared further ≡ members_in group declared next ++ between → IsLegal meld limits now
      → AllByRecursion (λ q. IsTrue (is_some (slot after c k q))) between → IsTrue (is_some (slot after c k r))
  next_settled further between onward is was settled =
      let out = new_member meld limits now group declared [] (members_in group declared next) next was may_all.begins more refl in
      let in_all : has (members_in group declared further) r ≡ true = has_kept (has group) (take further declared) r (among_first declared next further 0 onward more) (at.member more) in
      let parted : (has (members_in group declared next) r || has between r) ≡ true = sym (list_any-append (λ x. x == r) (members_in group declared next) between) ∙ (ap (λ w. has w r) (sym is) ∙ in_all) in
      at_member (λ q. IsTrue (is_some (slot after c k q))) between r settled (sym (ap (λ b. b || has between r) out) ∙ parted)

  pub marks_comes : (alone : Bool) → IsTrue alone → (number : ℕ) → MarksOnce alone number c k r now after → IsTrue (is_some (slot after c k r)) → IsLegal meld limits now → (mark : MarkCount)
      → mark.known.count ≡ known + 1 → Comes meld limits (Rank number) (Mark c k r mark) now after
  marks_comes alone here number (inl did) set was mark count =
      let is = did_quiet alone now after did here in
      comes_lost meld limits (Rank number) now after legal (Mark c k r mark) is
      (λ may. let clash = sym set ∙ ap is_some (ap (λ w. slot w c k r) is ∙ may.1) in absurd (cc clash))
  marks_comes alone here number (inr (other, added)) set was mark count =
      let e : Event P = Mark c k r other in
      let is = added_alone alone here now after (entry (Rank number) e) added in
      let may = came_may meld limits now after legal (entry (Rank number) e) is in
      let due = marks_may was mark count may.1 in
      let distinct = distinct_filter (has (members limits.ranks now c)) (failures now) (failures_distinct meld limits now was) in
      let index = same_index (failed limits.ranks now c) (other.known.count - 1) (mark.known.count - 1) r distinct may.2 due.2 in
      let same : other ≡ mark = same_mark other mark (omega (arith, index, other.counted, mark.counted)) in
      subst (λ m. Comes meld limits (Rank number) (Mark c k r m) now after) same (comes_won meld limits (Rank number) now after legal e is)

-- an appending that goes on after a step has passed a place
index_on : (places index next was is : ℕ) (empty : Bool) → index < places → next < places → is ≡ was + 1 → is + (2 * (places - next) - (if empty then 1 else 0)) ≤ was + (2 * (places - index) - 1) → index < next
index_on places index next was is true within more one left = omega (arith, within, more, one, left)
index_on places index next was is false within more one left = omega (arith, within, more, one, left)

-- what stands in the list was made
made_in : (xs : List (ℕ × ℕ)) (i c k : ℕ) → slice_get xs i ≡ Some (c, k) → list_any (λ made. (made.0 == c) && (made.1 == k)) xs ≡ true
made_in [] i c k e = absurd (cc e)
made_in (x ∷ xs) zero c k e =
    let same : x ≡ (c, k) = cc e in
    or_left ((x.0 == c) && (x.1 == k)) (list_any (λ made. (made.0 == c) && (made.1 == k)) xs)
    (ap₂ (λ a b. a && b) (eq-eqb x.0 c (ap (λ (m : ℕ × ℕ). m.0) same)) (eq-eqb x.1 k (ap (λ (m : ℕ × ℕ). m.1) same)))
made_in (x ∷ xs) (suc i) c k e = or_right ((x.0 == c) && (x.1 == k)) (list_any (λ made. (made.0 == c) && (made.1 == k)) xs) (made_in xs i c k e)

-- the exchange of a place that was found empty, in the list of communicators
module _ {P : Type 0} (meld : P → P → P) (alone : Bool) (here : IsTrue alone) (name : Over P) (c k context : ℕ) (group : List ℕ) (append next : Append) (own new : Record) (now after : Sight P)
    (empty : append.empty ≡ true) (more : append.index < name.limits.comms - 1) where
  abbrev event : Event P
  event = Spawn (append.index + 1) c k

  pub spawns_comes : (result : Spawned) → SpawnIs meld alone (target c k context group) (seeking append (local own (view_at name now))) result (seeking next (local new (view_at name after)))
      → SpawnTakes false name.limits append result next now after → Comes meld name.limits append.by event now.seen after.seen
  spawns_comes spawned.Unknown is takes =
      let same = did_quiet alone now.seen after.seen is.0.did here in
      let left = subst (λ b. after.steps + turns_left (name.limits.comms - 1) next ≤ now.steps + (2 * (name.limits.comms - 1 - append.index) - (if b then 1 else 0))) empty takes.turns in
      let on = index_on (name.limits.comms - 1) append.index next.index now.steps after.steps next.empty more is.0.more (takes.one refl).steps left in
      let stands = is.0.passed append.index on in
      let within = in_list (map (λ made. OfComm made.0 made.1) (spawns after.seen)) append.index stands.0 stands.1 in
      let count = length-map (spawns after.seen) (λ (made : ℕ × ℕ). OfComm made.0 made.1) in
      comes_lost meld name.limits append.by now.seen after.seen is.0.of.legal event same
      (λ may. let earlier = ap (λ w. length (spawns w)) same in absurd (omega (arith, within, count, earlier, may.next)))
  spawns_comes spawned.Full is takes =
      let same = did_quiet alone now.seen after.seen is.0.did here in
      comes_lost meld name.limits append.by now.seen after.seen is.0.of.legal event same
      (λ may. let earlier = ap (λ w. length (spawns w)) same in absurd (omega (arith, is.0.full, earlier, may.next, may.room)))
  spawns_comes (spawned.Made j size) is takes = by is.0.few
    where
      by : (is.0.own ≡ []) ⊎ ((i : ℕ) × (is.0.own ≡ Spawn i c k ∷ [])) → Comes meld name.limits append.by event now.seen after.seen
      by (inl none) =
          let same : after.seen ≡ now.seen = own_alone alone here now.seen after.seen (entries_by append.by is.0.own) is.0.did ∙ (ap (λ w. now.seen ++ entries_by append.by w) none ∙ append-nil now.seen) in
          comes_lost meld name.limits append.by now.seen after.seen is.0.of.legal event same
          (λ may. let clash = sym (made_in (spawns after.seen) (j - 1) c k is.0.made) ∙ (ap (λ w. is_made w c k) same ∙ may.first) in absurd (cc clash))
      by (inr (i, one)) =
          let e : Event P = Spawn i c k in
          let came : after.seen ≡ now.seen ++ entry append.by e ∷ [] = own_alone alone here now.seen after.seen (entries_by append.by is.0.own) is.0.did ∙ ap (λ w. now.seen ++ entries_by append.by w) one in
          let may = came_may meld name.limits now.seen after.seen is.0.of.legal (entry append.by e) came in (
            λ due.
                let number : i ≡ append.index + 1 = may.next ∙ sym due.next in
                subst (λ n. after.seen ≡ now.seen ++ entry append.by (Spawn n c k) ∷ []) number came,
            λ not. absurd (not i may),
          )

-- What the judge's steps do, over plain lists.
use Rattle.std.proofs.Common.{◌≡◌, ◌<◌, ◌∷◌, ◌++◌, [], ℕ, Bool, true, false, cond, not, List, length, Option, Some, None, is_some, get_or, set, refl, sym, ap, ap₂, ◌∙◌, inl, inr}
use Rattle.std.specs.Prelude.{◌&&◌, find, if◌then◌else◌, take, unwrap_or}
use Rattle.ulfm_model.specs.declared.{call.Call.{Call}, event.Caller.{Caller}, event.Event.{Event}, limits.Limits.{Limits}}
use Rattle.ulfm_model.specs.{Answers.{traits_of}, History.{History, failures}, Records.{Record}}
use Rattle.ulfm_model.specs.declared.record.RankRecord.{RankRecord}
use Rattle.ulfm_model.specs.declared.line.{Line.{Line}, Why.{Why}}
use Rattle.ulfm_model.specs.Traces.{IsBad, Takes, Traced, Under, call_by, caller_of, change_by, found_by, is_owned, record_in, same_caller, with_event}
use Rattle.ulfm_judge.specs.declared.calls.OpenCall.{OpenCall}
use Rattle.ulfm_judge.specs.{Kept.{AreCalls, GoesWith, place_by, seat_of, traced_of, under_of}, Tests.{due_test, own_by_test, own_call_test, own_test}}
use Rattle.ulfm_numbers.specs.{Seen.{seen_of}, Tests.{follow_test}}
use Rattle.ulfm_judge.proofs.Deciding.{due_decides, own_by_decides}
use Rattle.ulfm_numbers.proofs.Deciding.{follow_decides}
use Rattle.ulfm_judge.proofs.Seating.{begun_at, changed_at, kept_here, kept_nowhere, stood}

-- a caller without a call: nothing changes
pub change_nobody : {P : Type 0} (by : Caller) (f : Under P → Under P) (ys : List (Under P)) → find (λ u. same_caller (caller_of u) by) ys ≡ None → ys ≡ change_by by f ys
change_nobody by f [] e = refl
change_nobody by f (y ∷ ys) e =
    elim (same_caller (caller_of y) by) as (λ b. cond b (Some y) (find (λ u. same_caller (caller_of u) by) ys) ≡ None → y ∷ ys ≡ cond b (f y ∷ ys) (y ∷ change_by by f ys))
    [ true ↦ λ e. absurd (cc e) | false ↦ λ e. ap (λ zs. y ∷ zs) (change_nobody by f ys e) ] e

-- a further event leaves a call's caller
pub event_keeps : {P : Type 0} (event : Event P) (u : Under P) → caller_of (with_event event u) ≡ caller_of u
event_keeps event u = go (is_owned u event)
  where
    go : (b : Bool) → caller_of (cond b (record u { own = u.own ++ event ∷ [] }) u) ≡ caller_of u
    go true = refl
    go false = refl

module _ {P A : Type 0} (meld : P → P → P) (limits : Limits) (h : History P) (records : List (RankRecord A)) (calls : List (OpenCall P A)) (us : List (Under P)) (are : AreCalls calls us) (group : List ℕ) where
  abbrev now : Traced P
  now = traced_of limits h records us

  -- what is said with other calls
  abbrev with_calls : List (Under P) → Traced P
  with_calls next = traced_of limits h records next

  pub open_here : (by : Caller) (i : ℕ) (d : OpenCall P A) → place_by calls by ≡ Some i → call_by now by ≡ Some (under_of (get_or calls i d))
  open_here by i d at = are by ∙ kept_here calls by i d at

  pub none_open : (by : Caller) → place_by calls by ≡ None → call_by now by ≡ None
  none_open by at = are by ∙ kept_nowhere calls by at

  -- where a call stands, one is open
  pub open_somewhere : (by : Caller) (i : ℕ) → place_by calls by ≡ Some i → (u : Under P) × (call_by now by ≡ Some u)
  open_somewhere by i at = let d = (stood calls by i at).call in (under_of (get_or calls i d), open_here by i d at)

  -- a line that says a reply which is none: its caller has no call open, or has one that isn't answered so
  pub unread : (by : Caller) (point : ℕ) (place : Option ℕ) → place_by calls by ≡ place
      → IsBad meld now group (Line.Replied by point None) (if is_some place then Why.Reply else Why.Call)
  unread by point None at = inl (refl, λ is_open. absurd (cc (ap is_some (none_open by at), is_open)))
  unread by point (Some i) at = inr (refl, ap is_some (open_somewhere by i at).1, λ may. may)

  -- a call begins, where there is room for it
  pub begins : (asked : Call P) (roomy : List (OpenCall P A)) (i : ℕ) (y : OpenCall P A) → place_by calls (traits_of asked).by ≡ None → AreCalls roomy us → i ≡ seat_of (traits_of asked).by → i < length roomy
      → y.is_open ≡ true → under_of y ≡ record { asked = asked; begun = length h; look = None; own = [] } → GoesWith (set roomy i y) (λ next. Takes meld now group (Line.Called asked false) (with_calls next)) None
  begins asked roomy i y at roomy_are seat within holds is =
      let by = (traits_of asked).by in
      let new : Under P = record { asked = asked; begun = length h; look = None; own = [] } in
      let none = none_open by at in
      (us ++ new ∷ [], begun_at roomy us by i y new roomy_are seat within none refl holds is, (none, refl))

  -- its caller has one open
  pub busy : (asked : Call P) (i : ℕ) → place_by calls (traits_of asked).by ≡ Some i → GoesWith calls (λ next. Takes meld now group (Line.Called asked false) (with_calls next)) (Some Why.Call)
  busy asked i at = let there = open_somewhere (traits_of asked).by i at in (us, are, ((refl, λ none. absurd (cc (there.1, none))), refl))

  -- a look by a rank that has no call open
  pub no_call : (r count : ℕ) → place_by calls (Caller.Rank r) ≡ None → GoesWith calls (λ next. Takes meld now group (Line.Looked r count) (with_calls next)) (Some Why.Call)
  no_call r count at = (us, are, (inl (refl, λ is_open. absurd (cc (ap is_some (none_open (Caller.Rank r) at), is_open))), refl))

  -- a look that is due and exact
  pub looks : (r count i : ℕ) (d y : OpenCall P A) → place_by calls (Caller.Rank r) ≡ Some i → due_test (record_in now r) (get_or calls i d).look ≡ true → count ≡ length (failures h)
      → y.is_open ≡ true → under_of y ≡ record (under_of (get_or calls i d)) { look = Some count } → GoesWith (set calls i y) (λ next. Takes meld now group (Line.Looked r count) (with_calls next)) None
  looks r count i d y at due exact holds is =
      let by = Caller.Rank r in
      let looked = λ (u : Under P). record u { look = Some count } in (
        change_by by looked us,
        changed_at calls us by looked (λ u. refl) i d y are at holds is,
        (((due_decides now r (under_of (get_or calls i d)) (open_here by i d at)).0 due, exact), refl),
      )

  -- one that isn't due
  pub undue : (r count i : ℕ) (d : OpenCall P A) → place_by calls (Caller.Rank r) ≡ Some i → due_test (record_in now r) (get_or calls i d).look ≡ false
      → GoesWith calls (λ next. Takes meld now group (Line.Looked r count) (with_calls next)) (Some Why.Look)
  undue r count i d at due =
      let there = open_here (Caller.Rank r) i d at in (
        us,
        are,
        (inr (refl, ap is_some there, λ may. let is_due = (due_decides now r (under_of (get_or calls i d)) there).1 may.0 in absurd (cc (due, is_due))), refl),
      )

  -- one that found another number
  pub inexact : (r count i : ℕ) (d : OpenCall P A) → place_by calls (Caller.Rank r) ≡ Some i → (count ≡ length (failures h) → ⊥)
      → GoesWith calls (λ next. Takes meld now group (Line.Looked r count) (with_calls next)) (Some Why.Look)
  inexact r count i d at apart = (us, are, (inr (refl, ap is_some (open_here (Caller.Rank r) i d at), λ may. apart may.1), refl))

  -- an event that may not come next
  pub bad_event : (by : Caller) (event : Event P) → follow_test meld limits (seen_of limits.ranks h) event ≡ false → Takes meld now group (Line.Happened by (Some event)) now (Some Why.Event)
  bad_event by event is = (inl (refl, λ may. let yes_it : follow_test meld limits (seen_of limits.ranks h) event ≡ true = (follow_decides meld limits h event).1 may in cc (is, yes_it)), refl)

  -- one that its caller may not add
  pub bad_own : (by : Caller) (event : Event P) → follow_test meld limits (seen_of limits.ranks h) event ≡ true → own_by_test now by event ≡ false → Takes meld now group (Line.Happened by (Some event)) now (Some Why.Own)
  bad_own by event may is =
      (inr (refl, (follow_decides meld limits h event).0 may, λ own. let yes_it : own_by_test now by event ≡ true = (own_by_decides now by event).1 own in cc (is, yes_it)), refl)

  -- one that may come
  pub happens : (by : Caller) (event : Event P) → follow_test meld limits (seen_of limits.ranks h) event ≡ true → own_by_test now by event ≡ true
      → Takes meld now group (Line.Happened by (Some event)) (traced_of limits (h ++ record { by = by; event = event } ∷ []) records (change_by by (with_event event) us)) None
  happens by event may own = (((follow_decides meld limits h event).0 may, (own_by_decides now by event).0 own), refl)

-- an event that isn't the call's own
pub unowned : {P : Type 0} (event : Event P) (u : Under P) → is_owned u event ≡ false → u ≡ with_event event u
unowned event u is = sym (ap (λ b. cond b (record u { own = u.own ++ event ∷ [] }) u) is)

-- one that is
pub owned : {P : Type 0} (event : Event P) (u : Under P) → is_owned u event ≡ true → record u { own = u.own ++ event ∷ [] } ≡ with_event event u
owned event u is = sym (ap (λ b. cond b (record u { own = u.own ++ event ∷ [] }) u) is)

pub not_false : (b : Bool) → not b ≡ false → b ≡ true
not_false true e = refl
not_false false e = absurd (cc e)

pub not_true : (b : Bool) → not b ≡ true → b ≡ false
not_true true e = absurd (cc e)
not_true false e = refl

-- what a caller may add, by what is found of it
pub own_by : {P : Type 0} (now : Traced P) (r : ℕ) (event : Event P) (call : Option (Under P)) (own : Option Record) → call_by now (Caller.Rank r) ≡ call → record_in now r ≡ own → own_call_test now call own event ≡ own_by_test now (Caller.Rank r) event
own_by now r event call own is has_own = ap₂ (λ c o. own_call_test now c o event) (sym is) (sym has_own)

pub nobody_adds : {P : Type 0} (now : Traced P) (r : ℕ) (event : Event P) → call_by now (Caller.Rank r) ≡ None → false ≡ own_by_test now (Caller.Rank r) event
nobody_adds now r event is = ap (λ c. own_call_test now c (record_in now r) event) (sym is)

pub stranger_adds : {P : Type 0} (now : Traced P) (r : ℕ) (event : Event P) (u : Under P) → call_by now (Caller.Rank r) ≡ Some u → record_in now r ≡ None → false ≡ own_by_test now (Caller.Rank r) event
stranger_adds now r event u is none = own_by now r event (Some u) None is none

pub unlooked : {P : Type 0} (now : Traced P) (r : ℕ) (event : Event P) (u : Under P) (own : Record) → call_by now (Caller.Rank r) ≡ Some u → record_in now r ≡ Some own → u.look ≡ None → false ≡ own_by_test now (Caller.Rank r) event
unlooked now r event u own is has_own none =
    sym (ap (λ look. is_some look && own_test (found_by now u) own u.asked event) none) ∙ own_by now r event (Some u) (Some own) is has_own

pub looked : {P : Type 0} (now : Traced P) (r : ℕ) (event : Event P) (u : Under P) (own : Record) (count : ℕ) (found : List ℕ) → call_by now (Caller.Rank r) ≡ Some u → record_in now r ≡ Some own → u.look ≡ Some count → found ≡ take count (failures now.history)
    → own_test found own u.asked event ≡ own_by_test now (Caller.Rank r) event
looked now r event u own count found is has_own look same =
    ap (λ xs. own_test xs own u.asked event) same
    ∙ (sym (ap (λ l. is_some l && own_test (take (unwrap_or l 0) (failures now.history)) own u.asked event) look)
    ∙ own_by now r event (Some u) (Some own) is has_own)

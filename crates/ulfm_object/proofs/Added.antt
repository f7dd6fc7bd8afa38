-- What a call of a rank adds declares nobody, and makes at most one communicator, where there is room.
use Rattle.std.proofs.Common.{◌≡◌, ℕ, ◌+◌, ◌<◌, Bool, true, false, not, ◌&&◌, nat_lt, List, [], ◌∷◌, ◌++◌, length, Option, Some, None, is_some, refl, ap, sym, ◌∙◌, subst, arith, append_assoc, append-nil, length-append, if◌then◌else◌}
use Rattle.std.specs.List.{AllByRecursion, cons_option, enumerate_from}
use Rattle.std.proofs.lemmas.List.{map-append}
use Rattle.std.proofs.lemmas.List.Elements.{filter_map-append}
use Rattle.std.proofs.lemmas.Bool.{and_parts}
use Rattle.std.proofs.lemmas.Bool.Decides.{nat_tests}
use Rattle.ulfm_model.specs.declared.{call.Call.{Call}, call.Request.{Request}, call.Request.TheVariants.{Agree, Shrink, Barrier}, contribution.Offer.TheVariants.{Flag, Ctx}, event.Caller.{Caller}, event.Caller.TheVariants.{Rank}, event.Entry.{Entry}, event.Event.{Event}, event.Event.TheVariants.{Mark, Spawn}, limits.Limits.{Limits}}
use Rattle.ulfm_model.specs.declared.call.Call.TheVariants as call
use Rattle.ulfm_model.specs.{History.{History, decision, entries_by, failed, failures, has, has_arrived, is_decided, is_made, is_revoked, slot, spawns}, Records.{Held, Record, free_ids}}
use Rattle.ulfm_model.specs.Computed.{added, added_by_poll, is_free_mask, mark_at, mark_of, marks_of, settle_of, spawn_of}
use Rattle.ulfm_object.specs.Objects.{IsFew}
use Rattle.ulfm_model.proofs.Lists.{each_filter_map}
use Rattle.ulfm_model.proofs.OneEvent.{declared_by, made_by}

module _ {P : Type 0} where
  -- an event that declares nobody and makes no communicator
  pub record IsStill (e : Event P) : Type 0 where
    pub declares : declared_by e ≡ None
    pub makes : made_by e ≡ None

  pub few_push : (h : History P) (e : Entry P) → IsFew h → declared_by e.event ≡ None → length (spawns h) + length (cons_option (made_by e.event) []) < 65535 → IsFew (h ++ e ∷ [])
  few_push h e few declares room =
      let fails : length (failures (h ++ e ∷ [])) ≡ length (failures h) + length (cons_option (declared_by e.event) []) =
      ap length (filter_map-append (λ x. declared_by x.event) h (e ∷ [])) ∙ length-append (failures h) (cons_option (declared_by e.event) []) in
      let none : length (cons_option (declared_by e.event) []) ≡ 0 = ap (λ o. length (cons_option o [])) declares in
      let makes : length (spawns (h ++ e ∷ [])) ≡ length (spawns h) + length (cons_option (made_by e.event) []) =
      ap length (filter_map-append (λ x. made_by x.event) h (e ∷ [])) ∙ length-append (spawns h) (cons_option (made_by e.event) []) in
      record { failures = omega (arith, few.failures, fails, none); spawns = omega (arith, makes, room) }

  pub few_still : (h : History P) (by : Caller) (events : List (Event P)) → IsFew h → AllByRecursion IsStill events → IsFew (h ++ entries_by by events)
  few_still h by [] few still = subst IsFew (sym (append-nil h)) few
  few_still h by (e ∷ events) few still =
      let entry : Entry P = record { by = by; event = e } in
      let none : length (cons_option (made_by e) []) ≡ 0 = ap (λ o. length (cons_option o [])) still.0.makes in
      let next = few_push h entry few still.0.declares (omega (arith, few.spawns, none)) in
      subst IsFew (append_assoc h (entry ∷ []) (entries_by by events)) (few_still (h ++ entry ∷ []) by events next still.1)

  unless_still : (b : Bool) (e : Event P) → IsStill e → AllByRecursion IsStill (if b then [] else e ∷ [])
  unless_still true e still = tt
  unless_still false e still = (still, tt)

  mark_still : (h : History P) (c k : ℕ) (place : ℕ × ℕ) (e : Event P) → mark_of h c k place ≡ Some e → IsStill e
  mark_still h c k place e is =
      let mark : Event P = Mark c k place.1 (mark_at place.0) in
      elim (is_some (slot h c k place.1)) as (λ (b : Bool). ◌≡◌ {A = Option (Event P)} (if b then None else Some mark) (Some e) → IsStill e) [
        | true ↦ λ is. absurd (cc is)
        | false ↦ λ is. let same : mark ≡ e = cc is in subst IsStill same (record { declares = refl; makes = refl })
      ] is

  marks_still : (ranks : ℕ) (h : History P) (c k : ℕ) → AllByRecursion IsStill (marks_of ranks h c k)
  marks_still ranks h c k = each_filter_map (mark_of h c k) IsStill (mark_still h c k) (enumerate_from 1 (failed ranks h c))

module _ {P : Type 0} (meld : P → P → P) (limits : Limits) (small : limits.comms < 65536) where
  few_spawn : (h : History P) (r c k : ℕ) → IsFew h → IsFew (h ++ entries_by (Rank r) (spawn_of meld limits h r c k))
  few_spawn h r c k few =
      let made = decision meld limits.ranks h c k in
      let fits = nat_lt (length (spawns h) + 1) limits.comms in
      let test = is_decided limits.ranks h c k && (is_free_mask made.body && (not (has made.failed r) && (not (is_made h c k) && fits))) in
      let room : test ≡ true → fits ≡ true =
      λ (is : test ≡ true).
      (and_parts (not (is_made h c k)) fits
      (and_parts (not (has made.failed r)) (not (is_made h c k) && fits)
      (and_parts (is_free_mask made.body) (not (has made.failed r) && (not (is_made h c k) && fits))
      (and_parts (is_decided limits.ranks h c k) (is_free_mask made.body && (not (has made.failed r) && (not (is_made h c k) && fits))) is).1).1).1).1 in
      go h r c k few test (λ is. grind (arith, nat_tests, room is))
    where
      go : (h : History P) (r c k : ℕ) → IsFew h → (b : Bool) → (b ≡ true → length (spawns h) + 1 < limits.comms) → IsFew (h ++ entries_by (Rank r) (if b then Spawn (length (spawns h) + 1) c k ∷ [] else []))
      go h r c k few true room = few_push h (record { by = Rank r; event = Spawn (length (spawns h) + 1) c k }) few refl (omega (arith, room refl, small))
      go h r c k few false room = few_still h (Rank r) [] few tt

  few_poll : (h : History P) (r c : ℕ) (request : Option Request) → IsFew h → IsFew (h ++ entries_by (Rank r) (added_by_poll meld limits h r c request))
  few_poll h r c None few = few_still h (Rank r) [] few tt
  few_poll h r c (Some (Agree k)) few = few_still h (Rank r) (marks_of limits.ranks h c k) few (marks_still limits.ranks h c k)
  few_poll h r c (Some (Shrink k)) few =
      let marks = marks_of limits.ranks h c k in
      let marked = h ++ entries_by (Rank r) marks in
      let spawn = spawn_of meld limits marked r c k in
      subst IsFew (append_assoc h (entries_by (Rank r) marks) (entries_by (Rank r) spawn) ∙ ap (λ w. h ++ w) (sym (map-append (λ (e : Event P). let entry : Entry P = record { by = Rank r; event = e } in entry) marks spawn)))
      (few_spawn marked r c k (few_still h (Rank r) marks few (marks_still limits.ranks h c k)))
  few_poll h r c (Some (Barrier k)) few = few_still h (Rank r) [] few tt

  -- failures and communicators stay few
  pub few_added : (h : History P) (own : Record) (x : Held) (asked : Call P) → IsFew h → IsFew (h ++ entries_by (Rank own.number) (added meld limits h own x asked))
  few_added h own x (call.Fail rank) few = few_still h (Rank own.number) [] few tt
  few_added h own x (call.GetFailed rank c) few = few_still h (Rank own.number) [] few tt
  few_added h own x (call.FailureGetAcked rank c) few = few_still h (Rank own.number) [] few tt
  few_added h own x (call.Ack rank c count) few = few_still h (Rank own.number) [] few tt
  few_added h own x (call.FailureAck rank c) few = few_still h (Rank own.number) [] few tt
  few_added h own x (call.Agree rank c value) few =
      few_still h (Rank own.number) (settle_of h own.number x (Flag value)) few (unless_still (is_some (slot h x.comm x.next_agreement own.number)) _ (record { declares = refl; makes = refl }))
  few_added h own x (call.Shrink rank c) few =
      few_still h (Rank own.number) (settle_of h own.number x (Ctx (free_ids own.held))) few (unless_still (is_some (slot h x.comm x.next_agreement own.number)) _ (record { declares = refl; makes = refl }))
  few_added h own x (call.Barrier rank c) few =
      few_still h (Rank own.number) (added meld limits h own x (call.Barrier rank c)) few (unless_still (has_arrived h x.comm x.next_barrier own.number) _ (record { declares = refl; makes = refl }))
  few_added h own x (call.Poll rank c) few = few_poll h own.number x.comm x.request few
  few_added h own x (call.Revoke rank c) few =
      few_still h (Rank own.number) (added meld limits h own x (call.Revoke rank c)) few (unless_still (is_revoked h c) _ (record { declares = refl; makes = refl }))
  few_added h own x (call.IsRevoked rank c) few = few_still h (Rank own.number) [] few tt
  few_added h own x (call.Free rank c) few = few_still h (Rank own.number) [] few tt

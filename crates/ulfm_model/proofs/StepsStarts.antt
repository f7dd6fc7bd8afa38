-- Starts: what is computed for them is an answer.
use Rattle.std.proofs.Common.{◌≡◌, ℕ, ◌-◌, ◌<◌, ◌≤◌, Bool, true, false, List, [], ◌∷◌, ◌++◌, length, Option, Some, None, is_some, refl, ap, sym, ◌∙◌, arith, append-nil, filter, filter_map, inl, inr, if◌then◌else◌}
use Rattle.std.specs.List.{AllByRecursion, list_any}
use Rattle.std.proofs.lemmas.Bool.{or_left, or_right}
use Rattle.std.proofs.lemmas.List.Elements.{filter_map-append}
use Rattle.std.proofs.lemmas.List.Folds.{list_any-append}
use Rattle.ulfm_model.specs.declared.call.Call.TheVariants as call
use Rattle.ulfm_model.specs.declared.reply.Reply.TheVariants.{Started, Refused}
use Rattle.ulfm_model.specs.declared.refusal.Refusal.TheVariants.{Twice}
use Rattle.ulfm_model.specs.declared.contribution.Contribution.{Contribution}
use Rattle.ulfm_model.specs.declared.contribution.MarkCount.{MarkCount}
use Rattle.ulfm_model.specs.declared.contribution.Offer.{Offer}
use Rattle.ulfm_model.specs.declared.contribution.Offer.TheVariants.{Flag, Ctx}
use Rattle.ulfm_model.specs.declared.contribution.Slot.{Slot}
use Rattle.ulfm_model.specs.declared.contribution.Slot.TheVariants.{Given, Mark as Marked}
use Rattle.ulfm_model.specs.declared.limits.Limits.{Limits}
use Rattle.ulfm_model.specs.declared.event.Caller.TheVariants.{Rank}
use Rattle.ulfm_model.specs.declared.event.Entry.{Entry}
use Rattle.ulfm_model.specs.declared.event.Event.{Event}
use Rattle.ulfm_model.specs.declared.event.Event.TheVariants.{Settle, Arrive}
use Rattle.ulfm_model.specs.History.{History, entries_by, failures, has, has_arrived, same_place, says, slot}
use Rattle.ulfm_model.specs.History.{IsLegal, IsLegalAfter, failed, members}
use Rattle.ulfm_model.specs.Computed.{given_at, held_outcome, start_reply}
use Rattle.ulfm_model.specs.Records.{FitsHeld, Held, Record, free_ids, held_at}
use Rattle.ulfm_model.specs.Answers.{StartReplies, refusal_of}
use Rattle.ulfm_model.proofs.{Histories.{slot_push}, Lists.{has_at, has_filter}}
use Rattle.ulfm_model.proofs.Decisions.{slot_stands}
use Rattle.ulfm_model.proofs.Marking.{failed_few, same_itself}
use Rattle.ulfm_model.proofs.StepsAlone.{IsGood, call_good, view_with}

module _ {P : Type 0} (meld : P → P → P) (limits : Limits) (h : History P) (legal : IsLegal meld limits h) (own : Record) (alive : has (failures h) own.number ≡ false) where
  -- what stands at the place of a rank that isn't declared is no mark
  pub not_marked : (c k : ℕ) (mark : MarkCount) → slot h c k own.number ≡ Some (Marked mark) → ⊥
  not_marked c k mark is =
      let stands = slot_stands meld limits h legal c k own.number (Marked mark) is in
      let in_failed = has_at (failed limits.ranks h c) (mark.known.count - 1) own.number stands.names in
      let declared : has (failures h) own.number ≡ true = has_filter (has (members limits.ranks h c)) (failures h) own.number in_failed in
      cc (declared, alive)

  module _ (ids : List ℕ) (x : Held) (fits : FitsHeld meld limits.ranks h own.number ids x) where
    -- what a start adds, by what stood at the rank's place
    abbrev start_by : Offer P → Option (Slot P) → List (Event P)
    start_by offer was = if is_some was then [] else Settle x.comm x.next_agreement own.number (given_at offer (length (filter (has x.group) (failures h))) x.acked) ∷ []

    -- it is legal, the rank's own, and answered
    record IsStart (offer : Offer P) (was : Option (Slot P)) : Type 0 where
      pub legal_after : IsLegalAfter meld limits h (entries_by (Rank own.number) (start_by offer was))
      pub adds : AllByRecursion (λ event. (given : Contribution P) × (event ≡ Settle x.comm x.next_agreement own.number given)) (start_by offer was)
      pub replies : StartReplies (view_with meld limits h own (start_by offer was)) own x offer (start_reply was)

    -- a start that has a round left is such
    start_is : (offer : Offer P) → limits.ranks ≤ 1024 → x.next_agreement < limits.rounds → (was : Option (Slot P)) → slot h x.comm x.next_agreement own.number ≡ was → IsStart offer was
    start_is offer small round (Some (Marked mark)) was = absurd (not_marked x.comm x.next_agreement mark was)
    start_is offer small round (Some (Given given)) was = record {
      legal_after = tt;
      adds = tt;
      replies = inr (refl, refl, inl (given, ap (λ w. slot w x.comm x.next_agreement own.number) (append-nil h) ∙ was));
    }
    start_is offer small round None was =
        let n = length (filter (has x.group) (failures h)) in
        let few = failed_few meld limits h x.group legal in
        let same : n ≡ length (failed limits.ranks h x.comm) = ap (λ w. length (filter (has w) (failures h))) fits.group in
        let given : Contribution P = given_at offer n x.acked in
        let entry : Entry P = record { by = Rank own.number; event = Settle x.comm x.next_agreement own.number given } in
        record {
          legal_after = (
            (
              record { exists = fits.exists; member = ap (λ w. has w own.number) (sym fits.group) ∙ fits.member; in_rounds = round },
              was,
              omega (arith, same),
            ),
            tt,
          );
          adds = ((given, refl), tt);
          replies = inl (
            refl,
            record {
              given = given;
              own = refl;
              stands =
                  slot_push h entry x.comm x.next_agreement own.number was
                  ∙ ap (λ b. if b then Some (Given given) else None) (same_itself x.comm x.next_agreement own.number);
              offer_is = refl;
              known = omega (arith, few, small);
              acked = omega (arith, few, small, fits.acked, same);
            },
          );
        }

    -- the start of an agree
    pub agree_good : (rank c : ℕ) (value : P) → held_at own c ≡ Some x → refusal_of {P = P} own (call.Agree rank c value) ≡ None → limits.ranks ≤ 1024 → x.next_agreement < limits.rounds
        → IsGood meld limits h own (call.Agree rank c value) (held_outcome meld limits h own x (call.Agree rank c value))
    agree_good rank c value at passed small round =
        let start = start_is (Flag value) small round (slot h x.comm x.next_agreement own.number) refl in
        call_good meld limits h own (call.Agree rank c value) x (held_outcome meld limits h own x (call.Agree rank c value)) at passed alive start.legal_after start.adds start.replies (λ polls. absurd (cc polls))

    -- the start of a shrink
    pub shrink_good : (rank c : ℕ) → held_at own c ≡ Some x → refusal_of {P = P} own (call.Shrink rank c) ≡ None → limits.ranks ≤ 1024 → x.next_agreement < limits.rounds
        → IsGood meld limits h own (call.Shrink rank c) (held_outcome meld limits h own x (call.Shrink rank c))
    shrink_good rank c at passed small round =
        let start = start_is (Ctx (free_ids own.held)) small round (slot h x.comm x.next_agreement own.number) refl in
        call_good meld limits h own (call.Shrink rank c) x (held_outcome meld limits h own x (call.Shrink rank c)) at passed alive start.legal_after start.adds start.replies (λ polls. absurd (cc polls))

    -- the start of a barrier
    pub barrier_good : (rank c : ℕ) → held_at own c ≡ Some x → refusal_of {P = P} own (call.Barrier rank c) ≡ None → x.next_barrier < limits.rounds
        → IsGood meld limits h own (call.Barrier rank c) (held_outcome meld limits h own x (call.Barrier rank c))
    barrier_good rank c at passed round = by_arrival (has_arrived h x.comm x.next_barrier own.number) refl
      where
        by_arrival : (b : Bool) → has_arrived h x.comm x.next_barrier own.number ≡ b
            → IsGood meld limits h own (call.Barrier rank c) (record { own = if b then [] else Arrive x.comm x.next_barrier own.number ∷ []; reply = if b then Refused Twice else Started })
        by_arrival true was =
            call_good meld limits h own (call.Barrier rank c) x (record { own = []; reply = Refused Twice }) at passed alive tt tt
            (ap (λ w. has_arrived w x.comm x.next_barrier own.number) (append-nil h) ∙ was, inr (refl, refl)) (λ polls. refl)
        by_arrival false was =
            let place : ℕ × ℕ × ℕ = (x.comm, x.next_barrier, own.number) in
            let entry : Entry P = record { by = Rank own.number; event = Arrive x.comm x.next_barrier own.number } in
            let before = filter_map (λ e. (says e.event).arrives) h in
            let arrived : has_arrived (h ++ entry ∷ []) x.comm x.next_barrier own.number ≡ true =
            ap (list_any (λ p. same_place p place)) (filter_map-append (λ e. (says e.event).arrives) h (entry ∷ []))
            ∙ (list_any-append (λ p. same_place p place) before (place ∷ [])
            ∙ or_right (list_any (λ p. same_place p place) before) (list_any (λ p. same_place p place) (place ∷ [])) (or_left (same_place place place) false (same_itself x.comm x.next_barrier own.number))) in
            call_good meld limits h own (call.Barrier rank c) x (record { own = entry.event ∷ []; reply = Started }) at passed alive
            ((record { exists = fits.exists; member = ap (λ w. has w own.number) (sym fits.group) ∙ fits.member; in_rounds = round }, was), tt)
            (refl, tt) (arrived, inl (refl, refl)) (λ polls. refl)

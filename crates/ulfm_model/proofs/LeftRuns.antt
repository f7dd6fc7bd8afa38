-- The record that a call leaves fits the history that it leaves.
use Rattle.std.proofs.Common.{◌≡◌, ℕ, suc, Bool, true, false, List, [], ◌∷◌, append-nil, Some, refl, ap, sym, ◌∙◌, subst, arith, inl, inr}
use Rattle.std.specs.Prelude.{Contains}
use Rattle.std.proofs.lemmas.List.Elements.{Contains-append_right}
use mathlib.Core.List.{IsPrefix}
use Rattle.ulfm_model.specs.declared.{call.Call.{Call}, event.Caller.{Caller}, event.Caller.TheVariants.{Outside, Rank}, event.Event.{Event}, limits.Limits.{Limits}, reply.Reply.{Reply}, reply.Reply.TheVariants.{Started, Pending, Agreed, Shrunk, Done, FailedGroup, Acked, Declared, AlreadyFailed, Revoked, AlreadyRevoked, Standing, Freed, Refused}}
use Rattle.ulfm_model.specs.{Answers.{Effect, Sees, left_by, polled_by, printed, left_with}, Answers.Effect.{Ends, ForGood, Keeps}, History.{Exists, History, IsLegal, entries_by, failures}, Records.{Fits, Held, Record, held_at, is_shrink}, Runs.{IsCall, IsFailRun, IsRun, IsSpan, StandsIn}}
use Rattle.ulfm_model.specs.Terms.{IsOwn, comm_of, rests_on}
use Rattle.ulfm_model.specs.Records.{moment}
use Rattle.ulfm_model.proofs.Lists.{prefix_trans}
use Rattle.ulfm_model.proofs.Histories.{failures_begin, members_stay}
use Rattle.ulfm_model.proofs.Stable.{fits_stays}
use Rattle.ulfm_model.proofs.LeftFits.{fits_seen, held_fits}
use Rattle.ulfm_model.proofs.LeftReplies.{answer_fits}

-- a list has what stands in it alone
stands_has : {E : Type 0} (x : E) (ys : List E) → StandsIn (x ∷ []) ys → Contains ys x
stands_has x [] stands = absurd stands
stands_has x (y ∷ ys) (inl here) = (0, omega arith, sym here.0)
stands_has x (y ∷ ys) (inr later) = let there = stands_has x ys later in let within = there.1 in (suc there.0, omega (arith, within), there.2)

-- a reply leaves the record's number, and what the rank has seen
pub left_keeps : {P : Type 0} (ranks : ℕ) (h : History P) (now : Record) (asked : Call P) (reply : Reply P)
    → (let left = left_by ranks h now asked reply in (left.number ≡ now.number) × (left.seen ≡ now.seen))
left_keeps ranks h now asked Started = (refl, refl)
left_keeps ranks h now asked Pending = (refl, refl)
left_keeps ranks h now asked (Agreed raised count value) = (refl, refl)
left_keeps ranks h now asked (Shrunk j context size) = (refl, refl)
left_keeps ranks h now asked Done = (refl, refl)
left_keeps ranks h now asked (FailedGroup count) = (refl, refl)
left_keeps ranks h now asked (Acked count) = (refl, refl)
left_keeps ranks h now asked Declared = (refl, refl)
left_keeps ranks h now asked AlreadyFailed = (refl, refl)
left_keeps ranks h now asked Revoked = (refl, refl)
left_keeps ranks h now asked AlreadyRevoked = (refl, refl)
left_keeps ranks h now asked (Standing revoked) = (refl, refl)
left_keeps ranks h now asked Freed = (refl, refl)
left_keeps ranks h now asked (Refused refusal) = by_effect (printed refusal).2
  where
    by_effect : (effect : Effect) → (let left = left_with now (comm_of asked) effect in (left.number ≡ now.number) × (left.seen ≡ now.seen))
    by_effect Keeps = (refl, refl)
    by_effect Ends = (refl, refl)
    by_effect ForGood = (refl, refl)

module _ {P : Type 0} (meld : P → P → P) (limits : Limits) (alone : Bool) (before after : History P) where
  module _ (caller : Caller) (span : IsSpan meld limits alone before after caller) where
    -- a call goes on from what was seen before it
    pub look_begins : IsPrefix before span.look
    look_begins = (span.looked.since, span.looked.goes_on)

    -- what is seen after it goes on from its look
    pub look_ends : IsPrefix span.look after
    look_ends = (span.did.since, span.did.goes_on)

    -- and so from what was seen before it
    pub span_begins : IsPrefix before after
    span_begins = prefix_trans before span.look after look_begins look_ends

  -- the only event of a call is in the history that it leaves
  own_event : (r : ℕ) (span : IsSpan meld limits alone before after (Rank r)) (event : Event P) → span.own ≡ event ∷ [] → IsOwn after r event
  own_event r span event is =
      let stands : StandsIn (entries_by (Rank r) (event ∷ [])) span.did.since = subst (λ own. StandsIn (entries_by (Rank r) own) span.did.since) is span.did.stands in
      let there = stands_has (record { by = Rank r; event = event }) span.did.since stands in
      subst (λ w. IsOwn w r event) span.did.goes_on (Contains-append_right span.look span.did.since _ there)

  -- what a rank has seen by a call is a beginning of the failures at its end
  sees_begins : (r : ℕ) (span : IsSpan meld limits alone before after (Rank r)) (shrinks : Bool) (seen : List ℕ) → Sees shrinks (failures span.look) after seen → IsPrefix seen (failures after)
  sees_begins r span false seen is = subst (λ w. IsPrefix w (failures after)) (sym is) (failures_begin span.look after (look_ends (Rank r) span))
  sees_begins r span true seen parts = parts.1

  -- the record that a call leaves fits, if it fitted before
  pub run_fits : (own : Record) (asked : Call P) (reply : Reply P) (new : Record) → Fits meld limits before own → IsRun meld limits alone (moment own before) asked reply (moment new after) → Fits meld limits after new
  run_fits own asked reply new fits run =
      let span = run.span in
      let still = fits_stays meld limits before after own (span_begins (Rank own.number) span) span.legal fits in
      let sees = fits_seen meld limits after own new.seen still (sees_begins own.number span (is_shrink (polled_by own asked)) new.seen run.answer.leaves.seen) in
      let here : (x : Held) → held_at own (comm_of asked) ≡ Some x → Exists span.point x.comm =
      λ x at. (members_stay limits.ranks before span.point x.comm span.point_begins (held_fits meld limits before own (comm_of asked) x fits at).0.exists).0 in
      subst (Fits meld limits after) (sym run.answer.leaves.record_is)
      (answer_fits meld limits (rests_on span) after span.point_ends span.legal own new.seen sees (own_event own.number span) asked reply here run.answer.replies)

  -- a call keeps its rank's number
  pub run_number : (own : Record) (asked : Call P) (reply : Reply P) (new : Record) → IsRun meld limits alone (moment own before) asked reply (moment new after) → new.number ≡ own.number
  run_number own asked reply new run =
      ap (λ (w : Record). w.number) run.answer.leaves.record_is ∙ (left_keeps limits.ranks run.span.point (record own { seen = new.seen }) asked reply).0

  -- so it is with every call of a rank
  pub call_fits : (own : Record) (asked : Call P) (reply : Reply P) (new : Record) → Fits meld limits before own → IsCall meld limits alone (moment own before) asked reply (moment new after) → Fits meld limits after new
  call_fits own asked reply new fits (inl (refused, same, is, kept)) = subst (Fits meld limits after) (sym kept) (subst (λ w. Fits meld limits w own) (sym same) fits)
  call_fits own asked reply new fits (inr run) = run_fits own asked reply new fits run

  -- and its number stays
  pub call_number : (own : Record) (asked : Call P) (reply : Reply P) (new : Record) → IsCall meld limits alone (moment own before) asked reply (moment new after) → new.number ≡ own.number
  call_number own asked reply new (inl (refused, same, is, kept)) = ap (λ (w : Record). w.number) kept
  call_number own asked reply new (inr run) = run_number own asked reply new run

  -- a call leaves a legal history, which goes on from the one before it
  pub call_legal : (own : Record) (asked : Call P) (reply : Reply P) (new : Record) → IsLegal meld limits before → IsCall meld limits alone (moment own before) asked reply (moment new after) → IsPrefix before after × IsLegal meld limits after
  call_legal own asked reply new legal (inl (refused, same, is, kept)) = subst (λ w. IsPrefix before w × IsLegal meld limits w) (sym same) (([], append-nil before), legal)
  call_legal own asked reply new legal (inr run) = (span_begins (Rank own.number) run.span, run.span.legal)

  -- and so does a declaration
  pub fail_legal : (rank : ℕ) (reply : Reply P) → IsFailRun meld limits alone before after rank reply → IsPrefix before after × IsLegal meld limits after
  fail_legal rank reply run = (span_begins Outside run.span, run.span.legal)

  -- what a rank holds fits after a declaration as before it
  pub fail_fits : (own : Record) (rank : ℕ) (reply : Reply P) → IsFailRun meld limits alone before after rank reply → Fits meld limits before own → Fits meld limits after own
  fail_fits own rank reply run fits = let more = fail_legal rank reply run in fits_stays meld limits before after own more.0 more.1 fits

  -- what another rank holds fits after a call as before it
  pub others_fit : (own other : Record) (asked : Call P) (reply : Reply P) (new : Record) → IsLegal meld limits before → IsCall meld limits alone (moment own before) asked reply (moment new after) → Fits meld limits before other → Fits meld limits after other
  others_fit own other asked reply new legal called fits =
      let more = call_legal own asked reply new legal called in fits_stays meld limits before after other more.0 more.1 fits

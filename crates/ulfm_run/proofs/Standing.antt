-- The machine of step scripts stands on for what lines say.
use Rattle.std.proofs.Common.{◌≡◌, ◌≢◌, ◌⊎◌, ℕ, zero, suc, ◌<◌, ◌≤◌, Bool, true, false, List, [], ◌∷◌, ◌++◌, length, set, Option, Some, None, refl, ap, sym, ◌∙◌, subst, arith, append-nil, inl, inr}
use Rattle.std.specs.{Prelude.{slice_get}}
use mathlib.Core.List.{IsPrefix}
use Rattle.std.proofs.lemmas.Bool.{ne_eqb}
use Rattle.std.proofs.lemmas.{List.{length-set}, Option.{slice_get_within}}
use Rattle.ulfm_laws.specs.{Flags.{flag_meld}, declared.flag_and.FlagAnd.{FlagAnd}}
use Rattle.ulfm_model.specs.declared.{call.Call.{Call}, event.Caller.{Caller}, reply.Reply.{Reply}}
use Rattle.ulfm_words.specs.Steps.{view_at, IsView, Name, Sight}
use Rattle.ulfm_model.specs.declared.{line.Line.{Line}, step_line.StepLine.TheVariants.{Failed}}
use Rattle.ulfm_model.specs.{Follows.{IsPiece, fail_event, fail_piece}, Traces.{AreLegalAfter, Told, Traced, Under, after, after_reply, call_by, said_by, same_caller}}
use Rattle.ulfm_model.proofs.{Kept.{limits_stay}, Parts.{said_append}}
use Rattle.ulfm_run.specs.{Failing.{TellsFail}, Seats.{Sits}}
use Rattle.ulfm_run.proofs.Others.{sits_lasts}
use Rattle.ulfm_lines.specs.{LineTexts.{lines_text}, StepLines.{ScriptStep}, Stepped.{TellsStep}}
use Rattle.ulfm_lines.specs.declared.step_machine.Taken.TheVariants.{Run}
use Rattle.ulfm_run.specs.{Table.{IsNobody, OthersStay, IsSeatOf, StandsFor}, Walks.{FlagSeat, flag_words}}
use Rattle.ulfm_lines.proofs.Calls.{find_left_out}
use Rattle.ulfm_run.proofs.{Pieces.{AllBy, others_of, piece_call, piece_record}}

-- a piece of a legal trace for one line of the script
pub tells_step : (Stands : Traced FlagAnd → Type 0) (now : Traced FlagAnd) (step : ScriptStep) (piece : List (Told FlagAnd)) (text more : List ℕ) → AreLegalAfter flag_meld now piece → IsPiece now step piece → Stands (said_by now piece)
    → more ≡ text ++ lines_text piece → TellsStep Stands now step Run text more
tells_step Stands now step piece text more legal is_piece stands told =
    (piece, said_by now piece, record { legal = legal; follows = (piece, [], sym (append-nil piece), is_piece, refl); new_is = refl }, stands, told)

-- an element of a list with one changed is that one, or stood there before
pub get_changed : {X : Type 0} (xs : List X) (i j : ℕ) (x y : X) → slice_get (set xs i x) j ≡ Some y → ((j ≡ i) × (y ≡ x)) ⊎ ((j ≢ i) × (slice_get xs j ≡ Some y))
get_changed [] i j x y is = inr ((λ same. cc is), is)
get_changed (z ∷ zs) zero zero x y is = inl (refl, cc is)
get_changed (z ∷ zs) zero (suc j) x y is = inr ((λ same. absurd (omega (arith, same))), is)
get_changed (z ∷ zs) (suc i) zero x y is = inr ((λ same. absurd (omega (arith, same))), is)
get_changed {X} (z ∷ zs) (suc i) (suc j) x y is = go (get_changed zs i j x y is)
  where
    go : ((j ≡ i) × (y ≡ x)) ⊎ ((j ≢ i) × (slice_get zs j ≡ Some y)) → ((suc j ≡ suc i) × (y ≡ x)) ⊎ ((suc j ≢ suc i) × (slice_get (z ∷ zs) (suc j) ≡ Some y))
    go (inl both) = inl (ap suc both.0, both.1)
    go (inr both) = inr ((λ same. both.0 (omega (arith, same))), both.1)

-- an element of a list with another one changed is as it was
get_kept : {X : Type 0} (xs : List X) (i j : ℕ) (x : X) → j ≢ i → slice_get (set xs i x) j ≡ slice_get xs j
get_kept [] i j x ne = refl
get_kept (z ∷ zs) zero zero x ne = absurd (ne refl)
get_kept (z ∷ zs) zero (suc j) x ne = refl
get_kept (z ∷ zs) (suc i) zero x ne = refl
get_kept (z ∷ zs) (suc i) (suc j) x ne = get_kept zs i j x (λ same. ne (ap suc same))

-- a seat that changes leaves the others
pub others_stay : (seats : List FlagSeat) (i r : ℕ) (seat : FlagSeat) → i ≡ r → OthersStay r seats (set seats i seat)
others_stay seats i r seat same q differ = get_kept seats i q seat (λ is. differ (is ∙ same))

-- a call that is answered is no longer under way
pub reply_frees : (now : Traced FlagAnd) (by : Caller) (point : ℕ) (reply : Reply FlagAnd) → call_by (after now (Line.Replied by point (Some reply))) by ≡ None
reply_frees now by point reply = go (call_by now by) refl
  where
    go : (answered : Option (Under FlagAnd)) → call_by now by ≡ answered → call_by (after_reply now by point reply answered) by ≡ None
    go None is = is
    go (Some u) is = find_left_out by now.calls

pub ranks_differ : (r s : ℕ) → r ≢ s → same_caller (Caller.Rank r) (Caller.Rank s) ≡ false
ranks_differ r s ne = ne_eqb r s ne

module _ (name : Name) (pass : Sight FlagAnd) (seats : List FlagSeat) (now : Traced FlagAnd) (stands : StandsFor name pass seats now) (piece : List (Told FlagAnd)) (by : Caller) (all : AllBy by piece) (later : Sight FlagAnd)
    (history : (said_by now piece).history ≡ later.seen) (of : IsView flag_meld (view_at (flag_words name) later)) (onward : pass.steps ≤ later.steps) (keeps : IsPrefix pass.cached later.cached) where
  -- another rank sits on
  other_sits : (r : ℕ) (seat : FlagSeat) → IsSeatOf name now pass r seat → same_caller by (Caller.Rank r) ≡ false → IsSeatOf name (said_by now piece) later r seat
  other_sits r seat sits differ =
      record {
        number = sits.number;
        sits = sits_lasts flag_meld (flag_words name) now piece pass later seat (others_of by (Caller.Rank seat.own.number) piece all (ap (λ n. same_caller by (Caller.Rank n)) sits.number ∙ differ)) history of onward keeps sits.sits;
      }

  -- a rank that the world doesn't have is still nobody
  still_nobody : (r : ℕ) → IsNobody now r → same_caller by (Caller.Rank r) ≡ false → IsNobody (said_by now piece) r
  still_nobody r nobody differ =
      let others = others_of by (Caller.Rank r) piece all differ in
      record { record_is = piece_record now piece r others ∙ nobody.record_is; free = piece_call now piece (Caller.Rank r) others ∙ nobody.free }

  -- lines of nobody who has a seat, but for one rank beyond them
  pub stands_on : call_by (said_by now piece) Caller.Outside ≡ None → ((r : ℕ) → r < name.limits.ranks → same_caller by (Caller.Rank r) ≡ false)
      → ((r : ℕ) → name.limits.ranks ≤ r → same_caller by (Caller.Rank r) ≡ true → IsNobody (said_by now piece) r) → StandsFor name later seats (said_by now piece)
  stands_on free others own =
      record {
        of = of;
        limits = limits_stay flag_meld now piece ∙ stands.limits;
        history = history;
        no_declaration = free;
        size = stands.size;
        each = λ r seat is. other_sits r seat (stands.each r seat is) (others r (below r seat is));
        beyond = λ r above. nobody r above (same_caller by (Caller.Rank r)) refl;
      }
    where
      below : (r : ℕ) (seat : FlagSeat) → slice_get seats r ≡ Some seat → r < name.limits.ranks
      below r seat is = let less = slice_get_within seats r seat is in omega (arith, less, stands.size)

      nobody : (r : ℕ) → name.limits.ranks ≤ r → (b : Bool) → same_caller by (Caller.Rank r) ≡ b → IsNobody (said_by now piece) r
      nobody r above true is = own r above is
      nobody r above false is = still_nobody r (stands.beyond r above) is

  -- lines of a rank that has a seat
  pub stands_seat : (r : ℕ) → by ≡ Caller.Rank r → (seat left : FlagSeat) → slice_get seats r ≡ Some seat → left.own.number ≡ seat.own.number → Sits flag_meld (flag_words name) (said_by now piece) later left
      → StandsFor name later (set seats r left) (said_by now piece)
  stands_seat r mine seat left there number sits =
      record {
        of = of;
        limits = limits_stay flag_meld now piece ∙ stands.limits;
        history = history;
        no_declaration = piece_call now piece Caller.Outside (others_of by Caller.Outside piece all (ap (λ c. same_caller c Caller.Outside) mine)) ∙ stands.no_declaration;
        size = length-set seats r left ∙ stands.size;
        each = λ s other is. each s other (get_changed seats r s left other is);
        beyond = λ s above. still_nobody s (stands.beyond s above) (ap (λ c. same_caller c (Caller.Rank s)) mine ∙ ranks_differ r s (λ same. absurd (omega (arith, same, above, within, stands.size))));
      }
    where
      within : r < length seats
      within = slice_get_within seats r seat there

      each : (s : ℕ) (other : FlagSeat) → ((s ≡ r) × (other ≡ left)) ⊎ ((s ≢ r) × (slice_get seats s ≡ Some other)) → IsSeatOf name (said_by now piece) later s other
      each s other (inl (same, is)) =
          record { number = ap (λ (x : FlagSeat). x.own.number) is ∙ (number ∙ ((stands.each r seat there).number ∙ sym same)); sits = subst (λ x. Sits flag_meld (flag_words name) (said_by now piece) later x) (sym is) sits }
      each s other (inr (differ, is)) =
          other_sits s other (stands.each s other is) (ap (λ c. same_caller c (Caller.Rank s)) mine ∙ ranks_differ r s (λ same. differ (sym same)))

-- a whole declaration
module _ (name : Name) (pass later : Sight FlagAnd) (seats : List FlagSeat) (now : Traced FlagAnd) (stands : StandsFor name pass seats now) (r : ℕ) (reply : Reply FlagAnd) (tells : TellsFail flag_meld r (view_at (flag_words name) pass) reply (view_at (flag_words name) later))
    (of : IsView flag_meld (view_at (flag_words name) later)) (onward : pass.steps ≤ later.steps) (keeps : IsPrefix pass.cached later.cached) where
  abbrev failed : List (Told FlagAnd)
  failed = fail_piece r (length later.seen) reply

  failed_by : AllBy Caller.Outside failed
  failed_by = (refl, go reply)
    where
      go : (answer : Reply FlagAnd) → AllBy Caller.Outside (fail_event r answer ++ record { line = Line.Replied Caller.Outside (length later.seen) (Some reply); group = [] } ∷ [])
      go Reply.Declared = (refl, (refl, tt))
      go _ = (refl, tt)

  pub fail_tells : (text more : List ℕ) → more ≡ text ++ lines_text failed → TellsStep (StandsFor name later seats) now (Failed r) Run text more
  fail_tells text more told =
      let both = tells now stands.limits stands.history stands.no_declaration in
      let runs = both.0 in (
        failed,
        said_by now failed,
        runs,
        stands_on name pass seats now stands failed Caller.Outside failed_by later both.1 of onward keeps free (λ s below. refl) (λ s above is. absurd (cc is)),
        told,
      )
    where
      free : call_by (said_by now failed) Caller.Outside ≡ None
      free =
          ap (λ t. call_by t Caller.Outside) (said_append (after now (Line.Called (Call.Fail r) false)) (fail_event r reply) (record { line = Line.Replied Caller.Outside (length later.seen) (Some reply); group = [] } ∷ []))
          ∙ reply_frees (said_by (after now (Line.Called (Call.Fail r) false)) (fail_event r reply)) Caller.Outside (length later.seen) reply

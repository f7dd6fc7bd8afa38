-- Each reply of a legal trace is an answer of the sequential object.
use Rattle.std.proofs.Common.{◌≡◌, ◌⊎◌, ℕ, zero, suc, ◌≤◌, ◌==◌, Bool, true, false, List, [], ◌∷◌, ◌++◌, length, take, Option, Some, None, is_some, refl, ap, ap₂, sym, ◌∙◌, subst, append-nil, append_assoc, arith, IsTrue, IsFalse, inl, inr, if◌then◌else◌}
use Rattle.std.specs.{Prelude.{drop}, List.{AllByRecursion}}
use Rattle.std.proofs.Math.Seq.{take-append_seam}
use Rattle.std.proofs.lemmas.{Bool.{eqb-true}, List.{take-append-drop}}
use mathlib.Core.List.{IsPrefix}
use Rattle.ulfm_model.specs.declared.{event.Caller.{Caller}, limits.Limits.{Limits}, refusal.Refusal.{Refusal}, reply.Reply.{Reply}}
use Rattle.ulfm_model.specs.Answers.{IsReply, IsSelfFailed, MayOwn, Sees, AtPoint, left_by, polled_by}
use Rattle.ulfm_model.specs.{History.{History, entries_by, failures}, Records.{Record, is_shrink}, Runs.{IsRun, IsSpan, StandsIn}}
use Rattle.ulfm_model.specs.Records.{moment}
use Rattle.ulfm_model.proofs.{Histories.{failures_begin}, LeftRuns.{left_keeps}, Lists.{each_always, find_holds}}
use Rattle.ulfm_model.specs.declared.line.Line.{Line}
use Rattle.ulfm_model.specs.{TraceLaws.{IsAnswer, IsRanksAnswer}, Traces.{AnswersCall, AnswersRank, IsLegalTrace, MayReply, Traced, Told, Under, call_by, caller_of, found_by, nothing, record_in, said_by, same_caller, taken_in, view_at}}
use Rattle.ulfm_model.proofs.{Callers.{same_is}, Kept.{IsKept, Spans, found_sees, kept_along, kept_nothing}, Parts.{legal_parts}}

-- of a list, the first few are a beginning of the first few more
take_prefix : {X : Type 0} (m n : ℕ) (xs : List X) → m ≤ n → IsPrefix (take m xs) (take n xs)
take_prefix zero n xs less = (take n xs, refl)
take_prefix (suc m) zero xs less = absurd (omega (arith, less))
take_prefix (suc m) (suc n) [] less = ([], refl)
take_prefix (suc m) (suc n) (x ∷ xs) less = let more = take_prefix m n xs (omega (arith, less)) in (more.0, ap (λ w. x ∷ w) more.1)

module _ {P : Type 0} (meld : P → P → P) (now : Traced P) (kept : IsKept meld now) (u : Under P) (s : Spans now.history now.records u) (point : ℕ) (since_begin : u.begun ≤ point) where
  abbrev first : History P
  first = s.course.begin ++ s.course.later

  before_is : take u.begun now.history ≡ s.course.begin
  before_is =
      ap (λ n. take n now.history) s.course.begun
      ∙ (ap (take (length s.course.begin)) (sym s.course.goes_on ∙ append_assoc s.course.begin s.course.later s.course.rest) ∙ take-append_seam s.course.begin (s.course.later ++ s.course.rest))

  abbrev span_of : (by : Caller) → caller_of u ≡ by → IsSpan meld now.limits false (take u.begun now.history) now.history by
  span_of by mine =
      record {
        look = first;
        point = take point now.history;
        own = u.own;
        spread = true;
        looked = record { since = s.course.later; goes_on = ap (λ w. w ++ s.course.later) before_is; stands = tt; quiet = λ alone. absurd (cc alone) };
        did = record { since = s.course.rest; goes_on = s.course.goes_on; stands = subst (λ c. StandsIn (entries_by c u.own) s.course.rest) mine s.course.stands; quiet = λ alone. absurd (cc alone) };
        point_begins = take_prefix u.begun point now.history since_begin;
        point_ends = (drop point now.history, take-append-drop point now.history);
        legal = kept.legal;
      }

  module _ (reply : Reply P) where
    -- the outside's declaration
    outside_answers : caller_of u ≡ Caller.Outside → AnswersCall meld now Caller.Outside u point reply → IsAnswer meld now Caller.Outside u point reply
    outside_answers mine answers = (
      record {
        span = span_of Caller.Outside mine;
        no_look = ap (λ w. s.course.begin ++ w) (s.course.no_look mine) ∙ (append-nil s.course.begin ∙ sym before_is);
        answer = answers;
      },
      refl,
    )

    module _ (r : ℕ) (mine : caller_of u ≡ Caller.Rank r) (own : Record) (at : record_in now r ≡ Some own) where
      number : own.number ≡ r
      number = eqb-true own.number r (find_holds (λ x. x.number == r) (λ x. Unit {0}) now.records own (each_always (λ x. Unit {0}) (λ x. tt) now.records) at).1

      -- refused for good before
      left_again : IsTrue own.refused → reply ≡ Reply.Refused Refusal.SelfFailed → taken_in now u point reply own ≡ own
      left_again refused reply_is =
          ap₂ (λ look w. left_by now.limits.ranks (take point now.history) (record own { seen = if is_some look then found_by now u else own.seen }) u.asked w)
          (s.unused r mine own at refused) reply_is
          ∙ ap (λ b. record own { refused = b }) (sym refused)

      -- after a look
      module _ (looked : IsTrue (is_some u.look)) where
        sees_is : s.course.sees ≡ failures first
        sees_is = go s.course.looks
          where
            go : ((u.look ≡ None) × (s.course.sees ≡ [])) ⊎ ((u.look ≡ Some (length s.course.sees)) × (s.course.sees ≡ failures first)) → s.course.sees ≡ failures first
            go (inl (none, nobody)) = absurd (cc (ap is_some none, looked))
            go (inr (some, is)) = is

        found : found_by now u ≡ failures first
        found = found_sees now.history now.records u s ∙ sees_is

        abbrev left : Record
        left = taken_in now u point reply own

        abbrev seen : List ℕ
        seen = if is_some u.look then found_by now u else own.seen

        seen_left : left.seen ≡ seen
        seen_left = (left_keeps now.limits.ranks (take point now.history) (record own { seen = seen }) u.asked reply).1

        left_is : left.seen ≡ failures first
        left_is = seen_left ∙ (ap (λ (b : Bool). if b then found_by now u else own.seen) looked ∙ found)

        sees_left : (shrinks : Bool) → Sees shrinks (failures first) now.history left.seen
        sees_left false = left_is
        sees_left true = (
          ([], append-nil (failures first) ∙ sym left_is),
          subst (λ w. IsPrefix w (failures now.history)) (sym left_is) (failures_begin first now.history (s.course.rest, s.course.goes_on)),
        )

        abbrev view : List ℕ → AtPoint P
        view l = record { look = l; history = take point now.history; own = u.own; spread = true }

        run_answers : IsFalse own.refused → IsSelfFailed (view_at now u point) own u.asked reply ⊎ IsReply meld now.limits (view_at now u point) own u.asked reply
            → (run : IsRun meld now.limits false (moment own (take u.begun now.history)) u.asked reply (moment left now.history)) × (run.span.point ≡ take point now.history)
        run_answers in_use answers = (
          record {
            in_use = in_use;
            span = span_of (Caller.Rank own.number) (mine ∙ ap Caller.Rank (sym number));
            answer = record {
              own = subst (λ l. AllByRecursion (MayOwn l own u.asked) u.own) sees_is (s.owns r mine own at);
              replies = subst (λ l. IsSelfFailed (view l) own u.asked reply ⊎ IsReply meld now.limits (view l) own u.asked reply) found answers;
              leaves = record {
                seen = sees_left (is_shrink (polled_by own u.asked));
                record_is = ap (λ w. left_by now.limits.ranks (take point now.history) (record own { seen = w }) u.asked reply) (sym seen_left);
              };
            };
          },
          refl,
        )

    rank_answers : (r : ℕ) → caller_of u ≡ Caller.Rank r → (o : Option Record) → record_in now r ≡ o → AnswersRank meld now u point reply o → IsRanksAnswer meld now u point reply o
    rank_answers r mine None at answers = answers
    rank_answers r mine (Some own) at (inl (refused, reply_is)) = inl (refused, reply_is, left_again r mine own at refused reply_is)
    rank_answers r mine (Some own) at (inr (in_use, looked, answers)) = inr (run_answers r mine own at looked in_use answers)

    call_answers : (by : Caller) → caller_of u ≡ by → AnswersCall meld now by u point reply → IsAnswer meld now by u point reply
    call_answers Caller.Outside mine answers = outside_answers mine answers
    call_answers (Caller.Rank r) mine answers = rank_answers r mine (record_in now r) refl answers

pub replies_answered : {P : Type 0} (meld : P → P → P) (limits : Limits) (before rest : List (Told P)) (by : Caller) (point : ℕ) (reply : Reply P) (group : List ℕ)
    → IsLegalTrace meld limits (before ++ record { line = Line.Replied by point (Some reply); group = group } ∷ rest)
    → let now = said_by (nothing limits) before in (u : Under P) × (call_by now by ≡ Some u) × IsAnswer meld now by u point reply
replies_answered {P} meld limits before rest by point reply group legal =
    let parts = legal_parts meld (nothing limits) before (record { line = Line.Replied by point (Some reply); group = group } ∷ rest) legal in
    answered (said_by (nothing limits) before) (kept_along meld (nothing limits) before parts.0 (kept_nothing meld limits)) parts.1.0
  where
    answered : (now : Traced P) → IsKept meld now → MayReply meld now by point group reply → (u : Under P) × (call_by now by ≡ Some u) × IsAnswer meld now by u point reply
    answered now kept may =
        let here = find_holds (λ v. same_caller (caller_of v) by) (Spans now.history now.records) now.calls may.call kept.each may.is_open in
        (may.call, may.is_open, call_answers meld now kept may.call here.0 point may.since_begin reply by (same_is (caller_of may.call) by here.1) may.answers)

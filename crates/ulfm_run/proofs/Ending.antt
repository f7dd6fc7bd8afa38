-- A reply whose line may come leaves its rank idle, with the record that the lines then say, and knowing whom the line lists.
use Rattle.std.proofs.Common.{◌≡◌, ◌⊎◌, ℕ, ◌≤◌, ◌==◌, not, Bool, true, false, List, [], ◌∷◌, ◌++◌, length, take, map, filter, find, unwrap_or, Option, Some, None, is_some, refl, ap, sym, ◌∙◌, subst, arith, append_assoc, length-append, inr, IsTrue, IsFalse, if◌then◌else◌}
use Rattle.std.proofs.Math.Seq.{take-append_seam}
use mathlib.Core.List.{IsPrefix}
use Rattle.std.proofs.lemmas.Bool.{eqb-true}
use Rattle.ulfm_model.specs.declared.{call.Call.{Call}, event.Caller.TheVariants.{Rank}, limits.Limits.{Limits}, reply.Reply.{Reply}}
use Rattle.ulfm_model.specs.declared.reply.Reply.TheVariants as reply_of
use Rattle.ulfm_model.specs.{Answers.{IsReply, IsSelfFailed, closed, comm_of, left_by}, History.{History, failures, members}, Records.{Fits, Held, Record, held_at, new_held}}
use Rattle.ulfm_model.proofs.{Histories.{failures_begin}, LeftRuns.{left_keeps}, Lists.{find_holds}}
use Rattle.ulfm_model.specs.Records.{moment}
use Rattle.ulfm_words.specs.Steps.{Sight, Over}
use Rattle.ulfm_comm.specs.Ends.{IsEndRun}
use Rattle.ulfm_comm.proofs.ReplyKinds.{answered_on, counted_seen}
use Rattle.ulfm_model.specs.declared.line.Line.TheVariants.{Replied}
use Rattle.ulfm_model.specs.Traces.{AnswersRank, MayCome, Traced, Under, after_reply, call_by, caller_of, found_by, listed, record_in, same_caller, taken_in}
use Rattle.ulfm_lines.proofs.{Bystanders.{own_record}, Calls.{find_left_out}}
use Rattle.ulfm_run.specs.{Seats.{HoldsGroup, MayList}, Stepping.{IsIdle, is_early}}
use Rattle.ulfm_run.proofs.{Reseen.{answer_reseen, left_reseen, reseen}, Turns.{EndsSo}}

-- what was seen at the look is what the judge knows of it
pub found_is : {P : Type 0} (now : Traced P) (u : Under P) (start : History P) → u.look ≡ Some (length (failures start)) → IsPrefix start now.history → found_by now u ≡ failures start
found_is now u start look begins =
    let more = failures_begin start now.history begins in
    ap (λ (n : Option ℕ). take (unwrap_or n 0) (failures now.history)) look ∙ (ap (take (length (failures start))) (sym more.1) ∙ take-append_seam (failures start) more.0)

-- what is put last is found, or something before it
find_some : (c : ℕ) (xs : List Held) (y : Held) → y.comm == c ≡ true → (x : Held) × (find (λ z. z.comm == c) (xs ++ y ∷ []) ≡ Some x)
find_some c [] y is = (y, ap (λ (b : Bool). if b then Some y else None) is)
find_some c (x ∷ xs) y is = go (x.comm == c) (find_some c xs y is)
  where
    go : (b : Bool) → ((z : Held) × (find (λ w. w.comm == c) (xs ++ y ∷ []) ≡ Some z)) → (z : Held) × ((if b then Some x else find (λ w. w.comm == c) (xs ++ y ∷ [])) ≡ Some z)
    go true rest = (x, refl)
    go false rest = rest

module _ {P : Type 0} (meld : P → P → P) (limits : Limits) (h : History P) (own : Record) (fits : Fits meld limits h own) where
  -- what a rank holds has the members that the history gives it
  pub holds_group : (c : ℕ) (x : Held) → held_at own c ≡ Some x → HoldsGroup limits.ranks h c own
  holds_group c x held =
      let both = find_holds (λ y. y.comm == c) _ own.held x fits.held held in
      record { x = x; held = held; group = both.0.group ∙ ap (members limits.ranks h) (eqb-true x.comm c both.1) }

-- the rank knows whom a reply at the present point lists
module _ {P : Type 0} (meld : P → P → P) (limits : Limits) (start at : History P) (old : Record) (asked : Call P) (new : Record) (fits : Fits meld limits at new) where
  pub may_list : (reply : Reply P) → IsEndRun meld limits false (moment old start) asked reply (moment new at) → MayList limits.ranks at (comm_of asked) reply new
  may_list (reply_of.Shrunk j context size) ended =
      let left = ended.run.answer.leaves.record_is in
      let rest = closed (reseen old new.seen) (comm_of asked) in
      let some = find_some j rest.held (new_held j context (members limits.ranks ended.run.span.point j)) (eqb_same j) in
      holds_group meld limits at new fits j some.0 (ap (λ (w : Record). held_at w j) left ∙ some.1)
    where
      eqb_same : (n : ℕ) → n == n ≡ true
      eqb_same n = grind arith
  may_list (reply_of.FailedGroup count) ended =
      let run = ended.run in
      let on = answered_on meld limits false start at old asked (reply_of.FailedGroup count) new run (λ refusal is. cc is) in (
        holds_group meld limits at new fits (comm_of asked) on.x (ap (λ (w : Record). held_at w (comm_of asked)) run.answer.leaves.record_is ∙ on.held),
        counted_seen meld limits false start at old asked (reply_of.FailedGroup count) new run count refl ∙ ap failures ended.at_end,
      )
  may_list _ ended = tt

-- an early reply lists nobody
pub lists_none : {P : Type 0} (ranks : ℕ) (h : History P) (c : ℕ) (reply : Reply P) (own : Record) → is_early reply ≡ true → MayList ranks h c reply own
lists_none ranks h c (reply_of.Shrunk j context size) own early = absurd (cc early)
lists_none ranks h c (reply_of.FailedGroup count) own early = absurd (cc early)
lists_none ranks h c _ own early = tt

-- The judge's test of a reply holds at `at`, of which the pass has seen more, `later`; the look was made at `start`. Then its line may come.
module _ {P : Type 0} (meld : P → P → P) (name : Over P) (t : Traced P) (after_it : Sight P) (r : ℕ) (old : Record) (seen : List ℕ) (u : Under P) (asked : Call P) (start at rest later : History P) (reply : Reply P) (new : Record)
    (limits_t : t.limits ≡ name.limits) (history_t : t.history ≡ after_it.seen) (call_t : call_by t (Rank r) ≡ Some u) (record_t : record_in t r ≡ Some (reseen old seen)) (number : r ≡ old.number) (in_use : IsFalse old.refused)
    (asked_t : u.asked ≡ asked) (begun_t : u.begun ≤ length start) (look_t : u.look ≡ Some (length (failures start))) (since : start ++ rest ≡ at) (goes_on : at ++ later ≡ after_it.seen)
    (answers : IsSelfFailed (record { look = failures start; history = at; own = u.own; spread = true }) old asked reply ⊎ IsReply meld name.limits (record { look = failures start; history = at; own = u.own; spread = true }) old asked reply)
    (ended : IsEndRun meld name.limits false (moment old start) asked reply (moment new at)) (fits : Fits meld name.limits after_it.seen new) (list : MayList name.limits.ranks at (comm_of asked) reply new) where
  at_point : take (length at) after_it.seen ≡ at
  at_point = ap (take (length at)) (sym goes_on) ∙ take-append_seam at later

  whole : take (length at) t.history ≡ at
  whole = ap (take (length at)) history_t ∙ at_point

  found : found_by t u ≡ failures start
  found = found_is t u start look_t (rest ++ later, sym (append_assoc start rest later) ∙ (ap (λ w. w ++ later) since ∙ (goes_on ∙ sym history_t)))

  left : new ≡ left_by name.limits.ranks at (reseen old new.seen) asked reply
  left = ended.run.answer.leaves.record_is ∙ ap (λ h. left_by name.limits.ranks h (reseen old new.seen) asked reply) ended.at_end

  lists : listed name.limits.ranks (take (length at) after_it.seen) (comm_of asked) reply ≡ listed t.limits.ranks (take (length at) t.history) (comm_of u.asked) reply
  lists =
      ap (λ (l : Limits). listed l.ranks (take (length at) after_it.seen) (comm_of asked) reply) (sym limits_t)
      ∙ (ap (λ h. listed t.limits.ranks (take (length at) h) (comm_of asked) reply) (sym history_t) ∙ ap (λ (a : Call P). listed t.limits.ranks (take (length at) t.history) (comm_of a) reply) (sym asked_t))

  may : MayCome meld t (listed name.limits.ranks (take (length at) after_it.seen) (comm_of asked) reply) (Replied (Rank r) (length at) (Some reply))
  may =
      let again = answer_reseen meld name.limits (record { look = failures start; history = at; own = u.own; spread = true }) old seen asked reply answers in
      let there : IsSelfFailed (record { look = found_by t u; history = take (length at) t.history; own = u.own; spread = true }) (reseen old seen) u.asked reply ⊎ IsReply meld t.limits (record { look = found_by t u; history = take (length at) t.history; own = u.own; spread = true }) (reseen old seen) u.asked reply =
      rw (asked_t, limits_t, found, whole) again in
      let one = ap length since in
      let two = ap length goes_on in
      let three = ap length history_t in
      record {
        call = u;
        is_open = call_t;
        since_begin = omega (arith, begun_t, one, length-append start rest);
        by_now = omega (arith, two, three, length-append at later);
        answers = subst (λ o. AnswersRank meld t u (length at) reply o) (sym record_t) (inr (in_use, subst (λ o. IsTrue (is_some o)) (sym look_t) refl, there));
        lists = lists;
      }

  number_is : new.number ≡ r
  number_is = ap (λ (w : Record). w.number) left ∙ ((left_keeps name.limits.ranks at (reseen old new.seen) asked reply).0 ∙ sym number)

  -- the record that the lines say
  taken : taken_in t u (length at) reply (reseen old seen) ≡ reseen new (failures start)
  taken =
      let sees : (if is_some u.look then found_by t u else seen) ≡ failures start = ap (λ (o : Option ℕ). if is_some o then found_by t u else seen) look_t ∙ found in
      ap (λ s. left_by t.limits.ranks (take (length at) t.history) (reseen old s) u.asked reply) sees
      ∙ (ap (λ (l : Limits). left_by l.ranks (take (length at) t.history) (reseen old (failures start)) u.asked reply) limits_t
      ∙ (ap (λ h. left_by name.limits.ranks h (reseen old (failures start)) u.asked reply) whole
      ∙ (ap (λ a. left_by name.limits.ranks at (reseen old (failures start)) a reply) asked_t
      ∙ (left_reseen name.limits.ranks at (reseen old new.seen) (failures start) asked reply ∙ ap (λ w. reseen w (failures start)) (sym left)))))

  idle : IsIdle meld name (after_reply t (Rank r) (length at) reply (Some u)) after_it new
  idle =
      record {
        said = record {
          limits = limits_t;
          history = history_t;
          call_is = subst (λ n. find (λ v. same_caller (caller_of v) (Rank n)) (filter (λ v. not (same_caller (caller_of v) (Rank r))) t.calls) ≡ None) (sym number_is) (find_left_out (Rank r) t.calls);
          seen = failures start;
          record_is = subst (λ n. find (λ own. own.number == n) (map (λ own. if own.number == r then taken_in t u (length at) reply own else own) t.records) ≡ Some (reseen new (failures start))) (sym number_is)
              (own_record t r u (length at) reply (reseen old seen) record_t ∙ ap Some taken);
        };
        fits = fits;
      }

  pub ends_so : EndsSo meld name t after_it r (comm_of asked) (length at) reply new
  ends_so = record { may = may; number = number_is; idle = subst (λ o. IsIdle meld name (after_reply t (Rank r) (length at) reply o) after_it new) (sym call_t) idle; list = subst (λ h. MayList name.limits.ranks h (comm_of asked) reply new) (sym at_point) list }

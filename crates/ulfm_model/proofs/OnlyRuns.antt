-- A run where nobody else steps is the computed one.
use Rattle.std.proofs.Common.{◌≡◌, ◌⊎◌, ℕ, ◌==◌, Bool, true, false, List, [], ◌∷◌, ◌++◌, length, Option, Some, None, refl, ap, ap₂, sym, ◌∙◌, subst, arith, append-nil, length-append, inl, inr, if◌then◌else◌, IsTrue, IsFalse}
use Rattle.std.specs.List.{AllByRecursion}
use Rattle.std.proofs.lemmas.Bool.{eqb-true}
use mathlib.Core.List.{IsPrefix}
use Rattle.ulfm_model.specs.declared.call.Call.{Call}
use Rattle.ulfm_model.specs.declared.event.Caller.{Caller}
use Rattle.ulfm_model.specs.declared.event.Caller.TheVariants.{Rank}
use Rattle.ulfm_model.specs.declared.event.Event.{Event}
use Rattle.ulfm_model.specs.declared.limits.Limits.{Limits}
use Rattle.ulfm_model.specs.declared.refusal.Refusal.{Refusal}
use Rattle.ulfm_model.specs.declared.reply.Reply.{Reply}
use Rattle.ulfm_model.specs.History.{History, entries_by, failures, has}
use Rattle.ulfm_model.specs.{Answers.{Answers, CallAdds, IsReply, IsSelfFailed, MayOwn, RepliesBy, Sees, AtPoint, left_by, polled_by, refusal_of, traits_of}, History.{IsLegal}, Records.{Fits, FitsHeld, Held, Record, held_at, is_shrink}, Runs.{IsAloneRun, IsSpan, unsettled_of}}
use Rattle.ulfm_model.specs.Computed.{CallOutcome, outcome_of, rank_outcome, replied, used_outcome}
use Rattle.ulfm_model.specs.Terms.{comm_of, contexts_of, request_of, settled_by, rests_on}
use Rattle.ulfm_model.specs.Records.{moment}
use Rattle.ulfm_model.specs.Answers.{Replies}
use Rattle.ulfm_model.proofs.OneEvent.{declared_by}
use Rattle.ulfm_model.proofs.Lists.{each_from, find_holds}
use Rattle.ulfm_model.proofs.OnlyCalls.{adds_nothing, call_is, declares_none, same_failures}

-- where nobody else steps, a caller looks at what was before it, and its own events are all that come
pub span_is : {P : Type 0} {meld : P → P → P} {limits : Limits} {caller : Caller} (h after : History P) → (span : IsSpan meld limits true h after caller) → (span.look ≡ h) × (after ≡ h ++ entries_by caller span.own)
span_is {caller = caller} h after span =
    let look : span.look ≡ h = sym span.looked.goes_on ∙ (ap (λ w. h ++ w) (span.looked.quiet refl) ∙ append-nil h) in
    (look, sym span.did.goes_on ∙ (ap (λ w. span.look ++ w) (span.did.quiet refl) ∙ ap (λ w. w ++ entries_by caller span.own) look))

-- a list between a list and itself is that list
same_between : (xs ys zs : List ℕ) → zs ≡ xs → IsPrefix xs ys → IsPrefix ys zs → ys ≡ xs
same_between xs ys zs same more rest =
    let lengths : length more.0 ≡ 0 = omega (arith, ap length same, ap length more.1, ap length rest.1, length-append xs more.0, length-append ys rest.0) in
    let none : more.0 ≡ [] = is_nil more.0 lengths in
    sym more.1 ∙ (ap (λ w. xs ++ w) none ∙ append-nil xs)
  where
    is_nil : (w : List ℕ) → length w ≡ 0 → w ≡ []
    is_nil [] e = refl
    is_nil (x ∷ w) e = absurd (omega (arith, e))

-- what a rank has seen, where no failure is new
seen_is : {P : Type 0} (b : Bool) (look : List ℕ) (after : History P) (seen : List ℕ) → failures after ≡ look → Sees b look after seen → seen ≡ look
seen_is false look after seen same sees = sees
seen_is true look after seen same sees = same_between look seen (failures after) same sees.0 sees.1

-- the call has the outcome that is computed
abbrev pub HasOutcome : {P : Type 0} → List (Event P) → Reply P → CallOutcome P → Type 0
HasOutcome events reply out = (events ≡ out.own) × (reply ≡ out.reply)

module _ {P : Type 0} (meld : P → P → P) (limits : Limits) (h : History P) (own : Record) (events : List (Event P)) (legal : IsLegal meld limits (h ++ entries_by (Rank own.number) events)) (asked : Call P) (reply : Reply P)
    (owns : AllByRecursion (MayOwn (failures h) own asked) events) where
  -- what the reply rests on
  abbrev pub alone_view : AtPoint P
  alone_view = record { look = failures h; history = h ++ entries_by (Rank own.number) events; own = events; spread = false }

  -- a rank's own events declare nobody
  pub failures_same : failures (h ++ entries_by (Rank own.number) events) ≡ failures h
  failures_same =
      same_failures h (Rank own.number) events
      (each_from (MayOwn (failures h) own asked) (λ e. declared_by e ≡ None) (λ e may. declares_none (failures h) own.number may.adds.0 asked e may.adds.2) events owns)

  -- the poll of a rank that isn't declared has marked all that are to be marked
  abbrev pub MarksAll : Type 0
  MarksAll = IsTrue (traits_of asked).polls → IsFalse (has (failures h) own.number) → settled_by events ≡ unsettled_of limits.ranks h (comm_of asked) (polled_by own asked)

  on_held : Fits meld limits h own → MarksAll → has (failures h) own.number ≡ false → (held : Option Held) → held_at own (comm_of asked) ≡ held → (refusal : Option Refusal) → refusal_of own asked ≡ refusal
      → RepliesBy (λ x. Replies meld limits alone_view own x asked reply) reply held refusal → HasOutcome events reply (used_outcome meld limits h own held refusal asked)
  on_held fits marks alive held at (Some refusal) refused replies = (adds_nothing (MayOwn (failures h) own asked) events (λ e may. let none = may.not_refused in cc (none, refused)) owns, replies)
  on_held fits marks alive None at None refused replies = absurd replies
  on_held fits marks alive (Some x) at None refused replies =
      let holds = find_holds (λ y. y.comm == comm_of asked) (FitsHeld meld limits.ranks h own.number (contexts_of own.held)) own.held x fits.held at in
      let comm : x.comm ≡ comm_of asked = eqb-true x.comm (comm_of asked) holds.1 in
      let adds = each_from (MayOwn (failures h) own asked) (CallAdds (failures h) own.number x asked) adds_to events owns in
      let computed = call_is meld limits h own events legal x (contexts_of own.held) holds.0 alive asked reply adds (settled comm) replies in
      (computed.adds, computed.replies ∙ ap (λ es. replied meld limits h (record { look = failures h; history = h ++ entries_by (Rank own.number) es; own = es; spread = false }) own x asked) computed.adds)
    where
      adds_to : (e : Event P) → MayOwn (failures h) own asked e → CallAdds (failures h) own.number x asked e
      adds_to e may =
          let there = may.adds.1 in
          let same : may.adds.0 ≡ x = cc (there, at) in
          subst (λ y. CallAdds (failures h) own.number y asked e) same may.adds.2

      settled : x.comm ≡ comm_of asked → IsTrue (traits_of asked).polls → settled_by events ≡ unsettled_of limits.ranks h x.comm x.request
      settled comm polls =
          marks polls alive
          ∙ (ap (λ b. unsettled_of limits.ranks h (comm_of asked) (if b then request_of (held_at own (comm_of asked)) else None)) polls
          ∙ (ap (λ o. unsettled_of limits.ranks h (comm_of asked) (request_of o)) at ∙ ap (λ c. unsettled_of limits.ranks h c x.request) (sym comm)))

  by_declared : Fits meld limits h own → MarksAll → IsSelfFailed alone_view own asked reply ⊎ IsReply meld limits alone_view own asked reply → (b : Bool) → has (failures h) own.number ≡ b → HasOutcome events reply (rank_outcome meld limits h own asked b)
  by_declared fits marks (inl failed) true declared = (adds_nothing (MayOwn (failures h) own asked) events (λ e may. let alive = may.not_declared in cc (alive, declared)) owns, failed.reply_is)
  by_declared fits marks (inr replies) true declared = let alive = replies.not_declared in absurd (cc (alive, declared))
  by_declared fits marks (inl failed) false alive =
      let declared = ap (λ F. has F own.number) (sym failures_same) ∙ failed.declared in absurd (cc (alive, declared))
  by_declared fits marks (inr replies) false alive = on_held fits marks alive (held_at own (comm_of asked)) refl (refusal_of own asked) refl replies.replies

  -- an answer where nobody else steps is the computed one
  pub answer_is : Fits meld limits h own → MarksAll → IsSelfFailed alone_view own asked reply ⊎ IsReply meld limits alone_view own asked reply → HasOutcome events reply (outcome_of meld limits h own asked)
  answer_is fits marks replies = by_declared fits marks replies (has (failures h) own.number) refl

-- a run where nobody else steps has the computed outcome, and leaves the record that follows from its reply
pub record IsOnlyRun {P : Type 0} (meld : P → P → P) (limits : Limits) (h after : History P) (own : Record) (asked : Call P) (events : List (Event P)) (reply : Reply P) (left : Record) : Type 0 where
  pub adds : events ≡ (outcome_of meld limits h own asked).own
  pub history : after ≡ h ++ entries_by (Rank own.number) (outcome_of meld limits h own asked).own
  pub reply_is : reply ≡ (outcome_of meld limits h own asked).reply
  pub left_is : left ≡ left_by limits.ranks after (record own { seen = failures h }) asked reply

-- each run of a rank's call where nobody else steps is so
pub run_is : {P : Type 0} (meld : P → P → P) (limits : Limits) (h after : History P) (own : Record) (asked : Call P) (reply : Reply P) (left : Record) → Fits meld limits h own
    → (alone : IsAloneRun meld limits (moment own h) asked reply (moment left after)) → IsOnlyRun meld limits h after own asked alone.run.span.own reply left
run_is {P = P} meld limits h after own asked reply left fits alone =
    let span = alone.run.span in
    let events = span.own in
    let parts = span_is h after span in
    let view : AtPoint P = record { look = failures h; history = h ++ entries_by (Rank own.number) events; own = events; spread = false } in
    let unspread : rests_on span ≡ record { look = failures span.look; history = span.point; own = events; spread = false } =
    ap (λ b. let v : AtPoint P = record { look = failures span.look; history = span.point; own = events; spread = b } in v) alone.unspread in
    let views : rests_on span ≡ view = unspread ∙ ap₂ (λ l w. let v : AtPoint P = record { look = failures l; history = w; own = events; spread = false } in v) parts.0 (alone.at_end ∙ parts.1) in
    let answer : Answers meld limits view own asked reply (moment left after) = subst (λ v. Answers meld limits v own asked reply (moment left after)) views alone.run.answer in
    let legal = subst (IsLegal meld limits) parts.1 span.legal in
    let out = answer_is meld limits h own events legal asked reply answer.own fits alone.marks answer.replies in
    let same = failures_same meld limits h own events legal asked reply answer.own in
    let seen : left.seen ≡ failures h = seen_is (is_shrink (polled_by own asked)) (failures h) after left.seen (ap failures parts.1 ∙ same) answer.leaves.seen in
    record {
      adds = out.0;
      history = parts.1 ∙ ap (λ es. h ++ entries_by (Rank own.number) es) out.0;
      reply_is = out.1;
      left_is = answer.leaves.record_is ∙ ap₂ (λ w s. left_by limits.ranks w (record own { seen = s }) asked reply) (sym parts.1) seen;
    }

-- What the lines of a legal trace keep: each rank's record fits what was said, and that of a rank whose call is under way fits what was said when
-- the call began. Calls under way are calls that some line spells.
use Rattle.std.proofs.Common.{◌≡◌, ◌⊎◌, ℕ, zero, suc, ◌<◌, ◌≤◌, ◌==◌, Bool, true, false, not, List, [], ◌∷◌, ◌++◌, length, length-append, take, map, find, filter, Option, Some, None, is_some, refl, ap, sym, ◌∙◌, subst, append-nil, arith, inl, inr, if◌then◌else◌}
use Rattle.std.specs.List.{AllByRecursion}
use Rattle.std.proofs.Math.Seq.{take-append_seam}
use Rattle.std.proofs.lemmas.{Bool.{eq-eqb, eqb-true}, List.{take-append-le}}
use Rattle.ulfm_laws.specs.{Flags.{flag_meld}, declared.flag_and.FlagAnd.{FlagAnd}}
use Rattle.ulfm_model.specs.declared.{call.Call.{Call}, event.Caller.{Caller}, event.Entry.{Entry}, limits.Limits.{Limits}, reply.Reply.{Reply}}
use Rattle.ulfm_model.specs.{History.{History, IsLegal, first_ranks, has}, Records.{Fits, Record, new_record}}
use Rattle.ulfm_model.proofs.{Histories.{legal_push}, LeftRuns.{call_fits, left_keeps}, LeftSound.{new_fits}, Lists.{all_has, each_filter, each_from, each_push, find_holds}, Stable.{fits_stays}}
use Rattle.ulfm_script.specs.Spelling.{Spells}
use Rattle.ulfm_model.specs.declared.line.Line.{Line}
use Rattle.ulfm_model.specs.{TraceLaws.{IsAnswer, IsRanksAnswer}, Traces.{MayCome, Under, after, after_reply, call_by, caller_of, found_by, is_owned, nothing, record_in, records_after, same_caller, taken_in, with_event}}
use Rattle.ulfm_model.proofs.{Callers.{each_change, same_is}, Kept.{find_other_record}}
use Rattle.ulfm_filters.specs.Calls.{CalledFits}
use Rattle.ulfm_lines.specs.{LineTexts.{TraceEvent, TraceLine}, Stepped.{TraceState}}

-- the record of a rank, among these
abbrev record_at : List Record → ℕ → Option Record
record_at records r = find (λ own. own.number == r) records

-- a call that some line of a trace spells
abbrev pub IsOfTraces : Call FlagAnd → Type 0
IsOfTraces asked = (line : List ℕ) × Spells line asked

-- a call under way
pub record Begun (limits : Limits) (h : History FlagAnd) (records : List Record) (u : Under FlagAnd) : Type 0 where
  pub spelled : IsOfTraces u.asked
  pub begun : u.begun ≤ length h
  pub fits : (r : ℕ) (own : Record) → caller_of u ≡ Caller.Rank r → record_at records r ≡ Some own → Fits flag_meld limits (take u.begun h) own

-- what is kept
pub record IsKept (limits : Limits) (h : History FlagAnd) (records : List Record) (calls : List (Under FlagAnd)) : Type 0 where
  pub legal : IsLegal flag_meld limits h
  pub below : (r : ℕ) (own : Record) → record_at records r ≡ Some own → r < limits.ranks
  pub fits : (r : ℕ) (own : Record) → record_at records r ≡ Some own → Fits flag_meld limits h own
  pub under_way : AllByRecursion (Begun limits h records) calls

abbrev pub Keeps : TraceState → Type 0
Keeps now = IsKept now.limits now.history now.records now.calls

-- where a line is a reply, it is an answer of the sequential object
abbrev pub IsAnswered : TraceState → TraceLine → Type 0
IsAnswered now (Line.Replied by point (Some reply)) = (u : Under FlagAnd) × (call_by now by ≡ Some u) × IsAnswer flag_meld now by u point reply
IsAnswered now line = Unit {0}

-- the call of a caller, where it is under way
pub record IsUnder (now : TraceState) (by : Caller) (u : Under FlagAnd) : Type 0 where
  pub begun : Begun now.limits now.history now.records u
  pub mine : caller_of u ≡ by

pub under : (now : TraceState) (by : Caller) (u : Under FlagAnd) → Keeps now → call_by now by ≡ Some u → IsUnder now by u
under now by u kept at =
    let here = find_holds (λ v. same_caller (caller_of v) by) (Begun now.limits now.history now.records) now.calls u kept.under_way at in
    record { begun = here.0; mine = same_is (caller_of u) by here.1 }

-- what a reply leaves of the record of the rank whose call it answers
pub left_fits : (now : TraceState) (r : ℕ) (u : Under FlagAnd) (point : ℕ) (reply : Reply FlagAnd) → Keeps now → IsUnder now (Caller.Rank r) u → (own : Record) → record_in now r ≡ Some own
    → IsAnswer flag_meld now (Caller.Rank r) u point reply → Fits flag_meld now.limits now.history (taken_in now u point reply own)
left_fits now r u point reply kept is own at answer = go (subst (IsRanksAnswer flag_meld now u point reply) at answer)
  where
    go : IsRanksAnswer flag_meld now u point reply (Some own) → Fits flag_meld now.limits now.history (taken_in now u point reply own)
    go (inl again) = subst (Fits flag_meld now.limits now.history) (sym again.2) (kept.fits r own at)
    go (inr run) =
        call_fits flag_meld now.limits false (take u.begun now.history) now.history own u.asked reply (taken_in now u point reply own) (is.begun.fits r own is.mine at) (inr run.0)

-- a rank that has a record after a change of one had it before
pub record WasRecord (r s : ℕ) (f : Record → Record) (records : List Record) (own : Record) : Type 0 where
  pub old : Record
  pub is : s ≡ r
  pub found : record_at records r ≡ Some old
  pub own_is : own ≡ f old

abbrev changed : ℕ → (Record → Record) → List Record → List Record
changed r f records = map (λ own. if own.number == r then f own else own) records

at_change : (r : ℕ) (f : Record → Record) → ((own : Record) → (f own).number ≡ own.number) → (records : List Record) (own : Record) → record_at (changed r f records) r ≡ Some own
    → WasRecord r r f records own
at_change r f keeps [] own is = absurd (cc is)
at_change r f keeps (x ∷ xs) own is = go (x.number == r) refl (λ more. at_change r f keeps xs own more) is
  where
    go : (b : Bool) → x.number == r ≡ b → (record_at (changed r f xs) r ≡ Some own → WasRecord r r f xs own)
        → find (λ y. y.number == r) ((if b then f x else x) ∷ changed r f xs) ≡ Some own → WasRecord r r f (x ∷ xs) own
    go true here more is =
        let there : (f x).number == r ≡ true = ap (λ n. n == r) (keeps x) ∙ here in
        let first : Some (f x) ≡ Some own = sym (ap (λ (b : Bool). if b then Some (f x) else record_at (changed r f xs) r) there) ∙ is in
        record { old = x; is = refl; found = ap (λ (b : Bool). if b then Some x else record_at xs r) here; own_is = cc first }
    go false here more is =
        let rest = more (sym (ap (λ (b : Bool). if b then Some x else record_at (changed r f xs) r) here) ∙ is) in
        record { old = rest.old; is = refl; found = ap (λ (b : Bool). if b then Some x else record_at xs r) here ∙ rest.found; own_is = rest.own_is }

record_was : (r s : ℕ) (f : Record → Record) → ((own : Record) → (f own).number ≡ own.number) → (records : List Record) (own : Record) → record_at (changed r f records) s ≡ Some own
    → WasRecord r s f records own ⊎ ((s == r ≡ false) × (record_at records s ≡ Some own))
record_was r s f keeps records own is = go (s == r) refl
  where
    go : (b : Bool) → s == r ≡ b → WasRecord r s f records own ⊎ ((s == r ≡ false) × (record_at records s ≡ Some own))
    go true here =
        let same = eqb-true s r here in
        let was = at_change r f keeps records own (subst (λ n. record_at (changed r f records) n ≡ Some own) same is) in
        inl (record { old = was.old; is = same; found = was.found; own_is = was.own_is })
    go false here = inr (here, sym (find_other_record flag_meld r s f keeps here records) ∙ is)

-- what holds of each that passes holds of each that is left
each_left : {X : Type 0} (p : X → Bool) (Q R : X → Type 0) → ((x : X) → p x ≡ true → Q x → R x) → (xs : List X) → AllByRecursion Q xs → AllByRecursion R (filter p xs)
each_left p Q R passes [] all = tt
each_left {X} p Q R passes (x ∷ xs) all = go (p x) refl (each_left p Q R passes xs all.1)
  where
    go : (b : Bool) → p x ≡ b → AllByRecursion R (filter p xs) → AllByRecursion R (if b then x ∷ filter p xs else filter p xs)
    go true is rest = (passes x is all.0, rest)
    go false is rest = rest

not_is : (b : Bool) → not b ≡ true → b ≡ false
not_is true is = absurd (cc is)
not_is false is = refl

-- a call that begins
kept_called : (now : TraceState) (asked : Call FlagAnd) → IsOfTraces asked → Keeps now → Keeps (after now (Line.Called asked false))
kept_called now asked spelled kept =
    let whole : take (length now.history) now.history ≡ now.history = ap (take (length now.history)) (sym (append-nil now.history)) ∙ take-append_seam now.history [] in
    let u : Under FlagAnd = record { asked = asked; begun = length now.history; look = None; own = [] } in
    record {
      legal = kept.legal;
      below = kept.below;
      fits = kept.fits;
      under_way = each_push (Begun now.limits now.history now.records) now.calls u kept.under_way (record {
        spelled = spelled;
        begun = omega arith;
        fits = λ r own by at. subst (λ w. Fits flag_meld now.limits w own) (sym whole) (kept.fits r own at);
      });
    }

-- a look
kept_looked : (now : TraceState) (r count : ℕ) → Keeps now → Keeps (after now (Line.Looked r count))
kept_looked now r count kept =
    let Q : Under FlagAnd → Type 0 = Begun now.limits now.history now.records in
    record {
      legal = kept.legal;
      below = kept.below;
      fits = kept.fits;
      under_way = each_change (Caller.Rank r) (λ u. record u { look = Some count }) Q Q (λ u b. b) now.calls
          (λ u at mine b. record { spelled = b.spelled; begun = b.begun; fits = b.fits }) kept.under_way;
    }

-- an event
module _ (limits : Limits) (h : History FlagAnd) (records : List Record) (e : Entry FlagAnd) where
  begun_later : (u : Under FlagAnd) → Begun limits h records u → Begun limits (h ++ e ∷ []) records u
  begun_later u b = record {
    spelled = b.spelled;
    begun = omega (arith, b.begun, length-append h (e ∷ []));
    fits = λ r own by at. subst (λ w. Fits flag_meld limits w own) (sym (take-append-le u.begun h (e ∷ []) b.begun)) (b.fits r own by at);
  }

  begun_owning : (event : TraceEvent) (u : Under FlagAnd) → Begun limits h records u → Begun limits (h ++ e ∷ []) records (with_event event u)
  begun_owning event u b = go (is_owned u event)
    where
      go : (x : Bool) → Begun limits (h ++ e ∷ []) records (if x then record u { own = u.own ++ event ∷ [] } else u)
      go true = let l = begun_later u b in record { spelled = l.spelled; begun = l.begun; fits = l.fits }
      go false = begun_later u b

kept_happened : (now : TraceState) (group : List ℕ) (by : Caller) (event : TraceEvent) → MayCome flag_meld now group (Line.Happened by (Some event)) → Keeps now → Keeps (after now (Line.Happened by (Some event)))
kept_happened now group by event may kept =
    let e : Entry FlagAnd = record { by = by; event = event } in
    let legal = legal_push flag_meld now.limits now.history e kept.legal may.0 in
    record {
      legal = legal;
      below = kept.below;
      fits = λ r own at. fits_stays flag_meld now.limits now.history (now.history ++ e ∷ []) own (e ∷ [], refl) legal (kept.fits r own at);
      under_way = each_change by (with_event event) (Begun now.limits now.history now.records) (Begun now.limits (now.history ++ e ∷ []) now.records)
          (begun_later now.limits now.history now.records e) now.calls (λ u at mine b. begun_owning now.limits now.history now.records e event u b) kept.under_way;
    }

-- a reply
kept_answered : (now : TraceState) (by : Caller) (point : ℕ) (reply : Reply FlagAnd) (u : Under FlagAnd) → Keeps now → IsUnder now by u → IsAnswer flag_meld now by u point reply
    → IsKept now.limits now.history (records_after now by u point reply) (filter (λ v. not (same_caller (caller_of v) by)) now.calls)
kept_answered now Caller.Outside point reply u kept is answer = record {
  legal = kept.legal;
  below = kept.below;
  fits = kept.fits;
  under_way = each_filter (λ v. not (same_caller (caller_of v) Caller.Outside)) (Begun now.limits now.history now.records) now.calls kept.under_way;
}
kept_answered now (Caller.Rank r) point reply u kept is answer = record {
  legal = kept.legal;
  below = λ s own at. below s own (was s own at);
  fits = λ s own at. fits s own (was s own at);
  under_way = each_left (λ v. not (same_caller (caller_of v) (Caller.Rank r))) (Begun now.limits now.history now.records) (Begun now.limits now.history (changed r f now.records)) others now.calls kept.under_way;
}
  where
    f : Record → Record
    f own = taken_in now u point reply own

    keeps : (own : Record) → (f own).number ≡ own.number
    keeps own = (left_keeps now.limits.ranks (take point now.history) (record own { seen = if is_some u.look then found_by now u else own.seen }) u.asked reply).0

    was : (s : ℕ) (own : Record) → record_at (changed r f now.records) s ≡ Some own → WasRecord r s f now.records own ⊎ ((s == r ≡ false) × (record_at now.records s ≡ Some own))
    was s own at = record_was r s f keeps now.records own at

    below : (s : ℕ) (own : Record) → WasRecord r s f now.records own ⊎ ((s == r ≡ false) × (record_at now.records s ≡ Some own)) → s < now.limits.ranks
    below s own (inl w) = subst (λ n. n < now.limits.ranks) (sym w.is) (kept.below r w.old w.found)
    below s own (inr other) = kept.below s own other.1

    fits : (s : ℕ) (own : Record) → WasRecord r s f now.records own ⊎ ((s == r ≡ false) × (record_at now.records s ≡ Some own)) → Fits flag_meld now.limits now.history own
    fits s own (inl w) = subst (Fits flag_meld now.limits now.history) (sym w.own_is) (left_fits now r u point reply kept is w.old w.found answer)
    fits s own (inr other) = kept.fits s own other.1

    others : (v : Under FlagAnd) → not (same_caller (caller_of v) (Caller.Rank r)) ≡ true → Begun now.limits now.history now.records v → Begun now.limits now.history (changed r f now.records) v
    others v other b = record {
      spelled = b.spelled;
      begun = b.begun;
      fits = λ s own by at. elim (was s own at) [
        | inl w ↦
            let differs : s == r ≡ false = sym (ap (λ c. same_caller c (Caller.Rank r)) by) ∙ not_is (same_caller (caller_of v) (Caller.Rank r)) other in
            let same : s == r ≡ true = eq-eqb s r w.is in
            absurd (cc (differs, same))
        | inr stays ↦ b.fits s own by stays.1
      ];
    }

-- a line that may come keeps it
pub kept_after : (now : TraceState) (group : List ℕ) (line : TraceLine) → MayCome flag_meld now group line → CalledFits line → IsAnswered now line → Keeps now → Keeps (after now line)
kept_after now group (Line.Called asked padded) may fits answered kept = kept_called now asked (fits.0, fits.1.spells) kept
kept_after now group (Line.Looked r count) may fits answered kept = kept_looked now r count kept
kept_after now group (Line.Happened by None) may fits answered kept = absurd may
kept_after now group (Line.Happened by (Some event)) may fits answered kept = kept_happened now group by event may kept
kept_after now group (Line.Replied by point None) may fits answered kept = absurd may
kept_after now group (Line.Replied by point (Some reply)) may fits answered kept =
    let u = answered.0 in
    subst (λ (o : Option (Under FlagAnd)). Keeps (after_reply now by point reply o)) (sym answered.1)
    (kept_answered now by point reply u kept (under now by u kept answered.1) answered.2)

-- each of the first ranks is below their number
firsts_below : (n : ℕ) → AllByRecursion (λ r. r < n) (first_ranks n)
firsts_below zero = tt
firsts_below (suc n) = each_push (λ r. r < suc n) (first_ranks n) n (each_from (λ r. r < n) (λ r. r < suc n) (λ r lt. omega (arith, lt)) (first_ranks n) (firsts_below n)) (omega arith)

each_map : {X Y : Type 0} (f : X → Y) (Q : Y → Type 0) (xs : List X) → AllByRecursion (λ x. Q (f x)) xs → AllByRecursion Q (map f xs)
each_map f Q [] all = tt
each_map f Q (x ∷ xs) all = (all.0, each_map f Q xs all.1)

-- nothing was said
pub kept_nothing : (limits : Limits) → Keeps (nothing limits)
kept_nothing limits = record { legal = tt; below = below; fits = fits; under_way = tt }
  where
    below : (r : ℕ) (own : Record) → record_at (map (new_record limits) (first_ranks limits.ranks)) r ≡ Some own → r < limits.ranks
    below r own at =
        let here = find_holds (λ x. x.number == r) (λ x. x.number < limits.ranks) (map (new_record limits) (first_ranks limits.ranks)) own
        (each_map (new_record limits) (λ x. x.number < limits.ranks) (first_ranks limits.ranks) (firsts_below limits.ranks)) at in
        subst (λ n. n < limits.ranks) (eqb-true own.number r here.1) here.0

    fits : (r : ℕ) (own : Record) → record_at (map (new_record limits) (first_ranks limits.ranks)) r ≡ Some own → Fits flag_meld limits [] own
    fits r own at =
        (find_holds (λ x. x.number == r) (Fits flag_meld limits []) (map (new_record limits) (first_ranks limits.ranks)) own
        (each_map (new_record limits) (Fits flag_meld limits []) (first_ranks limits.ranks)
        (each_from (λ r. has (first_ranks limits.ranks) r ≡ true) (λ r. Fits flag_meld limits [] (new_record limits r)) (λ r there. new_fits flag_meld limits r there) (first_ranks limits.ranks) (all_has (first_ranks limits.ranks)))) at).0

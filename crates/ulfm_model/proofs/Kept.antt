-- What the lines of a legal trace keep of each call under way.
use Rattle.std.proofs.Common.{◌≡◌, ◌⊎◌, ℕ, ◌==◌, Bool, true, false, List, [], ◌∷◌, ◌++◌, length, take, map, find, filter, not, unwrap_or, Option, Some, None, is_some, refl, ap, sym, ◌∙◌, subst, append-nil, append_assoc, IsTrue, IsFalse, inl, inr, if◌then◌else◌}
use Rattle.std.proofs.Math.Seq.{take-append_seam}
use Rattle.std.proofs.lemmas.List.{map-append}
use Rattle.std.proofs.lemmas.Bool.{eqb-false, eqb-true, ne_eqb}
use Rattle.std.specs.List.{AllByRecursion}
use Rattle.ulfm_model.specs.declared.{call.Call.{Call}, event.Caller.{Caller}, event.Entry.{Entry}, event.Event.{Event}, limits.Limits.{Limits}, reply.Reply.{Reply}}
use Rattle.ulfm_model.specs.{Answers.{MayOwn}, History.{History, IsLegal, entries_by, failures}, Records.{Record}, Runs.{StandsIn}}
use Rattle.ulfm_model.proofs.{Histories.{failures_begin, legal_push}, LeftRuns.{left_keeps}, Lists.{each_push}}
use Rattle.ulfm_model.specs.declared.line.Line.{Line}
use Rattle.ulfm_model.specs.Traces.{AreLegalAfter, MayAddBy, MayCome, Told, Traced, Under, after, after_reply, call_by, caller_of, found_by, is_owned, nothing, record_in, records_after, said_by, same_caller, taken_in, with_event}
use Rattle.ulfm_model.proofs.Callers.{each_change, same_is}

-- How a history goes along a call under way: as it was when the call began, what came up to its look, or up to now where it made none, and
-- what came since. The call found what had failed at its look; its own events have come since then.
pub record Course {P : Type 0} (h : History P) (u : Under P) : Type 0 where
  pub begin : History P
  pub later : History P
  pub rest : History P
  pub goes_on : (begin ++ later) ++ rest ≡ h
  pub begun : u.begun ≡ length begin
  pub sees : List ℕ
  pub looks : ((u.look ≡ None) × (sees ≡ [])) ⊎ ((u.look ≡ Some (length sees)) × (sees ≡ failures (begin ++ later)))
  pub no_look : caller_of u ≡ Caller.Outside → later ≡ []
  pub stands : StandsIn (entries_by (caller_of u) u.own) rest
  pub quiet : (r : ℕ) → caller_of u ≡ Caller.Rank r → u.look ≡ None → u.own ≡ []

-- A call under way, beside the records of the ranks: its caller's record was in use where it looked, and each of its own events came as its
-- look and that record allowed it.
pub record Spans {P : Type 0} (h : History P) (records : List Record) (u : Under P) : Type 0 where
  pub course : Course h u
  pub unused : (r : ℕ) → caller_of u ≡ Caller.Rank r → (own : Record) → find (λ x. x.number == r) records ≡ Some own → IsTrue own.refused → u.look ≡ None
  pub owns : (r : ℕ) → caller_of u ≡ Caller.Rank r → (own : Record) → find (λ x. x.number == r) records ≡ Some own → AllByRecursion (MayOwn course.sees own u.asked) u.own

-- what lines say is kept
pub record IsKept {P : Type 0} (meld : P → P → P) (now : Traced P) : Type 0 where
  pub legal : IsLegal meld now.limits now.history
  pub each : AllByRecursion (Spans now.history now.records) now.calls

-- what is found at a look stays found
pub found_sees : {P : Type 0} (h : History P) (records : List Record) (u : Under P) → (s : Spans h records u) → take (unwrap_or u.look 0) (failures h) ≡ s.course.sees
found_sees h records u s = go s.course.looks
  where
    go : ((u.look ≡ None) × (s.course.sees ≡ [])) ⊎ ((u.look ≡ Some (length s.course.sees)) × (s.course.sees ≡ failures (s.course.begin ++ s.course.later))) → take (unwrap_or u.look 0) (failures h) ≡ s.course.sees
    go (inl (none, nobody)) = ap (λ n. take (unwrap_or n 0) (failures h)) none ∙ sym nobody
    go (inr (some, is)) =
        let more = failures_begin (s.course.begin ++ s.course.later) h (s.course.rest, s.course.goes_on) in
        ap (λ n. take (unwrap_or n 0) (failures h)) some
        ∙ (ap (take (length s.course.sees)) (sym more.1 ∙ ap (λ w. w ++ more.0) (sym is)) ∙ take-append_seam s.course.sees more.0)

-- what stands in a list stands in a longer one
stands_more : {E : Type 0} (xs ys : List E) (y : E) → StandsIn xs ys → StandsIn xs (ys ++ y ∷ [])
stands_more [] ys y p = tt
stands_more (x ∷ xs) [] y p = absurd p
stands_more (x ∷ xs) (z ∷ ys) y (inl p) = inl (p.0, stands_more xs ys y p.1)
stands_more (x ∷ xs) (z ∷ ys) y (inr p) = inr (stands_more (x ∷ xs) ys y p)

-- and so with one more behind both
stands_push : {E : Type 0} (xs ys : List E) (y : E) → StandsIn xs ys → StandsIn (xs ++ y ∷ []) (ys ++ y ∷ [])
stands_push [] [] y p = inl (refl, tt)
stands_push [] (z ∷ ys) y p = inr (stands_push [] ys y tt)
stands_push (x ∷ xs) [] y p = absurd p
stands_push (x ∷ xs) (z ∷ ys) y (inl p) = inl (p.0, stands_push xs ys y p.1)
stands_push (x ∷ xs) (z ∷ ys) y (inr p) = inr (stands_push (x ∷ xs) ys y p)

module _ {P : Type 0} (meld : P → P → P) where
  -- a call begins
  spans_new : (h : History P) (records : List Record) (asked : Call P) → Spans h records (record { asked = asked; begun = length h; look = None; own = [] })
  spans_new h records asked =
      record {
        course = record {
          begin = h;
          later = [];
          rest = [];
          goes_on = append-nil (h ++ []) ∙ append-nil h;
          begun = refl;
          sees = [];
          looks = inl (refl, refl);
          no_look = λ by. refl;
          stands = tt;
          quiet = λ r by none. refl;
        };
        unused = λ r by own at refused. refl;
        owns = λ r by own at. tt;
      }

  -- a look is made
  spans_looked : (now : Traced P) (r count : ℕ) → MayCome meld now [] (Line.Looked r count) → (u : Under P) → call_by now (Caller.Rank r) ≡ Some u → caller_of u ≡ Caller.Rank r
      → Spans now.history now.records u → Spans now.history now.records (record u { look = Some count })
  spans_looked now r count may u at by s =
      let due = may.0 in
      let same : due.call ≡ u = cc (due.is_open, at) in
      let none : u.look ≡ None = ap (λ (v : Under P). v.look) (sym same) ∙ due.first in
      let nothing_own : u.own ≡ [] = s.course.quiet r by none in
      let whole : s.course.begin ++ (s.course.later ++ s.course.rest) ≡ now.history = sym (append_assoc s.course.begin s.course.later s.course.rest) ∙ s.course.goes_on in
      record {
        course = record {
          begin = s.course.begin;
          later = s.course.later ++ s.course.rest;
          rest = [];
          goes_on = append-nil (s.course.begin ++ (s.course.later ++ s.course.rest)) ∙ whole;
          begun = s.course.begun;
          sees = failures now.history;
          looks = inr (ap Some may.1, ap failures (sym whole));
          no_look = λ outside. absurd (cc (outside, by));
          stands = subst (λ es. StandsIn (entries_by (caller_of u) es) []) (sym nothing_own) tt;
          quiet = λ other is missing. absurd (cc missing);
        };
        unused = λ other is own there refused. absurd (refuses due.own own due.has_record (subst (λ n. find (λ x. x.number == n) now.records ≡ Some own) (rank_is other is) there) due.in_use refused);
        owns = λ other is own there. subst (AllByRecursion (MayOwn (failures now.history) own u.asked)) (sym nothing_own) tt;
      }
    where
      rank_is : (other : ℕ) → caller_of u ≡ Caller.Rank other → other ≡ r
      rank_is other is = cc (is, by)

      refuses : (own other : Record) → record_in now r ≡ Some own → record_in now r ≡ Some other → IsFalse own.refused → IsTrue other.refused → ⊥
      refuses own other one two used is = let same : own ≡ other = cc (one, two) in cc (ap (λ (w : Record). w.refused) same, used, is)

  -- others' events leave it as it is
  spans_other : (h : History P) (e : Entry P) (records : List Record) (u : Under P) → Spans h records u → Spans (h ++ e ∷ []) records u
  spans_other h e records u s =
      record {
        course = record {
          begin = s.course.begin;
          later = s.course.later;
          rest = s.course.rest ++ e ∷ [];
          goes_on = sym (append_assoc (s.course.begin ++ s.course.later) s.course.rest (e ∷ [])) ∙ ap (λ w. w ++ e ∷ []) s.course.goes_on;
          begun = s.course.begun;
          sees = s.course.sees;
          looks = s.course.looks;
          no_look = s.course.no_look;
          stands = stands_more (entries_by (caller_of u) u.own) s.course.rest e s.course.stands;
          quiet = s.course.quiet;
        };
        unused = s.unused;
        owns = s.owns;
      }

  -- its own event is added
  spans_added : (h : History P) (by : Caller) (event : Event P) (records : List Record) (u : Under P) → caller_of u ≡ by
      → ((r : ℕ) → by ≡ Caller.Rank r → IsTrue (is_some u.look))
      → ((r : ℕ) → by ≡ Caller.Rank r → (own : Record) → find (λ x. x.number == r) records ≡ Some own → MayOwn (take (unwrap_or u.look 0) (failures h)) own u.asked event)
      → Spans h records u → Spans (h ++ record { by = by; event = event } ∷ []) records (record u { own = u.own ++ event ∷ [] })
  unfolding spans_other
  spans_added h by event records u mine looked may s =
      let other = spans_other h (record { by = by; event = event }) records u s in
      let one : Event P → Entry P = λ e. record { by = caller_of u; event = e } in
      record {
        course = record {
          begin = s.course.begin;
          later = s.course.later;
          rest = s.course.rest ++ record { by = by; event = event } ∷ [];
          goes_on = other.course.goes_on;
          begun = s.course.begun;
          sees = s.course.sees;
          looks = s.course.looks;
          no_look = s.course.no_look;
          stands = subst (λ es. StandsIn es (s.course.rest ++ record { by = by; event = event } ∷ [])) (sym (map-append one u.own (event ∷ [])))
              (subst (λ c. StandsIn (entries_by (caller_of u) u.own ++ record { by = c; event = event } ∷ []) (s.course.rest ++ record { by = by; event = event } ∷ [])) (sym mine)
              (stands_push (entries_by (caller_of u) u.own) s.course.rest (record { by = by; event = event }) s.course.stands));
          quiet = λ r is none. absurd (no_look_made u.look none (looked r (sym mine ∙ is)));
        };
        unused = s.unused;
        owns = λ r is own at. each_push (MayOwn s.course.sees own u.asked) u.own event (s.owns r is own at)
            (subst (λ l. MayOwn l own u.asked event) (found_sees h records u s) (may r (sym mine ∙ is) own at));
      }
    where
      no_look_made : (look : Option ℕ) → look ≡ None → IsTrue (is_some look) → ⊥
      no_look_made look none some = cc (ap is_some none, some)

  -- an event comes in a caller's name, whose call has it if it is its own
  spans_event : (now : Traced P) (by : Caller) (event : Event P) → MayAddBy now by event → (u : Under P) → call_by now by ≡ Some u → caller_of u ≡ by
      → Spans now.history now.records u → Spans (now.history ++ record { by = by; event = event } ∷ []) now.records (with_event event u)
  spans_event now by event may u at mine s = go (is_owned u event)
    where
      looked : (c : Caller) → by ≡ c → MayAddBy now c event → (r : ℕ) → c ≡ Caller.Rank r → IsTrue (is_some u.look)
      looked Caller.Outside is added r rank = absurd (cc rank)
      looked (Caller.Rank s) is added r rank =
          let same : added.call ≡ u = cc (added.is_open, ap (call_by now) is, at) in subst (λ (v : Under P). IsTrue (is_some v.look)) same added.looked

      owned : (c : Caller) → by ≡ c → MayAddBy now c event → (r : ℕ) → c ≡ Caller.Rank r → (own : Record) → record_in now r ≡ Some own → MayOwn (found_by now u) own u.asked event
      owned Caller.Outside is added r rank own there = absurd (cc rank)
      owned (Caller.Rank s) is added r rank own there =
          let same : added.call ≡ u = cc (added.is_open, ap (call_by now) is, at) in
          let number : s ≡ r = cc rank in
          let one : added.own ≡ own = cc (added.has_record, subst (λ n. record_in now n ≡ Some own) (sym number) there) in
          subst (λ (v : Under P). MayOwn (found_by now v) own v.asked event) same (subst (λ o. MayOwn (found_by now added.call) o added.call.asked event) one added.may_own)

      go : (b : Bool) → Spans (now.history ++ record { by = by; event = event } ∷ []) now.records (if b then record u { own = u.own ++ event ∷ [] } else u)
      go true = spans_added now.history by event now.records u mine (looked by refl may) (owned by refl may) s
      go false = spans_other now.history (record { by = by; event = event }) now.records u s

  -- the record of another rank, after a change of one
  pub find_other_record : (r s : ℕ) (f : Record → Record) → ((own : Record) → (f own).number ≡ own.number) → s == r ≡ false → (records : List Record)
      → find (λ x. x.number == s) (map (λ own. if own.number == r then f own else own) records) ≡ find (λ x. x.number == s) records
  find_other_record r s f keeps differ [] = refl
  find_other_record r s f keeps differ (x ∷ xs) = go (x.number == r) refl (find_other_record r s f keeps differ xs)
    where
      others : List Record
      others = map (λ own. if own.number == r then f own else own) xs

      not_s : x.number == r ≡ true → x.number == s ≡ false
      not_s is = ne_eqb x.number s (λ e. eqb-false s r differ (sym e ∙ eqb-true x.number r is))

      go : (b : Bool) → x.number == r ≡ b → find (λ y. y.number == s) (map (λ own. if own.number == r then f own else own) xs) ≡ find (λ y. y.number == s) xs
          → find (λ y. y.number == s) ((if b then f x else x) ∷ map (λ own. if own.number == r then f own else own) xs) ≡ find (λ y. y.number == s) (x ∷ xs)
      go true is rest =
          let gone = not_s is in
          let gone_too = ap (λ n. n == s) (keeps x) ∙ gone in
          ap (λ (b : Bool). if b then Some (f x) else find (λ y. y.number == s) (map (λ own. if own.number == r then f own else own) xs)) gone_too
          ∙ (rest ∙ sym (ap (λ (b : Bool). if b then Some x else find (λ y. y.number == s) xs) gone))
      go false is rest = ap (λ more. if x.number == s then Some x else more) rest

  -- a reply to another's call leaves it as it is
  spans_reply : (now : Traced P) (by : Caller) (v : Under P) (point : ℕ) (reply : Reply P) (u : Under P) → same_caller (caller_of u) by ≡ false
      → Spans now.history now.records u → Spans now.history (records_after now by v point reply) u
  spans_reply now Caller.Outside v point reply u differ s = s
  spans_reply now (Caller.Rank r) v point reply u differ s =
      record {
        course = s.course;
        unused = λ n is own at. s.unused n is own (sym (same n is) ∙ at);
        owns = λ n is own at. s.owns n is own (sym (same n is) ∙ at);
      }
    where
      same : (n : ℕ) → caller_of u ≡ Caller.Rank n → find (λ x. x.number == n) (records_after now (Caller.Rank r) v point reply) ≡ find (λ x. x.number == n) now.records
      same n is =
          find_other_record r n (taken_in now v point reply) (λ own. (left_keeps now.limits.ranks (take point now.history) (record own { seen = if is_some v.look then found_by now v else own.seen }) v.asked reply).0)
          (sym (ap (λ c. same_caller c (Caller.Rank r)) is) ∙ differ) now.records

  kept_reply : (now : Traced P) (by : Caller) (point : ℕ) (reply : Reply P) (answered : Option (Under P)) → IsKept meld now → IsKept meld (after_reply now by point reply answered)
  kept_reply now by point reply None kept = kept
  kept_reply now by point reply (Some v) kept =
      record { legal = kept.legal; each = others now.calls kept.each }
    where
      others : (calls : List (Under P)) → AllByRecursion (Spans now.history now.records) calls
          → AllByRecursion (Spans now.history (records_after now by v point reply)) (filter (λ u. not (same_caller (caller_of u) by)) calls)
      others [] each = tt
      others (u ∷ calls) each = go (same_caller (caller_of u) by) refl (others calls each.1)
        where
          go : (b : Bool) → same_caller (caller_of u) by ≡ b → AllByRecursion (Spans now.history (records_after now by v point reply)) (filter (λ w. not (same_caller (caller_of w) by)) calls)
              → AllByRecursion (Spans now.history (records_after now by v point reply)) (if not b then u ∷ filter (λ w. not (same_caller (caller_of w) by)) calls else filter (λ w. not (same_caller (caller_of w) by)) calls)
          go true is rest = rest
          go false is rest = (spans_reply now by v point reply u is each.0, rest)

  limits_after : (now : Traced P) (line : Line P) → (after now line).limits ≡ now.limits
  limits_after now (Line.Called asked padded) = refl
  limits_after now (Line.Looked r count) = refl
  limits_after now (Line.Happened by None) = refl
  limits_after now (Line.Happened by (Some event)) = refl
  limits_after now (Line.Replied by point None) = refl
  limits_after now (Line.Replied by point (Some reply)) = go (call_by now by)
    where
      go : (answered : Option (Under P)) → (after_reply now by point reply answered).limits ≡ now.limits
      go None = refl
      go (Some u) = refl

  -- lines change no limits
  pub limits_stay : (now : Traced P) (lines : List (Told P)) → (said_by now lines).limits ≡ now.limits
  limits_stay now [] = refl
  limits_stay now (told ∷ lines) = limits_stay (after now told.line) lines ∙ limits_after now told.line

  -- a line that may come keeps it
  pub kept_after : (now : Traced P) (group : List ℕ) (line : Line P) → MayCome meld now group line → IsKept meld now → IsKept meld (after now line)
  kept_after now group (Line.Called asked padded) may kept =
      record { legal = kept.legal; each = each_push (Spans now.history now.records) now.calls (record { asked = asked; begun = length now.history; look = None; own = [] }) kept.each (spans_new now.history now.records asked) }
  kept_after now group (Line.Looked r count) may kept =
      record {
        legal = kept.legal;
        each = each_change (Caller.Rank r) (λ u. record u { look = Some count }) (Spans now.history now.records) (Spans now.history now.records) (λ u s. s) now.calls
            (λ u at mine s. spans_looked now r count may u at (same_is (caller_of u) (Caller.Rank r) mine) s) kept.each;
      }
  kept_after now group (Line.Happened by None) may kept = absurd may
  kept_after now group (Line.Happened by (Some event)) may kept =
      record {
        legal = legal_push meld now.limits now.history (record { by = by; event = event }) kept.legal may.0;
        each = each_change by (with_event event) (Spans now.history now.records) (Spans (now.history ++ record { by = by; event = event } ∷ []) now.records)
            (λ u s. spans_other now.history (record { by = by; event = event }) now.records u s) now.calls
            (λ u at mine s. spans_event now by event may.1 u at (same_is (caller_of u) by mine) s) kept.each;
      }
  kept_after now group (Line.Replied by point None) may kept = absurd may
  kept_after now group (Line.Replied by point (Some reply)) may kept = kept_reply now by point reply (call_by now by) kept

  pub kept_along : (now : Traced P) (lines : List (Told P)) → AreLegalAfter meld now lines → IsKept meld now → IsKept meld (said_by now lines)
  kept_along now [] legal kept = kept
  kept_along now (told ∷ lines) legal kept = kept_along (after now told.line) lines legal.1 (kept_after now told.group told.line legal.0 kept)

  pub kept_nothing : (limits : Limits) → IsKept meld (nothing limits)
  kept_nothing limits = record { legal = tt; each = tt }

-- How many lines a legal trace has: one for each event, and for each call that begins three at most, its own, its look and its reply.
use Rattle.std.proofs.Common.{◌≡◌, ℕ, ◌+◌, ◌*◌, ◌≤◌, Bool, true, false, not, List, [], ◌∷◌, ◌++◌, length, length-append, find, filter, Option, Some, None, is_some, refl, ap, sym, ◌∙◌, subst, arith, if◌then◌else◌}
use Rattle.ulfm_laws.specs.{Flags.{flag_meld}, declared.flag_and.FlagAnd.{FlagAnd}}
use Rattle.ulfm_model.specs.declared.{event.Caller.{Caller}, event.Entry.{Entry}}
use Rattle.ulfm_model.specs.declared.line.Line.{Line}
use Rattle.ulfm_model.specs.Traces.{AreLegalAfter, MayCome, Told, Under, after, after_reply, caller_of, change_by, is_owned, said_by, same_caller, with_event}
use Rattle.ulfm_filters.specs.Calls.{calls_in, calls_of}
use Rattle.ulfm_lines.specs.{LineTexts.{TraceEvent, TraceLine}, Stepped.{TraceState}}

-- how many lines a call under way has still to come: a look, if it made none, and a reply
abbrev still : Under FlagAnd → ℕ
still u = if is_some u.look then 1 else 2

abbrev stills : List (Under FlagAnd) → ℕ
stills [] = 0
stills (u ∷ us) = still u + stills us

stills_append : (us vs : List (Under FlagAnd)) → stills (us ++ vs) ≡ stills us + stills vs
stills_append [] vs = omega arith
stills_append (u ∷ us) vs = let more = stills_append us vs in omega (arith, more)

-- a look that is made isn't to come
stills_looked : (by : Caller) (count : ℕ) (us : List (Under FlagAnd)) (u : Under FlagAnd) → find (λ v. same_caller (caller_of v) by) us ≡ Some u → u.look ≡ None
    → stills (change_by by (λ v. record v { look = Some count }) us) + 1 ≡ stills us
stills_looked by count [] u at none = absurd (cc at)
stills_looked by count (x ∷ us) u at none = go (same_caller (caller_of x) by) at (λ there. stills_looked by count us u there none)
  where
    go : (b : Bool) → (if b then Some x else find (λ v. same_caller (caller_of v) by) us) ≡ Some u
        → (find (λ v. same_caller (caller_of v) by) us ≡ Some u → stills (change_by by (λ v. record v { look = Some count }) us) + 1 ≡ stills us)
        → stills (if b then record x { look = Some count } ∷ us else x ∷ change_by by (λ v. record v { look = Some count }) us) + 1 ≡ still x + stills us
    go true at more =
        let same : x ≡ u = cc at in
        let two : still x ≡ 2 = ap (λ (o : Option ℕ). if is_some o then 1 else 2) (ap (λ (v : Under FlagAnd). v.look) same ∙ none) in
        omega (arith, two)
    go false at more = let rest = more at in omega (arith, rest)

-- an event leaves what is to come
still_owning : (event : TraceEvent) (u : Under FlagAnd) → still (with_event event u) ≡ still u
still_owning event u = go (is_owned u event)
  where
    go : (b : Bool) → still (if b then record u { own = u.own ++ event ∷ [] } else u) ≡ still u
    go true = refl
    go false = refl

stills_happened : (by : Caller) (event : TraceEvent) (us : List (Under FlagAnd)) → stills (change_by by (with_event event) us) ≡ stills us
stills_happened by event [] = refl
stills_happened by event (x ∷ us) = go (same_caller (caller_of x) by) (stills_happened by event us)
  where
    go : (b : Bool) → stills (change_by by (with_event event) us) ≡ stills us → stills (if b then with_event event x ∷ us else x ∷ change_by by (with_event event) us) ≡ still x + stills us
    go true more = ap (λ n. n + stills us) (still_owning event x)
    go false more = ap (λ n. still x + n) more

-- a reply that is made isn't to come
one_still : (u : Under FlagAnd) → 1 ≤ still u
one_still u = go (is_some u.look)
  where
    go : (b : Bool) → 1 ≤ (if b then 1 else 2)
    go true = omega arith
    go false = omega arith

stills_fewer : (by : Caller) (us : List (Under FlagAnd)) → stills (filter (λ v. not (same_caller (caller_of v) by)) us) ≤ stills us
stills_fewer by [] = omega arith
stills_fewer by (x ∷ us) = go (same_caller (caller_of x) by) (stills_fewer by us)
  where
    go : (b : Bool) → stills (filter (λ v. not (same_caller (caller_of v) by)) us) ≤ stills us
        → stills (if not b then x ∷ filter (λ v. not (same_caller (caller_of v) by)) us else filter (λ v. not (same_caller (caller_of v) by)) us) ≤ still x + stills us
    go true less = omega (arith, less)
    go false less = omega (arith, less)

stills_replied : (by : Caller) (us : List (Under FlagAnd)) (u : Under FlagAnd) → find (λ v. same_caller (caller_of v) by) us ≡ Some u → 1 + stills (filter (λ v. not (same_caller (caller_of v) by)) us) ≤ stills us
stills_replied by [] u at = absurd (cc at)
stills_replied by (x ∷ us) u at = go (same_caller (caller_of x) by) at (λ there. stills_replied by us u there)
  where
    go : (b : Bool) → (if b then Some x else find (λ v. same_caller (caller_of v) by) us) ≡ Some u
        → (find (λ v. same_caller (caller_of v) by) us ≡ Some u → 1 + stills (filter (λ v. not (same_caller (caller_of v) by)) us) ≤ stills us)
        → 1 + stills (if not b then x ∷ filter (λ v. not (same_caller (caller_of v) by)) us else filter (λ v. not (same_caller (caller_of v) by)) us) ≤ still x + stills us
    go true at more = let less = stills_fewer by us in let one = one_still x in omega (arith, less, one)
    go false at more = let less = more at in omega (arith, less)

-- one line takes one of what is to come, or it is an event, or a call that begins
line_few : (now : TraceState) (group : List ℕ) (line : TraceLine) → MayCome flag_meld now group line
    → 1 + stills (after now line).calls + length now.history ≤ stills now.calls + length (after now line).history + 3 * calls_of line
line_few now group (Line.Called asked padded) may =
    let u : Under FlagAnd = record { asked = asked; begun = length now.history; look = None; own = [] } in
    let more = stills_append now.calls (u ∷ []) in omega (arith, more)
line_few now group (Line.Looked r count) may =
    let less = stills_looked (Caller.Rank r) count now.calls may.0.call may.0.is_open may.0.first in omega (arith, less)
line_few now group (Line.Happened by None) may = absurd may
line_few now group (Line.Happened by (Some event)) may =
    let same = stills_happened by event now.calls in
    let e : Entry FlagAnd = record { by = by; event = event } in
    let longer = length-append now.history (e ∷ []) in omega (arith, same, longer)
line_few now group (Line.Replied by point None) may = absurd may
line_few now group (Line.Replied by point (Some reply)) may =
    let less = stills_replied by now.calls may.call may.is_open in
    subst (λ (o : Option (Under FlagAnd)). 1 + stills (after_reply now by point reply o).calls + length now.history ≤ stills now.calls + length (after_reply now by point reply o).history + 0)
    (sym may.is_open) (omega (arith, less))

-- so it is with all lines
pub lines_few : (now : TraceState) (trace : List (Told FlagAnd)) → AreLegalAfter flag_meld now trace
    → length trace + stills (said_by now trace).calls + length now.history ≤ stills now.calls + length (said_by now trace).history + 3 * calls_in trace
lines_few now [] legal = omega arith
lines_few now (told ∷ rest) legal =
    let one = line_few now told.group told.line legal.0 in
    let more = lines_few (after now told.line) rest legal.1 in omega (arith, one, more)

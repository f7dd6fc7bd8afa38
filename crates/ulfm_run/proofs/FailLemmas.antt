-- Scripts of single steps in which a rank is declared in between.
use Rattle.std.proofs.Common.{◌≡◌, ◌≢◌, ℕ, ◌+◌, ◌-◌, ◌<◌, ◌≤◌, ◌&&◌, ◌||◌, Bool, true, false, List, [], ◌∷◌, ◌++◌, length, length-append, filter, option_map, Option, Some, None, Result, Ok, Err, is_some, refl, sym, ap, subst, ◌∙◌, append-nil, append_assoc, arith, inl, inr, IsTrue, if◌then◌else◌}
use Rattle.std.proofs.Math.Nat.{add-zero, min-le_left, min-le_right}
use Rattle.ulfm_laws.specs.{Flags.{flag_meld}, declared.flag_and.FlagAnd.{FlagAnd}}
use Rattle.ulfm_model.specs.declared.{call.Call.{Call}, event.Caller.{Caller}, limits.Limits.{Limits}, reply.Reply.{Reply}}
use Rattle.ulfm_script.specs.declared.line_kind.LineKind.TheVariants.{Open}
use Rattle.std.specs.Prelude.{IfOk}
use Rattle.std.specs.Io.KnownBytes.{Appends}
use Rattle.ulfm_script.specs.Ends.{HasFault, HasRunAll, KnownText, RunSoFar, TakesItem}
use Rattle.ulfm_model.specs.declared.{line.Line.{Line}, step_line.StepLine.TheVariants.{Before, Called, Failed, Finished, Stepped}}
use Rattle.ulfm_model.specs.{Follows.{EndsInReply, Follows, IsAtOnce, IsPiece, fail_piece, is_reply, steps_in, takes_step}, Traces.{AreLegalAfter, IsOpen, Told, Under, after, after_reply, call_by, nothing, said_by}}
use Rattle.ulfm_model.proofs.Parts.{legal_append, said_append}
use Rattle.ulfm_lines.proofs.{Calls.{opens_all, opens_append, said_opens}, Joined.{all_append, ends_append, lines_append, steps_append}, Taking.{taken_as, taken_steps}}
use Rattle.ulfm_lines.specs.{LineTexts.{lines_text}, StepLines.{ScriptStep, step_line_of}, Stepped.{IsOpenCall, TellsStep, TraceState}, Walked.{IsCountOf, IsTaken, TellsSteps, to_the_end}}
use Rattle.ulfm_lines.specs.declared.step_machine.{Reach.{Reach}, Taken.{Taken}, Taken.TheVariants.{Open as IsOpenStill, Run}}
use Rattle.ulfm_script.proofs.RunLemmas.{ran_all_as}
use Rattle.ulfm_run.specs.{FailingScripts.{DeclaresIfDue, EngineState, FailsAfter, FindsOpenBehind, HasFailed, IsCounted, LeavesDue, LeavesOut, LeavesSoFar, Lines, RestsAt, RunsFailing, RunsStep, StandsSoFar, TakesStepLine, TellsWalk, behind_of, failing_scripts, fails_after, fewer, ranks_event, ranks_events, up_to}, StepScripts.{first_line, trace_text}}
use Rattle.ulfm_run.specs.declared.plan.Failing.{Failing}
use Rattle.ulfm_run.proofs.TraceLemmas.{follows_append}

-- the events of ranks in lines, and in more lines
ranks_append : (xs ys : Lines) → ranks_events (xs ++ ys) ≡ ranks_events xs + ranks_events ys
ranks_append [] ys = omega arith
ranks_append (x ∷ xs) ys = let more = ranks_append xs ys in omega (arith, more)

-- an event of a rank takes a step
ranks_fewer : (piece : Lines) → ranks_events piece ≤ steps_in piece
ranks_fewer [] = omega arith
ranks_fewer (told ∷ rest) = go told.line (ranks_fewer rest)
  where
    go : (line : Line FlagAnd) → ranks_events rest ≤ steps_in rest
        → ranks_event line + ranks_events rest ≤ length (if takes_step line then told ∷ filter (λ (t : Told FlagAnd). takes_step t.line) rest else filter (λ (t : Told FlagAnd). takes_step t.line) rest)
    go (Line.Called asked padded) less = omega (arith, less)
    go (Line.Looked r count) less = omega (arith, less)
    go (Line.Happened Caller.Outside None) less = omega (arith, less)
    go (Line.Happened Caller.Outside (Some event)) less = omega (arith, less)
    go (Line.Happened (Caller.Rank r) None) less = omega (arith, less)
    go (Line.Happened (Caller.Rank r) (Some event)) less = omega (arith, less)
    go (Line.Replied by point reply) less = omega (arith, less)

-- a reply adds no event
reply_room : (now : TraceState) (by : Caller) (point : ℕ) (reply : Reply FlagAnd) (answered : Option (Under FlagAnd))
    → length now.history ≤ length (after_reply now by point reply answered).history
reply_room now by point reply None = omega arith
reply_room now by point reply (Some u) = omega arith

line_room : (now : TraceState) (line : Line FlagAnd) → ranks_event line + length now.history ≤ length (after now line).history
line_room now (Line.Called asked padded) = omega arith
line_room now (Line.Looked r count) = omega arith
line_room now (Line.Happened Caller.Outside None) = omega arith
line_room now (Line.Happened (Caller.Rank r) None) = omega arith
line_room now (Line.Happened Caller.Outside (Some event)) =
    omega (arith, length-append now.history (record { by = Caller.Outside; event = event } ∷ []))
line_room now (Line.Happened (Caller.Rank r) (Some event)) =
    omega (arith, length-append now.history (record { by = Caller.Rank r; event = event } ∷ []))
line_room now (Line.Replied by point None) = omega arith
line_room now (Line.Replied by point (Some reply)) = let same = reply_room now by point reply (call_by now by) in omega (arith, same)

-- the history has all events of ranks
ranks_room : (now : TraceState) (piece : Lines) → ranks_events piece + length now.history ≤ length (said_by now piece).history
ranks_room now [] = omega arith
ranks_room now (told ∷ rest) =
    let one = line_room now told.line in
    let more = ranks_room (after now told.line) rest in omega (arith, one, more)

-- a whole declaration tells none
pub failed_events : (now : TraceState) (r : ℕ) (piece : Lines) → IsPiece now (Failed r) piece → ranks_events piece ≡ 0
failed_events now r piece is = ap ranks_events is.2 ∙ go is.1
  where
    go : (reply : Reply FlagAnd) → ranks_events (fail_piece r is.0 reply) ≡ 0
    go Reply.Declared = refl
    go _ = refl

-- nor a call that begins
pub called_events : (now : TraceState) (asked : Call FlagAnd) (padded : Bool) (piece : Lines) → IsPiece now (Called asked padded) piece → ranks_events piece ≡ 0
called_events now asked padded piece is = let none = go is.2 in ap ranks_events is.1 ∙ omega (arith, none)
  where
    reply_event : (line : Line FlagAnd) → is_reply line ≡ true → ranks_event line ≡ 0
    reply_event (Line.Called asked padded) is = absurd (cc is)
    reply_event (Line.Looked r count) is = absurd (cc is)
    reply_event (Line.Happened by event) is = absurd (cc is)
    reply_event (Line.Replied by point reply) is = refl

    and_first : (a b : Bool) → (a && b) ≡ true → a ≡ true
    and_first true b is = refl
    and_first false b is = is

    go : IsAtOnce asked is.0 → ranks_events is.0 ≡ 0
    go (inl none) = ap ranks_events none
    go (inr one) = let zero = reply_event one.0.line (and_first (is_reply one.0.line) _ one.2) in ap ranks_events one.1 ∙ omega (arith, zero)

or_false : (b : Bool) → (b || false) ≡ b
or_false true = refl
or_false false = refl

-- a declaration leaves the ranks' calls
declared_opens : (q : ℕ) (limits : Limits) (r : ℕ) (lines : Lines) (was : Bool) → IsPiece (nothing limits) (Failed r) lines → opens_all q lines was ≡ was
declared_opens q limits r lines was is = ap (λ (t : Lines). opens_all q t was) is.2 ∙ (go is.1 ∙ or_false was)
  where
    go : (reply : Reply FlagAnd) → opens_all q (fail_piece r is.0 reply) was ≡ was || false
    go Reply.Declared = refl
    go _ = refl

-- a call that is under way without the declaration is under way with it
open_with : (limits : Limits) (r at steps : ℕ) (trace rest : Lines) → LeavesOut limits r at steps trace rest → (q : ℕ) → IsOpen (said_by (nothing limits) rest) (Caller.Rank q)
    → IsOpen (said_by (nothing limits) trace) (Caller.Rank q)
open_with limits r at steps trace rest l q is =
    let n : TraceState = nothing limits in
    let b : Bool = is_some (call_by n (Caller.Rank q)) in
    let whole : opens_all q trace b ≡ opens_all q l.behind (opens_all q l.declaration (opens_all q l.before b)) =
    ap (λ (t : Lines). opens_all q t b) l.trace_is ∙ (opens_append q l.before (l.declaration ++ l.behind) b ∙ opens_append q l.declaration l.behind (opens_all q l.before b)) in
    let part : opens_all q rest b ≡ opens_all q l.behind (opens_all q l.before b) = ap (λ (t : Lines). opens_all q t b) l.rest_is ∙ opens_append q l.before l.behind b in
    let same : opens_all q rest b ≡ opens_all q trace b =
    part ∙ (ap (opens_all q l.behind) (sym (declared_opens q limits r l.declaration (opens_all q l.before b) l.declares)) ∙ sym whole) in
    subst (λ (x : Bool). IsTrue x) (said_opens q n rest ∙ (same ∙ sym (said_opens q n trace))) is

still_open : (limits : Limits) (plan : Failing) (waits : Bool) (steps : ℕ) (trace rest : Lines) → LeavesSoFar limits plan waits steps trace rest → (q : ℕ)
    → IsOpen (said_by (nothing limits) rest) (Caller.Rank q) → IsOpen (said_by (nothing limits) trace) (Caller.Rank q)
still_open limits plan true steps trace rest l q is = subst (λ (t : Lines). IsOpen (said_by (nothing limits) t) (Caller.Rank q)) (sym l.1.same) is
still_open limits plan false steps trace rest l q is = open_with limits plan.rank plan.at steps trace rest l q is

-- the piece of a line that is taken at what is said with the declaration is one at what is said without it
piece_without : (limits : Limits) (plan : Failing) (waits : Bool) (steps : ℕ) (trace rest : Lines) → LeavesSoFar limits plan waits steps trace rest
    → (step : ScriptStep) (piece : Lines) → IsPiece (said_by (nothing limits) trace) step piece → IsPiece (said_by (nothing limits) rest) step piece
piece_without limits plan waits steps trace rest l (Called asked padded) piece is = is
piece_without limits plan waits steps trace rest l (Stepped q count) piece is = is
piece_without limits plan waits steps trace rest l (Before q name) piece is = is
piece_without limits plan waits steps trace rest l (Finished q) piece is = (is.0, λ was. is.1 (still_open limits plan waits steps trace rest l q was))
piece_without limits plan waits steps trace rest l (Failed q) piece is = is

-- the steps that were counted, and so many more
pub made_on : (steps count n made sum : ℕ) → IsCountOf steps made → IsCountOf count n → IsCountOf (made + n) sum → IsCountOf (steps + count) sum
made_on steps count n made sum (inl is) (inl more) (inl all) = inl (omega (arith, is.0, more.0, all.0), omega (arith, is.0, more.0, all.1))
made_on steps count n made sum (inl is) (inl more) (inr full) = inr (full.0, omega (arith, is.0, more.0, full.1))
made_on steps count n made sum (inl is) (inr most) (inl all) = inr (omega (arith, is.0, most.0, all.0, all.1), omega (arith, most.1))
made_on steps count n made sum (inl is) (inr most) (inr full) = inr (full.0, omega (arith, most.1))
made_on steps count n made sum (inr is) (inl more) (inl all) = inr (omega (arith, is.0, more.0, all.0, all.1), omega (arith, is.1))
made_on steps count n made sum (inr is) (inl more) (inr full) = inr (full.0, omega (arith, is.1))
made_on steps count n made sum (inr is) (inr most) (inl all) = inr (omega (arith, is.0, most.0, all.0, all.1), omega (arith, is.1))
made_on steps count n made sum (inr is) (inr most) (inr full) = inr (full.0, omega (arith, is.1))

-- what is counted is no more than what was made
pub made_below : (steps made : ℕ) → IsCountOf steps made → made ≤ steps
made_below steps made (inl is) = omega (arith, is.0)
made_below steps made (inr full) = omega (arith, full.0, full.1)

-- further lines of a trace, by so many steps, are further lines of what is left of it
leaves_more : (limits : Limits) (plan : Failing) (waits : Bool) (steps more : ℕ) (trace rest piece : Lines) → LeavesSoFar limits plan waits steps trace rest
    → ranks_events piece ≤ more → (waits ≡ true → steps + more ≤ plan.at) → LeavesSoFar limits plan waits (steps + more) (trace ++ piece) (rest ++ piece)
leaves_more limits plan true steps more trace rest piece l fewer within =
    let all = l.1.few in
    let both = ranks_append trace piece in
    (within refl, record { same = ap (λ (t : Lines). t ++ piece) l.1.same; few = omega (arith, all, both, fewer) })
leaves_more limits plan false steps more trace rest piece l fewer within =
    let some = l.few_behind in
    let both = ranks_append l.behind piece in
    record {
      before = l.before;
      declaration = l.declaration;
      behind = l.behind ++ piece;
      trace_is = ap (λ (t : Lines). t ++ piece) l.trace_is
          ∙ (append_assoc l.before (l.declaration ++ l.behind) piece ∙ ap (λ (t : Lines). l.before ++ t) (append_assoc l.declaration l.behind piece));
      rest_is = ap (λ (t : Lines). t ++ piece) l.rest_is ∙ append_assoc l.before l.behind piece;
      declares = l.declares;
      few_before = l.few_before;
      few_behind = omega (arith, some, both, fewer);
    }

-- no more events than are counted, up to the greatest number that there is
counted_on : (events more count n made sum : ℕ) → events ≤ made → more ≤ count → IsCountOf count n → IsCountOf (made + n) sum → events + more ≤ 4294967295
    → events + more ≤ sum
counted_on events more count n made sum few less (inl is) (inl all) room = omega (arith, few, less, is.0, all.0)
counted_on events more count n made sum few less (inl is) (inr full) room = omega (arith, full.0, room)
counted_on events more count n made sum few less (inr is) (inl all) room = omega (arith, is.0, all.0, room)
counted_on events more count n made sum few less (inr is) (inr full) room = omega (arith, full.0, room)

-- where nothing more is declared, what is left out was due
leaves_due : (limits : Limits) (plan : Failing) (waits : Bool) (steps : ℕ) (trace rest : Lines) → LeavesSoFar limits plan waits steps trace rest → (waits ≡ true → steps < plan.at)
    → LeavesDue limits plan.rank plan.at steps trace rest
leaves_due limits plan true steps trace rest l early = inl (early refl, l.1)
leaves_due limits plan false steps trace rest l early = inr l

-- lines that are told where the declaration isn't due
rests_at : (now : EngineState) (limits : Limits) (trace rest : Lines) (at : StandsSoFar now limits trace rest) → (now.waits ≡ true → at.counted.steps < now.plan.at)
    → RestsAt now limits trace rest
rests_at now limits trace rest at early =
    record { stands = at; early = early; left_out = leaves_due limits now.plan now.waits at.counted.steps trace rest at.left_out early }

-- what was told last doesn't matter
retold : (now : EngineState) (text : List ℕ) (limits : Limits) (trace rest : Lines) → RestsAt now limits trace rest → RestsAt (record now { text = text }) limits trace rest
retold now text limits trace rest at =
    let s = at.stands in
    record {
      stands = record { counted = s.counted; left_out = s.left_out; says = s.says };
      early = at.early;
      left_out = at.left_out;
    }

-- the state behind further steps: what the machine says then, how many were counted, and what was told
abbrev further : EngineState → (TraceState → Type 0) → ℕ → List ℕ → EngineState
further was After made text = record was { Says = After; made = made; text = text }

-- the state behind the declaration
abbrev declared : EngineState → (TraceState → Type 0) → List ℕ → EngineState
declared was After text = record was { Says = After; waits = false; text = text }

module _ (was : EngineState) (After : TraceState → Type 0) (limits : Limits) (trace rest : Lines) (at : StandsSoFar was limits trace rest) where
  abbrev now : TraceState
  now = said_by (nothing limits) trace

  -- steps of a rank's call, no more than come before the declaration, if it is still to come
  pub stands_stepped : (q : ℕ) (reach : Reach) (n sum : ℕ) (new : List ℕ) (t : TellsSteps After now q reach n was.text new) → IsCountOf (was.made + n) sum
      → (was.waits ≡ true → at.counted.steps + t.count ≤ was.plan.at) → StandsSoFar (further was After sum new) limits (trace ++ t.piece) (rest ++ t.piece)
  stands_stepped q reach n sum new t all within =
      let said = said_append (nothing limits) trace t.piece in
      let more = ranks_append trace t.piece in
      let fewer_events = ranks_fewer t.piece in
      let first = ranks_room (nothing limits) trace in
      let second = ranks_room now t.piece in
      let few = t.few in
      let room = t.room in
      let counted = counted_on (ranks_events trace) (ranks_events t.piece) t.count n was.made sum at.counted.few (omega (arith, fewer_events, few)) t.counted all (omega (arith, first, second, room)) in
      record {
        counted = record {
          steps = at.counted.steps + t.count;
          legal = legal_append flag_meld (nothing limits) trace t.piece at.counted.legal t.legal;
          number_is = made_on at.counted.steps t.count n was.made sum at.counted.number_is t.counted all;
          few = omega (arith, more, counted);
        };
        left_out = leaves_more limits was.plan was.waits at.counted.steps t.count trace rest t.piece at.left_out (omega (arith, fewer_events, few)) within;
        says = subst After (sym said) t.stands;
      }

  -- no step
  left_same : (piece : Lines) → ranks_events piece ≡ 0 → LeavesSoFar limits was.plan was.waits at.counted.steps (trace ++ piece) (rest ++ piece)
  left_same piece none =
      subst (λ n. LeavesSoFar limits was.plan was.waits n (trace ++ piece) (rest ++ piece)) (add-zero at.counted.steps)
      (leaves_more limits was.plan was.waits at.counted.steps 0 trace rest piece at.left_out (omega (arith, none)) (λ is. within was.waits is at.left_out))
    where
      within : (b : Bool) → b ≡ true → LeavesSoFar limits was.plan b at.counted.steps trace rest → at.counted.steps + 0 ≤ was.plan.at
      within true is l = let below = l.0 in omega (arith, below)
      within false is l = absurd (cc is)

  -- lines that tell no event of a rank are counted as no step
  abbrev counted_told : (piece : Lines) → AreLegalAfter flag_meld now piece → ranks_events piece ≡ 0 → IsCounted limits was.made (trace ++ piece)
  counted_told piece legal none =
      let more = ranks_append trace piece in
      let few = at.counted.few in
      record {
        steps = at.counted.steps;
        legal = legal_append flag_meld (nothing limits) trace piece at.counted.legal legal;
        number_is = at.counted.number_is;
        few = omega (arith, more, none, few);
      }

  -- a line of the script that makes no step
  stands_told : (piece : Lines) (new : List ℕ) → AreLegalAfter flag_meld now piece → ranks_events piece ≡ 0 → After (said_by now piece)
      → StandsSoFar (further was After was.made new) limits (trace ++ piece) (rest ++ piece)
  stands_told piece new legal none stands =
      record {
        counted = counted_told piece legal none;
        left_out = left_same piece none;
        says = subst After (sym (said_append (nothing limits) trace piece)) stands;
      }

  pub runs_told : (was.waits ≡ true → at.counted.steps < was.plan.at) → (step : ScriptStep) → ((piece : Lines) → IsPiece now step piece → ranks_events piece ≡ 0) → (new : List ℕ)
      → TellsStep After now step Run was.text new → RunsStep was (further was After was.made new) limits trace rest step
  unfolding stands_told
  runs_told early step none new t =
      let f = t.2.follows in
      let whole : t.0 ≡ f.0 = f.2 ∙ (ap (λ (x : Lines). f.0 ++ x) f.4 ∙ append-nil f.0) in
      let is : IsPiece now step t.0 = subst (IsPiece now step) (sym whole) f.3 in
      record {
        whole = t.0;
        piece = t.0;
        rests = rests_at (further was After was.made new) limits (trace ++ t.0) (rest ++ t.0) (stands_told t.0 new t.2.legal (none t.0 is) (subst After t.2.new_is t.3)) early;
        is_piece = is;
        told = t.4;
      }

  -- the declaration, where it was still to come, and is due
  module _ (due : was.plan.at ≤ was.made) where
    declares_here : (declaration : Lines) → IsPiece now (Failed was.plan.rank) declaration → (b : Bool) → b ≡ true → LeavesSoFar limits was.plan b at.counted.steps trace rest
        → LeavesOut limits was.plan.rank was.plan.at at.counted.steps (trace ++ declaration) rest
    declares_here declaration is false same l = absurd (cc same)
    declares_here declaration is true same l =
        let all = l.1.few in
        let below = l.0 in
        let made_steps = made_below at.counted.steps was.made at.counted.number_is in
        record {
          before = trace;
          declaration = declaration;
          behind = [];
          trace_is = ap (λ (x : Lines). trace ++ x) (sym (append-nil declaration));
          rest_is = sym l.1.same ∙ sym (append-nil trace);
          declares = is;
          few_before = omega (arith, all, below);
          few_behind = omega (arith, due, made_steps);
        }

    pub stands_declared : was.waits ≡ true → (new : List ℕ) → TellsStep After now (Failed was.plan.rank) Run was.text new
        → DeclaresIfDue was (declared was After new) limits trace rest true
    stands_declared is new t =
        let f = t.2.follows in
        let whole : t.0 ≡ f.0 = f.2 ∙ (ap (λ (x : Lines). f.0 ++ x) f.4 ∙ append-nil f.0) in
        let piece : IsPiece now (Failed was.plan.rank) t.0 = subst (IsPiece now (Failed was.plan.rank)) (sym whole) f.3 in
        let none = failed_events now was.plan.rank t.0 piece in (
          refl,
          t.0,
          piece,
          rests_at (declared was After new) limits (trace ++ t.0) rest
              (record {
                counted = counted_told t.0 t.2.legal none;
                left_out = declares_here t.0 piece was.waits is at.left_out;
                says = subst After (sym (said_append (nothing limits) trace t.0)) (subst After t.2.new_is t.3);
              }) (λ same. absurd (cc same)),
          t.4,
        )

-- a declaration that isn't due yet
pub still_early : (steps made at : ℕ) → IsCountOf steps made → made < at → at ≤ 4294967295 → steps < at
still_early steps made at (inl is) early fits = omega (arith, is.0, early)
still_early steps made at (inr full) early fits = absurd (omega (arith, full.0, early, fits))

-- a declaration is no call of a rank that has one under way
pub declared_by : (was : EngineState) (After : TraceState → Type 0) (limits : Limits) (trace rest : Lines) → StandsSoFar was limits trace rest
    → was.plan.at ≤ was.made → was.waits ≡ true → (taken : Taken) (new : List ℕ)
    → TellsStep After (said_by (nothing limits) trace) (Failed was.plan.rank) taken was.text new → DeclaresIfDue was (declared was After new) limits trace rest true
declared_by was After limits trace rest at due is Run new t = stands_declared was After limits trace rest at due is new t
declared_by was After limits trace rest at due is IsOpenStill new t = absurd (cc t.0.1.1)

-- a line of the script that makes no step was run, or couldn't be
pub took_other : {E : Type 0} (was : EngineState) (After : TraceState → Type 0) (limits : Limits) (trace rest : Lines)
    → RestsAt was limits trace rest → (step : ScriptStep) → ((piece : Lines) → IsPiece (said_by (nothing limits) trace) step piece → ranks_events piece ≡ 0)
    → (new : List ℕ) (result : Result Taken E) → IfOk result (λ taken. TellsStep After (said_by (nothing limits) trace) step taken was.text new)
    → IfOk result (λ taken. TakesStepLine was (further was After was.made new) limits trace rest step taken)
took_other was After limits trace rest at step none new (Ok Run) t = runs_told was After limits trace rest at.stands at.early step none new t
took_other was After limits trace rest at step none new (Ok IsOpenStill) t = t
took_other was After limits trace rest at step none new (Err fault) t = tt

module _ (old new : EngineState) (limits : Limits) (trace rest : Lines) where
  -- a declaration that isn't due, since it was made or fewer steps were
  pub none_due : StandsSoFar new limits trace rest → (new.waits ≡ true → (new.made < new.plan.at) × (new.plan.at ≤ 4294967295)) → new.text ≡ old.text → DeclaresIfDue old new limits trace rest false
  none_due at early same = (rests_at new limits trace rest at (λ is. let before = early is in still_early at.counted.steps new.made new.plan.at at.counted.number_is before.0 before.1), same)

  -- one that wasn't due
  pub not_due : (due : Bool) → due ≡ false → DeclaresIfDue old new limits trace rest due → DeclaresIfDue old new limits trace rest false
  not_due true is d = absurd (cc is)
  not_due false is d = d

  -- one that was
  pub is_due : (due : Bool) → due ≡ true → DeclaresIfDue old new limits trace rest due → DeclaresIfDue old new limits trace rest true
  is_due true is d = d
  is_due false is d = absurd (cc is)

-- at most so many steps are no more than these, and no more than before
fewer_left : (left : ℕ) (most : Option ℕ) → fewer left most ≤ left
fewer_left left None = omega arith
fewer_left left (Some m) = min-le_right m left

pub fewer_most : (left : ℕ) (o : Option ℕ) (most : ℕ) → o ≡ Some most → fewer left o ≤ most
fewer_most left None most is = absurd (cc is)
fewer_most left (Some m) most is = let same : m ≡ most = cc is in let less = min-le_left m left in omega (arith, same, less)

-- where a walk isn't due to stop for the declaration, it wasn't cut
pub not_cut : (at made n sum : ℕ) → IsCountOf (made + n) sum → at ≤ 4294967295 → sum < at → n ≢ at - made
not_cut at made n sum (inl all) most early = λ is. absurd (omega (arith, all.0, early, is))
not_cut at made n sum (inr full) most early = λ is. absurd (omega (arith, full.0, early, most))

module _ (After : TraceState → Type 0) (now : TraceState) (q : ℕ) (reach : Reach) where
  -- a walk that was cut to the steps before the declaration, and ended before
  pub taken_cut : (left n : ℕ) (old new : List ℕ) (t : TellsSteps After now q (up_to left reach) n old new) → n ≢ left → IsTaken now q reach t.piece
  taken_cut left n old new t other = taken_as After now q (up_to left reach) reach n old new t refl few unreached
    where
      few : (most : ℕ) → reach.most ≡ Some most → t.count ≤ most
      few most is = let one = t.within (fewer left reach.most) refl in let two = fewer_most left reach.most most is in omega (arith, one, two)

      unreached : reach ≡ to_the_end → Some (fewer left reach.most) ≢ Some n
      unreached is reached =
          let left_is : fewer left reach.most ≡ left = ap (λ (x : Reach). fewer left x.most) is in
          let same : fewer left reach.most ≡ n = cc reached in
          other (sym same ∙ left_is)

  -- a walk in two parts, with the declaration in between
  module _ (Later : TraceState → Type 0) (next : TraceState) (left n m : ℕ) (fits : left ≤ 4294967295) (old new mid last : List ℕ) (t : TellsSteps After now q (up_to left reach) n old new)
      (u : TellsSteps Later next q (behind_of n reach) m mid last)
      (same : is_some (call_by next (Caller.Rank q)) ≡ is_some (call_by (said_by now t.piece) (Caller.Rank q))) where
    both_few : (most : ℕ) → reach.most ≡ Some most → steps_in (t.piece ++ u.piece) ≤ most
    both_few most is =
        let one = t.within (fewer left reach.most) refl in
        let two = fewer_most left reach.most most is in
        let three = u.within (most - n) (ap (option_map (λ x. x - n)) is) in
        let first = t.few in
        let second = u.few in
        let counted = made_all in
        let all = steps_append t.piece u.piece in
        omega (arith, one, two, three, first, second, counted, all)
      where
        -- the first part was counted whole
        made_all : t.count ≤ n
        made_all = go t.counted
          where
            go : IsCountOf t.count n → t.count ≤ n
            go (inl is) = omega (arith, is.0)
            go (inr full) = let one = t.within (fewer left reach.most) refl in let two = fewer_left left reach.most in omega (arith, full.0, one, two, fits)

    both_end : reach ≡ to_the_end → IsOpen now (Caller.Rank q) → EndsInReply (t.piece ++ u.piece)
    both_end is was = go (is_some (call_by (said_by now t.piece) (Caller.Rank q))) refl
      where
        go : (b : Bool) → is_some (call_by (said_by now t.piece) (Caller.Rank q)) ≡ b → EndsInReply (t.piece ++ u.piece)
        go false closed =
            let none : u.piece ≡ [] = u.idle (λ opened. absurd (cc (opened, same, closed))) in
            subst (λ (x : Lines). EndsInReply (t.piece ++ x)) (sym none) (subst EndsInReply (sym (append-nil t.piece)) (t.ends was (λ opened. absurd (cc (opened, closed)))))
        go true opened =
            let done = taken_steps Later next q (behind_of n reach) m mid last u in
            ends_append t.piece u.piece (done.ends (ap (behind_of n) is) (same ∙ opened))

    pub taken_both : IsTaken now q reach (t.piece ++ u.piece)
    taken_both = record { by = all_append _ t.piece u.piece t.by u.by; few = both_few; before = λ name is. all_append _ t.piece u.piece (t.before name is) (u.before name is); ends = both_end }

-- steps that come before the declaration, and no more further steps than are left before it
within_plan : (steps made at count left : ℕ) → IsCountOf steps made → steps ≤ at → at ≤ 4294967295 → left ≡ at - made → count ≤ left → steps + count ≤ at
within_plan steps made at count left (inl is) below fits left_is few = omega (arith, is.0, below, left_is, few)
within_plan steps made at count left (inr full) below fits left_is few = omega (arith, full.0, full.1, below, fits, left_is, few)

-- the first part of a walk, up to the declaration
stands_first_part : (was : EngineState) (After : TraceState → Type 0) (limits : Limits) (trace rest : Lines) (at : StandsSoFar was limits trace rest) (q : ℕ) (reach : Reach) (left n sum : ℕ) (new : List ℕ)
    (t : TellsSteps After (said_by (nothing limits) trace) q (up_to left reach) n was.text new) → IsCountOf (was.made + n) sum → left ≡ was.plan.at - was.made → was.plan.at ≤ 4294967295
    → StandsSoFar (further was After sum new) limits (trace ++ t.piece) (rest ++ t.piece)
stands_first_part was After limits trace rest at q reach left n sum new t all left_is fits =
    stands_stepped was After limits trace rest at q (up_to left reach) n sum new t all (λ is. go was.waits is at.left_out)
  where
    go : (b : Bool) → b ≡ true → LeavesSoFar limits was.plan b at.counted.steps trace rest → at.counted.steps + t.count ≤ was.plan.at
    go true is l =
        let one = t.within (fewer left reach.most) refl in
        let two = fewer_left left reach.most in
        within_plan at.counted.steps was.made was.plan.at t.count left at.counted.number_is l.0 fits left_is (omega (arith, one, two))
    go false is l = absurd (cc is)

module _ (limits : Limits) (q : ℕ) (reach : Reach) (trace rest : Lines) where
  abbrev said : TraceState
  said = said_by (nothing limits) trace

  -- a walk behind the declaration
  pub walk_whole : (was : EngineState) (After : TraceState → Type 0) (n sum : ℕ) (new : List ℕ) → was.waits ≡ false → StandsSoFar was limits trace rest
      → TellsSteps After said q reach n was.text new → IsCountOf (was.made + n) sum → TellsWalk was (further was After sum new) limits trace rest q reach
  walk_whole was After n sum new over at t all = record {
    whole = t.piece;
    piece = t.piece;
    rests = rests_at (further was After sum new) limits (trace ++ t.piece) (rest ++ t.piece)
        (stands_stepped was After limits trace rest at q reach n sum new t all (λ is. absurd (cc (is, over)))) (λ is. absurd (cc (is, over)));
    taken = taken_steps After said q reach n was.text new t;
    told = t.told;
  }

  -- one that ended before the declaration
  walk_cut : (was later : EngineState) (After : TraceState → Type 0) (left n : ℕ) (new : List ℕ) (t : TellsSteps After said q (up_to left reach) n was.text new)
      → n ≢ left → RestsAt later limits (trace ++ t.piece) (rest ++ t.piece) → later.text ≡ new → TellsWalk was later limits trace rest q reach
  walk_cut was later After left n new t other at same = record {
    whole = t.piece;
    piece = t.piece;
    rests = at;
    taken = taken_cut After said q reach left n was.text new t other;
    told = same ∙ t.told;
  }

  -- one with the declaration in between
  module _ (was mid : EngineState) (Later After : TraceState → Type 0) (over : mid.waits ≡ false) (left n m sum : ℕ) (fits : left ≤ 4294967295) (new last : List ℕ)
      (t : TellsSteps After said q (up_to left reach) n was.text new) (declaration : Lines) (is : IsPiece (nothing limits) (Failed mid.plan.rank) declaration)
      (at : StandsSoFar mid limits ((trace ++ t.piece) ++ declaration) (rest ++ t.piece)) (told : mid.text ≡ new ++ lines_text declaration)
      (u : TellsSteps Later (said_by (nothing limits) ((trace ++ t.piece) ++ declaration)) q (behind_of n reach) m mid.text last) (all : IsCountOf (mid.made + m) sum) where
    abbrev whole : Lines
    whole = t.piece ++ (declaration ++ u.piece)

    then_same : is_some (call_by (said_by (nothing limits) ((trace ++ t.piece) ++ declaration)) (Caller.Rank q)) ≡ is_some (call_by (said_by said t.piece) (Caller.Rank q))
    then_same =
        ap (λ (x : TraceState). is_some (call_by x (Caller.Rank q))) (said_append (nothing limits) (trace ++ t.piece) declaration ∙ ap (λ (x : TraceState). said_by x declaration) (said_append (nothing limits) trace t.piece))
        ∙ (said_opens q (said_by said t.piece) declaration ∙ declared_opens q limits mid.plan.rank declaration (is_some (call_by (said_by said t.piece) (Caller.Rank q))) is)

    regroup : ((trace ++ t.piece) ++ declaration) ++ u.piece ≡ trace ++ whole
    regroup =
        append_assoc (trace ++ t.piece) declaration u.piece ∙ append_assoc trace t.piece (declaration ++ u.piece)

    stands : StandsSoFar (further mid Later sum last) limits (trace ++ whole) (rest ++ (t.piece ++ u.piece))
    stands =
        subst (λ (x : Lines). StandsSoFar (further mid Later sum last) limits x (rest ++ (t.piece ++ u.piece))) regroup
        (subst (λ (x : Lines). StandsSoFar (further mid Later sum last) limits (((trace ++ t.piece) ++ declaration) ++ u.piece) x) (append_assoc rest t.piece u.piece)
        (stands_stepped mid Later limits ((trace ++ t.piece) ++ declaration) (rest ++ t.piece) at q (behind_of n reach) m sum last u all (λ is. absurd (cc (is, over)))))

    texts : last ≡ was.text ++ lines_text whole
    texts =
        u.told
        ∙ (ap (λ (x : List ℕ). x ++ lines_text u.piece) (told ∙ ap (λ (x : List ℕ). x ++ lines_text declaration) t.told)
        ∙ (append_assoc (was.text ++ lines_text t.piece) (lines_text declaration) (lines_text u.piece)
        ∙ (append_assoc was.text (lines_text t.piece) (lines_text declaration ++ lines_text u.piece)
        ∙ ap (λ (x : List ℕ). was.text ++ x) (ap (λ (x : List ℕ). lines_text t.piece ++ x) (sym (lines_append declaration u.piece)) ∙ sym (lines_append t.piece (declaration ++ u.piece))))))

    walk_both : TellsWalk was (further mid Later sum last) limits trace rest q reach
    walk_both = record {
      whole = whole;
      piece = t.piece ++ u.piece;
      rests = rests_at (further mid Later sum last) limits (trace ++ whole) (rest ++ (t.piece ++ u.piece)) stands (λ is. absurd (cc (is, over)));
      taken = taken_both After said q reach Later (said_by (nothing limits) ((trace ++ t.piece) ++ declaration)) left n m fits was.text new mid.text last t u then_same;
      told = texts;
    }

  -- a walk whose first part goes up to the declaration, and what is said of that declaration then
  module _ (was new : EngineState) (After : TraceState → Type 0) (at : StandsSoFar was limits trace rest) (left n sum : ℕ) (text : List ℕ)
      (tells : (now : TraceState) → was.Says now → TellsSteps After now q (up_to left reach) n was.text text) (all : IsCountOf (was.made + n) sum)
      (left_is : left ≡ was.plan.at - was.made) (fits : was.plan.at ≤ 4294967295) (due : Bool)
      (declares : (told behind : Lines) → StandsSoFar (further was After sum text) limits told behind → DeclaresIfDue (further was After sum text) new limits told behind due) where
    abbrev first : TellsSteps After said q (up_to left reach) n was.text text
    first = tells said at.says

    declared_then : DeclaresIfDue (further was After sum text) new limits (trace ++ first.piece) (rest ++ first.piece) due
    declared_then = declares (trace ++ first.piece) (rest ++ first.piece) (stands_first_part was After limits trace rest at q reach left n sum text first all left_is fits)

    -- it wasn't due, and the walk was over
    pub walk_before : due ≡ false → sum < was.plan.at → TellsWalk was new limits trace rest q reach
    walk_before is early =
        let d = not_due (further was After sum text) new limits (trace ++ first.piece) (rest ++ first.piece) due is declared_then in
        let other = not_cut was.plan.at was.made n sum all fits early in
        walk_cut was new After left n text first (λ same. other (same ∙ left_is)) d.0 d.1

    -- it was due, and the walk goes on behind it
    pub walk_behind : due ≡ true → (Later : TraceState → Type 0) (m total : ℕ) (last : List ℕ)
        → ((now : TraceState) → new.Says now → TellsSteps Later now q (behind_of n reach) m new.text last) → IsCountOf (new.made + m) total → TellsWalk was (further new Later total last) limits trace rest q reach
    walk_behind is Later m total last goes counted =
        let d = is_due (further was After sum text) new limits (trace ++ first.piece) (rest ++ first.piece) due is declared_then in
        walk_both was new Later After d.0 left n m total (omega (arith, left_is, fits)) text last first d.1 d.2 d.3.stands d.4
        (goes (said_by (nothing limits) ((trace ++ first.piece) ++ d.1)) d.3.stands.says) counted

-- a walk is the piece of its line
pub walk_step : (old new : EngineState) (limits : Limits) (trace rest : Lines) (q : ℕ) (reach : Reach) (step : ScriptStep)
    → (w : TellsWalk old new limits trace rest q reach) → IsPiece (said_by (nothing limits) trace) step w.piece → RunsStep old new limits trace rest step
walk_step old new limits trace rest q reach step w is = record { whole = w.whole; piece = w.piece; rests = w.rests; is_piece = is; told = w.told }

-- nothing is told yet
pub stands_first : (Says : TraceState → Type 0) (limits : Limits) (plan : Failing) (text : List ℕ) → Says (nothing limits)
    → StandsSoFar (record { Says = Says; plan = plan; waits = true; made = 0; text = text }) limits [] []
stands_first Says limits plan text says = record {
  counted = record { steps = 0; legal = tt; number_is = inl (refl, omega arith); few = omega arith };
  left_out = (omega arith, record { same = refl; few = omega arith });
  says = says;
}

-- behind the header, and the declaration, if it was due there
pub has_opened : (plan : Failing) (old new : EngineState) (limits : Limits) (due : Bool) → new.plan ≡ plan → old.text ≡ first_line limits
    → DeclaresIfDue old new limits [] [] due → HasFailed plan new limits [] new.text
has_opened plan old new limits true same first d = record {
  plan_is = same;
  trace = d.1;
  rest = [];
  rests = d.3;
  follows = refl;
  out_is = d.4 ∙ ap (λ (x : List ℕ). x ++ lines_text d.1) first;
}
has_opened plan old new limits false same first d = record {
  plan_is = same;
  trace = [];
  rest = [];
  rests = d.0;
  follows = refl;
  out_is = d.1 ∙ (first ∙ sym (append-nil (first_line limits)));
}

-- the state before a line, with nothing told of it yet
abbrev cleared : EngineState → List ℕ → EngineState
cleared was text = record was { text = text }

module _ (plan : Failing) (was own : EngineState) (before : RunSoFar failing_scripts) (line : List ℕ) (step : ScriptStep)
    (h : HasFailed plan was before.heading.limits before.items before.out) (e : step_line_of line ≡ Ok step) where
  -- the lines that were told before stand
  rests_cleared : (text : List ℕ) → RestsAt (cleared was text) before.heading.limits h.trace h.rest
  rests_cleared text = retold was text before.heading.limits h.trace h.rest h.rests

  -- a line was run
  pub takes_failing : (text : List ℕ) → text ≡ [] → own.plan ≡ was.plan
      → (RestsAt (cleared was text) before.heading.limits h.trace h.rest → RunsStep (cleared was text) own before.heading.limits h.trace h.rest step)
      → TakesItem failing_scripts (λ heading. HasFailed plan own heading.limits) before (step_line_of line) own.text (Ok tt)
  takes_failing text none same runs =
      let limits = before.heading.limits in
      let t = runs (rests_cleared text) in
      let told : own.text ≡ lines_text t.whole = t.told ∙ ap (λ (x : List ℕ). x ++ lines_text t.whole) none in
      let follows : Follows (nothing limits) (before.items ++ step ∷ []) (h.rest ++ t.piece) =
      follows_append (nothing limits) before.items (step ∷ []) h.rest t.piece h.follows
      (t.piece, [], sym (append-nil t.piece), piece_without limits was.plan was.waits h.rests.stands.counted.steps h.trace h.rest h.rests.stands.left_out step t.piece t.is_piece, refl) in (
        step,
        e,
        record {
          plan_is = same ∙ h.plan_is;
          trace = h.trace ++ t.whole;
          rest = h.rest ++ t.piece;
          rests = t.rests;
          follows = follows;
          out_is = ap (λ (x : List ℕ). x ++ own.text) h.out_is
              ∙ (ap (λ (x : List ℕ). trace_text limits h.trace ++ x) told
              ∙ (append_assoc (first_line limits) (lines_text h.trace) (lines_text t.whole) ∙ ap (λ (x : List ℕ). first_line limits ++ x) (sym (lines_append h.trace t.whole))));
        },
      )

  -- a line begins a call of a rank that has one under way
  pub finds_failing : (text : List ℕ) → (RestsAt (cleared was text) before.heading.limits h.trace h.rest → IsOpenCall (said_by (nothing before.heading.limits) h.trace) step × (own.text ≡ text))
      → HasFault failing_scripts before (step_line_of line) Open
  finds_failing text finds =
      let is = (finds (rests_cleared text)).0 in
      let lines : List ScriptStep = before.items in
      let found : (behind : List ScriptStep) → FindsOpenBehind before.heading.limits (lines ++ step ∷ behind) (length lines + 2) Open before.out = λ behind. record {
        first = lines;
        asked = is.0;
        padded = is.1.0;
        behind = behind;
        kind_is = refl;
        lines_are = ap (λ (s : ScriptStep). lines ++ s ∷ behind) is.1.1;
        number_is = refl;
        at = was.plan.at;
        r = was.plan.rank;
        made = was.made;
        fails = fails_after h;
        is_open = is.2;
      } in
      inr (step, e, found)

-- what was run by a plan fails its rank
pub all_failing : (plan : Failing) (own : EngineState) (known old new : KnownText) → HasRunAll failing_scripts (λ heading. HasFailed plan own heading.limits) known (Appends old new)
    → RunsFailing plan.at plan.rank own.made known old new
all_failing plan own known old new h = ran_all_as h (λ heading items out has. subst (λ (x : Failing). FailsAfter x.at x.rank own.made heading.limits items out) has.plan_is (fails_after has)) (λ out told. told)

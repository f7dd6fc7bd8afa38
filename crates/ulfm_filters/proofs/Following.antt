-- What a trace begins that follows a script: calls that some line spells, and at most one for each line of the script.
use Rattle.std.proofs.Common.{◌≡◌, ℕ, ◌+◌, ◌-◌, ◌≤◌, ◌&&◌, Bool, true, false, List, [], ◌∷◌, ◌++◌, length, Some, Result, Ok, Err, refl, sym, subst, arith, inl, inr, if◌then◌else◌, nat_lt}
use Rattle.std.specs.{Prelude.{codes}, Fmt.{decimal}, List.{AllByRecursion}}
use Rattle.ulfm_laws.specs.declared.flag_and.FlagAnd.{FlagAnd}
use Rattle.ulfm_model.specs.declared.{call.Call.{Call}, event.Caller.{Caller}, limits.Limits.{Limits}}
use Rattle.ulfm_model.specs.declared.reply.Reply.{Reply}
use Rattle.ulfm_model.specs.declared.reply.Reply.TheVariants as reply
use Rattle.ulfm_model.specs.Answers.{traits_of}
use Rattle.ulfm_model.proofs.Lists.{each_append}
use Rattle.ulfm_script.specs.declared.line_kind.{LineKind.{LineKind}, LineKind.TheVariants.{Lines, Long}}
use Rattle.ulfm_script.specs.Scripts.{Parsed, Language, asked_by, asked_last, asked_then, item_at}
use Rattle.ulfm_script.specs.declared.{header_kind.HeaderKind.TheVariants.{Steps}, version.Version.{Version}}
use Rattle.ulfm_script.specs.Headers.{heading_of}
use Rattle.ulfm_script.proofs.ScriptLemmas.{before_last}
use Rattle.ulfm_model.specs.declared.{line.Line.{Line}, step_line.StepLine.TheVariants.{Before, Called, Failed, Finished, Stepped}}
use Rattle.ulfm_model.specs.{Follows.{AreOf, Follows, IsAtOnce, IsPiece, fail_event, is_of, is_reply}, Traces.{Told, said_by}}
use Rattle.ulfm_lines.specs.{LineTexts.{TraceLine}, StepLines.{ScriptStep, step_line_of}, Stepped.{IsSpelledStep, TraceState}}
use Rattle.ulfm_lines.proofs.StepsSpelled.{steps_found}
use Rattle.ulfm_filters.specs.Calls.{AllFit, CalledFits, calls_in, calls_of}

pub calls_append : (xs ys : List (Told FlagAnd)) → calls_in (xs ++ ys) ≡ calls_in xs + calls_in ys
calls_append [] ys = omega arith
calls_append (x ∷ xs) ys = let more = calls_append xs ys in omega (arith, more)

-- a line in a caller's name begins no call
no_call : (by : Caller) (line : TraceLine) → is_of by line ≡ true → CalledFits line × (calls_of line ≡ 0)
no_call by (Line.Called asked padded) is = absurd (cc is)
no_call by (Line.Looked r count) is = (tt, refl)
no_call by (Line.Happened other event) is = (tt, refl)
no_call by (Line.Replied other point reply) is = (tt, refl)

none_begins : (by : Caller) (piece : List (Told FlagAnd)) → AreOf by piece → AllFit piece × (calls_in piece ≡ 0)
none_begins by [] all = (tt, refl)
none_begins by (told ∷ rest) all =
    let one = no_call by told.line all.0 in
    let more = none_begins by rest all.1 in
    let here = one.1 in let there = more.1 in
    ((one.0, more.0), omega (arith, here, there))

-- nor does a reply
no_reply : (line : TraceLine) → is_reply line ≡ true → CalledFits line × (calls_of line ≡ 0)
no_reply (Line.Called asked padded) is = absurd (cc is)
no_reply (Line.Looked r count) is = absurd (cc is)
no_reply (Line.Happened by event) is = absurd (cc is)
no_reply (Line.Replied by point reply) is = (tt, refl)

and_first : (a b : Bool) → (a && b) ≡ true → a ≡ true
and_first true b is = refl
and_first false b is = is

at_once : (asked : Call FlagAnd) (rest : List (Told FlagAnd)) → IsAtOnce asked rest → AllFit rest × (calls_in rest ≡ 0)
at_once asked rest (inl none) = subst (λ (t : List (Told FlagAnd)). AllFit t × (calls_in t ≡ 0)) (sym none) (tt, refl)
at_once asked rest (inr one) =
    let none = no_reply one.0.line (and_first (is_reply one.0.line) (is_of (traits_of asked).by one.0.line) one.2) in
    let zero = none.1 in
    subst (λ (t : List (Told FlagAnd)). AllFit t × (calls_in t ≡ 0)) (sym one.1) ((none.0, tt), omega (arith, zero))

-- nor does what a declaration tells behind its call
fail_begins : (r point : ℕ) (told : Reply FlagAnd)
    → (let rest = fail_event r told ++ record { line = Line.Replied Caller.Outside point (Some told); group = [] } ∷ [] in AllFit rest × (calls_in rest ≡ 0))
fail_begins r point reply.Declared = ((tt, (tt, tt)), refl)
fail_begins r point told = ((tt, tt), refl)

-- a piece begins one call at most
abbrev OneAtMost : List (Told FlagAnd) → Type 0
OneAtMost piece = AllFit piece × (calls_in piece ≤ 1)

none_at_most : (piece : List (Told FlagAnd)) → AllFit piece × (calls_in piece ≡ 0) → OneAtMost piece
none_at_most piece none = let zero = none.1 in (none.0, omega (arith, zero))

pub piece_begins : (now : TraceState) (step : ScriptStep) (piece : List (Told FlagAnd)) → IsSpelledStep step → IsPiece now step piece → OneAtMost piece
piece_begins now (Called asked padded) piece spelled is =
    let rest = at_once asked is.0 is.2 in
    let zero = rest.1 in
    subst OneAtMost (sym is.1) (((spelled.1.0, spelled.1.1), rest.0), omega (arith, zero))
piece_begins now (Stepped r count) piece spelled is = none_at_most piece (none_begins (Caller.Rank r) piece is.0)
piece_begins now (Before r name) piece spelled is = none_at_most piece (none_begins (Caller.Rank r) piece is.0)
piece_begins now (Finished r) piece spelled is = none_at_most piece (none_begins (Caller.Rank r) piece is.0)
piece_begins now (Failed r) piece spelled is =
    let rest = fail_begins r is.0 is.1 in
    let zero = rest.1 in
    subst OneAtMost (sym is.2) (((codes "fail " ++ decimal r, record { spells = (spelled.1.0, refl); padded_is = refl }), rest.0), omega (arith, zero))

-- a trace that follows a script
pub follows_begins : (now : TraceState) (lines : List ScriptStep) (trace : List (Told FlagAnd)) → AllByRecursion IsSpelledStep lines → Follows now lines trace → AllFit trace × (calls_in trace ≤ length lines)
follows_begins now [] trace steps is = subst (λ (t : List (Told FlagAnd)). AllFit t × (calls_in t ≤ 0)) (sym is) (tt, omega arith)
follows_begins now (line ∷ lines) trace steps is =
    let one = piece_begins now line is.0 steps.0 is.3 in
    let more = follows_begins (said_by now is.0) lines is.1 steps.1 is.4 in
    let few = one.1 in
    let rest = more.1 in
    subst (λ (t : List (Told FlagAnd)). AllFit t × (calls_in t ≤ length (line ∷ lines))) (sym is.2)
    (each_append (λ (told : Told FlagAnd). CalledFits told.line) is.0 is.1 one.0 more.0, omega (arith, calls_append is.0 is.1, few, rest))

-- the lines of a script of steps, whatever it prints and finds
abbrev pub StepLanguage : (Limits → List ScriptStep → List ℕ → Type 0) → (Limits → List ScriptStep → ℕ → LineKind → List ℕ → Type 0) → Language
StepLanguage Prints Finds = record { Item = ScriptStep; heading = heading_of Steps; read = λ version. step_line_of; Prints = Prints; Finds = Finds }

module _ (Prints : Limits → List ScriptStep → List ℕ → Type 0) (Finds : Limits → List ScriptStep → ℕ → LineKind → List ℕ → Type 0) where
  item_read : (version : Version) (number : ℕ) (line : List ℕ) (step : ScriptStep) → item_at (StepLanguage Prints Finds) version number line ≡ Ok step → step_line_of line ≡ Ok step
  item_read version number line step is = go (nat_lt 64 (length line)) (nat_lt 100000 number) is
    where
      go : (long late : Bool) → (if long then Err Long else (if late then Err Lines else step_line_of line)) ≡ Ok step → step_line_of line ≡ Ok step
      go true late is = absurd (cc is)
      go false true is = absurd (cc is)
      go false false is = is

  -- what lines ask for up to their first fault are steps, and with the header there are at most 100,000
  pub lines_spell : (version : Version) (number : ℕ) (lines : List (List ℕ)) (rest : List ℕ)
      → AllByRecursion IsSpelledStep (asked_by (StepLanguage Prints Finds) version number lines rest).items × (length (asked_by (StepLanguage Prints Finds) version number lines rest).items ≤ 100001 - number)
  lines_spell version number [] rest = go rest
    where
      go : (rest : List ℕ) → AllByRecursion IsSpelledStep (asked_last {X = ScriptStep} number rest).items × (length (asked_last {X = ScriptStep} number rest).items ≤ 100001 - number)
      go [] = (tt, omega arith)
      go (x ∷ xs) = (tt, omega arith)
  lines_spell version number (line ∷ lines) rest =
      go (item_at (StepLanguage Prints Finds) version number line) refl (asked_by (StepLanguage Prints Finds) version (number + 1) lines rest) (lines_spell version (number + 1) lines rest)
    where
      go : (read : Result ScriptStep LineKind) → item_at (StepLanguage Prints Finds) version number line ≡ read → (more : Parsed ScriptStep)
          → AllByRecursion IsSpelledStep more.items × (length more.items ≤ 100001 - (number + 1))
          → AllByRecursion IsSpelledStep (asked_then number read more).items × (length (asked_then number read more).items ≤ 100001 - number)
      go (Err kind) is more behind = (tt, omega arith)
      go (Ok step) is more behind =
          let few = behind.1 in
          let before = before_last (StepLanguage Prints Finds) version number line step is in
          let spelled = steps_found line (Ok step) (sym (item_read version number line step is)) in
          (((line, spelled), behind.0), omega (arith, few, before))

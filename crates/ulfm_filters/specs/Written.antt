-- What a run of a step script has written is what a check finds legal.
use Rattle.std.specs.Prelude.{◌≡◌, ◌⊎◌, ℕ, ◌+◌, ◌*◌, ◌<◌, ◌≤◌, List, [], length, Some, Ok, Err}
use Rattle.std.specs.Io.KnownBytes.{Appends}
use Rattle.ulfm_laws.specs.Flags.{flag_meld}
use Rattle.ulfm_model.specs.declared.limits.Limits.{Limits}
use Rattle.ulfm_model.specs.{History.{History, IsLegal}, Words.{MayOpen, size_of}}
use Rattle.ulfm_script.specs.{Ends.{EndsAlone, KnownText, RunEnd}, Written.{WritesPart}}
use Rattle.ulfm_script.specs.declared.fault.RunFault.TheVariants.{Write}
use Rattle.ulfm_run.specs.{FailingScripts.{RunsFailing, failing_scripts}, StepScripts.{RunsSteps, trace_text}}
use Rattle.ulfm_trace.specs.{Checks.{Checks}, Texts.{IsLegalText, TraceLines}}
use Rattle.ulfm_model.specs.Traces.{IsLegalTrace}
use Rattle.ulfm_filters.specs.Calls.{AllFit, calls_in}
use Rattle.ulfm_trace.specs.declared.verdict.{Verdict.{Verdict}, Verdict.TheVariants.{Legal}}

-- the text is a legal trace, and a check of it that answers answers so
pub record IsFoundLegal (text : List ℕ) : Type 0 where
  pub legal : IsLegalText text
  pub only : (left : KnownText) (verdict : Verdict) → Checks (Some text) left (Ok verdict) → verdict ≡ Legal

-- a legal history has no more events than its world has words
abbrev pub EventsAreFew : {P : Type 0} → (P → P → P) → Type 0
EventsAreFew {P} meld = (limits : Limits) (h : History P) → MayOpen limits → IsLegal meld limits h → length h ≤ size_of limits

-- the text of a legal trace is found legal, where a script may have each of its calls, and where its events, of which there are at most as many as
-- words, and three lines for each of its calls are few enough
abbrev pub PrintedTracesAreLegal : Type 0
PrintedTracesAreLegal =
    (limits : Limits) (trace : TraceLines) → MayOpen limits → IsLegalTrace flag_meld limits trace → AllFit trace
    → size_of limits + 3 * calls_in trace < 5000000 → IsFoundLegal (trace_text limits trace)

-- what a writer has got is such a text: what it had, and what it has
abbrev pub GotLegal : KnownText → KnownText → Type 0
GotLegal old new = (text : List ℕ) × Appends old new text × IsFoundLegal text

-- nothing, or such a text
abbrev pub IsNoneOrLegal : List ℕ → Type 0
IsNoneOrLegal text = (text ≡ []) ⊎ IsFoundLegal text

-- What a run has written that ended so: at its end such a text; at a fault such a text or nothing; where the writer failed, a beginning of that.
abbrev pub WroteLegal : KnownText → KnownText → RunEnd → Type 0
WroteLegal old new (Ok done) = GotLegal old new
WroteLegal old new (Err Write) = (text : List ℕ) × WritesPart old new text × IsNoneOrLegal text
WroteLegal old new (Err fault) = (text : List ℕ) × Appends old new text × IsNoneOrLegal text

-- so it is with every run of a script of single steps
abbrev pub WrittenTracesAreLegal : Type 0
WrittenTracesAreLegal = (known left old new : KnownText) (ended : RunEnd) → RunsSteps known left old new ended → WroteLegal old new ended

-- and with one that ran to its end while a rank was declared failed in between
abbrev pub FailingTracesAreLegal : Type 0
FailingTracesAreLegal = (at rank number : ℕ) (known old new : KnownText) → rank < 1024 → RunsFailing at rank number known old new → GotLegal old new

-- and with any such run, however it ended
abbrev pub FailingEndsAreLegal : Type 0
FailingEndsAreLegal = (known left old new : KnownText) (ended : RunEnd) → EndsAlone failing_scripts known left old new ended → WroteLegal old new ended

-- How a filter did its work, behind an exit status.
use Rattle.std.specs.Prelude.{◌≡◌, ◌⊎◌, ℕ, List, OnOk, Result, Ok, Err}
use Rattle.std.specs.Io.KnownBytes.{Appends, Keeps}
use Rattle.ulfm_filters.specs.Echoes.{RunsEchoed}
use Rattle.ulfm_filters.specs.declared.filter.Filter.{Filter}
use Rattle.ulfm_filters.specs.declared.filter.Filter.TheVariants.{Calls, Echoed, Steps, Migrate, Check}
use Rattle.ulfm_filters.specs.Notes.{TellsEnd, TellsVerdict, no_memory, no_read}
use Rattle.ulfm_filters.specs.Migrations.{Migrates, RunsMigration}
use Rattle.ulfm_script.specs.declared.fault.RunFault.{RunFault}
use Rattle.ulfm_script.specs.declared.fault.RunFault.TheVariants.{Line, Memory, Read, Write}
use Rattle.ulfm_script.specs.Ends.{KnownText, RunEnd}
use Rattle.ulfm_script.specs.Runs.{RunsBuffered}
use Rattle.ulfm_script.specs.Written.{WritesPart}
use Rattle.ulfm_run.specs.StepScripts.{RunsSteps}
use Rattle.ulfm_trace.specs.declared.verdict.CheckFault.TheVariants as check
use Rattle.ulfm_trace.specs.declared.verdict.{Verdict.{Verdict}, Verdict.TheVariants.{Legal, Illegal}}
use Rattle.ulfm_trace.specs.{Checks.{CheckEnd, Checks}, Verdicts.{verdict_text}}

-- the exit status of a run that ended so
abbrev pub status_of : Result (Unit {0}) RunFault → ℕ
status_of (Ok done) = 0
status_of (Err (Line number kind)) = 1
status_of (Err Memory) = 3
status_of (Err Read) = 3
status_of (Err Write) = 3

-- a script was run, and the status says how it ended: what the input had and has left, what the output had and has
abbrev pub RanWith : KnownText → KnownText → KnownText → KnownText → ℕ → Type 0
RanWith known left old new status = (result : Result (Unit {0}) RunFault) × (status ≡ status_of result) × RunsBuffered known left old new result

-- a script was run, each call was printed before its reply, and the status says how that ended
abbrev pub EchoedWith : KnownText → KnownText → KnownText → KnownText → ℕ → Type 0
EchoedWith known left old new status = (result : Result (Unit {0}) RunFault) × (status ≡ status_of result) × RunsEchoed known left old new result

-- a script of single steps was run, and the status says how it ended
abbrev pub StepsRanWith : KnownText → KnownText → KnownText → KnownText → ℕ → Type 0
StepsRanWith known left old new status = (result : Result (Unit {0}) RunFault) × (status ≡ status_of result) × RunsSteps known left old new result

-- a script of calls was migrated, and the status says how that ended: at its end the script that was written has the replies of what was read
pub record MigratedWith (known left old new : KnownText) (status : ℕ) : Type 0 where
  pub result : Result (Unit {0}) RunFault
  pub status_is : status ≡ status_of result
  pub ends : RunsMigration known left old new result
  pub migrates : OnOk result (Migrates known old new)

-- a text was printed at this status, or at 3 a beginning of it, or all that couldn't be flushed
abbrev pub PrintsAt : ℕ → List ℕ → KnownText → KnownText → ℕ → Type 0
PrintsAt wanted text old new status = ((status ≡ wanted) × Appends old new text) ⊎ ((status ≡ 3) × WritesPart old new text)

-- the same at 0
abbrev pub PrintsWhole : List ℕ → KnownText → KnownText → ℕ → Type 0
PrintsWhole text old new status = PrintsAt 0 text old new status

-- the exit status of a verdict
abbrev pub verdict_status : Verdict → ℕ
verdict_status Legal = 0
verdict_status (Illegal line why) = 1

-- a verdict's line was printed at the verdict's status, or at 3 a beginning of it
abbrev pub PrintsVerdict : Verdict → KnownText → KnownText → ℕ → Type 0
PrintsVerdict verdict old new status = PrintsAt (verdict_status verdict) (verdict_text verdict) old new status

-- what a check's end prints, and the status: where there is no verdict, nothing at 3
abbrev pub PrintsEnd : CheckEnd → KnownText → KnownText → ℕ → Type 0
PrintsEnd (Ok verdict) old new status = PrintsVerdict verdict old new status
PrintsEnd (Err fault) old new status = (status ≡ 3) × Keeps old new

-- a trace was judged, and the end was printed: what the input had and has left, what the output had and has
abbrev pub CheckedWith : KnownText → KnownText → KnownText → KnownText → ℕ → Type 0
CheckedWith known left old new status = (end : CheckEnd) × Checks known left end × PrintsEnd end old new status

-- a filter did what it is for, and the status says how that ended
abbrev pub Filtered : Filter → KnownText → KnownText → KnownText → KnownText → ℕ → Type 0
Filtered Calls known left old new status = RanWith known left old new status
Filtered Echoed known left old new status = EchoedWith known left old new status
Filtered Steps known left old new status = StepsRanWith known left old new status
Filtered Migrate known left old new status = MigratedWith known left old new status
Filtered Check known left old new status = CheckedWith known left old new status

-- what is said of a check that ended so, at this status
abbrev pub TellsCheck : CheckEnd → ℕ → KnownText → KnownText → Type 0
TellsCheck (Ok verdict) status old new = TellsVerdict (verdict_status verdict) status old new
TellsCheck (Err check.Memory) status old new = WritesPart old new no_memory
TellsCheck (Err check.Read) status old new = WritesPart old new no_read

-- the bytes of a filter's streams, where they are known: what the input has left, what the output has, and what standard error has
pub record Streams : Type 0 where
  pub input : KnownText
  pub output : KnownText
  pub errors : KnownText

-- a trace was judged, and what standard error has got is of this end: the streams before and after
abbrev pub CheckedTelling : Streams → Streams → ℕ → Type 0
CheckedTelling old new status =
    (end : CheckEnd) × Checks old.input new.input end × PrintsEnd end old.output new.output status × TellsCheck end status old.errors new.errors

-- the same of a filter that did what it is for
abbrev pub FilteredTelling : Filter → Streams → Streams → ℕ → Type 0
FilteredTelling Calls old new status =
    (end : RunEnd) × (status ≡ status_of end) × RunsBuffered old.input new.input old.output new.output end × TellsEnd end old.errors new.errors
FilteredTelling Echoed old new status =
    (end : RunEnd) × (status ≡ status_of end) × RunsEchoed old.input new.input old.output new.output end × TellsEnd end old.errors new.errors
FilteredTelling Steps old new status =
    (end : RunEnd) × (status ≡ status_of end) × RunsSteps old.input new.input old.output new.output end × TellsEnd end old.errors new.errors
FilteredTelling Migrate old new status =
    (end : RunEnd) × (status ≡ status_of end) × RunsMigration old.input new.input old.output new.output end × TellsEnd end old.errors new.errors
FilteredTelling Check old new status = CheckedTelling old new status

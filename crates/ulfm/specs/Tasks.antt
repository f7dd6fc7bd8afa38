-- How a task was done, behind an exit status.
use Rattle.std.specs.Prelude.{◌≡◌, ⊤, ℕ, Bool, true, false}
use Rattle.ulfm_command.specs.CommandLines.{is_in_range}
use Rattle.ulfm_command.specs.declared.asked.{CheckForm.{CheckForm}, CheckForm.TheVariants.{Trace, Explained, Log}}
use Rattle.ulfm_command.specs.declared.asked.{RunForm.{RunForm}, Task.{Task}, Task.TheVariants.{Run, Migrate, Check, Draw, Explore, Replay, Race}}
use Rattle.ulfm_command.specs.declared.asked.RunForm.TheVariants as run
use Rattle.ulfm_draw.specs.declared.sheet.Looks.{Looks}
use Rattle.ulfm_filters.specs.declared.filter.Filter.{Filter}
use Rattle.ulfm_filters.specs.declared.filter.Filter.TheVariants as filter
use Rattle.ulfm_filters.specs.Statuses.{CheckedWith, Filtered, MigratedWith, Streams}
use Rattle.ulfm.specs.Drawn.{DrewWith, form_of}
use Rattle.ulfm.specs.Explained.{ExplainedWith}
use Rattle.ulfm.specs.Explored.{ExploredWith}
use Rattle.ulfm.specs.Observed.{ObservedWith}
use Rattle.ulfm.specs.Races.{RacedWith, plan_of}
use Rattle.ulfm.specs.Replayed.{ReplayedWith}

-- the filter that runs a script of this form
abbrev pub filter_of : RunForm → Filter
filter_of run.Calls = filter.Calls
filter_of run.Echoed = filter.Echoed
filter_of run.Steps = filter.Steps

-- a trace was judged, or explained, or a log was
abbrev pub JudgedWith : Type 0 → CheckForm → Streams → Streams → ℕ → Type 0
JudgedWith A Trace old new status = CheckedWith old.input new.input old.output new.output status
JudgedWith A Explained old new status = ExplainedWith old.input old.output new.output status
JudgedWith A (Log witness) old new status = ObservedWith A witness old.input old.output new.output status

-- a task was done, by the streams before and after, and the status says how that ended; the lists of an exploration are of this allocator
abbrev pub DoneWith : Type 0 → Looks → Task → Streams → Streams → ℕ → Type 0
DoneWith A looks (Run form) old new status = Filtered (filter_of form) old.input new.input old.output new.output status
DoneWith A looks Migrate old new status = MigratedWith old.input new.input old.output new.output status
DoneWith A looks (Check form) old new status = JudgedWith A form old new status
DoneWith A looks (Draw options) old new status = DrewWith (form_of options looks) old.input old.output new.output status
DoneWith A looks (Explore options) old new status = ExploredWith A options old.output new.output status
DoneWith A looks Replay old new status = ReplayedWith old.input old.output new.output status
DoneWith A looks (Race options) old new status = RacedWith (plan_of options) old.output new.output status

-- a race's options are in their ranges
abbrev pub IsInRange : Task → Type 0
IsInRange (Race options) = is_in_range options ≡ true
IsInRange task = ⊤

-- the greatest exit status of a task
abbrev pub most_status : Task → ℕ
most_status (Explore options) = 5
most_status (Check (Log witness)) = 4
most_status task = 3

-- whether a task reads the input
abbrev pub reads : Task → Bool
reads (Race options) = false
reads task = true

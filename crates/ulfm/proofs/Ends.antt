-- How a run or a race ended, by what its parts gave.
use Rattle.std.proofs.Common.{◌≡◌, ◌≤◌, ◌⊎◌, ℕ, Bool, true, false, List, None, Some, Err, inl, inr, refl, subst, sym}
use Rattle.std.specs.Io.KnownBytes.{Appends}
use Rattle.ulfm_script.specs.Written.{WritesPart}
use Rattle.ulfm_laws.specs.declared.flag_and.FlagAnd.{FlagAnd}
use Rattle.ulfm_model.specs.declared.reply.Reply.{Reply}
use Rattle.ulfm_model.specs.History.{History}
use Rattle.ulfm_command.specs.CommandLines.{Arguments, Asks}
use Rattle.ulfm_command.specs.declared.asked.{CheckForm.TheVariants.{Trace, Explained, Log}, ExploreOptions.{ExploreOptions}, RunForm.TheVariants.{Calls, Echoed, Steps}}
use Rattle.ulfm_command.specs.declared.asked.{Task.{Task}, Task.TheVariants.{Run, Migrate, Check, Draw, Explore, Replay, Race}}
use Rattle.ulfm_draw.specs.declared.{drawing.Form.{Form}, sheet.Looks.{Looks}}
use Rattle.ulfm_draw.specs.Drawings.{DrawsText}
use Rattle.ulfm_filters.specs.Echoes.{echo_scripts}
use Rattle.ulfm_explain.specs.Explained.{ExplainsText}
use Rattle.ulfm_explore.specs.Shows.{IsShown, Tells}
use Rattle.ulfm_filters.specs.Statuses.{CheckedWith, EchoedWith, MigratedWith, PrintsAt, PrintsWhole, RanWith, StepsRanWith, Streams, status_of, verdict_status}
use Rattle.ulfm_filters.specs.Migrations.{migrations}
use Rattle.ulfm_schedules.specs.declared.program.Program.{Program}
use Rattle.ulfm_race.specs.declared.plan.Plan.{Plan}
use Rattle.ulfm_race.specs.Races.{IsOutcome}
use Rattle.ulfm_filters.specs.RaceLines.{race_text}
use Rattle.ulfm_script.specs.declared.fault.RunFault.{RunFault}
use Rattle.ulfm_script.specs.declared.fault.RunFault.TheVariants.{Line, Memory, Read, Write}
use Rattle.ulfm_script.specs.Ends.{KnownText}
use Rattle.ulfm_script.specs.Runs.{call_scripts}
use Rattle.ulfm_script.proofs.ByteLemmas.{keeps_start}
use Rattle.ulfm_script.proofs.RunLemmas.{ran_none}
use Rattle.ulfm_run.specs.StepScripts.{step_scripts}
use Rattle.ulfm.specs.Drawn.{DrewWith, form_of}
use Rattle.ulfm.specs.Explained.{ExplainedWith}
use Rattle.ulfm.specs.Explored.{ExploredWith, at_status, most_states, whole_status}
use Rattle.ulfm.specs.Observed.{ObservedWith}
use Rattle.ulfm.specs.Races.{RacedWith, plan_of}
use Rattle.ulfm.specs.Tasks.{DoneWith, IsInRange}
use Rattle.ulfm_search.specs.declared.observing.Shown.{Shown}
use Rattle.ulfm_search.specs.Shown.{Observes}
use Rattle.ulfm_trace.specs.declared.verdict.CheckFault.TheVariants as fault
use Rattle.ulfm_trace.specs.declared.verdict.Verdict.{Verdict}
use Rattle.ulfm_trace.proofs.Checking.{checked_none}

-- a race whose lines were printed, or not all of them
pub raced : (plan : Plan) (h : History FlagAnd) (replies : List (List (Reply FlagAnd))) (group text : List ℕ) (old new : KnownText) (status : ℕ)
    → IsOutcome plan h replies group → text ≡ race_text plan.rounds replies group → PrintsWhole text old new status → RacedWith plan old new status
raced plan h replies group text old new status is lines shown =
    inl (record { history = h; replies = replies; group = group; answered = is; printed = subst (λ (t : List ℕ). PrintsWhole t old new status) lines shown })

-- memory was refused before anything was read or printed: to a race
pub race_ran_out : (plan : Plan) (out : KnownText) (status : ℕ) → status ≡ status_of (Err Memory) → RacedWith plan out out status
race_ran_out plan out status is = inr (is, keeps_start out)

-- to a script of calls, to one of single steps, and to a trace
pub ran_out : (known out : KnownText) (status : ℕ) → status ≡ status_of (Err Memory) → RanWith known known out out status
ran_out known out status is = (Err Memory, is, ran_none call_scripts known out)

pub echo_ran_out : (known out : KnownText) (status : ℕ) → status ≡ status_of (Err Memory) → EchoedWith known known out out status
echo_ran_out known out status is = (Err Memory, is, ran_none echo_scripts known out)

pub migrate_ran_out : (known out : KnownText) (status : ℕ) → status ≡ status_of (Err Memory) → MigratedWith known known out out status
migrate_ran_out known out status is = record { result = Err Memory; status_is = is; ends = ran_none migrations known out; migrates = tt }

pub steps_ran_out : (known out : KnownText) (status : ℕ) → status ≡ status_of (Err Memory) → StepsRanWith known known out out status
steps_ran_out known out status is = (Err Memory, is, ran_none step_scripts known out)

pub checked_out : (known out : KnownText) (status : ℕ) → status ≡ status_of (Err Memory) → CheckedWith known known out out status
checked_out known out status is = (Err fault.Memory, checked_none known, (is, keeps_start out))

-- memory was refused before anything was read or printed: to a picture
pub draw_ran_out : (form : Form) (known out : KnownText) (status : ℕ) → status ≡ status_of (Err Memory) → DrewWith form known out out status
draw_ran_out form known out status is = inr (inr is, keeps_start out)

-- a fault, at which nothing was printed
pub drew_none : (form : Form) (known out : KnownText) (fault : RunFault) (status : ℕ) → status ≡ status_of (Err fault) → DrewWith form known out out status
drew_none form known out (Line number kind) status is = inr (inl is, keeps_start out)
drew_none form known out Memory status is = inr (inr is, keeps_start out)
drew_none form known out Read status is = inr (inr is, keeps_start out)
drew_none form known out Write status is = inr (inr is, keeps_start out)

-- a drawing that was printed, or not all of it
pub drew : (form : Form) (known old new : KnownText) (verdict : Verdict) (shown text : List ℕ) (status : ℕ) → DrawsText known form verdict shown → text ≡ shown
    → PrintsAt (verdict_status verdict) text old new status → DrewWith form known old new status
drew form known old new verdict shown text status drawn is printed =
    inl (record { verdict = verdict; shown = shown; drawn = drawn; printed = subst (λ (t : List ℕ). PrintsAt (verdict_status verdict) t old new status) is printed })

-- memory was refused before anything was read or printed: to an explanation
pub explain_ran_out : (known out : KnownText) (status : ℕ) → status ≡ status_of (Err Memory) → ExplainedWith known out out status
explain_ran_out known out status is = inr (inr is, keeps_start out)

-- a fault, at which nothing was explained
pub told_none : (known out : KnownText) (fault : RunFault) (status : ℕ) → status ≡ status_of (Err fault) → ExplainedWith known out out status
told_none known out (Line number kind) status is = inr (inl is, keeps_start out)
told_none known out Memory status is = inr (inr is, keeps_start out)
told_none known out Read status is = inr (inr is, keeps_start out)
told_none known out Write status is = inr (inr is, keeps_start out)

-- an explanation that was printed, or not all of it
pub told_trace : (known old new : KnownText) (verdict : Verdict) (shown text : List ℕ) (status : ℕ) → ExplainsText known verdict shown → text ≡ shown
    → PrintsAt (verdict_status verdict) text old new status → ExplainedWith known old new status
told_trace known old new verdict shown text status explained is printed =
    inl (record { verdict = verdict; shown = shown; explained = explained; printed = subst (λ (t : List ℕ). PrintsAt (verdict_status verdict) t old new status) is printed })

-- memory was refused before anything was read or printed: to an exploration
pub explore_ran_out : (A : Type 0) (options : ExploreOptions) (out : KnownText) (status : ℕ) → status ≡ status_of (Err Memory) → ExploredWith A options out out status
explore_ran_out A options out status is = inr (inr (inl is), keeps_start out)

-- a fault, at which nothing was printed
pub explored_none : (A : Type 0) (options : ExploreOptions) (out : KnownText) (status : ℕ) → (status ≡ 1) ⊎ ((status ≡ 3) ⊎ (status ≡ 5)) → ExploredWith A options out out status
explored_none A options out status is = inr (is, keeps_start out)

-- the status of a text that was printed, or not all of it
at_its : (is_whole : Bool) (text : List ℕ) (old new : KnownText) (status : ℕ) → PrintsWhole text old new status
    → PrintsAt (whole_status is_whole) text old new (at_status is_whole status)
at_its true text old new status printed = printed
at_its false text old new status (inl printed) = inl (subst (λ (s : ℕ). at_status false s ≡ 4) (sym printed.0) refl, printed.1)
at_its false text old new status (inr printed) = inr (subst (λ (s : ℕ). at_status false s ≡ 3) (sym printed.0) refl, printed.1)

-- what was found, which was printed, or not all of it
pub explored : (A : Type 0) (program : Program A) (options : ExploreOptions) (old new : KnownText) (shown text : List ℕ) (is_whole : Bool) (states status : ℕ)
    → ((number : ℕ) → options.outcome ≡ Some number → IsShown program shown) → (options.outcome ≡ None → Tells program is_whole states shown)
    → (is_whole ≡ true → states ≤ most_states options) → text ≡ shown → PrintsWhole text old new status
    → ExploredWith A options old new (at_status is_whole status)
explored A program options old new shown text is_whole states status script outcomes within is printed =
    let whole = subst (λ (t : List ℕ). PrintsAt (whole_status is_whole) t old new (at_status is_whole status)) is (at_its is_whole text old new status printed) in
    inl (program, record { text = shown; is_whole = is_whole; states = states; script = script; outcomes = outcomes; within = within; printed = whole })

-- memory was refused before anything was read or printed: to a log
pub observe_ran_out : (A : Type 0) (witness : Bool) (known out : KnownText) (status : ℕ) → status ≡ status_of (Err Memory) → ObservedWith A witness known out out status
observe_ran_out A witness known out status is = inr (inr is, keeps_start out)

-- a fault, at which nothing was printed
pub observed_none : (A : Type 0) (witness : Bool) (known out : KnownText) (fault : RunFault) (status : ℕ) → status ≡ status_of (Err fault)
    → ObservedWith A witness known out out status
observed_none A witness known out (Line number kind) status is = inr (inl is, keeps_start out)
observed_none A witness known out Memory status is = inr (inr is, keeps_start out)
observed_none A witness known out Read status is = inr (inr is, keeps_start out)
observed_none A witness known out Write status is = inr (inr is, keeps_start out)

-- an answer that was printed, or not all of it
pub observed_whole : (A : Type 0) (witness : Bool) (known old new : KnownText) (shown : Shown A) (text : List ℕ) (printed : ℕ) → Observes known witness shown → text ≡ shown.text.items
    → PrintsWhole text old new printed → printed ≡ 0 → ObservedWith A witness known old new shown.status
observed_whole A witness known old new shown text printed observed is (inl whole) zero_is =
    inl (record { shown = shown; observed = observed; printed = inl (refl, subst (λ (t : List ℕ). Appends old new t) is whole.1) })
observed_whole A witness known old new shown text printed observed is (inr part) zero_is = absurd (cc (part.0, zero_is))

pub observed_part : (A : Type 0) (witness : Bool) (known old new : KnownText) (shown : Shown A) (text : List ℕ) (printed : ℕ) → Observes known witness shown → text ≡ shown.text.items
    → PrintsWhole text old new printed → (printed ≡ 0 → ⊥) → ObservedWith A witness known old new printed
observed_part A witness known old new shown text printed observed is (inl whole) other = absurd (other whole.0)
observed_part A witness known old new shown text printed observed is (inr part) other =
    inl (record { shown = shown; observed = observed; printed = inr (part.0, subst (λ (t : List ℕ). WritesPart old new t) is part.1) })

-- memory was refused before anything was read or printed: to any task
pub task_ran_out : (A : Type 0) (looks : Looks) (task : Task) (known out errors told : KnownText) (status : ℕ) → status ≡ status_of (Err Memory)
    → DoneWith A looks task (record { input = known; output = out; errors = errors }) (record { input = known; output = out; errors = told }) status
task_ran_out A looks (Run Calls) known out errors told status is = ran_out known out status is
task_ran_out A looks (Run Echoed) known out errors told status is = echo_ran_out known out status is
task_ran_out A looks (Run Steps) known out errors told status is = steps_ran_out known out status is
task_ran_out A looks Migrate known out errors told status is = migrate_ran_out known out status is
task_ran_out A looks (Check Trace) known out errors told status is = checked_out known out status is
task_ran_out A looks (Check Explained) known out errors told status is = explain_ran_out known out status is
task_ran_out A looks (Check (Log witness)) known out errors told status is = observe_ran_out A witness known out status is
task_ran_out A looks (Draw options) known out errors told status is = draw_ran_out _ known out status is
task_ran_out A looks (Explore options) known out errors told status is = explore_ran_out A options out status is
task_ran_out A looks Replay known out errors told status is = inr (inr is, keeps_start out)
task_ran_out A looks (Race options) known out errors told status is = race_ran_out (plan_of options) out status is

-- a race that the words ask for has its options in their ranges
pub asked_in_range : (words : Arguments) (task : Task) → Asks words task → IsInRange task
asked_in_range words (Race options) asks = asks.1.2.in_range
asked_in_range words (Run form) asks = tt
asked_in_range words Migrate asks = tt
asked_in_range words (Check form) asks = tt
asked_in_range words (Draw options) asks = tt
asked_in_range words (Explore options) asks = tt
asked_in_range words Replay asks = tt

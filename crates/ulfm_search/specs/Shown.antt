-- What is shown of an answer to a log.
use Rattle.std.specs.Prelude.{◌≡◌, ◌⊎◌, ℕ, Bool, true, List, [], ◌∷◌, ◌++◌, codes, map, if◌then◌else◌}
use Rattle.ulfm_model.specs.declared.limits.Limits.{Limits}
use Rattle.ulfm_script.specs.declared.header_kind.HeaderKind.TheVariants.{Trace}
use Rattle.ulfm_script.specs.{Ends.{IsTextOf, KnownText}, Headers.{header_text}}
use Rattle.ulfm_lines.specs.LineTexts.{lines_text}
use Rattle.ulfm_observed.specs.declared.{log.Log.{Log}, step.Step.{Step}}
use Rattle.ulfm_observed.specs.{Explains.{Explains}, LogTexts.{log_text}, Stages.{shown_of}}
use Rattle.ulfm_observed.specs.Refuted.{IsRefuted}
use Rattle.ulfm_search.specs.Answers.{IsNothing}
use Rattle.ulfm_search.specs.declared.observing.Shown.{Shown}

-- the text of the trace that these lines are, behind its header
abbrev pub witness_text : {A : Type 0} → Limits → List (Step A) → List ℕ
witness_text limits steps = header_text Trace limits ++ 10 ∷ lines_text (map (λ step. (shown_of step).told) steps)

-- what is printed of an explanation: the trace behind the first line, where it is wanted
abbrev pub explained_text : {A : Type 0} → Limits → List (Step A) → Bool → List ℕ
explained_text limits steps witness = codes "explained\n" ++ (if witness then witness_text limits steps else [])

-- These lines explain the log, and are shown where the trace is wanted, with status 0.
pub record ShowsTrace {A : Type 0} (witness : Bool) (shown : Shown A) (log : Log A) (steps : List (Step A)) : Type 0 where
  pub explains : Explains log steps
  pub shown_is : shown.text.items ≡ explained_text log.limits steps witness
  pub status_is : shown.status ≡ 0

-- It is shown that the log isn't explained, and why, with status 1; where it is said to be proved, no trace explains it.
pub record ShowsNothing {A : Type 0} (shown : Shown A) (log : Log A) (reason : List ℕ) (proved : Bool) : Type 0 where
  pub shown_is : IsNothing reason proved shown.text.items
  pub proves : proved ≡ true → IsRefuted log
  pub status_is : shown.status ≡ 1

-- It is shown that the search was given up, with status 4.
pub record ShowsUnknown {A : Type 0} (shown : Shown A) : Type 0 where
  pub shown_is : shown.text.items ≡ codes "unknown: the search was given up\n"
  pub status_is : shown.status ≡ 4

-- What is shown of a log: a trace that explains it, that there is none, or that the search was given up.
abbrev pub ShowsLog : {A : Type 0} → Bool → Shown A → Log A → Type 0
ShowsLog {A} witness shown log =
    ((steps : List (Step A)) × ShowsTrace witness shown log steps)
    ⊎ (((reason : List ℕ) × ((proved : Bool) × ShowsNothing shown log reason proved)) ⊎ ShowsUnknown shown)

-- The text is that of a log, and that is shown of it.
abbrev pub Shows : {A : Type 0} → List ℕ → Bool → Shown A → Type 0
Shows {A} text witness shown = (log : Log A) × (text ≡ log_text log) × ShowsLog witness shown log

-- the same of the text that a reader has left
abbrev pub Observes : {A : Type 0} → KnownText → Bool → Shown A → Type 0
Observes known witness shown = (text : List ℕ) × IsTextOf known text × Shows text witness shown

-- What an answer to a log says.
use Rattle.std.specs.Prelude.{◌≡◌, ◌++◌, ℕ, ⊤, Bool, true, List, codes, if◌then◌else◌}
use Rattle.ulfm_observed.specs.declared.log.Log.{Log}
use Rattle.ulfm_observed.specs.{Explains.{Explains}, LogTexts.{log_text}}
use Rattle.ulfm_observed.specs.Refuted.{IsRefuted}
use Rattle.ulfm_search.specs.declared.answer.Answer.{Answer}
use Rattle.ulfm_search.specs.declared.answer.Answer.TheVariants.{Explained, Nothing, Unknown}

-- the line below a reason that tells on what it rests
abbrev pub rests_on : Bool → List ℕ
rests_on proved =
    if proved then codes "  this is proved: no legal trace has these calls and replies\n" else codes "  this rests on tests: the search isn't proved\n"

-- The text says that a log isn't explained, for this reason, and on what that rests.
abbrev pub IsNothing : List ℕ → Bool → List ℕ → Type 0
IsNothing reason proved text = text ≡ codes "not explained: " ++ (reason ++ rests_on proved)

-- The answer is that the log isn't explained, for this reason; and where it is said to be proved, no trace explains it.
abbrev pub SaysNothing : {A B : Type 0} → Log B → List ℕ → Answer A → Type 0
SaysNothing log reason (Nothing why proved) = IsNothing reason proved why.items × (proved ≡ true → IsRefuted log)
SaysNothing log reason _ = ⊥

-- The trace explains the log, whose world has these limits; or no trace does, where that is said to be proved. What else is told rests on the search alone.
abbrev pub AnswersLog : {A B : Type 0} → Log B → Answer A → Type 0
AnswersLog log (Explained limits steps) = (log.limits ≡ limits) × Explains log steps.items
AnswersLog log (Nothing why proved) = (reason : List ℕ) × SaysNothing log reason (Nothing why proved)
AnswersLog log Unknown = ⊤

-- The text is that of a log, and the answer is one to it.
abbrev pub Answers : {A : Type 0} → List ℕ → Answer A → Type 0
Answers {A} text answer = (log : Log A) × (text ≡ log_text log) × AnswersLog log answer

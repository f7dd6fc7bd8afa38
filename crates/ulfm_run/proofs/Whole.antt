-- A line run on the elements of a machine's vector of seats, as a line run on the machine.
use Rattle.std.proofs.Common.{◌≡◌, ℕ, false, List, length, sym, subst}
use Rattle.std.specs.{Prelude.{Result, Ok, Err, is_err, IfOk, OnOk, Vec}, Vec.{with_items}}
use Rattle.std.proofs.lemmas.List.{with_items_is}
use Rattle.ulfm_laws.specs.declared.flag_and.FlagAnd.{FlagAnd}
use Rattle.ulfm_words.specs.Steps.{Name, Sight}
use Rattle.ulfm_model.specs.Traces.{Traced, said_by}
use Rattle.ulfm_lines.specs.{Progress.{GoesAsSaid, GoesFar, Progress}, StepLines.{ScriptStep}, Stepped.{TellsStep}, Walked.{TellsSteps}}
use Rattle.ulfm_lines.specs.declared.step_machine.Reach.{Reach}
use Rattle.ulfm_lines.specs.declared.step_machine.Taken.{Taken}
use Rattle.ulfm_run.specs.{Table.{StandsFor, progress_of}, Walks.{FlagSeat}}

-- steps that were told leave it standing for what lines say
pub stood : {E : Type 0} (Stands : Traced FlagAnd → Type 0) (now : Traced FlagAnd) (r : ℕ) (reach : Reach) (text more : List ℕ) (result : Result ℕ E)
    → IfOk result (λ made. TellsSteps Stands now r reach made text more) → OnOk result ((next : Traced FlagAnd) × Stands next)
stood Stands now r reach text more (Ok made) t = (said_by now t.piece, t.stands)
stood Stands now r reach text more (Err fault) t = tt

-- the elements that a line left fill the vector
module _ {Z : Type 0} (name : Name) (after : Sight FlagAnd) (v : Vec FlagSeat Z) (new : List FlagSeat) (fills : length new ≡ v.len) where
  pub ran_stands : (next : Traced FlagAnd) → StandsFor name after new next → StandsFor name after (with_items v new).items next
  ran_stands next stands = subst (λ ss. StandsFor name after ss next) (sym (with_items_is v new fills)) stands

  pub ran_tells : {E : Type 0} (now : Traced FlagAnd) (step : ScriptStep) (text more : List ℕ) (result : Result Taken E) → IfOk result (λ taken. TellsStep (StandsFor name after new) now step taken text more)
      → IfOk result (λ taken. TellsStep (StandsFor name after (with_items v new).items) now step taken text more)
  ran_tells now step text more result tells = subst (λ ss. IfOk result (λ taken. TellsStep (StandsFor name after ss) now step taken text more)) (sym (with_items_is v new fills)) tells

  pub ran_steps : {E : Type 0} (now : Traced FlagAnd) (r : ℕ) (reach : Reach) (text more : List ℕ) (result : Result ℕ E)
      → IfOk result (λ made. TellsSteps (StandsFor name after new) now r reach made text more)
      → IfOk result (λ made. TellsSteps (StandsFor name after (with_items v new).items) now r reach made text more)
  ran_steps now r reach text more result tells = subst (λ ss. IfOk result (λ made. TellsSteps (StandsFor name after ss) now r reach made text more)) (sym (with_items_is v new fills)) tells

  -- and the calls have come as far
  pub gone_far : {E : Type 0} (was other : Progress) (r : ℕ) (reach : Reach) (result : Result ℕ E) → was ≡ other → IfOk result (λ made. GoesFar was (progress_of after new) r reach made)
      → IfOk result (λ made. GoesFar other (progress_of after (with_items v new).items) r reach made)
  gone_far was other r reach result same goes =
      subst (λ p. IfOk result (λ made. GoesFar p (progress_of after (with_items v new).items) r reach made)) same
      (subst (λ ss. IfOk result (λ made. GoesFar was (progress_of after ss) r reach made)) (sym (with_items_is v new fills)) goes)

  pub gone_as_said : {E : Type 0} (was other : Progress) (step : ScriptStep) (result : Result Taken E) → was ≡ other → OnOk result (GoesAsSaid was (progress_of after new) step)
      → OnOk result (GoesAsSaid other (progress_of after (with_items v new).items) step)
  gone_as_said was other step result same goes =
      subst (λ p. OnOk result (GoesAsSaid p (progress_of after (with_items v new).items) step)) same
      (subst (λ ss. OnOk result (GoesAsSaid was (progress_of after ss) step)) (sym (with_items_is v new fills)) goes)

  -- it stands for what lines say, where no memory was refused
  pub ran_next : {T E : Type 0} (result : Result T E) → is_err result ≡ false → OnOk result ((next : Traced FlagAnd) × StandsFor name after new next) → (next : Traced FlagAnd) × StandsFor name after (with_items v new).items next
  ran_next (Ok taken) kept stands = (stands.0, ran_stands stands.0 stands.1)
  ran_next (Err fault) kept stands = absurd (cc kept)

-- What steps tell is what a line of a script asks for.
use Rattle.std.proofs.Common.{◌≡◌, ◌≢◌, ℕ, ◌≤◌, List, [], Some, refl, ap, sym, ◌∙◌, arith, append-nil, inl, inr}
use Rattle.std.specs.Prelude.{◌⊎◌}
use Rattle.ulfm_model.specs.declared.event.Caller.{Caller}
use Rattle.ulfm_model.specs.{Follows.{IsPiece}, Traces.{IsOpen, said_by}}
use Rattle.ulfm_lines.specs.declared.step_machine.{Reach.{Reach}, Taken.TheVariants.{Run}}
use Rattle.ulfm_lines.specs.{StepLines.{ScriptStep}, Stepped.{TellsStep, TraceState}, Walked.{IsTaken, TellsSteps, to_the_end}}

-- what steps told as far as they were taken, as a line asks for it that may reach further: they are no more than it asks for, and they didn't stop
-- for their number where it takes the call to its end
pub taken_as : (Stands : TraceState → Type 0) (now : TraceState) (r : ℕ) (taken reach : Reach) (made : ℕ) (old new : List ℕ)
    (t : TellsSteps Stands now r taken made old new) → taken.name ≡ reach.name → ((most : ℕ) → reach.most ≡ Some most → t.count ≤ most)
    → (reach ≡ to_the_end → taken.most ≢ Some made) → IsTaken now r reach t.piece
taken_as Stands now r taken reach made old new t named few ended = record {
  by = t.by;
  few = λ most is. let one = t.few in let two = few most is in omega (arith, one, two);
  before = λ name is. t.before name (named ∙ is);
  ends = λ is was. t.ends was (over is (t.stops (named ∙ ap (λ (x : Reach). x.name) is)));
}
  where
    over : reach ≡ to_the_end → (¬ IsOpen (said_by now t.piece) (Caller.Rank r)) ⊎ (taken.most ≡ Some made) → ¬ IsOpen (said_by now t.piece) (Caller.Rank r)
    over is (inl closed) = closed
    over is (inr reached) = absurd (ended is reached)

-- what steps told, as a line asks for it
pub taken_steps : (Stands : TraceState → Type 0) (now : TraceState) (r : ℕ) (reach : Reach) (made : ℕ) (old new : List ℕ)
    (t : TellsSteps Stands now r reach made old new) → IsTaken now r reach t.piece
taken_steps Stands now r reach made old new t =
    taken_as Stands now r reach reach made old new t refl (λ most is. t.within most is) (λ is reached. cc (ap (λ (x : Reach). x.most) is, reached))

-- a line whose piece this is was run
pub steps_tell : (Stands : TraceState → Type 0) (now : TraceState) (step : ScriptStep) (r : ℕ) (reach : Reach) (made : ℕ) (old new : List ℕ)
    (t : TellsSteps Stands now r reach made old new) → IsPiece now step t.piece → TellsStep Stands now step Run old new
steps_tell Stands now step r reach made old new t is =
    (t.piece, said_by now t.piece, record { legal = t.legal; follows = (t.piece, [], sym (append-nil t.piece), is, refl); new_is = refl }, t.stands, t.told)

-- What a whole declaration tells.
use Rattle.std.specs.Prelude.{◌≡◌, ℕ, [], ◌∷◌, length, None}
use Rattle.ulfm_model.specs.declared.{event.Caller.{Caller}, reply.Reply.{Reply}}
use Rattle.ulfm_words.specs.Steps.{View}
use Rattle.ulfm_model.specs.declared.step_line.StepLine.{StepLine}
use Rattle.ulfm_model.specs.{Follows.{Runs, fail_piece}, Traces.{Traced, call_by, said_by}}

-- where lines say what a view has seen, and no declaration is under way, they go on with this piece, and say what it has seen since
abbrev pub TellsFail : {P : Type 0} → (P → P → P) → ℕ → View P → Reply P → View P → Type 0
TellsFail {P} meld r old reply new =
    (now : Traced P) → now.limits ≡ old.words.limits → now.history ≡ old.pass.seen → call_by now Caller.Outside ≡ None
    → let piece = fail_piece r (length new.pass.seen) reply in
    Runs meld now (StepLine.Failed r ∷ []) piece (said_by now piece) × ((said_by now piece).history ≡ new.pass.seen)

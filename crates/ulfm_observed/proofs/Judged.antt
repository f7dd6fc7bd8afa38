-- What is left of an explanation, as it is judged.
use Rattle.std.proofs.Common.{◌≡◌, ◌<◌, ◌≤◌, ◌+◌, ℕ, List, drop, length, map, sym, subst}
use Rattle.std.specs.Prelude.{None, get_or}
use Rattle.std.proofs.lemmas.List.{drop_all}
use Rattle.ulfm_laws.specs.{Flags.{flag_meld}, declared.flag_and.FlagAnd.{FlagAnd}}
use Rattle.ulfm_model.specs.Traces.{AreLegalAfter, Takes, Told, Traced}
use Rattle.ulfm_observed.specs.declared.step.Step.{Step}
use Rattle.ulfm_observed.specs.Stages.{told_of}
use Rattle.ulfm_observed.proofs.Walks.{left_from}

-- what is left of an explanation, as lines of a trace
abbrev pub told_left : {B : Type 0} → List (Step B) → ℕ → List (Told FlagAnd)
told_left steps i = map told_of (drop i steps)

-- Where a line may come, what is left behind it has only to be legal after it.
pub legal_goes_on : {B : Type 0} (now next : Traced FlagAnd) (steps : List (Step B)) (i : ℕ) (step : Step B) → i < length steps → step ≡ get_or steps i step
    → Takes flag_meld now step.group.items step.line next None → AreLegalAfter flag_meld next (told_left steps (i + 1))
    → AreLegalAfter flag_meld now (told_left steps i)
legal_goes_on {B} now next steps i step lt is taken rest =
    subst (λ (ys : List (Step B)). AreLegalAfter flag_meld now (map told_of ys)) (sym (left_from steps i step lt is))
    (taken.0, subst (λ (s : Traced FlagAnd). AreLegalAfter flag_meld s (told_left steps (i + 1))) taken.1 rest)

-- Where all lines were judged, nothing has to be shown of what is left.
pub all_judged : {B : Type 0} (now : Traced FlagAnd) (steps : List (Step B)) (i : ℕ) → length steps ≤ i → AreLegalAfter flag_meld now (told_left steps i)
all_judged {B} now steps i few =
    subst (λ (ys : List (Step B)). AreLegalAfter flag_meld now (map told_of ys)) (sym (drop_all i steps few)) tt

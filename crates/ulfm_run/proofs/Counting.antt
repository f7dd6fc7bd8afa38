-- How many atomic steps were made.
use Rattle.std.proofs.Common.{◌≡◌, ℕ, ◌+◌, false, Option, Some, None, is_some, refl, ap, subst, inl, inr, IsTrue}
use Rattle.ulfm_laws.specs.{Flags.{flag_meld}, declared.flag_and.FlagAnd.{FlagAnd}}
use Rattle.ulfm_model.specs.declared.step_name.StepName.TheVariants as step
use Rattle.ulfm_model.specs.declared.step_name.StepName.{StepName}
use Rattle.ulfm_model.specs.Records.{Record}
use Rattle.ulfm_words.specs.Steps.{view_at, Name, Sight}
use Rattle.ulfm_comm.specs.{Phase.{StandsAt, UnderWay, is_looking, next_step}, StepsLeft.{IsStepOf, MakesStep}}
use Rattle.ulfm_comm.specs.declared.phases.phase.{Phase.{Phase}, Phase.TheVariants.{Over, Begun, Looking, Spreading, Settling, Arriving, Revoking, Asking, Peeking, Marking, Reading, ReadingOn, Spawning, Waiting, Checking}}
use Rattle.ulfm_comm.specs.Local.{local}
use Rattle.ulfm_model.specs.Traces.{Traced}
use Rattle.ulfm_run.specs.Seats.{Sits, SitsAt, next_in}
use Rattle.ulfm_run.specs.Walks.{FlagSeat, flag_words}

-- a step of any name is one
one_step : (name : StepName) (r c : ℕ) (old new : Sight FlagAnd) → IsStepOf name r c old new → new.steps ≡ old.steps + 1
one_step step.List r c old new is = is.1.steps
one_step step.Settle r c old new is = is.1.steps
one_step step.Block r c old new is = is.2.steps
one_step step.Wing r c old new is = is.3.steps
one_step step.Mark r c old new is = is.2.steps
one_step step.Slot r c old new is = is.2.steps
one_step step.Cache r c old new is = is.2.steps
one_step step.Comm r c old new is = is.1.steps
one_step step.Spawn r c old new is = is.1.steps
one_step step.Arrive r c old new is = is.1.steps
one_step step.Arrival r c old new is = is.2.steps
one_step step.Revoke r c old new is = is.steps
one_step step.Revocation r c old new is = is.steps

-- a call that isn't over has a next step
has_next : (phase : Phase FlagAnd) → (phase ≡ Over → ⊥) → (name : StepName) × (next_step phase ≡ Some name)
has_next Over goes = absurd (goes refl)
has_next Begun goes = (_, refl)
has_next Looking goes = (_, refl)
has_next (Spreading request offer) goes = (_, refl)
has_next (Settling request offer) goes = (_, refl)
has_next (Arriving round) goes = (_, refl)
has_next Revoking goes = (_, refl)
has_next Asking goes = (_, refl)
has_next (Peeking peek shrinks) goes = (_, refl)
has_next (Marking marks blocks shrinks) goes = (_, refl)
has_next (Reading reading shrinks) goes = (_, refl)
has_next (ReadingOn on made) goes = (_, refl)
has_next (Spawning append context reach) goes = (_, refl)
has_next (Waiting arrivals) goes = (_, refl)
has_next (Checking missing) goes = (_, refl)

-- a rank's call that is under way has a next step
sits_next : (name : Name) (now : Traced FlagAnd) (pass : Sight FlagAnd) (own : Record) (found : ℕ) (doing : UnderWay FlagAnd) → SitsAt flag_meld (flag_words name) now pass own found (Some doing) → (step : StepName) × (next_step doing.phase ≡ Some step)
sits_next name now pass own found doing (inl begun) = has_next doing.phase (λ is. absurd (cc (ap is_looking is, begun.looking)))
sits_next name now pass own found doing (inr called) =
    has_next doing.phase
    (λ is.
    let at = subst (λ phase. StandsAt flag_meld false doing.asked (local called.old (view_at (flag_words name) called.before)) phase doing.prepared (local own (view_at (flag_words name) called.stood))) is called.stands.at in
    absurd (cc (at.0, called.known.in_use)))

-- the step that is named is one atomic step
pub counted : (name : Name) (now : Traced FlagAnd) (pass after : Sight FlagAnd) (seat : FlagSeat) (r c : ℕ) → Sits flag_meld (flag_words name) now pass seat → IsTrue (is_some seat.call) → MakesStep (next_in seat.call) r c pass after → after.steps ≡ pass.steps + 1
counted name now pass after seat r c sits is_open named = go seat.call sits is_open named
  where
    go : (call : Option (UnderWay FlagAnd)) → SitsAt flag_meld (flag_words name) now pass seat.own seat.found call → IsTrue (is_some call) → MakesStep (next_in call) r c pass after → after.steps ≡ pass.steps + 1
    go None sits is made = absurd (cc is)
    go (Some doing) sits is made =
        let next = sits_next name now pass seat.own seat.found doing sits in
        one_step next.0 r c pass after (subst (λ o. MakesStep o r c pass after) next.1 made)

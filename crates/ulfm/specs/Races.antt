-- How a race was run, behind an exit status.
use Rattle.std.specs.Prelude.{◌≡◌, ◌⊎◌, ℕ, List}
use Rattle.std.specs.Io.KnownBytes.{Keeps}
use Rattle.ulfm_laws.specs.declared.flag_and.FlagAnd.{FlagAnd}
use Rattle.ulfm_model.specs.declared.reply.Reply.{Reply}
use Rattle.ulfm_model.specs.History.{History}
use Rattle.ulfm_command.specs.declared.asked.RaceOptions.{RaceOptions}
use Rattle.ulfm_filters.specs.Statuses.{PrintsWhole}
use Rattle.ulfm_race.specs.declared.plan.Plan.{Plan}
use Rattle.ulfm_race.specs.Races.{IsOutcome}
use Rattle.ulfm_filters.specs.RaceLines.{race_text}
use Rattle.ulfm_script.specs.Ends.{KnownText}

-- the plan of a race with these options
abbrev pub plan_of : RaceOptions → Plan
plan_of options = record { ranks = options.ranks; rounds = options.rounds; fail = options.fail }

-- A race was run to its end: in a legal history its ranks were answered so, and exactly the lines of these answers were printed, or at 3 a
-- beginning of them.
pub record Raced (plan : Plan) (old new : KnownText) (status : ℕ) : Type 0 where
  pub history : History FlagAnd
  pub replies : List (List (Reply FlagAnd))
  pub group : List ℕ
  pub answered : IsOutcome plan history replies group
  pub printed : PrintsWhole (race_text plan.rounds replies group) old new status

-- a race was run to its end, or nothing was printed, at 3
abbrev pub RacedWith : Plan → KnownText → KnownText → ℕ → Type 0
RacedWith plan old new status = Raced plan old new status ⊎ ((status ≡ 3) × Keeps old new)

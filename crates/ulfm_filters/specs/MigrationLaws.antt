-- The laws of migration, as statements: each is what a function of src/laws.rt ensures.
use Rattle.std.specs.Prelude.{◌≡◌, ◌↔◌, ℕ, ◌≤◌, List, ◌∷◌, Err}
use Rattle.ulfm_laws.specs.{declared.flag_and.FlagAnd.{FlagAnd}, Flags.{flag_meld}}
use Rattle.ulfm_model.specs.declared.{call.Call.TheVariants.{Ack, FailureAck}, event.Caller.TheVariants.{Rank}, reply.Reply.{Reply}}
use Rattle.ulfm_model.specs.{Answers.{most_failures}, Runs.{IsSound, IsStep, State}, Words.{MayOpen}}
use Rattle.ulfm_script.specs.declared.{header_kind.HeaderKind.TheVariants.{Calls}, line_kind.LineKind.TheVariants.{Header}, version.Version.TheVariants.{Second}}
use Rattle.ulfm_script.specs.{Headers.{header_of}, Runs.{call_scripts}, Scripts.{script_by}}
use Rattle.ulfm_filters.specs.Migrations.{migrations}

-- Where a world may be opened, to acknowledge as many failures as there can be, or more, is to acknowledge all: each answer to the one is an answer
-- to the other, and leaves the same.
abbrev pub AllAreAcknowledged : Type 0
AllAreAcknowledged =
    (state new : State FlagAnd) (r c count : ℕ) (reply : Reply FlagAnd) → IsSound flag_meld state → MayOpen state.limits → most_failures ≤ count
    → IsStep flag_meld state (Rank r) (Ack r c count) reply new ↔ IsStep flag_meld state (Rank r) (FailureAck r c) reply new

-- a text whose first line is no header of the second version is read as a run reads it: it has the same calls, and the same first fault
abbrev pub ReadAsRunsRead : Type 0
ReadAsRunsRead =
    (line rest : List ℕ) (lines : List (List ℕ)) → header_of (Calls Second) line ≡ Err Header
    → script_by migrations (line ∷ lines) rest ≡ script_by call_scripts (line ∷ lines) rest

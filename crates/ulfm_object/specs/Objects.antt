-- What the program of the sequential object keeps, as the definitions see it.
use Rattle.std.specs.{Prelude.{◌≡◌, ◌<◌, ◌≤◌, false, List, length, map}}
use Rattle.ulfm_model.specs.declared.{call.Call.{Call}, event.Event.{Event}, limits.Limits.{Limits}, reply.Reply.{Reply}}
use Rattle.ulfm_model.specs.declared.record.RankRecord.{RankRecord}
use Rattle.ulfm_model.specs.{Answers.{AtPoint, traits_of}, History.{History, failures, spawns}, Runs.{IsStep, State}}
use Rattle.ulfm_model.specs.Kept.{record_of}

-- the object's state, by its limits, its log and its ranks' records
abbrev pub state_of : {P A : Type 0} → Limits → History P → List (RankRecord A) → State P
state_of limits log records = record { limits = limits; history = log; records = map (record_of limits) records }

-- what a reply rests on that is found by walks: the failures at the look, which is at the history before, and the history after
abbrev pub view_after : {P : Type 0} → History P → History P → List (Event P) → AtPoint P
view_after before after events = record { look = failures before; history = after; own = events; spread = false }

-- so few failures and communicators that their numbers fit
pub record IsFew {P : Type 0} (h : History P) : Type 0 where
  pub failures : length (failures h) ≤ 1024
  pub spawns : length (spawns h) < 65535

-- one call leads from one state to the next, and this is its reply; there is no other
pub record TakesStep {P : Type 0} (meld : P → P → P) (old : State P) (asked : Call P) (new : State P) (reply : Reply P) : Type 0 where
  pub step : IsStep meld old (traits_of asked).by asked reply new
  pub only : (other : Reply P) (next : State P) → IsStep meld old (traits_of asked).by asked other next → (other ≡ reply) × (next ≡ new)

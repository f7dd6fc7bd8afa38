-- How far rounds have come, as tables keep it.
use Rattle.std.specs.Prelude.{◌≡◌, ℕ, ◌+◌, ◌<◌, ◌≤◌, List, [], length, map, slice_get, unwrap_or, is_some, true, Vec}
use Rattle.std.specs.HashMap.{HashMap, get}
use Rattle.ulfm_laws.specs.declared.flag_and.FlagAnd.{FlagAnd}
use Rattle.ulfm_model.specs.History.{History, members, same_place, slot, spawns}
use Rattle.ulfm_story.specs.declared.rounds.Rounds.{Rounds}

-- the members of the communicator of a number, or nobody
abbrev pub group_at : List (List ℕ) → ℕ → List ℕ
group_at groups c = unwrap_or (slice_get groups c) []

-- the ranks of a list
abbrev pub ranks_of : {A : Type 0} → Vec ℕ A → List ℕ
ranks_of group = group.items

-- these are the members of the communicators that there are, the world's first
pub record AreMembers (ranks : ℕ) (groups : List (List ℕ)) (h : History FlagAnd) : Type 0 where
  pub few : length groups ≤ length (spawns h) + 1
  pub each : (c : ℕ) → c < length groups → group_at groups c ≡ members ranks h c

-- each place that is settled is in the table
abbrev pub HasSettled : {S : Type 0} → HashMap (ℕ × ℕ × ℕ) ℕ S → History FlagAnd → Type 0
HasSettled settled h = (place : ℕ × ℕ × ℕ) → is_some (slot h (place.0) (place.1) (place.2)) ≡ true → is_some (get same_place settled place) ≡ true

-- the tables are those of a history in a world of so many ranks
pub record TellRounds {A : Type 0} (ranks : ℕ) (rounds : Rounds A) (h : History FlagAnd) : Type 0 where
  pub world : rounds.ranks ≡ ranks
  pub history : rounds.history.items ≡ h
  pub groups : AreMembers ranks (map ranks_of rounds.groups.items) h
  pub settled : HasSettled rounds.settled h

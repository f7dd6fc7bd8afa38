-- The tables of numbers tell a history.
use Rattle.std.specs.Prelude.{◌≡◌, ℕ, ◌+◌, ◌≤◌, nat_le, nat_eq, if◌then◌else◌, List, [], length, map, take}
use Rattle.std.specs.HashMap.{get}
use Rattle.ulfm_model.specs.History.{History, members, spawns}
use Rattle.ulfm_numbers.specs.{Cells.{number_at, told_at}, Failed.{members_of}, Groups.{group_at}, Seen.{Seen}}
use Rattle.ulfm_numbers.specs.declared.numbers.Numbers.{Numbers}
use Rattle.ulfm_numbers.specs.Numbers.{TellsArrivals, TellsDeclared, TellsFailures, TellsRevocations, TellsSlots, TellsSpawns}
use Rattle.ulfm_numbers.specs.Numbers.{before_then, by_then, count_by}

-- these are the members of each communicator there is
pub record TellsGroups {P : Type 0} (ranks : ℕ) (groups : List (List ℕ)) (h : History P) : Type 0 where
  pub count : length groups ≡ length (spawns h) + 1
  pub each : (c : ℕ) → c ≤ length (spawns h) → group_at groups c ≡ members ranks h c

-- the tables are those of a history in a world of so many ranks
pub record TablesTell {P A : Type 0} {g : _} {k : _} (ranks : ℕ) (numbers : Numbers P A g k) (h : History P) : Type 0 where
  pub slots : TellsSlots numbers.slots h
  pub arrivals : TellsArrivals numbers.arrivals h
  pub revocations : TellsRevocations numbers.revocations h
  pub declared : TellsDeclared numbers.declared h
  pub failures : TellsFailures numbers.failures.items numbers.failed_at.items h
  pub spawns : TellsSpawns numbers.spawns.items numbers.spawned_at.items h
  pub groups : TellsGroups ranks (map members_of numbers.groups.items) h
  pub count : numbers.count ≡ length h

-- what the tables say of a point, which is a number of events
abbrev pub seen_at : {P A : Type 0} {g : _} {k : _} → Numbers P A g k → ℕ → Seen P
seen_at numbers point = record {
  slots = λ at. by_then point (told_at numbers.slots at);
  arrived = λ at. before_then point (number_at numbers.arrivals at);
  revoked = λ c. before_then point (get nat_eq numbers.revocations c);
  declared = λ r. before_then point (get nat_eq numbers.declared r);
  failures = take (count_by point numbers.failed_at.items) numbers.failures.items;
  spawns = take (count_by point numbers.spawned_at.items) numbers.spawns.items;
  members = λ c. if nat_le c (length (take (count_by point numbers.spawned_at.items) numbers.spawns.items)) then group_at (map members_of numbers.groups.items)
      c else [];
}

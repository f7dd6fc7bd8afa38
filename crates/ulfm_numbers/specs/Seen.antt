-- What a history says, question by question: what a judge has to look up of it, and no more.
use Rattle.std.specs.Prelude.{ℕ, ◌==◌, ◌&&◌, Bool, List, filter, filter_map, Option, is_some}
use Rattle.std.specs.List.{list_all, list_any}
use Rattle.ulfm_model.specs.declared.contribution.Slot.{Slot}
use Rattle.ulfm_model.specs.History.{Decision, History, decided_by, failures, has, has_arrived, is_revoked, members, slot, spawns, union_of, without}

-- what settles a place, if anything does; which places have arrived; what is revoked; who is declared, and in which order; of what the
-- communicators were made; and who their members are
pub record Seen (P : Type 0) : Type 0 where
  pub slots : ℕ × ℕ × ℕ → Option (Slot P)
  pub arrived : ℕ × ℕ × ℕ → Bool
  pub revoked : ℕ → Bool
  pub declared : ℕ → Bool
  pub failures : List ℕ
  pub spawns : List (ℕ × ℕ)
  pub members : ℕ → List ℕ

-- what a history says in a world of so many ranks
abbrev pub seen_of : {P : Type 0} → ℕ → History P → Seen P
seen_of ranks h = record {
  slots = λ at. slot h (at.0) (at.1) (at.2);
  arrived = λ at. has_arrived h (at.0) (at.1) (at.2);
  revoked = is_revoked h;
  declared = has (failures h);
  failures = failures h;
  spawns = spawns h;
  members = members ranks h;
}

-- the failed group of a communicator
abbrev pub failed_in : {P : Type 0} → Seen P → ℕ → List ℕ
failed_in seen c = filter (has (seen.members c)) seen.failures

-- what settles a round, in the members' order
abbrev pub settled_in : {P : Type 0} → Seen P → ℕ → ℕ → List (Slot P)
settled_in seen c k = filter_map (λ r. seen.slots (c, k, r)) (seen.members c)

-- whether a round is decided
abbrev pub is_decided_in : {P : Type 0} → Seen P → ℕ → ℕ → Bool
is_decided_in seen c k = list_all (λ r. is_some (seen.slots (c, k, r))) (seen.members c)

-- the decision of a round
abbrev pub decision_in : {P : Type 0} → (P → P → P) → Seen P → ℕ → ℕ → Decision P
decision_in meld seen c k = decided_by meld (failed_in seen c) (settled_in seen c k)

-- whether a communicator was made of a round
abbrev pub is_made_in : {P : Type 0} → Seen P → ℕ → ℕ → Bool
is_made_in seen c k = list_any (λ made. (made.0 == c) && (made.1 == k)) seen.spawns

-- the members that a communicator gets that is made of a round
abbrev pub made_in : {P : Type 0} → Seen P → ℕ → ℕ → List ℕ
made_in seen c k = without (seen.members c) (union_of (failed_in seen c) (settled_in seen c k))

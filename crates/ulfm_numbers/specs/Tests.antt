-- Tests that compute: which event may come next. That each decides what the definitions say is proved.
use Rattle.std.specs.Prelude.{ℕ, ◌+◌, ◌-◌, ◌==◌, nat_le, nat_lt, Bool, false, not, ◌&&◌}
use Rattle.std.specs.Prelude.{length, Option, is_some, slice_get}
use Rattle.std.specs.Option.{option_map_or}
use Rattle.ulfm_laws.specs.declared.summary.Body.{Body}
use Rattle.ulfm_model.specs.declared.{event.Event.{Event}, limits.Limits.{Limits}}
use Rattle.ulfm_model.specs.History.{has}
use Rattle.ulfm_numbers.specs.Seen.{Seen, decision_in, failed_in, is_decided_in, is_made_in}

-- whether this number stands there
abbrev pub at_test : Option ℕ → ℕ → Bool
at_test o r = option_map_or (λ x. x == r) o false

-- whether a rank has a place in a round
abbrev pub place_test : {P : Type 0} → Limits → Seen P → ℕ → ℕ → ℕ → Bool
place_test limits seen c k r = nat_le c (length seen.spawns) && (has (seen.members c) r && nat_lt k limits.rounds)

-- whether a body is a set of ids that isn't empty
abbrev pub ids_test : {P : Type 0} → Body P → Bool
ids_test (Body.Ctx mask) = nat_lt 0 mask.bits
ids_test _ = false

module _ {P : Type 0} (meld : P → P → P) (limits : Limits) (seen : Seen P) where
  -- whether a communicator of this number may be made of a round
  abbrev pub spawn_test : ℕ → ℕ → ℕ → Bool
  spawn_test j c k =
      (j == length seen.spawns + 1) && (nat_lt j limits.comms && (nat_le c (length seen.spawns) && (nat_lt k limits.rounds
      && (is_decided_in seen c k && (ids_test (decision_in meld seen c k).body && not (is_made_in seen c k))))))

  -- whether an event may come next
  abbrev pub follow_test : Event P → Bool
  follow_test (Event.Fail r) = nat_lt r limits.ranks && not (seen.declared r)
  follow_test (Event.Settle c k r given) =
      place_test limits seen c k r && (not (is_some (seen.slots (c, k, r))) && nat_le given.known.count (length (failed_in seen c)))
  follow_test (Event.Mark c k r mark) =
      place_test limits seen c k r && (not (is_some (seen.slots (c, k, r))) && at_test (slice_get (failed_in seen c) (mark.known.count - 1)) r)
  follow_test (Event.Arrive c k r) = place_test limits seen c k r && not (seen.arrived (c, k, r))
  follow_test (Event.Revoke c) = nat_le c (length seen.spawns) && not (seen.revoked c)
  follow_test (Event.Spawn j c k) = spawn_test j c k

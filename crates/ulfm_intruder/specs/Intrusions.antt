-- Whom an intruder lets in.
use Rattle.std.specs.Prelude.{◌==◌, ◌&&◌, Bool, false, nat_lt}
use Rattle.ulfm_model.specs.declared.{event.Event.{Event}, event.Event.TheVariants.{Fail, Settle, Mark, Arrive, Revoke, Spawn}, limits.Limits.{Limits}}

-- events that may come at any time, once: a failure of a rank, and of the world's own communicator a revocation, an arrival,
-- and a contribution that knows of no failure; and a communicator made of a round of the world's own, which comes only where the
-- round is decided on free ids
abbrev pub is_welcome : {P : Type 0} → Limits → Event P → Bool
is_welcome limits (Fail rank) = nat_lt rank limits.ranks
is_welcome limits (Settle c k r given) = (c == 0) && nat_lt k limits.rounds && nat_lt r limits.ranks && (given.known.count == 0)
is_welcome limits (Mark c k r mark) = false
is_welcome limits (Arrive c k r) = (c == 0) && nat_lt k limits.rounds && nat_lt r limits.ranks
is_welcome limits (Revoke c) = c == 0
is_welcome limits (Spawn j c k) = (c == 0) && nat_lt k limits.rounds

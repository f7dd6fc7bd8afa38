-- What a revocation answers.
use Rattle.std.specs.Prelude.{Bool, true, false}
use Rattle.ulfm_model.specs.declared.{reply.Reply.{Reply}, reply.Reply.TheVariants.{AlreadyRevoked, Revoked}}

-- the reply, by whether this call revoked the communicator
abbrev pub revoked : {P : Type 0} → Bool → Reply P
revoked true = Revoked
revoked false = AlreadyRevoked

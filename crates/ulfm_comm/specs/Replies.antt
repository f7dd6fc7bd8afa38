-- Which replies each call may have; a refusal is one of each.
use Rattle.std.specs.Prelude.{⊤}
use Rattle.ulfm_model.specs.declared.{reply.Reply.{Reply}}
use Rattle.ulfm_model.specs.declared.reply.Reply.TheVariants.{Started, Pending, Agreed, Shrunk, Done, FailedGroup, Acked, Revoked}
use Rattle.ulfm_model.specs.declared.reply.Reply.TheVariants.{AlreadyRevoked, Standing, Freed, Refused}

-- what a call does that has a reply of its own: a start, a query of the failed group, an acknowledgement, giving a communicator back, a
-- revocation, the question whether a communicator is revoked, or a poll
pub data Kind : Type 0 where
  Starts Counts Acknowledges Frees Revokes Asks Polls : Kind

-- a reply to such a call
abbrev pub IsOfKind : {P : Type 0} → Kind → Reply P → Type 0
IsOfKind kind (Refused refusal) = ⊤
IsOfKind Kind.Starts Started = ⊤
IsOfKind Kind.Counts (FailedGroup count) = ⊤
IsOfKind Kind.Acknowledges (Acked count) = ⊤
IsOfKind Kind.Frees Freed = ⊤
IsOfKind Kind.Revokes Revoked = ⊤
IsOfKind Kind.Revokes AlreadyRevoked = ⊤
IsOfKind Kind.Asks (Standing revoked) = ⊤
IsOfKind Kind.Polls Pending = ⊤
IsOfKind Kind.Polls (Agreed raised count value) = ⊤
IsOfKind Kind.Polls (Shrunk j context size) = ⊤
IsOfKind Kind.Polls Done = ⊤
IsOfKind kind reply = ⊥

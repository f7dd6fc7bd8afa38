-- What comes after a step, by its reply.
use Rattle.std.proofs.Common.{◌≡◌, Option, Some, None, refl}
use Rattle.ulfm_model.specs.declared.reply.Reply.{Reply}
use Rattle.ulfm_comm.specs.Phase.{next_of, reply_in}
use Rattle.ulfm_comm.specs.declared.phases.phase.Phase.{Phase}

pub reply_next : {P : Type 0} (reply : Option (Reply P)) (phase : Phase P) → reply_in (next_of reply phase) ≡ reply
reply_next None phase = refl
reply_next (Some reply) phase = refl

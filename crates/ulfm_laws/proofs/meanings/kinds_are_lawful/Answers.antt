use Rattle.ulfm_laws.specs.Counts.{known_lawful, acked_lawful}
use Rattle.ulfm_laws.specs.Flags.{flag_lawful}
use Rattle.ulfm_laws.specs.Masks.{mask_lawful}
use Rattle.ulfm_laws.proofs.meanings.kinds_are_lawful.Goals as goal

pub returns : goal.returns
returns c = record { flag = flag_lawful; mask = mask_lawful; known = known_lawful; acked = acked_lawful }

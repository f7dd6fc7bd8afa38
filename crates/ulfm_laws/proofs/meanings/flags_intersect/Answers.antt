use Rattle.ulfm_laws.specs.Flags.{flag_unit, flag_meld}
use Rattle.ulfm_laws.specs.StandsFor.{flag_stands_for, places}
use Rattle.ulfm_laws.proofs.Bits.{Contains-bits_of_set, bits_of-ones, bits_of-and}
use Rattle.ulfm_laws.proofs.Several.{to_intersection}
use Rattle.ulfm_laws.proofs.meanings.flags_intersect.Goals as goal

pub returns-clause-bits : goal.returns-clause-bits
returns-clause-bits c = λ x. Contains-bits_of_set x.bits

pub returns-clause-melds : goal.returns-clause-melds
returns-clause-melds c =
    to_intersection places flag_unit flag_meld flag_stands_for bits_of-ones (λ x y. bits_of-and x.bits y.bits)

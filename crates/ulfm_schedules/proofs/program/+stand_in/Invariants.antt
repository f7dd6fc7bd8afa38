use Rattle.ulfm_script.specs.Words.{rest_at}
use Rattle.ulfm_schedules.proofs.WordLemmas.{size_in}
use Rattle.ulfm_schedules.proofs.program.+stand_in.Given as goal

abbrev pub decreases-stand_in : goal.decreases-stand_in
decreases-stand_in l = size_in (rest_at l.text)

use Rattle.ulfm_script.specs.Words.{rest_at}
use Rattle.ulfm_schedules.proofs.WordLemmas.{size_in}
use Rattle.ulfm_schedules.proofs.program.+begins_with.Given as goal

abbrev pub decreases-begins_with : goal.decreases-begins_with
decreases-begins_with l = size_in (rest_at l.words)

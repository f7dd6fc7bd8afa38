use Rattle.std.proofs.Common.{rules}
use Rattle.ulfm_words.proofs.plain.PlainWords.open.Goals as goal

pub invariant_of-result : goal.invariant_of-result
invariant_of-result g c = search rules steps 400000

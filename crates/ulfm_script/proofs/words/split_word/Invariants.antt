use Rattle.std.proofs.Common.{◌≡◌, take, drop}
use Rattle.ulfm_script.specs.Words.{first_word, word_from}
use Rattle.ulfm_script.proofs.words.split_word.Given as goal

abbrev pub invariant-loop-i : goal.invariant-loop-i
invariant-loop-i l = word_from (take l.i l.text) (drop l.i l.text) ≡ first_word l.text

use Rattle.std.proofs.Common.{◌≡◌, ℕ, List, ◌++◌, ◌≤◌, take, drop}
use Rattle.ulfm_script.specs.declared.line_kind.LineKind.TheVariants.{Number}
use Rattle.ulfm_script.specs.{Digits.{digits_after, digit_of}, Words.{first_word, word_from}}
use Rattle.ulfm_script.proofs.Powers.{IsBelowPowers}
use Rattle.ulfm_script.proofs.words.leading_number.Given as goal

abbrev pub invariant-loop-i : goal.invariant-loop-i
invariant-loop-i l =
    record {
      word : word_from (take l.i l.text) (drop l.i l.text) ≡ first_word l.text;
      value : (ys : List ℕ) → digits_after Number 10 digit_of 0 (take l.i l.text ++ ys) ≡ digits_after Number 10 digit_of l.value ys;
      below : IsBelowPowers 10 l.i l.value;
      few : l.i ≤ l.most;
    }

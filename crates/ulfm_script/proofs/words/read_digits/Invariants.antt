use Rattle.std.proofs.Common.{◌≡◌, drop}
use Rattle.ulfm_script.specs.declared.line_kind.LineKind.TheVariants.{Number}
use Rattle.ulfm_script.specs.Digits.{digits_after, digit_of}
use Rattle.ulfm_script.proofs.Powers.{IsBelowPowers}
use Rattle.ulfm_script.proofs.words.read_digits.Given as goal

abbrev pub invariant-loop-byte : goal.invariant-loop-byte
invariant-loop-byte l =
    record {
      value : digits_after Number 10 digit_of l.value (drop l.byte-index l.word) ≡ digits_after Number 10 digit_of 0 l.word;
      below : IsBelowPowers 10 l.byte-index l.value;
    }

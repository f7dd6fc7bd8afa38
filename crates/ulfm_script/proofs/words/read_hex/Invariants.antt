use Rattle.std.proofs.Common.{◌≡◌, ◌<◌, ◌^◌, drop}
use Rattle.ulfm_script.specs.declared.line_kind.LineKind.TheVariants.{Flag}
use Rattle.ulfm_script.specs.Digits.{digits_after, hex_of}
use Rattle.ulfm_script.proofs.words.read_hex.Given as goal

abbrev pub invariant-loop-byte : goal.invariant-loop-byte
invariant-loop-byte l =
    record {
      value : digits_after Flag 16 hex_of l.value (drop l.byte-index l.word) ≡ digits_after Flag 16 hex_of 0 l.word;
      below : l.value < 16 ^ l.byte-index;
    }

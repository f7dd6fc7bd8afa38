-- The digits of a flag, as they are kept.
use Rattle.std.specs.Prelude.{ℕ, List, drop}
use Rattle.ulfm_script.specs.declared.flag_places.FlagDigits.{FlagDigits}

-- those behind the places that are left out
abbrev pub kept_digits : FlagDigits → List ℕ
kept_digits digits = drop digits.first digits.all

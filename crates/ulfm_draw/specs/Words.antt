-- Words that are put together.
use Rattle.std.specs.Prelude.{◌≡◌, ℕ, ◌==◌, ◌-◌, if◌then◌else◌, List, ◌++◌, codes}
use Rattle.std.specs.Fmt.{decimal}
use Rattle.ulfm_draw.specs.declared.say.Part.{Part}
use Rattle.ulfm_script.specs.Digits.{flag_text}

-- what was written stays, and more may stand behind it
pub record Appends (old new : List ℕ) : Type 0 where
  pub more : List ℕ
  pub behind : new ≡ old ++ more

-- a part of what is said
abbrev pub part_text : Part → List ℕ
part_text (Part.Text text) = text.now
part_text (Part.Number number) = decimal number
part_text (Part.Flag flag) = flag_text flag

-- whose lane it is
abbrev pub lane_text : ℕ → List ℕ
lane_text lane = if lane == 0 then codes "the outside" else codes "rank " ++ decimal (lane - 1)

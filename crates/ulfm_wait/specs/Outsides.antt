-- The outside of a world: the handle by which a failure detector declares ranks failed.
use Rattle.std.specs.Prelude.{◌≡◌, ℕ}
use Rattle.ulfm_words.specs.Steps.{IsNew, Name}
use Rattle.ulfm_wait.specs.Members.{Viewing, view_in}

-- an outside of these words, whose pass has seen nothing
pub record IsNewOutside {P : Type 0} (meld : P → P → P) (pack : P → ℕ) (name : Name) (outside : Viewing P) : Type 0 where
  pub words : outside.words ≡ name
  pub new : IsNew meld (view_in pack outside)

-- What is read of a text.
use Rattle.std.specs.Prelude.{◌≡◌, Bool, true, List, ℕ, ◌++◌}
use Rattle.ulfm_script.specs.Ends.{IsTextOf, KnownText}

-- these bytes are the beginning of a reader's text, or all of it
pub record BeginsUnread (known : KnownText) (is_whole : Bool) (text : List ℕ) : Type 0 where
  pub begins : (rest : List ℕ) × IsTextOf known (text ++ rest)
  pub whole : is_whole ≡ true → IsTextOf known text

-- the same of what a reader has left
abbrev pub BeginsText : KnownText → Bool → List ℕ → Type 0
BeginsText known is_whole text = BeginsUnread known is_whole text

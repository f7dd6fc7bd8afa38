-- The story of a trace.
use Rattle.std.specs.Prelude.{◌≡◌, ⊤, ℕ, ◌-◌, min, length, List, ◌∷◌, ◌++◌, Option, Some, None}
use Rattle.ulfm_script.specs.Buffers.{HasNoNewline}
use Rattle.ulfm_story.specs.declared.story.Story.{Story}
use Rattle.ulfm_story.specs.{Stories.{TellDecisions}, Tellings.{AreRowsOf, EndsAt}}

-- The story of a text's first lines, so many with the header, but no more than 20,000: a row for each line behind the header, up to the first
-- that is none of a trace; and a note of each decision, at the row that settles the last member, by the events down to that row.
pub record IsStory {A : Type 0} (text : List ℕ) (lines : ℕ) (story : Story A) : Type 0 where
  pub header : List ℕ
  pub behind : List ℕ
  pub left : List ℕ
  pub free : HasNoNewline header
  pub splits : text ≡ header ++ 10 ∷ behind
  pub rows : AreRowsOf behind story.rows.items left
  pub ends : EndsAt (min lines 20000 - 1) (length story.rows.items) left
  pub decisions : TellDecisions story.limits.ranks story.rows.items story.notes.items

-- a story, where there is one
abbrev pub TellsStory : {A : Type 0} → List ℕ → ℕ → Option (Story A) → Type 0
TellsStory text lines None = ⊤
TellsStory text lines (Some story) = IsStory text lines story

-- Words that tell events.
use Rattle.std.specs.Prelude.{ℕ, ◌<◌, ◌≤◌, ◌^◌, ◌==◌, ◌&&◌, if◌then◌else◌, ⊤}
use Rattle.ulfm_model.specs.declared.{place.Place.{Place}, place.Place.TheVariants.{Comm, List, Slot}}
use Rattle.ulfm_model.specs.Words.{wing_word, word_bits}
use Rattle.ulfm_words.specs.Slots.{tag_in}

-- where a word tells a rank, or a parent and its round, these fit into 16 bits; and a slot's word is a first word
abbrev pub IsEventWord : Place → ℕ → Type 0
IsEventWord (List i) w = (0 < w) × (w ≤ 2 ^ 16)
IsEventWord (Comm j) w = (0 < w) × (w ≤ 2 ^ 28)
IsEventWord (Slot c k r) w = w < 2 ^ word_bits
IsEventWord _ w = ⊤

-- the wing beside a slot's word whose payload has this upper half: a mark has neither
abbrev pub wing_by : ℕ → ℕ → ℕ
wing_by word half = if (tag_in word == 0) && (half == 0) then 0 else wing_word half

-- The names of atomic steps, as scripts write them.
use Rattle.std.specs.Prelude.{ℕ, List, [], ◌∷◌, codes, Result, Ok, Err, if◌then◌else◌}
use Rattle.std.specs.Str.{bytes_eq}
use Rattle.ulfm_model.specs.contracts.step_name.StepNamePartialEq.TheImpl as step_eq
use Rattle.ulfm_model.specs.declared.step_name.StepName.{StepName}
use Rattle.ulfm_model.specs.declared.step_name.StepName.TheVariants as name
use Rattle.ulfm_script.specs.declared.line_kind.LineKind.{LineKind}
use Rattle.ulfm_script.specs.declared.line_kind.LineKind.TheVariants.{Step}

-- each step with its word, in the order in which a word is compared
abbrev pub step_words : List (StepName × List ℕ)
step_words =
    (name.List, codes "list") ∷ (name.Settle, codes "settle") ∷ (name.Block, codes "block") ∷ (name.Mark, codes "mark") ∷ (name.Slot, codes "slot")
    ∷ (name.Cache, codes "cache") ∷ (name.Wing, codes "wing") ∷ (name.Comm, codes "comm") ∷ (name.Spawn, codes "spawn") ∷ (name.Arrive, codes "arrive")
    ∷ (name.Arrival, codes "arrival") ∷ (name.Revoke, codes "revoke") ∷ (name.Revocation, codes "revocation") ∷ []

-- the word that stands beside a step
abbrev pub word_beside : StepName → List (StepName × List ℕ) → List ℕ
word_beside step [] = []
word_beside step (x ∷ words) = if step_eq.ghosts.eq step x.0 then x.1 else word_beside step words

-- the step whose word this is
abbrev pub name_beside : List ℕ → List (StepName × List ℕ) → Result StepName LineKind
name_beside word [] = Err Step
name_beside word (x ∷ words) = if bytes_eq word x.1 then Ok x.0 else name_beside word words

-- the word of a step
abbrev pub step_text : StepName → List ℕ
step_text step = word_beside step step_words

-- the step whose name a word is
unfoldable pub read_step_name : List ℕ → Result StepName LineKind
read_step_name word = name_beside word step_words

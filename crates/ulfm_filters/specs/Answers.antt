-- What is answered to the words of a command line.
use Rattle.std.specs.Prelude.{◌≡◌, ℕ, List, map}
use Rattle.std.specs.Fn.{FnOnceReturnsAt, Once}
use denote.Ref.{Bor}

-- called at words of these texts, `answer` may give this status
abbrev pub MayAnswer : {F : Type 0} → Once F (Bor (List (Bor (List ℕ))) × Unit {0}) ℕ → F → List (List ℕ) → ℕ → Type 0
MayAnswer g answer texts status =
    (words : List (Bor (List ℕ))) × (map (λ (word : Bor (List ℕ)). word.now) words ≡ texts) × FnOnceReturnsAt g answer words status

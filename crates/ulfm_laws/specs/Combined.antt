-- Many contributions combined.
use Rattle.std.specs.Prelude.{◌≡◌, List, [], ◌∷◌, ◌++◌}
use Rattle.std.proofs.Common.{ap, sym, ◌∙◌}
use Rattle.ulfm_laws.specs.Lawful.{IsLawful}

-- all of a list, from its first on; of none, the unit
abbrev pub combined : {P : Type 0} → P → (P → P → P) → List P → P
combined unit meld [] = unit
combined unit meld (x ∷ xs) = meld x (combined unit meld xs)

-- two lists in a row are combined as their parts are
pub combined-append : {P : Type 0} {unit : P} {meld : P → P → P} (laws : IsLawful unit meld) (xs ys : List P)
    → combined unit meld (xs ++ ys) ≡ meld (combined unit meld xs) (combined unit meld ys)
combined-append {unit = unit} {meld = meld} laws [] ys = sym (laws.unit_left (combined unit meld ys))
combined-append {unit = unit} {meld = meld} laws (x ∷ xs) ys =
    ap (meld x) (combined-append laws xs ys) ∙ sym (laws.associative x (combined unit meld xs) (combined unit meld ys))

-- one more at the end
pub combined-push : {P : Type 0} {unit : P} {meld : P → P → P} (laws : IsLawful unit meld) (xs : List P) (x : P)
    → combined unit meld (xs ++ x ∷ []) ≡ meld (combined unit meld xs) x
combined-push {unit = unit} {meld = meld} laws xs x =
    combined-append laws xs (x ∷ []) ∙ ap (meld (combined unit meld xs)) (laws.commutative x unit ∙ laws.unit_left x)

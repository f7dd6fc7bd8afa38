-- A text whose marks are filled in, byte by byte.
use Rattle.std.proofs.Common.{◌≡◌, ◌∙◌, ℕ, ◌+◌, ◌<◌, ◌≤◌, ◌==◌, Bool, true, false, if◌then◌else◌, List, [], ◌++◌, append_assoc, append-nil, ap, arith, drop, get_or, length, sym}
use Rattle.std.proofs.lemmas.List.{at_drop_all, at_drop_more}
use Rattle.ulfm_draw.specs.Markup.{filled_from, mark_filled}

-- what was put so far and what is ahead are all that is put, and a byte more was put
pub filled_more : (class numbers words now new all template : List ℕ) (place next i : ℕ) → i < length template
    → now ++ filled_from class numbers words place (drop i template) ≡ all → new ≡ now ++ mark_filled class numbers words place (get_or template i 0)
    → next ≡ (if get_or template i 0 == 35 then place + 1 else place) → new ++ filled_from class numbers words next (drop (i + 1) template) ≡ all
unfolding filled_from
filled_more class numbers words now new all template place next i less so put at =
    let x : ℕ = get_or template i 0 in
    let rest : List ℕ = drop (i + 1) template in
    let step : ℕ = if x == 35 then place + 1 else place in
    ap (λ (n : ℕ). new ++ filled_from class numbers words n rest) at ∙ ap (λ (t : List ℕ). t ++ filled_from class numbers words step rest) put
    ∙ append_assoc now (mark_filled class numbers words place x) (filled_from class numbers words step rest)
    ∙ sym (ap (λ (t : List ℕ). now ++ t) (at_drop_more (filled_from class numbers words place) template i 0 less)) ∙ so

-- so many were for numbers at the most
pub one_more_at_most : (is_number : Bool) (place next i : ℕ) → next ≡ (if is_number then place + 1 else place) → place ≤ i → next ≤ i + 1
one_more_at_most true place next i e le = omega arith
one_more_at_most false place next i e le = omega arith

-- nothing is ahead
pub filled_all : (class numbers words now all template : List ℕ) (place i : ℕ) → length template ≤ i
    → now ++ filled_from class numbers words place (drop i template) ≡ all → now ≡ all
unfolding filled_from
filled_all class numbers words now all template place i less so =
    sym (append-nil now) ∙ sym (ap (λ (t : List ℕ). now ++ t) (at_drop_all (filled_from class numbers words place) template i less)) ∙ so

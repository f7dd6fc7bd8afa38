use Rattle.std.proofs.Common.{◌≡◌, ◌++◌, List, [], ◌∷◌, length, map, ap, refl, sym, ◌∙◌, append-nil, arith}
use Rattle.ulfm_run.specs.Table.{idle_seat}
use Rattle.ulfm_run.proofs.table.seats_of.Goals as goal

-- a list of no length is empty
none_left : {X : Type 0} (xs : List X) → length xs ≡ 0 → xs ≡ []
none_left [] is = refl
none_left (x ∷ xs) is = absurd (cc is)

pub returns : goal.returns
returns g c =
    let rest = c.loop-own.own-iterator.rest in
    let none : length rest.items ≡ 0 = omega (arith, c.in-None.ensures.steps.0, rest.ok.0) in
    sym (append-nil c.loop-own.seats.items) ∙ ap (λ xs. c.loop-own.seats.items ++ map idle_seat xs) (sym (none_left rest.items none)) ∙ c.loop-own.invariant

use Rattle.std.proofs.Common.{◌≡◌, ℕ, Option, Some, if◌then◌else◌, is_some, sym, ap, ◌∙◌}
use Rattle.ulfm_model.specs.History.{same_place}
use Rattle.ulfm_model.proofs.Lists.{is_some_of, none_of}
use Rattle.ulfm_numbers.specs.{Cells.{number_at}, Numbers.{first_noted}}
use Rattle.ulfm_numbers.proofs.numbers.note_arrival.Goals as goal

pub returns-in_default : goal.returns-in_default
returns-in_default g c = λ q. sym (ap (λ o. first_noted same_place (number_at c.args.arrivals.now) c.args.number o q) c.in_default.is)

pub returns-then-is_some : goal.returns-then-is_some
returns-then-is_some g c = λ q.
    let old = number_at c.args.arrivals.now in
    let found = is_some_of c.number_at.result (sym c.is_some.ensures ∙ c.if-is_some.true) in
    let there : old c.in-Some.place ≡ Some found.0 = sym c.number_at.ensures ∙ found.1 in
    sym (ap (λ o. first_noted same_place old c.args.number o q) c.in-Some.is
    ∙ ap (λ (o : Option ℕ). if is_some o then old q else (if same_place c.in-Some.place q then Some c.args.number else old q)) there)

pub returns : goal.returns
returns g c = λ q.
    let old = number_at c.args.arrivals.now in
    let none = none_of c.number_at.result (sym c.is_some.ensures ∙ c.if-is_some.false) in
    let fresh = sym c.number_at.ensures ∙ none in
    c.in_ok-put_number.ensures q
    ∙ sym (ap (λ o. first_noted same_place old c.args.number o q) c.in-Some.is
    ∙ ap (λ (o : Option ℕ). if is_some o then old q else (if same_place c.in-Some.place q then Some c.args.number else old q)) fresh)

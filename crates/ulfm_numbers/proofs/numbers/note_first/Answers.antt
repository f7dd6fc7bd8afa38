use Rattle.std.proofs.Common.{◌≡◌, ℕ, Option, Some, if◌then◌else◌, is_some, sym, ap, ◌∙◌}
use Rattle.std.specs.{HashMap.{get}, Option.{option_copied}}
use Rattle.ulfm_model.proofs.Lists.{is_some_of, none_of}
use Rattle.ulfm_numbers.specs.Numbers.{first_noted}
use Rattle.ulfm_numbers.proofs.numbers.note_first.Goals as goal

pub returns-in_default : goal.returns-in_default
returns-in_default g c = λ q. sym (ap (λ o. first_noted g.K.PartialEq.eq (get g.K.PartialEq.eq c.args.table.now) c.args.number o q) c.in_default.is)

pub returns-then-is_some : goal.returns-then-is_some
returns-then-is_some g c = λ q.
    let eq = g.K.PartialEq.eq in
    let old = get eq c.args.table.now in
    let found = is_some_of c.get.result (sym c.is_some.ensures ∙ c.if-is_some.true) in
    let there : old c.in-Some.key ≡ Some found.0.now = sym c.get.ensures.value ∙ ap option_copied found.1 in
    sym (ap (λ o. first_noted eq old c.args.number o q) c.in-Some.is ∙ ap (λ (o : Option ℕ). if is_some o then old q else (if eq c.in-Some.key q then Some c.args.number else old q)) there)

pub returns : goal.returns
returns g c = λ q.
    let eq = g.K.PartialEq.eq in
    let old = get eq c.args.table.now in
    let none = none_of c.get.result (sym c.is_some.ensures ∙ c.if-is_some.false) in
    let fresh = sym c.get.ensures.value ∙ ap option_copied none in
    c.in_ok-insert.ensures.updates.0 q
    ∙ sym (ap (λ o. first_noted eq old c.args.number o q) c.in-Some.is ∙ ap (λ (o : Option ℕ). if is_some o then old q else (if eq c.in-Some.key q then Some c.args.number else old q)) fresh)

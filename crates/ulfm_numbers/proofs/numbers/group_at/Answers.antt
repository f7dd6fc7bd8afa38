use Rattle.std.proofs.Common.{sym, ◌∙◌}
use Rattle.std.proofs.lemmas.Bool.{ltb-true, ltb-false}
use Rattle.ulfm_numbers.proofs.Counting.{group_there, no_group}
use Rattle.ulfm_numbers.proofs.numbers.group_at.Goals as goal

pub returns-in-Some : goal.returns-in-Some
returns-in-Some g c =
    let within = ltb-true _ _ (sym c.in-Some.ensures.lookup.0) in
    let there = group_there c.args.groups.now c.from.result c.in-Some.group.now within c.in-Some.ensures.lookup.1 in
    c.as_slice.ensures.value ∙ sym (rw c.from.ensures at there)

pub returns-in-None : goal.returns-in-None
returns-in-None g c =
    let beyond = ltb-false _ _ (sym c.in-None.ensures.lookup.0) in
    let nobody = no_group c.args.groups.now c.from.result beyond in
    sym (rw c.from.ensures at nobody)

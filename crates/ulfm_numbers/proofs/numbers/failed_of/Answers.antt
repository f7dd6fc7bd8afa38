use Rattle.std.proofs.Common.{List, ℕ, length, take, filter, sym, ap, ap₂, subst, ◌∙◌}
use Rattle.std.proofs.lemmas.Bool.{ltb-true, ltb-false}
use Rattle.ulfm_model.specs.History.{has}
use Rattle.ulfm_numbers.specs.Numbers.{AreBefore, count_by}
use Rattle.ulfm_numbers.proofs.Counting.{failed_among, failed_there, group_there, in_nobody, no_group, places_before}
use Rattle.ulfm_numbers.proofs.numbers.failed_of.Goals as goal

pub count_by-requires : goal.count_by-requires
count_by-requires g c =
    let group = c.in-Some.group.now in
    let within = ltb-true _ _ (sym c.in-Some.ensures.lookup.0) in
    let told = failed_there c.args.failures.now c.args.groups.now c.from.result group c.requires within c.in-Some.ensures.lookup.1 in
    subst (AreBefore (length c.args.failures.now)) (sym c.deref-in-Some.ensures.value) (places_before c.args.failures.now group told)

pub returns-in-Some : goal.returns-in-Some
returns-in-Some g c =
    let group = c.in-Some.group.now in
    let within = ltb-true _ _ (sym c.in-Some.ensures.lookup.0) in
    let told = failed_there c.args.failures.now c.args.groups.now c.from.result group c.requires within c.in-Some.ensures.lookup.1 in
    let there = group_there c.args.groups.now c.from.result group within c.in-Some.ensures.lookup.1 in
    let counted = c.count_by.ensures ∙ ap (count_by c.args.count) c.deref-in-Some.ensures.value in
    c.first_so_many.ensures ∙ (ap₂ (λ (n : ℕ) (xs : List ℕ). take n xs) counted c.deref.ensures.value
    ∙ (failed_among c.args.failures.now group c.args.count told ∙ ap (λ (ms : List ℕ). filter (has ms) (take c.args.count c.args.failures.now)) (sym (rw c.from.ensures at there))))

pub returns-in-None : goal.returns-in-None
returns-in-None g c =
    let beyond = ltb-false _ _ (sym c.in-None.ensures.lookup.0) in
    let nobody = no_group c.args.groups.now c.from.result beyond in
    sym (ap (λ (ms : List ℕ). filter (has ms) (take c.args.count c.args.failures.now)) (rw c.from.ensures at nobody) ∙ in_nobody (take c.args.count c.args.failures.now))

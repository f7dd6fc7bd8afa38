use Rattle.std.proofs.Common.{◌≡◌, length, arith, sym, ◌∙◌}
use Rattle.std.proofs.lemmas.List.{length-map}
use Rattle.std.specs.declared.option.Option.TheVariants.{Some}
use Rattle.ulfm_c.proofs.Counts.{party_for_each}
use Rattle.ulfm_c.proofs.opening.open_in.Goals as goal

pub fill-requires : goal.fill-requires
fill-requires c =
    let opened = c.in-Ok.ensures.opened in
    let parties = c.in-Ok.parties.items in
    let many : length parties ≡ c.args.limits.ranks = sym (length-map parties (λ b. Some b.value)) ∙ party_for_each c.args.limits _ _ opened in
    omega (arith, many, c.if-handles-limits.false)

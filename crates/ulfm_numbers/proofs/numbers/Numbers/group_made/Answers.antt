use Rattle.std.proofs.Common.{◌≡◌, ℕ, Some, sym, ap, ap₂, ◌∙◌}
use Rattle.std.specs.Option.{option_map}
use Rattle.ulfm_model.specs.History.{union_of, without}
use Rattle.ulfm_numbers.specs.{Seen.{made_in}, Telling.{seen_at}}
use Rattle.ulfm_numbers.proofs.numbers.Numbers.group_made.Goals as goal

pub returns : goal.returns
returns g c =
    let seen = seen_at c.args.self.now c.args.self.now.count in
    let settled = c.deref.ensures.value ∙ c.in_ok-settled.ensures in
    let out = c.deref-2.ensures.value ∙ (c.in_ok-out.ensures ∙ ap₂ union_of c.failed_at_point-failed.ensures settled) in
    let rest : c.in_ok-rest.rest.items ≡ made_in seen c.in-Some.parent c.in-Some.round = c.in_ok-rest.ensures ∙ ap₂ without c.members_at-group.ensures out in
    ap Some rest ∙ sym (ap (λ o. option_map (λ (of : ℕ × ℕ). made_in seen (of.0) (of.1)) o) (sym c.made_by.ensures ∙ c.in-Some.is))

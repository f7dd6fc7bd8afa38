use Rattle.std.proofs.Common.{List, ◌∷◌, ◌++◌, [], nat_eq, refl, ap, ◌∙◌}
use Rattle.std.specs.Map.{lookup}
use Rattle.std.specs.Prelude.{map}
use Rattle.ulfm_numbers.specs.{declared.cells.Cell.TheVariants.{Empty}, declared.groups.Group.{Group}, Cells.{number_by, told_by}, Failed.{members_of}}
use Rattle.ulfm_numbers.proofs.Seeing.{groups_first}
use Rattle.ulfm_numbers.proofs.numbers.Numbers.new.Goals as goal

pub returns : goal.returns
returns g c = record {
  slots = λ q. ap told_by (c.new_grid.ensures Empty q);
  arrivals = λ q. ap number_by (c.new_grid-2.ensures 0 q);
  revocations = λ q. ap (lookup (nat_eq q)) c.new.ensures.empty;
  declared = λ q. ap (lookup (nat_eq q)) c.new-2.ensures.empty;
  failures = (c.new-3.ensures.items, c.new-4.ensures.items);
  spawns = (c.new-5.ensures.items, c.new-6.ensures.items);
  groups = groups_first g.row.P.Denot c.args.ranks (map members_of c.push.new.self.items) c.in_ok-world.world.items
      (ap (map members_of) (c.in_ok-push.ensures.items ∙ ap (λ (xs : List (Group g.row.A.Denot)). xs ++ c.in_ok-group_of.field-0 ∷ []) c.new-groups.ensures.items) ∙ ap (λ ms. ms ∷ []) c.in_ok-group_of.ensures.members) c.in_ok-world.ensures;
  count = refl;
}

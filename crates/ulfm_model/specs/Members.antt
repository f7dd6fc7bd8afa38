-- Who the members of a held communicator are.
use Rattle.std.specs.Prelude.{ℕ, List}
use Rattle.std.specs.Arc.{arc_slice_items}
use Rattle.ulfm_model.specs.declared.held.Members.{Members}
use Rattle.ulfm_model.specs.declared.held.Members.TheVariants.{Shared, Own}

-- the members, in order, whether their list is shared or the rank's own
abbrev pub members_of : {A : Type 0} → Members A → List ℕ
members_of (Shared ranks) = arc_slice_items ranks
members_of (Own ranks) = ranks.items

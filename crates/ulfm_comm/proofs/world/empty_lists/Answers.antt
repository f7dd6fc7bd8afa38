use Rattle.std.proofs.Common.{◌+◌, [], ◌∷◌, length, length-append, ap, ◌∙◌}
use Rattle.ulfm_comm.specs.Ranks.{IsEmptyList}
use Rattle.ulfm_model.proofs.Lists.{each_push}
use Rattle.ulfm_comm.proofs.world.empty_lists.Goals as goal

pub room-preserved : goal.room-preserved
room-preserved g c = (
  ap length c.in_ok-push.ensures.items ∙ (length-append c.room.lists.items (_ ∷ []) ∙ ap (λ n. n + 1) c.room.invariant.0),
  rw c.in_ok-push.ensures.items (each_push (IsEmptyList c.args.ranks) c.room.lists.items _ c.room.invariant.1 (record { none = c.in_ok-with_capacity.ensures.items; roomy = c.in_ok-with_capacity.ensures.capacity })),
)

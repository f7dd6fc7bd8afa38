use Rattle.std.proofs.Common.{◌≤◌, ap, arith, vec_capacity}
use Rattle.ulfm_model.specs.Records.{Held}
use Rattle.ulfm_comm.proofs.{Helds.{room_new}, Others.{others_none}}
use Rattle.ulfm_comm.proofs.rank.LocalState.new.Goals as goal

pub invariant_of-result : goal.invariant_of-result
invariant_of-result g c =
    let room : c.args.limits.ranks ≤ vec_capacity c.args.seen = c.requires.seen.roomy in
    let few : 4 ≤ vec_capacity c.push.new.self = omega (arith, c.in_ok-held.ensures.capacity, c.push.ensures.capacity) in
    record {
      below = c.requires.below;
      others_are = others_none c.args.number c.args.seen.items;
      room = rw (c.in_ok-push.ensures.items, c.in_ok-held.ensures.items) (room_new c.args.limits (vec_capacity c.args.seen)
          (vec_capacity c.push.new.self) _ c.requires.may_open room few (omega (arith, ap (λ (y : Held). y.context) c.with_members.ensures)));
    }

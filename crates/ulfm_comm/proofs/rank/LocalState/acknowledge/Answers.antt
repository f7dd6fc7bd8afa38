use Rattle.std.proofs.Common.{refl}
use Rattle.ulfm_comm.proofs.Helds.{room_changed}
use Rattle.ulfm_comm.proofs.rank.LocalState.acknowledge.Goals as goal

pub invariant_of-self : goal.invariant_of-self
invariant_of-self g c = record {
  below = c.self.invariant.below;
  others_are = c.self.invariant.others_are;
  room = room_changed _ _ _ _ c.args.comm _ c.self.inside.held.items _ c.self.invariant.room (λ y. refl) c.acknowledge.ensures.items c.acknowledge.ensures.room;
}

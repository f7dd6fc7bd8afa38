use Rattle.ulfm_comm.proofs.Helds.{room_opened}
use Rattle.ulfm_comm.proofs.rank.LocalState.open.Goals as goal

pub invariant_of-self : goal.invariant_of-self
invariant_of-self g c = record {
  below = c.self.invariant.below;
  others_are = c.self.invariant.others_are;
  room = room_opened _ _ _ _ c.args.comm c.args.request c.self.inside.held.items _ c.self.invariant.room c.open.ensures.items c.open.ensures.room;
}

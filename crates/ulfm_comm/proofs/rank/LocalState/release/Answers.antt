use Rattle.ulfm_comm.proofs.Helds.{room_kept}
use Rattle.ulfm_comm.proofs.rank.LocalState.release.Goals as goal

pub invariant_of-self : goal.invariant_of-self
invariant_of-self g c = record {
  below = c.self.invariant.below;
  others_are = c.self.invariant.others_are;
  room = room_kept _ _ _ _ _ c.self.inside.held.items _ c.self.invariant.room c.release.ensures.items c.release.ensures.room;
}

use Rattle.std.proofs.Common.{◌+◌, [], ◌∷◌, length, length-append, refl, sym, ap, ◌∙◌, arith}
use Rattle.ulfm_judge.proofs.Seating.{room_made}
use Rattle.ulfm_judge.proofs.calls.make_room.Goals as goal

pub room-preserved : goal.room-preserved
room-preserved g c = (
  ap (λ n. n + 1) c.room.invariant.0 ∙ (sym (length-append c.room.calls.items (_ ∷ [])) ∙ sym (ap length c.in_ok-push.ensures.items)),
  omega (arith, c.room.invariant.0, ap length c.in_ok-push.ensures.items ∙ length-append c.room.calls.items (_ ∷ [])),
  λ us are. rw c.in_ok-push.ensures.items (room_made c.room.calls.items us _ refl (c.room.invariant.2 us are)),
)

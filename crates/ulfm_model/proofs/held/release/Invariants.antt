use Rattle.std.proofs.Common.{◌≡◌, filter, not, vec_capacity, vec_len}
use Rattle.ulfm_model.specs.Records.{Held}
use Rattle.ulfm_model.proofs.Places.{is_of}
use Rattle.ulfm_model.proofs.held.release.Given as goal

abbrev pub invariant-loop-i : goal.invariant-loop-i
invariant-loop-i g l = record {
  others : filter (λ (x : Held). not (is_of l.comm x)) l.held.items ≡ filter (λ (x : Held). not (is_of l.comm x)) l.initial.held.items;
  room : vec_capacity l.held ≡ vec_capacity l.initial.held;
}

abbrev pub decreases-loop-i : goal.decreases-loop-i
decreases-loop-i g l = vec_len l.held

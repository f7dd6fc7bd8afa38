use Rattle.std.proofs.Common.{arith, take}
use Rattle.std.proofs.lemmas.Bool.{eqb-true}
use Rattle.ulfm_script.specs.Buffers.{pending}
use Rattle.ulfm_script.proofs.ByteLemmas.{none_pending}
use Rattle.ulfm_script.proofs.LineParts.{none_before, none_found, split_at}
use Rattle.ulfm_script.proofs.buffers.Input.take_part.Goals as goal

pub returns-in_ok-keep_first-in-Some : goal.returns-in_ok-keep_first-in-Some
returns-in_ok-keep_first-in-Some g c =
    let s = c.args.self.now in
    let found = rw c.deref.ensures.value at c.in-Some.ensures in
    let at = c.in-Some.at in (
      take at (pending s),
      none_before (pending s) at (omega (arith, found.0.high)) found.0.before,
      split_at s.bytes.items s.start s.end at found.0.high (eqb-true _ 10 found.1),
      rw c.deref.ensures.value at c.in_ok-keep_first-in-Some.ensures,
    )

pub returns-in_ok-keep_first-in-None : goal.returns-in_ok-keep_first-in-None
returns-in_ok-keep_first-in-None g c =
    let s = c.args.self.now in
    let found = rw c.deref.ensures.value at c.in-None.ensures in (
      none_found (pending s) found,
      none_pending s.bytes.items s.end s.end (omega arith),
      rw c.deref.ensures.value at c.in_ok-keep_first-in-None.ensures,
    )

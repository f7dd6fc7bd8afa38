use Rattle.std.proofs.Common.{ap, arith, length}
use Rattle.ulfm_object.proofs.Bounds.{failed_few}
use Rattle.ulfm_object.proofs.replies.count_of.Goals as goal

pub overflow_cast-result : goal.overflow_cast-result
overflow_cast-result g c =
    let same = ap length c.in_ok-failed.ensures in
    omega (arith, c.len.ensures, c.in_ok-failed.failed.ok, same, failed_few c.args.ranks c.args.history.now c.args.comm, c.requires.failures)

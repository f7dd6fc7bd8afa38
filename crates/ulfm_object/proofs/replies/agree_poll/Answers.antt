use Rattle.std.proofs.Common.{ap, arith, length}
use Rattle.ulfm_model.specs.History.{Decision}
use Rattle.ulfm_object.proofs.Bounds.{decision_few}
use Rattle.ulfm_object.proofs.replies.agree_poll.Goals as goal

pub agree_reply-requires : goal.agree_reply-requires
agree_reply-requires g c =
    let same = ap (λ (made : Decision g.row.P.Denot). length made.failed) c.in_ok-decision.ensures in
    omega (arith, same, decision_few g.P.Meld.meld c.args.round.now.limits.ranks c.args.round.now.history.now c.args.round.now.comm c.args.round.now.number, c.requires.failures)

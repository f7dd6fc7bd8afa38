use Rattle.std.proofs.Common.{arith, ◌∙◌}
use Rattle.ulfm_model.specs.Computed.{added}
use Rattle.ulfm_model.specs.Kept.{record_of}
use Rattle.ulfm_object.proofs.Added.{few_added}
use Rattle.ulfm_object.proofs.Holding.{few_of_all, same_after, same_reply}
use Rattle.ulfm_object.proofs.outcome.held_outcome.Goals as goal

pub replied-requires : goal.replied-requires
replied-requires g c =
    let few = few_added g.P.Meld.meld c.args.asked.now.limits (omega (arith, c.requires.may.in_range.comms)) c.args.asked.now.history.now (record_of c.args.asked.now.limits c.args.asked.now.own.now) c.args.x.now c.args.asked.now.call.now c.requires.few in
    few_of_all c.args.asked.now.history.now c.args.asked.now.own.now.number _ _ _ _ _ few c.deref-2.ensures.value c.in_ok-after.ensures c.deref.ensures.value c.in_ok-events.ensures

pub returns-clause-after : goal.returns-clause-after
returns-clause-after g c = same_after c.args.asked.now.history.now c.args.asked.now.own.now.number _ _ _ _ c.in_ok-after.ensures c.deref.ensures.value c.in_ok-events.ensures

pub returns-clause-reply : goal.returns-clause-reply
returns-clause-reply g c =
    let h = c.args.asked.now.history.now in
    let own = record_of c.args.asked.now.limits c.args.asked.now.own.now in
    let x = c.args.x.now in
    same_reply g.P.Meld.meld c.args.asked.now.limits h own x c.args.asked.now.call.now c.deref-2.result.now (added g.P.Meld.meld c.args.asked.now.limits h own x c.args.asked.now.call.now)
    (c.deref-2.ensures.value ∙ same_after h c.args.asked.now.own.now.number _ _ _ _ c.in_ok-after.ensures c.deref.ensures.value c.in_ok-events.ensures)
    c.in_ok-reply.reply (c.in_ok-reply.ensures (added g.P.Meld.meld c.args.asked.now.limits h own x c.args.asked.now.call.now))

-- x

use Rattle.ulfm_explain.proofs.Telling.{offers_then}
use Rattle.ulfm_explain.proofs.offers.put_offers.Goals as goal

pub loop-line-preserved : goal.loop-line-preserved
loop-line-preserved g c =
    offers_then c.args.before.now c.args.shown.now.items c.loop-line.shown.items c.put_offer.new.shown.items c.loop-line.invariant c.in_ok-put_offer.ensures

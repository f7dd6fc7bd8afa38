use Rattle.ulfm_explain.specs.Sheets.{IsLegalBehind}
use Rattle.ulfm_explain.proofs.Telling.{offer_put}
use Rattle.ulfm_explain.proofs.offers.put_offer.Goals as goal

pub returns-then-fits : goal.returns-then-fits
returns-then-fits g c =
    let legal : IsLegalBehind c.args.before.now c.args.line.now = c.in_ok-fits.ensures c.if-fits.true in
    offer_put c.args.before.now c.args.shown.now.items c.put_line.new.shown.items c.args.line.now legal c.in_ok-put_line.ensures

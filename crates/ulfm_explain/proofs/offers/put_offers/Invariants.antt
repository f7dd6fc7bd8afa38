use Rattle.ulfm_explain.specs.Sheets.{Offers}
use Rattle.ulfm_explain.proofs.offers.put_offers.Given as goal

abbrev pub invariant-loop-line : goal.invariant-loop-line
invariant-loop-line g l = Offers l.before l.fn.shown.items l.shown.items

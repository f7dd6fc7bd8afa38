use Rattle.ulfm_model.proofs.FreeOf.{lowest_is}
use Rattle.ulfm_model.proofs.ids.lowest_id.Goals as goal

pub returns : goal.returns
returns c = lowest_is c.args.mask.bits c.requires c.args.mask.fits

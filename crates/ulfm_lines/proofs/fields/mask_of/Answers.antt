use Rattle.std.proofs.Common.{refl}
use Rattle.ulfm_laws.specs.Masks.{same_mask}
use Rattle.ulfm_lines.proofs.fields.mask_of.Goals as goal

pub returns : goal.returns
returns c = same_mask _ _ refl

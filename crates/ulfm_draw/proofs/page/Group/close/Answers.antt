use Rattle.std.proofs.Common.{codes, refl}
use Rattle.ulfm_draw.specs.Markup.{in_group, in_picture, Place.{Before}}
use Rattle.ulfm_draw.proofs.Reading.{goes_from}
use Rattle.ulfm_draw.proofs.page.Group.close.Goals as goal

pub invariant_of-result : goal.invariant_of-result
invariant_of-result g c =
    record {
      stands = goes_from c.args.self.bytes.items c.extend_from_slice.new.self.items (codes "</g>\n") Before in_group in_picture
          c.in_ok-extend_from_slice.ensures.items c.args.self.stands refl;
    }

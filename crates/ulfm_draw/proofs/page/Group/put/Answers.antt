use Rattle.std.proofs.Common.{is_ok}
use Rattle.ulfm_draw.specs.Markup.{in_group, Place.{Before}}
use Rattle.ulfm_draw.proofs.Reading.{kept_or_more, piece_reads}
use Rattle.ulfm_draw.proofs.page.Group.put.Goals as goal

pub invariant_of-self-2 : goal.invariant_of-self-2
invariant_of-self-2 g c =
    record {
      stands = kept_or_more (is_ok c.extend_from_slice.result) c.args.self.now.bytes.items c.extend_from_slice.new.self.items c.deref.result.now Before in_group
          c.extend_from_slice.ensures.items c.args.self.now.stands
          (rw c.deref.ensures.value (piece_reads c.clear.new.self.items c.fill.new.text.items c.text.result.now in_group c.clear.ensures.items c.in_ok-fill.ensures.reads c.text.ensures.whole (λ b. cc)));
    }

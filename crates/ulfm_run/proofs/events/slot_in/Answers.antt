use Rattle.std.proofs.Common.{◌∙◌, ap, arith}
use Rattle.ulfm_words.specs.Slots.{slot_of}
use Rattle.ulfm_run.proofs.Reading.{read_with}
use Rattle.ulfm_run.proofs.events.slot_in.Goals as goal

pub returns : goal.returns
returns g c =
    c.read_slot.ensures.slot ∙ (ap (slot_of g.P.Packed.unpack c.args.word) c.wing_of.ensures ∙ read_with g.P.Packed.unpack c.args.word c.args.half c.requires (omega arith))

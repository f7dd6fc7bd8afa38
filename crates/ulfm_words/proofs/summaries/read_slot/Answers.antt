use Rattle.std.proofs.Common.{◌↔◌, IsSome, IfSome, Option, subst, sym}
use Rattle.ulfm_model.specs.declared.contribution.Slot.{Slot}
use Rattle.ulfm_words.specs.Slots.{HasPair, IsExact, IsFlag, IsSlotPair}
use Rattle.ulfm_words.proofs.Pairs.{one_pair, pair_exactly}
use Rattle.ulfm_words.proofs.summaries.read_slot.Goals as goal

pub returns-clause-exactly : goal.returns-clause-exactly
returns-clause-exactly g c = subst (λ (o : Option (Slot g.row.P.Denot)). IsSome o ↔ IsSlotPair g.P.Packed.unpack c.args.word c.args.wing) (sym c.slot_from.ensures) (pair_exactly g.P.Packed.unpack c.args.word c.args.wing)

pub returns-clause-one_word : goal.returns-clause-one_word
returns-clause-one_word g c =
    subst (λ (o : Option (Slot g.row.P.Denot)). IfSome o (λ s. (IsFlag s → IsExact g.P.Packed.pack g.P.Packed.unpack) → HasPair g.P.Packed.pack c.args.word c.args.wing s)) (sym c.slot_from.ensures)
    (one_pair g.P.Packed.unpack g.P.Packed.pack c.args.word c.args.wing)

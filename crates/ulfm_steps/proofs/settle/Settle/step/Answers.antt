use Rattle.std.proofs.Common.{true, ◌≡◌, ap, ◌∙◌, sym, subst}
use Rattle.ulfm_model.specs.{Blocks.{has_wing}, declared.block.Wing.{Wing}}
use Rattle.ulfm_words.proofs.{Pairs.{given_wing}, Ranks.{place_within}}
use Rattle.ulfm_steps.proofs.Settling.{may_give}
use Rattle.ulfm_steps.proofs.settle.Settle.step.Goals as goal

pub set_slot-requires-clause-within : goal.set_slot-requires-clause-within
set_slot-requires-clause-within g c =
    place_within g.P.Meld.meld (g.W.Words.name c.args.words.now).limits (g.W.Words.sight c.args.pass.now).seen c.args.self.now.comm c.args.self.now.round c.args.self.now.rank c.requires.of.legal c.requires.of.may_open c.requires.may.place

pub set_slot-requires-clause-may : goal.set_slot-requires-clause-may
set_slot-requires-clause-may g c =
    may_give g.P.Meld.meld (g.W.Words.name c.args.words.now).limits (g.W.Words.sight c.args.pass.now).seen c.args.self.now.comm c.args.self.now.round c.args.self.now.rank c.args.self.now.given c.requires.may

pub set_slot-requires-clause-winged : goal.set_slot-requires-clause-winged
set_slot-requires-clause-winged g c =
    let s = c.args.self.now in
    subst (λ w. has_wing (g.W.Words.sight c.args.pass.now).cached (Wing.Slot s.comm s.round s.rank) w ≡ true) (sym (given_wing g.P.Packed.pack s.given)) c.requires.winged

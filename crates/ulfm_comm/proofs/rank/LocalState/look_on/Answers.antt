use Rattle.std.proofs.Common.{◌≡◌, [], arith, ap, subst, sym}
use mathlib.Core.List.{IsPrefix}
use Rattle.ulfm_model.specs.{History.{failures}, Records.{Record}}
use Rattle.ulfm_model.proofs.{Histories.{failures_begin}, Lists.{prefix_trans}}
use Rattle.ulfm_words.proofs.Trails.{did_prefix}
use Rattle.ulfm_words.specs.Steps.{view_of}
use Rattle.ulfm_steps.specs.Looks.{LookIsIn}
use Rattle.ulfm_comm.proofs.Others.{others_stay, room_in}
use Rattle.ulfm_comm.proofs.rank.LocalState.look_on.Goals as goal

pub invariant_of-self-else-not-look : goal.invariant_of-self-else-not-look
invariant_of-self-else-not-look g c =
    let was = c.self.invariant.room in
    let now = g.W.Words.sight c.args.pass.now in
    let after = g.W.Words.sight c.advance.new.pass in
    let all : c.advance.new.found.items ≡ failures after.seen =
    subst (λ done. LookIsIn (view_of g.P.Packed.pack (g.W.Words.name c.args.words.now) after) done c.advance.new.found.items) c.if-not-look.false c.advance.ensures.look in
    let grown = failures_begin now.seen after.seen (did_prefix g.W.Words.alone [] now.seen after.seen c.advance.ensures.goes.did) in
    let begins = prefix_trans c.args.self.now.seen (failures now.seen) (failures after.seen) c.requires.look.0 grown in
    record {
      below = c.self.invariant.below;
      room = room_in _ (omega (arith, was.room, c.advance.ensures.room)) was;
      others_are = others_stay c.self.inside.number c.self.inside.seen.items c.advance.new.found.items c.self.inside.others
          (subst (λ xs. IsPrefix xs c.advance.new.found.items) (sym (ap (λ (own : Record). own.seen) c.self.view_is))
          (subst (IsPrefix c.args.self.now.seen) (sym all) begins)) c.self.invariant.others_are;
    }

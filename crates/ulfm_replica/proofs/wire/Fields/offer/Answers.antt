use Rattle.std.proofs.Common.{◌≡◌, None, Some, sym, ap, ◌∙◌}
use Rattle.ulfm_laws.specs.Masks.{same_mask}
use Rattle.ulfm_model.specs.declared.contribution.Offer.TheVariants.{Flag, Ctx}
use Rattle.ulfm_replica.proofs.Wiring.{flag_read, mask_read}
use Rattle.ulfm_replica.proofs.wire.Fields.offer.Goals as goal

pub returns-in_err-flag : goal.returns-in_err-flag
returns-in_err-flag g c = λ offer kind pays.
    let one = flag_read g.P.Packed.pack g.P.Packed.unpack g.met.P.Packed.unpack_pack offer _ _ c.if-self-eq2.true kind pays in
    let none : None ≡ Some one.0 = sym c.in_err-flag.was ∙ (c.unpack.ensures ∙ one.2) in
    absurd (cc none)

pub returns-in_ok-flag : goal.returns-in_ok-flag
returns-in_ok-flag g c = λ offer kind pays.
    let one = flag_read g.P.Packed.pack g.P.Packed.unpack g.met.P.Packed.unpack_pack offer _ _ c.if-self-eq2.true kind pays in
    let some : Some c.in_ok-flag.flag ≡ Some one.0 = sym c.in_ok-flag.was ∙ (c.unpack.ensures ∙ one.2) in
    let same : c.in_ok-flag.flag ≡ one.0 = cc some in
    ap Some (ap Flag same ∙ sym one.1)

pub returns-else-self-eq2 : goal.returns-else-self-eq2
returns-else-self-eq2 g c = λ offer kind pays.
    let one = mask_read g.P.Packed.pack offer _ _ c.if-self-eq2.false kind pays in
    ap Some (ap Ctx (same_mask _ one.0 (c.mask_of.ensures ∙ one.2)) ∙ sym one.1)

use Rattle.std.proofs.Common.{List, ap, subst, ◌≡◌, ◌∙◌}
use Rattle.std.specs.Prelude.{IfOk}
use Rattle.ulfm_laws.specs.declared.summary.CtxMask.{CtxMask}
use Rattle.ulfm_model.specs.declared.contribution.Offer.TheVariants.{Ctx}
use Rattle.ulfm_model.specs.{Computed.{settle_of}, Records.{Held, free_ids}}
use Rattle.ulfm_object.proofs.adds.added.Goals as goal

-- a shrink offers the ids that none of the rank's communicators has
pub returns-in-Shrink : goal.returns-in-Shrink
returns-in-Shrink g c =
    rw c.in-Shrink.is
    (subst (λ (ids : CtxMask). IfOk c.settle_of-in-Shrink.result (λ events. events.items ≡ settle_of c.args.asked.now.history.now c.args.asked.now.own.now.number c.args.x.now (Ctx ids)))
    (c.free_ids-mask.ensures ∙ ap (λ (held : List Held). free_ids held) c.deref.ensures.value) c.settle_of-in-Shrink.ensures)

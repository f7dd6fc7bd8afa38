use Rattle.std.proofs.Common.{◌≡◌, ◌+◌, take, ap, ap₂, ◌∙◌}
use Rattle.ulfm_laws.specs.Masks.{mask_meld}
use Rattle.ulfm_model.specs.Records.{Held, all_but, free_ids}
use Rattle.ulfm_model.proofs.FreeOf.{one_more_taken}
use Rattle.ulfm_model.proofs.ids.free_ids.Goals as goal

-- one more communicator takes its id away
pub loop-x-preserved : goal.loop-x-preserved
loop-x-preserved g c =
    let id = ap (λ (y : Held). all_but y.context) (c.x.view_is ∙ c.x-item.is) in
    let more : c.meld-free.result ≡ free_ids (take (c.loop-x.x-index + 1) c.args.held.now) =
    c.meld-free.ensures ∙ (ap₂ mask_meld c.loop-x.invariant (c.all_but.ensures ∙ id) ∙ one_more_taken c.args.held.now c.loop-x.x-index c.x-item.result c.loop-x-test.true) in
    more

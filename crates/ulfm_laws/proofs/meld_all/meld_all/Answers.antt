use Rattle.std.proofs.Common.{take}
use Rattle.std.proofs.lemmas.List.{take_more}
use Rattle.ulfm_laws.specs.Combined.{combined-push}
use Rattle.ulfm_laws.proofs.meld_all.meld_all.Goals as goal

-- one more value is melded to those so far
pub loop-value-preserved : goal.loop-value-preserved
loop-value-preserved g c =
    let more = take_more c.args.values.now c.loop-value.value-index c.value-item.result c.loop-value-test.true in
    let push = combined-push g.met.P.Meld.lawful (take c.loop-value.value-index c.args.values.now) c.value-item.result in
    cc

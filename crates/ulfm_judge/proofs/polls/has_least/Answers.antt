use Rattle.std.proofs.Common.{◌==◌, ◌&&◌, nat_eq, sym, ap, ◌∙◌}
use Rattle.std.proofs.lemmas.Bool.{lt-ltb}
use Rattle.ulfm_model.specs.Computed.{lowest_id}
use Rattle.ulfm_model.proofs.OnlySpawned.{lowest_is}
use Rattle.ulfm_judge.proofs.polls.has_least.Goals as goal

pub returns-then-mask-gt0 : goal.returns-then-mask-gt0
returns-then-mask-gt0 g c =
    let mask = c.in-Ctx.mask in
    rw c.in-Ctx.is
    (ap (λ n. nat_eq c.args.context n) (lowest_is mask.bits c.lowest_id.result mask.fits c.lowest_id.ensures)
    ∙ sym (ap (λ b. b && (c.args.context == lowest_id mask.bits)) (lt-ltb 0 mask.bits c.if-mask-gt0.true)))

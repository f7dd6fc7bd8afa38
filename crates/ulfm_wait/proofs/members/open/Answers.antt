use Rattle.std.proofs.Common.{◌≡◌, ap, sym, ◌∙◌, subst}
use Rattle.std.specs.List.{AllByRecursion}
use Rattle.ulfm_model.specs.History.{first_ranks}
use Rattle.ulfm_comm.specs.Counts.{Ranked, records_of}
use Rattle.ulfm_comm.proofs.Opening.{records_are}
use Rattle.ulfm_wait.proofs.Opening.{none_made}
use Rattle.ulfm_wait.proofs.members.open.Goals as goal

pub shared-requires-clause-last : goal.shared-requires-clause-last
shared-requires-clause-last g c =
    let limits = (g.W.Words.name c.args.words).limits in
    subst (AllByRecursion (λ (r : Ranked). r.last ≡ 0)) (sym c.in_ok-world.ensures.ranks) (none_made limits (first_ranks limits.ranks))

pub returns-in-Ok-clause-ranks : goal.returns-in-Ok-clause-ranks
returns-in-Ok-clause-ranks g c =
    let limits = (g.W.Words.name c.args.words).limits in
    c.in-Ok.ensures.ranks ∙ (ap records_of c.in_ok-world.ensures.ranks ∙ records_are limits (first_ranks limits.ranks))

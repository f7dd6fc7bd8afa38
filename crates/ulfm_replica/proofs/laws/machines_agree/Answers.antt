use Rattle.std.proofs.Common.{[], sym, subst}
use Rattle.ulfm_model.specs.declared.limits.Limits.{Limits}
use Rattle.ulfm_replica.specs.Replicas.{Replays, rules}
use Rattle.ulfm_replica.proofs.Replaying.{one_history}
use Rattle.ulfm_replica.proofs.laws.machines_agree.Goals as goal

pub returns : goal.returns
returns g c = λ one other limits_are replays further begins.
    let by = rules g.P.Meld.meld g.P.Packed.pack in
    one_history by one.at.words.limits one.fed begins.0 [] one.at.pass.seen other.at.pass.seen replays
    (subst (λ log. Replays by one.at.words.limits [] log other.at.pass.seen) (sym begins.1) (subst (λ (l : Limits). Replays by l [] other.fed other.at.pass.seen) (sym limits_are) further))

use Rattle.std.proofs.Common.{◌≡◌, [], refl, sym, ◌∙◌, subst}
use Rattle.ulfm_model.specs.History.{History}
use Rattle.ulfm_words.specs.Steps.{Name}
use Rattle.ulfm_numbers.specs.Telling.{TablesTell}
use Rattle.ulfm_replica.specs.Replicas.{Replays, Replicated, StepsOn, rules}
use Rattle.ulfm_replica.proofs.Fitting.{same_seen}
use Rattle.ulfm_replica.proofs.machine.Machine.stepped.Goals as goal
use Rattle.ulfm_replica.proofs.machine.Machine.stepped.Goals.{Else-seen}

same : (g : _) (c : Else-seen g) → c.in_ok-at.at.pass.seen ≡ c.self.inside.at.pass.seen
same g c = same_seen c.self.inside.at.pass.seen c.in_ok-at.at.pass.seen c.in_ok-at.ensures.steps.begins (sym c.seen.ensures ∙ (c.if-seen.false ∙ c.seen-seen.ensures))

pub invariant_of-result : goal.invariant_of-result
invariant_of-result g c =
    let by = rules g.P.Meld.meld g.P.Packed.pack in
    let words = sym c.in_ok-at.ensures.steps.keeps.words in
    let seen = sym (same g c) in (
      subst (λ (n : Name). Replays by n.limits [] c.self.inside.log.items c.in_ok-at.at.pass.seen) words (subst (λ (h : History g.row.P.Denot). Replays by c.self.inside.at.words.limits [] c.self.inside.log.items h) seen c.self.invariant.0),
      subst (λ (n : Name). TablesTell n.limits.ranks c.self.inside.numbers c.in_ok-at.at.pass.seen) words (subst (λ (h : History g.row.P.Denot). TablesTell c.self.inside.at.words.limits.ranks c.self.inside.numbers h) seen c.self.invariant.1),
      c.self.invariant.2,
    )

pub returns : goal.returns
returns g c =
    subst (λ (r : Replicated g.row.P.Denot). StepsOn (rules g.P.Meld.meld g.P.Packed.pack) r.at c.in_ok-at.at × (c.in_ok-at.at.pass.seen ≡ r.at.pass.seen) × (c.self.inside.log.items ≡ r.fed)) c.self.view_is
    (c.in_ok-at.ensures.steps, same g c, refl)

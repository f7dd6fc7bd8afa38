use Rattle.std.proofs.Common.{◌≡◌, Vec, ap, subst, ℕ}
use Rattle.std.specs.Prelude.{IfOk}
use Rattle.ulfm_model.specs.History.{Exists, History, failed}
use Rattle.ulfm_model.specs.Runs.{State}
use Rattle.ulfm_object.proofs.Groups.{nobody_failed}
use Rattle.ulfm_object.proofs.object.Object.failed.Goals as goal

pub returns-clause-nobody : goal.returns-clause-nobody
returns-clause-nobody g c = λ missing.
    let same : c.self.inside.log.items ≡ c.args.self.now.history = ap (λ (s : State g.row.P.Denot). s.history) c.self.view_is in
    nobody_failed c.self.inside.limits.ranks c.self.inside.log.items c.args.comm (λ here. missing (subst (λ h. Exists h c.args.comm) same here)) (λ (group : Vec ℕ g.row.A.Denot). group.items) c.failed.result
    (subst (λ (h : History g.row.P.Denot). IfOk c.failed.result (λ (group : Vec ℕ g.row.A.Denot). group.items ≡ failed c.self.inside.limits.ranks h c.args.comm)) c.deref.ensures.value c.failed.ensures)

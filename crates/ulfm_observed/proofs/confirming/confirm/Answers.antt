use Rattle.std.proofs.Common.{List, None, map, subst, sym, true, ◌∙◌}
use Rattle.std.specs.Prelude.{Bool, IsTrue}
use Rattle.ulfm_observed.specs.declared.log.LogLine.{LogLine}
use Rattle.ulfm_observed.specs.{Explains.{AreWillsKept}, LogTexts.{heard_of}, Stages.{aid_after, shown_of}}
use Rattle.ulfm_observed.proofs.Explained.{explained}
use Rattle.ulfm_observed.proofs.confirming.confirm.Goals as goal

pub returns : goal.returns
returns g c =
    let trace = map shown_of c.args.steps.now in
    explained c.args.log.now c.args.steps.now c.is_legal.result (c.in_ok-are_all_heard.ensures c.if-not-branch.false)
    (subst (λ (lines : List (LogLine g.row.B.Denot)). AreWillsKept (map heard_of lines) trace) c.deref.ensures.value
    (c.in_ok-are_wills_kept.ensures c.if-not-branch-2.false))
    (subst (λ (all : Bool). IsTrue (aid_after all (record { asked = None; fine = true }) trace).fine) c.is_all_logged.ensures
    (sym c.only_helps.ensures ∙ c.if-not-only_helps.false))
    c.is_legal.ensures

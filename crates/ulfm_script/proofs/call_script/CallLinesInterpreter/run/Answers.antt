use Rattle.std.proofs.Common.{sym, ap, subst, ◌∙◌}
use Rattle.ulfm_script.specs.Calls.{call_in}
use Rattle.ulfm_script.specs.Runs.{PrintsReply}
use Rattle.ulfm_model.specs.Runs.{new_state}
use Rattle.ulfm_script.proofs.CallLemmas.{prints_on}
use Rattle.ulfm_script.proofs.call_script.CallLinesInterpreter.run.Goals as goal

pub returns-in_ok-answer-in-Ok : goal.returns-in_ok-answer-in-Ok
returns-in_ok-answer-in-Ok g c =
    let told = c.in_ok-answer-in-Ok.ensures.prints in
    let old = g.M.Machine.state c.args.self.now.machine in
    let new = g.M.Machine.state c.answer.new.self.machine in
    let line = c.answer.new.self.line.text.items in
    λ plan before ran. (
      c.in-Ok.call,
      ap (λ version. call_in version c.args.line.now) (sym ran.same) ∙ sym c.in-Ok.ensures.exact,
      record {
        same = c.answer.ensures.version ∙ ran.same;
        prints = prints_on (new_state before.heading.limits) old new before.items c.in-Ok.call before.out line ran.prints
            (subst (PrintsReply old c.in-Ok.call new) (sym told.2) told.1);
      },
    )

use Rattle.std.proofs.Common.{ap, sym, ◌++◌, ◌∙◌}
use Rattle.ulfm_script.specs.Calls.{call_in}
use Rattle.ulfm_model.specs.Runs.{new_state}
use Rattle.ulfm_filters.specs.Echoes.{Asked, with_line}
use Rattle.ulfm_filters.proofs.Echoing.{echoes_on}
use Rattle.ulfm_filters.proofs.echo.EchoLinesInterpreter.run.Goals as goal

pub returns-in_ok-answer-in-Ok : goal.returns-in_ok-answer-in-Ok
returns-in_ok-answer-in-Ok g c =
    let told = c.in_ok-answer-in-Ok.ensures.echoes in
    let asked : Asked = record { line = c.args.line.now; call = c.in-Ok.call } in
    λ plan before ran. (
      asked,
      ap (λ version. with_line c.args.line.now (call_in version c.args.line.now)) (sym ran.same) ∙ ap (with_line c.args.line.now) (sym c.in-Ok.ensures.exact),
      record {
        same = c.answer.ensures.version ∙ ran.same;
        plain = ran.plain ++ told.0;
        echoes = echoes_on (new_state before.heading.limits) (g.M.Machine.state c.args.self.now.calls.machine) (g.M.Machine.state c.answer.new.self.calls.machine) before.items asked
            before.out ran.plain told.0 c.answer.new.self.text.items ran.echoes told.1 told.2;
      },
    )

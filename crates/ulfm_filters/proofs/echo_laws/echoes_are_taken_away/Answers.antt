use Rattle.std.proofs.Common.{subst}
use Rattle.ulfm_script.specs.{Calls.{ScriptCall, call_in}, Ends.{PrintsFrom}, Scripts.{Script, script_of}, Runs.{call_scripts}}
use Rattle.ulfm_filters.specs.{Echoes.{echo_scripts}, EchoLaws.{joined}}
use Rattle.ulfm_filters.proofs.Taken.{line_read, same_script, taken_from}
use Rattle.ulfm_filters.proofs.echo_laws.echoes_are_taken_away.Goals as goal

pub returns : goal.returns
returns c = record {
  same_script = same_script;
  taken_away = λ text out printed.
      let script = script_of echo_scripts text in
      let taken = taken_from script.heading script.items out printed in
      (taken.0, subst (λ (s : Script ScriptCall). PrintsFrom call_scripts s.heading s.items (joined taken.0)) (same_script text) taken.1, taken.2);
  own_line = λ version line asked read. line_read line (call_in version line) asked read;
}

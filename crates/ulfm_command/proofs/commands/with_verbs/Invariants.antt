use Rattle.std.proofs.Common.{take}
use Rattle.std.specs.List.{fold}
use Rattle.clap.specs.Words.{App}
use Rattle.ulfm_command.specs.CommandLines.{IsCommand}
use Rattle.ulfm_command.specs.Verbs.{with_verb}
use Rattle.ulfm_command.proofs.commands.with_verbs.Given as goal

abbrev pub invariant-loop-verb : goal.invariant-loop-verb
invariant-loop-verb l = (app : App) → IsCommand app l.initial.command → IsCommand (fold with_verb app (take l.verb-index l.verbs)) l.command

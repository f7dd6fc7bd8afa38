use Rattle.std.proofs.Common.{take}
use Rattle.std.specs.List.{fold}
use Rattle.clap.specs.Words.{new_app, with_rule}
use Rattle.ulfm_command.specs.CommandLines.{IsCommand}
use Rattle.ulfm_command.specs.Verbs.{choice_rule}
use Rattle.ulfm_command.proofs.commands.command_of.Given as goal

abbrev pub invariant-loop-choice : goal.invariant-loop-choice
invariant-loop-choice l =
    IsCommand (fold (λ app choice. with_rule app (choice_rule choice)) (new_app l.verb.name.now) (take l.choice-index l.verb.choices.now)) l.command

-- Rows of verbs as commands.
use Rattle.std.specs.List.{fold}
use Rattle.clap.specs.Words.{App, Rule, new_app, with_rule, with_subcommand}
use Rattle.clap.specs.declared.builder.value_parser.ValueParser.TheVariants as vp
use Rattle.ulfm_command.specs.declared.verbs.{Choice.{Choice}, Choice.TheVariants.{Flag, Number}, Verb.{Verb}}
use Rattle.ulfm_command.specs.CommandLines.{flag_rule, number_rule}

-- the rule of an option: it is given or not, or it takes a number in its bounds, and is required or not
abbrev pub choice_rule : Choice → Rule
choice_rule (Flag name help) = flag_rule name.now
choice_rule (Number name shown help bounds required) = record (number_rule name.now (vp.Signed bounds.0 bounds.1)) { required = required }

-- a verb as a command, with its options
abbrev pub verb_app : Verb → App
verb_app verb = fold (λ app choice. with_rule app (choice_rule choice)) (new_app verb.name.now) verb.choices.now

-- a command with one more verb
abbrev pub with_verb : App → Verb → App
with_verb app verb = with_subcommand app (verb_app verb).top

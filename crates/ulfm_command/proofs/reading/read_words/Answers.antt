use Rattle.std.proofs.Common.{map}
use Rattle.clap.specs.Words.{subcommand_rows_of}
use Rattle.ulfm_command.proofs.Entered.{entered_is}
use Rattle.ulfm_command.proofs.reading.read_words.Goals as goal

pub returns-in-Ok : goal.returns-in-Ok
returns-in-Ok c =
    entered_is (map (λ word. word.now) c.args.words.now) (subcommand_rows_of c.in-Ok.matches) c.read_command.result c.in-Ok.ensures.fails c.in-Ok.ensures.found c.read_command.ensures

use Rattle.std.proofs.Common.{◌∙◌}
use Rattle.std.specs.Str.Parse.{ParsesUnsigned, ExplainsUnsignedError, HasUnsignedDigitsIfOk}
use Rattle.clap.specs.Words.{found_of}
use Rattle.clap.proofs.WalkLemmas.{one_text-rows}
use Rattle.ulfm_command.proofs.Numbers.{is_read}
use Rattle.ulfm_command.proofs.reading.read_number.Goals as goal

pub returns : goal.returns
returns c =
    let same = one_text-rows (found_of c.args.matches.now) c.args.name.now in
    is_read 16 _ (λ bs r. ParsesUnsigned 16 10 bs r × ExplainsUnsignedError 10 bs r × HasUnsignedDigitsIfOk bs r) (λ t x g. g.0) _
    c.try_get_one.result (λ e. c.try_get_one.ensures.none (same ∙ e)) (λ t e. c.try_get_one.ensures.value t (same ∙ e))

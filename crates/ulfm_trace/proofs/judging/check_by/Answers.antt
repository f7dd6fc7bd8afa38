use Rattle.ulfm_trace.specs.declared.verdict.CheckFault.TheVariants.{Memory}
use Rattle.ulfm_script.specs.Buffers.{pending}
use Rattle.ulfm_script.proofs.ByteLemmas.{few_pending}
use Rattle.ulfm_trace.proofs.Checking.{checked_alone, checked_none, handed_on}
use Rattle.ulfm_trace.proofs.judging.check_by.Goals as goal

pub returns-in_err-input : goal.returns-in_err-input
returns-in_err-input g c =
    rw (handed_on c.from_residual.result Memory c.from_residual.ensures.1) (checked_none (g.R.Read.remaining c.args.reader.now))

pub returns : goal.returns
returns g c =
    let k = g.R.Read.remaining in
    let input = c.check_through.new.input in
    checked_alone (k c.args.reader.now) (k c.check_through.new.reader) (pending c.in_ok-input.input) (pending input) c.check_through.result
    c.in_ok-input.ensures (few_pending input.bytes.items input.start input.end 8192 input.within input.small) c.check_through.ensures

use Rattle.ulfm.proofs.Ends.{observed_part, observed_whole}
use Rattle.ulfm.proofs.program.run_observe.Goals as goal

pub returns-then-status-eq0-clause-observed : goal.returns-then-status-eq0-clause-observed
returns-then-status-eq0-clause-observed g c =
    observed_whole g.row.A.Denot c.args.witness (g.R.Read.remaining c.args.input.now) (g.W.Write.contents c.args.output.now) (g.W.Write.contents c.print_text-status.new.output)
    c.in-Ok.shown c.deref.result.now c.print_text-status.result c.in-Ok.ensures c.deref.ensures.value c.print_text-status.ensures.prints c.if-status-eq0.true

pub returns-in-Ok-clause-observed : goal.returns-in-Ok-clause-observed
returns-in-Ok-clause-observed g c =
    observed_part g.row.A.Denot c.args.witness (g.R.Read.remaining c.args.input.now) (g.W.Write.contents c.args.output.now) (g.W.Write.contents c.print_text-status.new.output)
    c.in-Ok.shown c.deref.result.now c.print_text-status.result c.in-Ok.ensures c.deref.ensures.value c.print_text-status.ensures.prints c.if-status-eq0.false

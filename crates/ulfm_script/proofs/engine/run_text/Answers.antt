use Rattle.std.specs.Io.KnownBytes.{Appends}
use Rattle.ulfm_script.specs.declared.fault.RunFault.TheVariants.{Memory}
use Rattle.ulfm_script.specs.Ends.{ended}
use Rattle.ulfm_script.specs.Buffers.{pending}
use Rattle.ulfm_script.proofs.ByteLemmas.{few_pending}
use Rattle.ulfm_script.proofs.RunLemmas.{handed_on, ran_all_alone, ran_alone, ran_none}
use Rattle.ulfm_script.proofs.engine.run_text.Goals as goal

pub returns-in_err-input-clause-ends : goal.returns-in_err-input-clause-ends
returns-in_err-input-clause-ends g c =
    rw (handed_on c.from_residual.result Memory c.from_residual.ensures.1)
    (ran_none g.M.Interpreter.lang (g.R.Read.remaining c.args.reader.now) (g.W.Write.contents c.args.writer.now))

pub returns-clause-ends : goal.returns-clause-ends
returns-clause-ends g c =
    let k = g.R.Read.remaining in
    let w = g.W.Write.contents in
    let input = c.run_text_through.new.input in
    ran_alone g.M.Interpreter.lang (k c.args.reader.now) (k c.run_text_through.new.reader) (w c.args.writer.now) (w c.run_text_through.new.writer)
    (pending c.in_ok-input.input) (pending input) (ended c.run_text_through.result) c.in_ok-input.ensures
    (few_pending input.bytes.items input.start input.end 8192 input.within input.small) c.run_text_through.ensures.ends

pub returns-clause-all : goal.returns-clause-all
returns-clause-all g c =
    let k = g.R.Read.remaining in
    let w = g.W.Write.contents in
    ran_all_alone g.M.Interpreter.lang (g.M.Interpreter.HasRun c.args.plan) (k c.args.reader.now) (pending c.in_ok-input.input)
    (Appends (w c.args.writer.now) (w c.run_text_through.new.writer)) c.run_text_through.result c.in_ok-input.ensures c.run_text_through.ensures.all

use Rattle.std.proofs.Common.{refl, Ok, Err, []}
use Rattle.ulfm_script.specs.Buffers.{line_of, pending, unread}
use Rattle.ulfm_script.specs.declared.fault.RunFault.TheVariants.{Memory}
use Rattle.ulfm_script.proofs.ByteLemmas.{keeps_nothing}
use Rattle.ulfm_script.proofs.RunLemmas.{handed_on, header_given, takes_cut, takes_none, unopened_line, unopened_machine, unopened_read, whole_text}
use Rattle.ulfm_script.proofs.ScriptLemmas.{header_cut, no_header}
use Rattle.ulfm_script.proofs.engine.open_machine.Goals as goal

pub returns-in_err-next_line : goal.returns-in_err-next_line
returns-in_err-next_line g c =
    let k = g.R.Read.remaining in
    let fault = c.in_err-next_line.field-0.0 in
    rw (handed_on c.from_residual.result fault c.from_residual.ensures.1)
    (unopened_read g.M.Interpreter.lang (g.M.Interpreter.HasRun c.args.plan) g.M.Interpreter.text (unread k c.args.input.now c.args.reader.now) (unread k c.next_line.new.self c.next_line.new.reader) (pending c.next_line.new.self) (line_of c.next_line.new.self c.next_line.new.apart.items) fault c.in_err-next_line.ensures)

pub returns-in_err-open-in-Ok : goal.returns-in_err-open-in-Ok
returns-in_err-open-in-Ok g c =
    let k = g.R.Read.remaining in
    let e = rw c.in-Newline.is at c.in_ok-next_line.ensures in
    rw (handed_on c.from_residual-in_err-open-in-Ok.result Memory c.from_residual-in_err-open-in-Ok.ensures.1)
    (unopened_machine g.M.Interpreter.lang (g.M.Interpreter.HasRun c.args.plan) g.M.Interpreter.text (unread k c.args.input.now c.args.reader.now) (unread k c.next_line.new.self c.next_line.new.reader)
    (pending c.next_line.new.self) e.0 e.1 e.3)

pub returns-in_ok-open-in-Ok : goal.returns-in_ok-open-in-Ok
returns-in_ok-open-in-Ok g c =
    let e = rw c.in-Newline.is at c.in_ok-next_line.ensures in
    record {
      line = e.0;
      heading = c.in-Ok.heading;
      free = e.1;
      header = header_given g.M.Interpreter.lang e.0 (line_of c.next_line.new.self c.next_line.new.apart.items) c.line.result.now (Ok c.in-Ok.heading) e.2 (rw c.deref.ensures.value at c.line.ensures) c.in-Ok.ensures.exact;
      taken = e.3;
      new_one = c.in_ok-open-in-Ok.ensures;
    }

pub returns-in-Done : goal.returns-in-Done
returns-in-Done g c =
    let a = unread g.R.Read.remaining c.args.input.now c.args.reader.now in
    let b = unread g.R.Read.remaining c.next_line.new.self c.next_line.new.reader in
    let e = rw c.in-Done.is at c.in_ok-next_line.ensures in
    let none = keeps_nothing a b e.0 in
    ([], whole_text a b [] none e.1, refl, no_header g.M.Interpreter.lang, takes_none a b none)

pub returns-in-Cut : goal.returns-in-Cut
returns-in-Cut g c =
    let a = unread g.R.Read.remaining c.args.input.now c.args.reader.now in
    let b = unread g.R.Read.remaining c.next_line.new.self c.next_line.new.reader in
    let e = rw c.in-Cut.is at c.in_ok-next_line.ensures in
    (e.0, whole_text a b e.0 e.3 e.4, refl, header_cut g.M.Interpreter.lang e.0 e.1 e.2, takes_cut a b e.0 e.1 e.3)

pub returns-in-Err : goal.returns-in-Err
returns-in-Err g c =
    let a = unread g.R.Read.remaining c.args.input.now c.args.reader.now in
    let b = unread g.R.Read.remaining c.next_line.new.self c.next_line.new.reader in
    let e = rw c.in-Newline.is at c.in_ok-next_line.ensures in
    let kind = c.in-Err.kind in
    let h = header_given g.M.Interpreter.lang e.0 (line_of c.next_line.new.self c.next_line.new.apart.items) c.line.result.now (Err kind) e.2 (rw c.deref.ensures.value at c.line.ensures) c.in-Err.ensures.exact in
    let u = unopened_line g.M.Interpreter.lang a b e.0 kind e.1 e.3 h in
    (u.0, u.1, refl, u.2, u.3)

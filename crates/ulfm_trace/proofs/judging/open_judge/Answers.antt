use Rattle.std.proofs.Common.{◌<◌, ◌≤◌, ap, length, arith}
use Rattle.ulfm_script.specs.Buffers.{line_of, pending, unread}
use Rattle.ulfm_script.proofs.ByteLemmas.{keeps_nothing}
use Rattle.ulfm_trace.specs.declared.verdict.CheckFault.TheVariants.{Memory}
use Rattle.ulfm_trace.proofs.Checking.{handed_on, header_found, lacks_all, lacks_cut, lacks_long, lacks_read, unopened_judge}
use Rattle.ulfm_trace.proofs.judging.open_judge.Goals as goal

pub returns-then-line-gt-LONGEST : goal.returns-then-line-gt-LONGEST
returns-then-line-gt-LONGEST g c =
    let k = g.R.Read.remaining in
    let e = rw c.in-Newline.is at c.in_ok-next_line.ensures in
    let same = rw c.deref.ensures.value at c.line-line.ensures in
    let kept = line_of c.next_line.new.input c.next_line.new.line.items in
    let long : 8192 < length kept = omega (arith, ap length same, c.if-line-gt-LONGEST.true) in
    lacks_long (unread k c.args.input.now c.args.reader.now) (unread k c.next_line.new.input c.next_line.new.reader) e.0 kept e.1 e.3 e.2 long

pub returns-in_err-open-in-Ok : goal.returns-in_err-open-in-Ok
returns-in_err-open-in-Ok g c =
    let k = g.R.Read.remaining in
    let e = rw c.in-Newline.is at c.in_ok-next_line.ensures in
    rw (handed_on c.from_residual-in_err-open-in-Ok.result Memory c.from_residual-in_err-open-in-Ok.ensures.1)
    (unopened_judge g.J.LineJudge.Stands (unread k c.args.input.now c.args.reader.now) (unread k c.next_line.new.input c.next_line.new.reader)
    (pending c.next_line.new.input) e.0 e.1 e.3)

pub returns-in-Done : goal.returns-in-Done
returns-in-Done g c =
    let a = unread g.R.Read.remaining c.args.input.now c.args.reader.now in
    let b = unread g.R.Read.remaining c.next_line.new.input c.next_line.new.reader in
    let e = rw c.in-Done.is at c.in_ok-next_line.ensures in
    lacks_all a b (keeps_nothing a b e.0) e.1

pub returns-in-Cut : goal.returns-in-Cut
returns-in-Cut g c =
    let k = g.R.Read.remaining in
    let e = rw c.in-Cut.is at c.in_ok-next_line.ensures in
    lacks_cut (unread k c.args.input.now c.args.reader.now) (unread k c.next_line.new.input c.next_line.new.reader) e.0 e.1 e.3 e.4

pub returns-in_ok-open-in-Ok : goal.returns-in_ok-open-in-Ok
returns-in_ok-open-in-Ok g c =
    let e = rw c.in-Newline.is at c.in_ok-next_line.ensures in
    let same = rw c.deref.ensures.value at c.line-line.ensures in
    let kept = line_of c.next_line.new.input c.next_line.new.line.items in
    let short : length kept ≤ 8192 = omega (arith, ap length same, c.if-line-gt-LONGEST.false) in
    record {
      line = e.0;
      limits = c.in-Ok.limits;
      free = e.1;
      header = header_found e.0 kept c.line-line.result.now c.in-Ok.limits e.2 short (rw c.deref.ensures.value at c.line-line.ensures) c.in-Ok.ensures.opens c.in-Ok.ensures.found;
      taken = e.3;
      stands = c.in_ok-open-in-Ok.ensures;
    }

pub returns-in-Err : goal.returns-in-Err
returns-in-Err g c =
    let k = g.R.Read.remaining in
    let e = rw c.in-Newline.is at c.in_ok-next_line.ensures in
    let same = rw c.deref.ensures.value at c.line-line.ensures in
    let kept = line_of c.next_line.new.input c.next_line.new.line.items in
    let short : length kept ≤ 8192 = omega (arith, ap length same, c.if-line-gt-LONGEST.false) in
    lacks_read (unread k c.args.input.now c.args.reader.now) (unread k c.next_line.new.input c.next_line.new.reader) e.0 kept c.line-line.result.now
    c.read_header.result c.in-Err.field-0 e.1 e.3 e.2 short (rw c.deref.ensures.value at c.line-line.ensures) c.in-Err.is c.read_header.ensures.only

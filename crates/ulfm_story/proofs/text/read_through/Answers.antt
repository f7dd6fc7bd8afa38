use Rattle.std.proofs.Common.{arith, length, ◌<◌, ◌≤◌}
use Rattle.ulfm_script.specs.Buffers.{unread}
use Rattle.ulfm_story.proofs.Beginnings.{all_of, begins_so, cut_kept, line_more, long_kept}
use Rattle.ulfm_story.proofs.text.read_through.Goals as goal

pub returns-in-Done : goal.returns-in-Done
returns-in-Done g c =
    let k = g.R.Read.remaining in
    let e = rw c.in-Done.is at c.in_ok-read_line.ensures in
    rw (c.whole.ensures.whole, c.whole.ensures.text)
    (all_of (unread k c.args.input.now c.args.reader.now) (unread k c.lines.input c.lines.reader) (unread k c.read_line.new.self c.read_line.new.reader)
    c.lines.text.items c.lines.invariant e.0 e.1)

pub returns-in-Cut : goal.returns-in-Cut
returns-in-Cut g c =
    let k = g.R.Read.remaining in
    let e = rw c.in-Cut.is at c.in_ok-read_line.ensures in
    rw (c.in_ok-extend_from_slice-in-Cut.ensures.items, c.deref.ensures.value, c.len-is_whole.ensures)
    (cut_kept (unread k c.args.input.now c.args.reader.now) (unread k c.lines.input c.lines.reader) (unread k c.read_line.new.self c.read_line.new.reader)
    c.lines.text.items e.0 c.read_line.new.line.items 8192 c.read_line.new.line.len c.lines.invariant e.3 e.4 e.5 (omega (arith, c.read_line.new.line.ok.0)))

pub returns-then-len-gt-LONGEST : goal.returns-then-len-gt-LONGEST
returns-then-len-gt-LONGEST g c =
    let k = g.R.Read.remaining in
    let e = rw c.in-Newline.is at c.in_ok-read_line.ensures in
    let long : 8192 < length c.read_line.new.line.items = omega (arith, c.len.ensures, c.if-len-gt-LONGEST.true, c.read_line.new.line.ok.0) in
    rw (c.part.ensures.part, c.part.ensures.text, c.in_ok-extend_from_slice-in-Newline.ensures.items, c.deref-in-Newline.ensures.value)
    (long_kept (unread k c.args.input.now c.args.reader.now) (unread k c.lines.input c.lines.reader) (unread k c.read_line.new.self c.read_line.new.reader)
    c.lines.text.items e.0 c.read_line.new.line.items 8192 c.lines.invariant e.3 e.2 long)

pub lines-preserved : goal.lines-preserved
lines-preserved g c =
    let k = g.R.Read.remaining in
    let e = rw c.in-Newline.is at c.in_ok-read_line.ensures in
    let few : length c.read_line.new.line.items ≤ 8192 = omega (arith, c.len.ensures, c.if-len-gt-LONGEST.false, c.read_line.new.line.ok.0) in
    rw (c.in_ok-extend_from_slice.ensures.items, c.in_ok-extend_from_slice-in-Newline.ensures.items, c.deref-in-Newline.ensures.value)
    (line_more (unread k c.args.input.now c.args.reader.now) (unread k c.lines.input c.lines.reader) (unread k c.read_line.new.self c.read_line.new.reader)
    c.lines.text.items e.0 c.read_line.new.line.items 8192 c.lines.invariant e.3 e.2 few)

pub returns : goal.returns
returns g c =
    let k = g.R.Read.remaining in
    rw (c.part-in_default.ensures.part, c.part-in_default.ensures.text)
    (begins_so (unread k c.args.input.now c.args.reader.now) (unread k c.lines.input c.lines.reader) c.lines.text.items c.lines.invariant)

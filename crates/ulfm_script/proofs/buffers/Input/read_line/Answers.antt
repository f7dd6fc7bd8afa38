use Rattle.std.proofs.Common.{arith, ap, ◌∙◌}
use Rattle.ulfm_script.specs.Buffers.{pending, text_end, unread}
use Rattle.ulfm_script.proofs.ByteLemmas.{consumes_keeps, none_pending}
use Rattle.ulfm_script.proofs.LinesTaken.{failed_line, line_begun, line_ended, more_of_line, whole_line}
use Rattle.ulfm_script.proofs.buffers.Input.read_line.Goals as goal

pub parts-init : goal.parts-init
parts-init g c = line_begun c.args.kept (unread g.R.Read.remaining c.args.self.now c.args.reader.now) c.clear.new.self.items c.clear.ensures.items

pub returns-then-self : goal.returns-then-self
returns-then-self g c =
    let k = g.R.Read.remaining in
    let self = c.fill.new.self in
    rw (c.end_behind.ensures ∙ ap text_end c.deref.ensures.value) (line_ended c.args.kept (unread k c.args.self.now c.args.reader.now) (unread k c.parts.self c.parts.reader) (unread k self c.fill.new.reader)
    (pending self) c.parts.line.items c.parts.invariant c.in_default.ensures (none_pending self.bytes.items self.start self.end (omega arith)) c.requires)

pub returns : goal.returns
returns g c = let i = c.parts.invariant in (i.0, i.1, i.3)

pub returns-in-Err : goal.returns-in-Err
returns-in-Err g c =
    let k = g.R.Read.remaining in
    failed_line c.args.kept (unread k c.args.self.now c.args.reader.now) (unread k c.parts.self c.parts.reader) (unread k c.fill.new.self c.fill.new.reader)
    (pending c.fill.new.self) c.parts.line.items c.in-Err.fault c.parts.invariant c.in-Err.ensures

pub returns-in-Err-take_part : goal.returns-in-Err-take_part
returns-in-Err-take_part g c =
    let k = g.R.Read.remaining in
    let i = c.parts.invariant in
    let a = unread k c.args.self.now c.args.reader.now in
    let b = unread k c.parts.self c.parts.reader in (
      i.0,
      i.1,
      rw c.in-Err-take_part.ensures (consumes_keeps a b (unread k c.fill.new.self c.fill.new.reader) i.0 i.3 c.in_default.ensures.0),
    )

pub returns-in-Ok-true : goal.returns-in-Ok-true
returns-in-Ok-true g c =
    let k = g.R.Read.remaining in
    whole_line c.args.kept (unread k c.args.self.now c.args.reader.now) (unread k c.parts.self c.parts.reader) (k c.fill.new.reader)
    (pending c.fill.new.self) (pending c.take_part.new.self) (pending c.take_part.new.self) c.parts.line.items c.take_part.new.line.items
    c.parts.invariant c.in_default.ensures.0 (rw c.in-Ok-true.field-0-test at c.in-Ok-true.ensures)

pub parts-preserved : goal.parts-preserved
parts-preserved g c =
    let k = g.R.Read.remaining in
    more_of_line c.args.kept (unread k c.args.self.now c.args.reader.now) (unread k c.parts.self c.parts.reader) (k c.fill.new.reader)
    (pending c.fill.new.self) (pending c.take_part.new.self) c.parts.line.items c.take_part.new.line.items
    c.parts.invariant c.in_default.ensures.0 (rw c.in-Ok-false.field-0-test at c.in-Ok-false.ensures)

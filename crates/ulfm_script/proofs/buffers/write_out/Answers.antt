use Rattle.std.proofs.Common.{arith, refl, ◌-◌, length, drop}
use Rattle.std.proofs.lemmas.List.{length-take, length-drop}
use Rattle.ulfm_script.proofs.ByteLemmas.{appends_more, writes_part, writes_more}
use Rattle.ulfm_script.proofs.buffers.write_out.Goals as goal

pub returns-in-Ok-eq0 : goal.returns-in-Ok-eq0
returns-in-Ok-eq0 g c =
    let k = g.W.Write.contents in
    (refl, writes_more (k c.args.writer.now) (k c.loop-written.writer) (k c.write.new.self) c.args.bytes.now c.loop-written.written c.in-Ok-eq0.field-0 c.loop-written.invariant.bytes c.in-Ok-eq0.ensures.bytes)

pub loop-written-preserved : goal.loop-written-preserved
loop-written-preserved g c =
    let k = g.W.Write.contents in
    record {
      within = omega (arith, c.in-Ok.ensures.bound, length-take (length c.args.bytes.now - c.loop-written.written) (drop c.loop-written.written c.args.bytes.now), length-drop c.loop-written.written c.args.bytes.now);
      bytes = appends_more (k c.args.writer.now) (k c.loop-written.writer) (k c.write.new.self) c.args.bytes.now c.loop-written.written c.in-Ok.count c.loop-written.invariant.bytes c.in-Ok.ensures.bytes;
    }

pub returns-in-Err : goal.returns-in-Err
returns-in-Err g c =
    let k = g.W.Write.contents in
    (refl, writes_part (k c.args.writer.now) (k c.loop-written.writer) (k c.write.new.self) c.args.bytes.now c.loop-written.written c.loop-written.invariant.bytes c.in-Err.ensures.bytes)

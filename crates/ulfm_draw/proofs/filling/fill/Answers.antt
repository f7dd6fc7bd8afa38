use Rattle.std.proofs.Common.{inl, refl, arith}
use Rattle.ulfm_draw.proofs.{Filled.{filled_all, filled_more, one_more_at_most}, Reading.{filled_on}}
use Rattle.ulfm_draw.proofs.filling.fill.Goals as goal

pub loop-byte-init : goal.loop-byte-init
loop-byte-init g c = (λ place. inl refl, refl, omega arith)

pub loop-byte-preserved : goal.loop-byte-preserved
loop-byte-preserved g c =
    let less = c.loop-byte-test.true in
    let filling = c.args.filling.now in (
      filled_on c.args.text.now.items c.loop-byte.text.items c.put_byte.new.text.items c.args.template.now c.loop-byte.byte-index (omega arith)
          c.loop-byte.invariant.0 c.in_ok-put_byte.ensures.reads,
      filled_more filling.class.now filling.numbers.now filling.words.now c.loop-byte.text.items c.put_byte.new.text.items _ c.args.template.now c.loop-byte.next
          c.put_byte.new.next c.loop-byte.byte-index (omega arith) c.loop-byte.invariant.1 c.in_ok-put_byte.ensures.filled c.in_ok-put_byte.ensures.next,
      one_more_at_most _ c.loop-byte.next c.put_byte.new.next c.loop-byte.byte-index c.in_ok-put_byte.ensures.next c.loop-byte.invariant.2,
    )

pub returns-clause-filled : goal.returns-clause-filled
returns-clause-filled g c =
    filled_all _ _ _ c.loop-byte.text.items _ c.args.template.now c.loop-byte.next c.loop-byte.byte-index (omega (arith, c.loop-byte-test.false)) c.loop-byte.invariant.1

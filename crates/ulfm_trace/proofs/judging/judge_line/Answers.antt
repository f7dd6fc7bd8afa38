use Rattle.std.proofs.Common.{◌≤◌, [], refl, arith}
use Rattle.ulfm_trace.proofs.Checking.{judged}
use Rattle.ulfm_trace.proofs.judging.judge_line.Goals as goal

pub returns-in-Some : goal.returns-in-Some
returns-in-Some g c = λ now stands.
    let tells = rw c.in-Some.is at c.read_look.ensures.found in
    let few : c.args.number ≤ 5000000 = omega (arith, c.if-number-gt-LAST_LINE.false) in
    judged now c.args.number c.args.line.now [] [] c.in-Some.look (g.J.LineJudge.Stands c.take.new.self) c.take.result few tells refl (c.take.ensures now stands)

pub returns-in-Some-read_begin : goal.returns-in-Some-read_begin
returns-in-Some-read_begin g c = λ now stands.
    let tells = rw c.in-Some-read_begin.is at c.read_begin.ensures.found in
    let few : c.args.number ≤ 5000000 = omega (arith, c.if-number-gt-LAST_LINE.false) in
    judged now c.args.number c.args.line.now [] [] c.in-Some-read_begin.call (g.J.LineJudge.Stands c.take-in-Some-read_begin.new.self) c.take-in-Some-read_begin.result few tells refl (c.take-in-Some-read_begin.ensures now stands)

pub returns-in-Some-read_happening : goal.returns-in-Some-read_happening
returns-in-Some-read_happening g c = λ now stands.
    let tells = rw c.in-Some-read_happening.is at c.read_happening.ensures.found in
    let few : c.args.number ≤ 5000000 = omega (arith, c.if-number-gt-LAST_LINE.false) in
    judged now c.args.number c.args.line.now [] [] c.in-Some-read_happening.event (g.J.LineJudge.Stands c.take-in-Some-read_happening.new.self) c.take-in-Some-read_happening.result few tells refl (c.take-in-Some-read_happening.ensures now stands)

pub returns-in-Some-2 : goal.returns-in-Some-2
returns-in-Some-2 g c = λ now stands.
    let tells = rw c.in-Some-2.is at c.in_ok-told.ensures.found in
    let few : c.args.number ≤ 5000000 = omega (arith, c.if-number-gt-LAST_LINE.false) in
    judged now c.args.number c.args.line.now c.read_line.new.group.items c.deref.result.now c.in-Some-2.told (g.J.LineJudge.Stands c.take-in-Some-2.new.self) c.take-in-Some-2.result few tells c.deref.ensures.value
    (c.take-in-Some-2.ensures now stands)

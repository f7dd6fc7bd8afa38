use Rattle.std.proofs.Common.{◌≡◌, ◌∙◌, ◌+◌, ◌-◌, sym, arith}
use Rattle.ulfm_explore.specs.Readings.{gone_on}
use Rattle.ulfm_explore.specs.Views.{reached}
use Rattle.ulfm_explore.proofs.Steps.{goes_further}
use Rattle.ulfm_explore.proofs.reading.Reading.go_on.Goals as goal

pub loop-number-preserved : goal.loop-number-preserved
loop-number-preserved g c =
    let left = c.most_moves-most.result - (c.loop-number.number + 1) in
    let more : c.most_moves-most.result - c.loop-number.number ≡ left + 1 = omega arith in
    goes_further
    c.args.program.now
    c.args.rank
    (c.most_moves-most.result - c.loop-number.number)
    left
    (reached c.loop-number.self)
    (reached c.make.new.self)
    (gone_on c.args.program.now c.args.rank (reached c.args.self.now))
    c.next_move-next.result
    more
    c.next_move-next.ensures
    (sym c.is_on.ensures ∙ c.if-not-is_on.false)
    c.in_ok-make.ensures
    c.loop-number.invariant

use Rattle.std.proofs.Common.{arith, rules, ◌<◌, ◌-◌}
use Rattle.ulfm_words.proofs.Reading.{listed}
use Rattle.ulfm_words.proofs.accesses.load_failure.Goals as goal

pub overflow_cast-result : goal.overflow_cast-result
overflow_cast-result g c =
    let of = c.load-word.ensures.loads.of in
    let there = listed g.P.Meld.meld g.P.Packed.pack (g.W.Words.name c.args.words.now).limits (g.W.Words.sight c.load-word.new.pass).seen c.args.index c.load-word.result of.legal c.load-word.ensures.word c.if-word-eq0.false in
    let below : c.load-word.result - 1 < 65536 = omega (arith, there.1, of.may_open.in_range.ranks) in
    search rules

pub returns-clause-below : goal.returns-clause-below
returns-clause-below g c =
    (listed g.P.Meld.meld g.P.Packed.pack (g.W.Words.name c.args.words.now).limits (g.W.Words.sight c.load-word.new.pass).seen c.args.index c.load-word.result c.load-word.ensures.loads.of.legal c.load-word.ensures.word c.if-word-eq0.false).1

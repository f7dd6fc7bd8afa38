use Rattle.std.proofs.Common.{arith, rules, sym, ◌<◌, ◌-◌, ◌/◌}
use Rattle.ulfm_words.proofs.Reading.{made_is}
use Rattle.ulfm_words.proofs.accesses.load_comm.Goals as goal

pub overflow_cast-result : goal.overflow_cast-result
overflow_cast-result g c =
    let of = c.load-word.ensures.loads.of in
    let there = made_is g.P.Meld.meld g.P.Packed.pack (g.W.Words.name c.args.words.now).limits (g.W.Words.sight c.load-word.new.pass).seen c.args.comm c.load-word.result of.legal of.may_open c.load-word.ensures.word c.if-word-eq0.false in
    let below : (c.load-word.result - 1) / 4096 < 65536 = omega (arith, there.1) in
    search rules

pub returns-clause-made : goal.returns-clause-made
returns-clause-made g c =
    let of = c.load-word.ensures.loads.of in
    sym (made_is g.P.Meld.meld g.P.Packed.pack (g.W.Words.name c.args.words.now).limits (g.W.Words.sight c.load-word.new.pass).seen c.args.comm c.load-word.result of.legal of.may_open c.load-word.ensures.word c.if-word-eq0.false).0

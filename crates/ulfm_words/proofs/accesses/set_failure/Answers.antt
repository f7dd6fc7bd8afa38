use Rattle.std.proofs.Common.{arith, rules, sym, ◌-◌, ◌<◌}
use Rattle.ulfm_words.proofs.{Reading.{listed}, Setting.{may_declare}}
use Rattle.ulfm_words.proofs.accesses.set_failure.Goals as goal

pub set_once-requires-clause-may : goal.set_once-requires-clause-may
set_once-requires-clause-may g c =
    rw c.from.ensures
    (may_declare g.P.Meld.meld g.P.Packed.pack g.P.Packed.unpack (g.W.Words.name c.args.words.now).limits (g.W.Words.sight c.args.pass.now).seen c.args.by c.args.index c.args.rank c.requires.may)

pub overflow_cast-result : goal.overflow_cast-result
overflow_cast-result g c =
    let of = c.set_once.ensures.of in
    let lost = c.in-Err.ensures.outcome in
    let there = listed g.P.Meld.meld g.P.Packed.pack (g.W.Words.name c.args.words.now).limits (g.W.Words.sight c.set_once.new.pass).seen c.args.index c.in-Err.word of.legal (sym lost.stands) (omega (arith, lost.some)) in
    let below : c.in-Err.word - 1 < 65536 = omega (arith, there.1, of.may_open.in_range.ranks) in
    search rules

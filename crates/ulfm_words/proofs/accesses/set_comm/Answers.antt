use Rattle.std.proofs.Common.{arith, rules, sym, ◌≡◌, ◌+◌, ◌*◌, ◌-◌, ◌/◌, ◌%◌, ◌<◌}
use Rattle.ulfm_words.proofs.{Reading.{made_is}, Setting.{made_parts, may_make}}
use Rattle.ulfm_words.proofs.accesses.set_comm.Goals as goal

pub set_once-requires-clause-may : goal.set_once-requires-clause-may
set_once-requires-clause-may g c =
    let small : c.args.round < 4096 = omega (arith, c.requires.round, c.requires.of.may_open.in_range.rounds) in
    rw (c.from.ensures, c.from-2.ensures)
    (may_make g.P.Meld.meld g.P.Packed.pack g.P.Packed.unpack (g.W.Words.name c.args.words.now).limits (g.W.Words.sight c.args.pass.now).seen c.args.by c.args.comm c.args.parent c.args.round small c.requires.may)

pub overflow_cast-result : goal.overflow_cast-result
overflow_cast-result g c =
    let of = c.set_once.ensures.of in
    let lost = c.in-Err.ensures.outcome in
    let there = made_is g.P.Meld.meld g.P.Packed.pack (g.W.Words.name c.args.words.now).limits (g.W.Words.sight c.set_once.new.pass).seen c.args.comm c.in-Err.word of.legal of.may_open (sym lost.stands) (omega (arith, lost.some)) in
    let below : (c.in-Err.word - 1) / 4096 < 65536 = omega (arith, there.1) in
    search rules

pub returns-in-Ok-clause-stands : goal.returns-in-Ok-clause-stands
returns-in-Ok-clause-stands g c =
    let of = c.set_once.ensures.of in
    let word = c.in-Ok.ensures.outcome.stands in
    let small : c.args.round < 4096 = omega (arith, c.requires.round, c.requires.of.may_open.in_range.rounds) in
    let there = made_is g.P.Meld.meld g.P.Packed.pack (g.W.Words.name c.args.words.now).limits (g.W.Words.sight c.set_once.new.pass).seen c.args.comm _ of.legal of.may_open (sym word) (omega arith) in
    let parts = made_parts c.args.parent c.args.round small in
    let first : (1 + c.from.result * 4096 + c.from-2.result - 1) / 4096 ≡ c.args.parent = rw (c.from.ensures, c.from-2.ensures) parts.0 in
    let second : (1 + c.from.result * 4096 + c.from-2.result - 1) % 4096 ≡ c.args.round = rw (c.from.ensures, c.from-2.ensures) parts.1 in
    rw (← first, ← second) there.0

pub returns-in-Err-clause-stands : goal.returns-in-Err-clause-stands
returns-in-Err-clause-stands g c =
    let of = c.set_once.ensures.of in
    let lost = c.in-Err.ensures.outcome in
    (made_is g.P.Meld.meld g.P.Packed.pack (g.W.Words.name c.args.words.now).limits (g.W.Words.sight c.set_once.new.pass).seen c.args.comm c.in-Err.word of.legal of.may_open (sym lost.stands) (omega (arith, lost.some))).0

use Rattle.std.proofs.Common.{false, refl, inl, arith}
use Rattle.ulfm_laws.specs.Flags.{flag_meld}
use Rattle.ulfm_model.specs.declared.{call.Call.TheVariants.{Shrink}, reply.Reply.TheVariants.{Refused, Started}}
use Rattle.ulfm_wait.specs.Members.{MemberCalls, setting_of}
use Rattle.ulfm_wait.specs.Turns.{member_of}
use Rattle.ulfm_race.specs.Races.{IsKeptReply, flag_pack, flag_words}
use Rattle.ulfm_race.proofs.{Turns.{if_ok, shrink_answered, shrink_refused}, Working.{made_so, turn_answered, turn_held}}
use Rattle.ulfm_race.proofs.worker.shrink.Goals as goal

pub returns-in-Ok-polled-clause-says : goal.returns-in-Ok-polled-clause-says
returns-in-Ok-polled-clause-says g c =
    if_ok (IsKeptReply c.in-Ok-polled.answer) _
    (λ reply kept plan said same ready. shrink_answered plan (flag_words c.args.world.now) same plan.rounds (omega arith) c.args.rank.now.own c.args.pass.now c.requires.own.of c.requires.own.fits said ready refl c.ishrink-started.new.self.own c.ishrink-started.new.pass c.in-Ok.ensures.calls c.polled.new.rank.own c.polled.new.pass c.in-Ok-polled.answer reply c.in-Ok-polled.ensures.polls kept)
    c.reply_from.result c.reply_from.ensures.kept

pub returns-in-Err-clause-says : goal.returns-in-Err-clause-says
returns-in-Err-clause-says g c plan said same ready =
    shrink_refused plan (flag_words c.args.world.now) same plan.rounds (omega arith) c.args.rank.now.own c.args.pass.now c.requires.own.of c.requires.own.fits said ready c.in-Err.refusal c.ishrink-started.new.self.own c.ishrink-started.new.pass c.in-Err.ensures.calls

pub returns-in-Ok-polled-clause-turn : goal.returns-in-Ok-polled-clause-turn
returns-in-Ok-polled-clause-turn g c =
    let old = member_of c.args.world.now c.args.rank.now c.args.pass.now in
    let mid = member_of c.args.world.now c.ishrink-started.new.self c.ishrink-started.new.pass in
    turn_answered _ old mid (member_of c.args.world.now c.polled.new.rank c.polled.new.pass) c.in-Ok-polled.answer c.reply_from.result
    (made_so refl old mid refl c.in-Ok.ensures.calls c.in-Ok.ensures.steps) c.in-Ok-polled.ensures.counted c.reply_from.ensures.kept c.reply_from.ensures.stops

pub returns-in-Err-polled-clause-turn : goal.returns-in-Err-polled-clause-turn
returns-in-Err-polled-clause-turn g c =
    let old = member_of c.args.world.now c.args.rank.now c.args.pass.now in
    let mid = member_of c.args.world.now c.ishrink-started.new.self c.ishrink-started.new.pass in
    turn_held _ old mid (member_of c.args.world.now c.polled.new.rank c.polled.new.pass) c.in-Err-polled.fault
    (made_so refl old mid refl c.in-Ok.ensures.calls c.in-Ok.ensures.steps) c.in-Err-polled.ensures.pends c.in-Err-polled.ensures.stops.0

pub returns-in-Err-clause-turn : goal.returns-in-Err-clause-turn
returns-in-Err-clause-turn g c =
    let old = member_of c.args.world.now c.args.rank.now c.args.pass.now in
    inl (c.in-Err.refusal, refl, made_so refl old (member_of c.args.world.now c.ishrink-started.new.self c.ishrink-started.new.pass) refl c.in-Err.ensures.calls c.in-Err.ensures.steps)

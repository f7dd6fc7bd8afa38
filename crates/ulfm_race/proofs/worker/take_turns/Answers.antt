use Rattle.std.proofs.Common.{Err}
use Rattle.ulfm_wait.specs.Turns.{member_of}
use Rattle.ulfm_race.proofs.Working.{kept_turn, lost_turn, next_turn, shrink_asked}
use Rattle.ulfm_race.proofs.worker.take_turns.Goals as goal

pub returns-in-Ok-keep-clause-turns : goal.returns-in-Ok-keep-clause-turns
returns-in-Ok-keep-clause-turns g c =
    let name = c.args.world.now in
    let ready = rw c.in-Ok-true.field-0-test at c.in-Ok-true.ensures.says in
    kept_turn ready (shrink_asked ready) (member_of name c.args.worker.now.rank c.args.worker.now.pass) (member_of name c.agree_all.new.worker.rank c.agree_all.new.worker.pass)
    (member_of name c.shrink.new.rank c.shrink.new.pass) c.in-Ok.reply _ c.in-Ok-keep.ensures.kept c.in-Ok-true.ensures.turns c.in-Ok.ensures.turn

pub returns-in-Err-keep-clause-turns : goal.returns-in-Err-keep-clause-turns
returns-in-Err-keep-clause-turns g c =
    let name = c.args.world.now in
    let ready = rw c.in-Ok-true.field-0-test at c.in-Ok-true.ensures.says in
    let before = member_of name c.agree_all.new.worker.rank c.agree_all.new.worker.pass in
    lost_turn ready (shrink_asked ready) (member_of name c.args.worker.now.rank c.args.worker.now.pass) before (member_of name c.shrink.new.rank c.shrink.new.pass) c.in-Ok.reply c.in-Err-keep.fault _
    c.in-Err-keep.ensures.lost c.in-Err-keep.ensures.stops c.in-Ok-true.ensures.turns c.in-Ok.ensures.turn

pub returns-in-Err-shrink-clause-turns : goal.returns-in-Err-shrink-clause-turns
returns-in-Err-shrink-clause-turns g c =
    let ready = rw c.in-Ok-true.field-0-test at c.in-Ok-true.ensures.says in
    let start = member_of c.args.world.now c.args.worker.now.rank c.args.worker.now.pass in
    let before = member_of c.args.world.now c.agree_all.new.worker.rank c.agree_all.new.worker.pass in
    next_turn ready (shrink_asked ready) start before (member_of c.args.world.now c.shrink.new.rank c.shrink.new.pass) (Err c.in-Err-shrink.fault) c.in-Ok-true.ensures.turns c.in-Err-shrink.ensures.turn

use Rattle.std.proofs.Common.{◌∙◌, arith, get_or, subst, sym}
use Rattle.std.proofs.lemmas.List.{set-get_or}
use Rattle.ulfm_lines.specs.{Progress.{GoesFar}, Walked.{TellsSteps}}
use Rattle.ulfm_run.specs.Table.{StandsFor, progress_of}
use Rattle.std.proofs.lemmas.Option.{slice_get-get_or}
use Rattle.ulfm_run.proofs.{Goes.{goes_nowhere, goes_until, no_seat, no_step}, LineTells.{closed_there, no_call, nobody_open, none_tell, sits_there, until_tells}}
use Rattle.ulfm_run.proofs.step_lines.walk_rank.Goals as goal

pub returns-then-rank-seats-clause-tells : goal.returns-then-rank-seats-clause-tells
returns-then-rank-seats-clause-tells g c = λ now stands.
    let name = c.args.world.now in
    none_tell name c.args.pass.now c.args.seats.now now stands c.args.rank c.args.reach c.args.teller.now.text.items c.has_room.ensures
    (nobody_open name c.args.pass.now c.args.seats.now now stands c.args.rank (omega (arith, c.if-rank-seats.true, stands.size)))

pub returns-then-not-is_open-clause-tells : goal.returns-then-not-is_open-clause-tells
returns-then-not-is_open-clause-tells g c = λ now stands.
    let name = c.args.world.now in
    let seat = get_or c.args.seats.now c.args.rank c.index-seats-rank.result in
    let there = slice_get-get_or c.args.seats.now c.args.rank c.index-seats-rank.result (omega (arith, c.if-rank-seats.false)) in
    let closed = closed_there name c.args.pass.now c.args.seats.now now stands c.args.rank seat there (no_call _ (sym c.is_open.ensures ∙ c.if-not-is_open.true)) in
    subst (λ ss. TellsSteps (StandsFor name c.args.pass.now ss) now c.args.rank c.args.reach 0 c.args.teller.now.text.items c.args.teller.now.text.items)
    (sym (set-get_or c.args.seats.now c.args.rank c.index-seats-rank.result))
    (none_tell name c.args.pass.now c.args.seats.now now stands c.args.rank c.args.reach c.args.teller.now.text.items c.has_room.ensures closed)

pub walk_until-requires-clause-sits : goal.walk_until-requires-clause-sits
walk_until-requires-clause-sits g c = (
  c.requires.stands.0,
  sits_there c.args.world.now c.args.pass.now c.args.seats.now c.requires.stands.0 c.requires.stands.1 c.args.rank c.index-seats-rank.result (omega (arith, c.if-rank-seats.false)),
)

pub returns-clause-tells : goal.returns-clause-tells
returns-clause-tells g c = λ now stands.
    let name = c.args.world.now in
    let seat = get_or c.args.seats.now c.args.rank c.index-seats-rank.result in
    let there = slice_get-get_or c.args.seats.now c.args.rank c.index-seats-rank.result (omega (arith, c.if-rank-seats.false)) in
    until_tells name c.args.pass.now c.args.seats.now now stands c.args.rank seat there c.walk_until.new.pass c.walk_until.new.seat c.walk_until.ensures.of
    c.args.teller.now.text.items c.walk_until.new.teller.text.items c.args.reach c.in_ok-made.made c.in_ok-made.ensures.walks (sym c.is_open.ensures ∙ c.if-not-is_open.false) c.has_room-2.ensures

pub returns-then-rank-seats-clause-goes : goal.returns-then-rank-seats-clause-goes
returns-then-rank-seats-clause-goes g c =
    goes_nowhere c.args.pass.now c.args.seats.now c.args.rank c.args.reach (no_seat c.args.pass.now c.args.seats.now c.args.rank c.args.reach c.if-rank-seats.true)

pub returns-then-not-is_open-clause-goes : goal.returns-then-not-is_open-clause-goes
returns-then-not-is_open-clause-goes g c =
    subst (λ ss. GoesFar (progress_of c.args.pass.now c.args.seats.now) (progress_of c.args.pass.now ss) c.args.rank c.args.reach 0)
    (sym (set-get_or c.args.seats.now c.args.rank c.index-seats-rank.result))
    (goes_nowhere c.args.pass.now c.args.seats.now c.args.rank c.args.reach
    (no_step c.args.pass.now c.args.seats.now c.args.rank c.args.reach c.index-seats-rank.result (omega (arith, c.if-rank-seats.false)) (no_call _ (sym c.is_open.ensures ∙ c.if-not-is_open.true))))

pub returns-clause-goes : goal.returns-clause-goes
returns-clause-goes g c =
    goes_until c.args.pass.now c.args.seats.now c.args.rank c.args.reach c.in_ok-made.made c.args.world.now (get_or c.args.seats.now c.args.rank c.index-seats-rank.result)
    c.args.teller.now.text.items c.walk_until.new.pass c.walk_until.new.seat c.walk_until.new.teller.text.items (omega (arith, c.if-rank-seats.false)) c.in_ok-made.ensures.walks

use Rattle.std.proofs.Common.{◌∙◌, ap, arith, get_or, subst, sym}
use Rattle.std.proofs.lemmas.List.{set-get_or}
use Rattle.ulfm_model.specs.declared.event.Caller.TheVariants.{Rank}
use Rattle.ulfm_run.specs.Table.{StandsFor}
use Rattle.ulfm_run.proofs.LineTells.{begin_tells, by_its_rank, no_call, number_there, open_tells, unknown_tells}
use Rattle.std.proofs.lemmas.Option.{slice_get-get_or}
use Rattle.ulfm_run.proofs.step_lines.run_call.Goals as goal

pub returns-then-rank-seats-clause-tells : goal.returns-then-rank-seats-clause-tells
returns-then-rank-seats-clause-tells g c = λ now stands.
    let name = c.args.world.now in
    unknown_tells name c.args.pass.now c.args.seats.now now stands c.rank_of-rank.result c.args.asked c.args.padded (omega (arith, c.if-rank-seats.true, stands.size)) (by_its_rank c.args.asked c.requires.by_rank ∙ ap Rank (sym c.rank_of-rank.ensures))
    c.args.teller.now.text.items c.tell_unknown.new.teller.text.items (rw c.count.ensures at c.in_ok-tell_unknown.ensures)

pub returns-then-is_open-clause-tells : goal.returns-then-is_open-clause-tells
returns-then-is_open-clause-tells g c = λ now stands.
    let name = c.args.world.now in
    open_tells name c.args.pass.now c.args.seats.now now stands c.rank_of-rank.result (get_or c.args.seats.now c.rank_of-rank.result c.index-seats-rank.result)
    (slice_get-get_or c.args.seats.now c.rank_of-rank.result c.index-seats-rank.result (omega (arith, c.if-rank-seats.false))) c.args.asked c.args.padded c.args.teller.now.text.items c.args.seats.now (by_its_rank c.args.asked c.requires.by_rank ∙ ap Rank (sym c.rank_of-rank.ensures))
    (sym c.is_open.ensures ∙ c.if-is_open.true)

pub begin_at-requires-clause-mine : goal.begin_at-requires-clause-mine
begin_at-requires-clause-mine g c =
    let name = c.args.world.now in
    by_its_rank c.args.asked c.requires.by_rank
    ∙ ap Rank (sym c.rank_of-rank.ensures ∙ sym (number_there name c.args.pass.now c.args.seats.now c.requires.stands.0 c.requires.stands.1 c.rank_of-rank.result c.index-seats-rank.result (omega (arith, c.if-rank-seats.false))))

pub begin_at-requires-clause-closed : goal.begin_at-requires-clause-closed
begin_at-requires-clause-closed g c = no_call _ (sym c.is_open.ensures ∙ c.if-is_open.false)

pub returns-clause-tells : goal.returns-clause-tells
returns-clause-tells g c = λ now stands.
    let name = c.args.world.now in
    begin_tells name c.args.pass.now c.args.seats.now now stands c.rank_of-rank.result (get_or c.args.seats.now c.rank_of-rank.result c.index-seats-rank.result)
    (slice_get-get_or c.args.seats.now c.rank_of-rank.result c.index-seats-rank.result (omega (arith, c.if-rank-seats.false))) c.args.asked c.args.padded c.begin_at.new.seat c.args.teller.now.text.items c.begin_at.new.teller.text.items
    (by_its_rank c.args.asked c.requires.by_rank
    ∙ ap Rank (sym c.rank_of-rank.ensures ∙ sym (number_there name c.args.pass.now c.args.seats.now now stands c.rank_of-rank.result c.index-seats-rank.result (omega (arith, c.if-rank-seats.false)))))
    c.in_ok-begin_at.ensures

pub returns-then-rank-seats-clause-stands : goal.returns-then-rank-seats-clause-stands
returns-then-rank-seats-clause-stands g c =
    let now = c.requires.stands.0 in
    let stands = c.requires.stands.1 in
    let name = c.args.world.now in
    let t =
    unknown_tells name c.args.pass.now c.args.seats.now now stands c.rank_of-rank.result c.args.asked c.args.padded (omega (arith, c.if-rank-seats.true, stands.size)) (by_its_rank c.args.asked c.requires.by_rank ∙ ap Rank (sym c.rank_of-rank.ensures))
    c.args.teller.now.text.items c.tell_unknown.new.teller.text.items (rw c.count.ensures at c.in_ok-tell_unknown.ensures) in
    (t.1, t.3)

pub returns-clause-stands : goal.returns-clause-stands
returns-clause-stands g c =
    let now = c.requires.stands.0 in
    let stands = c.requires.stands.1 in
    let name = c.args.world.now in
    let t =
    begin_tells name c.args.pass.now c.args.seats.now now stands c.rank_of-rank.result (get_or c.args.seats.now c.rank_of-rank.result c.index-seats-rank.result)
    (slice_get-get_or c.args.seats.now c.rank_of-rank.result c.index-seats-rank.result (omega (arith, c.if-rank-seats.false))) c.args.asked c.args.padded c.begin_at.new.seat c.args.teller.now.text.items c.begin_at.new.teller.text.items
    (by_its_rank c.args.asked c.requires.by_rank
    ∙ ap Rank (sym c.rank_of-rank.ensures ∙ sym (number_there name c.args.pass.now c.args.seats.now now stands c.rank_of-rank.result c.index-seats-rank.result (omega (arith, c.if-rank-seats.false)))))
    c.in_ok-begin_at.ensures in
    (t.1, t.3)

pub returns-then-is_open-clause-stands : goal.returns-then-is_open-clause-stands
returns-then-is_open-clause-stands g c = (
  c.requires.stands.0,
  subst (λ ss. StandsFor c.args.world.now c.args.pass.now ss c.requires.stands.0) (sym (set-get_or c.args.seats.now c.rank_of-rank.result c.index-seats-rank.result)) c.requires.stands.1,
)

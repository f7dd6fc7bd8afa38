use Rattle.std.proofs.Common.{length, take, ap, sym, ◌∙◌, arith, vec_capacity}
use Rattle.ulfm_words.specs.Steps.{over}
use Rattle.ulfm_model.specs.declared.reply.Reply.TheVariants.{FailedGroup}
use Rattle.ulfm_model.specs.History.{failed}
use Rattle.ulfm_comm.specs.Queries.{query}
use Rattle.std.specs.Prelude.{Err}
use Rattle.ulfm_run.proofs.{Lacking.{keeps_set}, Querying.{few_listed, first_listed, lacks_listed, query_by}}
use Rattle.ulfm_run.proofs.Jobs.{ranked_begins, ranked_fits, ranked_job, ranked_missing, ranked_refused, ranked_step}
use Rattle.ulfm_run.proofs.job.get_by.Goals as goal

pub returns-then-rank-ranks-clause-step : goal.returns-then-rank-ranks-clause-step
returns-then-rank-ranks-clause-step g c =
    ranked_missing g.P.Meld.meld g.W.Words.alone (over g.P.Packed.pack c.args.world.now) (g.W.Words.sight c.args.pass.now) c.args.ranks.now c.requires
    (query c.args.acked c.args.rank c.args.comm) c.args.rank (query_by _ c.args.acked c.args.rank c.args.comm) (omega (arith, c.if-rank-ranks.true))

pub ask-requires-clause-fits : goal.ask-requires-clause-fits
ask-requires-clause-fits g c =
    ranked_fits g.P.Meld.meld g.W.Words.alone (over g.P.Packed.pack c.args.world.now) (g.W.Words.sight c.args.pass.now) c.args.ranks.now c.requires c.args.rank
    c.index-ranks-rank.result (omega (arith, c.if-rank-ranks.false))

pub overflow_cast-result : goal.overflow_cast-result
overflow_cast-result g c =
    let few = few_listed (over g.P.Packed.pack c.args.world.now) c.ask.new.own.own (g.W.Words.sight c.ask.new.pass) c.args.comm g.P.Meld.meld
    c.in-Ok.ensures.gets.linearizes.of c.args.acked c.ask.new.found.items c.in-Ok.ensures.group in
    let small = c.requires.of.may_open.in_range.ranks in
    let count = ap length c.as_slice.ensures.value in
    omega (arith, few, small, count)

pub returns-in-Ok : goal.returns-in-Ok
returns-in-Ok g c =
    let answered = ranked_step g.P.Meld.meld g.W.Words.alone (over g.P.Packed.pack c.args.world.now) (g.W.Words.sight c.args.pass.now) c.args.ranks.now
    c.requires c.args.rank c.index-ranks-rank.result (omega (arith, c.if-rank-ranks.false))
    c.ask.new.own (g.W.Words.sight c.ask.new.pass) (λ r. query c.args.acked r c.args.comm) (FailedGroup (length c.as_slice.result.now)) (query_by _ c.args.acked c.args.rank c.args.comm)
    (rw (← c.as_slice.ensures.value) at c.in-Ok.ensures.gets) in
    let first = first_listed (over g.P.Packed.pack c.args.world.now) c.ask.new.own.own (g.W.Words.sight c.ask.new.pass) c.args.comm c.args.acked
    c.ask.new.found.items c.in-Ok.ensures.group in
    let about = first ∙ ap (λ xs. take (length xs) (failed c.args.world.now.limits.ranks (g.W.Words.sight c.ask.new.pass).seen c.args.comm))
    (sym c.as_slice.ensures.value) in
    record { step = answered; job = answered.job; begins = answered.begins; about = about; memory = tt; kept = tt; group = tt }

pub returns-in-OutOfMemory-clause-job : goal.returns-in-OutOfMemory-clause-job
returns-in-OutOfMemory-clause-job g c =
    ranked_job g.P.Meld.meld g.W.Words.alone (over g.P.Packed.pack c.args.world.now) (g.W.Words.sight c.args.pass.now) c.args.ranks.now c.requires c.args.rank
    c.index-ranks-rank.result (omega (arith, c.if-rank-ranks.false))
    c.ask.new.own (g.W.Words.sight c.ask.new.pass) _ (rw c.in-OutOfMemory.is at c.in-Err.ensures.gets)

pub returns-in-OutOfMemory-clause-begins : goal.returns-in-OutOfMemory-clause-begins
returns-in-OutOfMemory-clause-begins g c =
    ranked_begins g.P.Meld.meld g.W.Words.alone (over g.P.Packed.pack c.args.world.now) (g.W.Words.sight c.args.pass.now) c.args.ranks.now c.requires
    c.args.rank c.index-ranks-rank.result (omega (arith, c.if-rank-ranks.false))
    c.ask.new.own (g.W.Words.sight c.ask.new.pass) _ (rw c.in-OutOfMemory.is at c.in-Err.ensures.gets)

pub returns-in-OutOfMemory-clause-memory : goal.returns-in-OutOfMemory-clause-memory
returns-in-OutOfMemory-clause-memory g c =
    let out = rw c.in-OutOfMemory.is at c.in-Err.ensures.gets in
    lacks_listed g.P.Meld.meld g.W.Words.alone (over g.P.Packed.pack c.args.world.now) (g.W.Words.sight c.args.pass.now) c.args.ranks.now c.requires
    c.args.rank c.index-ranks-rank.result (omega (arith, c.if-rank-ranks.false)) c.ask.new.own.own (g.W.Words.sight c.ask.new.pass)
    out.ran_out.run_out.record_is c.args.acked c.args.comm (vec_capacity c.args.found.now) (c.in-Err.ensures.memory (ap Err c.in-OutOfMemory.is))

pub returns-in-OutOfMemory-clause-kept : goal.returns-in-OutOfMemory-clause-kept
returns-in-OutOfMemory-clause-kept g c =
    let out = rw c.in-OutOfMemory.is at c.in-Err.ensures.gets in keeps_set c.args.ranks.now c.args.rank c.index-ranks-rank.result c.ask.new.own
    out.ran_out.run_out.record_is

pub returns-in_default : goal.returns-in_default
returns-in_default g c =
    let refused = ranked_refused g.P.Meld.meld g.W.Words.alone (over g.P.Packed.pack c.args.world.now) (g.W.Words.sight c.args.pass.now) c.args.ranks.now
    c.requires c.args.rank c.index-ranks-rank.result (omega (arith, c.if-rank-ranks.false))
    c.ask.new.own (g.W.Words.sight c.ask.new.pass) (λ r. query c.args.acked r c.args.comm) c.in-Err.refusal (query_by _ c.args.acked c.args.rank c.args.comm) c.in_default.not-OutOfMemory
    c.in-Err.ensures.gets in
    record { step = refused; job = refused.job; begins = refused.begins; about = c.in-Err.ensures.kept; memory = tt; kept = tt; group = tt }

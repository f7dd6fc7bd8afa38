use Rattle.std.proofs.Common.{sym, subst, map}
use Rattle.std.specs.Prelude.{IfOk}
use Rattle.ulfm_model.specs.declared.call.Call.TheVariants.{Fail}
use Rattle.ulfm_object.specs.Objects.{TakesStep, state_of}
use Rattle.ulfm_model.specs.Kept.{record_of}
use Rattle.ulfm_object.proofs.Answering.{few_here, is_next, log_kept, numbers_of, stays_sound, takes_step}
use Rattle.ulfm_object.proofs.object.take_step.Goals as goal

pub answer-requires : goal.answer-requires
answer-requires g c =
    let meld = g.P.Meld.meld in
    let log = c.args.log.now.items in
    let records = c.args.records.now in
    let asked = c.args.asked.now in record {
      may = c.requires.may;
      few = few_here meld c.args.limits log records asked c.requires.may c.requires.sound;
      numbers = numbers_of meld c.args.limits log records asked c.requires.may c.requires.sound;
    }

pub returns-in-Fail-clause-sound : goal.returns-in-Fail-clause-sound
returns-in-Fail-clause-sound g c =
    let meld = g.P.Meld.meld in
    let log = c.args.log.now.items in
    let records = c.args.records.now in
    let after = c.declare.new.log.items in
    stays_sound meld c.args.limits log records (Fail c.in-Fail.rank) c.requires.may c.requires.sound (state_of c.args.limits after records) c.declare.result
    (c.declare.ensures.ok (map (record_of c.args.limits) records)) (log_kept meld c.args.limits log records (Fail c.in-Fail.rank) after c.declare.result c.declare.ensures.err)

pub returns-in-Fail-clause-step : goal.returns-in-Fail-clause-step
returns-in-Fail-clause-step g c =
    let meld = g.P.Meld.meld in
    let log = c.args.log.now.items in
    let records = c.args.records.now in
    let new = state_of c.args.limits c.declare.new.log.items records in
    subst (λ w. IfOk c.declare.result (TakesStep meld (state_of c.args.limits log records) w new)) (sym c.in-Fail.is)
    (takes_step meld c.args.limits log records (Fail c.in-Fail.rank) c.requires.may c.requires.sound new c.declare.result (c.declare.ensures.ok (map (record_of c.args.limits) records)))

pub returns-in_default : goal.returns-in_default
returns-in_default g c =
    let meld = g.P.Meld.meld in
    let log = c.args.log.now.items in
    let records = c.args.records.now in
    let asked = c.args.asked.now in
    let new = state_of c.args.limits c.answer.new.log.items c.answer.new.records in
    let is = is_next meld c.args.limits log records asked c.requires.may c.requires.sound new c.answer.result c.in_default.not-Fail c.answer.ensures.ok in record {
      sound = stays_sound meld c.args.limits log records asked c.requires.may c.requires.sound new c.answer.result is c.answer.ensures.err;
      step = takes_step meld c.args.limits log records asked c.requires.may c.requires.sound new c.answer.result is;
      err = c.answer.ensures.err;
    }

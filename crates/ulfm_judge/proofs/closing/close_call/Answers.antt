use Rattle.std.proofs.Common.{refl, sym, ◌∙◌}
use Rattle.ulfm_judge.proofs.Seating.{ended_at, ended_nowhere}
use Rattle.ulfm_judge.proofs.closing.close_call.Goals as goal

pub bounds-calls-i : goal.bounds-calls-i
bounds-calls-i g c = rw c.in-Some.is at c.place_by.ensures.within

pub returns-in-Some : goal.returns-in-Some
returns-in-Some g c = λ us are. ended_at c.args.calls.now us c.args.by c.in-Some.i _ are (sym c.place_by.ensures.at ∙ c.in-Some.is) refl

pub returns-in_default : goal.returns-in_default
returns-in_default g c = λ us are. ended_nowhere c.args.calls.now us c.args.by are (sym c.place_by.ensures.at ∙ c.in_default.is)

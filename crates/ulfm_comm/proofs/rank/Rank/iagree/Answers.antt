use Rattle.std.proofs.Common.{refl}
use Rattle.ulfm_model.specs.declared.call.Call.TheVariants as call
use Rattle.ulfm_comm.proofs.Typed.{typed_calls, typed_steps}
use Rattle.ulfm_comm.proofs.rank.Rank.iagree.Goals as goal

pub returns-clause-calls : goal.returns-clause-calls
returns-clause-calls g c = typed_calls (λ r. call.Agree r c.args.comm c.args.value) c.number-rank.ensures c.started.ensures c.call.ensures.ends refl

pub returns-clause-steps : goal.returns-clause-steps
returns-clause-steps g c = typed_steps (λ r. call.Agree r c.args.comm c.args.value) c.number-rank.ensures c.call.ensures.steps

use Rattle.ulfm_model.specs.declared.call.Call.TheVariants as call
use Rattle.ulfm_comm.proofs.Typed.{typed_polls, typed_steps}
use Rattle.ulfm_comm.proofs.rank.Rank.poll.Goals as goal

pub returns-clause-calls : goal.returns-clause-calls
returns-clause-calls g c = typed_polls (λ r. call.Poll r c.args.comm) _ c.number-rank.ensures c.polled.ensures c.call.ensures.ends

pub returns-clause-steps : goal.returns-clause-steps
returns-clause-steps g c = typed_steps (λ r. call.Poll r c.args.comm) c.number-rank.ensures c.call.ensures.steps

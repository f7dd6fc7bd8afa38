use Rattle.std.proofs.Common.{refl, rules}
use Rattle.ulfm_model.specs.declared.call.Call.TheVariants as call
use Rattle.ulfm_comm.proofs.Typed.{typed_calls, typed_steps}
use Rattle.ulfm_comm.proofs.rank.Rank.revoke.Goals as goal

pub returns-clause-calls : goal.returns-clause-calls
returns-clause-calls g c = typed_calls (λ r. call.Revoke r c.args.comm) c.number-rank.ensures (c.told.ensures.revokes (search rules)) c.call.ensures.ends refl

pub returns-clause-steps : goal.returns-clause-steps
returns-clause-steps g c = typed_steps (λ r. call.Revoke r c.args.comm) c.number-rank.ensures c.call.ensures.steps

use Rattle.std.proofs.Common.{refl, rules}
use Rattle.ulfm_model.specs.declared.call.Call.TheVariants as call
use Rattle.ulfm_comm.specs.Replies.{IsOfKind, Kind}
use Rattle.ulfm_comm.proofs.Typed.{typed_calls, typed_steps}
use Rattle.ulfm_comm.proofs.rank.Rank.is_revoked.Goals as goal
use Rattle.ulfm_comm.proofs.rank.Rank.is_revoked.Goals.{After-call}

-- the call's reply tells whether the communicator is revoked, or is a refusal
asks : (g : _) (c : After-call g) → IsOfKind Kind.Asks c.call.result
asks g c = search rules

pub returns-clause-calls : goal.returns-clause-calls
returns-clause-calls g c =
    let kind = asks g (goal.at.returns-clause-calls g c).After-call in
    typed_calls (λ r. call.IsRevoked r c.args.comm) c.number-rank.ensures (c.told.ensures.asks kind) c.call.ensures.ends refl

pub returns-clause-steps : goal.returns-clause-steps
returns-clause-steps g c = typed_steps (λ r. call.IsRevoked r c.args.comm) c.number-rank.ensures c.call.ensures.steps

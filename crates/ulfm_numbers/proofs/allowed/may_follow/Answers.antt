use Rattle.std.proofs.Common.{not, sym, ap, ◌∙◌}
use Rattle.std.proofs.lemmas.Bool.{le-ltb, lt-ltb}
use Rattle.ulfm_numbers.proofs.Deciding.{true_and, first_fails}
use Rattle.ulfm_numbers.proofs.allowed.may_follow.Goals as goal

pub returns-then-rank-limits : goal.returns-then-rank-limits
returns-then-rank-limits g c = rw c.in-Fail.is (ap not c.is_declared_at.ensures ∙ true_and _ _ (lt-ltb _ _ c.if-rank-limits.true))

pub returns-else-rank-limits : goal.returns-else-rank-limits
returns-else-rank-limits g c =
    let past = le-ltb c.in-Fail.rank c.args.limits.ranks c.if-rank-limits.false in
    rw c.in-Fail.is (past ∙ first_fails _ _ past)

pub returns-in-Settle : goal.returns-in-Settle
returns-in-Settle g c = rw c.in-Settle.is c.may_settle.ensures

pub returns-in-Mark : goal.returns-in-Mark
returns-in-Mark g c = rw c.in-Mark.is c.may_mark.ensures

pub returns-then-is_place : goal.returns-then-is_place
returns-then-is_place g c = rw c.in-Arrive.is (ap not c.has_arrived_at.ensures ∙ true_and _ _ (sym c.is_place-is_place.ensures ∙ c.if-is_place.true))

pub returns-else-is_place : goal.returns-else-is_place
returns-else-is_place g c = rw c.in-Arrive.is (c.if-is_place.false ∙ first_fails _ _ (sym c.is_place-is_place.ensures ∙ c.if-is_place.false))

pub returns-then-exists : goal.returns-then-exists
returns-then-exists g c = rw c.in-Revoke.is (ap not c.is_revoked_at.ensures ∙ true_and _ _ (sym c.exists.ensures ∙ c.if-exists.true))

pub returns-else-exists : goal.returns-else-exists
returns-else-exists g c = rw c.in-Revoke.is (c.if-exists.false ∙ first_fails _ _ (sym c.exists.ensures ∙ c.if-exists.false))

pub returns-in-Spawn : goal.returns-in-Spawn
returns-in-Spawn g c = rw c.in-Spawn.is c.may_spawn.ensures

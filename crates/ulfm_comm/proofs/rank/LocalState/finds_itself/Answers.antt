use Rattle.std.proofs.Common.{◌≡◌, ◌-◌, arith, drop, length, take, ap, sym, ◌∙◌}
use Rattle.ulfm_model.specs.{History.{has}, Records.{Record}}
use Rattle.ulfm_comm.proofs.Others.{others_all, others_found}
use Rattle.ulfm_comm.proofs.rank.LocalState.finds_itself.Goals as goal
use Rattle.ulfm_comm.proofs.rank.LocalState.finds_itself.Goals.{After-has_rank}

-- it is among all where it is among those that were compared
inside : (g : _) (c : After-has_rank g) → has c.self.inside.seen.items c.self.inside.number ≡ c.has_rank.result
inside g c =
    others_found c.self.inside.number c.self.inside.seen.items c.self.inside.others c.self.invariant.others_are
    ∙ (ap (λ xs. has (take (length xs - c.self.inside.others) (drop c.self.inside.others xs)) c.self.inside.number) (sym c.deref.ensures.value) ∙ sym c.has_rank.ensures)

seen : (g : _) (c : After-has_rank g) → has c.args.self.now.seen c.args.self.now.number ≡ c.has_rank.result
seen g c = sym (ap (λ (own : Record). has own.seen own.number) c.self.view_is) ∙ inside g c

pub returns-then-has_rank-clause-found : goal.returns-then-has_rank-clause-found
returns-then-has_rank-clause-found g c = sym (seen g (goal.at.returns-then-has_rank-clause-found g c).After-has_rank ∙ c.if-has_rank.true)

pub returns-clause-found : goal.returns-clause-found
returns-clause-found g c = sym (seen g (goal.at.returns-clause-found g c).After-has_rank ∙ c.if-has_rank.false)

pub invariant_of-self : goal.invariant_of-self
invariant_of-self g c = record {
  below = c.self.invariant.below;
  room = c.self.invariant.room;
  others_are = others_all c.self.inside.number c.self.inside.seen.items c.len-self-inside.result (omega (arith, c.len-self-inside.ensures, c.self.inside.seen.ok.0))
      (inside g (goal.at.invariant_of-self g c).After-has_rank ∙ c.if-has_rank.false);
}

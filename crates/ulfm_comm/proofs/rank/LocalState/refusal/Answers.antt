use Rattle.std.proofs.Common.{ap, ◌∙◌}
use Rattle.ulfm_model.specs.{Answers.{first_refusal}, Records.{Record}}
use Rattle.ulfm_model.specs.Terms.{tests_of}
use Rattle.ulfm_model.proofs.Testing.{tests_are}
use Rattle.ulfm_comm.proofs.rank.LocalState.refusal.Goals as goal

pub returns : goal.returns
returns g c =
    let own : Record = record {
      number = c.self.inside.number;
      limits = c.self.inside.limits;
      held = c.self.inside.held.items;
      seen = c.self.inside.seen.items;
      refused = c.self.inside.refused;
    } in
    let x = c.args.x.now in
    let asked = c.args.asked.now in
    rw c.deref.ensures.value at c.refusal_on.ensures
    ∙ (ap first_refusal (tests_are own x asked) ∙ ap (λ (o : Record). first_refusal (tests_of o x asked)) c.self.view_is)

use Rattle.std.proofs.Common.{length, sym, ◌∙◌}
use Rattle.std.proofs.lemmas.Bool.{eqb-true}
use Rattle.ulfm_model.specs.History.{has}
use Rattle.ulfm_steps.proofs.Passing.{all_pass}
use Rattle.ulfm_steps.proofs.group.has_all.Goals as goal

pub returns-then-is_some : goal.returns-then-is_some
returns-then-is_some c = λ is.
    let ranks = c.args.ranks.now in
    all_pass (has c.args.group.now) ranks (sym c.count_in.ensures ∙ eqb-true c.count_in.result (length ranks) is)

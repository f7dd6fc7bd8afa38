use Rattle.std.proofs.Common.{◌≡◌, ◌≤◌, ℕ, true, sym, subst}
use Rattle.ulfm.specs.Explored.{ExploredWith, most_states}
use Rattle.ulfm.proofs.Ends.{explored}
use Rattle.ulfm.proofs.program.run_explore.Goals as goal

pub returns-in-Ok-explore-clause-explored : goal.returns-in-Ok-explore-clause-explored
returns-in-Ok-explore-clause-explored g c =
    let within : c.in-Ok-explore.told.is_whole ≡ true → c.in-Ok-explore.told.states ≤ most_states c.args.options =
    subst (λ (most : ℕ). c.in-Ok-explore.told.is_whole ≡ true → c.in-Ok-explore.told.states ≤ most) c.unwrap_or.ensures c.in-Ok-explore.ensures.within in
    subst
    (λ (status : ℕ). ExploredWith g.row.A.Denot c.args.options (g.W.Write.contents c.args.output.now) (g.W.Write.contents c.print_text-status.new.output) status)
    (sym c.status_at.ensures)
    (explored
    g.row.A.Denot
    c.in-Ok.program
    c.args.options
    (g.W.Write.contents c.args.output.now)
    (g.W.Write.contents c.print_text-status.new.output)
    c.in-Ok-explore.told.text.items
    c.deref.result.now
    c.in-Ok-explore.told.is_whole
    c.in-Ok-explore.told.states
    c.print_text-status.result
    c.in-Ok-explore.ensures.script
    c.in-Ok-explore.ensures.outcomes
    within
    c.deref.ensures.value
    c.print_text-status.ensures.prints)

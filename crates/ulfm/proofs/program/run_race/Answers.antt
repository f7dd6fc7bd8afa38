use Rattle.std.proofs.Common.{rules, ◌≡◌, ◌∙◌, ap₂}
use Rattle.ulfm_filters.specs.RaceLines.{as_lists, race_text}
use Rattle.ulfm.specs.Races.{plan_of}
use Rattle.ulfm.proofs.Ends.{raced}
use Rattle.ulfm.proofs.program.run_race.Goals as goal

pub returns-in-Ok-race_lines : goal.returns-in-Ok-race_lines
returns-in-Ok-race_lines g c =
    let replies : c.deref.result.now ≡ c.in-Ok.outcome.replies.items = search rules in
    let group : c.deref-in-Ok.result.now ≡ c.in-Ok.outcome.group.items = search rules in
    let text : c.deref-in-Ok-race_lines.result.now ≡ c.in-Ok-race_lines.text.items = search rules in
    let lines : c.deref-in-Ok-race_lines.result.now ≡ race_text c.args.options.rounds (as_lists c.in-Ok.outcome.replies.items) c.in-Ok.outcome.group.items =
    text ∙ (c.in-Ok-race_lines.ensures ∙ ap₂ (λ r q. race_text c.args.options.rounds (as_lists r) q) replies group) in
    raced (plan_of c.args.options) _ (as_lists c.in-Ok.outcome.replies.items) c.in-Ok.outcome.group.items c.deref-in-Ok-race_lines.result.now _ _ c.print_text.result
    c.in-Ok.ensures.answered lines c.print_text.ensures.prints

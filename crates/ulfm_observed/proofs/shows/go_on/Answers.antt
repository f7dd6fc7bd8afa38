use Rattle.std.proofs.Common.{sym, ◌∙◌}
use Rattle.ulfm_observed.specs.Stages.{shown_of}
use Rattle.ulfm_observed.proofs.Showing.{goes_behind}
use Rattle.ulfm_observed.proofs.shows.go_on.Goals as goal

pub returns : goal.returns
returns g c =
    goes_behind c.args.whose c.args.lines.now (shown_of c.args.step.now) c.args.at c.in-Some.next c.index-lines-next.result c.in-Some.ensures.within
    c.index-lines-next.is c.in-Some.ensures.next (sym c.is_shown.ensures ∙ c.if-not-is_shown.false)
    (c.is_line.ensures.heard c.if-not-is_line.false) (c.is_line.ensures.group c.if-not-is_line.false)

use Rattle.std.proofs.Common.{sym, ◌∙◌}
use Rattle.ulfm_script.specs.Words.{rest_at}
use Rattle.ulfm_lines.proofs.RankLemmas.{all_left, not_left, one_listed, rank_shorter}
use Rattle.ulfm_lines.proofs.trace_line.read_ranks.Goals as goal

pub returns-in-Err : goal.returns-in-Err
returns-in-Err g c =
    not_left (rest_at c.args.ranks) c.ranks.left c.ranks.group.items c.in-Err.field-0 c.ranks.invariant (sym c.is_some.ensures ∙ c.ranks-test.true) c.in-Err.ensures

pub ranks-smaller : goal.ranks-smaller
ranks-smaller g c = rank_shorter (rest_at c.ranks.left) (rest_at c.in-Ok.rest) c.in-Ok.rank c.in-Ok.ensures

pub ranks-preserved : goal.ranks-preserved
ranks-preserved g c =
    let one = one_listed (rest_at c.args.ranks) (rest_at c.ranks.left) (rest_at c.in-Ok.rest) c.ranks.group.items c.in-Ok.rank c.ranks.invariant c.in-Ok.ensures in
    rw c.in_ok-push-in-Ok.ensures.items one

pub returns : goal.returns
returns g c = all_left (rest_at c.args.ranks) c.ranks.left c.ranks.group.items c.ranks.invariant (sym c.is_some.ensures ∙ c.ranks-test.false)

use Rattle.std.proofs.Common.{◌+◌, drop, map, true, false, sym, ap, ◌∙◌, arith}
use Rattle.ulfm_observed.specs.{Explains.{is_heard_by}, LogTexts.{Heard, heard_of}, Walked.{of_callers}}
use Rattle.ulfm_observed.proofs.{Showing.{heard_passed, heard_there}, Walks.{kept_first, mapped_from}}
use Rattle.ulfm_observed.proofs.shows.next_line.Goals as goal

pub returns-then-has_item-clause-next : goal.returns-then-has_item-clause-next
returns-then-has_item-clause-next g c =
    let x = c.index-lines-at.result in
    let left = mapped_from heard_of c.args.lines.now c.loop-at.at x (omega (arith, c.loop-at-test.true)) c.index-lines-at.is in
    let behind = drop (c.loop-at.at + 1) (map heard_of c.args.lines.now) in
    let theirs = heard_there c.args.whose x _ true c.index-lines-at.is (sym c.has_item.ensures ∙ c.if-has_item.true) in
    let kept = kept_first (λ (h : Heard). is_heard_by c.args.whose h.item) (heard_of x) behind theirs in
    (heard_of x, behind, left, c.loop-at.invariant ∙ ap (of_callers c.args.whose) left ∙ kept)

pub loop-at-preserved : goal.loop-at-preserved
loop-at-preserved g c =
    let x = c.index-lines-at.result in
    let others = heard_there c.args.whose x _ false c.index-lines-at.is (sym c.has_item.ensures ∙ c.if-has_item.false) in
    c.loop-at.invariant ∙ heard_passed c.args.whose c.args.lines.now c.loop-at.at x (omega (arith, c.loop-at-test.true)) c.index-lines-at.is others

use Rattle.std.proofs.Common.{◌≡◌, ℕ, List, ap, get_or, map, replicate, subst, ◌∙◌}
use Rattle.std.specs.Prelude.{filter}
use Rattle.ulfm_model.specs.declared.event.Caller.TheVariants.{Rank}
use Rattle.ulfm_observed.specs.declared.shows.Whose.TheVariants.{Of}
use Rattle.ulfm_observed.specs.{Explains.{AreHeard, is_shown_by}, LogTexts.{heard_of}, Stages.{shown_of}, Walked.{left_of}}
use Rattle.ulfm_observed.proofs.Ranked.{one_everywhere}
use Rattle.ulfm_observed.proofs.ranks.are_ranks_heard.Goals as goal

-- Each rank begins at the log's start.
pub returns : goal.returns
returns g c = λ heard r.
    let made : c.deref_mut.result.now ≡ replicate c.from.result 0 =
    c.deref_mut.ensures.value ∙ c.in_ok-places.ensures.items_if_clones_equal (λ y same. same) in
    let start : get_or c.deref_mut.result.now r 0 ≡ 0 = ap (λ (places : List ℕ). get_or places r 0) made ∙ one_everywhere c.from.result 0 r in
    let shown = filter (is_shown_by (Of (Rank r))) (map shown_of c.args.steps.now) in
    subst (λ (at : ℕ). AreHeard (left_of (Of (Rank r)) (map heard_of c.args.lines.now) at) shown) start (c.are_left_heard.ensures heard r)

use Rattle.std.proofs.Common.{◌≡◌, drop, filter}
use Rattle.std.specs.Prelude.{map}
use Rattle.ulfm_model.specs.declared.event.Caller.TheVariants.{Rank}
use Rattle.ulfm_observed.specs.declared.shows.Whose.TheVariants.{Of}
use Rattle.ulfm_observed.specs.{Explains.{is_heard_by}, LogTexts.{heard_of}}
use Rattle.ulfm_observed.specs.Refuted.{new_walk, walked}
use Rattle.ulfm_observed.proofs.walk.walk_of.Given as goal

abbrev pub invariant-loop-line : goal.invariant-loop-line
invariant-loop-line g l =
    walked (filter (λ heard. is_heard_by (Of (Rank l.fn.rank)) heard.item) (map heard_of (drop l.line-index l.lines))) l.walk
    ≡ walked (filter (λ heard. is_heard_by (Of (Rank l.fn.rank)) heard.item) (map heard_of l.lines)) (new_walk l.fn.round)

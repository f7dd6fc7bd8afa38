use Rattle.std.proofs.Common.{rules, arith, ◌≡◌, [], ◌∷◌, ◌++◌, length, slice_get, ap, sym, ◌∙◌}
use Rattle.std.proofs.lemmas.Grind.{common_steps}
use mathlib.Core.List.{IsPrefix}
use Rattle.ulfm_model.specs.History.{failures}
use Rattle.ulfm_model.proofs.{Histories.{failures_begin}, Lists.{prefix_trans}}
use Rattle.ulfm_words.proofs.Trails.{did_prefix}
use Rattle.ulfm_steps.proofs.Looking.{whole_found, more_found, look_next}
use Rattle.ulfm_steps.proofs.look.Look.step.Goals as goal
use Rattle.ulfm_steps.proofs.look.Look.step.Goals.{After-load_failure}

-- what was found still begins the list
still : (g : _) (c : After-load_failure g) → IsPrefix c.args.found.now.items (failures (g.W.Words.sight c.load_failure.new.pass).seen)
still g c =
    let old = (g.W.Words.sight c.args.pass.now).seen in
    let new = (g.W.Words.sight c.load_failure.new.pass).seen in
    prefix_trans c.args.found.now.items (failures old) (failures new) c.requires.look.0 (failures_begin old new (did_prefix g.W.Words.alone [] old new c.load_failure.ensures.loads.did))

-- the load was of the place past it
here : (g : _) (c : After-load_failure g) → slice_get (failures (g.W.Words.sight c.load_failure.new.pass).seen) (length c.args.found.now.items) ≡ c.load_failure.result
here g c =
    let count : length c.args.found.now.items ≡ c.len.result = search rules in
    ap (slice_get (failures (g.W.Words.sight c.load_failure.new.pass).seen)) count ∙ sym c.load_failure.ensures.rank

pub returns-in-None-clause-look : goal.returns-in-None-clause-look
returns-in-None-clause-look g c =
    let at = (goal.at.returns-in-None-clause-look g c).After-load_failure in
    whole_found c.args.found.now.items (failures (g.W.Words.sight c.load_failure.new.pass).seen) (still g at) (here g at ∙ c.in-None.is)

pub returns-in-Some-clause-look : goal.returns-in-Some-clause-look
returns-in-Some-clause-look g c =
    let at = (goal.at.returns-in-Some-clause-look g c).After-load_failure in
    let limits = (g.W.Words.name c.args.words.now).limits in
    let new = (g.W.Words.sight c.load_failure.new.pass).seen in
    let fewer = c.requires.look.1 in
    let items : c.push.new.self.items ≡ c.args.found.now.items ++ c.in-Some.rank ∷ [] = grind (arith, common_steps) in
    let count : c.len-in-Some.result ≡ length c.push.new.self.items = grind (arith, common_steps) in
    look_next g.P.Meld.meld limits new c.args.found.now.items c.push.new.self.items c.in-Some.rank c.len-in-Some.result c.limits-ranks.result.ranks c.load_failure.ensures.loads.of.legal
    (more_found c.args.found.now.items (failures new) c.in-Some.rank (still g at) (here g at ∙ c.in-Some.is)) fewer items count (ap (λ l. l.ranks) c.limits-ranks.ensures.limits)

use Rattle.std.proofs.Common.{◌≡◌, ◌<◌, ◌+◌, ◌-◌, [], ◌∷◌, ◌++◌, length, slice_get, ap, sym, ◌∙◌, arith, length-append}
use Rattle.ulfm_words.specs.Steps.{over}
use mathlib.Core.List.{IsPrefix}
use Rattle.ulfm_model.specs.History.{failures}
use Rattle.ulfm_model.specs.declared.place.Place.TheVariants.{List as ListAt}
use Rattle.ulfm_model.proofs.{Histories.{failures_begin}, Lists.{prefix_trans}}
use Rattle.ulfm_words.proofs.{Ranks.{failures_le}, Trails.{did_prefix}}
use Rattle.ulfm_steps.proofs.{Looking.{more_found}, ReadingOn.{no_end, put_behind}, Turning.{takes_load}}
use Rattle.ulfm_steps.proofs.read_on.load_next.Goals as goal
use Rattle.ulfm_steps.proofs.read_on.load_next.Goals.{After-len, After-load_failure, After-push}

-- what was seen doesn't have all ranks
room_left : (g : _) (c : After-len g) → c.len.result < (g.W.Words.name c.args.words.now).limits.ranks
room_left g c =
    let few = failures_le g.P.Meld.meld (g.W.Words.name c.args.words.now).limits (g.W.Words.sight c.args.pass.now).seen c.requires.of.legal in
    omega (arith, c.requires.more, few, c.len.ensures, c.args.seen.now.ok.0)

pub overflow_cast-len : goal.overflow_cast-len
overflow_cast-len g c =
    let left = room_left g c in
    omega (arith, left, c.requires.of.may_open.in_range.ranks)

pub load_failure-requires-clause-within : goal.load_failure-requires-clause-within
load_failure-requires-clause-within g c = room_left g (goal.at.load_failure-requires-clause-within g c).After-len

-- the load was of the place past what was seen
loaded : (g : _) (c : After-load_failure g) → slice_get (failures (g.W.Words.sight c.load_failure.new.pass).seen) (length c.args.seen.now.items) ≡ c.load_failure.result
loaded g c =
    let size : length c.args.seen.now.items ≡ c.len.result = omega (arith, c.len.ensures, c.args.seen.now.ok.0) in
    ap (slice_get (failures (g.W.Words.sight c.load_failure.new.pass).seen)) size ∙ sym c.load_failure.ensures.rank

grown : (g : _) (c : After-load_failure g) → IsPrefix (failures (g.W.Words.sight c.args.pass.now).seen) (failures (g.W.Words.sight c.load_failure.new.pass).seen)
grown g c =
    let h = (g.W.Words.sight c.args.pass.now).seen in
    let later = (g.W.Words.sight c.load_failure.new.pass).seen in
    failures_begin h later (did_prefix g.W.Words.alone [] h later c.load_failure.ensures.loads.did)

pub unreachable-requires : goal.unreachable-requires
unreachable-requires g c =
    let before = (goal.at.unreachable-requires g c).After-load_failure in
    no_end c.args.seen.now.items (failures (g.W.Words.sight c.args.pass.now).seen) (failures (g.W.Words.sight c.load_failure.new.pass).seen) c.requires.begins c.requires.more (grown g before) (loaded g before ∙ c.in_default.is)

-- the rank was put behind what was seen
pushed : (g : _) (c : After-push g) → c.push.new.self.items ≡ c.args.seen.now.items ++ c.in-Some.rank ∷ []
pushed g c =
    let left = room_left g (goal.at.After-push g c).After-len in
    put_behind c.args.seen.now.items c.push.new.self.items c.in-Some.rank c.push.result c.push.ensures.items (c.push.ensures.succeeds (omega (arith, left, c.requires.room, c.len.ensures)))

pub returns-clause-next : goal.returns-clause-next
returns-clause-next g c = pushed g (goal.at.returns-clause-next g c).After-push

pub returns-clause-begins : goal.returns-clause-begins
returns-clause-begins g c =
    let all = goal.at.returns-clause-begins g c in
    let whole = failures (g.W.Words.sight c.args.pass.now).seen in
    let later = failures (g.W.Words.sight c.load_failure.new.pass).seen in
    let begins = prefix_trans c.args.seen.now.items whole later c.requires.begins (grown g all.After-load_failure) in
    rw (pushed g all.After-push) (more_found c.args.seen.now.items later c.in-Some.rank begins (loaded g all.After-load_failure ∙ c.in-Some.is))

pub returns-clause-takes : goal.returns-clause-takes
returns-clause-takes g c =
    let all = goal.at.returns-clause-takes g c in
    let limits = (g.W.Words.name c.args.words.now).limits in
    let left = room_left g all.After-len in
    let size : c.len.result ≡ length c.args.seen.now.items = omega (arith, c.len.ensures, c.args.seen.now.ok.0) in
    let longer = ap length (pushed g all.After-push) ∙ length-append c.args.seen.now.items (c.in-Some.rank ∷ []) in
    takes_load g.P.Meld.meld g.P.Packed.pack g.W.Words.alone (over g.P.Packed.pack (g.W.Words.name c.args.words.now)) (ListAt c.len.result) (g.W.Words.sight c.args.pass.now) (g.W.Words.sight c.load_failure.new.pass)
    (ListAt (length c.args.seen.now.items)) (limits.ranks - length c.args.seen.now.items) (limits.ranks - length c.push.new.self.items) c.load_failure.ensures.loads (ap (λ i. ListAt i) size)
    (omega (arith, left, size, longer))

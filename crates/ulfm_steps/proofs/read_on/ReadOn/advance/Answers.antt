use Rattle.std.proofs.Common.{◌≡◌, ◌+◌, ◌-◌, ◌≤◌, false, true, cond, [], ◌∷◌, length, vec_len, refl, ap, sym, arith, rules, length-append}
use Rattle.ulfm_model.specs.{History.{failures, has}, declared.place.Place.TheVariants.{List as ListAt}}
use Rattle.ulfm_model.proofs.Lists.{length_prefix, prefix_trans}
use Rattle.ulfm_words.specs.Steps.{over, view_of}
use Rattle.ulfm_steps.specs.ReadsOn.{AtFailure}
use Rattle.ulfm_words.proofs.{Growing.{prefix_self}, Ranks.{failures_le}, Trails.{did_prefix}}
use Rattle.ulfm_steps.proofs.{Going.{Went, went_most, went_none, went_on}, ReadingOn.{fewer_found, list_goes_on, may_read_on_after, rank_further}, Turning.{takes_on}}
use Rattle.ulfm_steps.proofs.read_on.ReadOn.advance.Goals as goal
use Rattle.ulfm_steps.proofs.read_on.ReadOn.advance.Goals.{After-from, After-load_next-rank}

-- one rank more was seen
longer : (g : _) (c : After-load_next-rank g) → vec_len c.load_next-rank.new.seen ≡ vec_len c.loop-self.seen + 1
longer g c = omega (arith, ap length c.load_next-rank.ensures.next, length-append c.loop-self.seen.items (c.load_next-rank.result ∷ []), c.loop-self.seen.ok.0, c.load_next-rank.new.seen.ok.0)

-- .. and one failure more is gone through
further : (g : _) (c : After-from g) → AtFailure c.args.group.now c.args.count (record { reach = c.loop-self.self.reach + 1; found = c.loop-self.self.found + c.from.result }) c.load_next-rank.new.seen.items
further g c =
    let i = c.loop-self.invariant in
    let member : c.from.result ≡ cond (has c.args.group.now c.load_next-rank.result) 1 0 = search rules in
    rw c.load_next-rank.ensures.next
    (rank_further c.args.group.now c.args.count c.loop-self.self c.loop-self.seen.items (failures (g.W.Words.sight c.loop-self.pass).seen) i.may i.at i.more c.load_next-rank.result
    (record { reach = c.loop-self.self.reach + 1; found = c.loop-self.self.found + c.from.result }) refl (ap (λ n. c.loop-self.self.found + n) member))

-- no more failures were seen than there are ranks
few : (g : _) (c : After-load_next-rank g) → vec_len c.load_next-rank.new.seen ≤ (g.W.Words.name c.args.words.now).limits.ranks
few g c =
    let h = (g.W.Words.sight c.load_next-rank.new.pass).seen in
    let long = length_prefix c.load_next-rank.new.seen.items (failures h) c.load_next-rank.ensures.begins in
    let all = failures_le g.P.Meld.meld (g.W.Words.name c.args.words.now).limits h c.load_next-rank.ensures.goes.of.legal in
    omega (arith, long, all, c.load_next-rank.new.seen.ok.0)

-- the steps that were made, and this one
went : (g : _) (c : After-load_next-rank g) → Went g.P.Meld.meld g.W.Words.alone false (view_of g.P.Packed.pack (g.W.Words.name c.args.words.now) (g.W.Words.sight c.args.pass.now)) (view_of g.P.Packed.pack (g.W.Words.name c.args.words.now) (g.W.Words.sight c.load_next-rank.new.pass))
went g c = went_on g.P.Meld.meld g.W.Words.alone false (over g.P.Packed.pack (g.W.Words.name c.args.words.now)) _ (g.W.Words.sight c.args.pass.now) (g.W.Words.sight c.loop-self.pass) (g.W.Words.sight c.load_next-rank.new.pass) c.loop-self.invariant.went c.load_next-rank.ensures.goes

pub load_next-rank-requires-clause-more : goal.load_next-rank-requires-clause-more
load_next-rank-requires-clause-more g c =
    let i = c.loop-self.invariant in
    list_goes_on c.args.group.now c.args.count c.loop-self.self c.loop-self.seen.items (failures (g.W.Words.sight c.loop-self.pass).seen) i.may i.at i.more

pub loop-self-init : goal.loop-self-init
loop-self-init g c =
    record {
      went = went_none g.P.Meld.meld g.W.Words.alone false (over g.P.Packed.pack (g.W.Words.name c.args.words.now)) (g.W.Words.sight c.args.pass.now) c.requires.of;
      may = c.requires.may;
      at = c.requires.at;
      more = c.requires.more;
      goes_on = prefix_self _;
      steps = refl;
      first = λ _. refl;
      room = c.requires.room;
      kept = omega arith;
    }

pub returns-then-not-whole-clause-takes : goal.returns-then-not-whole-clause-takes
returns-then-not-whole-clause-takes g c =
    let i = c.loop-self.invariant in
    let e = c.load_next-rank.ensures in
    let ranks = (g.W.Words.name c.args.words.now).limits.ranks in
    let start = c.args.seen.now in
    let now = c.loop-self.seen in
    let all = few g (goal.at.returns-then-not-whole-clause-takes g c).After-load_next-rank in
    let most : vec_len now ≤ ranks = omega (arith, all, longer g (goal.at.returns-then-not-whole-clause-takes g c).After-load_next-rank) in
    takes_on c.args.whole (ListAt (length start.items)) (ListAt (length now.items)) true true (ranks - length start.items) (ranks - length now.items) (ranks - length c.load_next-rank.new.seen.items)
    (g.W.Words.sight c.args.pass.now) (g.W.Words.sight c.loop-self.pass) (g.W.Words.sight c.load_next-rank.new.pass)
    (λ single.
    let same : length now.items ≡ length start.items = omega (arith, i.first single, i.steps, start.ok.0, now.ok.0) in
    (omega (arith, i.first single), ap (λ n. ListAt n) same, refl))
    i.went.onward (omega (arith, i.steps, i.went.onward, most, start.ok.0, now.ok.0)) e.takes

pub returns-then-not-whole-clause-further : goal.returns-then-not-whole-clause-further
returns-then-not-whole-clause-further g c =
    let e = c.load_next-rank.ensures in
    omega (arith, c.loop-self.invariant.steps, (e.takes.one refl).steps, longer g (goal.at.returns-then-not-whole-clause-further g c).After-load_next-rank)

pub returns-then-not-whole-clause-at : goal.returns-then-not-whole-clause-at
returns-then-not-whole-clause-at g c = further g (goal.at.returns-then-not-whole-clause-at g c).After-from

pub returns-then-not-whole-clause-goes_on : goal.returns-then-not-whole-clause-goes_on
returns-then-not-whole-clause-goes_on g c = prefix_trans c.args.seen.now.items c.loop-self.seen.items c.load_next-rank.new.seen.items c.loop-self.invariant.goes_on (c.load_next-rank.result ∷ [], sym c.load_next-rank.ensures.next)

pub returns-then-not-whole-clause-goes : goal.returns-then-not-whole-clause-goes
returns-then-not-whole-clause-goes g c =
    let at = (goal.at.returns-then-not-whole-clause-goes g c).After-load_next-rank in
    let e = c.load_next-rank.ensures in
    went_most g.P.Meld.meld g.W.Words.alone false (over g.P.Packed.pack (g.W.Words.name c.args.words.now)) _ (g.W.Words.sight c.args.pass.now) (g.W.Words.sight c.load_next-rank.new.pass) (went g at) (omega (arith, c.loop-self.invariant.steps, (e.takes.one refl).steps, longer g at, few g at))

pub loop-self-smaller : goal.loop-self-smaller
loop-self-smaller g c = let at = (goal.at.loop-self-smaller g c).After-load_next-rank in omega (arith, few g at, longer g at)

pub loop-self-preserved : goal.loop-self-preserved
loop-self-preserved g c =
    let i = c.loop-self.invariant in
    let e = c.load_next-rank.ensures in
    let at = further g (goal.at.loop-self-preserved g c).After-from in
    let now = (g.W.Words.sight c.loop-self.pass).seen in
    let after = (g.W.Words.sight c.load_next-rank.new.pass).seen in
    record {
      went = went g (goal.at.loop-self-preserved g c).After-load_next-rank;
      may = may_read_on_after now after c.args.group.now c.args.count c.loop-self.seen.items c.load_next-rank.new.seen.items (did_prefix g.W.Words.alone [] now after e.goes.did) e.begins i.may;
      at = at;
      more = fewer_found c.is_done.result (c.loop-self.self.found + c.from.result) c.args.count c.is_done.ensures c.if-is_done.false at.few;
      goes_on = prefix_trans c.args.seen.now.items c.loop-self.seen.items c.load_next-rank.new.seen.items i.goes_on (c.load_next-rank.result ∷ [], sym e.next);
      steps = omega (arith, i.steps, (e.takes.one refl).steps, longer g (goal.at.loop-self-preserved g c).After-load_next-rank);
      first = λ single. let whole = c.if-not-whole.false in absurd (cc (whole, single));
      room = omega (arith, i.room, e.room);
      kept = omega (arith, i.kept, e.room);
    }

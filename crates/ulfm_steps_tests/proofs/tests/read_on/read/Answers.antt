use Rattle.std.proofs.Common.{◌≡◌, [], filter, length, vec_len, refl, ap, ◌∙◌, arith, rules}
use mathlib.Core.List.{IsPrefix}
use Rattle.ulfm_model.specs.History.{failures, has}
use Rattle.ulfm_model.proofs.{Histories.{failures_begin}, Lists.{length_prefix, prefix_trans}}
use Rattle.ulfm_words.proofs.{Ranks.{failures_le}, Trails.{did_prefix}}
use Rattle.ulfm_steps.proofs.ReadingOn.{may_read_on_after}
use Rattle.ulfm_steps_tests.proofs.tests.read_on.read.Goals as goal
use Rattle.ulfm_steps_tests.proofs.tests.read_on.read.Goals.{After-finish}

pub finish-requires-clause-look : goal.finish-requires-clause-look
finish-requires-clause-look g c = rw c.new.ensures.found ((failures (g.W.Words.sight c.args.pass.now).seen, refl), omega (arith, c.requires.of.may_open.in_range.ranks))

-- what was seen begins the list after the look too
still : (g : _) (c : After-finish g) → IsPrefix c.args.seen.now.items (failures (g.W.Words.sight c.finish.new.pass).seen)
still g c =
    let old = (g.W.Words.sight c.args.pass.now).seen in
    let new = (g.W.Words.sight c.finish.new.pass).seen in
    prefix_trans c.args.seen.now.items (failures old) (failures new) c.requires.begins (failures_begin old new (did_prefix g.W.Words.alone [] old new c.finish.ensures.goes.did))

pub returns-then-count_in-asked-clause-begins : goal.returns-then-count_in-asked-clause-begins
returns-then-count_in-asked-clause-begins g c = still g (goal.at.returns-then-count_in-asked-clause-begins g c).After-finish

pub loop-on-init : goal.loop-on-init
loop-on-init g c =
    let whole = failures (g.W.Words.sight c.finish.new.pass).seen in
    let members : c.count_in.result ≡ length (filter (has c.args.group.now) whole) = c.count_in.ensures ∙ ap (λ xs. length (filter (has c.args.group.now) xs)) (c.deref.ensures.value ∙ c.finish.ensures.found) in
    record {
      of = c.finish.ensures.goes.of;
      may = record { rises = c.requires.rises; begins = still g (goal.at.loop-on-init g c).After-finish; enough = omega (arith, members, c.if-count_in-asked.false) };
      at = rw (← c.deref-2.ensures.value) c.new-on.ensures;
      room = c.requires.seen;
      kept = omega arith;
    }

pub loop-on-smaller : goal.loop-on-smaller
loop-on-smaller g c =
    let h = (g.W.Words.sight c.advance.new.pass).seen in
    let e = c.advance.ensures in
    let long = length_prefix c.advance.new.seen.items (failures h) e.begins in
    let all = failures_le g.P.Meld.meld (g.W.Words.name c.args.words.now).limits h e.goes.of.legal in
    let size : vec_len c.advance.new.seen ≡ length c.advance.new.seen.items = search rules in
    omega (arith, long, all, size, e.takes.some, e.further)

pub loop-on-preserved : goal.loop-on-preserved
loop-on-preserved g c =
    let i = c.loop-on.invariant in
    let e = c.advance.ensures in
    record {
      of = e.goes.of;
      may = may_read_on_after _ _ c.args.group.now c.args.asked c.loop-on.seen.items c.advance.new.seen.items (did_prefix g.W.Words.alone [] _ _ e.goes.did) e.begins i.may;
      at = e.at;
      room = omega (arith, i.room, e.room);
      kept = omega (arith, i.kept, e.room);
    }

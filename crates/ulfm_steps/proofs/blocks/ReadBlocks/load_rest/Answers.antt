use Rattle.std.proofs.Common.{ℕ, ◌+◌, ◌≤◌, false, true, nat_lt, refl, ap, sym, subst, arith, None, IfSome}
use Rattle.std.specs.Prelude.{length}
use Rattle.ulfm_model.specs.{History.{slot}, declared.{block.Wing.{Wing}}}
use Rattle.ulfm_words.specs.{Blocks.{IsFirstOf}, Steps.{over}, declared.step.Site.{Site}}
use Rattle.ulfm_words.proofs.Tried.{tries_none}
use Rattle.ulfm_steps.specs.{Blocks.{blocks_left, next_in_block, site_of}, Turns.{TakesAt}}
use Rattle.ulfm_steps.proofs.{InBlocks.{rank_is, takes_member_wing}, OneMore.{next_cell, next_few, next_within, reads_one}}
use Rattle.ulfm_steps.proofs.blocks.ReadBlocks.load_rest.Goals as goal
use Rattle.ulfm_steps.proofs.blocks.ReadBlocks.load_rest.Goals.{After-load_rest-said}

pub overflow_add-rank : goal.overflow_add-rank
overflow_add-rank g c = let few = next_few g.P.Meld.meld c.args.group.now _ c.requires.may c.requires.more in omega (arith, few)

pub bounds-group-self : goal.bounds-group-self
bounds-group-self g c = next_within g.P.Meld.meld c.args.group.now _ c.requires.may c.requires.more

pub load_rest-said-requires-clause-within : goal.load_rest-said-requires-clause-within
load_rest-said-requires-clause-within g c = next_cell g.P.Meld.meld c.args.group.now _ c.requires.may c.requires.more

pub overflow_add-self : goal.overflow_add-self
overflow_add-self g c = let few = next_few g.P.Meld.meld c.args.group.now _ c.requires.may c.requires.more in omega (arith, few)

pub load_rest-said-requires-clause-first : goal.load_rest-said-requires-clause-first
load_rest-said-requires-clause-first g c =
    let r = c.args.self.now in
    let group = c.args.group.now in
    let seen = (g.W.Words.sight c.args.pass.now).seen in
    let held = subst (λ o. IfSome o (IsFirstOf g.P.Packed.pack (slot seen r.comm r.round (next_in_block group r)))) c.requires.some c.requires.may.half.first in
    subst (λ x. IsFirstOf g.P.Packed.pack (slot seen r.comm r.round x) c.args.first) (sym (rank_is g.P.Meld.meld seen group r c.requires.may.at)) held

-- the load is a step of the reading
takes : (g : _) (c : After-load_rest-said g) (after : ℕ) → after + 1 ≤ blocks_left (length c.args.group.now) c.args.self.now
    → TakesAt false (site_of c.args.group.now c.args.self.now) (nat_lt c.args.self.now.read c.args.self.now.width) (blocks_left (length c.args.group.now) c.args.self.now) after (g.W.Words.sight c.args.pass.now) (g.W.Words.sight c.load_rest-said.new.pass)
takes g c after fewer =
    let r = c.args.self.now in
    let group = c.args.group.now in
    let old = g.W.Words.sight c.args.pass.now in
    let new = g.W.Words.sight c.load_rest-said.new.pass in
    let before = blocks_left (length group) r in
    let l = c.load_rest-said.ensures.loads.1 in
    let there = ap (λ x. Site.Wing (Wing.Slot r.comm r.round x)) (rank_is g.P.Meld.meld old.seen group r c.requires.may.at) in
    takes_member_wing group r before after old new c.args.first (omega (arith, c.requires.more, c.requires.may.at.wide)) c.requires.some
    (subst (λ s. TakesAt false s true before after old new) there
    (record { one = λ _. record { steps = l.steps; word = c.load_rest-said.ensures.loads.0; last = l.last }; some = omega (arith, l.steps); turns = omega (arith, l.steps, fewer) }))

pub returns : goal.returns
returns g c =
    let l = c.load_rest-said.ensures.loads.1 in
    let said = c.load_rest-said.ensures.summary in
    reads_one g.P.Meld.meld g.met.P.Meld.lawful g.W.Words.alone (over g.P.Packed.pack (g.W.Words.name c.args.words.now)) (g.W.Words.sight c.args.pass.now) (g.W.Words.sight c.load_rest-said.new.pass) c.args.group.now c.args.self.now None refl c.requires.may c.requires.more
    _ said.1 _ said.2 _ c.meld-self.ensures
    (record { of = l.of; did = l.did; cached = l.cached; caches = tries_none _ _ l.caches; onward = omega (arith, l.steps); steps = omega (arith, l.steps) })
    (takes g (goal.at.returns g c).After-load_rest-said _ (rw c.requires.some (omega (arith, c.requires.more))))

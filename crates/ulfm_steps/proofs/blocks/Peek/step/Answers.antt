use Rattle.std.proofs.Common.{◌≡◌, ◌∙◌, subst, sym, ap, refl, arith, true, false, is_some, Some, None, IfSome, if◌then◌else◌}
use Rattle.ulfm_model.specs.{Blocks.{has_block}, declared.block.Wing.{Wing}}
use Rattle.ulfm_model.proofs.{Blocks.{has_block_stays}, Lists.{none_of}}
use Rattle.ulfm_words.specs.{Blocks.{IsBlockIn}, Steps.{over, view_of}, declared.step.Site.{Site}}
use Rattle.ulfm_steps.specs.{Blocks.{block_at, peek_site}, Turns.{IsStepAt}}
use Rattle.ulfm_steps.proofs.{InBlocks.{few_members, within_of}, Peeking.{held_on, told_on}}
use Rattle.ulfm_steps.proofs.blocks.Peek.step.Goals as goal

pub load_block_rest-said-requires-clause-within : goal.load_block_rest-said-requires-clause-within
load_block_rest-said-requires-clause-within g c =
    within_of g.P.Meld.meld (g.W.Words.name c.args.words.now).limits (g.W.Words.sight c.args.pass.now).seen c.args.self.now.comm c.args.self.now.round c.args.self.now.side c.args.group.now c.requires.of.legal c.requires.of.may_open c.requires.round

pub load_block-requires-clause-within : goal.load_block-requires-clause-within
load_block-requires-clause-within g c =
    within_of g.P.Meld.meld (g.W.Words.name c.args.words.now).limits (g.W.Words.sight c.args.pass.now).seen c.args.self.now.comm c.args.self.now.round c.args.self.now.side c.args.group.now c.requires.of.legal c.requires.of.may_open c.requires.round

pub overflow_cast-group : goal.overflow_cast-group
overflow_cast-group g c =
    let few = few_members (g.W.Words.name c.args.words.now).limits (g.W.Words.sight c.args.pass.now).seen c.args.self.now.comm c.args.self.now.round c.args.group.now c.requires.of.may_open c.requires.round in
    omega (arith, few)

pub overflow_cast-group-in_default-load_block : goal.overflow_cast-group-in_default-load_block
overflow_cast-group-in_default-load_block g c =
    let few = few_members (g.W.Words.name c.args.words.now).limits (g.W.Words.sight c.args.pass.now).seen c.args.self.now.comm c.args.self.now.round c.args.group.now c.requires.of.may_open c.requires.round in
    omega (arith, few)

pub returns-in-Some : goal.returns-in-Some
returns-in-Some g c =
    let r = c.args.self.now in
    let b = block_at r.comm r.round r.side in
    let old = g.W.Words.sight c.args.pass.now in
    let new = g.W.Words.sight c.load_block_rest-said.new.pass in
    let said = c.load_block_rest-said.ensures in
    let l = said.loads.1 in
    let site : peek_site r ≡ Site.Wing (Wing.Block b) = ap (λ f. if is_some f then Site.Wing (Wing.Block b) else Site.Block b) c.in-Some.is in
    let held = subst (λ o. IfSome o (λ w. IsBlockIn g.P.Meld.meld g.P.Packed.pack (view_of g.P.Packed.pack (g.W.Words.name c.args.words.now) old) b w × (has_block old.cached b ≡ true))) c.in-Some.is c.requires.first in
    rw (c.tells.ensures.done, c.tells.ensures.told)
    (told_on g.P.Meld.meld g.W.Words.alone c.args.group.now (over g.P.Packed.pack (g.W.Words.name c.args.words.now)) r old new c.requires
    (record { of = l.of; did = l.did; cached = l.cached; caches = l.caches; onward = omega (arith, l.steps); steps = omega (arith, l.steps) })
    (subst (λ s. IsStepAt s true old new) (sym site) (record { steps = l.steps; word = said.loads.0; last = l.last }))
    (Some c.load_block_rest-said.result) said.said (λ _. refl) (λ _. has_block_stays old.cached new.cached b l.cached held.1))

pub returns-in_default-load_block : goal.returns-in_default-load_block
returns-in_default-load_block g c =
    let r = c.args.self.now in
    let b = block_at r.comm r.round r.side in
    let old = g.W.Words.sight c.args.pass.now in
    let new = g.W.Words.sight c.load_block.new.pass in
    let l = c.load_block.ensures.peeks in
    let site : peek_site r ≡ Site.Block b = ap (λ f. if is_some f then Site.Wing (Wing.Block b) else Site.Block b) c.in_default.is in
    rw (c.tells-in_default-load_block.ensures.done, c.tells-in_default-load_block.ensures.told)
    (told_on g.P.Meld.meld g.W.Words.alone c.args.group.now (over g.P.Packed.pack (g.W.Words.name c.args.words.now)) r old new c.requires
    (record { of = l.of; did = l.did; cached = l.cached; caches = l.caches; onward = omega (arith, l.steps); steps = omega (arith, l.steps) })
    (subst (λ s. IsStepAt s true old new) (sym site) (record { steps = l.steps; word = l.word; last = l.last }))
    None tt (λ has. sym (ap is_some c.in_default-load_block.is) ∙ (sym l.known ∙ has_block_stays old.cached new.cached b l.cached has)) (λ some. absurd (cc some)))

pub returns : goal.returns
returns g c =
    let r = c.args.self.now in
    let b = block_at r.comm r.round r.side in
    let old = g.W.Words.sight c.args.pass.now in
    let new = g.W.Words.sight c.load_block.new.pass in
    let l = c.load_block.ensures.peeks in
    let none : r.first ≡ None = c.in_default.is in
    let site : peek_site r ≡ Site.Block b = ap (λ f. if is_some f then Site.Wing (Wing.Block b) else Site.Block b) none in
    held_on g.P.Meld.meld g.W.Words.alone c.args.group.now (over g.P.Packed.pack (g.W.Words.name c.args.words.now)) r old new c.requires
    (record { of = l.of; did = l.did; cached = l.cached; caches = l.caches; onward = omega (arith, l.steps); steps = omega (arith, l.steps) })
    (subst (λ s. IsStepAt s true old new) (sym site) (record { steps = l.steps; word = l.word; last = l.last }))
    c.in-Some-load_block.word none c.in-Some-load_block.ensures.first (l.known ∙ ap is_some c.in-Some-load_block.is)

use Rattle.std.proofs.Common.{◌∙◌, [], true, ap, refl, subst, arith}
use Rattle.ulfm_model.specs.Blocks.{IsSummed}
use Rattle.ulfm_model.proofs.{Lists.{prefix_trans}, Summed.{summed_none}}
use Rattle.ulfm_words.proofs.Trails.{did_prefix}
use Rattle.ulfm_steps.proofs.Reading.{world_round}
use Rattle.ulfm_intruder.proofs.{Spawning.{world_spawns}, Welcome.{append_begins, grown, unalone}}
use Rattle.ulfm_intruder.proofs.intruder.Intruder.spawn.Goals as goal

pub finish-requires-clause-may : goal.finish-requires-clause-may
finish-requires-clause-may g c =
    let h = c.args.pass.now.plain.seen in
    record {
      of = c.requires.of;
      round = rw (c.new.ensures, c.requires.world, c.deref.ensures.value, c.in-Ok.ensures) (world_round c.args.self.now.plain.limits h c.args.round c.requires.round);
      read = rw c.new.ensures (summed_none g.P.Meld.meld h c.args.parent c.args.round);
      first = rw c.new.ensures tt;
    }

pub finish-requires-then-mask-ne0-clause-may : goal.finish-requires-then-mask-ne0-clause-may
finish-requires-then-mask-ne0-clause-may g c =
    let some = c.if-mask-ne0.true in
    let meld = g.P.Meld.meld in
    let h = c.finish.new.pass.seen in
    let comm = ap (λ r. r.comm) c.new.ensures ∙ c.requires.world in
    let round = ap (λ r. r.round) c.new.ensures in
    let read =
    subst (λ group. IsSummed meld h 0 c.args.round group c.in-Some.all) (c.deref.ensures.value ∙ c.in-Ok.ensures)
    (subst (λ w. IsSummed meld h w c.args.round c.deref.result.now c.in-Some.all) comm (subst (λ k. IsSummed meld h c.new.result.comm k c.deref.result.now c.in-Some.all) round c.in-Some.ensures.read)) in
    rw (c.new-then-mask-ne0.ensures, c.requires.world) (world_spawns meld c.args.self.now.plain.limits h c.args.round c.in-Some.all c.in-Some.ensures.goes.of.legal c.requires.round read c.in-Ctx.mask c.in-Ctx.is (omega (arith, some)))

pub finish-requires-clause-within : goal.finish-requires-clause-within
finish-requires-clause-within g c = rw c.new.ensures (omega arith)

pub finish-requires-then-mask-ne0-clause-round : goal.finish-requires-then-mask-ne0-clause-round
finish-requires-then-mask-ne0-clause-round g c = rw c.new-then-mask-ne0.ensures c.requires.round

pub finish-requires-then-mask-ne0-clause-passed : goal.finish-requires-then-mask-ne0-clause-passed
finish-requires-then-mask-ne0-clause-passed g c = rw c.new-then-mask-ne0.ensures (λ j lt. absurd (omega (arith, lt)))

pub finish-requires-then-mask-ne0-clause-within : goal.finish-requires-then-mask-ne0-clause-within
finish-requires-then-mask-ne0-clause-within g c = rw c.new-then-mask-ne0.ensures (omega arith)

pub returns-in_default-finish-clause-did : goal.returns-in_default-finish-clause-did
returns-in_default-finish-clause-did g c = unalone true [] c.args.pass.now.plain.seen c.finish.new.pass.seen c.finish.ensures.goes.did

pub returns-in_default-body : goal.returns-in_default-body
returns-in_default-body g c =
    let went = c.finish.ensures.goes in
    record { of = went.of; did = unalone true [] c.args.pass.now.plain.seen c.finish.new.pass.seen went.did; cached = went.cached; trail = refl }

pub returns-clause-did : goal.returns-clause-did
returns-clause-did g c = unalone true [] c.args.pass.now.plain.seen c.finish.new.pass.seen c.finish.ensures.goes.did

pub returns-then-mask-ne0-clause-did : goal.returns-then-mask-ne0-clause-did
returns-then-mask-ne0-clause-did g c =
    let old = c.args.pass.now.plain.seen in
    let mid = c.finish.new.pass.seen in
    let new = c.finish-then-mask-ne0.new.pass.seen in
    grown old new (prefix_trans old mid new (did_prefix true [] old mid c.finish.ensures.goes.did) (append_begins _ _ _ _ mid new c.finish-then-mask-ne0.result c.finish-then-mask-ne0.ensures.outcome))

pub returns-then-mask-ne0-clause-cached : goal.returns-then-mask-ne0-clause-cached
returns-then-mask-ne0-clause-cached g c = prefix_trans _ _ _ c.finish.ensures.goes.cached c.finish-then-mask-ne0.ensures.cached

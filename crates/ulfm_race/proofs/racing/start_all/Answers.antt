use Rattle.std.proofs.Common.{◌+◌, ◌*◌, ◌≤◌, ap, sym, subst, length, length-append, [], ◌∷◌, arith, refl}
use Rattle.ulfm_laws.specs.Flags.{flag_meld}
use Rattle.ulfm_model.specs.{History.{IsLegal}, Records.{Record}}
use Rattle.ulfm_comm.specs.Counts.{records_of}
use Rattle.ulfm_race.specs.Races.{IsNewRank, IsStarted, Numbered, StartIs}
use Rattle.ulfm_race.specs.Worked.{steps_of}
use Rattle.ulfm_race.proofs.{Gathering.{starts_push}, Working.{start_steps, steps_push}}
use Rattle.ulfm_race.proofs.racing.start_all.Goals as goal

pub loop-rank-init : goal.loop-rank-init
loop-rank-init g c =
    let items = c.into_iter-rank-iterator.ensures.into_iter_gives.0 in (
      refl,
      c.requires.of,
      (
        0,
        omega (arith, ap length items),
        subst (λ rs. Numbered (IsNewRank c.args.race.now.plan) 0 (records_of rs)) (sym items) c.requires.ranks,
        subst
            (Numbered (λ i one. StartIs (λ h. IsStarted c.args.race.now.world.now c.args.race.now.said.now c.args.race.now.gate.now c.args.race.now.plan i h.promise) c.args.outside.now.seen i one) 0)
            (sym c.requires.nobody) tt,
        ap length c.requires.nobody,
        c.requires.room,
      ),
      omega arith,
    )

pub loop-rank-preserved : goal.loop-rank-preserved
loop-rank-preserved g c =
    let plan = c.args.race.now.plan in
    let inv = c.loop-rank.invariant.2 in
    let r = inv.0 in
    let was = c.loop-rank.outside.seen in
    let seen = c.start-one.new.outside.seen in
    let steps = c.in-Some.ensures.steps.0 in
    let rest = subst (λ rs. Numbered (IsNewRank plan) r (records_of rs)) steps inv.2 in
    let number = ap (λ (w : Record). w.number) rest.0.record_is in
    let legal = subst (λ l. IsLegal flag_meld l seen) c.requires.limits c.start-one.ensures.of.legal in
    let here = subst (λ n. StartIs (λ h. IsStarted c.args.race.now.world.now c.args.race.now.said.now c.args.race.now.gate.now plan n h.promise) seen n c.start-one.result) number c.start-one.ensures.started in
    let count = inv.4 in
    let pushed = c.push_reserved.ensures.items in
    let capacity = c.push_reserved.ensures.capacity in
    let most = 2 * c.args.race.now.world.now.limits.ranks in
    let few = start_steps c.args.race.now.world.now c.in-Some.rank.own.number c.start-one.result c.loop-rank.outside c.start-one.new.outside c.start-one.ensures.once in
    let more = steps_push most c.loop-rank.started.items c.start-one.result in
    let fewer = c.loop-rank.invariant.3 in (
      refl,
      c.start-one.ensures.of,
      (
        r + 1,
        omega (arith, ap length steps, inv.1),
        rest.1,
        starts_push plan was seen c.start-one.ensures.seen legal (λ i h. IsStarted c.args.race.now.world.now c.args.race.now.said.now c.args.race.now.gate.now plan i h.promise) c.loop-rank.started.items
            c.push_reserved.new.self.items c.start-one.result r pushed count inv.3 here,
        omega (arith, ap length pushed, length-append c.loop-rank.started.items (c.start-one.result ∷ []), count),
        omega (arith, capacity, inv.5),
      ),
      subst (λ xs. c.start-one.new.outside.steps ≤ c.args.outside.now.steps + steps_of most xs) (sym pushed) (omega (arith, few, more, fewer)),
    )

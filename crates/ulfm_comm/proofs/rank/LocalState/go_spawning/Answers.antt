use Rattle.std.proofs.Common.{rules, ◌≡◌, ℕ, true, false, ap, arith, ◌∙◌}
use Rattle.ulfm_words.proofs.Trails.{did_prefix}
use Rattle.ulfm_comm.proofs.Wings.{turn_same}
use Rattle.ulfm_model.specs.{Records.{Record}}
use Rattle.ulfm_steps.specs.declared.item.Item.TheVariants.{Comm as OfComm}
use Rattle.ulfm_comm.specs.{Phase.{IsFurther, IsMaking, Turns, reply_in}, Spawning.{SpawnIs}, Step.{TakesTurn}, StepsLeft.{FewerLeft, Spends, steps_left}}
use Rattle.ulfm_comm.specs.AlsoLeft.{AlsoSpends, FindsSetIn, also_left}
use Rattle.ulfm_comm.proofs.{AlsoLeft.{also_ends, also_spawns}, Known.{blocks_later, known_making}}
use Rattle.ulfm_comm.proofs.Spawning.{item_is, may_step, may_take, spawn_adds, spawn_caches, spawn_full, spawn_goes_on, spawn_makes, spawn_walks}
use Rattle.ulfm_comm.specs.declared.{phases.phase.Next.{Next}, phases.phase.Phase.TheVariants.{Spawning}, phases.spawning.Spawned.{Spawned}}
use Rattle.ulfm_comm.specs.declared.phases.spawning.Spawned.TheVariants as spawned
use Rattle.ulfm_comm.proofs.rank.LocalState.go_spawning.Goals as goal
use Rattle.ulfm_comm.proofs.rank.LocalState.go_spawning.Goals.{After-comm_of-comm, After-spawn}
use Rattle.ulfm_comm.specs.Local.{stance, local}
use Rattle.ulfm_comm.specs.Spawning.{seeking, target}
use Rattle.ulfm_comm.specs.Phase.{under_way}
use Rattle.ulfm_comm.specs.Step.{coming}
use Rattle.ulfm_words.specs.Steps.{view_of, over}
use Rattle.std.proofs.Common.{◌+◌, subst, sym, IsTrue}
use Rattle.ulfm_model.specs.declared.{event.Caller.TheVariants.{Rank}, event.Event.{Event}, event.Event.TheVariants.{Spawn}}
use Rattle.ulfm_comm.specs.Spawning.{SpawnTakes}
use Rattle.ulfm_comm.proofs.{Spawning.{rank_is}, Wins.{Comes, spawns_comes}}
use Rattle.ulfm_comm.specs.Prepared.{Prepared}

-- the item that is looked for
item : (g : _) (c : After-comm_of-comm g) → c.args.append.item ≡ OfComm c.comm_of-comm.result c.requires.stands.2.at.1.round
item g c =
    let s = c.requires.stands in
    item_is g.P.Meld.meld false g.W.Words.alone (λ here. absurd (cc here)) (over g.P.Packed.pack (g.W.Words.name c.args.words.now)) c.args.asked.now c.args.append c.args.context
    c.args.reach c.args.prepared.now s.0 s.1 c.args.self.now (g.W.Words.sight c.args.pass.now)
    c.requires.of s.2 c.comm_of-comm.result c.comm_of-comm.ensures

pub spawn-requires-clause-may : goal.spawn-requires-clause-may
spawn-requires-clause-may g c =
    let s = c.requires.stands in (
      s.2.at.1.round,
      may_step g.P.Meld.meld false g.W.Words.alone (λ here. absurd (cc here)) (over g.P.Packed.pack (g.W.Words.name c.args.words.now)) c.args.asked.now c.args.append
          c.args.context c.args.reach c.args.prepared.now s.0 s.1 c.args.self.now (g.W.Words.sight c.args.pass.now)
          c.requires.of s.2 c.comm_of-comm.result c.comm_of-comm.ensures,
    )

pub spawn-requires-clause-holds : goal.spawn-requires-clause-holds
spawn-requires-clause-holds g c =
    let s = c.requires.stands in
    may_take g.P.Meld.meld false g.W.Words.alone (λ here. absurd (cc here)) (over g.P.Packed.pack (g.W.Words.name c.args.words.now)) c.args.asked.now c.args.append
    c.args.context c.args.reach c.args.prepared.now s.0 s.1 c.args.self.now (g.W.Words.sight c.args.pass.now)
    c.requires.of s.2 c.comm_of-comm.result c.comm_of-comm.ensures

pub spawn-requires-clause-places : goal.spawn-requires-clause-places
spawn-requires-clause-places g c = c.requires.stands.2.at.2

-- what the step in the list of communicators came to, in the rank's turn
spawns : (g : _) (c : After-spawn g) (result : Spawned) (next : Next g.row.P.Denot) (left : Prepared) (new : Record)
    → SpawnIs g.P.Meld.meld g.W.Words.alone (target c.comm_of-comm.result c.requires.stands.2.at.1.round c.args.context c.args.prepared.now.members) (seeking c.args.append (local c.args.self.now (view_of g.P.Packed.pack (g.W.Words.name c.args.words.now) (g.W.Words.sight c.args.pass.now)))) result (seeking c.spawn.new.append (local c.spawn.new.self (view_of g.P.Packed.pack (g.W.Words.name c.args.words.now) (g.W.Words.sight c.spawn.new.pass))))
    → (c.args.whole ≡ false → FewerLeft (steps_left (g.W.Words.name c.args.words.now).limits c.args.self.now c.args.asked.now
    (Spawning c.args.append c.args.context c.args.reach)) (g.W.Words.name c.args.words.now).limits new c.args.asked.now next)
    → Spends (steps_left (g.W.Words.name c.args.words.now).limits c.args.self.now c.args.asked.now (Spawning c.args.append c.args.context c.args.reach))
    (g.W.Words.name c.args.words.now).limits new c.args.asked.now next (g.W.Words.sight c.args.pass.now) (g.W.Words.sight c.spawn.new.pass)
    → (c.args.whole ≡ true → IsFurther (Spawning c.args.append c.args.context c.args.reach) next) → new.seen ≡ c.args.self.now.seen → IsMaking next
    → (FindsSetIn c.args.self.now c.args.asked.now (g.W.Words.sight c.args.pass.now).cached (Spawning c.args.append c.args.context c.args.reach)
    → AlsoSpends (also_left (g.W.Words.name c.args.words.now).limits c.args.self.now c.args.asked.now
    (Spawning c.args.append c.args.context c.args.reach)) (g.W.Words.name c.args.words.now).limits c.args.asked.now (stance c.args.self.now (g.W.Words.sight c.args.pass.now)) next (stance new (g.W.Words.sight c.spawn.new.pass)))
    → Turns g.P.Meld.meld g.W.Words.alone (under_way c.args.asked.now (Spawning c.args.append c.args.context c.args.reach) c.args.prepared.now) (local c.args.self.now (view_of g.P.Packed.pack (g.W.Words.name c.args.words.now) (g.W.Words.sight c.args.pass.now))) next left (local new (view_of g.P.Packed.pack (g.W.Words.name c.args.words.now) (g.W.Words.sight c.spawn.new.pass)))
    → TakesTurn g.P.Meld.meld g.W.Words.alone c.args.whole (under_way c.args.asked.now (Spawning c.args.append c.args.context c.args.reach) c.args.prepared.now) (local c.args.self.now (view_of g.P.Packed.pack (g.W.Words.name c.args.words.now) (g.W.Words.sight c.args.pass.now))) (coming next left) (local new (view_of g.P.Packed.pack (g.W.Words.name c.args.words.now) (g.W.Words.sight c.spawn.new.pass)))
spawns g c result next left new is nearer spends further sees leads also turns =
    let s = c.requires.stands in
    let walks = spawn_walks g.P.Meld.meld false g.W.Words.alone (λ here. absurd (cc here)) (over g.P.Packed.pack (g.W.Words.name c.args.words.now)) c.args.asked.now
    c.args.append c.args.context c.args.reach c.args.prepared.now s.0 s.1 c.args.self.now (g.W.Words.sight c.args.pass.now)
    c.requires.of s.2 c.comm_of-comm.result c.comm_of-comm.ensures
    c.spawn.new.append c.spawn.new.self (g.W.Words.sight c.spawn.new.pass) result is in
    record {
      walks = walks;
      beside = turn_same _ _ _ _ _ (λ w. w) (did_prefix g.W.Words.alone _ _ _ walks.did)
          (spawn_caches g.P.Meld.meld false g.W.Words.alone (λ here. absurd (cc here)) (over g.P.Packed.pack (g.W.Words.name c.args.words.now)) c.args.asked.now c.args.append
          c.args.context c.args.reach c.args.prepared.now s.0 s.1 c.args.self.now (g.W.Words.sight c.args.pass.now)
          c.requires.of s.2 c.comm_of-comm.result c.comm_of-comm.ensures
          c.spawn.new.append c.spawn.new.self (g.W.Words.sight c.spawn.new.pass) result is);
      named = search rules;
      nearer = nearer;
      spends = spends;
      also = also;
      further = further;
      adds = λ not.
          spawn_adds g.P.Meld.meld false g.W.Words.alone (λ here. absurd (cc here)) (over g.P.Packed.pack (g.W.Words.name c.args.words.now)) c.args.asked.now c.args.append
          c.args.context c.args.reach c.args.prepared.now s.0 s.1 c.args.self.now (g.W.Words.sight c.args.pass.now)
          c.requires.of s.2 c.comm_of-comm.result c.comm_of-comm.ensures
          c.spawn.new.append c.spawn.new.self (g.W.Words.sight c.spawn.new.pass) (reply_in next) result is;
      sees = sees;
      looks = λ at. absurd (cc at);
      knows = λ stand.
          let cached = (g.W.Words.sight c.spawn.new.pass).cached in
          known_making c.args.self.now c.args.asked.now cached next leads (blocks_later c.args.self.now c.args.asked.now
          (g.W.Words.sight c.args.pass.now).cached cached walks.cached stand);
      leads = leads;
      turns = turns;
    }

pub returns-in-Unknown-clause-turn : goal.returns-in-Unknown-clause-turn
returns-in-Unknown-clause-turn g c =
    let is = c.in-Unknown.ensures.spawns c.requires.stands.2.at.1.round (item g (goal.at.returns-in-Unknown-clause-turn g c).After-comm_of-comm) in
    spawns g (goal.at.returns-in-Unknown-clause-turn g c).After-spawn spawned.Unknown _ _ c.spawn.new.self is (search rules) (search rules) (search rules) (search rules)
    (search rules)
    (λ all. also_spawns (g.W.Words.name c.args.words.now).limits c.args.asked.now c.args.self.now c.spawn.new.self (g.W.Words.sight c.args.pass.now)
    (g.W.Words.sight c.spawn.new.pass) c.args.append c.spawn.new.append c.args.context c.args.reach c.in-Unknown.ensures.takes.turns is.1)
    (λ alone only old before s.
    spawn_goes_on g.P.Meld.meld alone g.W.Words.alone only (over g.P.Packed.pack (g.W.Words.name c.args.words.now)) c.args.asked.now c.args.append c.args.context c.args.reach
    c.args.prepared.now old before c.args.self.now (g.W.Words.sight c.args.pass.now)
    c.requires.of s c.comm_of-comm.result c.comm_of-comm.ensures
    c.spawn.new.append c.spawn.new.self (g.W.Words.sight c.spawn.new.pass) c.spawn.new.prepared (c.spawn.ensures.kept c.in-Unknown.is)
    c.in-Unknown.ensures.spawns)

pub returns-in-Made-clause-turn : goal.returns-in-Made-clause-turn
returns-in-Made-clause-turn g c =
    let is = c.in-Made.ensures.spawns c.requires.stands.2.at.1.round (item g (goal.at.returns-in-Made-clause-turn g c).After-comm_of-comm) in
    spawns g (goal.at.returns-in-Made-clause-turn g c).After-spawn (spawned.Made c.in-Made.comm c.in-Made.size) _ _ c.spawn.new.self is (search rules) (search rules)
    (search rules) (ap (λ (w : Record). w.seen) is.1.record_is) (search rules)
    (λ all. also_ends _ (g.W.Words.name c.args.words.now).limits c.args.asked.now c.args.self.now c.spawn.new.self (g.W.Words.sight c.args.pass.now)
    (g.W.Words.sight c.spawn.new.pass) _ (omega (arith, c.in-Made.ensures.takes.turns)) (ap (λ (w : Record). w.seen) is.1.record_is))
    (λ alone only old before s.
    spawn_makes g.P.Meld.meld alone g.W.Words.alone only (over g.P.Packed.pack (g.W.Words.name c.args.words.now)) c.args.asked.now c.args.append c.args.context c.args.reach
    c.args.prepared.now old before c.args.self.now (g.W.Words.sight c.args.pass.now)
    c.requires.of s c.comm_of-comm.result c.comm_of-comm.ensures
    c.spawn.new.append c.spawn.new.self (g.W.Words.sight c.spawn.new.pass) c.in-Made.comm c.in-Made.size c.in-Made.ensures.spawns)

pub returns-in-Full-clause-turn : goal.returns-in-Full-clause-turn
returns-in-Full-clause-turn g c =
    let is = c.in-Full.ensures.spawns c.requires.stands.2.at.1.round (item g (goal.at.returns-in-Full-clause-turn g c).After-comm_of-comm) in
    spawns g (goal.at.returns-in-Full-clause-turn g c).After-spawn spawned.Full _ _ c.close.new.self is (search rules) (search rules) (search rules)
    (ap (λ (w : Record). w.seen) c.close.ensures ∙ ap (λ (w : Record). w.seen) is.1) (search rules)
    (λ all. also_ends _ (g.W.Words.name c.args.words.now).limits c.args.asked.now c.args.self.now c.close.new.self (g.W.Words.sight c.args.pass.now)
    (g.W.Words.sight c.spawn.new.pass) _ (omega (arith, c.in-Full.ensures.takes.turns))
    (ap (λ (w : Record). w.seen) c.close.ensures ∙ ap (λ (w : Record). w.seen) is.1)) (λ alone only old before s.
    spawn_full g.P.Meld.meld alone g.W.Words.alone only (over g.P.Packed.pack (g.W.Words.name c.args.words.now)) c.args.asked.now c.args.append c.args.context c.args.reach
    c.args.prepared.now old before c.args.self.now (g.W.Words.sight c.args.pass.now)
    c.requires.of s c.comm_of-comm.result c.comm_of-comm.ensures
    c.spawn.new.append c.spawn.new.self (g.W.Words.sight c.spawn.new.pass) c.close.new.self c.in-Full.ensures.spawns c.close.ensures)

-- the communicator comes where it may
wins : (g : _) (c : After-spawn g) → c.args.whole ≡ false → IsTrue g.W.Words.alone → c.args.append.empty ≡ true → (event : Event g.row.P.Denot)
    → (parent k : ℕ) × (c.args.append.item ≡ OfComm parent k) × (event ≡ Spawn (c.args.append.index + 1) parent k)
    → Comes g.P.Meld.meld (g.W.Words.name c.args.words.now).limits (Rank c.args.self.now.number) event (g.W.Words.sight c.args.pass.now).seen
    (g.W.Words.sight c.spawn.new.pass).seen
wins g c not here some event is =
    let name = over g.P.Packed.pack (g.W.Words.name c.args.words.now) in
    let own = c.args.self.now in
    let now = g.W.Words.sight c.args.pass.now in
    let after = g.W.Words.sight c.spawn.new.pass in
    let append = c.args.append in
    let comm = c.comm_of-comm.result in
    let s = c.requires.stands in
    let may = may_step g.P.Meld.meld false g.W.Words.alone (λ here. absurd (cc here)) name c.args.asked.now append c.args.context c.args.reach c.args.prepared.now
    s.0 s.1 own now c.requires.of s.2 comm c.comm_of-comm.ensures in
    let mine = rank_is g.P.Meld.meld false g.W.Words.alone (λ here. absurd (cc here)) name c.args.asked.now append c.args.context c.args.reach c.args.prepared.now
    s.0 s.1 own now c.requires.of s.2 comm c.comm_of-comm.ensures in
    let both : OfComm is.0 is.1 ≡ OfComm comm s.2.at.1.round = sym is.2 ∙ item g (goal.at.After-spawn g c).After-comm_of-comm in
    let first : is.0 ≡ comm = cc both in
    let there : append.item ≡ OfComm comm is.1 = is.2 ∙ ap (λ n. OfComm n is.1) first in
    let takes = subst (λ whole. SpawnTakes whole name.limits append c.spawn.result c.spawn.new.append now after) not c.spawn.ensures.takes in
    let comes = spawns_comes g.P.Meld.meld g.W.Words.alone here name comm is.1 c.args.context c.args.prepared.now.members append c.spawn.new.append own c.spawn.new.self
    now after some may.more c.spawn.result (c.spawn.ensures.spawns is.1 there) takes in
    let named : Spawn (append.index + 1) comm is.1 ≡ event = ap (λ n. Spawn (append.index + 1) n is.1) (sym first) ∙ sym is.3 in
    subst (λ e. Comes g.P.Meld.meld name.limits (Rank own.number) e now.seen after.seen) named
    (subst (λ by. Comes g.P.Meld.meld name.limits by (Spawn (append.index + 1) comm is.1) now.seen after.seen) mine comes)

pub returns-in-Unknown-clause-wins : goal.returns-in-Unknown-clause-wins
returns-in-Unknown-clause-wins g c = λ not here wings some. wins g (goal.at.returns-in-Unknown-clause-wins g c).After-spawn not here some

pub returns-in-Made-clause-wins : goal.returns-in-Made-clause-wins
returns-in-Made-clause-wins g c = λ not here wings some. wins g (goal.at.returns-in-Made-clause-wins g c).After-spawn not here some

pub returns-in-Full-clause-wins : goal.returns-in-Full-clause-wins
returns-in-Full-clause-wins g c = λ not here wings some. wins g (goal.at.returns-in-Full-clause-wins g c).After-spawn not here some

use Rattle.std.proofs.Common.{rules, ◌≤◌, [], ap, arith, refl, subst, sym, ◌∙◌, IsTrue, Bool, false}
use Rattle.ulfm_words.proofs.Trails.{did_prefix}
use Rattle.ulfm_comm.proofs.{Turning.{turn_past}, Wings.{turn_same}}
use mathlib.Core.List.{IsPrefix}
use Rattle.ulfm_model.specs.Records.{held_at, Record}
use Rattle.ulfm_model.specs.Terms.{comm_of}
use Rattle.ulfm_words.specs.Steps.{view_of, Sight, over}
use Rattle.ulfm_steps.specs.ReadsOn.{AtFailure}
use Rattle.ulfm_comm.specs.{Spawning.{HasReached}, Phase.{Stands}, Step.{Walks}}
use Rattle.ulfm_comm.specs.declared.phases.phase.Phase.TheVariants.{ReadingOn as AtReadingOn}
use Rattle.ulfm_comm.proofs.{AlsoLeft.{also_reached, also_reads_on}, Known.{blocks_later, known_next}, StepsLeft.{below_more}}
use Rattle.ulfm_comm.proofs.Spawning.{has_reached, held_is, may_read_on, reads_further}
use Rattle.ulfm_comm.proofs.AmongOthers.{did_loosely}
use Rattle.ulfm_comm.proofs.rank.LocalState.go_reading_on.Goals as goal
use Rattle.ulfm_comm.proofs.rank.LocalState.go_reading_on.Goals.{After-read_on}
use Rattle.ulfm_comm.specs.Local.{local}

pub read_on-requires-clause-may : goal.read_on-requires-clause-may
read_on-requires-clause-may g c =
    let name = over g.P.Packed.pack (g.W.Words.name c.args.words.now) in
    let now = g.W.Words.sight c.args.pass.now in
    let stands = c.requires.stands in
    let old = stands.0 in
    let before = stands.1 in
    let at = stands.2.at in
    let comm = comm_of c.args.asked.now in (
      at.1,
      ap (held_at c.args.self.now) c.comm_of.ensures ∙ held_is g.P.Meld.meld name.limits false comm c.args.made.round c.args.made.mask at.1 c.args.made.count
          old before.seen c.args.self.now now.seen at.2,
      may_read_on g.P.Meld.meld name.limits false comm c.args.made.round c.args.made.mask at.1 c.args.made.count old before.seen c.args.self.now now.seen at.2,
      at.3,
    )

-- a call that stands on its way through the list
abbrev StoodAt : (g : _) → After-read_on g → Bool → Record → Sight g.row.P.Denot → Type 0
StoodAt g c alone old before = Stands g.P.Meld.meld alone (local old (view_of g.P.Packed.pack (g.W.Words.name c.args.words.now) before)) (record {
  asked = c.args.asked.now;
  phase = AtReadingOn c.args.on c.args.made;
  prepared = c.args.prepared.now;
}) (local c.args.self.now (view_of g.P.Packed.pack (g.W.Words.name c.args.words.now) (g.W.Words.sight c.args.pass.now)))

-- how far the failures that are seen now reach
at_failure : (g : _) (c : After-read_on g) (alone : Bool) (old : Record) (before : Sight g.row.P.Denot) (s : StoodAt g c alone old before)
    → AtFailure s.at.1.group c.args.made.count c.read_on.new.on c.read_on.new.self.seen
at_failure g c alone old before s =
    let name = over g.P.Packed.pack (g.W.Words.name c.args.words.now) in
    let now = g.W.Words.sight c.args.pass.now in
    let comm = comm_of c.args.asked.now in
    c.read_on.ensures.at s.at.1
    (ap (held_at c.args.self.now) c.comm_of.ensures ∙ held_is g.P.Meld.meld name.limits alone comm c.args.made.round c.args.made.mask s.at.1 c.args.made.count
    old before.seen c.args.self.now now.seen s.at.2)

-- the decision's whole failed group is known
reached : (g : _) (c : After-read_on g) (alone : Bool) → (IsTrue alone → IsTrue g.W.Words.alone) → (old : Record) (before : Sight g.row.P.Denot)
    → StoodAt g c alone old before → c.args.made.count ≤ c.read_on.new.on.found
    → HasReached g.P.Meld.meld alone c.args.asked.now c.args.made c.read_on.new.on.reach (local old (view_of g.P.Packed.pack (g.W.Words.name c.args.words.now) before)) (local c.read_on.new.self (view_of g.P.Packed.pack (g.W.Words.name c.args.words.now) (g.W.Words.sight c.read_on.new.pass)))
reached g c alone only old before s enough =
    let now = g.W.Words.sight c.args.pass.now in
    let after = g.W.Words.sight c.read_on.new.pass in
    let ensures = c.read_on.ensures in
    has_reached g.P.Meld.meld alone (over g.P.Packed.pack (g.W.Words.name c.args.words.now)) c.args.asked.now c.args.on c.args.made c.args.prepared.now old before
    c.args.self.now now s c.read_on.new.self after
    (did_loosely alone g.W.Words.alone only [] now.seen after.seen ensures.goes.did) ensures.goes.onward ensures.kept ensures.goes_on ensures.begins
    c.read_on.new.on (at_failure g c alone old before s) enough

pub reached-requires-clause-reached : goal.reached-requires-clause-reached
reached-requires-clause-reached g c =
    let stands = c.requires.stands in (
      stands.0,
      stands.1,
      reached g (goal.at.reached-requires-clause-reached g c).After-read_on false (λ here. absurd (cc here)) stands.0 stands.1 stands.2 c.if-on-made.false,
    )

-- the loads add nothing
walks : (g : _) (c : After-read_on g) → Walks g.P.Meld.meld g.W.Words.alone c.args.self.now.number (view_of g.P.Packed.pack (g.W.Words.name c.args.words.now) (g.W.Words.sight c.args.pass.now)) (view_of g.P.Packed.pack (g.W.Words.name c.args.words.now) (g.W.Words.sight c.read_on.new.pass))
walks g c = let goes = c.read_on.ensures.goes in record { of = goes.of; own = []; did = goes.did; onward = goes.onward; cached = goes.cached }

pub returns-then-on-made : goal.returns-then-on-made
returns-then-on-made g c =
    let now = g.W.Words.sight c.args.pass.now in
    let after = g.W.Words.sight c.read_on.new.pass in
    turn_past refl (walks g (goal.at.returns-then-on-made g c).After-read_on)
    (turn_same _ _ _ _ _ (λ w. w) (did_prefix g.W.Words.alone _ _ _ c.read_on.ensures.goes.did) c.read_on.ensures.goes.caches) (λ single. (search rules, search rules))
    (search rules)
    (λ all. also_reads_on (g.W.Words.name c.args.words.now).limits c.args.asked.now c.args.self.now c.read_on.new.self c.read_on.new.self
    now after c.args.on c.args.made _ c.read_on.ensures.further refl (omega arith) (omega arith))
    (search rules) c.read_on.ensures.goes.did c.read_on.ensures.goes_on
    (λ stand. blocks_later c.args.self.now c.args.asked.now now.cached after.cached c.read_on.ensures.goes.cached stand) (search rules)
    (λ alone only old before s.
    let ensures = c.read_on.ensures in
    reads_further g.P.Meld.meld alone (over g.P.Packed.pack (g.W.Words.name c.args.words.now)) c.args.asked.now c.args.on c.args.made c.args.prepared.now old before
    c.args.self.now now s c.read_on.new.self after
    (did_loosely alone g.W.Words.alone only [] now.seen after.seen ensures.goes.did) ensures.goes.onward ensures.kept ensures.goes_on ensures.begins
    c.read_on.new.on c.args.prepared.now
    (at_failure g (goal.at.returns-then-on-made g c).After-read_on alone old before s) c.if-on-made.true)

pub returns : goal.returns
returns g c =
    let cached = (g.W.Words.sight c.read_on.new.pass).cached in
    turn_past refl (walks g (goal.at.returns g c).After-read_on)
    (turn_same _ _ _ _ _ (λ w. w) (did_prefix g.W.Words.alone _ _ _ c.read_on.ensures.goes.did) c.read_on.ensures.goes.caches) (λ single. (search rules, search rules))
    (search rules)
    (λ all.
    also_reads_on (g.W.Words.name c.args.words.now).limits c.args.asked.now c.args.self.now c.read_on.new.self c.reached.new.self
    (g.W.Words.sight c.args.pass.now) (g.W.Words.sight c.read_on.new.pass) c.args.on c.args.made c.reached.result c.read_on.ensures.further
    c.reached.ensures.sees
    (also_reached (g.W.Words.name c.args.words.now).limits c.reached.new.self c.args.asked.now c.reached.result c.reached.ensures.further
    c.reached.ensures.nearer) (below_more 4 5 (omega arith) c.reached.result c.reached.ensures.further))
    (search rules) c.read_on.ensures.goes.did (subst (IsPrefix c.args.self.now.seen) (sym c.reached.ensures.sees) c.read_on.ensures.goes_on)
    (λ stand. known_next c.args.self.now c.args.asked.now cached c.reached.result (below_more 4 5 (omega arith) c.reached.result c.reached.ensures.further)
    (blocks_later c.args.self.now c.args.asked.now (g.W.Words.sight c.args.pass.now).cached cached c.read_on.ensures.goes.cached stand))
    (search rules)
    (λ alone only old before s. c.reached.ensures.turns alone old before (reached g (goal.at.returns g c).After-read_on alone only old before s c.if-on-made.false))

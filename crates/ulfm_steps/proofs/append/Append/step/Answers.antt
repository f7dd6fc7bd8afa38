use Rattle.std.proofs.Common.{◌≡◌, ◌≢◌, ℕ, ◌+◌, ◌≤◌, not, false, Some, slice_get, refl, subst, ap, sym, ◌∙◌, arith, rules}
use Rattle.ulfm_words.specs.Steps.{over, view_of, Goes}
use Rattle.ulfm_words.proofs.Trails.{did_prefix}
use Rattle.ulfm_steps.specs.{Appends.{Passed, items, place_at, room, turns_left}, Turns.{TakesFirst}}
use Rattle.ulfm_steps.proofs.{Appending.{may_add, passed_stays, passed_push, turns_fall, turns_some}, Turning.{takes_exchange, takes_load}}
use Rattle.ulfm_steps.proofs.append.Append.step.Goals as goal
use Rattle.ulfm_steps.proofs.append.Append.step.Goals.{After-eq, then-self+in-Err, else-self+in-Some}

pub set_at-requires-clause-may : goal.set_at-requires-clause-may
set_at-requires-clause-may g c =
    may_add g.P.Meld.meld (g.W.Words.name c.args.words.now).limits (g.W.Words.sight c.args.pass.now).seen c.args.self.now.item c.args.self.now.index c.requires.may c.requires.passed c.requires.more

pub returns-in-None-clause-passed : goal.returns-in-None-clause-passed
returns-in-None-clause-passed g c =
    let old = (g.W.Words.sight c.args.pass.now).seen in
    let new = (g.W.Words.sight c.load_at.new.pass).seen in
    passed_stays c.args.self.now.item c.args.self.now.index old new (did_prefix g.W.Words.alone _ old new c.load_at.ensures.loads.did) c.requires.passed

-- whichever step it was, another item stands at the place
goes : (g : _) (c : After-eq g) → Goes g.P.Meld.meld g.W.Words.alone false 1 (view_of g.P.Packed.pack (g.W.Words.name c.args.words.now) (g.W.Words.sight c.args.pass.now)) (view_of g.P.Packed.pack (g.W.Words.name c.args.words.now) (g.W.Words.sight c.if-self.pass))
goes g c = elim c.if-self.branch [
  | then-self+in-Err w ↦ let t = w.in-Err.ensures.tries in rw w.pass-is (record { of = t.of; did = t.outcome; cached = t.cached; caches = t.caches; onward = omega (arith, t.steps); steps = omega (arith, t.steps) })
  | else-self+in-Some w ↦ let l = w.load_at.ensures.loads in rw w.pass-is (record { of = l.of; did = l.did; cached = l.cached; caches = l.caches; onward = omega (arith, l.steps); steps = omega (arith, l.steps) })
]

-- .. and it was one step
took : (g : _) (c : After-eq g) (after : ℕ) → after + 1 ≤ turns_left (room c.args.self.now.item (g.W.Words.name c.args.words.now).limits) c.args.self.now
    → TakesFirst false (place_at c.args.self.now.item c.args.self.now.index) (not c.args.self.now.empty) (turns_left (room c.args.self.now.item (g.W.Words.name c.args.words.now).limits) c.args.self.now) after (g.W.Words.sight c.args.pass.now) (g.W.Words.sight c.if-self.pass)
took g c after fewer =
    let a = c.args.self.now in
    let name = over g.P.Packed.pack (g.W.Words.name c.args.words.now) in
    let before = turns_left (room a.item name.limits) a in
    let place = place_at a.item a.index in
    let old = g.W.Words.sight c.args.pass.now in
    elim c.if-self.branch [
      | then-self+in-Err w ↦
          subst (λ p. TakesFirst false place (not a.empty) before after old (g.W.Words.sight p)) (sym w.pass-is)
          (subst (λ b. TakesFirst false place b before after old (g.W.Words.sight w.set_at.new.pass)) (sym (ap not w.if-self.true))
          (takes_exchange g.P.Meld.meld g.P.Packed.pack g.W.Words.alone name place old (g.W.Words.sight w.set_at.new.pass) _ _ before after w.in-Err.ensures.tries fewer))
      | else-self+in-Some w ↦
          subst (λ p. TakesFirst false place (not a.empty) before after old (g.W.Words.sight p)) (sym w.pass-is)
          (subst (λ b. TakesFirst false place b before after old (g.W.Words.sight w.load_at.new.pass)) (sym (ap not w.if-self.false))
          (takes_load g.P.Meld.meld g.P.Packed.pack g.W.Words.alone name place old (g.W.Words.sight w.load_at.new.pass) place before after w.load_at.ensures.loads refl fewer))
    ]

stands : (g : _) (c : After-eq g) → slice_get (items c.args.self.now.item (g.W.Words.sight c.if-self.pass).seen) c.args.self.now.index ≡ Some c.if-self.standing
stands g c = elim c.if-self.branch [
  | then-self+in-Err w ↦ rw (w.pass-is, w.standing-is) w.in-Err.ensures.stands
  | else-self+in-Some w ↦ rw (w.pass-is, w.standing-is) (sym w.load_at.ensures.stands ∙ w.in-Some.is)
]

passed : (g : _) (c : After-eq g) → c.if-self.standing ≢ c.args.self.now.item → Passed (g.W.Words.sight c.if-self.pass).seen c.args.self.now.item (c.args.self.now.index + 1)
passed g c other =
    let old = (g.W.Words.sight c.args.pass.now).seen in
    let new = (g.W.Words.sight c.if-self.pass).seen in
    let still = passed_stays c.args.self.now.item c.args.self.now.index old new (did_prefix g.W.Words.alone _ old new (goes g c).did) c.requires.passed in
    passed_push c.args.self.now.item c.args.self.now.index new c.if-self.standing still (stands g c) other

pub returns-then-self-room_in-clause-goes : goal.returns-then-self-room_in-clause-goes
returns-then-self-room_in-clause-goes g c =
    let at = (goal.at.returns-then-self-room_in-clause-goes g c).After-eq in
    let other : c.if-self.standing ≢ c.args.self.now.item = search rules in
    let all : c.args.self.now.index + 1 ≡ room c.args.self.now.item (g.W.Words.name c.args.words.now).limits = c.if-self-room_in.true ∙ (c.room_in.ensures ∙ ap (room c.args.self.now.item) c.limits.ensures.limits) in
    let went = goes g at in
    record { of = went.of; outcome = (went.did, rw (← all) (passed g at other)); cached = went.cached; caches = went.caches; onward = went.onward; steps = went.steps }

pub returns-clause-passed : goal.returns-clause-passed
returns-clause-passed g c =
    let other : c.if-self.standing ≢ c.args.self.now.item = search rules in
    passed g (goal.at.returns-clause-passed g c).After-eq other

pub returns-then-eq-clause-takes : goal.returns-then-eq-clause-takes
returns-then-eq-clause-takes g c =
    took g (goal.at.returns-then-eq-clause-takes g c).After-eq 0 (turns_some (room c.args.self.now.item (g.W.Words.name c.args.words.now).limits) c.args.self.now c.requires.more)

pub returns-then-self-room_in-clause-takes : goal.returns-then-self-room_in-clause-takes
returns-then-self-room_in-clause-takes g c =
    took g (goal.at.returns-then-self-room_in-clause-takes g c).After-eq 0 (turns_some (room c.args.self.now.item (g.W.Words.name c.args.words.now).limits) c.args.self.now c.requires.more)

pub returns-clause-takes : goal.returns-clause-takes
returns-clause-takes g c =
    let a = c.args.self.now in
    let places = room a.item (g.W.Words.name c.args.words.now).limits in
    took g (goal.at.returns-clause-takes g c).After-eq (turns_left places (record a { index = a.index + 1; empty = false })) (turns_fall places a c.requires.more)

-- The steps of machines.
use Rattle.std.proofs.Common.{◌≡◌, ℕ, ◌+◌, ◌-◌, ◌≤◌, Bool, true, false, [], refl, ap, subst, ◌∙◌, arith}
use Rattle.ulfm_model.specs.declared.{event.Entry.{Entry}, place.Place.{Place}}
use Rattle.ulfm_model.proofs.Lists.{prefix_trans}
use Rattle.ulfm_words.specs.{Steps.{Goes, IsView, Loads, Over, Sight}, Tries.{Tries}}
use Rattle.ulfm_words.specs.declared.step.Site.{Site}
use Rattle.ulfm_words.proofs.{Growing.{prefix_self}, Trails.{did_none, did_wait}}
use Rattle.ulfm_words.specs.Steps.{view_at}
use Rattle.ulfm_words.specs.Tries.{attempt}
use Rattle.ulfm_steps.specs.Turns.{IsStepAt, TakesFirst, TakesAt}

module _ {P : Type 0} (meld : P → P → P) (pack : P → ℕ) (alone : Bool) (name : Over P) (place : Place) (old new : Sight P) where
  -- a load is one step, whatever it found
  pub takes_load : (at : Place) (before after : ℕ) → Loads meld pack alone place (view_at name old) (view_at name new) → place ≡ at → after + 1 ≤ before → TakesFirst false at true before after old new
  takes_load at before after loads there fewer =
      subst (λ p. TakesFirst false p true before after old new) there
      (record { one = λ _. record { steps = loads.steps; word = _; last = loads.last }; some = omega (arith, loads.steps); turns = omega (arith, loads.steps, fewer) })

  -- .. and so is an exchange
  pub takes_exchange : (entry : Entry P) (won : Bool) (before after : ℕ) → Tries meld pack alone (attempt place entry) won (view_at name old) (view_at name new) → after + 1 ≤ before → TakesFirst false place false before after old new
  takes_exchange entry won before after tries fewer =
      record { one = λ _. record { steps = tries.steps; word = _; last = tries.last }; some = omega (arith, tries.steps); turns = omega (arith, tries.steps, fewer) }

-- a load makes no event
pub load_goes : {P : Type 0} (meld : P → P → P) (pack : P → ℕ) (alone : Bool) (name : Over P) (place : Place) (old new : Sight P) → Loads meld pack alone place (view_at name old) (view_at name new) → Goes meld alone false 1 (view_at name old) (view_at name new)
load_goes meld pack alone name place old new loads = record { of = loads.of; did = loads.did; cached = loads.cached; caches = loads.caches; onward = omega (arith, loads.steps); steps = omega (arith, loads.steps) }

-- steps that make no event, and more of them
pub goes_then : {P : Type 0} (meld : P → P → P) (alone : Bool) (name : Over P) (a b c : ℕ) (x y z : Sight P) → a ≤ b → b ≤ c → Goes meld alone false (b - a) (view_at name x) (view_at name y) → Goes meld alone false (c - b) (view_at name y) (view_at name z) → Goes meld alone false (c - a) (view_at name x) (view_at name z)
goes_then meld alone name a b c x y z ab bc first then =
    record {
      of = then.of;
      did = did_wait alone [] x.seen y.seen z.seen first.did then.did;
      cached = prefix_trans x.cached y.cached z.cached first.cached then.cached;
      caches = then.caches ∙ first.caches;
      onward = omega (arith, first.onward, then.onward);
      steps = omega (arith, ab, bc, first.steps, then.steps);
    }

-- .. none
pub goes_none : {P : Type 0} (meld : P → P → P) (alone : Bool) (name : Over P) (most : ℕ) (x : Sight P) → IsView meld (view_at name x) → Goes meld alone false most (view_at name x) (view_at name x)
goes_none meld alone name most x of = record { of = of; did = did_none alone x.seen; cached = prefix_self x.cached; caches = refl; onward = omega arith; steps = omega arith }

-- steps that a machine had made before, unless it makes one alone
pub takes_on_at : {P : Type 0} (whole : Bool) (site at : Site) (load kind : Bool) (before between after : ℕ) (x y z : Sight P) → (whole ≡ false → (x.steps ≡ y.steps) × (at ≡ site) × (kind ≡ load)) → x.steps ≤ y.steps → y.steps + between ≤ x.steps + before
    → TakesAt false at kind between after y z → TakesAt whole site load before after x z
takes_on_at {P} whole site at load kind before between after x y z same onward fewer takes =
    record { one = λ single. alone (same single) (takes.one refl); some = omega (arith, onward, takes.some); turns = omega (arith, fewer, takes.turns) }
  where
    alone : (x.steps ≡ y.steps) × (at ≡ site) × (kind ≡ load) → IsStepAt at kind y z → IsStepAt site load x z
    alone is one = subst (λ p. IsStepAt p load x z) is.1 (subst (λ b. IsStepAt at b x z) is.2 (record { steps = omega (arith, is.0, one.steps); word = one.word; last = one.last }))

-- .. at places
pub takes_on : {P : Type 0} (whole : Bool) (place at : Place) (load kind : Bool) (before between after : ℕ) (x y z : Sight P) → (whole ≡ false → (x.steps ≡ y.steps) × (at ≡ place) × (kind ≡ load)) → x.steps ≤ y.steps → y.steps + between ≤ x.steps + before
    → TakesFirst false at kind between after y z → TakesFirst whole place load before after x z
takes_on whole place at load kind before between after x y z same onward fewer takes =
    takes_on_at whole (Site.Place place) (Site.Place at) load kind before between after x y z (λ single. let is = same single in (is.0, ap (λ p. Site.Place p) is.1, is.2)) onward fewer takes

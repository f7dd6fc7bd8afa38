-- Steps of a poll that make no event, one after the other.
use Rattle.std.proofs.Common.{◌≡◌, ◌≤◌, ◌+◌, ℕ, Bool, false, [], append-nil, refl, ◌∙◌, arith}
use Rattle.ulfm_model.specs.declared.place.Place.{Place}
use Rattle.ulfm_model.proofs.Lists.{prefix_trans}
use Rattle.ulfm_words.specs.Steps.{Goes, IsView, Loads, Over, Sight, view_at}
use Rattle.ulfm_words.proofs.Trails.{did_none, did_wait}

module _ {P : Type 0} (meld : P → P → P) (alone : Bool) (name : Over P) where
  -- a load
  pub load_goes : (pack : P → ℕ) (place : Place) (old new : Sight P) → Loads meld pack alone place (view_at name old) (view_at name new) → Goes meld alone false 1 (view_at name old) (view_at name new)
  load_goes pack place old new loads = record { of = loads.of; did = loads.did; cached = loads.cached; caches = loads.caches; onward = omega (arith, loads.steps); steps = omega (arith, loads.steps) }

  -- none
  pub goes_none : (most : ℕ) (x : Sight P) → IsView meld (view_at name x) → Goes meld alone false most (view_at name x) (view_at name x)
  goes_none most x of = record { of = of; did = did_none alone x.seen; cached = ([], append-nil x.cached); caches = refl; onward = omega arith; steps = omega arith }

  -- some, and more of them
  pub goes_then : (few more : ℕ) (x y z : Sight P) → Goes meld alone false few (view_at name x) (view_at name y) → Goes meld alone false more (view_at name y) (view_at name z) → Goes meld alone false (few + more) (view_at name x) (view_at name z)
  goes_then few more x y z first then = record {
    of = then.of;
    did = did_wait alone [] x.seen y.seen z.seen first.did then.did;
    cached = prefix_trans x.cached y.cached z.cached first.cached then.cached;
    caches = then.caches ∙ first.caches;
    onward = omega (arith, first.onward, then.onward);
    steps = omega (arith, first.steps, then.steps);
  }

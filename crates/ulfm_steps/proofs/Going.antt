-- What a loop keeps of its pass whose steps make no event.
use Rattle.std.proofs.Common.{◌≡◌, ℕ, ◌+◌, ◌≤◌, Bool, true, false, List, [], refl, ◌∙◌, arith}
use mathlib.Core.List.{IsPrefix}
use Rattle.ulfm_model.specs.Runs.{Did}
use Rattle.ulfm_model.proofs.Lists.{prefix_trans}
use Rattle.ulfm_words.specs.{Steps.{Goes, IsView, Over, Sight, TriesBlocks, View, view_at}, declared.step.Site.{Site}}
use Rattle.ulfm_words.proofs.{Growing.{prefix_self}, Trails.{did_none, did_prefix, did_wait}, Tried.{blocks_then, tries_none}}
use Rattle.ulfm_steps.specs.Rounds.{IsRoundIn, RoundOn}
use Rattle.ulfm_steps.proofs.Reading.{round_stays}

-- Steps that make no event, however many. Exchanges of blocks' words and of their wings are among them only where `caching` says so.
pub record Went {P : Type 0} (meld : P → P → P) (alone caching : Bool) (old new : View P) : Type 0 where
  pub of : IsView meld new
  pub did : Did alone [] old.pass.seen new.pass.seen
  pub cached : IsPrefix old.pass.cached new.pass.cached
  pub caches : TriesBlocks caching old.pass.caches new.pass.caches
  pub onward : old.pass.steps ≤ new.pass.steps

no_blocks : (caching : Bool) (l : List Site) → TriesBlocks caching l l
no_blocks true l = tries_none l l refl
no_blocks false l = refl

module _ {P : Type 0} (meld : P → P → P) (alone caching : Bool) (name : Over P) where
  -- none yet
  pub went_none : (x : Sight P) → IsView meld (view_at name x) → Went meld alone caching (view_at name x) (view_at name x)
  went_none x of = record { of = of; did = did_none alone x.seen; cached = prefix_self x.cached; caches = no_blocks caching x.caches; onward = omega arith }

  -- those that were made, and more of them
  pub went_on : (few : ℕ) (x y z : Sight P) → Went meld alone caching (view_at name x) (view_at name y) → Goes meld alone caching few (view_at name y) (view_at name z) → Went meld alone caching (view_at name x) (view_at name z)
  went_on few x y z went goes =
      record {
        of = goes.of;
        did = did_wait alone [] x.seen y.seen z.seen went.did goes.did;
        cached = prefix_trans x.cached y.cached z.cached went.cached goes.cached;
        caches = blocks_then caching x.caches y.caches z.caches went.caches goes.caches;
        onward = omega (arith, went.onward, goes.onward);
      }

  -- .. where these are at most so many
  pub went_most : (most : ℕ) (x z : Sight P) → Went meld alone caching (view_at name x) (view_at name z) → z.steps ≤ x.steps + most → Goes meld alone caching most (view_at name x) (view_at name z)
  went_most most x z went few = record { of = went.of; did = went.did; cached = went.cached; caches = went.caches; onward = went.onward; steps = few }

-- a machine's round is the one that it had at first, and these are its members
pub record SameRound {P : Type 0} (view : View P) (first now : RoundOn) (group : List ℕ) : Type 0 where
  pub comm : now.comm ≡ first.comm
  pub round : now.round ≡ first.round
  pub round_of : IsRoundIn view now.comm now.round group

-- .. after further steps that leave it, too
pub same_round : {P : Type 0} (meld : P → P → P) (alone caching : Bool) (name : Over P) (few : ℕ) (y z : Sight P) (first now after : RoundOn) (group : List ℕ) → SameRound (view_at name y) first now group → Goes meld alone caching few (view_at name y) (view_at name z)
    → after.comm ≡ now.comm → after.round ≡ now.round → SameRound (view_at name z) first after group
same_round meld alone caching name few y z first now after group same goes comm round =
    let stays = round_stays name.limits y.seen z.seen now.comm now.round group (did_prefix alone [] y.seen z.seen goes.did) same.round_of in
    record { comm = comm ∙ same.comm; round = round ∙ same.round; round_of = rw (comm, round) stays }

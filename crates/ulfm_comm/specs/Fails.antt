-- What a declaration promises.
use Rattle.std.specs.Prelude.{◌≡◌, ℕ, ◌≤◌, ◌+◌, ◌*◌, Bool, true, false}
use mathlib.Core.List.{IsPrefix}
use Rattle.ulfm_model.specs.declared.{reply.Reply.{Reply}, reply.Reply.TheVariants.{AlreadyFailed, Declared}}
use Rattle.ulfm_model.specs.{Runs.{IsFailRun}}
use Rattle.ulfm_words.specs.Steps.{IsView, View}

-- the reply, by whether this call declared the rank
abbrev pub declared : {P : Type 0} → Bool → Reply P
declared true = Declared
declared false = AlreadyFailed

-- The pass is of these words still, and the declaration is one of the sequential object, among the steps of others, with its
-- point at its end. It makes two steps at most for each rank of the world, and none where the world doesn't have this rank. What was known to
-- be set still is, and it caches no block.
pub record Fails {P : Type 0} (meld : P → P → P) (alone : Bool) (rank : ℕ) (old : View P) (reply : Reply P) (new : View P) : Type 0 where
  pub words : new.words ≡ old.words
  pub of : IsView meld new
  pub run : IsFailRun meld new.words.limits alone old.pass.seen new.pass.seen rank reply
  pub at_end : run.span.point ≡ new.pass.seen
  pub steps : new.pass.steps ≤ old.pass.steps + 2 * new.words.limits.ranks
  pub no_step : new.words.limits.ranks ≤ rank → new.pass ≡ old.pass
  pub onward : old.pass.steps ≤ new.pass.steps
  pub cached : IsPrefix old.pass.cached new.pass.cached
  pub caches : new.pass.caches ≡ old.pass.caches

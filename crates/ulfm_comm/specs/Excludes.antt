-- Whom a shrink that was started leaves out.
use Rattle.std.specs.Prelude.{◌≡◌, ℕ, List, Some, IsTrue, take}
use Rattle.std.specs.List.{AllByRecursion}
use mathlib.Core.List.{IsPrefix}
use Rattle.ulfm_model.specs.declared.{contribution.Contribution.{Contribution}, contribution.Offer.TheVariants.{Ctx}, contribution.Slot.TheVariants.{Given}}
use Rattle.ulfm_model.specs.declared.{limits.Limits.{Limits}}
use Rattle.ulfm_words.specs.Steps.{View}
use Rattle.ulfm_comm.specs.Local.{Local}
use Rattle.ulfm_model.specs.{History.{History, IsLegal, decision, failed, has, is_decided, slot}, Records.{Held, Record, free_ids, held_at}}

-- In its round of communicator c the rank has offered the context ids that it doesn't hold, and contributed all of the communicator's
-- failed group of before. So wherever that round is decided, it leaves out each of these ranks.
pub record Excludes {P : Type 0} (meld : P → P → P) (limits : Limits) (before after : History P) (old : Record) (c : ℕ) : Type 0 where
  pub x : Held
  pub held : held_at old c ≡ Some x
  pub given : Contribution P
  pub stands : slot after c x.next_agreement old.number ≡ Some (Given given)
  pub offers : given.offer ≡ Ctx (free_ids old.held)
  pub knows : IsPrefix (failed limits.ranks before c) (take given.known.count (failed limits.ranks after c))
  pub excludes : (more : History P) → IsPrefix after more → IsLegal meld limits more → IsTrue (is_decided limits.ranks more c x.next_agreement)
      → AllByRecursion (λ r. IsTrue (has (decision meld limits.ranks more c x.next_agreement).failed r)) (failed limits.ranks before c)

-- the same between two local states: whoever had failed in the view before is left out
abbrev pub LeavesOut : {P : Type 0} → (P → P → P) → ℕ → Local P → Local P → Type 0
LeavesOut meld c old new = Excludes meld old.view.words.limits old.view.pass.seen new.view.pass.seen old.own c

-- the failed group of a communicator, as a view has seen it
abbrev pub failed_in : {P : Type 0} → View P → ℕ → List ℕ
failed_in view c = failed view.words.limits.ranks view.pass.seen c

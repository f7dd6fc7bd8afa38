-- What settling one's own place asks for.
use Rattle.std.specs.Prelude.{◌≡◌, ℕ, ◌≤◌, Bool, true, false, [], ◌∷◌, ◌++◌, length, IsTrue}
use Rattle.std.specs.List.{Contains}
use mathlib.Core.List.{IsPrefix}
use Rattle.ulfm_model.specs.declared.{contribution.Contribution.{Contribution}, limits.Limits.{Limits}}
use Rattle.ulfm_model.specs.History.{History, IsPlace, failed}
use Rattle.ulfm_model.specs.{declared.{block.Wing.{Wing}, contribution.Offer.{Offer}}, Blocks.{has_wing}, Runs.{Did}}
use Rattle.ulfm_words.specs.{Slots.{offer_wing}, Steps.{IsView, View}, declared.{step.Site.{Site}}}
use Rattle.ulfm_steps.specs.{Turns.{IsStepAt}, declared.settle.Settle.{Settle}}

-- a view's pass has tried to set the wing of a rank's place
abbrev pub WasTried : {P : Type 0} → View P → ℕ → ℕ → ℕ → Type 0
WasTried view c k r = Contains view.pass.caches (Site.Wing (Wing.Slot c k r))

-- the wing of a rank's place is known to be set, to that of this offer
abbrev pub IsSpreadIn : {P : Type 0} → View P → ℕ → ℕ → ℕ → Offer P → Type 0
IsSpreadIn view c k r offer = has_wing view.pass.cached (Wing.Slot c k r) (offer_wing view.words.pack offer) ≡ true

-- .. to some word, and the pass has tried to set it
abbrev pub WingStands : {P : Type 0} → View P → ℕ → ℕ → ℕ → Type 0
WingStands view c k r = (w : ℕ) × (has_wing view.pass.cached (Wing.Slot c k r) w ≡ true) × WasTried view c k r

-- a contribution that may be made as long as its place is empty
pub record MayGive {P : Type 0} (limits : Limits) (h : History P) (c k r : ℕ) (given : Contribution P) : Type 0 where
  pub place : IsPlace limits h c k r
  pub known : given.known.count ≤ length (failed limits.ranks h c)

-- The exchange of a contribution's wing, before it is made: whether this step has set it. Where nobody else steps, one that stood was tried before.
pub record Spreads {P : Type 0} (meld : P → P → P) (alone : Bool) (settle : Settle P) (won : Bool) (old new : View P) : Type 0 where
  pub of : IsView meld new
  pub did : Did alone [] old.pass.seen new.pass.seen
  pub cached : IsPrefix old.pass.cached new.pass.cached
  pub caches : new.pass.caches ≡ old.pass.caches ++ Site.Wing (Wing.Slot settle.comm settle.round settle.rank) ∷ []
  pub step : IsStepAt (Site.Wing (Wing.Slot settle.comm settle.round settle.rank)) false old.pass new.pass
  pub set : won ≡ true → IsSpreadIn new settle.comm settle.round settle.rank settle.given.offer
  pub stood : won ≡ false → WingStands new settle.comm settle.round settle.rank
  pub before : IsTrue alone → won ≡ false → WasTried old settle.comm settle.round settle.rank

-- a contribution that the caller of a view may make as long as its place is empty
abbrev pub MayGiveIn : {P : Type 0} → View P → ℕ → ℕ → ℕ → Contribution P → Type 0
MayGiveIn view c k r given = MayGive view.words.limits view.pass.seen c k r given

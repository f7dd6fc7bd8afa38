-- A round that is read, and a member who is missing in it.
use Rattle.std.specs.Prelude.{◌≡◌, ℕ, ◌<◌, true, List, Option, Some, None, IsTrue}
use Rattle.ulfm_model.specs.declared.{limits.Limits.{Limits}, place.Place.TheVariants.{Slot as SlotAt}}
use Rattle.ulfm_model.specs.History.{Exists, History, has, members, slot}
use Rattle.ulfm_words.specs.{Steps.{View}, declared.{step.Last.{Last}, step.Site.{Site}}}

-- a round of a communicator
pub record RoundOn : Type 0 where
  pub comm : ℕ
  pub round : ℕ

abbrev pub round_on : ℕ → ℕ → RoundOn
round_on c k = record { comm = c; round = k }

-- the communicator exists, these are its members, and it has the round
pub record IsRoundOf {P : Type 0} (limits : Limits) (h : History P) (c k : ℕ) (group : List ℕ) : Type 0 where
  pub exists : Exists h c
  pub group_is : group ≡ members limits.ranks h c
  pub in_rounds : k < limits.rounds

-- as a view's pass has seen it, the communicator exists, these are its members, and it has the round
abbrev pub IsRoundIn : {P : Type 0} → View P → ℕ → ℕ → List ℕ → Type 0
IsRoundIn view c k group = IsRoundOf view.words.limits view.pass.seen c k group

-- one of these members isn't settled, as the last step found
pub record IsMissing {P : Type 0} (last : Option Last) (h : History P) (c k : ℕ) (group : List ℕ) : Type 0 where
  pub rank : ℕ
  pub member : IsTrue (has group rank)
  pub empty : slot h c k rank ≡ None
  pub found : last ≡ Some (record { at = Site.Place (SlotAt c k rank); word = 0; load = true })

-- as a view's pass has seen it, one of these members isn't settled, as its last step found
abbrev pub IsMissingIn : {P : Type 0} → View P → ℕ → ℕ → List ℕ → Type 0
IsMissingIn view c k group = IsMissing view.pass.last view.pass.seen c k group

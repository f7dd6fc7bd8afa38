-- What a rank holds of a communicator, and what its look tells of it.
use Rattle.std.proofs.Common.{◌≡◌, ℕ, filter, Some, ap, sym, ◌∙◌, subst}
use Rattle.std.specs.List.Sorted.{IsStrictlyIncreasing}
use Rattle.ulfm_model.specs.declared.limits.Limits.{Limits}
use Rattle.ulfm_model.specs.{History.{Exists, History, failed, failures, has, members}, Records.{Fits, FitsHeld, Held, Record, held_at}, Terms.{contexts_of}}
use Rattle.ulfm_model.proofs.LeftFits.{held_fits}
use Rattle.ulfm_steps.proofs.Groups.{members_rise}

module _ {P : Type 0} (meld : P → P → P) (limits : Limits) (h : History P) (own : Record) (c : ℕ) (x : Held) (fits : Fits meld limits h own)
    (held : held_at own c ≡ Some x) where
  -- it has the number by which it is found
  pub comm_is : x.comm ≡ c
  comm_is = (held_fits meld limits h own c x fits held).1

  -- it fits
  pub holds : FitsHeld meld limits.ranks h own.number (contexts_of own.held) x
  holds = (held_fits meld limits h own c x fits held).0

  -- its group is the communicator's members
  pub group_is : x.group ≡ members limits.ranks h c
  group_is = holds.group ∙ ap (members limits.ranks h) comm_is

  -- its ranks rise
  pub group_rises : IsStrictlyIncreasing x.group
  group_rises = subst IsStrictlyIncreasing (sym group_is) (members_rise limits.ranks h c)

  -- the failures in the group are the communicator's failed group
  pub failed_is : filter (has x.group) (failures h) ≡ failed limits.ranks h c
  failed_is = ap (λ group. filter (has group) (failures h)) group_is

  -- the communicator exists
  pub exists_is : Exists h c
  exists_is = subst (Exists h) comm_is holds.exists

  -- it is found by its own number
  pub found_there : held_at own x.comm ≡ Some x
  found_there = subst (λ w. held_at own w ≡ Some x) (sym comm_is) held

-- what a communicator's number is found by is one thing
pub same_held : (own : Record) (c w : ℕ) (x y : Held) → w ≡ c → held_at own w ≡ Some y → held_at own c ≡ Some x → y ≡ x
same_held own c w x y is found held =
    let both : Some y ≡ Some x = sym (sym (ap (held_at own) is) ∙ found) ∙ held in cc both

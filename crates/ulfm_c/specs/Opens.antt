-- What opening a world promises.
use Rattle.std.specs.Prelude.{◌≡◌, ◌≢◌, ◌⊎◌, ℕ, ℤ, List, Option, Some, map, pos}
use Rattle.std.specs.List.{AllByRecursion}
use Rattle.ulfm_laws.specs.Flags.{flag_meld}
use Rattle.ulfm_laws.specs.declared.flag_and.FlagAnd.{FlagAnd}
use Rattle.ulfm_model.specs.{History.{first_ranks}, Records.{new_record}}
use Rattle.ulfm_model.specs.declared.{limits.Limits.{Limits}, limits.OpenFault.{OpenFault}, limits.OpenFault.TheVariants.{OutOfRange, TooLarge, OutOfMemory}}
use Rattle.ulfm_words.specs.Steps.{Name}
use Rattle.ulfm_book.specs.Rules.{IsFault}
use Rattle.ulfm_wait.specs.{Members.{IsNewMember, Membership, Viewing}, Outsides.{IsNewOutside}}
use Rattle.ulfm_c.specs.Calls.{flag_pack}
use Rattle.ulfm_c.specs.declared.handle.Handle.{Handle}
use Rattle.ulfm_c.specs.declared.party.Party.{Party}
use Rattle.ulfm_c.specs.declared.party.Party.TheVariants.{Rank, Outside}

-- what the handles hold, in order
abbrev pub parties_in : List Handle → List (Option Party)
parties_in handles = map (λ h. h.party) handles

-- what handles hold that hold these members
abbrev pub parties_of : List (Membership FlagAnd) → List (Option Party)
parties_of members = map (λ m. Some (Rank m)) members

-- a new world of these limits: its outside, and a new member for each rank, in order
pub record Opens (limits : Limits) (outside : Option Party) (parties : List (Option Party)) : Type 0 where
  pub words : Name
  pub limits_are : words.limits ≡ limits
  pub view : Viewing FlagAnd
  pub outside_is : outside ≡ Some (Outside view)
  pub outside_new : IsNewOutside flag_meld flag_pack words view
  pub members : List (Membership FlagAnd)
  pub parties_are : parties ≡ parties_of members
  pub members_new : AllByRecursion (IsNewMember flag_meld flag_pack words) members
  pub in_order : map (λ m. m.own) members ≡ map (new_record limits) (first_ranks limits.ranks)

-- the code of a fault
abbrev pub fault_code : OpenFault → ℤ
fault_code OutOfRange = pos 16
fault_code TooLarge = pos 17
fault_code OutOfMemory = pos 14

-- why no world was opened: there isn't one handle for each rank, or the first fault of the limits, or want of memory
abbrev pub OpenFails : Limits → ℕ → ℤ → Type 0
OpenFails limits count answered =
    ((count ≢ limits.ranks) × (answered ≡ pos 20)) ⊎ ((fault : OpenFault) × IsFault limits fault × (answered ≡ fault_code fault))

abbrev pub limits_of : ℕ → ℕ → ℕ → Limits
limits_of ranks comms rounds = record { ranks = ranks; comms = comms; rounds = rounds }

-- What opening a world over shared words promises.
use Rattle.std.specs.Prelude.{◌≡◌, ℕ, List, map}
use Rattle.std.specs.List.{AllByRecursion}
use Rattle.ulfm_model.specs.{History.{first_ranks}, Records.{new_record}}
use Rattle.ulfm_model.specs.declared.limits.Limits.{Limits}
use Rattle.ulfm_words.specs.Steps.{Name}
use Rattle.ulfm_wait.specs.{Members.{IsNewMember, Membership, Viewing}, Outsides.{IsNewOutside}}

-- a new world of these limits: a new outside, and a new member for each rank, in order, all over the same words
pub record IsNewWorld {P : Type 0} (meld : P → P → P) (pack : P → ℕ) (limits : Limits) (outside : Viewing P) (members : List (Membership P)) : Type 0 where
  pub words : Name
  pub limits_are : words.limits ≡ limits
  pub outside_is : IsNewOutside meld pack words outside
  pub members_are : AllByRecursion (IsNewMember meld pack words) members
  pub in_order : map (λ m. m.own) members ≡ map (new_record limits) (first_ranks limits.ranks)

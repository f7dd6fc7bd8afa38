-- A decided flag has no bit that the flag of a contributor lacks.
use Rattle.std.proofs.Common.{◌≡◌, ℕ, List, [], ◌∷◌, map, Some, ap, sym, ◌∙◌, subst}
use Rattle.std.specs.{Prelude.{filter_map}, List.{AllByRecursion}}
use Rattle.ulfm_laws.specs.{Bodies.{body_lawful, body_meld, body_unit}, Combined.{combined}, Flags.{flag_lawful, flag_meld}, Lawful.{IsLawful}, declared.flag_and.FlagAnd.{FlagAnd}}
use Rattle.ulfm_laws.specs.declared.summary.{Body.{Body}, Body.TheVariants.{Flag}}
use Rattle.ulfm_model.specs.declared.{contribution.Contribution.{Contribution}, contribution.Slot.TheVariants.{Given}, limits.Limits.{Limits}}
use Rattle.ulfm_model.specs.History.{History, IsLegal, body_of, contribution_of, decision, members, slot}
use Rattle.ulfm_model.proofs.{Decisions.{slot_stands}, LeftIds.{each_given}, Lists.{at_member}}
use Rattle.ulfm_model.specs.Rounds.{Gave}

-- what takes in many takes in each
module _ {B : Type 0} (unit : B) (meld : B → B → B) (laws : IsLawful unit meld) where
  -- of two that are combined, what takes in both
  first_in : (b x y : B) → meld b (meld x y) ≡ b → meld b x ≡ b
  first_in b x y is =
      let again : meld (meld x y) x ≡ meld x y =
      ap (λ z. meld z x) (laws.commutative x y) ∙ (laws.associative y x x ∙ (ap (meld y) (laws.idempotent x) ∙ laws.commutative y x)) in
      ap (λ z. meld z x) (sym is) ∙ (laws.associative b (meld x y) x ∙ (ap (meld b) again ∙ is))

  second_in : (b x y : B) → meld b (meld x y) ≡ b → meld b y ≡ b
  second_in b x y is = first_in b y x (ap (meld b) (laws.commutative y x) ∙ is)

  each_in : (b : B) (xs : List B) → meld b (combined unit meld xs) ≡ b → AllByRecursion (λ x. meld b x ≡ b) xs
  each_in b [] is = tt
  each_in b (x ∷ xs) is = (first_in b x (combined unit meld xs) is, each_in b xs (second_in b x (combined unit meld xs) is))

pub decided_within : (limits : Limits) (h : History FlagAnd) (c k r : ℕ) (value flag : FlagAnd) → IsLegal flag_meld limits h → (decision flag_meld limits.ranks h c k).body ≡ Flag value → Gave h c k r flag
    → flag_meld value flag ≡ value
decided_within limits h c k r value flag legal body gave =
    let b = (decision flag_meld limits.ranks h c k).body in
    let laws = body_lawful flag_lawful in
    let bodies = map (λ g. body_of g.offer) (filter_map contribution_of (filter_map (slot h c k) (members limits.ranks h c))) in
    let all = each_in body_unit (body_meld flag_meld) laws b bodies (laws.idempotent b) in
    let each = each_given (slot h c k) (λ x. body_meld flag_meld b x ≡ b) (members limits.ranks h c) all in
    let member = (slot_stands flag_meld limits h legal c k r (Given gave.given) gave.stands).place.member in
    let here = at_member (λ r. (given : Contribution FlagAnd) → slot h c k r ≡ Some (Given given) → body_meld flag_meld b (body_of given.offer) ≡ b) (members limits.ranks h c) r each member in
    let one : body_meld flag_meld b (Flag flag) ≡ b = subst (λ o. body_meld flag_meld b (body_of o) ≡ b) gave.flag_is (here gave.given gave.stands) in
    let two : body_meld flag_meld (Flag value) (Flag flag) ≡ Flag value = subst (λ x. body_meld flag_meld x (Flag flag) ≡ x) body one in
    same_body (flag_meld value flag) value two
  where
    same_body : (x y : FlagAnd) → ◌≡◌ {A = Body FlagAnd} (Flag x) (Flag y) → x ≡ y
    same_body x y is = cc is

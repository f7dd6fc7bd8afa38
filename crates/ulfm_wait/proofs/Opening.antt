-- The members of a new world.
use Rattle.std.proofs.Common.{◌≡◌, ℕ, ◌∷◌, ◌++◌, [], List, map, length, refl, ap, sym, ◌∙◌, append-nil, arith}
use Rattle.std.specs.List.{AllByRecursion}
use Rattle.ulfm_model.specs.declared.limits.Limits.{Limits}
use Rattle.ulfm_model.specs.Records.{Record}
use Rattle.ulfm_comm.specs.Counts.{new_rank}
use Rattle.ulfm_wait.specs.Members.{Membership}

-- one member more has the first of the records that are left
pub one_member_more : {P : Type 0} (all : List (Membership P)) (m : Membership P) (rest : List Record)
    → map (λ x. x.own) (all ++ m ∷ []) ++ rest ≡ map (λ x. x.own) all ++ m.own ∷ rest
one_member_more [] m rest = refl
one_member_more (x ∷ all) m rest = ap (λ records. x.own ∷ records) (one_member_more all m rest)

-- where none is left, the members have all records
pub all_made : (made rest records : List Record) → length rest ≡ 0 → made ++ rest ≡ records → made ≡ records
all_made made [] records none is = sym (append-nil made) ∙ is
all_made made (x ∷ rest) records none is = absurd (omega (arith, none))

-- new ranks have made no call
pub none_made : (limits : Limits) (numbers : List ℕ) → AllByRecursion (λ r. r.last ≡ 0) (map (new_rank limits) numbers)
none_made limits [] = tt
none_made limits (n ∷ numbers) = (refl, none_made limits numbers)

-- Ranks that a line lists, read one after another.
use Rattle.std.proofs.Common.{◌≡◌, ℕ, ◌+◌, ◌<◌, ◌≤◌, true, false, List, [], ◌∷◌, ◌++◌, length, Option, Some, None, Ok, Err, refl, sym, ap, subst, ◌∙◌, append_assoc, arith, length-append}
use Rattle.std.specs.{Fmt.{decimal}}
use denote.Ref.{Bor}
use Rattle.std.specs.Prelude.{is_some}
use Rattle.std.proofs.lemmas.List.{append-nil}
use Rattle.ulfm_script.specs.declared.line_kind.LineKind.{LineKind}
use Rattle.ulfm_script.specs.{Printed.{ranks_text}, Words.{rest_at}}
use Rattle.ulfm_script.proofs.WordLemmas.{joined}
use Rattle.ulfm_lines.specs.{Fields.{Field, rank_field}, Telling.{AreRanks, behind_ranks}}
use Rattle.ulfm_lines.proofs.FieldLemmas.{is_rank, same_field}

-- no text, nobody
pub nobody : (g : List ℕ) → behind_ranks g ≡ None → g ≡ []
nobody [] e = refl
nobody (r ∷ g) e = absurd cc

same_some : (x y : List ℕ) → (let o : Option (List ℕ) = Some x in o) ≡ Some y → x ≡ y
same_some x y e = cc

-- some text, somebody
pub somebody : (g ranks : List ℕ) → behind_ranks g ≡ Some ranks → (0 < length g) × (ranks_text g ≡ 32 ∷ ranks)
somebody [] ranks e = absurd cc
somebody (r ∷ g) ranks e = (omega arith, ap (λ (t : List ℕ). 32 ∷ t) (same_some (decimal r ++ ranks_text g) ranks e))

-- a rank in front of others
pub ranks_joined : (r : ℕ) (g : List ℕ) → decimal r ++ ranks_text g ≡ joined (decimal r) (behind_ranks g)
ranks_joined r [] = append-nil (decimal r)
ranks_joined r (s ∷ g) = refl

-- the first of some ranks is read
pub rank_again : (r : ℕ) (g : List ℕ) → r < 1024 → rank_field (behind_ranks (r ∷ g)) ≡ Ok (r, behind_ranks g)
rank_again r g h = ap (λ (t : List ℕ). rank_field (Some t)) (ranks_joined r g) ∙ is_rank.again r (behind_ranks g) h

-- what was read so far, and what is left: both ways between all ranks and those that are left
pub record IsListed (all : Option (List ℕ)) (group : List ℕ) (rest : Option (List ℕ)) : Type 0 where
  pub ranks : AreRanks group
  pub onto : (more : List ℕ) → behind_ranks more ≡ rest → behind_ranks (group ++ more) ≡ all
  pub back : (g : List ℕ) → AreRanks g → behind_ranks g ≡ all → (more : List ℕ) × (g ≡ group ++ more) × AreRanks more × (behind_ranks more ≡ rest)

-- nothing was read yet
pub none_listed : (all : Option (List ℕ)) → IsListed all [] all
none_listed all = record { ranks = tt; onto = λ more e. e; back = λ g ranks e. (g, refl, ranks, e) }

all_push : (g : List ℕ) (r : ℕ) → AreRanks g → r < 1024 → AreRanks (g ++ r ∷ [])
all_push [] r h k = (k, tt)
all_push (s ∷ g) r h k = (h.0, all_push g r h.1 k)

-- the ranks behind one that was read
onto_one : (r : ℕ) (rest behind : Option (List ℕ)) (more : List ℕ) → rest ≡ Some (joined (decimal r) behind) → behind_ranks more ≡ behind → behind_ranks (r ∷ more) ≡ rest
onto_one r rest behind more is e =
    ap (λ (t : List ℕ). some t) (ranks_joined r more) ∙ ap (λ (o : Option (List ℕ)). some (joined (decimal r) o)) e ∙ sym is
  where
    some : List ℕ → Option (List ℕ)
    some t = Some t

-- ranks that are left begin with the one that was read
back_one : (r : ℕ) (rest behind : Option (List ℕ)) (more : List ℕ) → rank_field rest ≡ Ok (r, behind) → AreRanks more → behind_ranks more ≡ rest
    → (others : List ℕ) × (more ≡ r ∷ others) × AreRanks others × (behind_ranks others ≡ behind)
back_one r rest behind [] read ranks e =
    let f = is_rank.found rest r behind read in
    absurd (let k : (let o : Option (List ℕ) = None in o) ≡ Some (joined (decimal r) behind) = e ∙ f.1 in cc)
back_one r rest behind (s ∷ others) read ranks e =
    let again : rank_field rest ≡ Ok (s, behind_ranks others) = ap rank_field (sym e) ∙ rank_again s others ranks.0 in
    let same = same_field s r (behind_ranks others) behind (sym again ∙ read) in
    (others, ap (λ (x : ℕ). x ∷ others) same.0, ranks.1, same.1)

-- one more rank was read
pub one_listed : (all rest behind : Option (List ℕ)) (group : List ℕ) (r : ℕ) → IsListed all group rest → rank_field rest ≡ Ok (r, behind) → IsListed all (group ++ r ∷ []) behind
one_listed all rest behind group r i read =
    let f = is_rank.found rest r behind read in
    record {
      ranks = all_push group r i.ranks f.0;
      onto = λ more e. ap behind_ranks (append_assoc group (r ∷ []) more) ∙ i.onto (r ∷ more) (onto_one r rest behind more f.1 e);
      back = λ g ranks e.
          let b = i.back g ranks e in
          let o = back_one r rest behind b.0 read b.2 b.3 in
          (o.0, b.1 ∙ ap (λ (t : List ℕ). group ++ t) o.1 ∙ sym (append_assoc group (r ∷ []) o.0), o.2, o.3);
    }

-- all ranks were read
pub all_listed : (all : Option (List ℕ)) (group : List ℕ) → IsListed all group None → AreRanks group × (behind_ranks group ≡ all)
all_listed all group i = (i.ranks, ap behind_ranks (sym (append-nil group)) ∙ i.onto [] refl)

-- what is left is no rank
pub not_listed : (all rest : Option (List ℕ)) (group : List ℕ) (kind : LineKind) (text : List ℕ) → IsListed all group rest → rest ≡ Some text → rank_field rest ≡ Err kind → (g : List ℕ) → AreRanks g → behind_ranks g ≡ all → ⊥
not_listed all rest group kind text i some read g ranks e =
    let b = i.back g ranks e in none_left b.0 b.2 b.3
  where
    none_left : (more : List ℕ) → AreRanks more → behind_ranks more ≡ rest → ⊥
    none_left [] r e = let k : (let o : Option (List ℕ) = None in o) ≡ Some text = e ∙ some in cc
    none_left (s ∷ others) r e =
        let again : rank_field rest ≡ Ok (s, behind_ranks others) = ap rank_field (sym e) ∙ rank_again s others r.0 in
        let k : (let x : Field ℕ = Err kind in x) ≡ Ok (s, behind_ranks others) = sym read ∙ again in cc

-- groups with one text are one
pub one_group : (all : Option (List ℕ)) (group g : List ℕ) → IsListed all group None → AreRanks g → behind_ranks g ≡ all → g ≡ group
one_group all group g i ranks e =
    let b = i.back g ranks e in b.1 ∙ ap (λ (t : List ℕ). group ++ t) (none b.0 b.3) ∙ append-nil group
  where
    none : (more : List ℕ) → behind_ranks more ≡ None → more ≡ []
    none [] e = refl
    none (s ∷ others) e = absurd cc

-- how much is left to read
abbrev pub left_size : Option (List ℕ) → ℕ
left_size None = 0
left_size (Some text) = length text + 1

shorter : (word : List ℕ) (behind : Option (List ℕ)) → left_size behind < left_size (Some (joined word behind))
shorter word None = omega arith
shorter word (Some text) = omega (arith, length-append word (32 ∷ text))

-- less is left behind a rank
pub rank_shorter : (rest behind : Option (List ℕ)) (r : ℕ) → rank_field rest ≡ Ok (r, behind) → left_size behind < left_size rest
rank_shorter rest behind r read =
    let f = is_rank.found rest r behind read in
    subst (λ (o : Option (List ℕ)). left_size behind < left_size o) (sym f.1) (shorter (decimal r) behind)

-- ranks take room
pub ranks_few : (g : List ℕ) → length g ≤ length (ranks_text g)
ranks_few [] = omega arith
ranks_few (r ∷ g) = omega (arith, length-append (decimal r) (ranks_text g), ranks_few g)

-- two groups that stand in one text are one
pub ranks_once : (g h : List ℕ) → AreRanks g → AreRanks h → behind_ranks g ≡ behind_ranks h → g ≡ h
ranks_once [] [] x y e = refl
ranks_once [] (s ∷ h) x y e = absurd cc
ranks_once (r ∷ g) [] x y e = absurd cc
ranks_once (r ∷ g) (s ∷ h) x y e =
    let same = same_field r s (behind_ranks g) (behind_ranks h) (sym (rank_again r g x.0) ∙ ap rank_field e ∙ rank_again s h y.0) in
    ap (λ (n : ℕ). n ∷ g) same.0 ∙ ap (λ (t : List ℕ). s ∷ t) (ranks_once g h x.1 y.1 same.1)

some_rest : (left : Option (Bor (List ℕ))) → is_some left ≡ true → (text : List ℕ) × (rest_at left ≡ Some text)
some_rest None e = absurd cc
some_rest (Some text) e = (text.now, refl)

-- what is left, as code shows it, is no rank
pub not_left : (all : Option (List ℕ)) (left : Option (Bor (List ℕ))) (group : List ℕ) (kind : LineKind) → IsListed all group (rest_at left) → is_some left ≡ true → rank_field (rest_at left) ≡ Err kind
    → (g : List ℕ) → AreRanks g → behind_ranks g ≡ all → ⊥
not_left all left group kind i some read g ranks e =
    let t = some_rest left some in not_listed all (rest_at left) group kind t.0 i t.1 read g ranks e

none_rest : (left : Option (Bor (List ℕ))) → is_some left ≡ false → rest_at left ≡ None
none_rest None e = refl
none_rest (Some text) e = absurd cc

-- nothing is left, as code shows it
pub all_left : (all : Option (List ℕ)) (left : Option (Bor (List ℕ))) (group : List ℕ) → IsListed all group (rest_at left) → is_some left ≡ false → AreRanks group × (behind_ranks group ≡ all)
all_left all left group i none = all_listed all group (subst (IsListed all group) (none_rest left none) i)

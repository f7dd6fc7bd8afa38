-- What settled members say together: later, with one more, and where two parts of a group overlap.
use Rattle.std.proofs.Common.{◌≡◌, ℕ, zero, suc, ◌-◌, ◌≤◌, Bool, true, List, [], ◌∷◌, ◌++◌, map, length, take, drop, Some, is_some, refl, ap, ap₂, sym, ◌∙◌, subst, arith, take-append-drop}
use Rattle.std.specs.List.{list_all, cons_option}
use Rattle.std.proofs.lemmas.Bool.{and_parts, and_from}
use Rattle.std.proofs.lemmas.List.{map-append}
use Rattle.std.proofs.lemmas.List.Elements.{filter_map-append}
use mathlib.Core.List.{IsPrefix}
use Rattle.ulfm_laws.specs.{declared.summary.Summary.{Summary}, Lawful.{IsLawful}, Combined.{combined, combined-append, combined-push}, Summaries.{summary_unit, summary_meld, summary_lawful}}
use Rattle.ulfm_model.specs.declared.contribution.Slot.{Slot}
use Rattle.ulfm_model.specs.{Blocks.{IsSummed}, History.{History, round_among, slot}, Laws.{all_of, summary_of}}
use Rattle.ulfm_model.proofs.{Histories.{slot_stays}, Lists.{filter_map_same, all_some}}

all_push : (p : ℕ → Bool) (xs : List ℕ) (x : ℕ) → list_all p xs ≡ true → p x ≡ true → list_all p (xs ++ x ∷ []) ≡ true
all_push p [] x all here = and_from (p x) true here refl
all_push p (y ∷ xs) x all here = let parts = and_parts (p y) (list_all p xs) all in and_from (p y) (list_all p (xs ++ x ∷ [])) parts.0 (all_push p xs x parts.1 here)

all_append : (p : ℕ → Bool) (xs ys : List ℕ) → list_all p xs ≡ true → list_all p ys ≡ true → list_all p (xs ++ ys) ≡ true
all_append p [] ys a b = b
all_append p (x ∷ xs) ys a b = let parts = and_parts (p x) (list_all p xs) a in and_from (p x) (list_all p (xs ++ ys)) parts.0 (all_append p xs ys parts.1 b)

all_left : (p : ℕ → Bool) (xs ys : List ℕ) → list_all p (xs ++ ys) ≡ true → list_all p xs ≡ true
all_left p [] ys a = refl
all_left p (x ∷ xs) ys a = let parts = and_parts (p x) (list_all p (xs ++ ys)) a in and_from (p x) (list_all p xs) parts.0 (all_left p xs ys parts.1)

module _ {P : Type 0} (meld : P → P → P) where
  pub summed_none : (h : History P) (c k : ℕ) → IsSummed meld h c k [] summary_unit
  summed_none h c k = record { each = refl; is = refl }

  -- what was read stays
  pub summed_later : (h longer : History P) (c k : ℕ) (group : List ℕ) (all : Summary P) → IsPrefix h longer → IsSummed meld h c k group all → IsSummed meld longer c k group all
  summed_later h longer c k group all begins read =
      record {
        each = all_some (slot h c k) (slot longer c k) (λ r s is. slot_stays h longer c k r s begins is) group read.each;
        is = read.is ∙ ap (all_of meld) (sym (filter_map_same (slot h c k) (slot longer c k) (λ r s is. slot_stays h longer c k r s begins is) group read.each));
      }

  -- one more member was read
  pub summed_push : {unit : P} → IsLawful unit meld → (h : History P) (c k : ℕ) (group : List ℕ) (all : Summary P) (r : ℕ) (s : Slot P) → IsSummed meld h c k group all → slot h c k r ≡ Some s
      → IsSummed meld h c k (group ++ r ∷ []) (summary_meld meld all (summary_of s))
  summed_push laws h c k group all r s read is =
      let settled : round_among (group ++ r ∷ []) h c k ≡ round_among group h c k ++ s ∷ [] =
      filter_map-append (slot h c k) group (r ∷ []) ∙ ap (λ o. round_among group h c k ++ cons_option o []) is in
      let together : all_of meld (round_among group h c k ++ s ∷ []) ≡ summary_meld meld (all_of meld (round_among group h c k)) (summary_of s) =
      ap (combined summary_unit (summary_meld meld)) (map-append summary_of (round_among group h c k) (s ∷ [])) ∙ combined-push (summary_lawful laws) (map summary_of (round_among group h c k)) (summary_of s) in
      record {
        each = all_push (λ r. is_some (slot h c k r)) group r read.each (ap is_some is);
        is = ap (λ a. summary_meld meld a (summary_of s)) read.is ∙ (sym together ∙ ap (all_of meld) (sym settled));
      }

-- what stands in both parts counts once
overlap : {X : Type 0} {unit : X} {meld : X → X → X} (laws : IsLawful unit meld) (a b c : List X) → meld (combined unit meld (a ++ b)) (combined unit meld (b ++ c)) ≡ combined unit meld (a ++ (b ++ c))
overlap {unit = unit} {meld = meld} laws a b c =
    let x = combined unit meld a in
    let y = combined unit meld b in
    let z = combined unit meld c in
    let once : meld y (meld y z) ≡ meld y z = sym (laws.associative y y z) ∙ ap (λ w. meld w z) (laws.idempotent y) in
    ap₂ meld (combined-append laws a b) (combined-append laws b c)
    ∙ (laws.associative x y (meld y z) ∙ (ap (meld x) once ∙ (ap (meld x) (sym (combined-append laws b c)) ∙ sym (combined-append laws a (b ++ c)))))

-- the first b and all but the first m, where these overlap
record Splits (m b : ℕ) (g : List ℕ) : Type 0 where
  pub left : List ℕ
  pub mid : List ℕ
  pub right : List ℕ
  pub front : take b g ≡ left ++ mid
  pub back : drop m g ≡ mid ++ right
  pub whole : g ≡ left ++ (mid ++ right)

splits : (m b : ℕ) (g : List ℕ) → m ≤ b → Splits m b g
splits zero b g le = record { left = []; mid = take b g; right = drop b g; front = refl; back = sym (take-append-drop b g); whole = sym (take-append-drop b g) }
splits (suc m) zero g le = absurd (omega arith)
splits (suc m) (suc b) [] le = record { left = []; mid = []; right = []; front = refl; back = refl; whole = refl }
splits (suc m) (suc b) (x ∷ g) le =
    let s = splits m b g (omega arith) in
    record { left = x ∷ s.left; mid = s.mid; right = s.right; front = ap (λ w. x ∷ w) s.front; back = s.back; whole = ap (λ w. x ∷ w) s.whole }

module _ {P : Type 0} {unit : P} (meld : P → P → P) (laws : IsLawful unit meld) (h : History P) (c k : ℕ) where
  abbrev said : List ℕ → List (Summary P)
  said group = map summary_of (round_among group h c k)

  said_append : (xs ys : List ℕ) → said (xs ++ ys) ≡ said xs ++ said ys
  said_append xs ys = ap (map summary_of) (filter_map-append (slot h c k) xs ys) ∙ map-append summary_of (round_among xs h c k) (round_among ys h c k)

  abbrev together : List (Summary P) → Summary P
  together xs = combined summary_unit (summary_meld meld) xs

  -- what the first b say, and what all but the first m say, is what all say
  pub summed_join : (m b : ℕ) (g : List ℕ) (x y : Summary P) → m ≤ b → IsSummed meld h c k (take b g) x → IsSummed meld h c k (drop m g) y → IsSummed meld h c k g (summary_meld meld x y)
  summed_join m b g x y le front back =
      let s = splits m b g le in
      let p : ℕ → Bool = λ r. is_some (slot h c k r) in
      let f : IsSummed meld h c k (s.left ++ s.mid) x = subst (λ w. IsSummed meld h c k w x) s.front front in
      let e : IsSummed meld h c k (s.mid ++ s.right) y = subst (λ w. IsSummed meld h c k w y) s.back back in
      let first : x ≡ together (said s.left ++ said s.mid) = f.is ∙ ap together (said_append s.left s.mid) in
      let last : y ≡ together (said s.mid ++ said s.right) = e.is ∙ ap together (said_append s.mid s.right) in
      let both : summary_meld meld x y ≡ together (said s.left ++ (said s.mid ++ said s.right)) =
      ap₂ (summary_meld meld) first last ∙ overlap (summary_lawful laws) (said s.left) (said s.mid) (said s.right) in
      let all : said (s.left ++ (s.mid ++ s.right)) ≡ said s.left ++ (said s.mid ++ said s.right) =
      said_append s.left (s.mid ++ s.right) ∙ ap (λ w. said s.left ++ w) (said_append s.mid s.right) in
      subst (λ w. IsSummed meld h c k w (summary_meld meld x y)) (sym s.whole) (record {
        each = all_append p s.left (s.mid ++ s.right) (all_left p s.left s.mid f.each) e.each;
        is = both ∙ ap together (sym all);
      })

-- Why a decision can be read off one summary: failed groups are beginnings of one list, so their lengths are enough.
use Rattle.std.proofs.Common.{◌≡◌, ℕ, zero, suc, ◌≤◌, min, max, Bool, true, false, cond, not, ◌||◌, ◌==◌, List, [], ◌∷◌, map, length, take, refl, ap, ap₂, sym, ◌∙◌, arith, filter, filter_map, nat_lt, nat_eq, inl, inr}
use Rattle.std.specs.List.{list_any, AllByRecursion, IsDistinct}
use Rattle.std.proofs.lemmas.Bool.Decides.{nat_tests}
use Rattle.std.proofs.lemmas.Bool.{eq-eqb, lt-ltb, le-ltb, cases_lt}
use Rattle.std.proofs.lemmas.Map.Keys.{IsDistinct-head, IsDistinct-tail}
use Rattle.ulfm_laws.specs.declared.summary.Body.{Body}
use Rattle.ulfm_laws.specs.Bodies.{body_unit, body_meld}
use Rattle.ulfm_laws.specs.Counts.{acked_le}
use Rattle.ulfm_laws.specs.Combined.{combined}
use Rattle.ulfm_model.specs.declared.contribution.Slot.{Slot}
use Rattle.ulfm_model.specs.declared.contribution.Slot.TheVariants.{Given, Mark as Marked}
use Rattle.ulfm_model.specs.History.{has}
use Rattle.ulfm_model.specs.{History.{Decision, body_of, contribution_of, decided_by, known_of, union_of}, Laws.{all_of}}
use Rattle.ulfm_model.specs.Terms.{lacks_one}
use Rattle.ulfm_model.proofs.Lists.{each_from, any_same, filter_none, each_always, each_take, filter_same}
use Rattle.std.proofs.lemmas.List.Elements.{filter_agree}

-- a longer beginning has all that a shorter one has
pub longer_has : (m n : ℕ) (F : List ℕ) (r : ℕ) → m ≤ n → has (take m F) r ≡ true → has (take n F) r ≡ true
longer_has zero n F r le in_it = absurd (cc in_it)
longer_has (suc m) zero F r le in_it = absurd (omega arith)
longer_has (suc m) (suc n) [] r le in_it = in_it
longer_has (suc m) (suc n) (x ∷ F) r le in_it =
    elim (x == r) as (λ b. (b || has (take m F) r) ≡ true → (b || has (take n F) r) ≡ true) [ true ↦ λ h. h | false ↦ longer_has m n F r (omega arith) ] in_it

or_absorbs : (a b : Bool) → (a ≡ true → b ≡ true) → (b ≡ (a || b)) × (b ≡ (b || a))
or_absorbs true true imp = (refl, refl)
or_absorbs true false imp = absurd (cc (imp refl))
or_absorbs false true imp = (refl, refl)
or_absorbs false false imp = (refl, refl)

-- two beginnings together are the longer of them
pub has_longer : (m n : ℕ) (F : List ℕ) (r : ℕ) → has (take (max m n) F) r ≡ (has (take m F) r || has (take n F) r)
has_longer m n F r =
    elim (cases_lt m n) [
      | inl less ↦ let e : max m n ≡ n = omega arith in rw e ((or_absorbs (has (take m F) r) (has (take n F) r) (longer_has m n F r (omega arith))).0)
      | inr more ↦ let e : max m n ≡ m = omega arith in rw e ((or_absorbs (has (take n F) r) (has (take m F) r) (longer_has n m F r more)).1)
    ]

-- without repeats, exactly the beginning itself is in the beginning
pub filter_take : (n : ℕ) (F : List ℕ) → IsDistinct nat_eq F → filter (λ r. has (take n F) r) F ≡ take n F
filter_take zero F distinct = filter_none (λ r. has (take 0 F) r) F (each_always (λ r. has (take 0 F) r ≡ false) (λ r. refl) F)
filter_take (suc n) [] distinct = refl
filter_take (suc n) (x ∷ F) distinct =
    let itself : (x == x) ≡ true = eq-eqb x x refl in
    let others : filter (λ r. (x == r) || has (take n F) r) F ≡ filter (λ r. has (take n F) r) F =
    filter_same (λ r. has (take n F) r) (λ r. (x == r) || has (take n F) r) F
    (each_from (λ r. (x == r) ≡ false) (λ r. ((x == r) || has (take n F) r) ≡ has (take n F) r) (λ r apart. ap (λ b. b || has (take n F) r) apart) F (IsDistinct-head nat_eq x F distinct)) in
    ap (λ b. cond (b || has (take n F) x) (x ∷ filter (λ r. (x == r) || has (take n F) r) F) (filter (λ r. (x == r) || has (take n F) r) F)) itself
    ∙ ap (λ ys. x ∷ ys) (others ∙ filter_take n F (IsDistinct-tail nat_eq x F distinct))

-- of two beginnings, the shorter one lacks a rank of the other, and only it does
pub lacks_is : (a n : ℕ) (F : List ℕ) → IsDistinct nat_eq F → n ≤ length F → list_any (λ r. not (has (take a F) r)) (take n F) ≡ nat_lt a n
lacks_is a zero F distinct le = sym (le-ltb a 0 (omega arith))
lacks_is a (suc n) [] distinct le = absurd (omega arith)
lacks_is zero (suc n) (x ∷ F) distinct le = sym (lt-ltb 0 (suc n) (omega arith))
lacks_is (suc a) (suc n) (x ∷ F) distinct le =
    let itself : (x == x) ≡ true = eq-eqb x x refl in
    let apart = each_take (λ r. (x == r) ≡ false) n F (IsDistinct-head nat_eq x F distinct) in
    let others : list_any (λ r. not ((x == r) || has (take a F) r)) (take n F) ≡ list_any (λ r. not (has (take a F) r)) (take n F) =
    any_same (λ r. not (has (take a F) r)) (λ r. not ((x == r) || has (take a F) r)) (take n F)
    (each_from (λ r. (x == r) ≡ false) (λ r. not ((x == r) || has (take a F) r) ≡ not (has (take a F) r)) (λ r away. ap (λ b. not (b || has (take a F) r)) away) (take n F) apart) in
    let fewer : n ≤ length F = omega arith in
    let down : nat_lt a n ≡ nat_lt (suc a) (suc n) = grind (arith, nat_tests) in
    ap (λ b. not (b || has (take a F) x) || list_any (λ r. not ((x == r) || has (take a F) r)) (take n F)) itself
    ∙ (others ∙ (lacks_is a n F (IsDistinct-tail nat_eq x F distinct) fewer ∙ down))

below_least : (a b n : ℕ) → (nat_lt a n || nat_lt b n) ≡ nat_lt (min a b) n
below_least a b n = grind (arith, nat_tests)

module _ {P : Type 0} (meld : P → P → P) where
  body_is : (L : List (Slot P)) → combined body_unit (body_meld meld) (map (λ g. body_of g.offer) (filter_map contribution_of L)) ≡ (all_of meld L).body
  body_is [] = refl
  body_is (Marked known ∷ L) = body_is L
  body_is (Given given ∷ L) = ap (body_meld meld (body_of given.offer)) (body_is L)

  groups_are : (F : List ℕ) (L : List (Slot P)) (r : ℕ) → list_any (λ s. has (take (known_of s) F) r) L ≡ has (take (all_of meld L).known.count F) r
  groups_are F [] r = refl
  groups_are F (Marked known ∷ L) r = ap (λ b. has (take known.known.count F) r || b) (groups_are F L r) ∙ sym (has_longer known.known.count (all_of meld L).known.count F r)
  groups_are F (Given given ∷ L) r = ap (λ b. has (take given.known.count F) r || b) (groups_are F L r) ∙ sym (has_longer given.known.count (all_of meld L).known.count F r)

  -- all named groups together are the beginning of the greatest known
  pub union_is : (F : List ℕ) (L : List (Slot P)) → IsDistinct nat_eq F → union_of F L ≡ take (all_of meld L).known.count F
  union_is F L distinct = filter_agree (λ r. list_any (λ s. has (take (known_of s) F) r) L) (λ r. has (take (all_of meld L).known.count F) r) (groups_are F L) F ∙ filter_take (all_of meld L).known.count F distinct

  acked_is : (n : ℕ) (L : List (Slot P)) → n ≤ 1024 → list_any (λ g. nat_lt g.acked.count n) (filter_map contribution_of L) ≡ nat_lt (all_of meld L).acked.count n
  acked_is n [] le = sym (le-ltb 2047 n (omega arith))
  acked_is n (Marked known ∷ L) le =
      let least : min 2047 (all_of meld L).acked.count ≡ (all_of meld L).acked.count = omega (arith, acked_le (all_of meld L).acked.count (all_of meld L).acked.in_range) in
      acked_is n L le ∙ ap (λ a. nat_lt a n) (sym least)
  acked_is n (Given given ∷ L) le =
      ap (λ b. nat_lt given.acked.count n || b) (acked_is n L le) ∙ below_least given.acked.count (all_of meld L).acked.count n

  -- the greatest known is no more than there are failures
  pub known_fits : (F : List ℕ) (L : List (Slot P)) → AllByRecursion (λ s. known_of s ≤ length F) L → (all_of meld L).known.count ≤ length F
  known_fits F [] fits = omega arith
  known_fits F (Marked known ∷ L) fits = omega (arith, fits.0, known_fits F L fits.1)
  known_fits F (Given given ∷ L) fits = omega (arith, fits.0, known_fits F L fits.1)

  -- so the summary decides: its body, the beginning up to known, and an error where acked is below known
  pub decided_is : (F : List ℕ) (L : List (Slot P)) → IsDistinct nat_eq F → AllByRecursion (λ s. known_of s ≤ length F) L
      → decided_by meld F L ≡ record { body = (all_of meld L).body; failed = take (all_of meld L).known.count F; raised = nat_lt (all_of meld L).acked.count (all_of meld L).known.count }
  decided_is F L distinct fits =
      let n = (all_of meld L).known.count in
      let given = filter_map contribution_of L in
      let each : list_any (lacks_one F (take n F)) given ≡ list_any (λ g. nat_lt g.acked.count n) given =
      any_same (λ g. nat_lt g.acked.count n) (lacks_one F (take n F)) given (each_always (λ g. lacks_one F (take n F) g ≡ nat_lt g.acked.count n) (λ g. lacks_is g.acked.count n F distinct (known_fits F L fits)) given) in
      let made : Body P → List ℕ → Bool → Decision P = λ body group raised. record { body = body; failed = group; raised = raised } in
      ap (λ group. made (combined body_unit (body_meld meld) (map (λ g. body_of g.offer) given)) group (list_any (lacks_one F group) given)) (union_is F L distinct)
      ∙ ap₂ (λ body raised. made body (take n F) raised) (body_is L) (each ∙ acked_is n L (all_of meld L).known.in_range)

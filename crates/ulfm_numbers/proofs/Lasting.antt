-- What is kept of a round that has decided holds from then on.
use Rattle.std.proofs.Common.{◌≡◌, ◌<◌, ◌≤◌, ◌-◌, ◌||◌, ℕ, zero, suc, Bool, true, false, List, [], ◌∷◌, ◌++◌, append-nil, length, length-append, length-drop, map, not, take, drop, filter, filter_map, nat_le, nat_lt, Option, Some, None, is_some, if◌then◌else◌, refl, sym, ap, ap₂, ◌∙◌, subst, arith}
use Rattle.std.specs.Map.{lookup}
use Rattle.std.specs.Prelude.{Err, IfOk, IsErr, Ok, OnErr, OnOk, Result}
use Rattle.std.specs.{HashMap.{HashMap, IsUnchanged, Updates, get}, List.{AllByRecursion, list_all, list_any}}
use Rattle.std.proofs.lemmas.Bool.{and_parts, leb-true, le-leb, lt-ltb, ltb-true}
use Rattle.std.proofs.Math.Seq.{take-append_seam}
use Rattle.std.proofs.lemmas.List.{take-append-drop}
use Rattle.std.proofs.lemmas.List.Elements.{filter-append, filter_agree}
use Rattle.ulfm_model.specs.declared.contribution.{Contribution.{Contribution}, Slot.{Slot}}
use Rattle.ulfm_model.specs.{History.{Decision, body_of, contribution_of, decided_by, has, known_of, same_place, union_of}, Terms.{lacks_one}}
use Rattle.ulfm_model.proofs.Lists.{all_some, any_none, any_same, each_always, each_from, filter_map_each, filter_map_same, filter_none, not_in_take}
use Rattle.ulfm_laws.specs.{Bodies.{body_meld, body_unit}, Combined.{combined}}
use Rattle.ulfm_model.specs.{declared.decide.Decided.{Decided}, Walked.{decision_of}}
use Rattle.ulfm_numbers.specs.{declared.cells.Cell.{Cell}, declared.grids.Grid.{Grid}, declared.rounds.Done.{Done}}
use Rattle.ulfm_numbers.specs.{Cells.{told_at}, Groups.{group_at}, Numbers.{by_then, count_by, numbers_from}, Failed.{in_group}, Rounds.{AreDone, IsByRound, IsDone, KeepsSlots, failed_of, settled_then}}
use Rattle.ulfm_numbers.proofs.{Counting.{failed_first}, Tabling.{place_is}}

-- the first of a longer list are the first
take_before : {X : Type 0} (n : ℕ) (xs ys : List X) → n ≤ length xs → take n (xs ++ ys) ≡ take n xs
take_before zero [] ys le = refl
take_before zero (x ∷ xs) ys le = refl
take_before (suc n) [] ys le = absurd (omega (arith, le))
take_before (suc n) (x ∷ xs) ys le = ap (λ zs. x ∷ zs) (take_before n xs ys (omega (arith, le)))

-- and the first of the first so many are, where there are as many
take_within : {X : Type 0} (n m : ℕ) (xs : List X) → n ≤ length (take m xs) → take n (take m xs) ≡ take n xs
take_within zero zero [] le = refl
take_within zero zero (x ∷ xs) le = refl
take_within zero (suc m) [] le = refl
take_within zero (suc m) (x ∷ xs) le = refl
take_within (suc n) zero [] le = absurd (omega (arith, le))
take_within (suc n) zero (x ∷ xs) le = absurd (omega (arith, le))
take_within (suc n) (suc m) [] le = absurd (omega (arith, le))
take_within (suc n) (suc m) (x ∷ xs) le = ap (λ zs. x ∷ zs) (take_within n m xs (omega (arith, le)))

-- as many as are wanted are there
took : {X : Type 0} (n : ℕ) (xs : List X) → n ≤ length xs → length (take n xs) ≡ n
took zero [] le = refl
took zero (x ∷ xs) le = refl
took (suc n) [] le = absurd (omega (arith, le))
took (suc n) (x ∷ xs) le = ap suc (took n xs (omega (arith, le)))

-- all of a list are its first
all_taken : {X : Type 0} (xs : List X) → take (length xs) xs ≡ xs
all_taken [] = refl
all_taken (x ∷ xs) = ap (λ zs. x ∷ zs) (all_taken xs)

-- and the last of a list are those behind its first
pub rest_taken : {X : Type 0} (n : ℕ) (xs : List X) → take (length xs - n) (drop n xs) ≡ drop n xs
rest_taken n xs = let same : length xs - n ≡ length (drop n xs) = omega (arith, length-drop n xs) in ap (λ m. take m (drop n xs)) same ∙ all_taken (drop n xs)

-- a list that is mapped keeps its length
pub mapped_length : {X Y : Type 0} (f : X → Y) (xs : List X) → length (map f xs) ≡ length xs
mapped_length f [] = refl
mapped_length f (x ∷ xs) = ap suc (mapped_length f xs)

-- what was given by a point was so by a later one
given_later : {Y : Type 0} (n m : ℕ) (o : Option (ℕ × Y)) (y : Y) → n ≤ m → by_then n o ≡ Some y → by_then m o ≡ Some y
given_later n m None y le is = absurd (cc is)
given_later {Y} n m (Some at) y le is = go (nat_lt (at.0) n) refl
  where
    go : (b : Bool) → nat_lt (at.0) n ≡ b → (if nat_lt (at.0) m then Some (at.1) else None) ≡ Some y
    go true lt =
        let there : Some (at.1) ≡ Some y = sym (ap (λ (b : Bool). if b then Some (at.1) else None) lt) ∙ is in
        let below : at.0 < n = ltb-true (at.0) n lt in
        ap (λ (b : Bool). if b then Some (at.1) else None) (lt-ltb (at.0) m (omega (arith, below, le))) ∙ there
    go false not_lt = absurd (cc (sym (ap (λ (b : Bool). if b then Some (at.1) else None) not_lt) ∙ is))

-- each of a list passes a test
each_passes : {X : Type 0} (p : X → Bool) (P : X → Type 0) → ((x : X) → p x ≡ true → P x) → (xs : List X) → list_all p xs ≡ true → AllByRecursion P xs
each_passes p P passes [] all = tt
each_passes p P passes (x ∷ xs) all = let parts = and_parts (p x) (list_all p xs) all in (passes x parts.0, each_passes p P passes xs parts.1)

-- none of a list passes one
none_passes : {X : Type 0} (p : X → Bool) (xs : List X) → list_any p xs ≡ false → AllByRecursion (λ x. p x ≡ false) xs
none_passes p [] none = tt
none_passes {X} p (x ∷ xs) none = go (p x) refl (none_passes p xs)
  where
    go : (b : Bool) → p x ≡ b → (list_any p xs ≡ false → AllByRecursion (λ x. p x ≡ false) xs) → (p x ≡ false) × AllByRecursion (λ x. p x ≡ false) xs
    go true is rest = absurd (cc (none, ap (λ (b : Bool). b || list_any p xs) is))
    go false is rest = (is, rest (sym (ap (λ (b : Bool). b || list_any p xs) is) ∙ none))

module _ {P : Type 0} (meld : P → P → P) where
  -- later failures don't change which ranks the settled places name
  named_same : (F X : List ℕ) (L : List (Slot P)) → AllByRecursion (λ s. known_of s ≤ length F) L → AllByRecursion (λ r. has F r ≡ false) X → union_of (F ++ X) L ≡ union_of F L
  named_same F X L fits out =
      let longer : ℕ → Bool = λ r. list_any (λ s. has (take (known_of s) (F ++ X)) r) L in
      let test : ℕ → Bool = λ r. list_any (λ s. has (take (known_of s) F) r) L in
      let same : (r : ℕ) → longer r ≡ test r =
      λ r. any_same (λ s. has (take (known_of s) F) r) (λ s. has (take (known_of s) (F ++ X)) r) L
      (each_from (λ s. known_of s ≤ length F) (λ s. has (take (known_of s) (F ++ X)) r ≡ has (take (known_of s) F) r) (λ s f. ap (λ w. has w r) (take_before (known_of s) F X f)) L fits) in
      let none : filter test X ≡ [] =
      filter_none test X (each_from (λ r. has F r ≡ false) (λ r. test r ≡ false) (λ r o. any_none (λ s. has (take (known_of s) F) r) L (each_always (λ s. has (take (known_of s) F) r ≡ false) (λ s. not_in_take (known_of s) F r o) L)) X out) in
      filter_agree longer test same (F ++ X) ∙ (filter-append test F X ∙ (ap (λ w. filter test F ++ w) none ∙ append-nil (filter test F)))

  -- nor what these decide
  decided_same : (F X : List ℕ) (L : List (Slot P)) → AllByRecursion (λ s. known_of s ≤ length F) L → AllByRecursion (λ r. has F r ≡ false) X → decided_by meld (F ++ X) L ≡ decided_by meld F L
  decided_same F X L fits out =
      let given = filter_map contribution_of L in
      let short : AllByRecursion (λ g. g.acked.count ≤ length F) given = filter_map_each contribution_of (λ s. known_of s ≤ length F) (λ g. g.acked.count ≤ length F) acked_fits L fits in
      let raised : list_any (lacks_one (F ++ X) (union_of F L)) given ≡ list_any (lacks_one F (union_of F L)) given =
      any_same (lacks_one F (union_of F L)) (lacks_one (F ++ X) (union_of F L)) given
      (each_from (λ g. g.acked.count ≤ length F) (λ g. lacks_one (F ++ X) (union_of F L) g ≡ lacks_one F (union_of F L) g)
      (λ g le. ap (λ known. list_any (λ r. not (has known r)) (union_of F L)) (take_before g.acked.count F X le)) given short) in
      let made : List ℕ → Bool → Decision P = λ group raised. record { body = combined body_unit (body_meld meld) (map (λ g. body_of g.offer) given); failed = group; raised = raised } in
      ap (λ group. made group (list_any (lacks_one (F ++ X) group) given)) (named_same F X L fits out) ∙ ap (made (union_of F L)) raised
    where
      acked_fits : (s : Slot P) (g : Contribution P) → known_of s ≤ length F → contribution_of s ≡ Some g → g.acked.count ≤ length F
      acked_fits (Slot.Mark mark) g f e = absurd (cc e)
      acked_fits (Slot.Given given) g f e = let same : given ≡ g = cc e in subst (λ w. w.acked.count ≤ length F) same (omega (arith, f, given.within))

module _ {P A B : Type 0} (meld : P → P → P) (slots : Grid (Cell P) B) where
  -- what a round decides now is what is kept of it
  pub is_done : (failures : List ℕ) (groups : List (List ℕ)) (c k since count : ℕ) (made : Decided P A) (members failed : List ℕ) (settled : List (Slot P)) → members ≡ group_at groups c
      → failed ≡ failed_of groups failures c → settled ≡ filter_map (settled_then slots c k since) members → c < length groups
      → list_all (λ r. is_some (settled_then slots c k since r)) members ≡ true → list_all (λ s. nat_le (known_of s) count) settled ≡ true → count ≡ length failed
      → decision_of made ≡ decided_by meld failed settled → IsDone meld slots failures groups c k (record { since = since; failed = count; made = made })
  is_done failures groups c k since count made members failed settled members_are failed_are settled_are within all fits counted decides =
      let same : settled ≡ filter_map (settled_then slots c k since) (group_at groups c) = settled_are ∙ ap (filter_map (settled_then slots c k since)) members_are in
      let whole : take count (failed_of groups failures c) ≡ failed = ap₂ (λ (n : ℕ) (xs : List ℕ). take n xs) counted (sym failed_are) ∙ all_taken failed in
      let long : count ≤ length (failed_of groups failures c) = omega (arith, counted, ap length failed_are) in (
        lt-ltb c (length groups) within,
        sym (ap (list_all (λ r. is_some (settled_then slots c k since r))) members_are) ∙ all,
        sym (ap (list_all (λ s. nat_le (known_of s) count)) same) ∙ fits,
        le-leb count (length (failed_of groups failures c)) long,
        decides ∙ ap₂ (decided_by meld) (sym whole) same,
      )

  -- it stays so
  pub done_stays : (later : Grid (Cell P) B) (failures more : List ℕ) (groups extra : List (List ℕ)) (c k : ℕ) (done : Done P A) → KeepsSlots slots later
      → IsDone meld slots failures groups c k done → IsDone meld later (failures ++ more) (groups ++ extra) c k done
  done_stays later failures more groups extra c k done keeps is =
      let ms = group_at groups c in
      let within : c < length groups = ltb-true c (length groups) is.0 in
      let members : group_at (groups ++ extra) c ≡ ms = at_before groups extra c within in
      let kept : (r : ℕ) (s : Slot P) → settled_then slots c k done.since r ≡ Some s → settled_then later c k done.since r ≡ Some s = λ r s there. slot_kept (c, k, r) s there in
      let settled : filter_map (settled_then later c k done.since) ms ≡ filter_map (settled_then slots c k done.since) ms = filter_map_same (settled_then slots c k done.since) (settled_then later c k done.since) kept ms is.1 in
      let all : list_all (λ r. is_some (settled_then later c k done.since r)) ms ≡ true = all_some (settled_then slots c k done.since) (settled_then later c k done.since) kept ms is.1 in
      let longer : failed_of (groups ++ extra) (failures ++ more) c ≡ failed_of groups failures c ++ filter (has ms) more = ap (λ w. filter (has w) (failures ++ more)) members ∙ filter-append (has ms) failures more in
      let enough : done.failed ≤ length (failed_of groups failures c) = leb-true done.failed (length (failed_of groups failures c)) is.3 in
      let first : take done.failed (failed_of (groups ++ extra) (failures ++ more) c) ≡ take done.failed (failed_of groups failures c) =
      ap (take done.failed) longer ∙ take_before done.failed (failed_of groups failures c) (filter (has ms) more) enough in
      let long : done.failed ≤ length (failed_of (groups ++ extra) (failures ++ more) c) = omega (arith, enough, ap length longer, length-append (failed_of groups failures c) (filter (has ms) more)) in
      let same : filter_map (settled_then later c k done.since) (group_at (groups ++ extra) c) ≡ filter_map (settled_then slots c k done.since) ms = ap (filter_map (settled_then later c k done.since)) members ∙ settled in (
        lt-ltb c (length (groups ++ extra)) (omega (arith, within, length-append groups extra)),
        ap (list_all (λ r. is_some (settled_then later c k done.since r))) members ∙ all,
        ap (list_all (λ s. nat_le (known_of s) done.failed)) same ∙ is.2,
        le-leb done.failed (length (failed_of (groups ++ extra) (failures ++ more) c)) long,
        is.4 ∙ ap₂ (decided_by meld) (sym first) (sym same),
      )
    where
      at_before : (xs ys : List (List ℕ)) (i : ℕ) → i < length xs → group_at (xs ++ ys) i ≡ group_at xs i
      at_before [] ys i lt = absurd (omega (arith, lt))
      at_before (x ∷ xs) ys zero lt = refl
      at_before (x ∷ xs) ys (suc i) lt = at_before xs ys i (omega (arith, lt))

      slot_kept : (place : ℕ × ℕ × ℕ) (s : Slot P) → by_then done.since (told_at slots place) ≡ Some s → by_then done.since (told_at later place) ≡ Some s
      slot_kept place s there = go (told_at slots place) refl
        where
          go : (o : Option (ℕ × Slot P)) → told_at slots place ≡ o → by_then done.since (told_at later place) ≡ Some s
          go None none = absurd (cc (sym (ap (by_then done.since) none) ∙ there))
          go (Some at) some = ap (by_then done.since) (keeps place at some) ∙ (sym (ap (by_then done.since) some) ∙ there)

  -- and holds at each point from then on at which no failure of before was declared once more
  pub done_holds : (failures : List ℕ) (groups : List (List ℕ)) (c k point count : ℕ) (done : Done P A) (failed : List ℕ) → IsDone meld slots failures groups c k done → done.since ≤ point
      → failed ≡ filter (has (group_at groups c)) (take count failures) → done.failed ≤ length failed → list_any (has (take done.failed failed)) (drop done.failed failed) ≡ false
      → (list_all (λ r. is_some (settled_then slots c k point r)) (group_at groups c) ≡ true)
      × (decision_of done.made ≡ decided_by meld failed (filter_map (settled_then slots c k point) (group_at groups c)))
  done_holds failures groups c k point count done failed is since failed_are enough apart =
      let ms = group_at groups c in
      let all = failed_of groups failures c in
      let later : (r : ℕ) (s : Slot P) → settled_then slots c k done.since r ≡ Some s → settled_then slots c k point r ≡ Some s = λ r s there. given_later done.since point (told_at slots (c, k, r)) s since there in
      let settled : filter_map (settled_then slots c k point) ms ≡ filter_map (settled_then slots c k done.since) ms = filter_map_same (settled_then slots c k done.since) (settled_then slots c k point) later ms is.1 in
      let n = count_by count (numbers_from (in_group ms) 0 failures) in
      let first : failed ≡ take n all = failed_are ∙ failed_first ms count failures in
      let same : take done.failed failed ≡ take done.failed all = ap (take done.failed) first ∙ take_within done.failed n all (omega (arith, enough, ap length first)) in
      let parts : take done.failed failed ++ drop done.failed failed ≡ failed = take-append-drop done.failed failed in
      let counted : length (take done.failed failed) ≡ done.failed = took done.failed failed enough in
      let L = filter_map (settled_then slots c k done.since) ms in
      let fits : AllByRecursion (λ s. known_of s ≤ length (take done.failed failed)) L =
      each_passes (λ s. nat_le (known_of s) done.failed) (λ s. known_of s ≤ length (take done.failed failed)) (λ s le. let few : known_of s ≤ done.failed = leb-true (known_of s) done.failed le in omega (arith, few, counted)) L is.2 in
      let others = none_passes (has (take done.failed failed)) (drop done.failed failed) apart in
      let more = decided_same meld (take done.failed failed) (drop done.failed failed) L fits others in (
        all_some (settled_then slots c k done.since) (settled_then slots c k point) later ms is.1,
        is.4 ∙ (ap (λ w. decided_by meld w L) (sym same) ∙ (sym more ∙ ap₂ (decided_by meld) parts (sym settled))),
      )

-- one more round is kept
pub done_kept : {P A B T : Type 0} (meld : P → P → P) (rounds more : HashMap (ℕ × ℕ × ℕ) (Done P A) T) (slots : Grid (Cell P) B) (failures : List ℕ) (groups : List (List ℕ)) (c k : ℕ) (done : Done P A)
    → AreDone meld rounds slots failures groups → IsDone meld slots failures groups c k done
    → ((q : ℕ × ℕ × ℕ) → get same_place more q ≡ (if same_place (c, k, 0) q then Some done else get same_place rounds q)) → AreDone meld more slots failures groups
done_kept {P} {A} meld rounds more slots failures groups c k done are is puts d l other at = go (same_place (c, k, 0) (d, l, 0)) refl
  where
    go : (b : Bool) → same_place (c, k, 0) (d, l, 0) ≡ b → IsDone meld slots failures groups d l other
    go true same =
        let place = place_is (c, k, 0) (d, l, 0) same in
        let found : Some done ≡ Some other = sym (ap (λ (b : Bool). if b then Some done else get same_place rounds (d, l, 0)) same) ∙ (sym (puts (d, l, 0)) ∙ at) in
        let one : done ≡ other = cc found in
        subst (λ (p : ℕ × ℕ × ℕ). IsDone meld slots failures groups (p.0) (p.1) other) place (subst (λ (x : Done P A). IsDone meld slots failures groups c k x) one is)
    go false apart = are d l other (sym (ap (λ (b : Bool). if b then Some done else get same_place rounds (d, l, 0)) apart) ∙ (sym (puts (d, l, 0)) ∙ at))

-- and so it is after it was put there, or memory was refused
pub done_put : {P A B T X E : Type 0} (meld : P → P → P) (rounds more : HashMap (ℕ × ℕ × ℕ) (Done P A) T) (slots : Grid (Cell P) B) (failures : List ℕ) (groups : List (List ℕ)) (c k : ℕ) (done : Done P A) (result : Result X E)
    → AreDone meld rounds slots failures groups → IsDone meld slots failures groups c k done → OnOk result (Updates same_place rounds more (c, k, 0) (Some done)) → OnErr result (IsUnchanged rounds more) → AreDone meld more slots failures groups
done_put meld rounds more slots failures groups c k done (Ok x) are is ok err = done_kept meld rounds more slots failures groups c k done are is ok.0
done_put meld rounds more slots failures groups c k done (Err e) are is ok err = λ d l other at. are d l other (ap (lookup (same_place (d, l, 0))) (sym err) ∙ at)

-- a table by rounds stays one after something was put at a round, or memory was refused
pub by_round_put : {V S X E : Type 0} (old new : HashMap (ℕ × ℕ × ℕ) V S) (c k : ℕ) (v : V) (result : Result X E)
    → IsByRound old → OnOk result (Updates same_place old new (c, k, 0) (Some v)) → OnErr result (IsUnchanged old new) → IsByRound new
by_round_put {V} old new c k v (Ok x) are ok err = λ place w at. go place w at (same_place (c, k, 0) place) refl
  where
    go : (place : ℕ × ℕ × ℕ) (w : V) → get same_place new place ≡ Some w → (b : Bool) → same_place (c, k, 0) place ≡ b → place.2 ≡ 0
    go place w at true same = sym (ap (λ (p : ℕ × ℕ × ℕ). p.2) (place_is (c, k, 0) place same))
    go place w at false apart = are place w (sym (ap (λ (b : Bool). if b then Some v else get same_place old place) apart) ∙ (sym (ok.0 place) ∙ at))
by_round_put old new c k v (Err e) are ok err = λ place w at. are place w (ap (lookup (same_place place)) (sym err) ∙ at)

-- and so it is of what is left where some are taken out
pub done_fewer : {P A B T : Type 0} (meld : P → P → P) (rounds fewer : HashMap (ℕ × ℕ × ℕ) (Done P A) T) (slots : Grid (Cell P) B) (failures : List ℕ) (groups : List (List ℕ)) (test : ℕ × ℕ × ℕ → Bool)
    → AreDone meld rounds slots failures groups → ((q : ℕ × ℕ × ℕ) → get same_place fewer q ≡ (if test q then None else get same_place rounds q)) → AreDone meld fewer slots failures groups
done_fewer {P} {A} meld rounds fewer slots failures groups test are takes c k done at = go (test (c, k, 0)) refl
  where
    go : (b : Bool) → test (c, k, 0) ≡ b → IsDone meld slots failures groups c k done
    go true gone = absurd (cc (sym (ap (λ (b : Bool). if b then None else get same_place rounds (c, k, 0)) gone) ∙ (sym (takes (c, k, 0)) ∙ at)))
    go false there = are c k done (sym (ap (λ (b : Bool). if b then None else get same_place rounds (c, k, 0)) there) ∙ (sym (takes (c, k, 0)) ∙ at))

pub by_round_fewer : {V S : Type 0} (old new : HashMap (ℕ × ℕ × ℕ) V S) (test : ℕ × ℕ × ℕ → Bool)
    → IsByRound old → ((q : ℕ × ℕ × ℕ) → get same_place new q ≡ (if test q then None else get same_place old q)) → IsByRound new
by_round_fewer {V} old new test are takes place w at = go (test place) refl
  where
    go : (b : Bool) → test place ≡ b → place.2 ≡ 0
    go true gone = absurd (cc (sym (ap (λ (b : Bool). if b then None else get same_place old place) gone) ∙ (sym (takes place) ∙ at)))
    go false there = are place w (sym (ap (λ (b : Bool). if b then None else get same_place old place) there) ∙ (sym (takes place) ∙ at))

-- what was put at a place that nothing stood at leaves the others
pub put_keeps : {P A : Type 0} (old new : Grid (Cell P) A) (place : ℕ × ℕ × ℕ) (x : ℕ × Slot P) → told_at old place ≡ None
    → ((q : ℕ × ℕ × ℕ) → told_at new q ≡ (if same_place place q then Some x else told_at old q)) → KeepsSlots old new
put_keeps {P} old new place x absent puts q at there = go (same_place place q) refl
  where
    go : (b : Bool) → same_place place q ≡ b → told_at new q ≡ Some at
    go true same = absurd (cc (sym (ap (told_at old) (place_is place q same)) ∙ absent, there))
    go false apart = puts q ∙ (ap (λ (b : Bool). if b then Some x else told_at old q) apart ∙ there)

-- each round that is kept is still decided after one more event
pub are_done_later : {P A B T : Type 0} (meld : P → P → P) (rounds : HashMap (ℕ × ℕ × ℕ) (Done P A) T) (slots later : Grid (Cell P) B) (failures more longer : List ℕ) (groups extra all : List (List ℕ)) → KeepsSlots slots later
    → longer ≡ failures ++ more → all ≡ groups ++ extra → AreDone meld rounds slots failures groups → AreDone meld rounds later longer all
are_done_later {P} {A} meld rounds slots later failures more longer groups extra all keeps longer_is all_is are c k done at =
    subst (λ (fs : List ℕ). IsDone {A = A} meld later fs all c k done) (sym longer_is)
    (subst (λ (gs : List (List ℕ)). IsDone {A = A} meld later (failures ++ more) gs c k done) (sym all_is) (done_stays meld slots later failures more groups extra c k done keeps (are c k done at)))

-- what holds anyway holds where there was memory
pub ok_anyway : {X E T : Type 0} (result : Result X E) → T → OnOk result T
ok_anyway (Ok x) t = t
ok_anyway (Err e) t = tt

-- an error has no value, of which anything would be asked
pub no_value : {X E : Type 0} (Asked : X → Type 0) (result : Result X E) → IsErr result → IfOk result Asked
no_value Asked (Ok x) is = absurd (cc is)
no_value Asked (Err e) is = tt

-- what a slice lent of a list leaves, where it keeps its length
pub written : {X : Type 0} (n : ℕ) (new old : List X) → length new ≡ n → take n (new ++ drop (length new) old) ≡ new
written n new old same = ap (λ m. take m (new ++ drop (length new) old)) (sym same) ∙ take-append_seam new (drop (length new) old)

-- Calls that stand at their callers' places, and records that stand at their ranks' numbers.
use Rattle.std.proofs.Common.{◌≡◌, ◌≢◌, ◌<◌, ◌≤◌, ◌==◌, ◌∷◌, ◌++◌, [], ℕ, zero, suc, Bool, true, false, cond, not, List, filter, length, map, Option, Some, None, get_or, set, slice_get, refl, sym, ap, subst, ◌∙◌, arith}
use Rattle.std.specs.List.{find, position, position_or_len}
use Rattle.std.specs.Option.{option_and_then, option_map}
use Rattle.std.specs.Prelude.{nat_lt}
use Rattle.std.proofs.lemmas.Bool.{eq-eqb, eqb-true, le-ltb, lt-ltb, ne_eqb}
use Rattle.std.proofs.lemmas.List.{get_or-map, length-map}
use Rattle.std.proofs.lemmas.List.Sums.{position_or_len_is}
use Rattle.std.proofs.lemmas.Option.{get_or_from_slice_get, slice_get_past, slice_get_read, slice_get_within}
use Rattle.ulfm_model.specs.declared.event.Caller.{Caller}
use Rattle.ulfm_model.specs.History.{first_ranks}
use Rattle.ulfm_model.proofs.RankGroups.{first_at, first_length}
use Rattle.ulfm_numbers.proofs.Placing.{get_other, get_same}
use Rattle.ulfm_model.specs.Traces.{Under, caller_of, change_by, same_caller}
use Rattle.ulfm_judge.specs.declared.calls.OpenCall.{OpenCall}
use Rattle.ulfm_judge.specs.Kept.{AreCalls, kept_by, open_at, place_by, seat_of, under_of}

-- ---- callers

pub one_caller : (x y : Caller) → same_caller x y ≡ true → x ≡ y
one_caller Caller.Outside Caller.Outside e = refl
one_caller Caller.Outside (Caller.Rank s) e = absurd (cc e)
one_caller (Caller.Rank r) Caller.Outside e = absurd (cc e)
one_caller (Caller.Rank r) (Caller.Rank s) e = ap Caller.Rank (eqb-true r s e)

pub own_caller : (x : Caller) → same_caller x x ≡ true
own_caller Caller.Outside = refl
own_caller (Caller.Rank r) = eq-eqb r r refl

apart_seats : (x y : Caller) → same_caller x y ≡ false → seat_of y ≢ seat_of x
apart_seats Caller.Outside Caller.Outside e same = absurd (cc e)
apart_seats Caller.Outside (Caller.Rank s) e same = absurd (omega (arith, same))
apart_seats (Caller.Rank r) Caller.Outside e same = absurd (omega (arith, same))
apart_seats (Caller.Rank r) (Caller.Rank s) e same = let one : r ≡ s = omega (arith, same) in absurd (cc (e, eq-eqb r s one))

-- ---- what is found of a caller in a list of calls

module _ {P : Type 0} where
  abbrev by_caller : Caller → List (Under P) → Option (Under P)
  by_caller x us = find (λ u. same_caller (caller_of u) x) us

  -- the call of another
  others : (by x : Caller) (u : Under P) → same_caller (caller_of u) by ≡ true → same_caller by x ≡ false → same_caller (caller_of u) x ≡ false
  others by x u is apart = ap (λ c. same_caller c x) (one_caller (caller_of u) by is) ∙ apart

  module _ (by : Caller) (f : Under P → Under P) (keeps : (u : Under P) → caller_of (f u) ≡ caller_of u) where
    changed_same : (us : List (Under P)) → by_caller by (change_by by f us) ≡ option_map f (by_caller by us)
    changed_same [] = refl
    changed_same (u ∷ us) = go (same_caller (caller_of u) by) refl (changed_same us)
      where
        go : (b : Bool) → same_caller (caller_of u) by ≡ b → by_caller by (change_by by f us) ≡ option_map f (by_caller by us)
            → by_caller by (cond (same_caller (caller_of u) by) (f u ∷ us) (u ∷ change_by by f us)) ≡ option_map f (cond (same_caller (caller_of u) by) (Some u) (by_caller by us))
        go true is rest = rw is (ap (λ b. cond b (Some (f u)) (by_caller by us)) (ap (λ c. same_caller c by) (keeps u) ∙ is))
        go false is rest = rw is (ap (λ b. cond b (Some u) (by_caller by (change_by by f us))) is ∙ rest)

    changed_other : (x : Caller) → same_caller by x ≡ false → (us : List (Under P)) → by_caller x (change_by by f us) ≡ by_caller x us
    changed_other x apart [] = refl
    changed_other x apart (u ∷ us) = go (same_caller (caller_of u) by) refl (changed_other x apart us)
      where
        go : (b : Bool) → same_caller (caller_of u) by ≡ b → by_caller x (change_by by f us) ≡ by_caller x us
            → by_caller x (cond (same_caller (caller_of u) by) (f u ∷ us) (u ∷ change_by by f us)) ≡ by_caller x (u ∷ us)
        go true is rest =
            let skips = others by x u is apart in
            rw is (ap (λ b. cond b (Some (f u)) (by_caller x us)) (ap (λ c. same_caller c x) (keeps u) ∙ skips) ∙ sym (ap (λ b. cond b (Some u) (by_caller x us)) skips))
        go false is rest = rw is (ap (λ o. cond (same_caller (caller_of u) x) (Some u) o) rest)

  added_same : (by : Caller) (us : List (Under P)) (u : Under P) → by_caller by us ≡ None → same_caller (caller_of u) by ≡ true → by_caller by (us ++ u ∷ []) ≡ Some u
  added_same by [] u none is = ap (λ b. cond b (Some u) None) is
  added_same by (v ∷ vs) u none is = go (same_caller (caller_of v) by) none (λ none. added_same by vs u none is)
    where
      go : (b : Bool) → cond b (Some v) (by_caller by vs) ≡ None → (by_caller by vs ≡ None → by_caller by (vs ++ u ∷ []) ≡ Some u) → cond b (Some v) (by_caller by (vs ++ u ∷ [])) ≡ Some u
      go true none rest = absurd (cc none)
      go false none rest = rest none

  added_other : (x : Caller) (us : List (Under P)) (u : Under P) → same_caller (caller_of u) x ≡ false → by_caller x (us ++ u ∷ []) ≡ by_caller x us
  added_other x [] u apart = ap (λ b. cond b (Some u) None) apart
  added_other x (v ∷ vs) u apart = ap (λ o. cond (same_caller (caller_of v) x) (Some v) o) (added_other x vs u apart)

  abbrev rest_of : Caller → List (Under P) → List (Under P)
  rest_of by us = filter (λ v. not (same_caller (caller_of v) by)) us

  closed_same : (by : Caller) (us : List (Under P)) → by_caller by (rest_of by us) ≡ None
  closed_same by [] = refl
  closed_same by (u ∷ us) = go (same_caller (caller_of u) by) refl (closed_same by us)
    where
      go : (b : Bool) → same_caller (caller_of u) by ≡ b → by_caller by (rest_of by us) ≡ None
          → by_caller by (cond (not (same_caller (caller_of u) by)) (u ∷ rest_of by us) (rest_of by us)) ≡ None
      go true is rest = rw is rest
      go false is rest = rw is (ap (λ b. cond b (Some u) (by_caller by (rest_of by us))) is ∙ rest)

  closed_other : (by x : Caller) → same_caller by x ≡ false → (us : List (Under P)) → by_caller x (rest_of by us) ≡ by_caller x us
  closed_other by x apart [] = refl
  closed_other by x apart (u ∷ us) = go (same_caller (caller_of u) by) refl (closed_other by x apart us)
    where
      go : (b : Bool) → same_caller (caller_of u) by ≡ b → by_caller x (rest_of by us) ≡ by_caller x us
          → by_caller x (cond (not (same_caller (caller_of u) by)) (u ∷ rest_of by us) (rest_of by us)) ≡ by_caller x (u ∷ us)
      go true is rest = rw is (rest ∙ sym (ap (λ b. cond b (Some u) (by_caller x us)) (others by x u is apart)))
      go false is rest = rw is (ap (λ o. cond (same_caller (caller_of u) x) (Some u) o) rest)

-- ---- what is kept at a caller's place

pushed : {X Y : Type 0} (f : X → Option Y) (xs : List X) (j : ℕ) (y : X) → f y ≡ None → option_and_then f (slice_get (xs ++ y ∷ []) j) ≡ option_and_then f (slice_get xs j)
pushed f [] zero y none = none
pushed f [] (suc j) y none = refl
pushed f (x ∷ xs) zero y none = refl
pushed f (x ∷ xs) (suc j) y none = pushed f xs j y none

module _ {P A : Type 0} where
  pub closed_at : (y : OpenCall P A) → y.is_open ≡ false → open_at y ≡ None
  closed_at y shut = ap (λ b. cond b (Some (under_of y)) None) shut

  pub opened_at : (y : OpenCall P A) → y.is_open ≡ true → open_at y ≡ Some (under_of y)
  opened_at y is = ap (λ b. cond b (Some (under_of y)) None) is

  -- a further place, at which no call is under way
  pub room_made : (calls : List (OpenCall P A)) (us : List (Under P)) (y : OpenCall P A) → y.is_open ≡ false → AreCalls calls us → AreCalls (calls ++ y ∷ []) us
  room_made calls us y shut are = λ x. are x ∙ sym (pushed open_at calls (seat_of x) y (closed_at y shut))

  -- a write at the place of a caller
  written_at : (calls : List (OpenCall P A)) (us next : List (Under P)) (by : Caller) (i : ℕ) (y : OpenCall P A) → AreCalls calls us → i ≡ seat_of by → i < length calls
      → by_caller by next ≡ open_at y → ((x : Caller) → same_caller by x ≡ false → by_caller x next ≡ by_caller x us) → AreCalls (set calls i y) next
  written_at calls us next by i y are at within here rest = λ x. go x (same_caller by x) refl
    where
      go : (x : Caller) (b : Bool) → same_caller by x ≡ b → by_caller x next ≡ kept_by (set calls i y) x
      go x true is =
          subst (λ c. by_caller c next ≡ kept_by (set calls i y) c) (one_caller by x is)
          (here ∙ sym (ap (option_and_then open_at) (ap (slice_get (set calls i y)) (sym at) ∙ get_same calls i y within)))
      go x false apart = rest x apart ∙ (are x ∙ sym (ap (option_and_then open_at) (get_other calls i (seat_of x) y (λ e. apart_seats by x apart (e ∙ at)))))

  -- where a caller's call stands
  pub record Stood (calls : List (OpenCall P A)) (by : Caller) (i : ℕ) : Type 0 where
    pub call : OpenCall P A
    pub there : slice_get calls i ≡ Some call
    pub is_open : call.is_open ≡ true
    pub at : i ≡ seat_of by

  pub stood : (calls : List (OpenCall P A)) (by : Caller) (i : ℕ) → place_by calls by ≡ Some i → Stood calls by i
  stood calls by i is = go (slice_get calls (seat_of by)) refl is
    where
      at_call : (u : OpenCall P A) → slice_get calls (seat_of by) ≡ Some u → (b : Bool) → u.is_open ≡ b → cond b (Some (seat_of by)) None ≡ Some i → Stood calls by i
      at_call u there true holds is = let at : seat_of by ≡ i = cc is in record { call = u; there = ap (slice_get calls) (sym at) ∙ there; is_open = holds; at = sym at }
      at_call u there false holds is = absurd (cc is)

      go : (o : Option (OpenCall P A)) → slice_get calls (seat_of by) ≡ o → option_and_then (λ (u : OpenCall P A). cond u.is_open (Some (seat_of by)) None) o ≡ Some i → Stood calls by i
      go None there is = absurd (cc is)
      go (Some u) there is = at_call u there u.is_open refl is

  -- a call that is under way at its caller's place
  pub stands_there : (calls : List (OpenCall P A)) (by : Caller) (i : ℕ) (u : OpenCall P A) → i ≡ seat_of by → i < length calls → u ≡ get_or calls i u
      → u.is_open ≡ true → Some i ≡ place_by calls by
  stands_there calls by i u at within is holds =
      let there : slice_get calls (seat_of by) ≡ Some u = ap (slice_get calls) (sym at) ∙ slice_get_read calls (length calls) i u refl within is in
      ap Some at
      ∙ sym (ap (option_and_then (λ (v : OpenCall P A). cond v.is_open (Some (seat_of by)) None)) there ∙ ap (λ b. cond b (Some (seat_of by)) None) holds)

  -- none is where the one there has ended
  pub stands_ended : (calls : List (OpenCall P A)) (by : Caller) (i : ℕ) (u : OpenCall P A) → i ≡ seat_of by → i < length calls → u ≡ get_or calls i u
      → u.is_open ≡ false → None ≡ place_by calls by
  stands_ended calls by i u at within is shut =
      let there : slice_get calls (seat_of by) ≡ Some u = ap (slice_get calls) (sym at) ∙ slice_get_read calls (length calls) i u refl within is in
      sym (ap (option_and_then (λ (v : OpenCall P A). cond v.is_open (Some (seat_of by)) None)) there ∙ ap (λ b. cond b (Some (seat_of by)) None) shut)

  -- nor behind the last place
  pub stands_nowhere : (calls : List (OpenCall P A)) (by : Caller) (i : ℕ) → i ≡ seat_of by → length calls ≤ i → None ≡ place_by calls by
  stands_nowhere calls by i at past =
      sym (ap (option_and_then (λ (v : OpenCall P A). cond v.is_open (Some (seat_of by)) None)) (ap (slice_get calls) (sym at) ∙ slice_get_past calls i past))

  pub is_open_at : (calls : List (OpenCall P A)) (by : Caller) (i : ℕ) (d : OpenCall P A) → place_by calls by ≡ Some i → (get_or calls i d).is_open ≡ true
  is_open_at calls by i d is = let s = stood calls by i is in ap (λ (u : OpenCall P A). u.is_open) (get_or_from_slice_get calls i s.call d s.there) ∙ s.is_open

  pub kept_here : (calls : List (OpenCall P A)) (by : Caller) (i : ℕ) (d : OpenCall P A) → place_by calls by ≡ Some i → kept_by calls by ≡ Some (under_of (get_or calls i d))
  kept_here calls by i d is =
      let s = stood calls by i is in
      ap (option_and_then open_at) (ap (slice_get calls) (sym s.at) ∙ s.there)
      ∙ (opened_at s.call s.is_open ∙ ap (λ (u : OpenCall P A). Some (under_of u)) (sym (get_or_from_slice_get calls i s.call d s.there)))

  pub kept_nowhere : (calls : List (OpenCall P A)) (by : Caller) → place_by calls by ≡ None → kept_by calls by ≡ None
  kept_nowhere calls by is = go (slice_get calls (seat_of by)) is
    where
      shut : (u : OpenCall P A) (b : Bool) → cond b (Some (seat_of by)) None ≡ None → cond b (Some (under_of u)) None ≡ None
      shut u true is = absurd (cc is)
      shut u false is = refl

      go : (o : Option (OpenCall P A)) → option_and_then (λ (u : OpenCall P A). cond u.is_open (Some (seat_of by)) None) o ≡ None → option_and_then open_at o ≡ None
      go None is = refl
      go (Some u) is = shut u u.is_open is

  -- a call begins at its caller's place, where none was under way
  pub begun_at : (calls : List (OpenCall P A)) (us : List (Under P)) (by : Caller) (i : ℕ) (y : OpenCall P A) (u : Under P) → AreCalls calls us → i ≡ seat_of by → i < length calls
      → by_caller by us ≡ None → caller_of u ≡ by → y.is_open ≡ true → under_of y ≡ u → AreCalls (set calls i y) (us ++ u ∷ [])
  begun_at calls us by i y u are at within none of holds is =
      written_at calls us (us ++ u ∷ []) by i y are at within (added_same by us u none (ap (λ c. same_caller c by) of ∙ own_caller by) ∙ sym (opened_at y holds ∙ ap Some is))
      (λ x apart. added_other x us u (ap (λ c. same_caller c x) of ∙ apart))

  -- a caller's call changes where it stands
  pub changed_at : (calls : List (OpenCall P A)) (us : List (Under P)) (by : Caller) (f : Under P → Under P) → ((u : Under P) → caller_of (f u) ≡ caller_of u)
      → (i : ℕ) (d y : OpenCall P A) → AreCalls calls us → place_by calls by ≡ Some i → y.is_open ≡ true → under_of y ≡ f (under_of (get_or calls i d)) → AreCalls (set calls i y) (change_by by f us)
  changed_at calls us by f keeps i d y are is holds new =
      let s = stood calls by i is in
      written_at calls us (change_by by f us) by i y are s.at (slice_get_within calls i s.call s.there)
      (changed_same by f keeps us ∙ (ap (option_map f) (are by ∙ kept_here calls by i d is) ∙ sym (opened_at y holds ∙ ap Some new))) (λ x apart. changed_other by f keeps x apart us)

  -- it ends
  pub ended_at : (calls : List (OpenCall P A)) (us : List (Under P)) (by : Caller) (i : ℕ) (y : OpenCall P A) → AreCalls calls us → place_by calls by ≡ Some i → y.is_open ≡ false
      → AreCalls (set calls i y) (rest_of by us)
  ended_at calls us by i y are is shut =
      let s = stood calls by i is in
      written_at calls us (rest_of by us) by i y are s.at (slice_get_within calls i s.call s.there) (closed_same by us ∙ sym (closed_at y shut)) (λ x apart. closed_other by x apart us)

  -- a caller without a call ends none
  pub ended_nowhere : (calls : List (OpenCall P A)) (us : List (Under P)) (by : Caller) → AreCalls calls us → place_by calls by ≡ None → AreCalls calls (rest_of by us)
  ended_nowhere calls us by are none = λ x. go x (same_caller by x) refl
    where
      go : (x : Caller) (b : Bool) → same_caller by x ≡ b → by_caller x (rest_of by us) ≡ kept_by calls x
      go x true is = subst (λ c. by_caller c (rest_of by us) ≡ kept_by calls c) (one_caller by x is) (closed_same by us ∙ sym (kept_nowhere calls by none))
      go x false apart = closed_other by x apart us ∙ are x

-- ---- records

module _ {X : Type 0} (v : X → ℕ) (n r : ℕ) where
  number_at : (xs : List X) (k : ℕ) (d : X) → map v xs ≡ first_ranks n → k < length xs → v (get_or xs k d) ≡ k
  number_at xs k d numbered within =
      let size : length xs ≡ n = sym (length-map xs v) ∙ (ap length numbered ∙ first_length n) in
      sym (get_or-map v xs k d 0 within) ∙ (ap (λ ns. get_or ns k 0) numbered ∙ first_at n k (omega (arith, size, within)))

  -- the record of a rank stands at the rank's number
  pub numbered_place : (xs : List X) → map v xs ≡ first_ranks n → r < length xs → position (λ x. v x == r) xs ≡ Some r
  numbered_place [] numbered within = absurd (omega (arith, within))
  numbered_place (x ∷ xs) numbered within =
      let all = x ∷ xs in
      let at : position_or_len (λ y. v y == r) all ≡ r =
      position_or_len_is (λ y. v y == r) all r x (omega (arith, within)) (λ k less. ne_eqb (v (get_or all k x)) r (λ same. omega (arith, less, same, number_at all k x numbered (omega (arith, within, less)))))
      (λ less. eq-eqb (v (get_or all r x)) r (number_at all r x numbered within)) in
      ap (λ k. cond (nat_lt k (length all)) (Some k) None) at ∙ ap (λ b. cond b (Some r) None) (lt-ltb r (length all) within)

  -- and there is none of a rank behind them all
  pub numbered_past : (xs : List X) → map v xs ≡ first_ranks n → length xs ≤ r → position (λ x. v x == r) xs ≡ None
  numbered_past [] numbered past = refl
  numbered_past (x ∷ xs) numbered past =
      let all = x ∷ xs in
      let at : position_or_len (λ y. v y == r) all ≡ length all =
      position_or_len_is (λ y. v y == r) all (length all) x (omega arith) (λ k less. ne_eqb (v (get_or all k x)) r (λ same. omega (arith, past, less, same, number_at all k x numbered less)))
      (λ less. absurd (omega (arith, less))) in
      ap (λ k. cond (nat_lt k (length all)) (Some k) None) at ∙ ap (λ b. cond b (Some (length all)) None) (le-ltb (length all) (length all) (omega arith))

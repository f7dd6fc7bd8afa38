-- Lists of held communicators, with one changed, added or given back.
use Rattle.std.proofs.Common.{◌≡◌, ℕ, ◌≤◌, Bool, true, false, cond, ◌==◌, List, [], ◌∷◌, ◌++◌, length, Some, refl, ap, sym, ◌∙◌, subst, arith, filter, nat_eq}
use Rattle.std.specs.Prelude.{find}
use Rattle.std.specs.List.{list_any, AllByRecursion, IsDistinct}
use Rattle.std.proofs.lemmas.Map.Keys.{IsDistinct-head, IsDistinct-tail, IsDistinct-cons}
use Rattle.std.proofs.lemmas.Bool.{or_parts}
use Rattle.ulfm_model.specs.Records.{Held, change_at, is_shrink}
use Rattle.ulfm_model.specs.Terms.{contexts_of}
use Rattle.ulfm_model.proofs.Lists.{find_holds}

-- the communicators on which a shrink is open, counted
abbrev pub shrinks : List Held → ℕ
shrinks held = length (filter (λ y. is_shrink y.request) held)

-- a test that no element of a list passes
none_passes : {X : Type 0} (p : X → Bool) (xs : List X) → length (filter p xs) ≤ 0 → AllByRecursion (λ x. p x ≡ false) xs
none_passes p [] le = tt
none_passes p (x ∷ xs) le = go (p x) refl (none_passes p xs) le
  where
    go : (b : Bool) → p x ≡ b → (length (filter p xs) ≤ 0 → AllByRecursion (λ x. p x ≡ false) xs) → length (cond b (x ∷ filter p xs) (filter p xs)) ≤ 0 → AllByRecursion (λ x. p x ≡ false) (x ∷ xs)
    go true is more le = absurd (omega arith)
    go false is more le = (is, more le)

any_false : {X : Type 0} (p : X → Bool) (xs : List X) → list_any p xs ≡ false → length (filter p xs) ≤ 0
any_false p [] e = omega arith
any_false p (x ∷ xs) e =
    let parts = or_parts (p x) (list_any p xs) e in
    let none = any_false p xs parts.1 in
    subst (λ b. length (cond b (x ∷ filter p xs) (filter p xs)) ≤ 0) (sym parts.0) none

-- one more of each kept, the first only where the second is
longer : {X : Type 0} (a b : Bool) → (a ≡ true → b ≡ true) → (x y : X) (xs ys : List X) → length xs ≤ length ys → length (cond a (x ∷ xs) xs) ≤ length (cond b (y ∷ ys) ys)
longer true true imp x y xs ys le = omega (arith, le)
longer true false imp x y xs ys le = absurd (cc (imp refl))
longer false true imp x y xs ys le = omega (arith, le)
longer false false imp x y xs ys le = le

fewer : {X : Type 0} (p q : X → Bool) (xs : List X) → length (filter q (filter p xs)) ≤ length (filter q xs)
fewer p q [] = omega arith
fewer p q (x ∷ xs) =
    elim (p x) as (λ b. length (filter q (cond b (x ∷ filter p xs) (filter p xs))) ≤ length (filter q (x ∷ xs))) [
      | true ↦ longer (q x) (q x) (λ e. e) x x (filter q (filter p xs)) (filter q xs) (fewer p q xs)
      | false ↦ longer false (q x) (λ e. absurd (cc e)) x x (filter q (filter p xs)) (filter q xs) (fewer p q xs)
    ]

module _ (c : ℕ) (f : Held → Held) where
  -- what holds of each, and of the changed one, holds of each after the change
  pub each_change : (P : Held → Type 0) (held : List Held) (x : Held) → AllByRecursion P held → find (λ y. y.comm == c) held ≡ Some x → P (f x) → AllByRecursion P (change_at c f held)
  each_change P [] x all at new = tt
  each_change P (y ∷ held) x all at new = go (y.comm == c) (λ at. each_change P held x all.1 at new) at
    where
      go : (b : Bool) → (find (λ y. y.comm == c) held ≡ Some x → AllByRecursion P (change_at c f held)) → cond b (Some y) (find (λ y. y.comm == c) held) ≡ Some x → AllByRecursion P (cond b (f y ∷ held) (y ∷ change_at c f held))
      go true more at = let same : y ≡ x = cc at in (subst (λ w. P (f w)) (sym same) new, all.1)
      go false more at = (all.0, more at)

  -- a change that keeps the context id keeps all of them
  pub contexts_change : (held : List Held) (x : Held) → find (λ y. y.comm == c) held ≡ Some x → (f x).context ≡ x.context → contexts_of (change_at c f held) ≡ contexts_of held
  contexts_change [] x at same = refl
  contexts_change (y ∷ held) x at same = go (y.comm == c) (λ at. contexts_change held x at same) at
    where
      go : (b : Bool) → (find (λ y. y.comm == c) held ≡ Some x → contexts_of (change_at c f held) ≡ contexts_of held) → cond b (Some y) (find (λ y. y.comm == c) held) ≡ Some x
          → contexts_of (cond b (f y ∷ held) (y ∷ change_at c f held)) ≡ y.context ∷ contexts_of held
      go true more at = let this : y ≡ x = cc at in subst (λ w. (f w).context ∷ contexts_of held ≡ w.context ∷ contexts_of held) (sym this) (ap (λ i. i ∷ contexts_of held) same)
      go false more at = ap (λ ids. y.context ∷ ids) (more at)

  -- a change that opens no shrink leaves no more of them open
  pub shrinks_change : ((y : Held) → is_shrink (f y).request ≡ true → is_shrink y.request ≡ true) → (held : List Held) → shrinks (change_at c f held) ≤ shrinks held
  shrinks_change was [] = omega arith
  shrinks_change was (y ∷ held) =
      let open_in = filter (λ y. is_shrink y.request) held in
      let open_then = filter (λ y. is_shrink y.request) (change_at c f held) in
      let rest = shrinks_change was held in
      elim (y.comm == c) as (λ b. shrinks (cond b (f y ∷ held) (y ∷ change_at c f held)) ≤ shrinks (y ∷ held)) [
        | true ↦ longer (is_shrink (f y).request) (is_shrink y.request) (was y) (f y) y open_in open_in (omega arith)
        | false ↦ longer (is_shrink y.request) (is_shrink y.request) (λ e. e) y y open_then open_in rest
      ]

  -- where no shrink is open, at most one is after a change
  pub shrinks_opened : (held : List Held) → list_any (λ y. is_shrink y.request) held ≡ false → shrinks (change_at c f held) ≤ 1
  shrinks_opened [] none = omega arith
  shrinks_opened (y ∷ held) none =
      let parts = or_parts (is_shrink y.request) (list_any (λ y. is_shrink y.request) held) none in
      let open_in = filter (λ y. is_shrink y.request) held in
      let open_then = filter (λ y. is_shrink y.request) (change_at c f held) in
      let rest = any_false (λ y. is_shrink y.request) held parts.1 in
      let more = shrinks_opened held parts.1 in
      let one = longer (is_shrink (f y).request) true (λ e. refl) (f y) y open_in open_in (omega arith) in
      elim (y.comm == c) as (λ b. shrinks (cond b (f y ∷ held) (y ∷ change_at c f held)) ≤ 1) [
        | true ↦ omega (arith, one, rest)
        | false ↦ subst (λ b. length (cond b (y ∷ open_then) open_then) ≤ 1) (sym parts.0) more
      ]

  -- where one shrink at most is open, and that one is closed, none is open
  pub shrinks_closed : (held : List Held) (x : Held) → find (λ y. y.comm == c) held ≡ Some x → is_shrink x.request ≡ true → is_shrink (f x).request ≡ false → shrinks held ≤ 1 → AllByRecursion (λ y. is_shrink y.request ≡ false) (change_at c f held)
  shrinks_closed [] x at was shut one = tt
  shrinks_closed (y ∷ held) x at was shut one = go (y.comm == c) (is_shrink y.request) refl (λ at one. shrinks_closed held x at was shut one) at one
    where
      go : (b is_open : Bool) → is_shrink y.request ≡ is_open → (find (λ y. y.comm == c) held ≡ Some x → shrinks held ≤ 1 → AllByRecursion (λ y. is_shrink y.request ≡ false) (change_at c f held)) → cond b (Some y) (find (λ y. y.comm == c) held) ≡ Some x
          → length (cond is_open (y ∷ filter (λ y. is_shrink y.request) held) (filter (λ y. is_shrink y.request) held)) ≤ 1 → AllByRecursion (λ y. is_shrink y.request ≡ false) (cond b (f y ∷ held) (y ∷ change_at c f held))
      go true true is more at one =
          let this : y ≡ x = cc at in (ap (λ w. is_shrink (f w).request) this ∙ shut, none_passes (λ y. is_shrink y.request) held (omega (arith, one)))
      go true false is more at one =
          let this : y ≡ x = cc at in let not_open : is_shrink x.request ≡ false = ap (λ w. is_shrink w.request) (sym this) ∙ is in absurd (cc (not_open, was))
      go false true is more at one =
          let others = none_passes (λ y. is_shrink y.request) held (omega (arith, one)) in
          let not_open = (find_holds (λ y. y.comm == c) (λ y. is_shrink y.request ≡ false) held x others at).0 in absurd (cc (not_open, was))
      go false false is more at one = (is, more at one)

-- no shrink is open where each test says so
pub shrinks_none : (held : List Held) → AllByRecursion (λ y. is_shrink y.request ≡ false) held → shrinks held ≤ 0
shrinks_none [] all = omega arith
shrinks_none (y ∷ held) all = subst (λ b. length (cond b (y ∷ filter (λ y. is_shrink y.request) held) (filter (λ y. is_shrink y.request) held)) ≤ 0) (sym all.0) (shrinks_none held all.1)

-- the context ids with one more communicator
pub contexts_push : (held : List Held) (x : Held) → contexts_of (held ++ x ∷ []) ≡ contexts_of held ++ x.context ∷ []
contexts_push [] x = refl
contexts_push (y ∷ held) x = ap (λ ids. y.context ∷ ids) (contexts_push held x)

module _ (p : Held → Bool) where
  -- what holds of each context id holds of those of the communicators that are kept
  pub contexts_kept : (P : ℕ → Type 0) (held : List Held) → AllByRecursion P (contexts_of held) → AllByRecursion P (contexts_of (filter p held))
  contexts_kept P [] all = tt
  contexts_kept P (y ∷ held) all =
      let rest = contexts_kept P held all.1 in
      elim (p y) as (λ b. AllByRecursion P (contexts_of (cond b (y ∷ filter p held) (filter p held)))) [ true ↦ (all.0, rest) | false ↦ rest ]

  -- and these ids differ still
  pub distinct_kept : (held : List Held) → IsDistinct nat_eq (contexts_of held) → IsDistinct nat_eq (contexts_of (filter p held))
  distinct_kept [] distinct = distinct
  distinct_kept (y ∷ held) distinct =
      let rest = distinct_kept held (IsDistinct-tail nat_eq y.context (contexts_of held) distinct) in
      let head = contexts_kept (λ j. nat_eq y.context j ≡ false) held (IsDistinct-head nat_eq y.context (contexts_of held) distinct) in
      elim (p y) as (λ b. IsDistinct nat_eq (contexts_of (cond b (y ∷ filter p held) (filter p held)))) [
        | true ↦ IsDistinct-cons nat_eq y.context (contexts_of (filter p held)) head rest
        | false ↦ rest
      ]

  -- no more shrinks are open than before
  pub shrinks_kept : (held : List Held) → shrinks (filter p held) ≤ shrinks held
  shrinks_kept held = fewer p (λ y. is_shrink y.request) held

-- Callers, and their calls among all.
use Rattle.std.proofs.Common.{◌≡◌, ℕ, Bool, true, false, List, [], ◌∷◌, find, Some, refl, ap, ◌∙◌, if◌then◌else◌}
use Rattle.std.proofs.lemmas.Bool.{eq-eqb, eqb-true}
use Rattle.std.specs.List.{AllByRecursion}
use Rattle.ulfm_model.specs.declared.event.Caller.{Caller}
use Rattle.ulfm_model.specs.Traces.{Under, caller_of, change_by, same_caller}

pub same_rank : (r : ℕ) → same_caller (Caller.Rank r) (Caller.Rank r) ≡ true
same_rank r = eq-eqb r r refl

-- callers that are found to be one are
pub same_is : (a b : Caller) → same_caller a b ≡ true → a ≡ b
same_is Caller.Outside Caller.Outside is = refl
same_is Caller.Outside (Caller.Rank s) is = absurd (cc is)
same_is (Caller.Rank r) Caller.Outside is = absurd (cc is)
same_is (Caller.Rank r) (Caller.Rank s) is = ap Caller.Rank (eqb-true r s is)

-- a call that is found is found after a change to it
pub find_change : {P : Type 0} (by : Caller) (f : Under P → Under P) → ((u : Under P) → (f u).asked ≡ u.asked) → (xs : List (Under P)) (u : Under P)
    → find (λ v. same_caller (caller_of v) by) xs ≡ Some u → find (λ v. same_caller (caller_of v) by) (change_by by f xs) ≡ Some (f u)
find_change by f keeps [] u is = absurd (cc is)
find_change {P} by f keeps (x ∷ xs) u is = go (same_caller (caller_of x) by) refl is (λ more. find_change by f keeps xs u more)
  where
    go : (b : Bool) → same_caller (caller_of x) by ≡ b → (if b then Some x else find (λ v. same_caller (caller_of v) by) xs) ≡ Some u
        → (find (λ v. same_caller (caller_of v) by) xs ≡ Some u → find (λ v. same_caller (caller_of v) by) (change_by by f xs) ≡ Some (f u))
        → find (λ v. same_caller (caller_of v) by) (if b then f x ∷ xs else x ∷ change_by by f xs) ≡ Some (f u)
    go true here is more =
        let there : same_caller (caller_of (f x)) by ≡ true = ap (λ a. same_caller (caller_of (record x { asked = a })) by) (keeps x) ∙ here in
        ap (λ (b : Bool). if b then Some (f x) else find (λ v. same_caller (caller_of v) by) xs) there ∙ (let same : x ≡ u = cc is in ap (λ v. Some (f v)) same)
    go false here is more = ap (λ (b : Bool). if b then Some x else find (λ v. same_caller (caller_of v) by) (change_by by f xs)) here ∙ more is

-- what holds of each call still holds after a change of one
pub each_change : {P : Type 0} (by : Caller) (f : Under P → Under P) (Q R : Under P → Type 0) → ((u : Under P) → Q u → R u) → (xs : List (Under P))
    → ((u : Under P) → find (λ v. same_caller (caller_of v) by) xs ≡ Some u → same_caller (caller_of u) by ≡ true → Q u → R (f u))
    → AllByRecursion Q xs → AllByRecursion R (change_by by f xs)
each_change by f Q R stays [] changes all = tt
each_change {P} by f Q R stays (x ∷ xs) changes all = go (same_caller (caller_of x) by) refl changes (λ more. each_change by f Q R stays xs more all.1)
  where
    each : (ys : List (Under P)) → AllByRecursion Q ys → AllByRecursion R ys
    each [] ys = tt
    each (y ∷ ys) all = (stays y all.0, each ys all.1)

    go : (b : Bool) → same_caller (caller_of x) by ≡ b
        → ((u : Under P) → (if b then Some x else find (λ v. same_caller (caller_of v) by) xs) ≡ Some u → same_caller (caller_of u) by ≡ true → Q u → R (f u))
        → (((u : Under P) → find (λ v. same_caller (caller_of v) by) xs ≡ Some u → same_caller (caller_of u) by ≡ true → Q u → R (f u)) → AllByRecursion R (change_by by f xs))
        → AllByRecursion R (if b then f x ∷ xs else x ∷ change_by by f xs)
    go true here changes more = (changes x refl here all.0, each xs all.1)
    go false here changes more = (stays x all.0, more changes)

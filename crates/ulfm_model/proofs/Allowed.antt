-- That the tests of a record let a request start only where a round is left for it.
use Rattle.std.proofs.Common.{◌≡◌, ℕ, ◌+◌, ◌^◌, ◌<◌, ◌≤◌, Bool, true, false, List, [], ◌∷◌, None, Some, is_some, refl, arith, nat_le, if◌then◌else◌}
use Rattle.std.specs.List.{list_any}
use Rattle.std.proofs.lemmas.Bool.Decides.{nat_tests}
use Rattle.ulfm_model.specs.declared.{call.Call.{Call}, refusal.Refusal.{Refusal}}
use Rattle.ulfm_model.specs.{Answers.{first_refusal, traits_of}, Records.{Held, Record, is_shrink}, Terms.{tests_of}}
use Rattle.ulfm_model.specs.Kept.{FitsNext}

-- where no test of several refuses, the first doesn't, and none of the others does
pub none_first_test : (test : Bool × Refusal) (tests : List (Bool × Refusal)) → first_refusal (test ∷ tests) ≡ None → (test.0 ≡ false) × (first_refusal tests ≡ None)
none_first_test test tests none = go test.0 refl none
  where
    go : (b : Bool) → test.0 ≡ b → (if b then Some test.1 else first_refusal tests) ≡ None → (test.0 ≡ false) × (first_refusal tests ≡ None)
    go true is none = absurd (cc none)
    go false is none = (is, none)

round_left : (rounds next : ℕ) → rounds ≤ 4096 → nat_le rounds next ≡ false → next + 1 < 2 ^ 16
round_left rounds next small left = grind (arith, nat_tests)

round_before : (rounds next : ℕ) → rounds ≤ 4096 → nat_le rounds (next + 1) ≡ false → next + 1 < 2 ^ 16
round_before rounds next small left = grind (arith, nat_tests)

-- a request that the record's tests allow has a round whose next number fits
pub allowed_fits : {P : Type 0} (own : Record) (x : Held) (asked : Call P) → own.limits.rounds ≤ 4096 → first_refusal (tests_of own x asked) ≡ None → FitsNext ((traits_of asked).starts x)
allowed_fits own x (Call.Agree rank c value) small none =
    let used : Bool × Refusal = (nat_le own.limits.rounds (x.next_agreement + 1), Refusal.RoundsUsedUp) in
    let rest = none_first_test (is_some x.request, Refusal.Busy) (used ∷ []) none in
    round_before own.limits.rounds x.next_agreement small (none_first_test used [] rest.1).0
allowed_fits own x (Call.Shrink rank c) small none =
    let used : Bool × Refusal = (nat_le own.limits.rounds x.next_agreement, Refusal.RoundsUsedUp) in
    let other : Bool × Refusal = (list_any (λ y. is_shrink y.request) own.held, Refusal.ShrinkOpen) in
    let rest = none_first_test (is_some x.request, Refusal.Busy) (other ∷ used ∷ []) none in
    let last = none_first_test other (used ∷ []) rest.1 in
    round_left own.limits.rounds x.next_agreement small (none_first_test used [] last.1).0
allowed_fits own x (Call.Barrier rank c) small none =
    let used : Bool × Refusal = (nat_le own.limits.rounds x.next_barrier, Refusal.RoundsUsedUp) in
    let rest = none_first_test (is_some x.request, Refusal.Busy) (used ∷ []) none in
    round_left own.limits.rounds x.next_barrier small (none_first_test used [] rest.1).0
allowed_fits own x _ small none = tt

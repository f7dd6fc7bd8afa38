-- What the program of the sequential object needs of its state, and the steps that it takes.
use Rattle.std.proofs.Common.{◌≡◌, ℕ, zero, suc, ◌+◌, ◌^◌, ◌<◌, ◌≤◌, Bool, true, false, ◌==◌, List, [], ◌∷◌, map, length, Option, Some, None, is_some, get_or, set, refl, ap, ap₂, sym, ◌∙◌, subst, arith, nat_eq, nat_le, if◌then◌else◌}
use Rattle.std.specs.List.{AllByRecursion, IsDistinct, list_any, position}
use Rattle.std.proofs.lemmas.Bool.{eq-eqb, eqb-true, ne_eqb}
use Rattle.std.proofs.lemmas.Bool.Decides.{nat_tests}
use Rattle.std.proofs.lemmas.List.Quantifiers.{position-Some}
use Rattle.std.proofs.lemmas.Map.Keys.{IsDistinct-head, IsDistinct-tail}
use Rattle.ulfm_model.specs.declared.{call.Call.{Call}, limits.Limits.{Limits}, refusal.Refusal.{Refusal}, refusal.Refusal.TheVariants.{Busy, RoundsUsedUp, ShrinkOpen}, reply.Reply.TheVariants.{Started}}
use Rattle.ulfm_model.specs.declared.call.Call.TheVariants as call
use Rattle.ulfm_model.specs.{Answers.{first_refusal, rank_of, refusal_of, refusal_on, traits_of}, History.{History, IsLegal, failures, first_ranks, has}, Records.{Held, Record, held_at, is_shrink}, Runs.{State}, Words.{MayOpen}}
use Rattle.ulfm_model.specs.Computed.{next, next_of_rank, outcome_of, rank_outcome, used_outcome}
use Rattle.ulfm_model.specs.Terms.{comm_of, record_at, tests_of}
use Rattle.ulfm_object.specs.Objects.{IsFew}
use Rattle.ulfm_model.specs.Kept.{FitsNext}
use Rattle.ulfm_model.proofs.Lists.{any_none, distinct_push, each_from, each_push, none_distinct}
use Rattle.ulfm_model.proofs.Marking.{failures_few}
use Rattle.ulfm_model.proofs.StepsShrinks.{spawns_fit}
use Rattle.ulfm_model.proofs.Allowed.{allowed_fits}

-- a call that has started something has a round whose next number fits
pub started_fits : {P : Type 0} (meld : P → P → P) (limits : Limits) (h : History P) (own : Record) (asked : Call P) → own.limits.rounds ≤ 4096 → (outcome_of meld limits h own asked).reply ≡ Started
    → (x : Held) → held_at own (comm_of asked) ≡ Some x → FitsNext ((traits_of asked).starts x)
started_fits meld limits h own asked small starts x holds = by_declared (has (failures h) own.number) starts
  where
    by_refusal : (o : Option Refusal) → refusal_of own asked ≡ o → (used_outcome meld limits h own (held_at own (comm_of asked)) o asked).reply ≡ Started → FitsNext ((traits_of asked).starts x)
    by_refusal (Some refusal) is e = absurd (cc e)
    by_refusal None is e = allowed_fits own x asked small (ap (λ w. refusal_on own w asked) (sym holds) ∙ is)

    by_declared : (b : Bool) → (rank_outcome meld limits h own asked b).reply ≡ Started → FitsNext ((traits_of asked).starts x)
    by_declared true e = absurd (cc e)
    by_declared false e = by_refusal (refusal_of own asked) refl e

-- a legal history has few failures and communicators
pub few_of : {P : Type 0} (meld : P → P → P) (limits : Limits) (h : History P) → MayOpen limits → IsLegal meld limits h → IsFew h
few_of meld limits h may legal =
    let failed = failures_few meld limits h legal in
    let made = spawns_fit meld limits h legal may.in_range.some_comms in
    let ranks = may.in_range.ranks in
    let comms = may.in_range.comms in
    record { failures = omega (arith, failed, ranks); spawns = omega (arith, made, comms) }

module _ {X Y : Type 0} (v : X → Y) (number : Y → ℕ) (r : ℕ) (y : Y) where
  -- the elements with those of number r changed
  abbrev changed : List X → List Y
  changed xs = map (λ x. if number x == r then y else x) (map v xs)

  unchanged : (xs : List X) → AllByRecursion (λ n. (n == r) ≡ false) (map (λ x. number (v x)) xs) → changed xs ≡ map v xs
  unchanged [] apart = refl
  unchanged (x ∷ xs) apart = ap₂ (λ z zs. z ∷ zs) (ap (λ (b : Bool). if b then y else v x) apart.0) (unchanged xs apart.1)

  changed_at : (xs : List X) (i : ℕ) (d : X) → IsDistinct nat_eq (map (λ x. number (v x)) xs) → i < length xs → (number (v (get_or xs i d)) == r) ≡ true
      → ((k : ℕ) → k < i → (number (v (get_or xs k d)) == r) ≡ false) → changed xs ≡ set (map v xs) i y
  changed_at [] i d distinct within here before = absurd (omega (arith, within))
  changed_at (x ∷ xs) zero d distinct within here before =
      let same : number (v x) ≡ r = eqb-true (number (v x)) r here in
      let apart : AllByRecursion (λ n. (n == r) ≡ false) (map (λ x. number (v x)) xs) =
      each_from (λ n. nat_eq (number (v x)) n ≡ false) (λ n. (n == r) ≡ false) (λ n differs. turned n (subst (λ w. nat_eq w n ≡ false) same differs)) (map (λ x. number (v x)) xs)
      (IsDistinct-head nat_eq (number (v x)) (map (λ x. number (v x)) xs) distinct) in
      ap₂ (λ z zs. z ∷ zs) (ap (λ (b : Bool). if b then y else v x) here) (unchanged xs apart)
    where
      turned : (n : ℕ) → nat_eq r n ≡ false → (n == r) ≡ false
      turned n differs = ne_eqb n r (λ same. absurd (cc (eq-eqb r n (sym same), differs)))
  changed_at (x ∷ xs) (suc i) d distinct within here before =
      ap₂ (λ z zs. z ∷ zs) (ap (λ (b : Bool). if b then y else v x) (before 0 (omega arith)))
      (changed_at xs i d (IsDistinct-tail nat_eq (number (v x)) (map (λ x. number (v x)) xs) distinct) (omega (arith, within)) here (λ k less. before (suc k) (omega (arith, less))))

-- the elements with the first of number r changed, where the numbers differ
pub replaced : {X Y : Type 0} (v : X → Y) (number : Y → ℕ) (xs : List X) (r i : ℕ) (d : X) (y : Y) → IsDistinct nat_eq (map (λ x. number (v x)) xs) → position (λ x. number (v x) == r) xs ≡ Some i
    → map (λ x. if number x == r then y else x) (map v xs) ≡ set (map v xs) i y
replaced {X = X} v number xs r i d y distinct at = let first = position-Some (λ (x : X). number (v x) == r) xs i d at in changed_at v number r y xs i d distinct first.0 first.1 first.2

-- the next step of a call of a rank
pub next_of_call : {P : Type 0} (meld : P → P → P) (state : State P) (asked : Call P) → ((r : ℕ) → asked ≡ call.Fail r → ⊥) → next_of_rank meld state (rank_of asked) (record_at state (rank_of asked)) asked ≡ next meld state asked
next_of_call meld state (call.Fail rank) not_fail = absurd (not_fail rank refl)
next_of_call meld state (call.GetFailed rank c) not_fail = refl
next_of_call meld state (call.FailureGetAcked rank c) not_fail = refl
next_of_call meld state (call.Ack rank c count) not_fail = refl
next_of_call meld state (call.FailureAck rank c) not_fail = refl
next_of_call meld state (call.Agree rank c value) not_fail = refl
next_of_call meld state (call.Shrink rank c) not_fail = refl
next_of_call meld state (call.Barrier rank c) not_fail = refl
next_of_call meld state (call.Poll rank c) not_fail = refl
next_of_call meld state (call.Revoke rank c) not_fail = refl
next_of_call meld state (call.IsRevoked rank c) not_fail = refl
next_of_call meld state (call.Free rank c) not_fail = refl

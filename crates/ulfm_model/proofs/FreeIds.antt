-- Free context ids, bit by bit: a shrink offers those that no held communicator has.
use Rattle.std.proofs.Common.{◌≡◌, ◌↔◌, ℕ, ◌<◌, ◌==◌, Bool, true, false, List, [], ◌∷◌, refl, ap, sym, ◌∙◌, arith, if◌then◌else◌}
use Rattle.ulfm_laws.specs.Ranges.{payload_bits}
use Rattle.std.proofs.lemmas.Bool.{eqb-true}
use Rattle.std.specs.Int.{bit_at}
use Rattle.std.specs.List.{AllByRecursion, list_all}
use Rattle.std.proofs.lemmas.Nat.Bits.{bit_at_and, bit_at_ones, bit_at-lt}
use Rattle.ulfm_model.specs.History.{first_ranks}
use Rattle.ulfm_model.specs.Records.{Held, all_but, free_ids}
use Rattle.ulfm_model.proofs.Lists.{all_member}
use Rattle.ulfm_model.proofs.RankGroups.{first_has}

-- a bit stands in the mask where every held communicator leaves it standing
pub free_is : (held : List Held) (i : ℕ) → i < payload_bits → (bit_at (free_ids held).bits i ≡ 1) ↔ AllByRecursion (λ x. bit_at (all_but x.context).bits i ≡ 1) held
free_is [] i within = (λ e. tt, λ u. bit_at_ones payload_bits i within)
free_is (x ∷ held) i within =
    let rest = free_is held i within in
    let both = bit_at_and (all_but x.context).bits (free_ids held).bits i in
    let small = bit_at-lt (all_but x.context).bits i in
    let low = bit_at-lt (free_ids held).bits i in
    (λ e. (omega (arith, e, both, small, low), rest.0 (omega (arith, e, both, small, low))), λ all. let r = rest.1 all.1 in omega (arith, both, all.0, r))

-- computed for each of the payload_bits ids, at each of the payload_bits bits
all_but_table : list_all (λ i. list_all (λ k. bit_at (all_but i).bits k == (if i == k then 0 else 1)) (first_ranks payload_bits)) (first_ranks payload_bits) ≡ true
all_but_table = refl

-- a held communicator takes away its own id and no other
pub all_but_is : (i k : ℕ) → i < payload_bits → k < payload_bits → bit_at (all_but i).bits k ≡ (if i == k then 0 else 1)
all_but_is i k low within =
    let row = all_member (λ i. list_all (λ k. bit_at (all_but i).bits k == (if i == k then 0 else 1)) (first_ranks payload_bits)) (first_ranks payload_bits) i all_but_table (first_has payload_bits i low) in
    eqb-true (bit_at (all_but i).bits k) (if i == k then 0 else 1) (all_member (λ k. bit_at (all_but i).bits k == (if i == k then 0 else 1)) (first_ranks payload_bits) k row (first_has payload_bits k within))

-- so the mask has an id exactly where no held communicator has it
pub free_where : (held : List Held) (i : ℕ) → i < payload_bits → AllByRecursion (λ x. x.context < payload_bits) held → (bit_at (free_ids held).bits i ≡ 1) ↔ AllByRecursion (λ x. (x.context == i) ≡ false) held
free_where held i within small =
    let is = free_is held i within in
    (λ e. each_both held (both_of held small (is.0 e)), λ all. is.1 (each_bit held small all))
  where
    both_of : (held : List Held) → AllByRecursion (λ x. x.context < payload_bits) held → AllByRecursion (λ x. bit_at (all_but x.context).bits i ≡ 1) held → AllByRecursion (λ x. (x.context < payload_bits) × (bit_at (all_but x.context).bits i ≡ 1)) held
    both_of [] small bits = tt
    both_of (x ∷ held) small bits = ((small.0, bits.0), both_of held small.1 bits.1)

    away : (b : Bool) → ◌≡◌ {A = ℕ} (if b then 0 else 1) 1 → b ≡ false
    away true e = absurd (cc e)
    away false e = refl

    each_both : (held : List Held) → AllByRecursion (λ x. (x.context < payload_bits) × (bit_at (all_but x.context).bits i ≡ 1)) held → AllByRecursion (λ x. (x.context == i) ≡ false) held
    each_both [] all = tt
    each_both (x ∷ held) all = (away (x.context == i) (sym (all_but_is x.context i all.0.0 within) ∙ all.0.1), each_both held all.1)

    each_bit : (held : List Held) → AllByRecursion (λ x. x.context < payload_bits) held → AllByRecursion (λ x. (x.context == i) ≡ false) held → AllByRecursion (λ x. bit_at (all_but x.context).bits i ≡ 1) held
    each_bit [] small all = tt
    each_bit (x ∷ held) small all = (all_but_is x.context i small.0 within ∙ ap (λ (b : Bool). let n : ℕ = (if b then 0 else 1) in n) all.0, each_bit held small.1 all.1)

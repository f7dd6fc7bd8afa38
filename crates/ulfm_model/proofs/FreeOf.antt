-- The context ids of masks, and those that communicators leave free.
use Rattle.std.proofs.Common.{◌≡◌, ℕ, ◌+◌, ◌-◌, ◌<◌, ◌≤◌, ◌^◌, List, [], ◌∷◌, ◌++◌, length, map, take, slice_index_or, ap, sym, ◌∙◌, arith, add-one}
use Rattle.std.specs.Int.{trailing_zeros}
use mir.Syntax.{w64}
use Rattle.std.proofs.Math.{Pow.{pow_mono}, Seq.{take-suc}}
use Rattle.std.proofs.lemmas.List.{map-append}
use Rattle.std.proofs.lemmas.Nat.Bits.{bit_at-trailing_zeros}
use Rattle.ulfm_laws.specs.Ranges.{all_ones, payload_bits}
use Rattle.ulfm_laws.specs.{Combined.{combined, combined-push}, Masks.{mask_lawful, mask_meld, mask_unit}}
use Rattle.ulfm_model.specs.Records.{Held, IsLowestId, all_but, free_ids}

-- the number of trailing zeros is the least id
pub lowest_is : (mask : ℕ) → 0 < mask → mask < 2 ^ payload_bits → IsLowestId mask (trailing_zeros w64 mask)
lowest_is mask some fits = let at = bit_at-trailing_zeros w64 mask some fits in record { in_it = at.1; least = at.2 }

-- no id is left out of the full mask where the number is too great for one
pub no_bit : (i : ℕ) → payload_bits ≤ i → 0 ≡ all_ones - 2 ^ i
no_bit i great = let high : 2 ^ payload_bits ≤ 2 ^ i = pow_mono great in omega (arith, high)

-- one more communicator takes its id away
one_taken : (held : List Held) (x : Held) → free_ids (held ++ x ∷ []) ≡ mask_meld (free_ids held) (all_but x.context)
one_taken held x =
    ap (combined mask_unit mask_meld) (map-append (λ (y : Held). all_but y.context) held (x ∷ [])) ∙ combined-push mask_lawful (map (λ (y : Held). all_but y.context) held) (all_but x.context)

-- those up to the next place
pub one_more_taken : (held : List Held) (i : ℕ) (d : Held) → i < length held → mask_meld (free_ids (take i held)) (all_but (slice_index_or held i d).context) ≡ free_ids (take (i + 1) held)
one_more_taken held i d within =
    let more : take (i + 1) held ≡ take i held ++ slice_index_or held i d ∷ [] = rw add-one (take-suc held i d within) in
    sym (ap free_ids more ∙ one_taken (take i held) (slice_index_or held i d))

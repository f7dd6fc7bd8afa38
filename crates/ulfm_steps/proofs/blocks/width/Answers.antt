use Rattle.std.proofs.Common.{◌≡◌, ◌<◌, ◌-◌, ◌*◌, ◌^◌, ◌%◌, sym, ◌∙◌, ap, arith, mod-eq_of_lt}
use Rattle.std.proofs.Math.Nat.{pow-succ'}
use Rattle.std.specs.Int.Count.{count_leading_zeros}
use Rattle.std.proofs.lemmas.Nat.{leading_top}
use Rattle.ulfm_steps.proofs.InBlocks.{width_of_power}
use Rattle.ulfm_steps.proofs.blocks.width.Goals as goal

pub returns : goal.returns
returns c =
    let n = c.args.members in
    let top = leading_top 16 n c.requires (omega (arith, c.ranges.members.fits)) in
    let j = top.0 in
    let same = width_of_power n j c.requires top.2 (omega (arith, top.3, pow-succ' 2 j)) in
    let at : 15 - count_leading_zeros 16 n ≡ j = omega (arith, top.1) in
    let small : 2 ^ j < 65536 = omega (arith, top.2, c.ranges.members.fits) in
    let one : 1 * 2 ^ j ≡ 2 ^ j = omega arith in
    ap (λ m. 1 * 2 ^ m % 65536) at ∙ (ap (λ m. m % 65536) one ∙ (mod-eq_of_lt small ∙ sym same))

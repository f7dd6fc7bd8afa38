use Rattle.std.proofs.Common.{subst, sym}
use Rattle.ulfm_model.specs.{Blocks.{IsSummed, block_of}, declared.block.Side.TheVariants.{Front, Back}}
use Rattle.ulfm_model.proofs.Blocks.{blocks_join}
use Rattle.ulfm_steps.specs.Blocks.{MembersTell}
use Rattle.ulfm_steps.proofs.blocks.RoundBlocks.all.Goals as goal

pub returns-clause-tells : goal.returns-clause-tells
returns-clause-tells g c h comm k group long are =
    let meld = g.P.Meld.meld in
    let x = c.in_ok-front.front in
    let y = c.in_ok-back.back in
    let front : IsSummed meld h comm k (block_of Front group) x = subst (MembersTell meld h comm k (block_of Front group)) c.in_ok-front.was are.front in
    let back : IsSummed meld h comm k (block_of Back group) y = subst (MembersTell meld h comm k (block_of Back group)) c.in_ok-back.was are.back in
    subst (IsSummed meld h comm k group) (sym c.meld.ensures) (blocks_join meld g.met.P.Meld.lawful h comm k group x y front back)

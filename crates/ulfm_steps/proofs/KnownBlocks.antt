-- Blocks of a round that are known to be set.
use Rattle.std.proofs.Common.{◌≡◌, ℕ, ◌<◌, Bool, true, false, if◌then◌else◌, List, length, Option, None, Some, is_some, refl, arith}
use Rattle.std.proofs.lemmas.Bool.Decides.{nat_tests}
use mathlib.Core.List.{IsPrefix}
use Rattle.ulfm_laws.specs.{declared.summary.Summary.{Summary}}
use Rattle.ulfm_model.specs.declared.{block.Beside.{Beside}, block.Block.{Block}, block.Wing.{Wing}, block.Side.{Side}, block.Side.TheVariants.{Front, Back}}
use Rattle.ulfm_model.specs.Blocks.{has_block, width}
use Rattle.ulfm_model.proofs.Blocks.{has_block_stays, has_wing_stays}
use Rattle.ulfm_words.specs.{Blocks.{IsSpreadBlock}, Steps.{View}}
use Rattle.ulfm_steps.specs.Blocks.{AllSet, AreSet, block_at, has_back, is_whole}
use Rattle.ulfm_steps.specs.declared.{blocks.RoundBlocks.{RoundBlocks}}
use Rattle.ulfm_steps.proofs.InBlocks.{known_with}

-- what is set stays so
pub set_later : {P : Type 0} (cached longer : List Beside) (c k : ℕ) (blocks : RoundBlocks P) → IsPrefix cached longer → AreSet cached c k blocks → AreSet longer c k blocks
set_later cached longer c k blocks begins are side some = has_block_stays cached longer (block_at c k side) begins (are side some)

pub all_later : (cached longer : List Beside) (c k : ℕ) (group : List ℕ) → IsPrefix cached longer → AllSet cached c k group → AllSet longer c k group
all_later cached longer c k group begins all side is = has_block_stays cached longer (block_at c k side) begins (all side is)

pub no_first : (o : Option ℕ) → o ≡ None → is_some o ≡ true → ⊥
no_first None none some = absurd (cc some)
no_first (Some w) none some = absurd (cc none)

pub spread_later : {P : Type 0} (old new : View P) (b : Block) → IsPrefix old.pass.cached new.pass.cached → IsSpreadBlock old b → IsSpreadBlock new b
spread_later old new b begins is = (is.0, is.1, has_wing_stays old.pass.cached new.pass.cached (Wing.Block b) is.0 begins is.2)

module _ {P : Type 0} (cached longer : List Beside) (c k : ℕ) (blocks : RoundBlocks P) (begins : IsPrefix cached longer) (are : AreSet cached c k blocks) where
  -- one block more, if it is known
  pub set_front : (said : Option (Summary P)) → (is_some said ≡ true → has_block longer (block_at c k Front) ≡ true) → AreSet longer c k (record blocks { front = said })
  set_front said set Front some = set some
  set_front said set Back some = has_block_stays cached longer (block_at c k Back) begins (are Back some)

  pub set_back : (said : Option (Summary P)) → (is_some said ≡ true → has_block longer (block_at c k Back) ≡ true) → AreSet longer c k (record blocks { back = said })
  set_back said set Front some = has_block_stays cached longer (block_at c k Front) begins (are Front some)
  set_back said set Back some = set some

  -- .. which is
  pub set_known : (side : Side) (all : Summary P) → has_block longer (block_at c k side) ≡ true → AreSet longer c k (known_with blocks side all)
  set_known Front all set = set_front (Some all) (λ some. set)
  set_known Back all set = set_back (Some all) (λ some. set)

-- a round whose blocks are known has none that isn't set
pub all_known : {P : Type 0} (cached : List Beside) (c k : ℕ) (group : List ℕ) (blocks : RoundBlocks P) → AreSet cached c k blocks → is_whole blocks (length group) ≡ true → AllSet cached c k group
all_known {P} cached c k group blocks are whole = go
  where
    front : (t f b : Bool) → (if t then (if f then b else false) else f) ≡ true → f ≡ true
    front true true b e = refl
    front true false b e = absurd (cc e)
    front false f b e = e

    back : (t f b : Bool) → t ≡ true → (if t then (if f then b else false) else f) ≡ true → b ≡ true
    back true true b is e = e
    back true false b is e = absurd (cc e)
    back false f b is e = absurd (cc is)

    apart : width (length group) < length group → has_back (length group) ≡ true
    apart lt = grind (arith, nat_tests)

    go : AllSet cached c k group
    go Front any = are Front (front (has_back (length group)) (is_some blocks.front) (is_some blocks.back) whole)
    go Back some = are Back (back (has_back (length group)) (is_some blocks.front) (is_some blocks.back) (apart some) whole)

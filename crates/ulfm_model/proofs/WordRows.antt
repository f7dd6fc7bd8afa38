-- Words of slots, computed.
use Rattle.std.proofs.Common.{◌≡◌, ℕ, refl, lit<}
use Rattle.ulfm_model.specs.declared.contribution.Slot.{Slot}
use Rattle.ulfm_model.specs.declared.contribution.Slot.TheVariants.{Given, Mark as Marked}
use Rattle.ulfm_model.specs.declared.contribution.Offer.TheVariants.{Flag, Ctx}
use Rattle.ulfm_model.specs.Records.{all_but}
use Rattle.ulfm_model.specs.Computed.{given_at, mark_at}
use Rattle.ulfm_model.specs.Words.{slot_word, slot_wing}

-- flags are numbers here
abbrev word : Slot ℕ → ℕ
word = slot_word (λ flag. flag)

abbrev wing : Slot ℕ → ℕ
wing = slot_wing (λ flag. flag)

-- a flag, of a rank that knows no failure
flag_word : word (Given (given_at (Flag 0xf) 0 0)) ≡ 0x1e00_0003
flag_word = refl

-- a mark of the first failure
mark_word : word (Marked (mark_at 1)) ≡ 0x1ff_c009
mark_word = refl

-- its wing has a half of zeros
flag_wing : wing (Given (given_at (Flag 0xf) 0 0)) ≡ 1
flag_wing = refl

-- a flag of 64 bits, whose upper half stands in its wing
wide_word : (word (Given (given_at (Flag 0xffff_ffff_0000_000f) 0 0)) ≡ 0x1e00_0003) × (wing (Given (given_at (Flag 0xffff_ffff_0000_000f) 0 0)) ≡ 0x1_ffff_ffff)
wide_word = (refl, refl)

-- all ids but 0, of a rank that knows a failure and has not acknowledged it
mask_word : word (Given (given_at (Ctx (all_but 0)) 1 0)) ≡ 0x1ff_ffff_fc00_000d
mask_word = refl

mask_wing : wing (Given (given_at (Ctx (all_but 0)) 1 0)) ≡ 0x1_ffff_ffff
mask_wing = refl

-- the greatest lower half of a flag and the greatest counts
full_word : word (Given (given_at (Flag 0xffff_ffff) 1024 1024)) ≡ 0x1ff_ffff_ff00_2003
full_word = refl

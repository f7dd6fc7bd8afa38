-- Sets of context ids, 0 to 63, as the bits of a word: they are combined as flags are.
use Rattle.std.specs.Prelude.{◌≡◌}
use Rattle.std.proofs.Common.{ap}
use Rattle.ulfm_laws.specs.Flags.{flag_unit, flag_meld, flag_lawful}
use Rattle.ulfm_laws.specs.Lawful.{IsLawful}
use Rattle.ulfm_laws.specs.Ranges.{same_word}
use Rattle.ulfm_laws.specs.declared.flag_and.FlagAnd.{FlagAnd}
use Rattle.ulfm_laws.specs.declared.summary.CtxMask.{CtxMask}

-- the flag that has a set's bits
abbrev flag_of : CtxMask → FlagAnd
flag_of x = record { bits = x.bits; fits = x.fits }

-- the set that has a flag's bits
abbrev mask_of : FlagAnd → CtxMask
mask_of x = record { bits = x.bits; fits = x.fits }

-- every id
abbrev pub mask_unit : CtxMask
mask_unit = mask_of flag_unit

-- the ids that are in both
abbrev pub mask_meld : CtxMask → CtxMask → CtxMask
mask_meld x y = mask_of (flag_meld (flag_of x) (flag_of y))

-- masks with the same bits are the same
pub same_mask : (x y : CtxMask) → x.bits ≡ y.bits → x ≡ y
same_mask x y = same_word (λ n fits. record { bits = n; fits = fits }) x.fits y.fits

pub mask_lawful : IsLawful mask_unit mask_meld
mask_lawful = record {
  associative = λ x y z. ap mask_of (flag_lawful.associative (flag_of x) (flag_of y) (flag_of z));
  commutative = λ x y. ap mask_of (flag_lawful.commutative (flag_of x) (flag_of y));
  idempotent = λ x. ap mask_of (flag_lawful.idempotent (flag_of x));
  unit_left = λ x. ap mask_of (flag_lawful.unit_left (flag_of x));
}

-- What a round is about, combined.
use Rattle.std.specs.Prelude.{◌≡◌, refl}
use Rattle.std.proofs.Common.{ap}
use Rattle.ulfm_laws.specs.Lawful.{IsLawful}
use Rattle.ulfm_laws.specs.Masks.{mask_meld, mask_lawful}
use Rattle.ulfm_laws.specs.declared.summary.Body.{Body}
use Rattle.ulfm_laws.specs.declared.summary.Body.TheVariants.{Unit, Flag, Ctx, Clash}

-- nothing yet
abbrev pub body_unit : {P : Type 0} → Body P
body_unit = Unit

-- Two flags are combined as flags and two masks as masks. A flag and a mask clash, and a clash stays one.
abbrev pub body_meld : {P : Type 0} → (P → P → P) → Body P → Body P → Body P
body_meld meld Unit y = y
body_meld meld (Flag x) Unit = Flag x
body_meld meld (Flag x) (Flag y) = Flag (meld x y)
body_meld meld (Flag x) (Ctx y) = Clash
body_meld meld (Flag x) Clash = Clash
body_meld meld (Ctx x) Unit = Ctx x
body_meld meld (Ctx x) (Flag y) = Clash
body_meld meld (Ctx x) (Ctx y) = Ctx (mask_meld x y)
body_meld meld (Ctx x) Clash = Clash
body_meld meld Clash y = Clash

module _ {P : Type 0} (meld : P → P → P) where
  body_assoc : ((x y z : P) → meld (meld x y) z ≡ meld x (meld y z)) → (x y z : Body P)
      → body_meld meld (body_meld meld x y) z ≡ body_meld meld x (body_meld meld y z)
  body_assoc law Unit y z = refl
  body_assoc law Clash y z = refl
  body_assoc law x Unit z = refl
  body_assoc law x Clash z = refl
  body_assoc law x y Unit = refl
  body_assoc law x y Clash = refl
  body_assoc law (Flag x) (Flag y) (Flag z) = ap Flag (law x y z)
  body_assoc law (Ctx x) (Ctx y) (Ctx z) = ap Ctx (mask_lawful.associative x y z)
  body_assoc law _ _ _ = refl

  body_comm : ((x y : P) → meld x y ≡ meld y x) → (x y : Body P) → body_meld meld x y ≡ body_meld meld y x
  body_comm law (Flag x) (Flag y) = ap Flag (law x y)
  body_comm law (Ctx x) (Ctx y) = ap Ctx (mask_lawful.commutative x y)
  body_comm law Unit Unit = refl
  body_comm law Clash Unit = refl
  body_comm law _ _ = refl

  body_self : ((x : P) → meld x x ≡ x) → (x : Body P) → body_meld meld x x ≡ x
  body_self law Unit = refl
  body_self law (Flag x) = ap Flag (law x)
  body_self law (Ctx x) = ap Ctx (mask_lawful.idempotent x)
  body_self law Clash = refl

pub body_lawful : {P : Type 0} {unit : P} {meld : P → P → P} → IsLawful unit meld → IsLawful body_unit (body_meld meld)
body_lawful {meld = meld} laws = record {
  associative = body_assoc meld laws.associative;
  commutative = body_comm meld laws.commutative;
  idempotent = body_self meld laws.idempotent;
  unit_left = λ x. refl;
}

-- Summaries of rounds, combined by parts.
use Rattle.std.specs.Prelude.{◌≡◌}
use Rattle.ulfm_laws.specs.Bodies.{body_unit, body_meld, body_lawful}
use Rattle.ulfm_laws.specs.Counts.{known_unit, known_meld, known_lawful, acked_unit, acked_meld, acked_lawful}
use Rattle.ulfm_laws.specs.Lawful.{IsLawful}
use Rattle.ulfm_laws.specs.declared.summary.Summary.{Summary}

-- nothing contributed, nothing known, and everyone acknowledged
abbrev pub summary_unit : {P : Type 0} → Summary P
summary_unit = record { body = body_unit; known = known_unit; acked = acked_unit }

-- each part combined as its kind is
abbrev pub summary_meld : {P : Type 0} → (P → P → P) → Summary P → Summary P → Summary P
summary_meld meld x y = record {
  body = body_meld meld x.body y.body;
  known = known_meld x.known y.known;
  acked = acked_meld x.acked y.acked;
}

same_summary : {P : Type 0} (x y : Summary P) → x.body ≡ y.body → x.known ≡ y.known → x.acked ≡ y.acked → x ≡ y
same_summary x y body known acked = λ i. record { body = body i; known = known i; acked = acked i }

pub summary_lawful : {P : Type 0} {unit : P} {meld : P → P → P} → IsLawful unit meld → IsLawful summary_unit (summary_meld meld)
summary_lawful laws =
    let body = body_lawful laws in record {
      associative = λ x y z.
          same_summary _ _ (body.associative x.body y.body z.body) (known_lawful.associative x.known y.known z.known)
          (acked_lawful.associative x.acked y.acked z.acked);
      commutative = λ x y.
          same_summary _ _ (body.commutative x.body y.body) (known_lawful.commutative x.known y.known) (acked_lawful.commutative x.acked y.acked);
      idempotent = λ x. same_summary _ _ (body.idempotent x.body) (known_lawful.idempotent x.known) (acked_lawful.idempotent x.acked);
      unit_left = λ x. same_summary _ _ (body.unit_left x.body) (known_lawful.unit_left x.known) (acked_lawful.unit_left x.acked);
    }

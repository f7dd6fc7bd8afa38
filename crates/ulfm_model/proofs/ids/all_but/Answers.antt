use Rattle.std.proofs.Common.{◌-◌, ℕ, ap, ◌∙◌}
use Rattle.std.proofs.lemmas.Nat.{one_shl}
use Rattle.ulfm_laws.specs.{Masks.{same_mask}, Ranges.{all_ones, payload_bits}}
use Rattle.ulfm_model.specs.Records.{all_but}
use Rattle.ulfm_model.proofs.FreeOf.{no_bit}
use Rattle.ulfm_model.proofs.ids.all_but.Goals as goal
use Rattle.ulfm_model.proofs.ids.all_but.Goals.{then-id-lt-COUNT, else-id-lt-COUNT}

pub returns : goal.returns
returns c =
    let bits = λ (r : ℕ × Unit {0}). r.0 in
    same_mask _ (all_but c.args.id) (elim c.if-id-lt-COUNT.branch [
      | then-id-lt-COUNT w ↦ ap bits w.result-is ∙ ap (λ n. all_ones - n) (one_shl c.args.id payload_bits w.if-id-lt-COUNT.true)
      | else-id-lt-COUNT w ↦ ap bits w.result-is ∙ no_bit c.args.id w.if-id-lt-COUNT.false
    ])

use Rattle.std.proofs.Common.{rules, ◌≡◌, inl, inr, sym, ◌∙◌, w32, to_z, of_z}
use Rattle.std.specs.Prelude.{pos}
use Rattle.ulfm_model.specs.declared.{limits.OpenFault.{OpenFault}, limits.OpenFault.TheVariants.{OutOfRange, TooLarge, OutOfMemory}}
use Rattle.ulfm_c.specs.Opens.{fault_code}
use Rattle.ulfm_c.proofs.replica.ulfm_open_replica.Goals as goal

-- a fault's code isn't 0
some : {W : Type 0} (fault : OpenFault) → fault_code fault ≡ pos 0 → W
some OutOfRange is = absurd (cc is)
some TooLarge is = absurd (cc is)
some OutOfMemory is = absurd (cc is)

pub returns-in-Err-clause-opened : goal.returns-in-Err-clause-opened
returns-in-Err-clause-opened c = λ zero.
    let same : to_z w32 (of_z w32 c.no_replica_code.result) ≡ c.no_replica_code.result = search rules in
    elim c.no_replica_code.ensures [
      | inl is ↦ let no = sym is ∙ (sym same ∙ zero) in absurd (cc no)
      | inr is ↦ some c.in-Err.fault (sym is ∙ (sym same ∙ zero))
    ]

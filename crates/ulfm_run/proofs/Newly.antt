-- New ranks, where nothing is said yet.
use Rattle.std.proofs.Common.{◌≡◌, ℕ, ◌<◌, [], None, refl, sym, subst}
use Rattle.ulfm_model.specs.Records.{Fits, new_record}
use Rattle.ulfm_words.specs.Steps.{Sight, Over}
use Rattle.ulfm_model.specs.Traces.{nothing}
use Rattle.ulfm_lines.proofs.Bystanders.{new_found}
use Rattle.ulfm_run.specs.{Seats.{Sits}}

pub sits_new : {P : Type 0} (meld : P → P → P) (name : Over P) (pass : Sight P) (found r : ℕ) → pass.seen ≡ [] → r < name.limits.ranks → Fits meld name.limits [] (new_record name.limits r)
    → Sits meld name (nothing name.limits) pass (record { own = new_record name.limits r; call = None; found = found })
sits_new meld name pass found r seen below fits =
    record {
      said = record { limits = refl; history = sym seen; call_is = refl; seen = []; record_is = new_found name.limits name.limits.ranks r below };
      fits = subst (λ h. Fits meld name.limits h (new_record name.limits r)) (sym seen) fits;
    }

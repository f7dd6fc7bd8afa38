use Rattle.std.proofs.Common.{◌≡◌, ap₂, sym, subst}
use Rattle.ulfm_model.specs.Runs.{IsSound, new_state}
use Rattle.ulfm_object.specs.Objects.{state_of}
use Rattle.ulfm_model.proofs.LeftSound.{new_sound}
use Rattle.ulfm_object.proofs.object.Object.open.Goals as goal

pub invariant_of-result : goal.invariant_of-result
invariant_of-result g c =
    let limits = c.args.limits in
    let is : state_of limits c.new.result.items c.in-Ok.records.items ≡ new_state limits =
    ap₂ (λ log records. record { limits = limits; history = log; records = records }) c.new.ensures.items c.in-Ok.ensures in
    (c.in_ok-check.ensures, subst (IsSound g.P.Meld.meld) (sym is) (new_sound g.P.Meld.meld limits))

use Rattle.std.proofs.Common.{◌≡◌, take}
use Rattle.ulfm_laws.specs.Combined.{combined}
use Rattle.ulfm_laws.proofs.meld_all.meld_all.Given as goal

-- the values so far, combined
abbrev pub invariant-loop-value : goal.invariant-loop-value
invariant-loop-value g l = l.all ≡ combined g.P.Meld.unit g.P.Meld.meld (take l.value-index l.values)

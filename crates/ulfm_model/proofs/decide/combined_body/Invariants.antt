use Rattle.std.proofs.Common.{◌≡◌, map, take}
use Rattle.std.specs.List.{filter_map}
use Rattle.ulfm_laws.specs.{Bodies.{body_meld, body_unit}, Combined.{combined}}
use Rattle.ulfm_model.specs.History.{body_of, contribution_of}
use Rattle.ulfm_model.proofs.decide.combined_body.Given as goal

-- the bodies so far, combined
abbrev pub invariant-loop-slot : goal.invariant-loop-slot
invariant-loop-slot g l =
    l.body ≡ combined body_unit (body_meld g.P.Meld.meld) (map (λ given. body_of given.offer) (filter_map contribution_of (take l.slot-index l.settled)))

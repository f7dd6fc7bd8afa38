use Rattle.std.proofs.Common.{◌≡◌, drop, map}
use Rattle.ulfm_explore.specs.Tellings.{has_all}
use Rattle.ulfm_explore.specs.Views.{row_of}
use Rattle.ulfm_explore.proofs.telling.has_all.Given as goal

abbrev pub invariant-loop-wanted : goal.invariant-loop-wanted
invariant-loop-wanted g l = has_all l.program (map row_of l.rows) (drop l.wanted-index l.find) ≡ has_all l.program (map row_of l.rows) l.find

use Rattle.std.proofs.Common.{◌≡◌, drop}
use Rattle.ulfm_model.specs.History.{slot}
use Rattle.ulfm_model.proofs.reads.slot.Given as goal

-- the rest of the history answers as the whole does
abbrev pub invariant-loop-entry : goal.invariant-loop-entry
invariant-loop-entry g l = slot (drop l.entry-index l.history) l.comm l.round l.rank ≡ slot l.history l.comm l.round l.rank

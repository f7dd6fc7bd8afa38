use Rattle.std.proofs.Common.{take}
use Rattle.ulfm_audit.specs.Audits.{Stands, TakesPieces}
use Rattle.ulfm_audit.proofs.auditing.Auditing.take_pieces.Given as goal

abbrev pub invariant-pieces : goal.invariant-pieces
invariant-pieces g l =
    Stands l.limits l.self.pass l.self.numbers
    × TakesPieces l.limits (take l.piece-index l.pieces) l.fn.self.pass.seen l.self.pass.seen l.fn.self.text.items l.self.text.items

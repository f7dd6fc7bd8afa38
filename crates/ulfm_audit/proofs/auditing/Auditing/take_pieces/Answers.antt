use Rattle.std.proofs.Common.{ℕ, ◌<◌, ◌∷◌, [], List, length, take, get_or, sym, subst, arith}
use Rattle.std.proofs.lemmas.List.{take_more}
use Rattle.ulfm_audit.specs.Audits.{TakesPieces}
use Rattle.ulfm_audit.proofs.Telling.{pieces_on}
use Rattle.ulfm_audit.proofs.auditing.Auditing.take_pieces.Goals as goal

pub pieces-preserved : goal.pieces-preserved
pieces-preserved g c =
    let pieces = c.args.pieces.now in
    let i = c.pieces.piece-index in
    let within : i < length pieces = omega (arith, c.pieces-test.true, c.pieces.auto.piece-index-end) in
    let limits = c.args.limits in
    let old = c.args.self.now in
    let now = c.pieces.self in
    let new = c.take_piece.new.self in (
      c.in_ok-take_piece.ensures.stands,
      subst (λ (ps : List (List ℕ)). TakesPieces limits ps old.pass.seen new.pass.seen old.text.items new.text.items) (sym (take_more pieces i [] within))
          (pieces_on limits (take i pieces) (get_or pieces i [] ∷ []) old.pass.seen now.pass.seen new.pass.seen old.text.items now.text.items new.text.items
          c.pieces.invariant.1 c.in_ok-take_piece.ensures.takes),
    )

use Rattle.std.proofs.Common.{◌+◌, ◌∷◌, [], ◌++◌, ◌∙◌, sym, append_assoc, arith, take}
use Rattle.std.proofs.lemmas.Bool.{eqb-true}
use Rattle.std.specs.Prelude.{slice_range}
use Rattle.ulfm_script.specs.Buffers.{pending}
use Rattle.ulfm_script.proofs.LineParts.{kept_range, none_before, part_taken, split_at}
use Rattle.ulfm_script.proofs.buffers.Input.next_line.Goals as goal

pub returns-in-Some : goal.returns-in-Some
returns-in-Some g c =
    let s = c.args.self.now in
    let found = rw c.pending.ensures.is at c.in-Some.ensures in
    let at = c.in-Some.at in
    let line = take at (pending s) in
    let left = slice_range s.bytes.items (s.start + (at + 1)) s.end in
    let split = split_at s.bytes.items s.start s.end at found.0.high (eqb-true _ 10 found.1) in (
      line,
      none_before (pending s) at (omega (arith, found.0.high)) found.0.before,
      rw c.min.ensures (kept_range s.bytes.items s.start s.end at c.args.kept found.0.high),
      part_taken (pending s) (line ++ 10 ∷ []) left (g.R.Read.remaining c.args.reader.now) (split ∙ sym (append_assoc line (10 ∷ []) left)),
    )

use Rattle.std.proofs.Common.{◌≡◌, drop}
use Rattle.ulfm_lines.specs.LineReading.{read_refusal}
use Rattle.ulfm_lines.proofs.Tables.{first_refusal}
use Rattle.ulfm_lines.proofs.replies.read_refusal.Given as goal

abbrev pub invariant-loop-refusal : goal.invariant-loop-refusal
invariant-loop-refusal l = first_refusal (drop l.refusal-index l.refusal-items) l.number l.name ≡ read_refusal l.number l.name

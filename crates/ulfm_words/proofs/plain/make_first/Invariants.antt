use Rattle.std.proofs.Common.{◌≡◌, length, vec_capacity}
use Rattle.ulfm_words.specs.Rows.{AreLines, cells_of}
use Rattle.ulfm_words.proofs.plain.make_first.Given as goal

abbrev pub invariant-loop-line : goal.invariant-loop-line
invariant-loop-line g l = record {
  are : AreLines l.ranks l.starts.items l.words.items (vec_capacity l.words);
  cells : cells_of l.ranks l.starts.items l.words.items ≡ cells_of l.ranks l.initial.starts.items l.initial.words.items;
  lines : length l.starts.items ≡ length l.initial.starts.items;
}

use Rattle.std.proofs.Common.{◌+◌, ◌*◌, ◌≤◌, refl, arith, vec_capacity}
use Rattle.ulfm_words.specs.Rows.{heads_of, lines_of}
use Rattle.ulfm_words.proofs.{Lines.{few_lines, filled, lines_new, row_new}}
use Rattle.ulfm_words.proofs.plain.Row.new.Goals as goal

pub make_first-requires-clause-are : goal.make_first-requires-clause-are
make_first-requires-clause-are g c =
    let limits = c.args.limits in
    let lines_are = filled _ c.resize-2.new.self.items (lines_of limits) _ c.in_ok-resize-2.ensures.items c.in_ok-starts.ensures.items (omega (arith, c.in_ok-starts.ensures.len)) in
    let words_are = filled _ c.resize-3.new.self.items limits.ranks _ c.in_ok-resize-3.ensures.items c.in_ok-words.ensures.items (omega (arith, c.in_ok-words.ensures.len)) in
    let room : (lines_of limits + 1) * limits.ranks ≤ vec_capacity c.resize-3.new.self = omega (arith, c.in_ok-words.ensures.capacity, c.in_ok-resize-3.ensures.capacity) in
    rw (lines_are, words_are) (lines_new limits.ranks (lines_of limits) (vec_capacity c.resize-3.new.self) (omega (arith, c.requires.in_range.some_ranks)) room (few_lines limits c.requires))

pub returns : goal.returns
returns g c =
    let limits = c.args.limits in
    let heads_are = filled _ c.resize.new.self.items (heads_of limits) _ c.in_ok-resize.ensures.items c.in_ok-heads.ensures.items (omega (arith, c.in_ok-heads.ensures.len)) in
    let lines_are = filled _ c.resize-2.new.self.items (lines_of limits) _ c.in_ok-resize-2.ensures.items c.in_ok-starts.ensures.items (omega (arith, c.in_ok-starts.ensures.len)) in
    let words_are = filled _ c.resize-3.new.self.items limits.ranks _ c.in_ok-resize-3.ensures.items c.in_ok-words.ensures.items (omega (arith, c.in_ok-words.ensures.len)) in
    (refl, rw (c.make_first.ensures.cells, heads_are, lines_are, words_are) (row_new limits))

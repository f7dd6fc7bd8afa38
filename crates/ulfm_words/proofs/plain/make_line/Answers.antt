use Rattle.std.proofs.Common.{◌≡◌, ◌++◌, arith, length, vec_capacity}
use Rattle.std.proofs.Math.ListN.{length-set}
use Rattle.std.specs.Prelude.{replicate}
use Rattle.ulfm_words.proofs.Lines.{cells_kept, grown, made_some, more_room, lines_more, room_left}
use Rattle.ulfm_words.proofs.plain.make_line.Goals as goal
use Rattle.ulfm_words.proofs.plain.make_line.Goals.{After-resize}

longer : (g : _) (c : After-resize g) → c.resize.new.self.items ≡ c.args.words.now.items ++ replicate c.args.ranks 0
longer g c =
    let room = (room_left c.args.ranks c.args.starts.now.items c.args.words.now.items (vec_capacity c.args.words.now) c.args.line c.requires.are c.requires.line c.requires.unmade).0 in
    grown c.args.words.now.items c.resize.new.self.items c.args.ranks _ _ c.resize.result c.resize.ensures.items (c.resize.ensures.succeeds (omega (arith, room, c.len-2.ensures, c.args.words.now.ok.0))) (omega (arith, c.len-2.ensures, c.args.words.now.ok.0)) (omega (arith, c.len-2.ensures))

end : (g : _) (c : After-resize g) → c.len.result ≡ length c.args.words.now.items
end g c = omega (arith, c.len.ensures, c.args.words.now.ok.0)

pub returns-clause-are : goal.returns-clause-are
returns-clause-are g c =
    let more = lines_more c.args.ranks c.args.starts.now.items c.args.words.now.items (vec_capacity c.args.words.now) c.requires.are c.args.line c.requires.line c.requires.unmade in
    rw (end g c, longer g c) (more_room c.args.ranks _ _ (vec_capacity c.args.words.now) (vec_capacity c.resize.new.self) more c.resize.ensures.capacity)

pub returns-clause-cells : goal.returns-clause-cells
returns-clause-cells g c =
    rw (end g c, longer g c) (cells_kept c.args.ranks c.args.starts.now.items c.args.words.now.items (vec_capacity c.args.words.now) c.requires.are c.args.line c.requires.line c.requires.unmade)

pub returns-clause-made : goal.returns-clause-made
returns-clause-made g c = rw (end g c) (made_some c.args.ranks c.args.starts.now.items c.args.words.now.items (vec_capacity c.args.words.now) c.requires.are c.args.line c.requires.line c.requires.unmade)

pub returns-clause-lines : goal.returns-clause-lines
returns-clause-lines g c = length-set c.args.starts.now.items c.args.line c.len.result

pub overflow_cast-len : goal.overflow_cast-len
overflow_cast-len g c =
    let left = room_left c.args.ranks c.args.starts.now.items c.args.words.now.items (vec_capacity c.args.words.now) c.args.line c.requires.are c.requires.line c.requires.unmade in
    omega (arith, left.1, c.len.ensures, c.args.words.now.ok.0)

pub overflow_add-len : goal.overflow_add-len
overflow_add-len g c =
    let left = room_left c.args.ranks c.args.starts.now.items c.args.words.now.items (vec_capacity c.args.words.now) c.args.line c.requires.are c.requires.line c.requires.unmade in
    omega (arith, left.1, c.len-2.ensures, c.args.words.now.ok.0)

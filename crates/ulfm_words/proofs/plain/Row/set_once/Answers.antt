use Rattle.std.proofs.Common.{vec_capacity}
use Rattle.ulfm_words.proofs.Lines.{cell_put, cell_read, cell_stays, head_put, head_read, head_stays}
use Rattle.ulfm_words.proofs.plain.Row.set_once.Goals as goal

pub returns-then-stood-eq0-2-clause-stood : goal.returns-then-stood-eq0-2-clause-stood
returns-then-stood-eq0-2-clause-stood g c =
    let row = c.self.inside in
    rw (← c.self.view_is) (cell_read row.limits row.heads.items row.starts.items row.words.items (vec_capacity row.words) c.self.invariant.1 c.args.place c.in-Cell.line c.in-Cell.rank c.index-begin.result.now c.index-stood-in-Cell.result.now c.in-Cell.ensures c.index-begin.ensures c.index-stood-in-Cell.ensures)

pub returns-then-stood-eq0-2-clause-set : goal.returns-then-stood-eq0-2-clause-set
returns-then-stood-eq0-2-clause-set g c none =
    let row = c.self.inside in
    let reached = c.reach-begin.ensures in
    rw (← c.self.view_is)
    (cell_put row.limits row.heads.items row.starts.items row.words.items (vec_capacity row.words) c.self.invariant.1 c.reach-begin.new.starts.items c.reach-begin.new.words.items (vec_capacity c.reach-begin.new.words) c.args.place c.in-Cell.line c.in-Cell.rank c.reach-begin.result c.args.word
    reached.are reached.cells reached.lines reached.made c.in-Cell.ensures reached.begins)

pub returns-else-stood-eq0-2-clause-stood : goal.returns-else-stood-eq0-2-clause-stood
returns-else-stood-eq0-2-clause-stood g c =
    let row = c.self.inside in
    rw (← c.self.view_is) (cell_read row.limits row.heads.items row.starts.items row.words.items (vec_capacity row.words) c.self.invariant.1 c.args.place c.in-Cell.line c.in-Cell.rank c.index-begin.result.now c.index-stood-in-Cell.result.now c.in-Cell.ensures c.index-begin.ensures c.index-stood-in-Cell.ensures)

pub invariant_of-self : goal.invariant_of-self
invariant_of-self g c =
    let row = c.self.inside in (
      c.self.invariant.0,
      head_stays row.limits row.heads.items row.starts.items row.words.items (vec_capacity row.words) c.self.invariant.1 c.in-Head.index c.args.word,
    )

pub invariant_of-self-then-stood-eq0-2 : goal.invariant_of-self-then-stood-eq0-2
invariant_of-self-then-stood-eq0-2 g c =
    let row = c.self.inside in
    let reached = c.reach-begin.ensures in (
      c.self.invariant.0,
      cell_stays row.limits row.heads.items row.starts.items row.words.items (vec_capacity row.words) c.self.invariant.1 c.reach-begin.new.starts.items c.reach-begin.new.words.items (vec_capacity c.reach-begin.new.words) c.args.place c.in-Cell.line c.in-Cell.rank c.reach-begin.result c.args.word
          reached.are reached.lines reached.made c.in-Cell.ensures reached.begins,
    )

pub returns-then-stood-eq0-clause-stood : goal.returns-then-stood-eq0-clause-stood
returns-then-stood-eq0-clause-stood g c =
    let row = c.self.inside in
    rw (← c.self.view_is) (head_read row.limits row.heads.items row.starts.items row.words.items (vec_capacity row.words) c.self.invariant.1 c.args.place c.in-Head.index c.index-stood.result.now c.in-Head.ensures c.index-stood.ensures)

pub returns-then-stood-eq0-clause-set : goal.returns-then-stood-eq0-clause-set
returns-then-stood-eq0-clause-set g c none =
    let row = c.self.inside in
    rw (← c.self.view_is) (head_put row.limits row.heads.items row.starts.items row.words.items (vec_capacity row.words) c.self.invariant.1 c.args.place c.in-Head.index c.args.word c.in-Head.ensures)

pub returns-then-stood-eq0-clause-kept : goal.returns-then-stood-eq0-clause-kept
returns-then-stood-eq0-clause-kept g c some = absurd (some c.if-stood-eq0.true)

pub returns-else-stood-eq0-clause-stood : goal.returns-else-stood-eq0-clause-stood
returns-else-stood-eq0-clause-stood g c =
    let row = c.self.inside in
    rw (← c.self.view_is) (head_read row.limits row.heads.items row.starts.items row.words.items (vec_capacity row.words) c.self.invariant.1 c.args.place c.in-Head.index c.index-stood.result.now c.in-Head.ensures c.index-stood.ensures)

pub returns-else-stood-eq0-clause-set : goal.returns-else-stood-eq0-clause-set
returns-else-stood-eq0-clause-set g c none = absurd (c.if-stood-eq0.false none)

pub returns-then-stood-eq0-2-clause-kept : goal.returns-then-stood-eq0-2-clause-kept
returns-then-stood-eq0-2-clause-kept g c some = absurd (some c.if-stood-eq0-2.true)

pub returns-else-stood-eq0-2-clause-set : goal.returns-else-stood-eq0-2-clause-set
returns-else-stood-eq0-2-clause-set g c none = absurd (c.if-stood-eq0-2.false none)

use Rattle.std.proofs.Common.{◌≡◌, ◌+◌, ◌≤◌, false, length, take, vec_capacity}
use Rattle.ulfm_words.specs.Steps.{view_of, Goes}
use Rattle.ulfm_comm.specs.Misses.{AreMissing}
use Rattle.ulfm_comm.proofs.calls.missing.put_missing.Given as goal

abbrev pub invariant-loop-rank : goal.invariant-loop-rank
invariant-loop-rank g l =
    let start = g.W.Words.sight l.initial.pass in
    let now = g.W.Words.sight l.pass in
    record {
      goes : Goes g.P.Meld.meld g.W.Words.alone false l.rank-index (view_of g.P.Packed.pack (g.W.Words.name l.words) start) (view_of g.P.Packed.pack (g.W.Words.name l.words) now);
      steps : now.steps ≡ start.steps + l.rank-index;
      are : AreMissing l.opened.comm l.opened.request (take l.rank-index l.group) start.seen now.seen l.found.items;
      few : length l.found.items ≤ l.rank-index;
      room : length l.group ≤ vec_capacity l.found;
    }

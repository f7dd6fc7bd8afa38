use Rattle.std.proofs.Common.{rules, ◌≡◌, ◌≤◌, [], ◌∷◌, ◌++◌, ◌+◌, arith, length, sym, subst, take, vec_capacity}
use Rattle.std.proofs.lemmas.Grind.{common_steps}
use Rattle.std.proofs.lemmas.List.{take_more}
use Rattle.std.specs.List.{slice_index}
use Rattle.ulfm_words.specs.Steps.{over}
use Rattle.ulfm_words.proofs.Trails.{did_prefix}
use Rattle.ulfm_steps.proofs.Reading.{has_at, member_within, round_stays}
use Rattle.ulfm_comm.specs.Misses.{AreMissing, round_in}
use Rattle.ulfm_comm.proofs.{Misses.{missing_more, missing_no_more}, Waiting.{goes_none, goes_then}}
use Rattle.ulfm_comm.proofs.calls.missing.put_missing.Goals as goal
use Rattle.ulfm_comm.proofs.calls.missing.put_missing.Goals.{then-not-load_come, else-not-load_come}

pub load_come-requires-clause-within : goal.load_come-requires-clause-within
load_come-requires-clause-within g c =
    let i = c.loop-rank.invariant in
    let limits = (g.W.Words.name c.args.words.now).limits in
    let before = (g.W.Words.sight c.args.pass.now).seen in
    let now = (g.W.Words.sight c.loop-rank.pass).seen in
    let group = c.args.group.now in
    let begins = did_prefix g.W.Words.alone [] before now i.goes.did in
    let round = round_stays limits before now c.args.opened.comm (round_in c.args.opened.request) group begins c.requires.round in
    member_within limits g.P.Meld.meld now c.args.opened.comm (round_in c.args.opened.request) (slice_index group c.loop-rank.rank-index) group i.goes.of.legal
    i.goes.of.may_open round (has_at group c.loop-rank.rank-index 0 c.loop-rank-test.true)

pub loop-rank-init : goal.loop-rank-init
loop-rank-init g c =
    record {
      goes = goes_none g.P.Meld.meld g.W.Words.alone (over g.P.Packed.pack (g.W.Words.name c.args.words.now)) 0 (g.W.Words.sight c.args.pass.now) c.requires.of;
      steps = omega arith;
      are = search rules;
      few = search rules;
      room = search rules;
    }

pub loop-rank-preserved : goal.loop-rank-preserved
loop-rank-preserved g c =
    let i = c.loop-rank.invariant in
    let e = c.load_come.ensures in
    let start = g.W.Words.sight c.args.pass.now in
    let now = g.W.Words.sight c.loop-rank.pass in
    let later = g.W.Words.sight c.load_come.new.pass in
    let before = did_prefix g.W.Words.alone [] start.seen now.seen i.goes.did in
    let begins = did_prefix g.W.Words.alone [] now.seen later.seen e.goes.did in
    let group = c.args.group.now in
    let at = c.loop-rank.rank-index in
    let rank = slice_index group at in
    let listed = c.loop-rank.found.items in
    let found = c.if-not-load_come.found in
    let taken : take (at + 1) group ≡ take at group ++ rank ∷ [] = take_more group at 0 c.loop-rank-test.true in
    let put : AreMissing c.args.opened.comm c.args.opened.request (take at group ++ rank ∷ []) start.seen later.seen found.items × (length found.items ≤ at + 1) × (length group ≤ vec_capacity found) =
    elim c.if-not-load_come.branch [
      | then-not-load_come w ↦
          (let pushed : found.items ≡ listed ++ rank ∷ [] = grind (arith, common_steps) in (
            subst (λ ys. AreMissing c.args.opened.comm c.args.opened.request (take at group ++ rank ∷ []) start.seen later.seen ys) (sym pushed)
                (missing_more c.args.opened.comm c.args.opened.request (take at group) start.seen now.seen later.seen listed before begins i.are rank
                (sym w.if-not-load_come.ensures.come)),
            grind (arith, common_steps, pushed),
            grind (arith, common_steps),
          ))
      | else-not-load_come w ↦
          (let same : found.items ≡ listed = grind (arith, common_steps) in (
            subst (λ ys. AreMissing c.args.opened.comm c.args.opened.request (take at group ++ rank ∷ []) start.seen later.seen ys) (sym same)
                (missing_no_more c.args.opened.comm c.args.opened.request (take at group) start.seen now.seen later.seen listed before begins i.are rank
                (sym w.if-not-load_come.ensures.come)),
            grind (arith, common_steps, same),
            grind (arith, common_steps),
          ))
    ] in
    record {
      goes = goes_then g.P.Meld.meld g.W.Words.alone (over g.P.Packed.pack (g.W.Words.name c.args.words.now)) at 1 start now later i.goes e.goes;
      steps = omega (arith, i.steps, e.steps);
      are = subst (λ xs. AreMissing c.args.opened.comm c.args.opened.request xs start.seen later.seen found.items) (sym taken) put.0;
      few = put.1;
      room = put.2;
    }

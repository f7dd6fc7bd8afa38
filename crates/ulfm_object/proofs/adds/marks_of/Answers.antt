use Rattle.std.proofs.Common.{◌≡◌, ◌+◌, ◌++◌, ◌∷◌, [], take, filter_map, arith, sym, ap, ◌∙◌, append-nil}
use Rattle.std.specs.List.{cons_option, enumerate_from}
use Rattle.std.proofs.lemmas.List.{take_all}
use Rattle.std.proofs.lemmas.List.FromFn.{length-enumerate_from}
use Rattle.ulfm_model.specs.Computed.{mark_of}
use Rattle.ulfm_object.proofs.Bounds.{numbered_more}
use Rattle.ulfm_object.proofs.adds.marks_of.Goals as goal
use Rattle.ulfm_object.proofs.adds.marks_of.Goals.{in-Some+in_ok-push, in_default}

pub loop-i-preserved : goal.loop-i-preserved
loop-i-preserved g c =
    let f = mark_of c.args.round.now.history.now c.args.round.now.comm c.args.round.now.number in
    let xs = c.deref-rank-items.result.now in
    let so_far = filter_map f (take c.loop-i.i (enumerate_from 1 xs)) in
    let more : filter_map f (take (c.loop-i.i + 1) (enumerate_from 1 xs)) ≡ so_far ++ cons_option c.mark_of.result [] =
    numbered_more f xs c.loop-i.i c.loop-i-test.true ∙ ap (λ o. so_far ++ cons_option o []) (sym c.mark_of.ensures) in
    elim c.match-mark_of.branch [
      | in-Some+in_ok-push w ↦
          rw w.marks-is (w.in_ok-push.ensures.items ∙ (ap (λ marks. marks ++ w.in-Some.mark ∷ []) c.loop-i.invariant ∙ sym (more ∙ ap (λ o. so_far ++ cons_option o []) w.in-Some.is)))
      | in_default w ↦ rw w.marks-is (c.loop-i.invariant ∙ sym (more ∙ (ap (λ o. so_far ++ cons_option o []) w.in_default.is ∙ append-nil so_far)))
    ]

pub returns : goal.returns
returns g c =
    let f = mark_of c.args.round.now.history.now c.args.round.now.comm c.args.round.now.number in
    let xs = c.deref-rank-items.result.now in
    c.loop-i.invariant
    ∙ (ap (filter_map f) (take_all c.loop-i.i (enumerate_from 1 xs) (omega (arith, length-enumerate_from 1 xs)))
    ∙ ap (λ ys. filter_map f (enumerate_from 1 ys)) (c.deref-rank-items.ensures.value ∙ c.in_ok-failed.ensures))

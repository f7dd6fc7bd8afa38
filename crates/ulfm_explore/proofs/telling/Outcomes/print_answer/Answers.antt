use Rattle.std.proofs.Common.{◌≡◌, ◌∙◌, ℕ, true, false, List, map, sym, subst}
use Rattle.std.specs.Prelude.{OnOk}
use Rattle.ulfm_explore.specs.Tellings.{answer_to, is_answer}
use Rattle.ulfm_explore.specs.Views.{told_of}
use Rattle.ulfm_explore.proofs.Walks.{answer_here, answer_on, map_next}
use Rattle.ulfm_explore.proofs.telling.Outcomes.print_answer.Goals as goal

pub returns-then-is_answer : goal.returns-then-is_answer
returns-then-is_answer g c =
    let next = map_next told_of c.args.self.now.shown.now c.loop-outcome.outcome-index c.outcome-item.result c.loop-outcome-test.true c.outcome-item.is in
    let holds : is_answer c.args.self.now.program.now c.args.question (told_of c.outcome-item.result).0 ≡ true = sym (rw c.deref.ensures.value at c.is_answer.ensures) ∙ c.if-is_answer.true in
    let found =
    answer_here c.args.text.now.items c.args.self.now.program.now c.args.question c.args.self.now.is_whole c.loop-outcome.number (told_of c.outcome-item.result) _ _
    (answer_to c.args.text.now.items c.args.self.now.program.now c.args.question c.args.self.now.is_whole 1 (map told_of c.args.self.now.shown.now)) next holds c.loop-outcome.invariant.1 in
    subst
    (λ (x : List ℕ). OnOk c.print_found.result (c.print_found.new.text.items ≡ x))
    (rw (c.loop-outcome.invariant.0, c.deref-then-is_answer.ensures.value) found)
    c.print_found.ensures

pub loop-outcome-preserved : goal.loop-outcome-preserved
loop-outcome-preserved g c =
    let next = map_next told_of c.args.self.now.shown.now c.loop-outcome.outcome-index c.outcome-item.result c.loop-outcome-test.true c.outcome-item.is in
    let fails : is_answer c.args.self.now.program.now c.args.question (told_of c.outcome-item.result).0 ≡ false = sym (rw c.deref.ensures.value at c.is_answer.ensures) ∙ c.if-is_answer.false in
    let on =
    answer_on c.args.text.now.items c.args.self.now.program.now c.args.question c.args.self.now.is_whole c.loop-outcome.number (told_of c.outcome-item.result) _ _ _ next fails
    c.loop-outcome.invariant.1 in
    (c.loop-outcome.invariant.0, rw c.saturating_add-number.ensures on)

use Rattle.std.proofs.Common.{◌≡◌, ◌++◌, [], sym, ap, ap₂, ◌∙◌, append-nil}
use Rattle.std.specs.List.{cons_option}
use Rattle.ulfm_model.specs.History.{entries_by}
use Rattle.ulfm_model.specs.Computed.{marks_of, spawn_of}
use Rattle.ulfm_model.specs.declared.event.Caller.TheVariants.{Rank}
use Rattle.ulfm_object.proofs.adds.added_by_shrink.Goals as goal
use Rattle.ulfm_object.proofs.adds.added_by_shrink.Goals.{in-Some+in_ok-push, in_default}

pub returns : goal.returns
returns g c =
    let round = c.args.round.now in
    let h = round.history.now in
    let marks = marks_of round.limits.ranks h round.comm round.number in
    let spawn : cons_option c.in_ok-spawn.field-0 [] ≡ spawn_of g.P.Meld.meld round.limits (h ++ entries_by (Rank c.args.rank) marks) c.args.rank round.comm round.number =
    rw (c.deref-2.ensures.value, c.in_ok-history.ensures, c.deref.ensures.value, c.in_ok-events.ensures) at c.in_ok-spawn.ensures in
    elim c.match-branch-4.branch [
      | in-Some+in_ok-push w ↦
          rw w.events-is (w.in_ok-push.ensures.items ∙ ap₂ (λ xs ys. xs ++ ys) c.in_ok-events.ensures (sym (ap (λ o. cons_option o []) w.in-Some.is) ∙ spawn))
      | in_default w ↦
          rw w.events-is (c.in_ok-events.ensures ∙ (sym (append-nil marks) ∙ ap (λ ys. marks ++ ys) (sym (ap (λ o. cons_option o []) w.in_default.is) ∙ spawn)))
    ]

use Rattle.std.proofs.Common.{◌≡◌, ◌∷◌, ◌++◌, [], true, false, subst, sym, ◌∙◌}
use Rattle.ulfm_model.specs.declared.event.Entry.{Entry}
use Rattle.ulfm_model.specs.Traces.{change_by, with_event}
use Rattle.ulfm_numbers.specs.{Seen.{Seen}, Tests.{follow_test}}
use Rattle.ulfm_numbers.proofs.Seeing.{seen_now}
use Rattle.ulfm_judge.proofs.Taking.{bad_event, bad_own, happens}
use Rattle.ulfm_judge.proofs.events.happen.Goals as goal

pub returns-then-not-branch : goal.returns-then-not-branch
returns-then-not-branch g c = λ h us group tells are.
    let seen = seen_now c.args.limits.ranks c.args.numbers.now h tells in
    let follows = subst (λ (s : Seen g.row.P.Denot). follow_test g.P.Meld.meld c.args.limits s c.args.event ≡ false) seen (sym c.in_ok-may_follow.ensures ∙ c.if-not-branch.true) in
    (h, us, tells, are, bad_event g.P.Meld.meld c.args.limits h c.args.records.now c.args.calls.now us are group c.args.by c.args.event follows)

pub returns-then-not-is_own : goal.returns-then-not-is_own
returns-then-not-is_own g c = λ h us group tells are.
    let seen = seen_now c.args.limits.ranks c.args.numbers.now h tells in
    let follows = subst (λ (s : Seen g.row.P.Denot). follow_test g.P.Meld.meld c.args.limits s c.args.event ≡ true) seen (sym c.in_ok-may_follow.ensures ∙ c.if-not-branch.false) in
    let own = c.is_own.ensures h us (c.deref.ensures.value ∙ tells.failures.0) are in
    (h, us, tells, are, bad_own g.P.Meld.meld c.args.limits h c.args.records.now c.args.calls.now us are group c.args.by c.args.event follows (sym own ∙ c.if-not-is_own.true))

pub returns : goal.returns
returns g c = λ h us group tells are.
    let seen = seen_now c.args.limits.ranks c.args.numbers.now h tells in
    let follows = subst (λ (s : Seen g.row.P.Denot). follow_test g.P.Meld.meld c.args.limits s c.args.event ≡ true) seen (sym c.in_ok-may_follow.ensures ∙ c.if-not-branch.false) in
    let own = c.is_own.ensures h us (c.deref.ensures.value ∙ tells.failures.0) are in
    let entry : Entry g.row.P.Denot = record { by = c.args.by; event = c.args.event } in (
      h ++ entry ∷ [],
      change_by c.args.by (with_event c.args.event) us,
      c.in_ok-note.ensures c.args.limits.ranks h tells,
      c.in_ok-add_own.ensures us are,
      happens g.P.Meld.meld c.args.limits h c.args.records.now c.args.calls.now us are group c.args.by c.args.event follows (sym own ∙ c.if-not-is_own.false),
    )

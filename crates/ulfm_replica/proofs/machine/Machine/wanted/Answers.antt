use Rattle.std.proofs.Common.{◌≡◌, true, sym, ◌∙◌, subst}
use Rattle.ulfm_model.specs.declared.limits.Limits.{Limits}
use Rattle.ulfm_numbers.specs.{Seen.{Seen}, Telling.{seen_at}, Tests.{follow_test}}
use Rattle.ulfm_numbers.proofs.{Deciding.{follow_decides}, Seeing.{seen_now}}
use Rattle.ulfm_replica.specs.Replicas.{IsWanted, Replicated, rules}
use Rattle.ulfm_replica.proofs.machine.Machine.wanted.Goals as goal

pub returns-in-Ok-true : goal.returns-in-Ok-true
returns-in-Ok-true g c =
    let at = c.self.inside.at in
    let numbers = c.self.inside.numbers in
    let event = c.in-Some.entry.event in
    let told = sym c.in-Ok-true.ensures ∙ c.in-Ok-true.field-0-test in
    let here = subst (λ (l : Limits). follow_test g.P.Meld.meld l (seen_at numbers numbers.count) event ≡ true) c.limits.ensures told in
    let follows = subst (λ (s : Seen g.row.P.Denot). follow_test g.P.Meld.meld at.words.limits s event ≡ true) (seen_now at.words.limits.ranks numbers at.pass.seen c.self.invariant.1) here in
    subst (λ (r : Replicated g.row.P.Denot). IsWanted (rules g.P.Meld.meld g.P.Packed.pack) r.at c.in-Some.entry) c.self.view_is
    (c.in-Some.ensures ((follow_decides g.P.Meld.meld at.words.limits at.pass.seen event).0 follows))

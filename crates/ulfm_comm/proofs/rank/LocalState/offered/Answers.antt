use Rattle.std.proofs.Common.{◌≡◌, ◌≤◌, length, filter, ap₂, sym, ◌∙◌, subst, arith}
use Rattle.std.specs.List.Sorted.{IsStrictlyIncreasing}
use Rattle.ulfm_model.specs.{History.{has}, Records.{Held}}
use Rattle.ulfm_model.specs.Members.{members_of}
use Rattle.ulfm_comm.proofs.rank.LocalState.offered.Goals as goal
use Rattle.ulfm_comm.proofs.rank.LocalState.offered.Goals.{After-count_in-known}

-- the rank counted what its look found in the group
counted : (g : _) (c : After-count_in-known g) → c.count_in-known.result ≡ length (filter (has (members_of c.x.inside.group)) c.args.self.now.seen)
counted g c = c.count_in-known.ensures ∙ ap₂ (λ w v. length (filter (has w) v)) c.deref.ensures.value c.failures.ensures

pub count_in-known-requires : goal.count_in-known-requires
count_in-known-requires g c =
    let rises = subst (λ (y : Held). IsStrictlyIncreasing y.group) (sym c.x.view_is) c.requires.rises in
    subst IsStrictlyIncreasing (sym c.deref.ensures.value) rises

pub contribution-requires-clause-known : goal.contribution-requires-clause-known
contribution-requires-clause-known g c =
    let few : length (filter (has (members_of c.x.inside.group)) c.args.self.now.seen) ≤ 1024 = subst (λ (y : Held). length (filter (has y.group) c.args.self.now.seen) ≤ 1024) (sym c.x.view_is) c.requires.few in
    omega (arith, few, counted g (goal.at.contribution-requires-clause-known g c).After-count_in-known)

pub contribution-requires-clause-acked : goal.contribution-requires-clause-acked
contribution-requires-clause-acked g c =
    let le : c.x.inside.acked ≤ length (filter (has (members_of c.x.inside.group)) c.args.self.now.seen) = subst (λ (y : Held). y.acked ≤ length
    (filter (has y.group) c.args.self.now.seen)) (sym c.x.view_is) c.requires.acked in
    omega (arith, le, counted g (goal.at.contribution-requires-clause-acked g c).After-count_in-known)

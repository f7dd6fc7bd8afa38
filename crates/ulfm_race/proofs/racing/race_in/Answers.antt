use Rattle.std.proofs.Common.{sym, subst}
use Rattle.ulfm_laws.specs.Flags.{flag_meld}
use Rattle.ulfm_model.specs.History.{IsLegal}
use Rattle.ulfm_race.specs.Races.{IsStarted, Numbered, StartIs}
use Rattle.ulfm_race.proofs.Gathering.{starts_later}
use Rattle.ulfm_race.proofs.racing.race_in.Goals as goal

pub hear_all-requires-clause-started : goal.hear_all-requires-clause-started
hear_all-requires-clause-started g c =
    let plan = c.args.plan in
    let seen = c.declare.new.outside.seen in
    let items = c.start_all.new.started.items in
    let legal = subst (λ l. IsLegal flag_meld l seen) c.requires.limits c.declare.ensures.of.legal in
    let all = starts_later plan c.start_all.new.outside.seen seen c.declare.ensures.seen legal (λ i h. IsStarted c.args.world.now c.args.said.now c.args.gate.now plan i h.promise) 0 items c.start_all.ensures.started in
    subst (λ p. Numbered (λ i one. StartIs (λ h. IsStarted c.args.world.now c.args.said.now c.args.gate.now p i h.promise) seen i one) 0 items) (sym c.in_ok-gathered.ensures.plan) all

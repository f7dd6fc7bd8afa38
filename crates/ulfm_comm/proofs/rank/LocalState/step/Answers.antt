use Rattle.std.proofs.Common.{◌≡◌, Bool, IsTrue, ap, refl, sym, ◌∙◌, subst, false}
use Rattle.ulfm_model.specs.declared.call.Call.{Call}
use Rattle.ulfm_model.specs.Records.{Record}
use Rattle.ulfm_words.specs.Steps.{view_of, Sight, view_at, over}
use Rattle.ulfm_comm.specs.{Phase.{Answered, NextIs, Stands, UnderWay, Waits}, Step.{Stepped}, StepsLeft.{Spends, steps_left}}
use Rattle.ulfm_comm.specs.declared.phases.phase.Next.{Next}
use Rattle.ulfm_comm.proofs.Stands.{stands_lasts}
use Rattle.ulfm_comm.proofs.rank.LocalState.step.Goals as goal
use Rattle.ulfm_comm.proofs.rank.LocalState.step.Goals.{After-go, After-go-arg-4-1}
use Rattle.ulfm_comm.specs.{Local.{local}, Proposals.{WinsNext}, Wings.{WingsIn, WingsNext}}

-- the call as its step takes it
same : (g : _) (c : After-go-arg-4-1 g) → c.args.doing.now ≡ record {
  asked = c.doing.inside.asked;
  phase = c.replace-phase.result;
  prepared = c.doing.inside.prepared;
}
same g c = sym c.doing.view_is ∙ ap (λ phase. record {
  asked = c.doing.inside.asked;
  phase = phase;
  prepared = c.doing.inside.prepared;
}) (sym c.replace-phase.ensures.value)

pub go-requires-clause-stands : goal.go-requires-clause-stands
go-requires-clause-stands g c =
    let p = c.requires.stood in
    let name = over g.P.Packed.pack (g.W.Words.name c.args.words.now) in
    let now = g.W.Words.sight c.args.pass.now in (
      p.0,
      p.1,
      subst (λ (doing : UnderWay g.row.P.Denot). Stands g.P.Meld.meld false (local p.0 (view_at name p.1)) doing (local c.args.self.now (view_at name now))) (same g c)
          (stands_lasts g.P.Meld.meld false name p.0 p.1 c.args.doing.now c.args.self.now p.2 now p.3 p.4 c.requires.of),
    )

-- what came of it
pub turned : (g : _) (c : After-go g) → (alone : Bool) → (IsTrue alone → IsTrue g.W.Words.alone) → (old : Record) → (before stood : Sight g.row.P.Denot)
    → Stands g.P.Meld.meld alone (local old (view_of g.P.Packed.pack (g.W.Words.name c.args.words.now) before)) c.args.doing.now (local c.args.self.now (view_of g.P.Packed.pack (g.W.Words.name c.args.words.now) stood))
    → Waits alone stood (g.W.Words.sight c.args.pass.now)
    → NextIs g.P.Meld.meld alone c.doing.inside.asked (local old (view_of g.P.Packed.pack (g.W.Words.name c.args.words.now) before)) c.go.result c.go.new.prepared (local c.go.new.self (view_of g.P.Packed.pack (g.W.Words.name c.args.words.now) (g.W.Words.sight c.go.new.pass)))
turned g c alone only old before stood u waits =
    let name = over g.P.Packed.pack (g.W.Words.name c.args.words.now) in
    let now = g.W.Words.sight c.args.pass.now in
    c.go.ensures.turn.turns alone only old before
    (subst (λ (doing : UnderWay g.row.P.Denot). Stands g.P.Meld.meld alone (local old (view_at name before)) doing (local c.args.self.now (view_at name now)))
    (same g (goal.at.After-go g c).After-go-arg-4-1)
    (stands_lasts g.P.Meld.meld alone name old before c.args.doing.now c.args.self.now stood now u waits c.requires.of))

pub returns-in-Goes-clause-stands : goal.returns-in-Goes-clause-stands
returns-in-Goes-clause-stands g c =
    λ alone only old before stood u waits.
    subst (λ next. NextIs g.P.Meld.meld alone c.doing.inside.asked (local old (view_of g.P.Packed.pack (g.W.Words.name c.args.words.now) before)) next c.go.new.prepared (local c.go.new.self (view_of g.P.Packed.pack (g.W.Words.name c.args.words.now) (g.W.Words.sight c.go.new.pass)))) c.in-Goes.is
    (turned g (goal.at.returns-in-Goes-clause-stands g c).After-go alone only old before stood u waits)

pub returns-in-Ends-clause-stands : goal.returns-in-Ends-clause-stands
returns-in-Ends-clause-stands g c =
    λ alone only old before stood u waits.
    let name = over g.P.Packed.pack (g.W.Words.name c.args.words.now) in
    let after = g.W.Words.sight c.go.new.pass in
    subst (λ (a : Call g.row.P.Denot). Answered g.P.Meld.meld alone a (local old (view_at name before)) c.in-Ends.reply (local c.go.new.self (view_at name after)))
    (ap (λ (doing : UnderWay g.row.P.Denot). doing.asked) c.doing.view_is)
    (subst (λ next. NextIs g.P.Meld.meld alone c.doing.inside.asked (local old (view_at name before)) next c.go.new.prepared (local c.go.new.self (view_at name after))) c.in-Ends.is
    (turned g (goal.at.returns-in-Ends-clause-stands g c).After-go alone only old before stood u waits))

-- what the step did
stepped : (g : _) (c : After-go g)
    → Stepped g.P.Meld.meld g.W.Words.alone c.args.doing.now (local c.args.self.now (view_of g.P.Packed.pack (g.W.Words.name c.args.words.now) (g.W.Words.sight c.args.pass.now))) c.go.result (local c.go.new.self (view_of g.P.Packed.pack (g.W.Words.name c.args.words.now) (g.W.Words.sight c.go.new.pass)))
stepped g c =
    let at = (goal.at.After-go g c).After-go-arg-4-1 in
    subst (λ (was : UnderWay g.row.P.Denot). Stepped g.P.Meld.meld g.W.Words.alone was (local c.args.self.now (view_of g.P.Packed.pack (g.W.Words.name c.args.words.now) (g.W.Words.sight c.args.pass.now))) c.go.result (local c.go.new.self (view_of g.P.Packed.pack (g.W.Words.name c.args.words.now) (g.W.Words.sight c.go.new.pass))))
    (sym (same g at)) (record {
      of = c.go.ensures.turn.walks.of;
      onward = c.go.ensures.turn.walks.onward;
      cached = c.go.ensures.turn.walks.cached;
      caches = c.go.ensures.turn.beside.caches;
      named = c.go.ensures.turn.named refl;
      nearer = c.go.ensures.turn.nearer refl;
      also = c.go.ensures.turn.also;
      over = c.go.ensures.over;
      adds = c.go.ensures.turn.adds refl;
      sees = c.go.ensures.turn.sees;
      looks = c.go.ensures.turn.looks;
      knows = c.go.ensures.turn.knows;
      leads = c.go.ensures.turn.leads;
      checks = c.go.ensures.checks;
      early = c.go.ensures.early;
    })

pub returns-in-Goes-clause-stepped : goal.returns-in-Goes-clause-stepped
returns-in-Goes-clause-stepped g c =
    subst (λ next. Stepped g.P.Meld.meld g.W.Words.alone c.args.doing.now (local c.args.self.now (view_of g.P.Packed.pack (g.W.Words.name c.args.words.now) (g.W.Words.sight c.args.pass.now))) next (local c.go.new.self (view_of g.P.Packed.pack (g.W.Words.name c.args.words.now) (g.W.Words.sight c.go.new.pass)))) c.in-Goes.is
    (stepped g (goal.at.returns-in-Goes-clause-stepped g c).After-go)

pub returns-in-Ends-clause-stepped : goal.returns-in-Ends-clause-stepped
returns-in-Ends-clause-stepped g c =
    subst (λ next. Stepped g.P.Meld.meld g.W.Words.alone c.args.doing.now (local c.args.self.now (view_of g.P.Packed.pack (g.W.Words.name c.args.words.now) (g.W.Words.sight c.args.pass.now))) next (local c.go.new.self (view_of g.P.Packed.pack (g.W.Words.name c.args.words.now) (g.W.Words.sight c.go.new.pass)))) c.in-Ends.is
    (stepped g (goal.at.returns-in-Ends-clause-stepped g c).After-go)

-- what it spent, by what comes next
spent : (g : _) (c : After-go g) {next : Next g.row.P.Denot} → c.go.result ≡ next
    → Spends (steps_left (g.W.Words.name c.args.words.now).limits c.args.self.now c.args.doing.now.asked c.args.doing.now.phase)
    (g.W.Words.name c.args.words.now).limits c.go.new.self c.args.doing.now.asked next (g.W.Words.sight c.args.pass.now) (g.W.Words.sight c.go.new.pass)
spent g c is =
    let limits = (g.W.Words.name c.args.words.now).limits in
    let now = g.W.Words.sight c.args.pass.now in
    let after = g.W.Words.sight c.go.new.pass in
    let doing = c.args.doing.now in
    subst (λ next. Spends (steps_left limits c.args.self.now doing.asked doing.phase) limits c.go.new.self doing.asked next now after) is
    (subst (λ (was : UnderWay g.row.P.Denot). Spends (steps_left limits c.args.self.now was.asked was.phase) limits c.go.new.self was.asked c.go.result now after)
    (sym (same g (goal.at.After-go g c).After-go-arg-4-1)) c.go.ensures.turn.spends)

pub returns-in-Goes-clause-spends : goal.returns-in-Goes-clause-spends
returns-in-Goes-clause-spends g c = spent g (goal.at.returns-in-Goes-clause-spends g c).After-go c.in-Goes.is

pub returns-in-Ends-clause-spends : goal.returns-in-Ends-clause-spends
returns-in-Ends-clause-spends g c = spent g (goal.at.returns-in-Ends-clause-spends g c).After-go c.in-Ends.is

-- what it leaves of wings
wings : (g : _) (c : After-go g) → IsTrue g.W.Words.alone
    → WingsIn c.args.self.now c.args.doing.now.asked c.args.doing.now.phase (view_of g.P.Packed.pack (g.W.Words.name c.args.words.now) (g.W.Words.sight c.args.pass.now))
    → WingsNext c.go.new.self c.doing.inside.asked c.go.result (view_of g.P.Packed.pack (g.W.Words.name c.args.words.now) (g.W.Words.sight c.go.new.pass))
wings g c here stood =
    let at = (goal.at.After-go g c).After-go-arg-4-1 in
    c.go.ensures.turn.beside.wings here
    (subst (λ (was : UnderWay g.row.P.Denot). WingsIn c.args.self.now was.asked was.phase (view_of g.P.Packed.pack (g.W.Words.name c.args.words.now) (g.W.Words.sight c.args.pass.now))) (same g at) stood)

pub returns-in-Goes-clause-wings : goal.returns-in-Goes-clause-wings
returns-in-Goes-clause-wings g c = λ here stood.
    subst (λ next. WingsNext c.go.new.self c.doing.inside.asked next (view_of g.P.Packed.pack (g.W.Words.name c.args.words.now) (g.W.Words.sight c.go.new.pass))) c.in-Goes.is
    (wings g (goal.at.returns-in-Goes-clause-wings g c).After-go here stood)

pub returns-in-Ends-clause-wings : goal.returns-in-Ends-clause-wings
returns-in-Ends-clause-wings g c = λ here stood.
    subst (λ next. WingsNext c.go.new.self c.doing.inside.asked next (view_of g.P.Packed.pack (g.W.Words.name c.args.words.now) (g.W.Words.sight c.go.new.pass))) c.in-Ends.is
    (wings g (goal.at.returns-in-Ends-clause-wings g c).After-go here stood)

-- which event it added
wins : (g : _) (c : After-go g)
    → WinsNext g.P.Meld.meld g.W.Words.alone c.args.doing.now.asked c.args.doing.now.phase (local c.args.self.now (view_of g.P.Packed.pack (g.W.Words.name c.args.words.now) (g.W.Words.sight c.args.pass.now))) c.go.result (view_of g.P.Packed.pack (g.W.Words.name c.args.words.now) (g.W.Words.sight c.go.new.pass))
wins g c =
    let at = (goal.at.After-go g c).After-go-arg-4-1 in
    subst (λ (was : UnderWay g.row.P.Denot). WinsNext g.P.Meld.meld g.W.Words.alone was.asked was.phase (local c.args.self.now (view_of g.P.Packed.pack (g.W.Words.name c.args.words.now) (g.W.Words.sight c.args.pass.now))) c.go.result (view_of g.P.Packed.pack (g.W.Words.name c.args.words.now) (g.W.Words.sight c.go.new.pass)))
    (sym (same g at)) (c.go.ensures.wins refl)

pub returns-in-Goes-clause-wins : goal.returns-in-Goes-clause-wins
returns-in-Goes-clause-wins g c =
    subst (λ next. WinsNext g.P.Meld.meld g.W.Words.alone c.args.doing.now.asked c.args.doing.now.phase (local c.args.self.now (view_of g.P.Packed.pack (g.W.Words.name c.args.words.now) (g.W.Words.sight c.args.pass.now))) next (view_of g.P.Packed.pack (g.W.Words.name c.args.words.now) (g.W.Words.sight c.go.new.pass))) c.in-Goes.is
    (wins g (goal.at.returns-in-Goes-clause-wins g c).After-go)

pub returns-in-Ends-clause-wins : goal.returns-in-Ends-clause-wins
returns-in-Ends-clause-wins g c =
    subst (λ next. WinsNext g.P.Meld.meld g.W.Words.alone c.args.doing.now.asked c.args.doing.now.phase (local c.args.self.now (view_of g.P.Packed.pack (g.W.Words.name c.args.words.now) (g.W.Words.sight c.args.pass.now))) next (view_of g.P.Packed.pack (g.W.Words.name c.args.words.now) (g.W.Words.sight c.go.new.pass))) c.in-Ends.is
    (wins g (goal.at.returns-in-Ends-clause-wins g c).After-go)

use Rattle.std.proofs.Common.{rules, ◌≡◌, arith, [], Some, IsTrue, MatchBool, ap, refl, ◌∙◌, subst, sym}
use Rattle.ulfm_words.proofs.Trails.{did_prefix}
use Rattle.ulfm_comm.proofs.Wings.{turn_same}
use Rattle.ulfm_model.specs.declared.{call.Request.TheVariants.{Barrier}, event.Caller.TheVariants.{Rank}, event.Event.TheVariants.{Arrive}}
use Rattle.ulfm_model.specs.declared.{refusal.Refusal.TheVariants.{Twice}, reply.Reply.TheVariants.{Refused, Started}}
use Rattle.ulfm_model.specs.{Answers.{opened}, History.{has_arrived}, Records.{Record, with_held}, Runs.{Did}}
use Rattle.ulfm_model.specs.Terms.{comm_of}
use Rattle.ulfm_model.specs.Records.{moment}
use Rattle.ulfm_words.specs.Steps.{view_of, IsAdded, view_at, over}
use Rattle.ulfm_comm.specs.{Phase.{Answered}, Look.{HasLooked}, Step.{Walks}}
use Rattle.ulfm_comm.proofs.AlsoLeft.{also_ends}
use Rattle.ulfm_comm.proofs.{BarrierStart.{when_lost, when_won}, Exchange.{arrived_before, arrived_now, arriving_may, arriving_within, walks_tried}}
use Rattle.ulfm_comm.proofs.StepAdds.{adds_arrived, adds_none}
use Rattle.ulfm_comm.proofs.rank.LocalState.go_arriving.Goals as goal
use Rattle.ulfm_comm.proofs.rank.LocalState.go_arriving.Goals.{After-set_arrival}
use Rattle.ulfm_comm.specs.Local.{frame, local}
use Rattle.ulfm_model.specs.declared.event.Event.{Event}
use Rattle.ulfm_comm.proofs.Wins.{Comes, tried_comes}

pub set_arrival-requires-clause-within : goal.set_arrival-requires-clause-within
set_arrival-requires-clause-within g c =
    let s = c.requires.stands.1.2 in
    let p = s.at.0 in
    rw (c.comm_of-comm.ensures, c.number-number.ensures, s.at.2) (arriving_within _ _ _ _ _ _ _ _ p s.fits s.at.1 c.requires.of.legal c.requires.of.may_open)

pub set_arrival-requires-clause-may : goal.set_arrival-requires-clause-may
set_arrival-requires-clause-may g c =
    let s = c.requires.stands.1.2 in
    let p = s.at.0 in
    rw (c.comm_of-comm.ensures, c.number-number.ensures, s.at.2) (arriving_may _ _ _ _ _ _ _ _ p s.fits s.at.1 c.requires.of.legal)

-- what the exchange did
outcome : (g : _) (c : After-set_arrival g)
    → MatchBool c.set_arrival.result (IsAdded g.W.Words.alone (record {
      by = Rank c.args.self.now.number;
      event = Arrive (comm_of c.args.asked.now) c.args.round c.args.self.now.number;
    }) (g.W.Words.sight c.args.pass.now).seen (g.W.Words.sight c.set_arrival.new.pass).seen)
    (Did g.W.Words.alone [] (g.W.Words.sight c.args.pass.now).seen (g.W.Words.sight c.set_arrival.new.pass).seen)
outcome g c = rw (← c.number-number.ensures, ← c.comm_of-comm.ensures) c.set_arrival.ensures.tries.outcome

-- the rank has arrived
arrived : (g : _) (c : After-set_arrival g) → IsTrue (has_arrived (g.W.Words.sight c.set_arrival.new.pass).seen (comm_of c.args.asked.now) c.args.round
    c.args.self.now.number)
arrived g c = rw (← c.number-number.ensures, ← c.comm_of-comm.ensures) c.set_arrival.ensures.stands

walks : (g : _) (c : After-set_arrival g) → Walks g.P.Meld.meld g.W.Words.alone c.args.self.now.number (view_of g.P.Packed.pack (g.W.Words.name c.args.words.now) (g.W.Words.sight c.args.pass.now)) (view_of g.P.Packed.pack (g.W.Words.name c.args.words.now) (g.W.Words.sight c.set_arrival.new.pass))
walks g c =
    walks_tried g.P.Meld.meld g.W.Words.alone (over g.P.Packed.pack (g.W.Words.name c.args.words.now)) c.args.self.now.number (g.W.Words.sight c.args.pass.now)
    (g.W.Words.sight c.set_arrival.new.pass)
    c.set_arrival.ensures.tries.of c.set_arrival.ensures.tries.steps c.set_arrival.ensures.tries.cached c.set_arrival.result
    (Arrive (comm_of c.args.asked.now) c.args.round c.args.self.now.number) (outcome g c)

pub returns-then-not-set_arrival-clause-turn : goal.returns-then-not-set_arrival-clause-turn
returns-then-not-set_arrival-clause-turn g c =
    λ prepared whole.
    record {
      walks = walks g (goal.at.returns-then-not-set_arrival-clause-turn g c).After-set_arrival;
      beside = turn_same _ _ _ _ _ (λ w. w) (did_prefix g.W.Words.alone _ _ _ (walks g (goal.at.returns-then-not-set_arrival-clause-turn g c).After-set_arrival).did) c.set_arrival.ensures.tries.caches;
      named = search rules;
      nearer = search rules;
      spends = omega (arith, c.set_arrival.ensures.tries.steps);
      also = λ all.
          also_ends 1 (g.W.Words.name c.args.words.now).limits c.args.asked.now c.args.self.now c.args.self.now (g.W.Words.sight c.args.pass.now)
          (g.W.Words.sight c.set_arrival.new.pass) _ (omega (arith, c.set_arrival.ensures.tries.steps)) refl;
      further = search rules;
      adds = λ not.
          let at = (goal.at.returns-then-not-set_arrival-clause-turn g c).After-set_arrival in
          adds_none g.W.Words.alone c.args.self.now.seen c.args.self.now c.args.asked.now (Some (Refused Twice)) (g.W.Words.sight c.args.pass.now).seen
          (g.W.Words.sight c.set_arrival.new.pass).seen
          (when_lost _ _ c.set_arrival.result c.if-not-set_arrival.true (outcome g at));
      sees = search rules;
      looks = λ at. absurd (cc at);
      knows = λ known of. absurd (cc of);
      leads = search rules;
      turns = λ alone only old before stands.
          let at = (goal.at.returns-then-not-set_arrival-clause-turn g c).After-set_arrival in
          let lost = when_lost _ _ c.set_arrival.result c.if-not-set_arrival.true (outcome g at) in
          let name = over g.P.Packed.pack (g.W.Words.name c.args.words.now) in
          let own = c.args.self.now in
          let now = g.W.Words.sight c.args.pass.now in
          let after = g.W.Words.sight c.set_arrival.new.pass in
          subst (λ asked. ((p : HasLooked (frame g.P.Meld.meld name.limits alone) asked (moment old before.seen) (moment own now.seen)) × (c.args.round ≡ p.x.next_barrier))
          → Answered g.P.Meld.meld alone asked (local old (view_at name before)) (Refused Twice) (local own (view_at name after))) (sym stands.at.1)
          (λ p. arrived_before g.P.Meld.meld alone g.W.Words.alone only name (comm_of c.args.asked.now) c.args.round old before own now after
          (omega (arith, stands.onward, c.set_arrival.ensures.tries.steps)) stands.fits p.0 p.1 c.set_arrival.ensures.tries.of (arrived g at) lost)
          (stands.at.0, stands.at.2);
    }

pub returns-clause-turn : goal.returns-clause-turn
returns-clause-turn g c =
    λ prepared whole.
    record {
      walks = walks g (goal.at.returns-clause-turn g c).After-set_arrival;
      beside = turn_same _ _ _ _ _ (λ w. w) (did_prefix g.W.Words.alone _ _ _ (walks g (goal.at.returns-clause-turn g c).After-set_arrival).did) c.set_arrival.ensures.tries.caches;
      named = search rules;
      nearer = search rules;
      spends = omega (arith, c.set_arrival.ensures.tries.steps);
      also = λ all.
          also_ends 1 (g.W.Words.name c.args.words.now).limits c.args.asked.now c.args.self.now c.open.new.self (g.W.Words.sight c.args.pass.now)
          (g.W.Words.sight c.set_arrival.new.pass) _ (omega (arith, c.set_arrival.ensures.tries.steps)) (ap (λ (w : Record). w.seen) c.open.ensures);
      further = search rules;
      adds = λ not.
          let at = (goal.at.returns-clause-turn g c).After-set_arrival in
          let s = c.requires.stands.1 in
          adds_arrived g.P.Meld.meld g.W.Words.alone (g.W.Words.name c.args.words.now).limits c.args.asked.now s.0 s.1.seen c.args.self.now
          (g.W.Words.sight c.args.pass.now).seen (g.W.Words.sight c.set_arrival.new.pass).seen
          c.requires.of.legal s.2.at.0 s.0.number c.args.round s.2.at.1 s.2.at.2 (when_won _ _ c.set_arrival.result c.if-not-set_arrival.false (outcome g at));
      sees = search rules;
      looks = λ at. absurd (cc at);
      knows = λ known of. absurd (cc of);
      leads = search rules;
      turns = λ alone only old before stands.
          let at = (goal.at.returns-clause-turn g c).After-set_arrival in
          let won = when_won _ _ c.set_arrival.result c.if-not-set_arrival.false (outcome g at) in
          let name = over g.P.Packed.pack (g.W.Words.name c.args.words.now) in
          let own = c.args.self.now in
          let now = g.W.Words.sight c.args.pass.now in
          let after = g.W.Words.sight c.set_arrival.new.pass in
          let leaves = c.open.ensures ∙ ap (λ w. with_held own w (λ y. opened y (Some (Barrier c.args.round)))) c.comm_of-comm.ensures in
          subst (λ asked. ((p : HasLooked (frame g.P.Meld.meld name.limits alone) asked (moment old before.seen) (moment own now.seen)) × (c.args.round ≡ p.x.next_barrier))
          → Answered g.P.Meld.meld alone asked (local old (view_at name before)) Started (local c.open.new.self (view_at name after))) (sym stands.at.1)
          (λ p. arrived_now g.P.Meld.meld alone g.W.Words.alone only name (comm_of c.args.asked.now) c.args.round old before own now after
          (omega (arith, stands.onward, c.set_arrival.ensures.tries.steps)) stands.fits p.0 p.1 c.set_arrival.ensures.tries.of
          (arrived g at) c.open.new.self won leaves)
          (stands.at.0, stands.at.2);
    }

-- the arrival comes where it may
wins : (g : _) (c : After-set_arrival g) → IsTrue g.W.Words.alone → (event : Event g.row.P.Denot)
    → event ≡ Arrive (comm_of c.args.asked.now) c.args.round c.args.self.now.number
    → Comes g.P.Meld.meld (g.W.Words.name c.args.words.now).limits (Rank c.args.self.now.number) event (g.W.Words.sight c.args.pass.now).seen
    (g.W.Words.sight c.set_arrival.new.pass).seen
wins g c here event is =
    rw is (tried_comes g.P.Meld.meld (g.W.Words.name c.args.words.now).limits (Rank c.args.self.now.number) (g.W.Words.sight c.args.pass.now).seen
    (g.W.Words.sight c.set_arrival.new.pass).seen c.set_arrival.ensures.tries.of.legal g.W.Words.alone here
    (Arrive (comm_of c.args.asked.now) c.args.round c.args.self.now.number) c.set_arrival.result (outcome g c)
    (λ same may.
    let clash = sym (arrived g c) ∙ (ap (λ w. has_arrived w (comm_of c.args.asked.now) c.args.round c.args.self.now.number) same ∙ may.1) in
    absurd (cc clash)))

pub returns-then-not-set_arrival-clause-wins : goal.returns-then-not-set_arrival-clause-wins
returns-then-not-set_arrival-clause-wins g c = λ here wings some. wins g (goal.at.returns-then-not-set_arrival-clause-wins g c).After-set_arrival here

pub returns-clause-wins : goal.returns-clause-wins
returns-clause-wins g c = λ here wings some. wins g (goal.at.returns-clause-wins g c).After-set_arrival here

use Rattle.std.proofs.Common.{rules, ◌≡◌, arith, Bool, false, Some, ap, refl, sym, subst, ◌∙◌}
use Rattle.ulfm_comm.proofs.Wings.{settles_begins, settles_set, turn_settles}
use Rattle.ulfm_model.specs.Records.{Record}
use Rattle.ulfm_comm.proofs.StepAdds.{adds_settled, start_keeps}
use Rattle.ulfm_model.specs.declared.{reply.Reply.{Reply}, reply.Reply.TheVariants.{Started}}
use Rattle.std.proofs.lemmas.Bool.{false≢true}
use Rattle.ulfm_comm.specs.{Calls.{reply_of}, Requests.{is_of_round}, Step.{Adds, TakesTurn}, Phase.{Answered, Turns}}
use Rattle.ulfm_comm.specs.declared.{phases.phase.Next.TheVariants.{Ends}, phases.phase.Phase.TheVariants.{Settling}}
use Rattle.ulfm_model.specs.declared.place.Place.TheVariants.{Slot as SlotAt}
use Rattle.ulfm_model.specs.Terms.{comm_of}
use Rattle.ulfm_steps.specs.Turns.{IsOneStep}
use Rattle.ulfm_comm.specs.StepsLeft.{IsStepOf}
use Rattle.ulfm_model.specs.declared.step_name.StepName.TheVariants.{Settle as AtSettle}
use Rattle.ulfm_comm.proofs.{AlsoLeft.{also_ends}, Holding.{comm_is, found_there}, Exchange.{fits_now, seen_is, start_answered, walks_settled}}
use Rattle.ulfm_comm.proofs.{Known.{start_of_none}, Starts.{acked_known}}
use Rattle.ulfm_comm.proofs.rank.LocalState.go_settling.Goals as goal
use Rattle.ulfm_comm.proofs.rank.LocalState.go_settling.Goals.{After-end_start}
use Rattle.ulfm_comm.specs.Local.{local}
use Rattle.ulfm_comm.specs.Phase.{under_way}
use Rattle.ulfm_comm.specs.Step.{coming}
use Rattle.ulfm_words.specs.Steps.{view_of, view_at, over}
use Rattle.std.proofs.Common.{IsTrue}
use Rattle.ulfm_model.specs.declared.{event.Caller.TheVariants.{Rank}, event.Event.{Event}}
use Rattle.ulfm_comm.specs.Proposals.{OffersOwn}
use Rattle.ulfm_comm.proofs.Wins.{Comes, settles_comes}
use Rattle.ulfm_comm.specs.Prepared.{Prepared}

pub contribute-settled-requires-clause-fits : goal.contribute-settled-requires-clause-fits
contribute-settled-requires-clause-fits g c =
    let s = c.requires.stands.1.2 in
    let p = s.at.0 in fits_now _ _ _ _ _ _ _ _ p c.requires.of.legal

pub contribute-settled-requires-clause-held : goal.contribute-settled-requires-clause-held
contribute-settled-requires-clause-held g c =
    let s = c.requires.stands.1.2 in
    let p = s.at.0 in
    found_there g.P.Meld.meld (g.W.Words.name c.args.words.now).limits (g.W.Words.sight c.args.pass.now).seen c.args.self.now c.comm_of.result
    c.held_comm-x.result.now
    (fits_now _ _ _ _ _ _ _ _ p c.requires.of.legal) c.held_comm-x.ensures

pub contribute-settled-requires-clause-acked : goal.contribute-settled-requires-clause-acked
contribute-settled-requires-clause-acked g c =
    let s = c.requires.stands.1.2 in
    let p = s.at.0 in
    acked_known g.P.Meld.meld (g.W.Words.name c.args.words.now).limits p.look c.args.self.now c.comm_of.result c.held_comm-x.result.now p.fits
    c.held_comm-x.ensures (seen_is _ _ _ _ _ _ _ _ p)

-- the start is answered as its exchange says
answered : (g : _) (c : After-end_start g) (prepared : Prepared)
    → Turns g.P.Meld.meld g.W.Words.alone (under_way c.args.asked.now (Settling c.args.request c.args.offer) prepared) (local c.args.self.now (view_of g.P.Packed.pack (g.W.Words.name c.args.words.now) (g.W.Words.sight c.args.pass.now))) (Ends (reply_of (λ _. Started) c.end_start.result)) prepared (local c.end_start.new.self (view_of g.P.Packed.pack (g.W.Words.name c.args.words.now) (g.W.Words.sight c.contribute-settled.new.pass)))
answered g c =
    λ prepared alone only old before stands.
    let held = c.held_comm-x.ensures in
    let name = over g.P.Packed.pack (g.W.Words.name c.args.words.now) in
    subst (λ r. Answered g.P.Meld.meld alone c.args.asked.now (local old (view_at name before)) (reply_of (λ _. Started) r) (local c.end_start.new.self (view_at name (g.W.Words.sight c.contribute-settled.new.pass)))) (sym c.end_start.ensures.result)
    (start_answered g.P.Meld.meld alone g.W.Words.alone only name c.args.asked.now c.args.request c.args.offer prepared old before c.args.self.now
    (g.W.Words.sight c.args.pass.now) (g.W.Words.sight c.contribute-settled.new.pass)
    (omega (arith, c.contribute-settled.ensures.one.steps)) stands c.held_comm-x.result.now (rw (← c.comm_of.ensures) held) c.contribute-settled.result
    c.end_start.new.self c.contribute-settled.ensures.of c.contribute-settled.ensures.settles (rw (← c.comm_of-2.ensures) c.end_start.ensures.leaves))

-- what its exchange adds
adds : (g : _) (c : After-end_start g) → Adds g.W.Words.alone c.args.self.now.seen c.args.self.now c.args.asked.now
    (Some (reply_of (λ _. Started) c.end_start.result)) (g.W.Words.sight c.args.pass.now).seen (g.W.Words.sight c.contribute-settled.new.pass).seen
adds g c =
    let s = c.requires.stands in
    let now = g.W.Words.sight c.args.pass.now in
    let after = g.W.Words.sight c.contribute-settled.new.pass in
    let held = c.held_comm-x.ensures in
    subst (λ r. Adds g.W.Words.alone c.args.self.now.seen c.args.self.now c.args.asked.now (Some (reply_of (λ _. Started) r)) now.seen after.seen)
    (sym c.end_start.ensures.result)
    (adds_settled g.P.Meld.meld g.W.Words.alone (over g.P.Packed.pack (g.W.Words.name c.args.words.now)) c.args.asked.now c.args.request c.args.offer s.0 s.1.0 s.1.1
    c.args.self.now now after.seen s.1.2 c.held_comm-x.result.now (rw (← c.comm_of.ensures) held)
    c.contribute-settled.result c.contribute-settled.ensures.settles)

-- the exchange is at the rank's own place, in a round of the call's communicator
named : (g : _) (c : After-end_start g) → IsStepOf AtSettle c.args.self.now.number (comm_of c.args.asked.now) (g.W.Words.sight c.args.pass.now)
    (g.W.Words.sight c.contribute-settled.new.pass)
named g c =
    let limits = (g.W.Words.name c.args.words.now).limits in
    let now = g.W.Words.sight c.args.pass.now in
    let after = g.W.Words.sight c.contribute-settled.new.pass in
    let own = c.args.self.now in
    let x = c.held_comm-x.result.now in
    let s = c.requires.stands.1.2 in
    let p = s.at.0 in
    let held = c.held_comm-x.ensures in
    let there = comm_is g.P.Meld.meld limits now.seen own (comm_of c.args.asked.now) x (fits_now _ _ _ _ _ _ _ _ p c.requires.of.legal)
    (rw (← c.comm_of.ensures) held) in
    (x.next_agreement, subst (λ n. IsOneStep (SlotAt n x.next_agreement own.number) false now after) there c.contribute-settled.ensures.one)

-- the exchange ends the call, with this reply
ends : (g : _) (c : After-end_start g) (reply : Reply g.row.P.Denot) → reply_of (λ _. Started) c.end_start.result ≡ reply → (prepared : Prepared) (whole : Bool)
    → TakesTurn g.P.Meld.meld g.W.Words.alone whole (under_way c.args.asked.now (Settling c.args.request c.args.offer) prepared) (local c.args.self.now (view_of g.P.Packed.pack (g.W.Words.name c.args.words.now) (g.W.Words.sight c.args.pass.now))) (coming (Ends reply) prepared) (local c.end_start.new.self (view_of g.P.Packed.pack (g.W.Words.name c.args.words.now) (g.W.Words.sight c.contribute-settled.new.pass)))
ends g c reply is = λ prepared whole.
    record {
      walks = walks_settled g.P.Meld.meld g.W.Words.alone (over g.P.Packed.pack (g.W.Words.name c.args.words.now)) c.args.self.now.number (g.W.Words.sight c.args.pass.now)
          (g.W.Words.sight c.contribute-settled.new.pass)
          c.contribute-settled.ensures.of c.contribute-settled.ensures.one.steps c.contribute-settled.ensures.cached c.args.self.now c.held_comm-x.result.now
          c.args.offer c.contribute-settled.result refl c.contribute-settled.ensures.settles;
      beside = turn_settles _ (under_way c.args.asked.now (Settling c.args.request c.args.offer) prepared) c.args.request c.args.offer _ reply _ refl
          (settles_begins g.W.Words.alone (g.W.Words.sight c.args.pass.now).seen (g.W.Words.sight c.contribute-settled.new.pass).seen c.args.self.now c.held_comm-x.result.now c.args.offer
          c.contribute-settled.result c.contribute-settled.ensures.settles)
          c.contribute-settled.ensures.caches c.held_comm-x.result.now (rw (← c.comm_of.ensures) c.held_comm-x.ensures)
          (settles_set g.W.Words.alone (g.W.Words.sight c.args.pass.now).seen (view_of g.P.Packed.pack (g.W.Words.name c.args.words.now) (g.W.Words.sight c.contribute-settled.new.pass)) c.args.self.now c.held_comm-x.result.now c.args.offer c.contribute-settled.result
          c.contribute-settled.ensures.settles);
      named = λ not. named g c;
      nearer = λ not. tt;
      spends = omega (arith, c.contribute-settled.ensures.one.steps);
      also = λ all.
          also_ends 1 (g.W.Words.name c.args.words.now).limits c.args.asked.now c.args.self.now c.end_start.new.self (g.W.Words.sight c.args.pass.now)
          (g.W.Words.sight c.contribute-settled.new.pass) reply (omega (arith, c.contribute-settled.ensures.one.steps))
          (ap (λ (w : Record). w.seen) c.end_start.ensures.leaves ∙ start_keeps c.args.self.now _ c.args.request c.contribute-settled.result);
      further = search rules;
      adds = λ not. subst (λ r. Adds g.W.Words.alone c.args.self.now.seen c.args.self.now c.args.asked.now (Some r) (g.W.Words.sight c.args.pass.now).seen
          (g.W.Words.sight c.contribute-settled.new.pass).seen) is (adds g c);
      sees = ap (λ (w : Record). w.seen) c.end_start.ensures.leaves ∙ start_keeps c.args.self.now _ c.args.request c.contribute-settled.result;
      looks = λ at. absurd (cc at);
      knows = λ known of.
          let none = ap (λ r. is_of_round {P = g.row.P.Denot} (reply_of (λ _. Started) r)) c.end_start.ensures.result
          ∙ start_of_none _ c.contribute-settled.result in
          absurd (false≢true (sym none ∙ (ap is_of_round is ∙ of)));
      leads = search rules;
      turns = λ alone only old before stands.
          subst (λ r. Answered g.P.Meld.meld alone c.args.asked.now (local old (view_of g.P.Packed.pack (g.W.Words.name c.args.words.now) before)) r (local c.end_start.new.self (view_of g.P.Packed.pack (g.W.Words.name c.args.words.now) (g.W.Words.sight c.contribute-settled.new.pass)))) is (answered g c prepared alone only old before stands);
    }

pub returns-in-Ok-clause-turn : goal.returns-in-Ok-clause-turn
returns-in-Ok-clause-turn g c = ends g (goal.at.returns-in-Ok-clause-turn g c).After-end_start Started (ap (reply_of (λ _. Started)) c.in-Ok.is)

pub returns-in-Err-clause-turn : goal.returns-in-Err-clause-turn
returns-in-Err-clause-turn g c = ends g (goal.at.returns-in-Err-clause-turn g c).After-end_start _ (ap (reply_of (λ _. Started)) c.in-Err.is)

-- the contribution comes where it may
wins : (g : _) (c : After-end_start g) → IsTrue g.W.Words.alone → (event : Event g.row.P.Denot)
    → OffersOwn c.args.self.now (comm_of c.args.asked.now) c.args.offer event
    → Comes g.P.Meld.meld (g.W.Words.name c.args.words.now).limits (Rank c.args.self.now.number) event (g.W.Words.sight c.args.pass.now).seen
    (g.W.Words.sight c.contribute-settled.new.pass).seen
wins g c here event offers =
    settles_comes c.args.self.now (comm_of c.args.asked.now) c.args.offer c.held_comm-x.result.now (rw (← c.comm_of.ensures) c.held_comm-x.ensures) event offers
    g.P.Meld.meld (g.W.Words.name c.args.words.now).limits g.W.Words.alone here (g.W.Words.sight c.args.pass.now).seen
    (g.W.Words.sight c.contribute-settled.new.pass).seen c.contribute-settled.ensures.of.legal c.contribute-settled.result
    c.contribute-settled.ensures.settles

pub returns-in-Ok-clause-wins : goal.returns-in-Ok-clause-wins
returns-in-Ok-clause-wins g c = λ here wings some. wins g (goal.at.returns-in-Ok-clause-wins g c).After-end_start here

pub returns-in-Err-clause-wins : goal.returns-in-Err-clause-wins
returns-in-Err-clause-wins g c = λ here wings some. wins g (goal.at.returns-in-Err-clause-wins g c).After-end_start here

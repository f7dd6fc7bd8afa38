use Rattle.std.proofs.Common.{◌≡◌, ◌<◌, ◌∙◌, arith, Some, subst, refl, true, false}
use Rattle.ulfm_words.proofs.Trails.{did_prefix}
use Rattle.ulfm_comm.proofs.Wings.{turn_spreads, turn_stood}
use Rattle.ulfm_model.specs.{Records.{Held, held_at}, Terms.{comm_of}}
use Rattle.ulfm_words.specs.Steps.{over, view_of}
use Rattle.ulfm_model.specs.declared.{block.Wing.{Wing}, limits.Limits.{Limits}, refusal.Refusal.TheVariants.{Twice}, reply.Reply.TheVariants.{Refused}, step_name.StepName.TheVariants.{Wing as AtWing}}
use Rattle.ulfm_steps.specs.Settles.{IsSpreadIn}
use Rattle.ulfm_comm.specs.{StepsLeft.{IsStepOf}, Requests.{contributes}, Wings.{IsOwnPlace}}
use Rattle.ulfm_comm.proofs.{AlsoLeft.{also_ends, also_spreads}, Holding.{comm_is, found_there}}
use Rattle.ulfm_comm.proofs.Exchange.{IsStarting, fits_now, found_same, is_starting, passes_tests, spread_before, spread_goes, walks_none}
use Rattle.ulfm_comm.proofs.Starts.{spreading_may}
use Rattle.ulfm_comm.proofs.rank.LocalState.go_spreading.Goals as goal
use Rattle.ulfm_comm.proofs.rank.LocalState.go_spreading.Goals.{After-held_comm-x, After-spread}
use Rattle.std.proofs.Common.{sym}
use Rattle.ulfm_words.proofs.Trails.{did_quiet}
use Rattle.ulfm_comm.proofs.Wins.{offers_empty}

-- what the rank holds of the communicator
held : (g : _) (c : After-held_comm-x g) → held_at c.args.self.now c.held_comm-x.result.now.comm ≡ Some c.held_comm-x.result.now
held g c =
    let s = c.requires.stands.1.2 in
    let p = s.at.0 in
    found_there g.P.Meld.meld (g.W.Words.name c.args.words.now).limits (g.W.Words.sight c.args.pass.now).seen c.args.self.now c.comm_of.result
    c.held_comm-x.result.now
    (fits_now _ _ _ _ _ _ _ _ p c.requires.of.legal) c.held_comm-x.ensures

-- what a start of an agreement needs
starting : (g : _) (c : After-held_comm-x g) → IsStarting g.P.Meld.meld (g.W.Words.name c.args.words.now).limits c.args.asked.now c.requires.stands.1.0 c.requires.stands.1.2.at.0.x c.args.request c.args.offer
starting g c =
    let s = c.requires.stands.1.2 in
    let p = s.at.0 in
    is_starting g.P.Meld.meld (g.W.Words.name c.args.words.now).limits c.args.asked.now c.requires.stands.1.0 p.x c.args.request c.args.offer
    (passes_tests g.P.Meld.meld (g.W.Words.name c.args.words.now).limits false c.args.asked.now c.requires.stands.1.0 c.requires.stands.1.1.seen c.args.self.now (g.W.Words.sight c.args.pass.now).seen p) s.at.1

-- what its look found of the communicator is what it holds
same : (g : _) (c : After-held_comm-x g) → c.requires.stands.1.2.at.0.x ≡ c.held_comm-x.result.now
same g c =
    let p = c.requires.stands.1.2.at.0 in
    found_same g.P.Meld.meld (g.W.Words.name c.args.words.now).limits false c.args.asked.now c.requires.stands.1.0 c.requires.stands.1.1.seen c.args.self.now (g.W.Words.sight c.args.pass.now).seen p
    c.held_comm-x.result.now (rw (← c.comm_of.ensures) c.held_comm-x.ensures)

pub spread-requires-clause-may : goal.spread-requires-clause-may
spread-requires-clause-may g c =
    let limits = (g.W.Words.name c.args.words.now).limits in
    let s = c.requires.stands.1.2 in
    let p = s.at.0 in
    let x = c.held_comm-x.result.now in
    let at = (goal.at.spread-requires-clause-may g c).After-held_comm-x in
    let begun : p.x.next_agreement < limits.rounds = subst (λ (l : Limits). p.x.next_agreement < l.rounds) s.fits.same_limits (starting g at).room in
    let room : x.next_agreement < limits.rounds = subst (λ (y : Held). y.next_agreement < limits.rounds) (same g at) begun in
    let may = spreading_may g.P.Meld.meld limits (g.W.Words.sight c.args.pass.now).seen c.args.self.now x (fits_now _ _ _ _ _ _ _ _ p c.requires.of.legal) (held g at) room
    c.spreading.result.given c.spreading.ensures.none in
    rw (c.spreading.ensures.comm, c.spreading.ensures.round, c.spreading.ensures.rank) may

-- the exchange is of the wing of the rank's own place, in a round of the call's communicator
named : (g : _) (c : After-spread g) → IsStepOf AtWing c.args.self.now.number (comm_of c.args.asked.now) (g.W.Words.sight c.args.pass.now) (g.W.Words.sight c.spread.new.pass)
named g c =
    let p = c.requires.stands.1.2.at.0 in
    let there = comm_is g.P.Meld.meld (g.W.Words.name c.args.words.now).limits (g.W.Words.sight c.args.pass.now).seen c.args.self.now (comm_of c.args.asked.now) c.held_comm-x.result.now
    (fits_now _ _ _ _ _ _ _ _ p c.requires.of.legal) (rw (← c.comm_of.ensures) c.held_comm-x.ensures) in
    (Wing.Slot c.spreading.result.comm c.spreading.result.round c.spreading.result.rank, false, (c.spreading.ensures.comm ∙ there, λ not. c.spreading.ensures.rank), c.spread.ensures.step)

-- the wing is that of the call's own place
own_place : (g : _) (c : After-spread g) → contributes c.args.asked.now ≡ true → IsOwnPlace c.args.self.now c.args.asked.now c.spreading.result.comm c.spreading.result.round c.spreading.result.rank
own_place g c contributing = record {
  contributes = contributing;
  x = c.held_comm-x.result.now;
  held = rw (← c.comm_of.ensures) c.held_comm-x.ensures;
  comm = c.spreading.ensures.comm;
  round = c.spreading.ensures.round;
  rank = c.spreading.ensures.rank;
}

pub returns-then-not-spread-clause-turn : goal.returns-then-not-spread-clause-turn
returns-then-not-spread-clause-turn g c = λ prepared whole.
    let limits = (g.W.Words.name c.args.words.now).limits in
    let now = g.W.Words.sight c.args.pass.now in
    let after = g.W.Words.sight c.spread.new.pass in
    let own = c.args.self.now in
    let e = c.spread.ensures in
    let at = (goal.at.returns-then-not-spread-clause-turn g c).After-spread in
    let contributing = (starting g (goal.at.returns-then-not-spread-clause-turn g c).After-held_comm-x).contributing in
    record {
      walks = walks_none g.P.Meld.meld g.W.Words.alone (over g.P.Packed.pack (g.W.Words.name c.args.words.now)) own.number now after e.of e.step.steps e.cached e.did;
      beside = turn_stood _ _ _ _ (λ w. w) (did_prefix g.W.Words.alone _ _ _ e.did) _ _ _ (own_place g at contributing) e.caches _ (λ here. e.before here c.if-not-spread.true);
      named = λ not. named g at;
      nearer = λ not. tt;
      spends = omega (arith, e.step.steps);
      also = λ all. also_ends 2 limits c.args.asked.now own own now after (Refused Twice) (omega (arith, e.step.steps)) refl;
      further = λ is. tt;
      adds = λ not. e.did;
      sees = refl;
      looks = λ is. absurd (cc is);
      knows = λ known of. absurd (cc of);
      leads = tt;
      turns = λ alone only old before stands.
          spread_before g.P.Meld.meld alone g.W.Words.alone only (over g.P.Packed.pack (g.W.Words.name c.args.words.now)) c.args.asked.now c.args.request c.args.offer prepared old before own now after
          (omega (arith, e.step.steps)) stands c.held_comm-x.result.now (rw (← c.comm_of.ensures) c.held_comm-x.ensures) e.of e.did
          (rw (c.spreading.ensures.comm, c.spreading.ensures.round, c.spreading.ensures.rank) at e.stood c.if-not-spread.true);
    }

pub returns-clause-turn : goal.returns-clause-turn
returns-clause-turn g c = λ prepared whole.
    let limits = (g.W.Words.name c.args.words.now).limits in
    let now = g.W.Words.sight c.args.pass.now in
    let after = g.W.Words.sight c.spread.new.pass in
    let own = c.args.self.now in
    let e = c.spread.ensures in
    let at = (goal.at.returns-clause-turn g c).After-spread in
    let contributing = (starting g (goal.at.returns-clause-turn g c).After-held_comm-x).contributing in
    record {
      walks = walks_none g.P.Meld.meld g.W.Words.alone (over g.P.Packed.pack (g.W.Words.name c.args.words.now)) own.number now after e.of e.step.steps e.cached e.did;
      beside = turn_spreads _ _ _ _ (λ w. w) (did_prefix g.W.Words.alone _ _ _ e.did) _ _ _ (own_place g at contributing) e.caches refl _ _;
      named = λ not. named g at;
      nearer = λ not. omega arith;
      spends = omega (arith, e.step.steps);
      also = λ all. also_spreads limits c.args.asked.now own now after c.args.request c.args.offer e.step.steps;
      further = λ is. omega arith;
      adds = λ not. e.did;
      sees = refl;
      looks = λ is. absurd (cc is);
      knows = λ known. tt;
      leads = refl;
      turns = λ alone only old before stands.
          spread_goes g.P.Meld.meld alone g.W.Words.alone only (over g.P.Packed.pack (g.W.Words.name c.args.words.now)) c.args.asked.now c.args.request c.args.offer prepared old before own now after
          (omega (arith, e.step.steps)) stands c.held_comm-x.result.now (rw (← c.comm_of.ensures) c.held_comm-x.ensures) e.of e.did
          (subst (λ o. IsSpreadIn (view_of g.P.Packed.pack (g.W.Words.name c.args.words.now) after) c.held_comm-x.result.now.comm c.held_comm-x.result.now.next_agreement own.number o) c.spreading.ensures.offer
          (rw (c.spreading.ensures.comm, c.spreading.ensures.round, c.spreading.ensures.rank) at e.set c.if-not-spread.false));
    }

-- where the wing stood, it was tried before, so that its place is set, and the contribution may not come any more
pub returns-then-not-spread-clause-wins : goal.returns-then-not-spread-clause-wins
returns-then-not-spread-clause-wins g c = λ here wings some event offers.
    let limits = (g.W.Words.name c.args.words.now).limits in
    let now = (g.W.Words.sight c.args.pass.now).seen in
    let after = (g.W.Words.sight c.spread.new.pass).seen in
    let own = c.args.self.now in
    let x = c.held_comm-x.result.now in
    let e = c.spread.ensures in
    let set = wings x.comm x.next_agreement own.number (rw (c.spreading.ensures.comm, c.spreading.ensures.round, c.spreading.ensures.rank) at e.before here c.if-not-spread.true) in (
      λ may.
          let empty = offers_empty own (comm_of c.args.asked.now) c.args.offer x (rw (← c.comm_of.ensures) c.held_comm-x.ensures) event offers g.P.Meld.meld limits now may in
          let clash = sym empty ∙ set.1 in
          absurd (cc clash),
      λ not. did_quiet g.W.Words.alone now after e.did here,
    )

pub returns-clause-wins : goal.returns-clause-wins
returns-clause-wins g c = λ here wings some event offers.
    let same = did_quiet g.W.Words.alone (g.W.Words.sight c.args.pass.now).seen (g.W.Words.sight c.spread.new.pass).seen c.spread.ensures.did here in
    (λ may. (same, refl), λ not. same)

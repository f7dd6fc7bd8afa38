use Rattle.std.proofs.Common.{◌≡◌, ◌<◌, Some, arith, false, length, ap, sym, ◌∙◌, subst}
use Rattle.ulfm_words.specs.Steps.{over}
use Rattle.std.specs.List.Sorted.{IsStrictlyIncreasing}
use Rattle.ulfm_model.specs.{Records.{Fits, Held, held_at}, Terms.{comm_of}}
use Rattle.ulfm_comm.proofs.{AlsoLeft.{follows_peeks, follows_waits}, Known.{knows_none}, StepsLeft.{passes_none, peeking_after, waiting_after}}
use Rattle.ulfm_comm.proofs.{Holding.{group_rises, holds}, Ready.{just_fits, ready_peeking, ready_waiting}, Agreement.{some_member}}
use Rattle.ulfm_comm.proofs.rank.LocalState.ready.Goals as goal
use Rattle.ulfm_comm.proofs.rank.LocalState.ready.Goals.{After-held_comm-x, After-deref}

-- the record fits what was seen
fits : (g : _) (c : After-held_comm-x g) → Fits g.P.Meld.meld (g.W.Words.name c.args.words.now).limits (g.W.Words.sight c.args.pass.now).seen
    c.args.self.now
fits g c =
    let just = c.requires.just in
    just_fits g.P.Meld.meld false (over g.P.Packed.pack (g.W.Words.name c.args.words.now)) c.args.asked.now just.0 just.1 c.args.self.now
    (g.W.Words.sight c.args.pass.now) just.2 c.requires.of

-- the communicator is held
held : (g : _) (c : After-held_comm-x g) → held_at c.args.self.now (comm_of c.args.asked.now) ≡ Some c.held_comm-x.result.now
held g c = ap (held_at c.args.self.now) (sym c.comm_of-comm.ensures) ∙ c.held_comm-x.ensures

-- the rank is a member
some : (g : _) (c : After-held_comm-x g) → 0 < length c.held_comm-x.result.now.group
some g c = some_member _ _ (holds g.P.Meld.meld (g.W.Words.name c.args.words.now).limits (g.W.Words.sight c.args.pass.now).seen c.args.self.now
    c.comm_of-comm.result _ (fits g c) c.held_comm-x.ensures).member

-- the members that the code reads
group : (g : _) (c : After-deref g) → c.deref.result.now ≡ c.held_comm-x.result.now.group
group g c = c.deref.ensures.value ∙ ap (λ (y : Held). y.group) c.x.view_is

pub new-arrivals-requires-clause-some : goal.new-arrivals-requires-clause-some
new-arrivals-requires-clause-some g c =
    let at = goal.at.new-arrivals-requires-clause-some g c in
    subst (λ xs. 0 < length xs) (sym (group g at.After-deref)) (some g at.After-held_comm-x)

pub new-arrivals-requires-clause-rises : goal.new-arrivals-requires-clause-rises
new-arrivals-requires-clause-rises g c =
    let at = goal.at.new-arrivals-requires-clause-rises g c in
    subst IsStrictlyIncreasing (sym (group g at.After-deref))
    (group_rises g.P.Meld.meld (g.W.Words.name c.args.words.now).limits (g.W.Words.sight c.args.pass.now).seen c.args.self.now c.comm_of-comm.result _
    (fits g at.After-held_comm-x) c.held_comm-x.ensures)

pub returns-in-Some : goal.returns-in-Some
returns-in-Some g c =
    let at = (goal.at.returns-in-Some g c).After-held_comm-x in
    let polls = c.requires.polls in
    record {
      further = omega arith;
      nearer = waiting_after (g.W.Words.name c.args.words.now).limits c.args.self.now c.args.asked.now g.P.Meld.meld (g.W.Words.sight c.args.pass.now).seen
          c.requires.of.legal (fits g at).seen c.requires.of.may_open.in_range.some_comms
          (passes_none c.args.self.now c.args.asked.now c.requires.passes)
          polls.0 polls.1 c.held_comm-x.result.now polls.2 (held g at) c.in-Some.round c.new-arrivals.result
          (sym (ap (λ (y : Held). y.request) c.x.view_is) ∙ c.in-Some.ensures);
      also = follows_waits (g.W.Words.name c.args.words.now).limits c.args.self.now c.args.asked.now polls.0 polls.1 polls.2
          (passes_none c.args.self.now c.args.asked.now c.requires.passes)
          c.held_comm-x.result.now (held g at)
          g.P.Meld.meld (g.W.Words.sight c.args.pass.now).seen c.requires.of.legal (fits g at).seen
          c.in-Some.round c.new-arrivals.result (sym (ap (λ (y : Held). y.request) c.x.view_is) ∙ c.in-Some.ensures);
      knows = λ cached. tt;
      turns = λ here alone old before just.
          ready_waiting g.P.Meld.meld alone (over g.P.Packed.pack (g.W.Words.name c.args.words.now)) c.args.asked.now old before c.args.self.now
          (g.W.Words.sight c.args.pass.now) just c.requires.of here c.held_comm-x.result.now c.comm_of-comm.result c.held_comm-x.ensures c.comm_of-comm.ensures
          polls.0 polls.1 polls.2
          c.deref.result.now c.failures.result.now (group g (goal.at.returns-in-Some g c).After-deref) c.failures.ensures c.new-arrivals.result
          c.in-Some.round c.new-arrivals.ensures.comm c.new-arrivals.ensures.round
          (sym (ap (λ (y : Held). y.request) c.x.view_is) ∙ c.in-Some.ensures) c.new-arrivals.ensures.asked c.new-arrivals.ensures.first;
    }

pub returns : goal.returns
returns g c =
    let at = (goal.at.returns g c).After-held_comm-x in
    let polls = c.requires.polls in
    record {
      further = omega arith;
      nearer = peeking_after (g.W.Words.name c.args.words.now).limits c.args.self.now c.args.asked.now g.P.Meld.meld (g.W.Words.sight c.args.pass.now).seen
          c.requires.of.legal (fits g at).seen
          c.requires.of.may_open.in_range.some_comms (passes_none c.args.self.now c.args.asked.now c.requires.passes)
          polls.0 polls.1 c.held_comm-x.result.now polls.2 (held g at) c.in-Some-agreement.round c.in-Some-agreement.shrinks c.new-peek.result
          (sym (ap (λ (y : Held). y.request) c.x.view_is) ∙ c.in-Some-agreement.ensures) (some g at);
      also = follows_peeks (g.W.Words.name c.args.words.now).limits c.args.self.now c.args.asked.now polls.0 polls.1 polls.2
          (passes_none c.args.self.now c.args.asked.now c.requires.passes)
          c.held_comm-x.result.now (held g at)
          c.in-Some-agreement.round c.in-Some-agreement.shrinks c.new-peek.result (sym (ap (λ (y : Held). y.request) c.x.view_is) ∙ c.in-Some-agreement.ensures)
          (c.new-peek.ensures.comm ∙ c.comm_of-comm.ensures) c.new-peek.ensures.round c.new-peek.ensures.side (some g at);
      knows = λ cached. knows_none cached c.new-peek.result.comm c.new-peek.result.round c.new-peek.result.blocks c.new-peek.ensures.none;
      turns = λ here alone old before just.
          ready_peeking g.P.Meld.meld alone (over g.P.Packed.pack (g.W.Words.name c.args.words.now)) c.args.asked.now old before c.args.self.now
          (g.W.Words.sight c.args.pass.now) just c.requires.of here c.held_comm-x.result.now c.comm_of-comm.result c.held_comm-x.ensures c.comm_of-comm.ensures
          polls.0 polls.1 polls.2
          c.new-peek.result c.in-Some-agreement.shrinks c.in-Some-agreement.round (sym (ap (λ (y : Held). y.request) c.x.view_is) ∙ c.in-Some-agreement.ensures)
          c.new-peek.ensures.comm c.new-peek.ensures.round c.new-peek.ensures.side c.new-peek.ensures.none c.new-peek.ensures.first;
    }

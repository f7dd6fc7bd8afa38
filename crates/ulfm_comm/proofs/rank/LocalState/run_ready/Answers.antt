use Rattle.std.proofs.Common.{false, ap, arith, sym, ◌∙◌}
use Rattle.ulfm_words.specs.Steps.{over}
use Rattle.ulfm_model.specs.Records.{Held, held_at}
use Rattle.ulfm_comm.specs.declared.phases.phase.Next.TheVariants.{Goes}
use Rattle.ulfm_comm.specs.declared.phases.phase.Phase.TheVariants.{Peeking}
use Rattle.ulfm_comm.proofs.{AlsoLeft.{follows_peeks}, Known.{knows_none}, StepsLeft.{passes_none, peeking_after}}
use Rattle.ulfm_comm.proofs.{Holding.{holds}, Ready.{just_fits, ready_peeking}, Agreement.{some_member}}
use Rattle.ulfm_comm.proofs.rank.LocalState.run_ready.Goals as goal
use Rattle.ulfm_comm.proofs.rank.LocalState.run_ready.Goals.{After-new}
use Rattle.ulfm_comm.specs.Prepared.{unprepared}

pub run_peeking-requires-clause-stands : goal.run_peeking-requires-clause-stands
run_peeking-requires-clause-stands g c =
    let polls = c.requires.polls in
    let just = c.requires.just in (
      just.0,
      just.1,
      ready_peeking g.P.Meld.meld false (over g.P.Packed.pack (g.W.Words.name c.args.words.now)) c.args.asked.now just.0 just.1 c.args.self.now
          (g.W.Words.sight c.args.pass.now) just.2 c.requires.of unprepared c.held_comm-x.result.now c.comm_of-comm.result c.held_comm-x.ensures c.comm_of-comm.ensures
          polls.0 polls.1 polls.2
          c.new.result c.in-Some.shrinks c.in-Some.round (sym (ap (λ (y : Held). y.request) c.x.view_is) ∙ c.in-Some.ensures)
          c.new.ensures.comm c.new.ensures.round c.new.ensures.side c.new.ensures.none c.new.ensures.first,
    )

pub returns : goal.returns
returns g c =
    let name = over g.P.Packed.pack (g.W.Words.name c.args.words.now) in
    let limits = (g.W.Words.name c.args.words.now).limits in
    let polls = c.requires.polls in
    let just = c.requires.just in
    let now = g.W.Words.sight c.args.pass.now in
    let here = just_fits g.P.Meld.meld false name c.args.asked.now just.0 just.1 c.args.self.now now just.2 c.requires.of in
    let held = ap (held_at c.args.self.now) (sym c.comm_of-comm.ensures) ∙ c.held_comm-x.ensures in
    let member = (holds g.P.Meld.meld limits now.seen c.args.self.now c.comm_of-comm.result _ here c.held_comm-x.ensures).member in
    let open_is = sym (ap (λ (y : Held). y.request) c.x.view_is) ∙ c.in-Some.ensures in
    record {
      next = Goes (Peeking c.new.result c.in-Some.shrinks);
      mid = c.args.self.now;
      behind = record {
        further = omega arith;
        nearer = peeking_after limits c.args.self.now c.args.asked.now g.P.Meld.meld now.seen c.requires.of.legal here.seen
            c.requires.of.may_open.in_range.some_comms (passes_none c.args.self.now c.args.asked.now c.requires.passes)
            polls.0 polls.1 c.held_comm-x.result.now polls.2 held c.in-Some.round c.in-Some.shrinks c.new.result open_is (some_member _ _ member);
        also = follows_peeks limits c.args.self.now c.args.asked.now polls.0 polls.1 polls.2 (passes_none c.args.self.now c.args.asked.now c.requires.passes)
            c.held_comm-x.result.now held c.in-Some.round c.in-Some.shrinks c.new.result open_is
            (c.new.ensures.comm ∙ c.comm_of-comm.ensures) c.new.ensures.round c.new.ensures.side (some_member _ _ member);
        knows = λ cached. knows_none cached c.new.result.comm c.new.result.round c.new.result.blocks c.new.ensures.none;
        turns = λ prepared alone old before j.
            ready_peeking g.P.Meld.meld alone name c.args.asked.now old before c.args.self.now now j c.requires.of prepared c.held_comm-x.result.now
            c.comm_of-comm.result c.held_comm-x.ensures c.comm_of-comm.ensures polls.0 polls.1 polls.2 c.new.result c.in-Some.shrinks c.in-Some.round open_is
            c.new.ensures.comm c.new.ensures.round c.new.ensures.side c.new.ensures.none c.new.ensures.first;
      };
      runs = c.run_peeking.ensures;
    }

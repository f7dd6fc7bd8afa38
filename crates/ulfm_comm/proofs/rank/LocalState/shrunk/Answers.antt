use Rattle.std.proofs.Common.{◌≡◌, Some, ap, sym, ◌∙◌, subst, false, arith}
use Rattle.ulfm_words.specs.Steps.{over}
use Rattle.std.specs.List.Sorted.{IsStrictlyIncreasing}
use Rattle.ulfm_model.specs.Answers.{closed}
use Rattle.ulfm_model.specs.Records.{Held, Record, held_at}
use Rattle.ulfm_model.specs.Terms.{comm_of}
use Rattle.ulfm_steps.specs.ReadsOn.{AtFailure}
use Rattle.ulfm_comm.proofs.AlsoLeft.{also_reached}
use Rattle.ulfm_comm.proofs.Agreement.{polls_stand}
use Rattle.ulfm_comm.proofs.Spawning.{decided_first, ends_mismatch, ends_no_context, group_goes_up, reached_first}
use Rattle.ulfm_comm.proofs.rank.LocalState.shrunk.Goals as goal
use Rattle.ulfm_comm.proofs.rank.LocalState.shrunk.Goals.{After-deref, After-new-on}

pub returns-in_default : goal.returns-in_default
returns-in_default g c =
    record {
      further = tt;
      nearer = tt;
      also = omega arith;
      sees = ap (λ (w : Record). w.seen) c.close.ensures;
      past = tt;
      turns = λ alone old before r.
          ends_mismatch g.P.Meld.meld alone (over g.P.Packed.pack (g.W.Words.name c.args.words.now)) c.args.asked.now c.args.round c.args.all old before c.args.self.now
          (g.W.Words.sight c.args.pass.now) c.requires.of r
          c.close.new.self c.in_default.not-Ctx (c.close.ensures ∙ ap (closed c.args.self.now) c.comm_of-comm.ensures);
    }

pub returns-then-mask-eq0-clause-turns : goal.returns-then-mask-eq0-clause-turns
returns-then-mask-eq0-clause-turns g c = λ alone old before r.
    ends_no_context g.P.Meld.meld alone (over g.P.Packed.pack (g.W.Words.name c.args.words.now)) c.args.asked.now c.args.round c.args.all old before c.args.self.now
    (g.W.Words.sight c.args.pass.now) c.requires.of r
    c.in-Ctx.mask c.close-then-mask-eq0.new.self c.in-Ctx.is c.if-mask-eq0.true (c.close-then-mask-eq0.ensures ∙ ap (closed c.args.self.now)
    c.comm_of-comm.ensures)

-- the members of what the rank holds
group_is : (g : _) (c : After-deref g) → (x : Held) → held_at c.args.self.now (comm_of c.args.asked.now) ≡ Some x → c.deref.result.now ≡ x.group
group_is g c x held =
    let found = sym (ap (held_at c.args.self.now) c.comm_of-comm.ensures) ∙ c.held_comm-x.ensures in
    let same : c.held_comm-x.result.now ≡ x = cc (found, held) in
    c.deref.ensures.value ∙ ap (λ (y : Held). y.group) (c.x.view_is ∙ same)

pub new-on-requires : goal.new-on-requires
new-on-requires g c =
    let read = c.requires.read in
    let r = read.2 in
    let rises = group_goes_up g.P.Meld.meld false (over g.P.Packed.pack (g.W.Words.name c.args.words.now)) c.args.asked.now c.args.round c.args.all read.0 read.1 c.args.self.now
    (g.W.Words.sight c.args.pass.now) c.requires.of r in
    subst IsStrictlyIncreasing (sym (group_is g (goal.at.new-on-requires g c).After-deref r.x r.marked.since.held)) rises

-- how far the failures that were seen reach
at_failure : (g : _) (c : After-new-on g) → (x : Held) → c.deref.result.now ≡ x.group
    → AtFailure x.group c.args.all.known.count c.new-on.result c.args.self.now.seen
at_failure g c x group =
    subst (λ ms. AtFailure ms c.args.all.known.count c.new-on.result c.args.self.now.seen) group
    (subst (AtFailure c.deref.result.now c.args.all.known.count c.new-on.result) c.failures.ensures c.new-on.ensures)

pub returns-then-on-count-clause-turns : goal.returns-then-on-count-clause-turns
returns-then-on-count-clause-turns g c = λ alone old before r.
    let some = c.if-mask-eq0.false in
    polls_stand r.on.fits r.on.polls r.on.onward (
      r.on.polls,
      r.x,
      decided_first g.P.Meld.meld alone (over g.P.Packed.pack (g.W.Words.name c.args.words.now)) c.args.asked.now c.args.round c.args.all old before c.args.self.now
          (g.W.Words.sight c.args.pass.now) c.requires.of r c.in-Ctx.mask c.in-Ctx.is (omega (arith, some)),
      at_failure g (goal.at.returns-then-on-count-clause-turns g c).After-new-on r.x
          (group_is g (goal.at.returns-then-on-count-clause-turns g c).After-deref r.x r.marked.since.held),
      c.if-on-count.true,
    )

pub reached-requires-clause-reached : goal.reached-requires-clause-reached
reached-requires-clause-reached g c =
    let read = c.requires.read in
    let r = read.2 in
    let some = c.if-mask-eq0.false in (
      read.0,
      read.1,
      reached_first g.P.Meld.meld false (over g.P.Packed.pack (g.W.Words.name c.args.words.now)) c.args.asked.now c.args.round c.args.all read.0 read.1 c.args.self.now
          (g.W.Words.sight c.args.pass.now) c.requires.of r c.in-Ctx.mask c.new-on.result
          c.in-Ctx.is (omega (arith, some)) (at_failure g (goal.at.reached-requires-clause-reached g c).After-new-on r.x
          (group_is g (goal.at.reached-requires-clause-reached g c).After-deref r.x r.marked.since.held)) c.if-on-count.false,
    )

pub returns-clause-turns : goal.returns-clause-turns
returns-clause-turns g c = λ alone old before r.
    let some = c.if-mask-eq0.false in
    c.reached.ensures.turns alone old before
    (reached_first g.P.Meld.meld alone (over g.P.Packed.pack (g.W.Words.name c.args.words.now)) c.args.asked.now c.args.round c.args.all old before c.args.self.now
    (g.W.Words.sight c.args.pass.now) c.requires.of r c.in-Ctx.mask c.new-on.result
    c.in-Ctx.is (omega (arith, some)) (at_failure g (goal.at.returns-clause-turns g c).After-new-on r.x
    (group_is g (goal.at.returns-clause-turns g c).After-deref r.x r.marked.since.held)) c.if-on-count.false)

pub returns-clause-also : goal.returns-clause-also
returns-clause-also g c = also_reached (g.W.Words.name c.args.words.now).limits c.reached.new.self c.args.asked.now c.reached.result
    c.reached.ensures.further c.reached.ensures.nearer

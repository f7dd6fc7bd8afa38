use Rattle.std.proofs.Common.{◌≡◌, false, refl, ◌∙◌, arith}
use Rattle.ulfm_words.proofs.Trails.{did_prefix}
use Rattle.ulfm_words.specs.Steps.{over, view_of}
use Rattle.ulfm_model.specs.declared.place.Place.TheVariants.{Slot as SlotAt}
use Rattle.std.specs.List.{slice_index}
use Rattle.ulfm_steps.specs.{Marks.{HasMarked}, Turns.{IsOneStep}}
use Rattle.ulfm_steps.proofs.Marking.{marked_none, marked_push, marks_turn, may_stays}
use Rattle.ulfm_steps.proofs.blocks.MarkAll.advance.Goals as goal
use Rattle.ulfm_steps.proofs.blocks.MarkAll.advance.Goals.{After-step}
use Rattle.ulfm_steps.specs.Among.{among}

pub loop-self-init : goal.loop-self-init
loop-self-init g c =
    record {
      rank = refl;
      comm = refl;
      round = refl;
      may = c.requires.may;
      at = c.requires.at;
      onward = omega arith;
      more = λ lt. absurd (omega arith);
      first = λ _. refl;
      none = λ _. refl;
      same = λ _. (refl, refl);
      marked = marked_none g.P.Meld.meld g.W.Words.alone (over g.P.Packed.pack (g.W.Words.name c.args.words.now)) c.args.self.now c.args.group.now c.args.declared.now (g.W.Words.sight c.args.pass.now) c.requires.of;
    }

-- one more was marked
marked : (g : _) (c : After-step g) → HasMarked g.P.Meld.meld g.W.Words.alone c.args.self.now (among c.args.group.now c.args.declared.now) c.step.new.self.next (view_of g.P.Packed.pack (g.W.Words.name c.args.words.now) (g.W.Words.sight c.args.pass.now)) (view_of g.P.Packed.pack (g.W.Words.name c.args.words.now) (g.W.Words.sight c.step.new.pass))
marked g c =
    let inv = c.loop-self.invariant in
    let e = c.step.ensures in
    marked_push g.P.Meld.meld g.W.Words.alone (over g.P.Packed.pack (g.W.Words.name c.args.words.now)) c.args.self.now c.loop-self.self c.step.new.self c.args.group.now c.args.declared.now (g.W.Words.sight c.args.pass.now) (g.W.Words.sight c.loop-self.pass) (g.W.Words.sight c.step.new.pass)
    inv.rank inv.comm inv.round inv.may.begins c.loop-self-test.true e.further inv.marked e.marks

pub loop-self-preserved : goal.loop-self-preserved
loop-self-preserved g c =
    let at = (goal.at.loop-self-preserved g c).After-step in
    let now = (g.W.Words.sight c.loop-self.pass).seen in
    let after = (g.W.Words.sight c.step.new.pass).seen in
    let e = c.step.ensures in
    let inv = c.loop-self.invariant in
    record {
      rank = e.rank ∙ inv.rank;
      comm = e.comm ∙ inv.comm;
      round = e.round ∙ inv.round;
      may = rw (e.comm, e.round) (may_stays (g.W.Words.name c.args.words.now).limits now after c.loop-self.self.comm c.loop-self.self.round c.args.group.now c.args.declared.now (did_prefix g.W.Words.alone _ now after e.marks.marks.did) inv.may);
      at = e.at;
      onward = omega (arith, inv.onward, e.onward);
      more = λ _. omega (arith, inv.marked.marks.onward, e.takes.some);
      first = λ not. absurd (cc (not, c.if-not-whole.false));
      none = λ not. absurd (cc (not, c.if-not-whole.false));
      same = λ not. absurd (cc (not, c.if-not-whole.false));
      marked = marked g at;
    }

pub returns-then-not-whole-clause-marks : goal.returns-then-not-whole-clause-marks
returns-then-not-whole-clause-marks g c = marked g (goal.at.returns-then-not-whole-clause-marks g c).After-step

pub returns-then-not-whole-clause-once : goal.returns-then-not-whole-clause-once
returns-then-not-whole-clause-once g c = λ not.
    let same = c.loop-self.invariant.same not in
    rw (same.0, same.1) at c.step.ensures.once

-- the first step is at the next member's place
first : (g : _) (c : After-step g) → c.args.whole ≡ false → IsOneStep (SlotAt c.args.self.now.comm c.args.self.now.round (slice_index c.args.declared.now c.args.self.now.next)) false (g.W.Words.sight c.args.pass.now) (g.W.Words.sight c.step.new.pass)
first g c = λ not.
    let same = c.loop-self.invariant.same not in
    rw (same.0, same.1) at (c.step.ensures.takes.one refl)

pub returns-then-not-whole-clause-takes : goal.returns-then-not-whole-clause-takes
returns-then-not-whole-clause-takes g c =
    let at = (goal.at.returns-then-not-whole-clause-takes g c).After-step in
    let inv = c.loop-self.invariant in
    record {
      one = first g at;
      some = omega (arith, inv.marked.marks.onward, c.step.ensures.takes.some);
      turns =
          marks_turn g.P.Meld.meld g.W.Words.alone (over g.P.Packed.pack (g.W.Words.name c.args.words.now)) c.args.self.now c.args.group.now c.args.declared.now c.step.new.self.next (g.W.Words.sight c.args.pass.now) (g.W.Words.sight c.step.new.pass) (marked g at);
    }

pub returns-clause-takes : goal.returns-clause-takes
returns-clause-takes g c =
    let inv = c.loop-self.invariant in
    record {
      one = λ not. absurd (omega (arith, c.requires.more, c.loop-self-test.false, inv.first not));
      some = inv.more (omega (arith, c.requires.more, c.loop-self-test.false));
      turns =
          marks_turn g.P.Meld.meld g.W.Words.alone (over g.P.Packed.pack (g.W.Words.name c.args.words.now)) c.args.self.now c.args.group.now c.args.declared.now c.loop-self.self.next (g.W.Words.sight c.args.pass.now) (g.W.Words.sight c.loop-self.pass) inv.marked;
    }

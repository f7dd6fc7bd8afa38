use Rattle.std.proofs.Common.{◌≡◌, refl, ap, sym, ◌∙◌, arith, true, false, rules, length}
use Rattle.ulfm_model.specs.declared.block.Side.TheVariants.{Back, Front}
use Rattle.ulfm_model.proofs.Blocks.{has_block_stays}
use Rattle.ulfm_words.specs.Steps.{over, view_of}
use Rattle.ulfm_steps.specs.{Blocks.{FindsSet, block_at, peek_site, peeks_after, peeks_left}, Rounds.{round_on}}
use Rattle.ulfm_steps.proofs.{Going.{Went, same_round, went_most, went_on}, InBlocks.{peeks_most}, Peeking.{finds_front}, Turning.{takes_on_at}}
use Rattle.ulfm_steps.proofs.blocks.Peek.advance.Goals as goal
use Rattle.ulfm_steps.proofs.blocks.Peek.advance.Goals.{After-step-done}

-- the steps that were made, and this one
went : (g : _) (c : After-step-done g) → Went g.P.Meld.meld g.W.Words.alone false (view_of g.P.Packed.pack (g.W.Words.name c.args.words.now) (g.W.Words.sight c.args.pass.now)) (view_of g.P.Packed.pack (g.W.Words.name c.args.words.now) (g.W.Words.sight c.step-done.new.pass))
went g c = went_on g.P.Meld.meld g.W.Words.alone false (over g.P.Packed.pack (g.W.Words.name c.args.words.now)) _ (g.W.Words.sight c.args.pass.now) (g.W.Words.sight c.loop-whole.pass) (g.W.Words.sight c.step-done.new.pass) c.loop-whole.invariant.went c.step-done.ensures.goes

-- a front block that was set before was found set
found_front : (g : _) (c : After-step-done g) → c.args.self.now.side ≡ Front → c.step-done.new.self.side ≡ Back → FindsSet (g.W.Words.sight c.args.pass.now).cached c.step-done.new.self Front
found_front g c front back =
    let inv = c.loop-whole.invariant in
    let e = c.step-done.ensures in
    finds_front (g.W.Words.sight c.args.pass.now).cached (g.W.Words.sight c.loop-whole.pass).cached c.args.self.now c.loop-whole.self c.step-done.new.self inv.same.comm inv.same.round inv.went.cached front back inv.front e.front e.kept e.comm e.round

pub returns-then-not-whole : goal.returns-then-not-whole
returns-then-not-whole g c =
    let at = (goal.at.returns-then-not-whole g c).After-step-done in
    let inv = c.loop-whole.invariant in
    let e = c.step-done.ensures in
    let group = c.args.group.now in
    let first = c.args.self.now in
    let r = c.loop-whole.self in
    let x = g.W.Words.sight c.args.pass.now in
    let y = g.W.Words.sight c.loop-whole.pass in
    let z = g.W.Words.sight c.step-done.new.pass in
    let most = peeks_most (length group) first in
    record {
      goes = went_most g.P.Meld.meld g.W.Words.alone false (over g.P.Packed.pack (g.W.Words.name c.args.words.now)) _ x z (went g at) (omega (arith, inv.left, e.takes.turns, most));
      takes =
          takes_on_at c.args.whole (peek_site first) (peek_site r) true true (peeks_left (length group) first) (peeks_left (length group) r)
          (peeks_after c.step-done.result (length group) c.step-done.new.self) x y z
          (λ single. let same = inv.turn single in (sym (inv.first single), ap peek_site same, refl)) inv.went.onward inv.left e.takes;
      comm = e.comm ∙ inv.same.comm;
      round = e.round ∙ inv.same.round;
      are = rw (inv.same.comm, inv.same.round) at e.are;
      some = e.some;
      first = e.first;
      ends = search rules;
      front = found_front g at;
      onward = λ back. e.onward (inv.onward back);
      last = e.last;
      back = λ whole apart has. e.back whole apart (has_block_stays x.cached y.cached (block_at c.step-done.new.self.comm c.step-done.new.self.round Back) inv.went.cached has);
      kept = λ back. e.kept (inv.onward back) ∙ inv.kept back;
      sets = λ are. (rw (inv.same.comm, inv.same.round) at e.sets) (inv.sets are);
    }

pub loop-whole-preserved : goal.loop-whole-preserved
loop-whole-preserved g c =
    let at = (goal.at.loop-whole-preserved g c).After-step-done in
    let inv = c.loop-whole.invariant in
    let e = c.step-done.ensures in
    record {
      went = went g at;
      same = same_round g.P.Meld.meld g.W.Words.alone false (over g.P.Packed.pack (g.W.Words.name c.args.words.now)) _ (g.W.Words.sight c.loop-whole.pass) (g.W.Words.sight c.step-done.new.pass) (round_on c.args.self.now.comm c.args.self.now.round) (round_on c.loop-whole.self.comm c.loop-whole.self.round) (round_on c.step-done.new.self.comm c.step-done.new.self.round) c.args.group.now inv.same e.goes e.comm e.round;
      some = e.some c.if-done.false;
      half = e.first c.if-done.false;
      are = rw (e.comm, e.round) e.are;
      front = found_front g at;
      onward = λ back. e.onward (inv.onward back);
      kept = λ back. e.kept (inv.onward back) ∙ inv.kept back;
      sets = λ are. (rw (inv.same.comm, inv.same.round) at e.sets) (inv.sets are);
      first = λ not. absurd (cc (not, c.if-not-whole.false));
      turn = λ not. absurd (cc (not, c.if-not-whole.false));
      left = let turns = (rw c.if-done.false at e.takes).turns in omega (arith, inv.left, turns);
    }

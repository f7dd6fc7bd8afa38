use Rattle.std.proofs.Common.{◌≡◌, None, true, length, ap, sym, ◌∙◌, arith, nat_lt, rules}
use Rattle.ulfm_model.proofs.Lists.{none_of}
use Rattle.ulfm_words.specs.Steps.{over, view_of}
use Rattle.ulfm_steps.specs.Blocks.{blocks_left, site_of}
use Rattle.ulfm_steps.specs.{Rounds.{round_on}, Turns.{left_without}}
use Rattle.ulfm_steps.proofs.{Going.{Went, same_round, went_most, went_on}, InBlocks.{blocks_most}, Turning.{takes_on_at}}
use Rattle.ulfm_steps.proofs.blocks.ReadBlocks.advance.Goals as goal
use Rattle.ulfm_steps.proofs.blocks.ReadBlocks.advance.Goals.{After-step-found}

-- the steps that were made, and this one
went : (g : _) (c : After-step-found g) → Went g.P.Meld.meld g.W.Words.alone true (view_of g.P.Packed.pack (g.W.Words.name c.args.words.now) (g.W.Words.sight c.args.pass.now)) (view_of g.P.Packed.pack (g.W.Words.name c.args.words.now) (g.W.Words.sight c.step-found.new.pass))
went g c = went_on g.P.Meld.meld g.W.Words.alone true (over g.P.Packed.pack (g.W.Words.name c.args.words.now)) _ (g.W.Words.sight c.args.pass.now) (g.W.Words.sight c.loop-found.pass) (g.W.Words.sight c.step-found.new.pass) c.loop-found.invariant.went c.step-found.ensures.goes

pub returns-then-not-whole : goal.returns-then-not-whole
returns-then-not-whole g c =
    let inv = c.loop-found.invariant in
    let e = c.step-found.ensures in
    let group = c.args.group.now in
    let r = c.loop-found.self in
    let first = c.args.self.now in
    record {
      goes =
          went_most g.P.Meld.meld g.W.Words.alone true (over g.P.Packed.pack (g.W.Words.name c.args.words.now)) _ (g.W.Words.sight c.args.pass.now) (g.W.Words.sight c.step-found.new.pass) (went g (goal.at.returns-then-not-whole g c).After-step-found)
          (omega (arith, inv.steps, e.takes.turns, blocks_most (length group) first));
      takes =
          takes_on_at c.args.whole (site_of group first) (site_of group r) (nat_lt first.read first.width) (nat_lt r.read r.width) (blocks_left (length group) first) (blocks_left (length group) r)
          (left_without c.step-found.result (blocks_left (length group) c.step-found.new.self)) (g.W.Words.sight c.args.pass.now) (g.W.Words.sight c.loop-found.pass) (g.W.Words.sight c.step-found.new.pass)
          (λ single. let same = inv.turn single in (sym (inv.first single), ap (site_of group) same, ap (λ x. nat_lt x.read x.width) same)) inv.went.onward inv.steps e.takes;
      comm = e.comm ∙ inv.same.comm;
      round = e.round ∙ inv.same.round;
      tells = e.tells;
      half = e.half;
      sets = λ are. e.sets (inv.sets are);
      ends = search rules;
    }

pub loop-found-preserved : goal.loop-found-preserved
loop-found-preserved g c =
    let inv = c.loop-found.invariant in
    let e = c.step-found.ensures in
    let going : c.step-found.result ≡ None = none_of c.step-found.result (sym c.is_some.ensures ∙ c.if-is_some.false) in
    let tells = rw going at e.tells in
    let turns = (rw going at e.takes).turns in
    record {
      went = went g (goal.at.loop-found-preserved g c).After-step-found;
      same = same_round g.P.Meld.meld g.W.Words.alone true (over g.P.Packed.pack (g.W.Words.name c.args.words.now)) _ (g.W.Words.sight c.loop-found.pass) (g.W.Words.sight c.step-found.new.pass) (round_on c.args.self.now.comm c.args.self.now.round) (round_on c.loop-found.self.comm c.loop-found.self.round) (round_on c.step-found.new.self.comm c.step-found.new.self.round) c.args.group.now inv.same e.goes e.comm e.round;
      at = tells;
      half = e.half going;
      sets = λ are. (rw going at e.sets) (inv.sets are);
      first = λ not. absurd (cc (not, c.if-not-whole.false));
      turn = λ not. absurd (cc (not, c.if-not-whole.false));
      steps = omega (arith, inv.steps, turns);
    }

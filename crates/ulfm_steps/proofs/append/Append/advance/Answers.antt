use Rattle.std.proofs.Common.{◌≡◌, ◌*◌, not, false, None, subst, ap, sym, ◌∙◌, arith}
use Rattle.ulfm_model.proofs.Lists.{none_of}
use Rattle.ulfm_words.specs.Steps.{over, view_at, Goes}
use Rattle.ulfm_words.proofs.Trails.{did_prefix}
use Rattle.ulfm_steps.specs.{Appends.{HasRound, place_at, room, turns_left}, Turns.{TakesFirst, left_without}, declared.append.Append.{Append}}
use Rattle.ulfm_steps.proofs.{Appending.{append_stays, appends_next, turns_most, turns_some}, Going.{went_on}, Turning.{takes_on}}
use Rattle.ulfm_steps.proofs.append.Append.advance.Goals as goal
use Rattle.ulfm_steps.proofs.append.Append.advance.Goals.{After-step-end}

pub step-end-requires : goal.step-end-requires
step-end-requires g c =
    let inv = c.loop-end.invariant in
    record { of = inv.went.of; may = inv.may; round = subst (HasRound (g.W.Words.name c.args.words.now).limits) (sym inv.item) c.requires.round; passed = inv.passed; more = inv.within }

pub returns-then-not-whole-clause-goes : goal.returns-then-not-whole-clause-goes
returns-then-not-whole-clause-goes g c =
    let name = over g.P.Packed.pack (g.W.Words.name c.args.words.now) in
    let inv = c.loop-end.invariant in
    let places = room c.args.self.now.item name.limits in
    let some = turns_some (room c.loop-end.self.item name.limits) c.loop-end.self inv.within in
    let few = turns_most places c.args.self.now in
    appends_next g.P.Meld.meld g.W.Words.alone name c.args.self.now.item c.args.self.now.by (2 * places) c.step-end.result (g.W.Words.sight c.args.pass.now) (g.W.Words.sight c.loop-end.pass) (g.W.Words.sight c.step-end.new.pass)
    inv.went (omega (arith, some, few, inv.steps)) (rw (← inv.item, ← inv.by) c.step-end.ensures.goes)

pub returns-then-not-whole-clause-passed : goal.returns-then-not-whole-clause-passed
returns-then-not-whole-clause-passed g c = rw (← c.loop-end.invariant.item) c.step-end.ensures.passed

pub loop-end-preserved : goal.loop-end-preserved
loop-end-preserved g c =
    let name = over g.P.Packed.pack (g.W.Words.name c.args.words.now) in
    let now = (g.W.Words.sight c.loop-end.pass).seen in
    let after = (g.W.Words.sight c.step-end.new.pass).seen in
    let inv = c.loop-end.invariant in
    let e = c.step-end.ensures in
    let going : c.step-end.result ≡ None = none_of c.step-end.result (sym c.is_some.ensures ∙ c.if-is_some.false) in
    let went : Goes g.P.Meld.meld g.W.Words.alone false 1 (view_at name (g.W.Words.sight c.loop-end.pass)) (view_at name (g.W.Words.sight c.step-end.new.pass)) = rw going at e.goes in
    let passed = rw going at e.passed in
    let within = rw going at e.within in
    let turns = (rw going at e.takes).turns in
    let same = e.same in
    record {
      item = same.0 ∙ inv.item;
      by = same.1 ∙ inv.by;
      went = went_on g.P.Meld.meld g.W.Words.alone false name _ (g.W.Words.sight c.args.pass.now) (g.W.Words.sight c.loop-end.pass) (g.W.Words.sight c.step-end.new.pass) inv.went went;
      may = rw same.0 (append_stays g.P.Meld.meld name.limits now after c.loop-end.self.item (did_prefix g.W.Words.alone _ now after went.did) inv.may);
      passed = rw same.0 passed;
      within = rw same.0 within;
      first = λ not. absurd (cc (not, c.if-not-whole.false));
      turn = λ not. absurd (cc (not, c.if-not-whole.false));
      steps = rw same.0 (omega (arith, inv.steps, turns));
    }

pub returns-then-not-whole-clause-takes : goal.returns-then-not-whole-clause-takes
returns-then-not-whole-clause-takes g c =
    let inv = c.loop-end.invariant in
    let limits = (g.W.Words.name c.args.words.now).limits in
    let a = c.loop-end.self in
    let first = c.args.self.now in
    takes_on c.args.whole (place_at first.item first.index) (place_at a.item a.index) (not first.empty) (not a.empty) (turns_left (room first.item limits) first) (turns_left (room a.item limits) a)
    (left_without c.step-end.result (turns_left (room first.item limits) c.step-end.new.self)) (g.W.Words.sight c.args.pass.now) (g.W.Words.sight c.loop-end.pass) (g.W.Words.sight c.step-end.new.pass)
    (λ single. let same = inv.turn single in (sym (inv.first single), ap (λ (x : Append). place_at x.item x.index) same, ap (λ (x : Append). not x.empty) same)) inv.went.onward inv.steps
    (subst (λ i. TakesFirst false (place_at a.item a.index) (not a.empty) (turns_left (room a.item limits) a) (left_without c.step-end.result (turns_left (room i limits) c.step-end.new.self)) (g.W.Words.sight c.loop-end.pass) (g.W.Words.sight c.step-end.new.pass)) inv.item c.step-end.ensures.takes)

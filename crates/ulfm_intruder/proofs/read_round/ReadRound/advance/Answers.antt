use Rattle.std.proofs.Common.{◌≡◌, ◌+◌, ◌≤◌, ◌<◌, [], if◌then◌else◌, ap, sym, subst, ◌∙◌, arith}
use Rattle.std.specs.Prelude.{MatchBool}
use Rattle.ulfm_model.proofs.Lists.{prefix_trans}
use Rattle.ulfm_words.proofs.Trails.{did_prefix, did_wait}
use Rattle.ulfm_steps.proofs.Reading.{round_stays}
use Rattle.ulfm_intruder.specs.Readings.{halves_read, read_site, reads_left}
use Rattle.ulfm_intruder.proofs.Halves.{takes_behind}
use Rattle.ulfm_intruder.proofs.read_round.ReadRound.advance.Goals as goal

pub loop-reading-preserved : goal.loop-reading-preserved
loop-reading-preserved g c =
    let first = (g.W.Words.sight c.args.pass.now).seen in
    let now = (g.W.Words.sight c.loop-reading.pass).seen in
    let after = (g.W.Words.sight c.step-settled.new.pass).seen in
    let e = c.step-settled.ensures.reads in
    let inv = c.loop-reading.invariant in
    let next = c.step-settled.new.self in
    let further : halves_read c.loop-reading.reading < halves_read next = subst (λ b. MatchBool b (halves_read c.loop-reading.reading < halves_read next) (next ≡ c.loop-reading.reading)) c.if-not-settled.false c.step-settled.ensures.further in
    let turns = subst (λ b. (g.W.Words.sight c.step-settled.new.pass).steps + (if b then reads_left c.args.group.now next else 0) ≤ (g.W.Words.sight c.loop-reading.pass).steps + reads_left c.args.group.now c.loop-reading.reading) c.if-not-settled.false e.takes.turns in
    record {
      of = e.goes.of;
      did = did_wait g.W.Words.alone [] first now after inv.did e.goes.did;
      cached = prefix_trans _ _ _ inv.cached e.goes.cached;
      caches = e.goes.caches ∙ inv.caches;
      comm = e.comm ∙ inv.comm;
      round = e.round ∙ inv.round;
      round_of = rw (e.comm, e.round) (round_stays (g.W.Words.name c.args.words.now).limits now after c.loop-reading.reading.comm c.loop-reading.reading.round c.args.group.now (did_prefix g.W.Words.alone [] now after e.goes.did) inv.round_of);
      onward = omega (arith, inv.onward, further);
      within = e.within;
      read = rw (e.comm, e.round) e.read;
      holds = e.first;
      forward = omega (arith, inv.forward, e.goes.onward);
      steps = omega (arith, inv.steps, turns);
      some = λ _. omega (arith, inv.forward, e.takes.some);
      first = λ not. absurd (cc (not, c.if-not-whole.false));
      turn = λ not. absurd (cc (not, c.if-not-whole.false));
    }

pub returns-then-not-settled-clause-reads : goal.returns-then-not-settled-clause-reads
returns-then-not-settled-clause-reads g c =
    let first = (g.W.Words.sight c.args.pass.now).seen in
    let now = (g.W.Words.sight c.loop-reading.pass).seen in
    let after = (g.W.Words.sight c.step-settled.new.pass).seen in
    let group = c.args.group.now in
    let r = c.loop-reading.reading in
    let start = c.args.self.now in
    let e = c.step-settled.ensures.reads in
    let inv = c.loop-reading.invariant in
    record {
      goes = record {
        of = e.goes.of;
        did = did_wait g.W.Words.alone [] first now after inv.did e.goes.did;
        cached = prefix_trans _ _ _ inv.cached e.goes.cached;
        caches = e.goes.caches ∙ inv.caches;
        onward = omega (arith, inv.forward, e.goes.onward);
        steps = omega (arith, inv.steps, e.takes.turns);
      };
      takes =
          takes_behind c.args.whole (read_site group start) (read_site group r) (reads_left group start) (reads_left group r)
          (if c.step-settled.result then reads_left group c.step-settled.new.self else 0) (g.W.Words.sight c.args.pass.now) (g.W.Words.sight c.loop-reading.pass) (g.W.Words.sight c.step-settled.new.pass)
          (λ single. (sym (inv.first single), ap (read_site group) (inv.turn single))) inv.forward inv.steps e.takes;
      comm = e.comm ∙ inv.comm;
      round = e.round ∙ inv.round;
      read = rw (← inv.comm, ← inv.round) e.read;
      first = e.first;
      missing = rw (← inv.comm, ← inv.round) e.missing;
      within = e.within;
    }

pub returns-clause-reads : goal.returns-clause-reads
returns-clause-reads g c =
    let inv = c.loop-reading.invariant in
    let read : c.args.self.now.read < c.loop-reading.reading.read = omega (arith, c.requires.more, c.loop-reading-test.false) in
    record {
      goes = record { of = inv.of; did = inv.did; cached = inv.cached; caches = inv.caches; onward = inv.forward; steps = omega (arith, inv.steps) };
      takes = record { one = λ single. absurd (omega (arith, read, ap (λ r. r.read) (inv.turn single))); some = inv.some read; turns = inv.steps };
      comm = inv.comm;
      round = inv.round;
      read = rw (← inv.comm, ← inv.round) inv.read;
      within = inv.within;
      first = inv.holds;
      missing = tt;
    }

use Rattle.std.proofs.Common.{ℕ, ◌+◌, ◌<◌, ◌≤◌, true, false, length, slice_index_or, take, ap, subst, ◌∙◌, IfSome, arith, rules}
use Rattle.ulfm_laws.specs.Summaries.{summary_meld}
use Rattle.ulfm_model.specs.{History.{slot}}
use Rattle.ulfm_model.proofs.Summed.{summed_later, summed_push}
use Rattle.ulfm_words.specs.{Blocks.{IsFirstOf}, Steps.{view_of, Goes}}
use Rattle.ulfm_words.proofs.Trails.{did_prefix}
use Rattle.ulfm_steps.specs.Turns.{TakesAt}
use Rattle.ulfm_steps.proofs.Reading.{has_at, member_within, missing_at, take_one_more}
use Rattle.ulfm_intruder.specs.Readings.{next_of, read_site, reads_left}
use Rattle.ulfm_intruder.proofs.Halves.{takes_first, takes_rest}
use Rattle.ulfm_intruder.proofs.read_round.ReadRound.step.Goals as goal
use Rattle.ulfm_intruder.proofs.read_round.ReadRound.step.Goals.{After-load_slot}

pub load_slot-requires-clause-within : goal.load_slot-requires-clause-within
load_slot-requires-clause-within g c =
    let old = (g.W.Words.sight c.args.pass.now).seen in
    member_within (g.W.Words.name c.args.words.now).limits g.P.Meld.meld old c.args.self.now.comm c.args.self.now.round (slice_index_or c.args.group.now c.args.self.now.read 0) c.args.group.now
    c.requires.may.of.legal c.requires.may.of.may_open c.requires.may.round (has_at c.args.group.now c.args.self.now.read 0 c.requires.more)

-- the load is a step of the reading
takes : (g : _) (c : After-load_slot g) (after : ℕ) → after + 1 ≤ reads_left c.args.group.now c.args.self.now
    → TakesAt false (read_site c.args.group.now c.args.self.now) true (reads_left c.args.group.now c.args.self.now) after (g.W.Words.sight c.args.pass.now) (g.W.Words.sight c.load_slot.new.pass)
takes g c after fewer =
    let r = c.args.self.now in
    let old = g.W.Words.sight c.args.pass.now in
    let new = g.W.Words.sight c.load_slot.new.pass in
    let l = c.load_slot.ensures.loads in
    takes_first c.args.group.now r (reads_left c.args.group.now r) after old new c.in-None.is
    (record { one = λ _. record { steps = l.steps; word = _; last = l.last }; some = omega (arith, l.steps); turns = omega (arith, l.steps, fewer) })

-- .. which makes no event
went : (g : _) (c : After-load_slot g) → Goes g.P.Meld.meld g.W.Words.alone false (reads_left c.args.group.now c.args.self.now) (view_of g.P.Packed.pack (g.W.Words.name c.args.words.now) (g.W.Words.sight c.args.pass.now)) (view_of g.P.Packed.pack (g.W.Words.name c.args.words.now) (g.W.Words.sight c.load_slot.new.pass))
went g c = let l = c.load_slot.ensures.loads in record { of = l.of; did = l.did; cached = l.cached; caches = l.caches; onward = omega (arith, l.steps); steps = rw c.in-None.is (omega (arith, l.steps, c.requires.more)) }

pub returns-in-Nothing-clause-reads : goal.returns-in-Nothing-clause-reads
returns-in-Nothing-clause-reads g c =
    let r = c.args.self.now in
    let old = (g.W.Words.sight c.args.pass.now).seen in
    let new = (g.W.Words.sight c.load_slot.new.pass).seen in
    record {
      goes = went g (goal.at.returns-in-Nothing-clause-reads g c).After-load_slot;
      takes = takes g (goal.at.returns-in-Nothing-clause-reads g c).After-load_slot 0 (rw c.in-None.is (omega (arith, c.requires.more)));
      comm = search rules;
      round = search rules;
      read = summed_later g.P.Meld.meld old new r.comm r.round (take r.read c.args.group.now) r.all (did_prefix g.W.Words.alone _ old new c.load_slot.ensures.loads.did) c.requires.may.read;
      first = rw c.in-None.is tt;
      missing = missing_at g.P.Packed.pack (g.W.Words.sight c.load_slot.new.pass) r.comm r.round r.read c.args.group.now c.requires.more c.in-Nothing.ensures.found c.load_slot.ensures.loads.last;
      within = omega (arith, c.requires.more);
    }

pub returns-in-Marked-clause-reads : goal.returns-in-Marked-clause-reads
returns-in-Marked-clause-reads g c =
    let old = (g.W.Words.sight c.args.pass.now).seen in
    let new = (g.W.Words.sight c.load_slot.new.pass).seen in
    let r = c.args.self.now in
    let done = take r.read c.args.group.now in
    let rank = slice_index_or c.args.group.now r.read 0 in
    let later = summed_later g.P.Meld.meld old new r.comm r.round done r.all (did_prefix g.W.Words.alone _ old new c.load_slot.ensures.loads.did) c.requires.may.read in
    let found = c.in-Marked.ensures.found in
    let more = summed_push g.P.Meld.meld g.met.P.Meld.lawful new r.comm r.round done r.all rank _ later found.1 in
    let is = c.meld-self.ensures ∙ ap (summary_meld g.P.Meld.meld r.all) found.2 in
    record {
      goes = went g (goal.at.returns-in-Marked-clause-reads g c).After-load_slot;
      takes = takes g (goal.at.returns-in-Marked-clause-reads g c).After-load_slot _ (rw c.in-None.is (omega (arith, c.requires.more)));
      comm = search rules;
      round = search rules;
      read = rw (is, take_one_more c.args.group.now r.read 0 c.requires.more) more;
      first = rw c.in-None.is tt;
      missing = search rules;
      within = omega (arith, c.requires.more);
    }

pub returns-in-First-clause-reads : goal.returns-in-First-clause-reads
returns-in-First-clause-reads g c =
    let r = c.args.self.now in
    let old = (g.W.Words.sight c.args.pass.now).seen in
    record {
      goes = went g (goal.at.returns-in-First-clause-reads g c).After-load_slot;
      takes = takes g (goal.at.returns-in-First-clause-reads g c).After-load_slot _ (rw c.in-None.is (omega (arith, c.requires.more)));
      comm = search rules;
      round = search rules;
      read = summed_later g.P.Meld.meld old (g.W.Words.sight c.load_slot.new.pass).seen r.comm r.round (take r.read c.args.group.now) r.all (did_prefix g.W.Words.alone _ old _ c.load_slot.ensures.loads.did) c.requires.may.read;
      first = (c.requires.more, c.in-First.ensures.found);
      missing = search rules;
      within = omega (arith, c.requires.more);
    }

pub load_rest-said-requires-clause-within : goal.load_rest-said-requires-clause-within
load_rest-said-requires-clause-within g c =
    let old = (g.W.Words.sight c.args.pass.now).seen in
    member_within (g.W.Words.name c.args.words.now).limits g.P.Meld.meld old c.args.self.now.comm c.args.self.now.round (slice_index_or c.args.group.now c.args.self.now.read 0) c.args.group.now
    c.requires.may.of.legal c.requires.may.of.may_open c.requires.may.round (has_at c.args.group.now c.args.self.now.read 0 c.requires.more)

pub load_rest-said-requires-clause-first : goal.load_rest-said-requires-clause-first
load_rest-said-requires-clause-first g c =
    let r = c.args.self.now in
    let group = c.args.group.now in
    let seen = (g.W.Words.sight c.args.pass.now).seen in
    (subst (λ o. IfSome o (λ word. (r.read < length group) × IsFirstOf g.P.Packed.pack (slot seen r.comm r.round (next_of group r)) word)) c.in-Some.is c.requires.may.first).1

pub returns-in-Some-clause-reads : goal.returns-in-Some-clause-reads
returns-in-Some-clause-reads g c =
    let r = c.args.self.now in
    let group = c.args.group.now in
    let before = g.W.Words.sight c.args.pass.now in
    let after = g.W.Words.sight c.load_rest-said.new.pass in
    let l = c.load_rest-said.ensures.loads.1 in
    let done = take r.read group in
    let rank = slice_index_or group r.read 0 in
    let later = summed_later g.P.Meld.meld before.seen after.seen r.comm r.round done r.all (did_prefix g.W.Words.alone _ before.seen after.seen l.did) c.requires.may.read in
    let said = c.load_rest-said.ensures.summary in
    let more = summed_push g.P.Meld.meld g.met.P.Meld.lawful after.seen r.comm r.round done r.all rank _ later said.1 in
    let is = c.meld-self-in-Some.ensures ∙ ap (summary_meld g.P.Meld.meld r.all) said.2 in
    record {
      goes = record { of = l.of; did = l.did; cached = l.cached; caches = l.caches; onward = omega (arith, l.steps); steps = rw c.in-Some.is (omega (arith, l.steps, c.requires.more)) };
      takes = takes_rest group r c.in-Some.first (reads_left group r) _ before after c.in-Some.is (record {
        one = λ _. record { steps = l.steps; word = c.load_rest-said.ensures.loads.0; last = l.last };
        some = omega (arith, l.steps);
        turns = rw c.in-Some.is (omega (arith, l.steps, c.requires.more));
      });
      comm = search rules;
      round = search rules;
      read = rw (is, take_one_more group r.read 0 c.requires.more) more;
      first = tt;
      missing = search rules;
      within = omega (arith, c.requires.more);
    }

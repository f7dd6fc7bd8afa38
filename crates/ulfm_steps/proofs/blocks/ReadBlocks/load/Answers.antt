use Rattle.std.proofs.Common.{ℕ, ◌+◌, ◌≤◌, false, true, nat_lt, ap, subst, arith, rules}
use Rattle.std.specs.Prelude.{length}
use Rattle.ulfm_model.specs.{History.{slot}, declared.{place.Place.TheVariants.{Slot as SlotAt}}}
use Rattle.ulfm_words.specs.{Blocks.{IsFirstOf}, Steps.{over, view_of, Goes}}
use Rattle.ulfm_words.proofs.{Trails.{did_prefix}, Tried.{tries_none}}
use Rattle.ulfm_steps.specs.{Blocks.{block_at, blocks_left, reads_most, site_of}, Turns.{TakesAt}}
use Rattle.ulfm_steps.proofs.{InBlocks.{are_later, at_block_later, rank_is, takes_member}, KnownBlocks.{set_later, spread_later}, OneMore.{next_cell, next_few, next_within, reads_one}, Reading.{missing_at}, Turning.{takes_load}}
use Rattle.ulfm_steps.proofs.blocks.ReadBlocks.load.Goals as goal
use Rattle.ulfm_steps.proofs.blocks.ReadBlocks.load.Goals.{After-load_slot}

pub overflow_add-rank : goal.overflow_add-rank
overflow_add-rank g c = let few = next_few g.P.Meld.meld c.args.group.now _ c.requires.may c.requires.more in omega (arith, few)

pub bounds-group-self : goal.bounds-group-self
bounds-group-self g c = next_within g.P.Meld.meld c.args.group.now _ c.requires.may c.requires.more

pub load_slot-requires-clause-within : goal.load_slot-requires-clause-within
load_slot-requires-clause-within g c = next_cell g.P.Meld.meld c.args.group.now _ c.requires.may c.requires.more

pub overflow_add-self : goal.overflow_add-self
overflow_add-self g c = let few = next_few g.P.Meld.meld c.args.group.now _ c.requires.may c.requires.more in omega (arith, few)

-- the load is a step of the reading
takes : (g : _) (c : After-load_slot g) (after : ℕ) → after + 1 ≤ blocks_left (length c.args.group.now) c.args.self.now
    → TakesAt false (site_of c.args.group.now c.args.self.now) (nat_lt c.args.self.now.read c.args.self.now.width) (blocks_left (length c.args.group.now) c.args.self.now) after (g.W.Words.sight c.args.pass.now) (g.W.Words.sight c.load_slot.new.pass)
takes g c after fewer =
    let r = c.args.self.now in
    let old = g.W.Words.sight c.args.pass.now in
    let new = g.W.Words.sight c.load_slot.new.pass in
    let before = blocks_left (length c.args.group.now) r in
    takes_member c.args.group.now r before after old new (omega (arith, c.requires.more, c.requires.may.at.wide)) c.requires.none
    (takes_load g.P.Meld.meld g.P.Packed.pack g.W.Words.alone (over g.P.Packed.pack (g.W.Words.name c.args.words.now)) _ old new _ before after c.load_slot.ensures.loads (ap (λ x. SlotAt r.comm r.round x) (rank_is g.P.Meld.meld old.seen c.args.group.now r c.requires.may.at)) fewer)

-- .. which makes no event
went : (g : _) (c : After-load_slot g) → Goes g.P.Meld.meld g.W.Words.alone true (reads_most (length c.args.group.now)) (view_of g.P.Packed.pack (g.W.Words.name c.args.words.now) (g.W.Words.sight c.args.pass.now)) (view_of g.P.Packed.pack (g.W.Words.name c.args.words.now) (g.W.Words.sight c.load_slot.new.pass))
went g c = let l = c.load_slot.ensures.loads in record { of = l.of; did = l.did; cached = l.cached; caches = tries_none _ _ l.caches; onward = omega (arith, l.steps); steps = omega (arith, l.steps) }

pub returns-in-Nothing : goal.returns-in-Nothing
returns-in-Nothing g c =
    let r = c.args.self.now in
    let lt = next_within g.P.Meld.meld c.args.group.now _ c.requires.may c.requires.more in
    record {
      goes = went g (goal.at.returns-in-Nothing g c).After-load_slot;
      takes = takes g (goal.at.returns-in-Nothing g c).After-load_slot 0 (rw c.requires.none (omega (arith, c.requires.more)));
      comm = search rules;
      round = search rules;
      tells = missing_at g.P.Packed.pack (g.W.Words.sight c.load_slot.new.pass) r.comm r.round (r.begin + r.read) c.args.group.now lt c.in-Nothing.ensures.found c.load_slot.ensures.loads.last;
      half = λ no. absurd (cc no);
      sets = λ are. tt;
      ends = search rules;
    }

pub returns-in-Marked : goal.returns-in-Marked
returns-in-Marked g c =
    let here = (goal.at.returns-in-Marked g c).After-load_slot in
    let found = c.in-Marked.ensures.found in
    reads_one g.P.Meld.meld g.met.P.Meld.lawful g.W.Words.alone (over g.P.Packed.pack (g.W.Words.name c.args.words.now)) (g.W.Words.sight c.args.pass.now) (g.W.Words.sight c.load_slot.new.pass) c.args.group.now c.args.self.now c.args.self.now.first c.requires.none c.requires.may c.requires.more
    _ found.1 _ found.2 _ c.meld-self.ensures (went g here) (takes g here _ (rw c.requires.none (omega (arith, c.requires.more))))

pub returns-in-First : goal.returns-in-First
returns-in-First g c =
    let meld = g.P.Meld.meld in
    let r = c.args.self.now in
    let group = c.args.group.now in
    let old = (g.W.Words.sight c.args.pass.now).seen in
    let new = (g.W.Words.sight c.load_slot.new.pass).seen in
    let loads = c.load_slot.ensures.loads in
    let begins = did_prefix g.W.Words.alone _ old new loads.did in
    record {
      goes = went g (goal.at.returns-in-First g c).After-load_slot;
      takes = takes g (goal.at.returns-in-First g c).After-load_slot _ (rw c.requires.none (omega (arith, c.requires.more)));
      comm = search rules;
      round = search rules;
      tells = let at = c.requires.may.at in record { are = are_later meld old new r.comm r.round group r.blocks begins at.are; unknown = at.unknown; side = at.side; front = at.front; wide = at.wide; begins = at.begins; within = at.within; read = (at_block_later meld old new group r begins at).read };
      half = λ _. record {
        first = subst (λ x. IsFirstOf g.P.Packed.pack (slot new r.comm r.round x) c.in-First.word) (rank_is meld old group r c.requires.may.at) c.in-First.ensures.found;
        more = λ _. c.requires.more;
        winged = λ set. spread_later (view_of g.P.Packed.pack (g.W.Words.name c.args.words.now) (g.W.Words.sight c.args.pass.now)) (view_of g.P.Packed.pack (g.W.Words.name c.args.words.now) (g.W.Words.sight c.load_slot.new.pass)) (block_at r.comm r.round r.side) loads.cached (c.requires.may.half.winged set);
      };
      sets = λ are. set_later (g.W.Words.sight c.args.pass.now).cached (g.W.Words.sight c.load_slot.new.pass).cached r.comm r.round r.blocks loads.cached are;
      ends = search rules;
    }

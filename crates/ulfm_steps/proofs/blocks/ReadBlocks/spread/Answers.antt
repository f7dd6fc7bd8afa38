use Rattle.std.proofs.Common.{true, arith, rules}
use Rattle.ulfm_words.specs.{Steps.{view_of}}
use Rattle.ulfm_words.proofs.{Trails.{did_prefix}, Tried.{tries_one}}
use Rattle.ulfm_steps.proofs.{InBlocks.{at_block_later, nothing_held, reads_within, takes_wing, writes}, KnownBlocks.{set_later}}
use Rattle.ulfm_model.specs.Blocks.{block_wing}
use Rattle.ulfm_steps.proofs.blocks.ReadBlocks.spread.Goals as goal

pub set_wing-requires-clause-within : goal.set_wing-requires-clause-within
set_wing-requires-clause-within g c = reads_within g.P.Meld.meld c.args.group.now _ c.requires.may

pub set_wing-requires-clause-may : goal.set_wing-requires-clause-may
set_wing-requires-clause-may g c = writes g.P.Meld.meld c.args.group.now _ (block_wing g.P.Packed.pack) c.block_wing.result c.requires.may c.requires.all c.block_wing.ensures

pub returns : goal.returns
returns g c =
    let meld = g.P.Meld.meld in
    let r = c.args.self.now in
    let group = c.args.group.now in
    let at = c.requires.may.at in
    let before = g.W.Words.sight c.args.pass.now in
    let after = g.W.Words.sight c.set_wing.new.pass in
    let s = c.set_wing.ensures in
    let none = nothing_held (view_of g.P.Packed.pack (g.W.Words.name c.args.words.now) before) group r c.requires.may.half (omega (arith, c.requires.all)) in
    let begins = did_prefix g.W.Words.alone _ before.seen after.seen s.did in
    record {
      goes = record { of = s.of; did = s.did; cached = s.cached; caches = tries_one _ _ _ s.caches tt; onward = omega (arith, s.steps); steps = omega (arith, s.steps) };
      takes = takes_wing group r _ _ before after (omega (arith, c.requires.all, at.wide)) c.requires.bare
          (record { one = λ _. record { steps = s.steps; word = _; last = s.last }; some = omega (arith, s.steps); turns = rw (c.requires.bare, none) (omega (arith, s.steps)) });
      comm = search rules;
      round = search rules;
      tells = at_block_later meld before.seen after.seen group (record r { winged = true }) begins (record { are = at.are; unknown = at.unknown; side = at.side; front = at.front; wide = at.wide; begins = at.begins; within = at.within; read = at.read });
      half = λ _. record { first = rw none tt; more = c.requires.may.half.more; winged = λ _. (_, s.stands.some, s.stands.set) };
      sets = λ are. set_later before.cached after.cached r.comm r.round r.blocks s.cached are;
      ends = search rules;
    }

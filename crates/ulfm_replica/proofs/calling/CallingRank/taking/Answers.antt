use Rattle.std.proofs.Common.{sym, subst}
use Rattle.ulfm_words.specs.Steps.{IsView, Name, view_of}
use Rattle.ulfm_numbers.specs.Telling.{TablesTell}
use Rattle.ulfm_replica.specs.Replays.{AreReplayed}
use Rattle.ulfm_replica.specs.Replicas.{Calling, KeepsCall, rules, way_in}
use Rattle.ulfm_replica.proofs.Fitting.{feeds_on, keeps_on, stands_on}
use Rattle.ulfm_replica.proofs.calling.CallingRank.taking.Goals as goal
use Rattle.ulfm_replica.proofs.calling.CallingRank.taking.Goals.{In-Ok}

pub feed-requires-clause-before : goal.feed-requires-clause-before
feed-requires-clause-before g c =
    subst (λ (n : Name). AreReplayed g.P.Meld.meld (view_of g.P.Packed.pack n c.self.inside.pass) c.args.numbers.now) (sym c.self.invariant.of.name_is)
    (record { of = c.self.invariant.of; tells = subst (λ (r : Calling g.row.P.Denot). TablesTell r.words.limits.ranks c.args.numbers.now r.pass.seen) (sym c.self.view_is) c.requires; wings = c.self.invariant.settled })

-- the words are the same
of : (g : _) (c : In-Ok g) → IsView g.P.Meld.meld (view_of g.P.Packed.pack c.self.inside.world c.feed.new.pass)
of g c = subst (λ (n : Name). IsView g.P.Meld.meld (view_of g.P.Packed.pack n c.feed.new.pass)) c.self.invariant.of.name_is c.in-Ok.ensures.1.of

pub invariant_of-result : goal.invariant_of-result
invariant_of-result g c =
    let fed = c.in-Ok.ensures.0 in
    record {
      of = of g c;
      settled = c.in-Ok.ensures.1.wings;
      unspread = c.self.invariant.unspread;
      stands = stands_on (rules g.P.Meld.meld g.P.Packed.pack) c.self.inside.world c.self.inside.rank.own c.self.inside.pass c.feed.new.pass
          (feeds_on g.P.Meld.meld c.self.inside.pass.name.limits c.args.entry.now c.in-Ok.taken c.self.inside.pass.seen c.feed.new.pass.seen fed.feeds) fed.cached fed.onward (of g c)
          (way_in c.self.inside.call) c.self.inside.reply c.self.invariant.stands;
    }

pub returns-in-Ok-clause-keeps : goal.returns-in-Ok-clause-keeps
returns-in-Ok-clause-keeps g c =
    let fed = c.in-Ok.ensures.0 in
    subst (λ (r : Calling g.row.P.Denot). KeepsCall (rules g.P.Meld.meld g.P.Packed.pack) r
    (record { words = c.self.inside.world; own = c.self.inside.rank.own; pass = c.feed.new.pass; call = way_in c.self.inside.call; reply = c.self.inside.reply })) c.self.view_is
    (keeps_on (rules g.P.Meld.meld g.P.Packed.pack) c.self.inside.world c.self.inside.rank.own c.self.inside.pass c.feed.new.pass
    (feeds_on g.P.Meld.meld c.self.inside.pass.name.limits c.args.entry.now c.in-Ok.taken c.self.inside.pass.seen c.feed.new.pass.seen fed.feeds) fed.cached fed.onward
    (way_in c.self.inside.call) c.self.inside.reply)

use Rattle.std.proofs.Common.{subst, sym}
use Rattle.ulfm_model.specs.History.{MayFollow}
use Rattle.ulfm_model.specs.declared.event.Event.{Event}
use Rattle.ulfm_words.specs.Steps.{view_of}
use Rattle.ulfm_words.proofs.Ranks.{place_within}
use Rattle.ulfm_replica.specs.Replays.{SpreadsFor}
use Rattle.ulfm_replica.proofs.Feeding.{spreads}
use Rattle.ulfm_replica.proofs.replay.spread.Goals as goal

pub set_wing-requires-clause-within : goal.set_wing-requires-clause-within
set_wing-requires-clause-within g c =
    let sight = c.args.pass.now in
    let e = c.in-Settle in
    let may = subst (λ (v : Event g.row.P.Denot). MayFollow g.P.Meld.meld sight.name.limits sight.seen v) e.is c.requires.may in
    place_within g.P.Meld.meld sight.name.limits sight.seen e.comm e.round e.rank c.requires.of.legal c.requires.of.may_open may.0

pub returns-in-Settle : goal.returns-in-Settle
returns-in-Settle g c =
    let sight = c.args.pass.now in
    let e = c.in-Settle in
    let pack = g.P.Packed.pack in
    let may = subst (λ (v : Event g.row.P.Denot). MayFollow g.P.Meld.meld sight.name.limits sight.seen v) e.is c.requires.may in
    subst (λ (v : Event g.row.P.Denot). SpreadsFor g.P.Meld.meld v (view_of pack sight.name sight) (view_of pack sight.name c.set_wing.new.self)) (sym e.is)
    (spreads g.P.Meld.meld pack sight c.set_wing.new.self e.comm e.round e.rank e.given c.slot_wing.result c.set_wing.result c.requires.of c.requires.settled may.1 c.slot_wing.ensures c.set_wing.ensures)

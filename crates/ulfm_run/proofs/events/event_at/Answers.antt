use Rattle.ulfm_run.proofs.Reading.{event_is, word_fits}
use Rattle.ulfm_run.proofs.events.event_at.Goals as goal

pub event_in-requires : goal.event_in-requires
event_in-requires g c =
    let of = c.requires in
    word_fits g.P.Meld.meld g.P.Packed.pack g.P.Packed.unpack c.args.pass.now.name.limits of.may_open c.args.pass.now.seen of.legal c.args.i c.in_ok-step.step c.in_ok-step.ensures

pub returns : goal.returns
returns g c =
    let of = c.requires in
    event_is g.P.Meld.meld g.P.Packed.pack g.P.Packed.unpack c.args.pass.now.name.limits of.may_open c.args.pass.now.seen of.legal c.args.i c.in_ok-step.step c.in_ok-step.ensures c.event_in.result c.event_in.ensures

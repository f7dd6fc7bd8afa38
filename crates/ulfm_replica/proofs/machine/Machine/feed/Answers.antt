use Rattle.std.proofs.Common.{Option, sym, ◌∙◌, subst}
use Rattle.std.specs.Prelude.{IfSome}
use Rattle.ulfm_model.specs.declared.event.Entry.{Entry}
use Rattle.ulfm_replica.specs.Replicas.{IsWanted, rules}
use Rattle.ulfm_replica.proofs.machine.Machine.feed.Goals as goal

pub take_own-requires-clause-wanted : goal.take_own-requires-clause-wanted
take_own-requires-clause-wanted g c =
    let bytes = sym (c.are_same.ensures.0 c.if-are_same.true) ∙ c.bytes_of.ensures in
    subst (λ (e : Entry g.row.P.Denot). IsWanted (rules g.P.Meld.meld g.P.Packed.pack) c.args.self.at e) (c.in-Some.ensures.1 c.in-Ok-Some.wanted bytes)
    (subst (λ (o : Option (Entry g.row.P.Denot)). IfSome o (IsWanted (rules g.P.Meld.meld g.P.Packed.pack) c.args.self.at)) c.in-Ok-Some.field-0-is c.in-Ok-Some.ensures)

use Rattle.std.proofs.Common.{◌≡◌, ap, sym, subst}
use Rattle.ulfm_model.specs.Records.{Record}
use Rattle.ulfm_words.specs.Steps.{IsView, Name, over, view_at}
use Rattle.ulfm_comm.specs.{Counts.{Counted, Ranked}, Local.{local}, Phase.{MayStep, UnderWay}}
use Rattle.ulfm_comm.proofs.rank.Rank.proposal.Goals as goal

pub proposed_by-requires-clause-stood : goal.proposed_by-requires-clause-stood
proposed_by-requires-clause-stood g c =
    let now = g.W.Words.sight c.args.pass.now in
    let name = c.args.world.now in
    let way = ap (λ (d : Counted g.row.P.Denot). d.way) c.doing.view_is in
    let own = ap (λ (r : Ranked). r.own) c.self.view_is in
    let here = subst (λ (w : UnderWay g.row.P.Denot). MayStep g.P.Meld.meld w (local c.args.self.now.own (view_at (over g.P.Packed.pack name) now))) (sym way) c.requires.stood in
    let mine = subst (λ (o : Record). MayStep g.P.Meld.meld c.doing.inside.way (local o (view_at (over g.P.Packed.pack name) now))) (sym own) here in
    subst (λ (n : Name). MayStep g.P.Meld.meld c.doing.inside.way (local c.self.inside.own (view_at (over g.P.Packed.pack n) now))) (sym c.world.view_is) mine

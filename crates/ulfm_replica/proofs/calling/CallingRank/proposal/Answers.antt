use Rattle.std.proofs.Common.{◌≡◌, Option, Some, None, sym, ap, subst, is_some}
use Rattle.std.specs.Prelude.{IfSome}
use Rattle.ulfm_model.specs.declared.{event.Caller.TheVariants.{Rank}, event.Entry.{Entry}}
use Rattle.ulfm_model.specs.{History.{MayFollow}}
use Rattle.ulfm_comm.specs.{Phase.{UnderWay}, Proposals.{Proposes, proposes}}
use Rattle.ulfm_replica.specs.Replicas.{Calling, IsWanted, Rules, rules, way_in}
use Rattle.ulfm_replica.proofs.calling.CallingRank.proposal.Goals as goal

wants : {P : Type 0} (by : Rules P) (r : Calling P) (doing : UnderWay P) → r.call ≡ Some doing → (result : Option (Entry P)) → is_some result ≡ proposes doing.phase
    → IfSome result (λ e. e.by ≡ Rank r.own.number) → IfSome result (λ e. Proposes r.own doing.asked doing.phase e.event)
    → IfSome result (λ e. MayFollow by.meld r.words.limits r.pass.seen e.event → IsWanted by r e)
wants by r doing waits None is mine event = tt
wants by r doing waits (Some e) is mine event = λ follows. record { mine = mine; follows = follows; doing = doing; waits = waits; is_for = sym is; event = event }

pub returns-in-Some : goal.returns-in-Some
returns-in-Some g c =
    subst (λ (r : Calling g.row.P.Denot). IfSome c.proposal.result (λ (e : Entry g.row.P.Denot). MayFollow g.P.Meld.meld r.words.limits r.pass.seen e.event → IsWanted (rules g.P.Meld.meld g.P.Packed.pack) r e)) c.self.view_is
    (wants (rules g.P.Meld.meld g.P.Packed.pack)
    (record { words = c.self.inside.world; own = c.self.inside.rank.own; pass = c.self.inside.pass; call = way_in c.self.inside.call; reply = c.self.inside.reply })
    c.in-Some.doing.way (ap way_in c.in-Some.is) c.proposal.result c.proposal.ensures.when c.proposal.ensures.mine c.proposal.ensures.event)

use Rattle.std.proofs.Common.{◌≡◌, None, Option, Some, ap, refl, subst, sym, ◌∙◌}
use Rattle.ulfm_model.specs.declared.reply.Reply.{Reply}
use Rattle.ulfm_comm.specs.Phase.{UnderWay}
use Rattle.ulfm_replica.specs.declared.answers.Ran.{Ran}
use Rattle.ulfm_replica.specs.Replicas.{Calling, ComesTo, EndsCall, Rules, SinceIn, StandsIn, rules, way_in}
use Rattle.ulfm_replica.proofs.calling.CallingRank.told.Goals as goal
use Rattle.ulfm_replica.proofs.calling.CallingRank.told.Goals.{Joined-reply, in-Some, in-None}

-- a rank without a call stands, whether its reply was told or not
idle_stands : {P : Type 0} (by : Rules P) (r : Calling P) (call : Option (UnderWay P)) (reply : Option (Reply P)) → call ≡ None → StandsIn by r call reply
    → StandsIn by (record r { reply = None }) call None
idle_stands by r None reply idle fits = fits
idle_stands by r (Some doing) reply idle stands = absurd (cc idle)

-- and the reply that is told is that of its call
ends : {P : Type 0} (by : Rules P) (r : Calling P) (reply : Reply P) → r.call ≡ None → r.reply ≡ Some reply → EndsCall by r reply (record r { reply = None })
ends by r reply idle some began before asked since =
    subst (λ told. SinceIn by began before asked r None told) some (subst (λ call. SinceIn by began before asked r call r.reply) idle since)

-- the rank, with the reply that isn't told yet
abbrev stood : (g : _) → Joined-reply g → Calling g.row.P.Denot
stood g c = record {
  words = c.self.inside.world;
  own = c.self.inside.rank.own;
  pass = c.self.inside.pass;
  call = way_in c.self.inside.call;
  reply = c.self.inside.reply;
}

pub invariant_of-result : goal.invariant_of-result
invariant_of-result g c =
    let none : way_in c.self.inside.call ≡ None = ap (λ (w : Calling g.row.P.Denot). w.call) c.self.view_is ∙ c.requires in
    record {
      of = c.self.invariant.of;
      settled = c.self.invariant.settled;
      unspread = c.self.invariant.unspread;
      stands = idle_stands (rules g.P.Meld.meld g.P.Packed.pack) (stood g c) (way_in c.self.inside.call) c.self.inside.reply none c.self.invariant.stands;
    }

pub returns-clause-comes : goal.returns-clause-comes
returns-clause-comes g c =
    let by = rules g.P.Meld.meld g.P.Packed.pack in
    let r = stood g c in
    let none : r.call ≡ None = ap (λ (w : Calling g.row.P.Denot). w.call) c.self.view_is ∙ c.requires in
    subst (λ old. ComesTo by old c.match-reply.ran (record r { reply = None })) c.self.view_is
    (elim c.match-reply.branch [
      | in-Some w ↦ subst (λ (came : Ran g.row.P.Denot). ComesTo by r came (record r { reply = None })) (sym w.ran-is) (none, refl, ends by r w.in-Some.reply none w.in-Some.is)
      | in-None w ↦ subst (λ (came : Ran g.row.P.Denot). ComesTo by r came (record r { reply = None })) (sym w.ran-is)
          (none, w.in-None.is, ap (λ told. record r { reply = told }) (sym w.in-None.is))
    ])

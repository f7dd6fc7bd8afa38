use Rattle.std.proofs.Common.{◌≡◌, None, Option, Some, sym, ◌∙◌, ap, subst}
use Rattle.std.specs.Prelude.{IfOk}
use Rattle.ulfm_model.specs.declared.reply.Reply.{Reply}
use Rattle.ulfm_comm.specs.Counts.{Counted}
use Rattle.ulfm_replica.specs.Replicas.{Calling, MakesWanted, StandsIn, StepsOn, rules, way_in}
use Rattle.ulfm_replica.proofs.calling.CallingRank.stepped.Goals as goal
use Rattle.ulfm_replica.proofs.calling.CallingRank.stepped.Goals.{In-Some}

-- no reply is left to be told where a call is under way
reply_none : (g : _) (c : goal.In-Some g) → c.self.inside.reply ≡ None
reply_none g c =
    (subst (λ (o : Option (Counted g.row.P.Denot)). StandsIn (rules g.P.Meld.meld g.P.Packed.pack)
    (record { words = c.self.inside.world; own = c.self.inside.rank.own; pass = c.self.inside.pass; call = way_in c.self.inside.call; reply = c.self.inside.reply }) (way_in o) c.self.inside.reply)
    c.in-Some.is c.self.invariant.stands).0

-- the rank, with its call
rank_is : (g : _) (c : goal.In-Some g) → record { words = c.self.inside.world; own = c.self.inside.rank.own; pass = c.self.inside.pass; call = Some c.in-Some.doing.way; reply = None } ≡ c.args.self
rank_is g c =
    sym (sym c.self.view_is ∙ (ap (λ (o : Option (Counted g.row.P.Denot)). record { words = c.self.inside.world; own = c.self.inside.rank.own; pass = c.self.inside.pass; call = way_in o; reply = c.self.inside.reply }) c.in-Some.is
    ∙ ap (λ (r : Option (Reply g.row.P.Denot)). record { words = c.self.inside.world; own = c.self.inside.rank.own; pass = c.self.inside.pass; call = Some c.in-Some.doing.way; reply = r }) (reply_none g c)))

pub returns-in-Some-clause-steps : goal.returns-in-Some-clause-steps
returns-in-Some-clause-steps g c =
    subst (λ (r : Calling g.row.P.Denot). IfOk c.moved.result (StepsOn (rules g.P.Meld.meld g.P.Packed.pack) r)) (rank_is g (goal.at.returns-in-Some-clause-steps g c).In-Some) c.moved.ensures.steps

pub returns-in-Some-clause-makes : goal.returns-in-Some-clause-makes
returns-in-Some-clause-makes g c =
    subst (λ (r : Calling g.row.P.Denot). IfOk c.moved.result (MakesWanted (rules g.P.Meld.meld g.P.Packed.pack) r)) (rank_is g (goal.at.returns-in-Some-clause-makes g c).In-Some) c.moved.ensures.makes

use Rattle.std.proofs.Common.{◌≡◌, Bool, true, false, None, Option, Some, refl, sym, ◌∙◌, ap, subst, if◌then◌else◌}
use Rattle.ulfm_comm.specs.{Counts.{Counted}, Local.{local}, Phase.{Stands, next_step}}
use Rattle.ulfm_comm.specs.declared.phases.phase.Phase.{Phase}
use Rattle.ulfm_comm.specs.declared.phases.phase.Phase.TheVariants.{Begun, Over as IsOver}
use Rattle.ulfm_comm.proofs.AmongOthers.{waits_none}
use Rattle.ulfm_words.specs.Steps.{over, view_of}
use Rattle.ulfm_replica.specs.Replicas.{Begins, Calling, StandsIn, is_settle, rules, way_in}
use Rattle.ulfm_replica.proofs.Fitting.{none_of}
use Rattle.ulfm_replica.proofs.calling.CallingRank.begin.Goals as goal
use Rattle.ulfm_replica.proofs.calling.CallingRank.begin.Goals.{Joined-self}

-- a call doesn't begin with a contribution's word
first : {P : Type 0} (b : Bool) (phase : Phase P) → phase ≡ (if b then IsOver else Begun) → is_settle (next_step phase) ≡ false
first true phase is = ap (λ (f : Phase _). is_settle (next_step f)) is
first false phase is = ap (λ (f : Phase _). is_settle (next_step f)) is

no_call : (g : _) (c : Joined-self g) → c.self.inside.call ≡ None
no_call g c = none_of c.self.inside.call (sym c.is_some.ensures ∙ c.if-is_some.false)

no_reply : (g : _) (c : Joined-self g) → c.self.inside.reply ≡ None
no_reply g c = none_of c.self.inside.reply (sym c.is_some-else-is_some.ensures ∙ c.if-is_some-2.false)

-- it begins here
stands : (g : _) (c : Joined-self g) → Stands g.P.Meld.meld false (local c.self.inside.rank.own (view_of g.P.Packed.pack c.self.inside.world c.self.inside.pass)) c.begin.result.way
    (local c.self.inside.rank.own (view_of g.P.Packed.pack c.self.inside.world c.self.inside.pass))
stands g c =
    c.begin.ensures.stands false (over g.P.Packed.pack c.self.inside.world) c.self.inside.pass c.self.invariant.of
    (subst (λ (o : Option (Counted g.row.P.Denot)). StandsIn (rules g.P.Meld.meld g.P.Packed.pack)
    (record { words = c.self.inside.world; own = c.self.inside.rank.own; pass = c.self.inside.pass; call = way_in c.self.inside.call; reply = c.self.inside.reply }) (way_in o) c.self.inside.reply)
    (no_call g c) c.self.invariant.stands)

pub invariant_of-self : goal.invariant_of-self
invariant_of-self g c =
    record {
      of = c.self.invariant.of;
      settled = c.self.invariant.settled;
      unspread = first c.self.inside.rank.own.refused c.begin.result.way.phase c.begin.ensures.first;
      stands = (no_reply g c, (c.self.inside.rank.own, c.self.inside.pass, c.self.inside.pass, stands g c, waits_none c.self.inside.pass));
    }

pub returns-clause-begun : goal.returns-clause-begun
returns-clause-begun g c = λ yes.
    subst (λ (r : Calling g.row.P.Denot). Begins (rules g.P.Meld.meld g.P.Packed.pack) c.args.asked r
    (record { words = c.self.inside.world; own = c.self.inside.rank.own; pass = c.self.inside.pass; call = Some c.begin.result.way; reply = c.self.inside.reply })) c.self.view_is
    (record {
      idle = (ap way_in (no_call g c), no_reply g c);
      own = refl;
      pass = refl;
      words = refl;
      since = (c.begin.ensures.asked, c.self.inside.pass, stands g c, waits_none c.self.inside.pass);
    })

use Rattle.std.proofs.Common.{◌≡◌, Bool, true, false, None, Some, is_some, not, ap, refl, sym, ◌∙◌, subst, if◌then◌else◌}
use Rattle.ulfm_model.specs.declared.{event.Caller.TheVariants.{Rank}, refusal.Refusal.TheVariants.{SelfFailed}, reply.Reply.TheVariants.{Refused}}
use Rattle.ulfm_model.specs.Answers.{traits_of}
use Rattle.ulfm_words.specs.Steps.{over}
use Rattle.ulfm_comm.specs.Phase.{next_step}
use Rattle.ulfm_comm.specs.declared.phases.phase.{Phase.{Phase}, Phase.TheVariants.{Begun, Over}}
use Rattle.ulfm_run.specs.Seats.{Seated, TellsBegin, way_in}
use Rattle.ulfm_run.proofs.Sitting.{begins_open, begins_over}
use Rattle.ulfm_run.proofs.seat.Seat.begin.Goals as goal
use Rattle.ulfm_run.proofs.seat.Seat.begin.Goals.{After-is_none}

-- whether the call makes a step says whether the rank was refused for good
refused_is : {P : Type 0} (refused : Bool) (phase : Phase P) (none : Bool) → phase ≡ (if refused then Over else Begun) → is_some (next_step phase) ≡ not none → refused ≡ none
refused_is true phase none is steps = let e = ap (λ p. is_some (next_step p)) (sym is) ∙ steps in go none e
  where
    go : (b : Bool) → false ≡ not b → true ≡ b
    go true e = refl
    go false e = absurd (cc e)
refused_is false phase none is steps = let e = ap (λ p. is_some (next_step p)) (sym is) ∙ steps in go none e
  where
    go : (b : Bool) → true ≡ not b → false ≡ b
    go true e = absurd (cc e)
    go false e = refl

-- so it is here
refused : (g : _) (c : After-is_none g) → c.self.inside.rank.own.refused ≡ c.is_none.result
refused g c = refused_is c.self.inside.rank.own.refused c.begin-doing.result.way.phase c.is_none.result c.begin-doing.ensures.first (ap is_some (sym c.next.ensures) ∙ c.is_none.ensures)

-- the seat, whose call is none
seat_is : (g : _) (c : After-is_none g) → record { own = c.self.inside.rank.own; call = None; found = c.self.inside.found } ≡ c.args.self.now
seat_is g c =
    let none : way_in c.self.inside.call ≡ None = ap (λ (s : Seated g.row.P.Denot). s.call) c.self.view_is ∙ c.requires.closed in
    ap (λ o. record { own = c.self.inside.rank.own; call = o; found = c.self.inside.found }) (sym none) ∙ c.self.view_is

-- the call is that of its rank
mine : (g : _) (c : After-is_none g) → (traits_of c.args.asked).by ≡ Rank c.self.inside.rank.own.number
mine g c = c.requires.mine ∙ ap (λ (s : Seated g.row.P.Denot). Rank s.own.number) (sym c.self.view_is)

pub returns-then-is_none : goal.returns-then-is_none
returns-then-is_none g c =
    let at = (goal.at.returns-then-is_none g c).After-is_none in
    subst (λ (s : Seated g.row.P.Denot). TellsBegin g.P.Meld.meld (over g.P.Packed.pack c.args.world.now) s c.args.pass.now c.args.asked (Some (record { point = c.count.result; reply = Refused SelfFailed })) s) (seat_is g at)
    (begins_over g.P.Meld.meld (over g.P.Packed.pack c.args.world.now) c.self.inside.rank.own c.self.inside.found c.args.pass.now c.args.asked (mine g at) (refused g at ∙ c.if-is_none.true) c.count.result c.count.ensures)

pub returns : goal.returns
returns g c =
    let at = (goal.at.returns g c).After-is_none in
    subst (λ (s : Seated g.row.P.Denot). TellsBegin g.P.Meld.meld (over g.P.Packed.pack c.args.world.now) s c.args.pass.now c.args.asked None (record { own = c.self.inside.rank.own; call = Some c.begin-doing.result.way; found = c.self.inside.found })) (seat_is g at)
    (begins_open g.P.Meld.meld (over g.P.Packed.pack c.args.world.now) c.self.inside.rank.own c.self.inside.found c.args.pass.now c.args.asked (mine g at) c.begin-doing.result.way c.begin-doing.ensures.asked (refused g at ∙ c.if-is_none.false)
    (c.begin-doing.ensures.first ∙ ap (λ (b : Bool). if b then Over else Begun) (refused g at ∙ c.if-is_none.false)) c.requires.of c.begin-doing.ensures.stands)

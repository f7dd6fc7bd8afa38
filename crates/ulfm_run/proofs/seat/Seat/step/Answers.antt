use Rattle.std.proofs.Common.{◌≡◌, length, None, Option, Some, refl, ap, sym, ◌∙◌, subst}
use Rattle.ulfm_model.specs.declared.{reply.Reply.{Reply}}
use Rattle.ulfm_words.specs.Steps.{over}
use Rattle.ulfm_comm.specs.Phase.{UnderWay, is_checking, is_looking}
use Rattle.ulfm_run.specs.{Seats.{CallPollsShrink, Seated, Sits, TellsPiece, has_looked, way_in}, Stepping.{point_of}}
use Rattle.ulfm_run.proofs.Sitting.{ReadsEvent, ends, goes, look_end, look_fits, may_step, memory_is, memory_lacks, polls_shrink}
use Rattle.ulfm_run.proofs.seat.Seat.step.Goals as goal
use Rattle.ulfm_run.proofs.seat.Seat.step.Goals.{After-lacks_memory, After-event_at-event, After-point_of-point}

-- the seat, with its call
seat_is : (g : _) (c : After-lacks_memory g) → c.args.self.now ≡ record { own = c.self.inside.rank.own; call = Some c.in-Some.doing.way; found = c.self.inside.found }
seat_is g c = sym c.self.view_is ∙ ap (λ o. record { own = c.self.inside.rank.own; call = way_in o; found = c.self.inside.found }) (sym c.take.ensures.value ∙ c.in-Some.is)

-- which sits as some lines say
sits_is : (g : _) (c : After-lacks_memory g) → Sits g.P.Meld.meld (over g.P.Packed.pack c.args.world.now) c.requires.sits.0 c.args.pass.now (record { own = c.self.inside.rank.own; call = Some c.in-Some.doing.way; found = c.self.inside.found })
sits_is g c = subst (λ (s : Seated g.row.P.Denot). Sits g.P.Meld.meld (over g.P.Packed.pack c.args.world.now) c.requires.sits.0 c.args.pass.now s) (seat_is g c) c.requires.sits.1

pub step-reply-requires-clause-stood : goal.step-reply-requires-clause-stood
step-reply-requires-clause-stood g c =
    let is = sym c.self.view_is ∙ ap (λ o. record { own = c.self.inside.rank.own; call = way_in o; found = c.self.inside.found }) (sym c.take.ensures.value ∙ c.in-Some.is) in
    may_step g.P.Meld.meld (over g.P.Packed.pack c.args.world.now) c.requires.sits.0 c.args.pass.now c.self.inside.rank.own c.self.inside.found c.in-Some.doing.way
    (subst (λ (s : Seated g.row.P.Denot). Sits g.P.Meld.meld (over g.P.Packed.pack c.args.world.now) c.requires.sits.0 c.args.pass.now s) is c.requires.sits.1)

pub look_end-look-requires : goal.look_end-look-requires
look_end-look-requires g c = λ ended.
    let at = (goal.at.look_end-look-requires g c).After-lacks_memory in
    look_fits g.P.Meld.meld (over g.P.Packed.pack c.args.world.now) c.args.pass.now c.step-reply.new.pass c.self.inside.rank.own c.step-reply.new.self.own c.self.inside.found c.in-Some.doing.way c.step-reply.new.doing.way c.step-reply.result c.requires.of
    c.step-reply.ensures.stepped c.step-reply.ensures.asked c.step-reply.ensures.stands (memory_is c.step-reply.result (sym c.lacks_memory.ensures ∙ c.if-lacks_memory.false))
    (ap (λ b. has_looked b c.step-reply.result c.step-reply.new.doing.way.phase) (sym c.is_looking-looking.ensures) ∙ ended) c.requires.sits.0 (sits_is g at)

-- what was read off the pass
reads : (g : _) (c : After-event_at-event g) → ReadsEvent c.step-reply.new.pass.seen (length c.args.pass.now.seen) c.event_at-event.result
reads g c = subst (λ n. ReadsEvent c.step-reply.new.pass.seen n c.event_at-event.result) c.count-count.ensures c.event_at-event.ensures

-- where the look ended
looked : (g : _) (c : After-event_at-event g) → c.look_end-look.result ≡ look_end (is_looking c.in-Some.doing.way.phase) c.step-reply.result c.step-reply.new.doing.way.phase c.step-reply.new.self.own
looked g c = c.look_end-look.ensures ∙ ap (λ b. look_end b c.step-reply.result c.step-reply.new.doing.way.phase c.step-reply.new.self.own) c.is_looking-looking.ensures

pub returns-in_default-reply-clause-tells : goal.returns-in_default-reply-clause-tells
returns-in_default-reply-clause-tells g c =
    let at = (goal.at.returns-in_default-reply-clause-tells g c).After-lacks_memory in
    subst (λ (s : Seated g.row.P.Denot). TellsPiece g.P.Meld.meld (over g.P.Packed.pack c.args.world.now) s c.args.pass.now (record { look = c.look_end-look.result; event = c.event_at-event.result; reply = None })
    (record { own = c.step-reply.new.self.own; call = Some c.step-reply.new.doing.way; found = c.count-self-inside.result }) c.step-reply.new.pass) (sym (seat_is g at))
    (goes g.P.Meld.meld (over g.P.Packed.pack c.args.world.now) c.args.pass.now c.step-reply.new.pass c.self.inside.rank.own c.step-reply.new.self.own c.self.inside.found c.in-Some.doing.way c.step-reply.new.doing.way c.step-reply.result c.requires.of
    c.step-reply.ensures.stepped c.step-reply.ensures.asked c.step-reply.ensures.stands c.look_end-look.result (looked g (goal.at.returns-in_default-reply-clause-tells g c).After-event_at-event) c.event_at-event.result (reads g (goal.at.returns-in_default-reply-clause-tells g c).After-event_at-event)
    (memory_is c.step-reply.result (sym c.lacks_memory.ensures ∙ c.if-lacks_memory.false)) c.count-self-inside.result c.count-self-inside.ensures 0 (λ reply is. absurd (cc (is, c.in_default-reply.is))) c.in_default-reply.is c.requires.sits.0 (sits_is g at))

-- the reply's point
point_is : (g : _) (c : After-point_of-point g) (reply : Reply g.row.P.Denot) → c.step-reply.result ≡ Some reply
    → c.point_of-point.result ≡ point_of c.self.inside.found (length c.step-reply.new.pass.seen) (is_checking c.in-Some.doing.way.phase) reply
point_is g c reply is =
    let same : c.in-Some-reply.reply ≡ reply = cc (c.in-Some-reply.is, is) in
    c.point_of-point.ensures ∙ (ap (λ n. point_of c.self.inside.found n c.is_checking-checking.result c.in-Some-reply.reply) c.count.ensures
    ∙ (ap (λ b. point_of c.self.inside.found (length c.step-reply.new.pass.seen) b c.in-Some-reply.reply) c.is_checking-checking.ensures ∙ ap (point_of c.self.inside.found (length c.step-reply.new.pass.seen) (is_checking c.in-Some.doing.way.phase)) same))

pub returns-clause-tells : goal.returns-clause-tells
returns-clause-tells g c =
    let at = (goal.at.returns-clause-tells g c).After-lacks_memory in
    let new : Option (UnderWay g.row.P.Denot) → Seated g.row.P.Denot = λ o. record { own = c.step-reply.new.self.own; call = o; found = c.self.inside.found } in
    subst (λ (s : Seated g.row.P.Denot). TellsPiece g.P.Meld.meld (over g.P.Packed.pack c.args.world.now) s c.args.pass.now (record { look = c.look_end-look.result; event = c.event_at-event.result; reply = Some (record { point = c.point_of-point.result; reply = c.in-Some-reply.reply }) })
    (new (way_in c.take.new.self)) c.step-reply.new.pass) (sym (seat_is g at))
    (subst (λ o. TellsPiece g.P.Meld.meld (over g.P.Packed.pack c.args.world.now) (record { own = c.self.inside.rank.own; call = Some c.in-Some.doing.way; found = c.self.inside.found }) c.args.pass.now
    (record { look = c.look_end-look.result; event = c.event_at-event.result; reply = Some (record { point = c.point_of-point.result; reply = c.in-Some-reply.reply }) }) (new o) c.step-reply.new.pass) (sym (ap way_in c.take.ensures.after))
    (ends g.P.Meld.meld (over g.P.Packed.pack c.args.world.now) c.args.pass.now c.step-reply.new.pass c.self.inside.rank.own c.step-reply.new.self.own c.self.inside.found c.in-Some.doing.way c.step-reply.new.doing.way c.step-reply.result c.requires.of
    c.step-reply.ensures.stepped c.step-reply.ensures.asked c.step-reply.ensures.stands c.look_end-look.result (looked g (goal.at.returns-clause-tells g c).After-event_at-event) c.event_at-event.result (reads g (goal.at.returns-clause-tells g c).After-event_at-event)
    (memory_is c.step-reply.result (sym c.lacks_memory.ensures ∙ c.if-lacks_memory.false)) (length c.step-reply.new.pass.seen) refl c.point_of-point.result (point_is g (goal.at.returns-clause-tells g c).After-point_of-point)
    c.in-Some-reply.reply c.in-Some-reply.is c.requires.sits.0 (sits_is g at)))

pub returns-then-lacks_memory-clause-memory : goal.returns-then-lacks_memory-clause-memory
returns-then-lacks_memory-clause-memory g c =
    let at = (goal.at.returns-then-lacks_memory-clause-memory g c).After-lacks_memory in
    let lacks = memory_lacks c.step-reply.result (sym c.lacks_memory.ensures ∙ c.if-lacks_memory.true) in
    subst (λ (s : Seated g.row.P.Denot). CallPollsShrink s.own s.call) (sym (seat_is g at))
    (polls_shrink g.P.Meld.meld (over g.P.Packed.pack c.args.world.now) c.args.pass.now c.step-reply.new.pass c.self.inside.rank.own c.step-reply.new.self.own c.self.inside.found c.in-Some.doing.way c.step-reply.new.doing.way c.step-reply.result
    c.step-reply.ensures.stands lacks.0 lacks.1 lacks.2 c.requires.sits.0 (sits_is g at))

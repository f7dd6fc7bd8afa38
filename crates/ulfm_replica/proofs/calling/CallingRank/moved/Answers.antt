use Rattle.std.proofs.Common.{None, Some, refl, sym, subst}
use Rattle.ulfm_words.specs.Steps.{over}
use Rattle.ulfm_replica.specs.Replicas.{Calling, MakesWanted, StepsOn, rules}
use Rattle.ulfm_replica.proofs.Stepping.{ends_wanted, ends_well, going, goes_wanted, goes_well, may_step_on, settled_out, steps_once, steps_then, then_wanted}
use Rattle.ulfm_replica.proofs.Fitting.{if_ok_both, if_ok_two}
use Rattle.ulfm_replica.proofs.calling.CallingRank.moved.Goals as goal

pub answered-requires : goal.answered-requires
answered-requires g c =
    ends_well (rules g.P.Meld.meld g.P.Packed.pack) c.args.world c.args.rank.own c.step.new.self.own c.args.pass c.step.new.pass c.args.doing.way c.step.new.doing.way c.step.ensures.asked c.in-Some.reply
    (record { stepped = c.in-Some.ensures.stepped; stands = c.in-Some.ensures.stands }) c.requires.stood (c.in-Some.ensures.wings refl (settled_out c.args.rank.own c.args.doing.way.asked c.args.doing.way.phase (over g.P.Packed.pack c.args.world) c.args.pass c.requires.unspread c.requires.wings))

pub going-requires : goal.going-requires
going-requires g c =
    goes_well (rules g.P.Meld.meld g.P.Packed.pack) c.args.world c.args.rank.own c.step.new.self.own c.args.pass c.step.new.pass c.args.doing.way c.step.new.doing.way c.step.ensures.asked
    (record { stepped = c.in-None.ensures.stepped; stands = c.in-None.ensures.stands }) c.requires.stood (sym c.if-is_settling.ensures) (c.in-None.ensures.wings refl (settled_out c.args.rank.own c.args.doing.way.asked c.args.doing.way.phase (over g.P.Packed.pack c.args.world) c.args.pass c.requires.unspread c.requires.wings))

pub returns-in-Some-clause-steps : goal.returns-in-Some-clause-steps
returns-in-Some-clause-steps g c =
    let by = rules g.P.Meld.meld g.P.Packed.pack in
    subst (λ (r : Calling g.row.P.Denot). StepsOn by (going c.args.world c.args.rank.own c.args.pass c.args.doing.way) r) (sym c.answered.ensures)
    (steps_once by c.args.world c.args.rank.own c.step.new.self.own c.args.pass c.step.new.pass c.args.doing.way c.step.new.doing.way c.step.ensures.asked (Some c.in-Some.reply)
    (record { stepped = c.in-Some.ensures.stepped; stands = c.in-Some.ensures.stands }))

pub returns-in-Some-clause-makes : goal.returns-in-Some-clause-makes
returns-in-Some-clause-makes g c =
    let by = rules g.P.Meld.meld g.P.Packed.pack in
    subst (λ (r : Calling g.row.P.Denot). MakesWanted by (going c.args.world c.args.rank.own c.args.pass c.args.doing.way) r) (sym c.answered.ensures)
    (ends_wanted by c.args.world c.args.rank.own c.step.new.self.own c.args.pass c.step.new.pass c.args.doing.way c.step.new.doing.way c.in-Some.reply c.in-Some.ensures.wins (settled_out c.args.rank.own c.args.doing.way.asked c.args.doing.way.phase (over g.P.Packed.pack c.args.world) c.args.pass c.requires.unspread c.requires.wings))

pub returns-else-is_settling-clause-steps : goal.returns-else-is_settling-clause-steps
returns-else-is_settling-clause-steps g c =
    let by = rules g.P.Meld.meld g.P.Packed.pack in
    subst (λ (r : Calling g.row.P.Denot). StepsOn by (going c.args.world c.args.rank.own c.args.pass c.args.doing.way) r) (sym c.going.ensures)
    (steps_once by c.args.world c.args.rank.own c.step.new.self.own c.args.pass c.step.new.pass c.args.doing.way c.step.new.doing.way c.step.ensures.asked None
    (record { stepped = c.in-None.ensures.stepped; stands = c.in-None.ensures.stands }))

pub returns-else-is_settling-clause-makes : goal.returns-else-is_settling-clause-makes
returns-else-is_settling-clause-makes g c =
    let by = rules g.P.Meld.meld g.P.Packed.pack in
    subst (λ (r : Calling g.row.P.Denot). MakesWanted by (going c.args.world c.args.rank.own c.args.pass c.args.doing.way) r) (sym c.going.ensures)
    (goes_wanted by c.args.world c.args.rank.own c.step.new.self.own c.args.pass c.step.new.pass c.args.doing.way c.step.new.doing.way c.in-None.ensures.wins (settled_out c.args.rank.own c.args.doing.way.asked c.args.doing.way.phase (over g.P.Packed.pack c.args.world) c.args.pass c.requires.unspread c.requires.wings) (sym c.if-is_settling.ensures))

pub settled-requires-clause-stood : goal.settled-requires-clause-stood
settled-requires-clause-stood g c =
    may_step_on (rules g.P.Meld.meld g.P.Packed.pack) c.args.world c.args.rank.own c.step.new.self.own c.args.pass c.step.new.pass c.args.doing.way c.step.new.doing.way c.step.ensures.asked (record { stepped = c.in-None.ensures.stepped; stands = c.in-None.ensures.stands }) c.requires.stood

pub settled-requires-clause-wings : goal.settled-requires-clause-wings
settled-requires-clause-wings g c = c.in-None.ensures.wings refl (settled_out c.args.rank.own c.args.doing.way.asked c.args.doing.way.phase (over g.P.Packed.pack c.args.world) c.args.pass c.requires.unspread c.requires.wings)

pub returns-then-is_settling-clause-steps : goal.returns-then-is_settling-clause-steps
returns-then-is_settling-clause-steps g c =
    let by = rules g.P.Meld.meld g.P.Packed.pack in
    let first = steps_once by c.args.world c.args.rank.own c.step.new.self.own c.args.pass c.step.new.pass c.args.doing.way c.step.new.doing.way c.step.ensures.asked None (record { stepped = c.in-None.ensures.stepped; stands = c.in-None.ensures.stands }) in
    if_ok_both (λ new steps. steps_then by _ _ new c.args.doing.way refl first steps) c.settled.result c.settled.ensures.steps

pub returns-then-is_settling-clause-makes : goal.returns-then-is_settling-clause-makes
returns-then-is_settling-clause-makes g c =
    let by = rules g.P.Meld.meld g.P.Packed.pack in
    if_ok_two (λ new steps makes. then_wanted by c.args.world c.args.rank.own c.step.new.self.own c.args.pass c.step.new.pass c.args.doing.way c.step.new.doing.way c.step.ensures.asked (record { stepped = c.in-None.ensures.stepped; stands = c.in-None.ensures.stands }) c.requires.stood
    c.in-None.ensures.wins (settled_out c.args.rank.own c.args.doing.way.asked c.args.doing.way.phase (over g.P.Packed.pack c.args.world) c.args.pass c.requires.unspread c.requires.wings) new makes steps.begins) c.settled.result c.settled.ensures.steps c.settled.ensures.makes

use Rattle.std.proofs.Common.{◌≡◌, true, ap, subst, sym, ◌∙◌, arith}
use Rattle.ulfm_intruder.specs.Intrusions.{is_welcome}
use Rattle.ulfm_model.specs.declared.contribution.Slot.TheVariants.{Given}
use Rattle.ulfm_words.specs.Slots.{is_wing_word}
use Rattle.ulfm_words.proofs.Pairs.{half_lt, wing_is}
use Rattle.ulfm_steps.proofs.Coming.{may_fail}
use Rattle.ulfm_intruder.proofs.Welcome.{append_begins, grown, lt_of, tried_begins, welcome_arrival, welcome_end, welcome_give, welcome_place}
use Rattle.ulfm_intruder.proofs.intruder.Intruder.intrude.Goals as goal

pub finish-requires-clause-may : goal.finish-requires-clause-may
finish-requires-clause-may g c =
    let limits = c.args.self.now.plain.limits in
    let lt = lt_of c.in-Fail.rank limits.ranks (ap (is_welcome limits) (sym c.in-Fail.is) ∙ c.args.self.now.welcome) in
    rw c.new.ensures (may_fail g.P.Meld.meld limits _ c.in-Fail.rank lt)

pub set_wing-requires-clause-may : goal.set_wing-requires-clause-may
set_wing-requires-clause-may g c =
    let limits = c.args.self.now.plain.limits in
    let e = c.in-Settle in
    let place = welcome_place g.P.Meld.meld limits c.args.pass.now.plain.seen e.comm e.round e.rank e.given (ap (is_welcome limits) (sym e.is) ∙ c.args.self.now.welcome) in
    (place, subst (λ w. is_wing_word w ≡ true) (sym c.slot_wing.ensures) (wing_is _ (half_lt g.P.Packed.unpack g.P.Packed.pack g.met.P.Packed.unpack_pack g.met.P.Packed.pack_fits (Given e.given))))

pub set_slot-requires-clause-may : goal.set_slot-requires-clause-may
set_slot-requires-clause-may g c =
    let limits = c.args.self.now.plain.limits in
    let e = c.in-Settle in
    (welcome_give g.P.Meld.meld limits e.comm e.round e.rank e.given (ap (is_welcome limits) (sym e.is) ∙ c.args.self.now.welcome) c.requires.of.may_open.in_range.some_comms).1 _

pub set_arrival-requires-clause-may : goal.set_arrival-requires-clause-may
set_arrival-requires-clause-may g c =
    let limits = c.args.self.now.plain.limits in
    let e = c.in-Arrive in
    (welcome_arrival g.P.Meld.meld limits e.comm e.round e.rank (ap (is_welcome limits) (sym e.is) ∙ c.args.self.now.welcome) c.requires.of.may_open.in_range.some_comms).1 _

pub set_slot-requires-clause-within : goal.set_slot-requires-clause-within
set_slot-requires-clause-within g c =
    let limits = c.args.self.now.plain.limits in
    let e = c.in-Settle in
    (welcome_give g.P.Meld.meld limits e.comm e.round e.rank e.given (ap (is_welcome limits) (sym e.is) ∙ c.args.self.now.welcome) c.requires.of.may_open.in_range.some_comms).0

pub set_arrival-requires-clause-within : goal.set_arrival-requires-clause-within
set_arrival-requires-clause-within g c =
    let limits = c.args.self.now.plain.limits in
    let e = c.in-Arrive in
    (welcome_arrival g.P.Meld.meld limits e.comm e.round e.rank (ap (is_welcome limits) (sym e.is) ∙ c.args.self.now.welcome) c.requires.of.may_open.in_range.some_comms).0

pub set_revocation-requires-clause-within : goal.set_revocation-requires-clause-within
set_revocation-requires-clause-within g c =
    let limits = c.args.self.now.plain.limits in
    (welcome_end g.P.Meld.meld limits c.in-Revoke.comm (ap (is_welcome limits) (sym c.in-Revoke.is) ∙ c.args.self.now.welcome) c.requires.of.may_open.in_range.some_comms).0

pub set_revocation-requires-clause-may : goal.set_revocation-requires-clause-may
set_revocation-requires-clause-may g c =
    let limits = c.args.self.now.plain.limits in
    (welcome_end g.P.Meld.meld limits c.in-Revoke.comm (ap (is_welcome limits) (sym c.in-Revoke.is) ∙ c.args.self.now.welcome) c.requires.of.may_open.in_range.some_comms).1 _

pub finish-requires-clause-passed : goal.finish-requires-clause-passed
finish-requires-clause-passed g c = rw c.new.ensures (λ j lt. absurd (omega (arith, lt)))

pub returns-in-Fail-clause-did : goal.returns-in-Fail-clause-did
returns-in-Fail-clause-did g c =
    let old = c.args.pass.now.plain.seen in
    let new = c.finish.new.pass.seen in
    grown old new (append_begins _ _ _ _ old new c.finish.result c.finish.ensures.outcome)

pub returns-in-Arrive-clause-did : goal.returns-in-Arrive-clause-did
returns-in-Arrive-clause-did g c =
    let old = c.args.pass.now.plain.seen in
    let new = c.set_arrival.new.pass.seen in
    grown old new (tried_begins _ _ _ old new c.set_arrival.ensures.tries.outcome)

pub returns-in-Revoke-clause-did : goal.returns-in-Revoke-clause-did
returns-in-Revoke-clause-did g c =
    let old = c.args.pass.now.plain.seen in
    let new = c.set_revocation.new.pass.seen in
    grown old new (tried_begins _ _ _ old new c.set_revocation.ensures.tries.outcome)

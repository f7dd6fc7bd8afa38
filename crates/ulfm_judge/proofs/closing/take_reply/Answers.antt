use Rattle.std.proofs.Common.{get_or, not, filter, refl, sym, ◌∙◌}
use Rattle.ulfm_model.specs.Traces.{caller_of, same_caller}
use Rattle.ulfm_judge.specs.Kept.{under_of}
use Rattle.ulfm_numbers.proofs.Lasting.{no_value}
use Rattle.ulfm_judge.proofs.Leaving.{no_call_replied, not_answered, packs_apart, taken}
use Rattle.ulfm_judge.proofs.Taking.{none_open, open_here}
use Rattle.ulfm_judge.proofs.closing.take_reply.Goals as goal

pub returns-in_default-clause-numbers : goal.returns-in_default-clause-numbers
returns-in_default-clause-numbers g c = refl

pub returns-in_default-clause-taken : goal.returns-in_default-clause-taken
returns-in_default-clause-taken g c = λ h us tells_it are.
    let at = sym c.place_by.ensures.at ∙ c.in_default.is in
    let tells = packs_apart g.P.Packed.pack g.P.Packed.unpack g.met.P.Packed.unpack_pack in
    let none = none_open g.P.Meld.meld c.args.limits h c.args.records.now c.args.calls.now us are c.args.group.now c.args.by at in
    (us, are, no_call_replied g.P.Meld.meld g.P.Packed.pack tells c.args.limits h c.args.records.now us c.args.group.now c.args.by c.args.point c.args.reply none)

pub bounds-calls-i : goal.bounds-calls-i
bounds-calls-i g c = rw c.in-Some.is at c.place_by.ensures.within

pub returns-in_err-may_reply : goal.returns-in_err-may_reply
returns-in_err-may_reply g c = record { numbers = refl; taken = λ h us tells_it are. no_value _ c.from_residual.result c.from_residual.ensures.0 }

pub returns-then-not-branch-clause-numbers : goal.returns-then-not-branch-clause-numbers
returns-then-not-branch-clause-numbers g c = refl

pub returns-then-not-branch-clause-taken : goal.returns-then-not-branch-clause-taken
returns-then-not-branch-clause-taken g c = λ h us tells_it are.
    let tells = packs_apart g.P.Packed.pack g.P.Packed.unpack g.met.P.Packed.unpack_pack in
    let at = sym c.place_by.ensures.at ∙ c.in-Some.is in
    let there = open_here g.P.Meld.meld c.args.limits h c.args.records.now c.args.calls.now us are c.args.group.now c.args.by c.in-Some.i c.index-calls-i.result at in (
      us,
      are,
      not_answered g.P.Meld.meld g.P.Packed.pack tells c.args.limits h c.args.records.now us c.args.group.now c.args.by c.args.point c.args.reply
          (under_of (get_or c.args.calls.now c.in-Some.i c.index-calls-i.result)) there (sym (c.in_ok-may_reply.ensures.told h tells_it) ∙ c.if-not-branch.true),
    )

pub settle_call-requires-clause-numbers : goal.settle_call-requires-clause-numbers
settle_call-requires-clause-numbers g c = c.requires.numbers

pub settle_call-requires-clause-fits : goal.settle_call-requires-clause-fits
settle_call-requires-clause-fits g c = c.in_ok-may_reply.ensures.fits c.requires.may c.if-not-branch.false

pub returns-in_err-settle_call : goal.returns-in_err-settle_call
returns-in_err-settle_call g c = record {
  numbers = c.settle_call.ensures.numbers;
  taken = λ h us tells_it are. no_value _ c.from_residual-in_err-settle_call.result c.from_residual-in_err-settle_call.ensures.0;
}

pub returns-clause-numbers : goal.returns-clause-numbers
returns-clause-numbers g c = c.settle_call.ensures.numbers

pub returns-clause-taken : goal.returns-clause-taken
returns-clause-taken g c = λ h us tells_it are.
    let tells = packs_apart g.P.Packed.pack g.P.Packed.unpack g.met.P.Packed.unpack_pack in
    let at = sym c.place_by.ensures.at ∙ c.in-Some.is in
    let there = open_here g.P.Meld.meld c.args.limits h c.args.records.now c.args.calls.now us are c.args.group.now c.args.by c.in-Some.i c.index-calls-i.result at in (
      filter (λ v. not (same_caller (caller_of v) c.args.by)) us,
      c.close_call.ensures us are,
      taken g.P.Meld.meld g.P.Packed.pack tells c.args.limits h c.args.records.now us c.args.group.now c.args.by c.args.point c.args.reply
          (under_of (get_or c.args.calls.now c.in-Some.i c.index-calls-i.result)) c.settle_call.new.records there (sym (c.in_ok-may_reply.ensures.told h tells_it) ∙ c.if-not-branch.false) (c.in_ok-settle_call.ensures.left h tells_it),
    )

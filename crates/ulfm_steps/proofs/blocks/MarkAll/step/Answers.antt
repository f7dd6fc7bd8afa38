use Rattle.std.proofs.Common.{◌≡◌, ◌+◌, length, ap, ◌∙◌, arith}
use Rattle.ulfm_words.specs.Steps.{over}
use Rattle.std.specs.List.{slice_index}
use Rattle.std.specs.Prelude.{is_ok}
use Rattle.ulfm_model.specs.declared.contribution.MarkCount.{MarkCount}
use Rattle.ulfm_steps.specs.Marks.{members_in}
use Rattle.ulfm_steps.proofs.{Groups.{round_rises}, Marking.{count_fits, counted_next, marks_fall, marks_once, marks_try, may_mark, member_next}, Turning.{takes_exchange}, Reading.{member_within}}
use Rattle.ulfm_steps.proofs.blocks.MarkAll.step.Goals as goal

pub overflow_add-self : goal.overflow_add-self
overflow_add-self g c =
    let fits = count_fits g.P.Meld.meld (g.W.Words.name c.args.words.now).limits (g.W.Words.sight c.args.pass.now).seen c.args.group.now c.args.declared.now c.args.self.now.next c.requires.of.legal c.requires.of.may_open c.requires.may.begins c.requires.more in
    omega (arith, fits, c.requires.at.counted)

pub invariant_of-put : goal.invariant_of-put
invariant_of-put g c =
    let fits = count_fits g.P.Meld.meld (g.W.Words.name c.args.words.now).limits (g.W.Words.sight c.args.pass.now).seen c.args.group.now c.args.declared.now c.args.self.now.next c.requires.of.legal c.requires.of.may_open c.requires.may.begins c.requires.more in
    record { in_range = omega (arith, fits, c.requires.at.counted) }

pub set_slot-requires-clause-within : goal.set_slot-requires-clause-within
set_slot-requires-clause-within g c =
    member_within (g.W.Words.name c.args.words.now).limits g.P.Meld.meld (g.W.Words.sight c.args.pass.now).seen c.args.self.now.comm c.args.self.now.round (slice_index c.args.declared.now c.args.self.now.next) c.args.group.now
    c.requires.of.legal c.requires.of.may_open c.requires.may.round (c.requires.at.member c.requires.more)

pub set_slot-requires-clause-may : goal.set_slot-requires-clause-may
set_slot-requires-clause-may g c =
    let counted : c.args.self.now.known + 1 ≡ length (members_in c.args.group.now c.args.declared.now c.args.self.now.next) + 1 = ap (λ n. n + 1) c.requires.at.counted in
    let fits = count_fits g.P.Meld.meld (g.W.Words.name c.args.words.now).limits (g.W.Words.sight c.args.pass.now).seen c.args.group.now c.args.declared.now c.args.self.now.next c.requires.of.legal c.requires.of.may_open c.requires.may.begins c.requires.more in
    let mark : MarkCount = record { known = record { count = c.args.self.now.known + 1; in_range = omega (arith, fits, counted) }; counted = omega arith } in
    may_mark g.P.Meld.meld (g.W.Words.name c.args.words.now).limits (g.W.Words.sight c.args.pass.now).seen c.args.self.now.comm c.args.self.now.round c.args.group.now c.args.declared.now c.args.self.now.next mark c.requires.may c.requires.more
    (c.requires.at.member c.requires.more) counted

pub next_member-self-requires-clause-within : goal.next_member-self-requires-clause-within
next_member-self-requires-clause-within g c = omega (arith, c.requires.more)

pub returns-clause-further : goal.returns-clause-further
returns-clause-further g c =
    c.next_member-self.ensures.none_between ∙ member_next c.args.group.now c.args.declared.now c.args.self.now.next c.requires.more (c.requires.at.member c.requires.more)

pub returns-clause-onward : goal.returns-clause-onward
returns-clause-onward g c = omega (arith, c.next_member-self.ensures.onward)

pub returns-clause-at : goal.returns-clause-at
returns-clause-at g c =
    let next = c.next_member-self.ensures in
    record {
      within = next.within;
      member = next.member;
      counted = counted_next c.args.group.now c.args.declared.now c.args.self.now.next c.next_member-self.result c.args.self.now.known c.requires.more (c.requires.at.member c.requires.more) next.none_between c.requires.at.counted;
    }

pub returns-clause-marks : goal.returns-clause-marks
returns-clause-marks g c =
    marks_try g.W.Words.alone c.args.self.now.rank c.args.self.now.comm c.args.self.now.round g.P.Meld.meld g.P.Packed.pack (over g.P.Packed.pack (g.W.Words.name c.args.words.now)) (slice_index c.args.declared.now c.args.self.now.next) _ c.set_slot.result (g.W.Words.sight c.args.pass.now) (g.W.Words.sight c.set_slot.new.pass)
    c.set_slot.ensures.tries c.set_slot.ensures.stands

pub next_member-self-requires-clause-rises : goal.next_member-self-requires-clause-rises
next_member-self-requires-clause-rises g c = round_rises (g.W.Words.name c.args.words.now).limits (g.W.Words.sight c.args.pass.now).seen c.args.self.now.comm c.args.self.now.round c.args.group.now c.requires.may.round

pub returns-clause-once : goal.returns-clause-once
returns-clause-once g c =
    marks_once g.W.Words.alone c.args.self.now.rank c.args.self.now.comm c.args.self.now.round (slice_index c.args.declared.now c.args.self.now.next) _ (g.W.Words.sight c.args.pass.now).seen (g.W.Words.sight c.set_slot.new.pass).seen
    (is_ok c.set_slot.result) c.set_slot.ensures.tries.outcome

pub returns-clause-takes : goal.returns-clause-takes
returns-clause-takes g c =
    takes_exchange g.P.Meld.meld g.P.Packed.pack g.W.Words.alone (over g.P.Packed.pack (g.W.Words.name c.args.words.now)) _ (g.W.Words.sight c.args.pass.now) (g.W.Words.sight c.set_slot.new.pass) _ (is_ok c.set_slot.result) _ _ c.set_slot.ensures.tries
    (marks_fall c.args.group.now c.args.declared.now c.args.self.now.next c.next_member-self.result c.requires.more (c.requires.at.member c.requires.more) c.next_member-self.ensures.none_between)

use Rattle.std.proofs.Common.{◌≡◌, ℕ, List, [], ◌∷◌, ◌++◌, ap, ◌∙◌, take}
use Rattle.ulfm_model.specs.{Answers.{closed, comm_of}, History.{members}, Records.{Record, new_held}}
use Rattle.ulfm_model.specs.{Kept.{record_of}, Members.{members_of}}
use Rattle.ulfm_numbers.specs.Seen.{Seen}
use Rattle.ulfm_judge.proofs.Leaving.{left_number, on_ok}
use Rattle.ulfm_numbers.proofs.Seeing.{seen_same}
use Rattle.ulfm_judge.proofs.closing.leave.Goals as goal

pub returns-in_default : goal.returns-in_default
returns-in_default g c =
    let limits = c.args.limits in
    let left = c.settle.ensures limits.ranks [] limits in
    let now : Record = record (record_of limits c.args.own.now) { seen = c.args.seen.items } in
    record {
      number = ap (λ (y : Record). y.number) left ∙ left_number limits.ranks [] now c.args.asked.now c.args.reply;
      left = λ h tells. c.settle.ensures limits.ranks (take c.args.point h) limits;
    }

pub returns-in_ok-group-in-Shrunk-clause-left : goal.returns-in_ok-group-in-Shrunk-clause-left
returns-in_ok-group-in-Shrunk-clause-left g c = λ h tells.
    let limits = c.args.limits in
    let now : Record = record (record_of limits c.args.own.now) { seen = c.args.seen.items } in
    let rest : Record = closed now (comm_of c.args.asked.now) in
    let group : members_of c.in_ok-group-in-Shrunk.group ≡ members limits.ranks (take c.args.point h) c.in-Shrunk.comm =
    c.in_ok-group-in-Shrunk.ensures ∙ ap (λ (s : Seen g.row.P.Denot). s.members c.in-Shrunk.comm) (seen_same limits.ranks c.args.numbers.now h tells c.args.point) in
    rw c.in-Shrunk.is
    (on_ok c.hold_made.result _ _ (λ left. left ∙ ap (λ (ms : List ℕ). record rest { held = rest.held ++ new_held c.in-Shrunk.comm c.in-Shrunk.context ms ∷ [] }) group) c.hold_made.ensures.left)

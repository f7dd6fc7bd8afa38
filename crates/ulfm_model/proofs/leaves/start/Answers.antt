use Rattle.std.proofs.Common.{sym, subst, ◌∙◌}
use Rattle.ulfm_model.specs.{Answers.{opened, traits_of}, Records.{Held}}
use Rattle.ulfm_model.specs.Terms.{comm_of}
use Rattle.ulfm_model.specs.Kept.{FitsNext}
use Rattle.ulfm_model.proofs.Places.{change_is, change_missing, find_is}
use Rattle.ulfm_model.proofs.leaves.start.Goals as goal

pub open_on-requires : goal.open_on-requires
open_on-requires g c =
    let at = sym (rw c.comm_of.ensures at c.place_of.ensures) ∙ c.in-Some.is in
    subst FitsNext (sym c.started-request.ensures) (c.requires _ (find_is c.args.held.now (comm_of c.args.asked.now) c.in-Some.i c.index-held-i.result at))

pub returns-in-Some : goal.returns-in-Some
returns-in-Some g c =
    let at = sym (rw c.comm_of.ensures at c.place_of.ensures) ∙ c.in-Some.is in
    let starts = λ (y : Held). opened y ((traits_of c.args.asked.now).starts y) in
    change_is c.args.held.now (comm_of c.args.asked.now) c.in-Some.i c.index-held-i.result c.open_on.new.x starts at (rw c.started-request.ensures at c.open_on.ensures)

pub returns-in_default : goal.returns-in_default
returns-in_default g c =
    let at = sym (rw c.comm_of.ensures at c.place_of.ensures) ∙ c.in_default.is in
    change_missing c.args.held.now (comm_of c.args.asked.now) (λ (y : Held). opened y ((traits_of c.args.asked.now).starts y)) at

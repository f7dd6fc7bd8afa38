use Rattle.std.proofs.Common.{◌+◌, arith, sym, subst, ◌∙◌}
use Rattle.ulfm_model.specs.History.{says}
use Rattle.ulfm_model.specs.declared.event.Entry.{Entry}
use Rattle.ulfm_numbers.specs.Numbers.{AreBefore}
use Rattle.ulfm_numbers.proofs.{Counting.{before_later, before_push}, Lasting.{no_value}, Tabling.{lists_grow, lists_kept}}
use Rattle.ulfm_numbers.proofs.numbers.note_spawn.Goals as goal

pub returns-in_default : goal.returns-in_default
returns-in_default g c =
    let makes = λ (e : Entry g.row.P.Denot). (says e.event).makes in
    let numbers = c.args.numbers.now.items in
    record {
      told = λ h tells count. lists_kept makes c.args.made.now.items numbers h c.args.entry.now (sym c.made_by.ensures ∙ c.in_default.is) tells;
      before = λ are. before_later c.args.number (c.args.number + 1) numbers (omega arith) are;
    }

-- an error promises nothing
pub returns-in_err-push : goal.returns-in_err-push
returns-in_err-push g c = record {
  told = λ h tells count. no_value _ c.from_residual.result c.from_residual.ensures.0;
  before = λ are. no_value _ c.from_residual.result c.from_residual.ensures.0;
}

pub returns-in_err-push-2 : goal.returns-in_err-push-2
returns-in_err-push-2 g c = record {
  told = λ h tells count. no_value _ c.from_residual-in_err-push-2.result c.from_residual-in_err-push-2.ensures.0;
  before = λ are. no_value _ c.from_residual-in_err-push-2.result c.from_residual-in_err-push-2.ensures.0;
}

pub returns : goal.returns
returns g c =
    let makes = λ (e : Entry g.row.P.Denot). (says e.event).makes in
    let numbers = c.args.numbers.now.items in
    let pushed = c.in_ok-push-2.ensures.items in
    record {
      told = λ h tells count.
          lists_grow makes c.args.made.now.items c.push.new.self.items numbers c.push-2.new.self.items h c.args.entry.now c.in-Some.of c.args.number
          (sym c.made_by.ensures ∙ c.in-Some.is) count c.in_ok-push.ensures.items pushed tells;
      before = λ are. subst (AreBefore (c.args.number + 1)) (sym pushed) (before_push c.args.number numbers are);
    }

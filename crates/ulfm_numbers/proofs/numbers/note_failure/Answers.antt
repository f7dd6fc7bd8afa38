use Rattle.std.proofs.Common.{◌+◌, ◌++◌, [], List, ℕ, append-nil, arith, refl, sym, ap, subst, ◌∙◌}
use Rattle.std.specs.List.{cons_option}
use Rattle.ulfm_model.specs.History.{says}
use Rattle.ulfm_model.specs.declared.event.Entry.{Entry}
use Rattle.ulfm_numbers.specs.{Failed.{AreFailed}, Numbers.{AreBefore}}
use Rattle.ulfm_numbers.proofs.{Counting.{before_later, before_push}, Lasting.{no_value}, Tabling.{lists_grow, lists_kept}}
use Rattle.ulfm_numbers.proofs.numbers.note_failure.Goals as goal

pub returns-in_default : goal.returns-in_default
returns-in_default g c =
    let nobody = sym c.declared_by.ensures ∙ c.in_default.is in
    let ranks = c.args.ranks.now.items in
    record {
      told = λ h tells count. lists_kept (λ (e : Entry g.row.P.Denot). (says e.event).declares) ranks c.args.numbers.now.items h c.args.entry.now nobody tells;
      before = λ are. before_later c.args.number (c.args.number + 1) c.args.numbers.now.items (omega arith) are;
      longer = sym (ap (λ o. ranks ++ cons_option o []) nobody ∙ append-nil ranks);
      members = refl;
      failed = λ are. are;
    }

-- an error promises nothing but the members
pub returns-in_err-declare_in_all : goal.returns-in_err-declare_in_all
returns-in_err-declare_in_all g c = record {
  told = λ h tells count. no_value _ c.from_residual.result c.from_residual.ensures.0;
  before = λ are. no_value _ c.from_residual.result c.from_residual.ensures.0;
  longer = no_value _ c.from_residual.result c.from_residual.ensures.0;
  members = c.declare_in_all.ensures.members;
  failed = λ are. no_value _ c.from_residual.result c.from_residual.ensures.0;
}

pub returns-in_err-push : goal.returns-in_err-push
returns-in_err-push g c = record {
  told = λ h tells count. no_value _ c.from_residual-in_err-push.result c.from_residual-in_err-push.ensures.0;
  before = λ are. no_value _ c.from_residual-in_err-push.result c.from_residual-in_err-push.ensures.0;
  longer = no_value _ c.from_residual-in_err-push.result c.from_residual-in_err-push.ensures.0;
  members = c.declare_in_all.ensures.members;
  failed = λ are. no_value _ c.from_residual-in_err-push.result c.from_residual-in_err-push.ensures.0;
}

pub returns-in_err-push-2 : goal.returns-in_err-push-2
returns-in_err-push-2 g c = record {
  told = λ h tells count. no_value _ c.from_residual-in_err-push-2.result c.from_residual-in_err-push-2.ensures.0;
  before = λ are. no_value _ c.from_residual-in_err-push-2.result c.from_residual-in_err-push-2.ensures.0;
  longer = no_value _ c.from_residual-in_err-push-2.result c.from_residual-in_err-push-2.ensures.0;
  members = c.declare_in_all.ensures.members;
  failed = λ are. no_value _ c.from_residual-in_err-push-2.result c.from_residual-in_err-push-2.ensures.0;
}

pub returns : goal.returns
returns g c =
    let declares = λ (e : Entry g.row.P.Denot). (says e.event).declares in
    let somebody = sym c.declared_by.ensures ∙ c.in-Some.is in
    let ranks = c.args.ranks.now.items in
    let numbers = c.args.numbers.now.items in
    let groups = c.declare_in_all.new.groups in
    let pushed = c.in_ok-push.ensures.items in
    record {
      told = λ h tells count.
          lists_grow declares ranks c.push.new.self.items numbers c.push-2.new.self.items h c.args.entry.now c.in-Some.rank c.args.number somebody count pushed
          c.in_ok-push-2.ensures.items tells;
      before = λ are. subst (AreBefore (c.args.number + 1)) (sym c.in_ok-push-2.ensures.items) (before_push c.args.number numbers are);
      longer = pushed ∙ sym (ap (λ o. ranks ++ cons_option o []) somebody);
      members = c.declare_in_all.ensures.members;
      failed = λ are.
          subst (λ (fs : List ℕ). AreFailed fs groups) (sym pushed) (c.in_ok-declare_in_all.ensures.failed ranks (omega (arith, c.len.ensures)) are);
    }

use Rattle.std.proofs.Common.{ℕ, length, sym, ap₂, ◌∙◌, arith}
use Rattle.std.proofs.lemmas.Bool.{false≢true, le-leb, lt-leb}
use Rattle.ulfm_judge.specs.ReplyTests.{listed_in}
use Rattle.ulfm_numbers.specs.{Groups.{same_ranks}, Seen.{Seen}}
use Rattle.ulfm_numbers.proofs.{Lasting.{no_value}, Deciding.{first_fails}, Seeing.{seen_same}}
use Rattle.ulfm_judge.proofs.Leaving.{all_and, second_fails, third_fails}
use Rattle.ulfm_judge.proofs.closing.Asked.may_reply.Goals as goal

pub returns-then-self : goal.returns-then-self
returns-then-self g c = record {
  told = λ h tells. first_fails _ _ (lt-leb c.args.self.now.u.now.begun c.args.self.now.point (omega (arith, c.if-self.true)));
  fits = λ may yes. absurd (false≢true yes);
}

pub returns-then-self-2 : goal.returns-then-self-2
returns-then-self-2 g c = record {
  told = λ h tells. second_fails _ _ _ (lt-leb c.args.self.now.point (length h) (omega (arith, c.if-self-2.true, tells.count)));
  fits = λ may yes. absurd (false≢true yes);
}

pub returns-in_err-answers : goal.returns-in_err-answers
returns-in_err-answers g c = record {
  told = λ h tells. no_value _ c.from_residual.result c.from_residual.ensures.0;
  fits = λ may. no_value _ c.from_residual.result c.from_residual.ensures.0;
}

pub returns-then-answers : goal.returns-then-answers
returns-then-answers g c = record {
  told = λ h tells.
      let since = le-leb c.args.self.now.u.now.begun c.args.self.now.point (omega (arith, c.if-self.false)) in
      let by_now = le-leb c.args.self.now.point (length h) (omega (arith, c.if-self-2.false, tells.count)) in
      let answers = sym (c.in_ok-answers.ensures.told h tells) ∙ c.if-answers.true in
      let seen = seen_same c.args.self.now.limits.ranks c.args.self.now.numbers.now h tells c.args.self.now.point in
      let lists =
      c.lists-lists.ensures
      ∙ ap₂ (λ (s : Seen g.row.P.Denot) (n : ℕ). same_ranks c.args.group.now (listed_in s n c.args.reply.now)) seen c.comm_of.ensures in
      all_and _ _ _ _ _ since by_now answers lists;
  fits = λ may yes. c.in_ok-answers.ensures.fits may c.if-answers.true;
}

pub returns-else-answers : goal.returns-else-answers
returns-else-answers g c = record {
  told = λ h tells. c.if-answers.false ∙ third_fails _ _ _ _ (sym (c.in_ok-answers.ensures.told h tells) ∙ c.if-answers.false);
  fits = λ may yes. absurd (false≢true (sym c.if-answers.false ∙ yes));
}

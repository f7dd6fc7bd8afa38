use Rattle.std.proofs.Common.{◌≡◌, ◌∙◌, true, false, ap, sym, subst}
use Rattle.ulfm_model.specs.Words.{MayOpen}
use Rattle.ulfm_audit.specs.Logs.{head_bytes}
use Rattle.ulfm_audit.proofs.head.read_head.Goals as goal

differ : (b : _) → b ≡ true → b ≡ false → ⊥
differ b one other = let both : true ≡ false = sym one ∙ other in absurd (cc both)

pub returns-then-not-may_open : goal.returns-then-not-may_open
returns-then-not-may_open c = λ limits may is.
    differ _ (c.may_open.ensures.1 (subst MayOpen (sym (c.limits_in-limits.ensures limits is)) may)) c.if-not-may_open.true

pub returns-then-not-are_same : goal.returns-then-not-are_same
returns-then-not-are_same c = λ limits may is.
    differ _ (c.are_same.ensures.1 (c.head_of.ensures ∙ (ap head_bytes (c.limits_in-limits.ensures limits is) ∙ sym is))) c.if-not-are_same.true

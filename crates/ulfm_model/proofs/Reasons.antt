-- A line that is bad may not come, and is bad for one reason.
use Rattle.std.proofs.Common.{◌≡◌, ℕ, List, Some, None, is_some, refl, sym, ap, ◌∙◌, inl, inr}
use Rattle.ulfm_model.specs.{declared.event.Caller.{Caller}, History.{MayFollow}}
use Rattle.ulfm_model.specs.declared.line.{Line.{Line}, Why.{Why}}
use Rattle.ulfm_model.specs.TraceLaws.{IsBadForOne}
use Rattle.ulfm_model.specs.Traces.{FailsAt, IsOpen, MayAddBy, MayCome, Traced}

module _ (one other : Why) (First Second Both : Type 0) (parts : Both → First × Second) (both : First → Second → Both) where
  tests_apart : (reason : Why) → FailsAt one First other Second reason → ¬ Both
  tests_apart reason (inl first) may = first.1 ((parts may).0)
  tests_apart reason (inr second) may = second.2 ((parts may).1)

  tests_some : ¬ Both → ¬ ((reason : Why) → ¬ FailsAt one First other Second reason)
  tests_some not_both none = none one (inl (refl, λ first. none other (inr (refl, first, λ second. not_both (both first second)))))

  tests_one : (x y : Why) → FailsAt one First other Second x → FailsAt one First other Second y → x ≡ y
  tests_one x y (inl p) (inl q) = p.0 ∙ sym q.0
  tests_one x y (inl p) (inr q) = absurd (p.1 q.1)
  tests_one x y (inr p) (inl q) = absurd (q.1 p.1)
  tests_one x y (inr p) (inr q) = p.0 ∙ sym q.0

module _ {P : Type 0} (meld : P → P → P) (now : Traced P) (group : List ℕ) where
  abbrev Comes : Line P → Type 0
  Comes line = MayCome meld now group line

  pub one_reason : (line : Line P) → IsBadForOne meld now group line
  one_reason (Line.Called asked padded) = record { apart = λ reason bad. bad.1; some = λ may_not none. none Why.Call (refl, may_not); one = λ reason other x y. x.0 ∙ sym y.0 }
  one_reason (Line.Looked r count) =
      record {
        apart = tests_apart Why.Call Why.Look (IsOpen now (Caller.Rank r)) (Comes (Line.Looked r count)) (Comes (Line.Looked r count)) (λ may. (ap is_some may.0.is_open, may)) (λ first may. may);
        some = tests_some Why.Call Why.Look (IsOpen now (Caller.Rank r)) (Comes (Line.Looked r count)) (Comes (Line.Looked r count)) (λ may. (ap is_some may.0.is_open, may)) (λ first may. may);
        one = tests_one Why.Call Why.Look (IsOpen now (Caller.Rank r)) (Comes (Line.Looked r count)) (Comes (Line.Looked r count)) (λ may. (ap is_some may.0.is_open, may)) (λ first may. may);
      }
  one_reason (Line.Happened by None) = record { apart = λ reason bad may. may; some = λ may_not none. none Why.Event refl; one = λ reason other x y. x ∙ sym y }
  one_reason (Line.Happened by (Some event)) =
      record {
        apart = tests_apart Why.Event Why.Own (MayFollow meld now.limits now.history event) (MayAddBy now by event) (Comes (Line.Happened by (Some event))) (λ may. may) (λ first second. (first, second));
        some = tests_some Why.Event Why.Own (MayFollow meld now.limits now.history event) (MayAddBy now by event) (Comes (Line.Happened by (Some event))) (λ may. may) (λ first second. (first, second));
        one = tests_one Why.Event Why.Own (MayFollow meld now.limits now.history event) (MayAddBy now by event) (Comes (Line.Happened by (Some event))) (λ may. may) (λ first second. (first, second));
      }
  one_reason (Line.Replied by point None) =
      record {
        apart = tests_apart Why.Call Why.Reply (IsOpen now by) (⊥) (⊥) (λ may. absurd may) (λ first may. may);
        some = tests_some Why.Call Why.Reply (IsOpen now by) (⊥) (⊥) (λ may. absurd may) (λ first may. may);
        one = tests_one Why.Call Why.Reply (IsOpen now by) (⊥) (⊥) (λ may. absurd may) (λ first may. may);
      }
  one_reason (Line.Replied by point (Some reply)) =
      record {
        apart = tests_apart Why.Call Why.Reply (IsOpen now by) (Comes (Line.Replied by point (Some reply))) (Comes (Line.Replied by point (Some reply))) (λ may. (ap is_some may.is_open, may)) (λ first may. may);
        some = tests_some Why.Call Why.Reply (IsOpen now by) (Comes (Line.Replied by point (Some reply))) (Comes (Line.Replied by point (Some reply))) (λ may. (ap is_some may.is_open, may)) (λ first may. may);
        one = tests_one Why.Call Why.Reply (IsOpen now by) (Comes (Line.Replied by point (Some reply))) (Comes (Line.Replied by point (Some reply))) (λ may. (ap is_some may.is_open, may)) (λ first may. may);
      }

-- Logs of which one begins with the other make histories of which one begins with the other, whatever an entry makes of a history.
use Rattle.std.proofs.Common.{◌≡◌, Bool, List, [], ◌∷◌, ◌++◌, refl, sym, subst, append-nil, ◌∙◌}
use mathlib.Core.List.{IsPrefix}
use Rattle.ulfm_model.proofs.Lists.{prefix_trans}
use Rattle.ulfm_replica.specs.Replays.{LogMakes}

module _ {E X : Type 0} (Makes : E → Bool → List X → List X → Type 0) where
  -- one entry more
  pub goes_on : (log : List E) (e : E) (taken : Bool) (h mid new : List X) → LogMakes Makes h log mid → Makes e taken mid new → LogMakes Makes h (log ++ e ∷ []) new
  goes_on [] e taken h mid new p q = (taken, new, subst (λ w. Makes e taken w new) p q, refl)
  goes_on (x ∷ log) e taken h mid new p q = (p.0, p.1, p.2, goes_on log e taken p.1 mid new p.3 q)

  -- where an entry leaves what was seen
  module _ (leaves : (e : E) (t : Bool) (h x : List X) → Makes e t h x → IsPrefix h x) where
    grows : (log : List E) (h x : List X) → LogMakes Makes h log x → IsPrefix h x
    grows [] h x p = ([], append-nil h ∙ sym p)
    grows (e ∷ log) h x p = prefix_trans h p.1 x (leaves e p.0 h p.1 p.2) (grows log p.1 x p.3)

    -- and makes one history of one
    pub one_history : (one : (e : E) (s t : Bool) (h x y : List X) → Makes e s h x → Makes e t h y → x ≡ y) (log more : List E) (h x y : List X)
        → LogMakes Makes h log x → LogMakes Makes h (log ++ more) y → IsPrefix x y
    one_history one [] more h x y p q = subst (λ w. IsPrefix w y) (sym p) (grows more h y q)
    one_history one (e ∷ log) more h x y p q =
        let same = one e q.0 p.0 h q.1 p.1 q.2 p.2 in
        one_history one log more p.1 x y p.3 (subst (λ w. LogMakes Makes w (log ++ more) y) same q.3)

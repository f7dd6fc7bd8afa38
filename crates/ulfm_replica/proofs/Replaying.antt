-- Logs of bytes of which one begins with the other make histories of which one begins with the other.
use Rattle.std.proofs.Common.{◌≡◌, inl, inr, Bool, List, [], ◌++◌, ℕ, sym, ◌∙◌, subst, append-nil}
use mathlib.Core.List.{IsPrefix}
use Rattle.ulfm_model.specs.declared.{event.Entry.{Entry}, limits.Limits.{Limits}}
use Rattle.ulfm_model.specs.History.{History}
use Rattle.ulfm_replica.specs.Replays.{Feeds}
use Rattle.ulfm_replica.specs.Replicas.{Replays, Rules, Takes}
use Rattle.ulfm_replica.proofs.{Fitting.{feeds_on}, Logs.{one_history as one_of_logs}, ReplayedWords.{one_feed}}

module _ {P : Type 0} (by : Rules P) (limits : Limits) where
  one_take : (bytes : List ℕ) (s t : Bool) (h x y : History P) → Takes by limits bytes s h x → Takes by limits bytes t h y → x ≡ y
  one_take bytes s t h x y (inl p) (inl q) = one_feed by.meld limits p.0 s t h x y p.2 (subst (λ (e : Entry P). Feeds by.meld limits e t h y) (p.1.1 q.0 q.1.0) q.2)
  one_take bytes s t h x y (inl p) (inr q) = absurd (q.0 p.0 p.1.0)
  one_take bytes s t h x y (inr p) (inl q) = absurd (p.0 q.0 q.1.0)
  one_take bytes s t h x y (inr p) (inr q) = p.2 ∙ sym q.2

  takes_on : (bytes : List ℕ) (t : Bool) (h x : History P) → Takes by limits bytes t h x → IsPrefix h x
  takes_on bytes t h x (inl p) = feeds_on by.meld limits p.0 t h x p.2
  takes_on bytes t h x (inr p) = ([], append-nil h ∙ sym p.2)

  pub one_history : (log more : List (List ℕ)) (h x y : History P) → Replays by limits h log x → Replays by limits h (log ++ more) y → IsPrefix x y
  one_history log more h x y p q = one_of_logs (Takes by limits) takes_on one_take log more h x y p q

-- Logs of entries of which one begins with the other make histories of which one begins with the other.
use Rattle.std.proofs.Common.{◌≡◌, Bool, true, false, List, ◌++◌, sym, ◌∙◌}
use mathlib.Core.List.{IsPrefix}
use Rattle.ulfm_model.specs.declared.{event.Entry.{Entry}, limits.Limits.{Limits}}
use Rattle.ulfm_model.specs.History.{History}
use Rattle.ulfm_replica.specs.Replays.{Feeds, Replays}
use Rattle.ulfm_replica.proofs.{Fitting.{feeds_on}, Logs.{one_history as one_of_logs}}

module _ {P : Type 0} (meld : P → P → P) (limits : Limits) where
  -- an entry makes one history of one
  pub one_feed : (e : Entry P) (s t : Bool) (h x y : History P) → Feeds meld limits e s h x → Feeds meld limits e t h y → x ≡ y
  one_feed e true true h x y p q = p.1 ∙ sym q.1
  one_feed e false false h x y p q = p.1 ∙ sym q.1
  one_feed e true false h x y p q = absurd (q.0 p.0)
  one_feed e false true h x y p q = absurd (p.0 q.0)

  pub one_history : (log more : List (Entry P)) (h x y : History P) → Replays meld limits h log x → Replays meld limits h (log ++ more) y → IsPrefix x y
  one_history log more h x y p q = one_of_logs (Feeds meld limits) (feeds_on meld limits) one_feed log more h x y p q

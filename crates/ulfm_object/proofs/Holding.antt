-- The history after a call on a communicator that its rank holds, and the reply by it.
use Rattle.std.proofs.Common.{◌≡◌, ℕ, false, List, ◌++◌, ap, sym, ◌∙◌, subst}
use Rattle.ulfm_model.specs.declared.{call.Call.{Call}, event.Caller.TheVariants.{Rank}, event.Event.{Event}, limits.Limits.{Limits}, reply.Reply.{Reply}}
use Rattle.ulfm_model.specs.{History.{History, entries_by, failures}, Records.{Held, Record}}
use Rattle.ulfm_model.specs.Computed.{replied}
use Rattle.ulfm_object.specs.Objects.{IsFew}

module _ {P : Type 0} (h : History P) (rank : ℕ) (events given taken : List (Event P)) where
  -- a history with what was handed on of some events
  pub same_after : (after : History P) → after ≡ h ++ entries_by (Rank rank) given → given ≡ taken → taken ≡ events → after ≡ h ++ entries_by (Rank rank) events
  same_after after after_is given_is taken_is = after_is ∙ ap (λ es. h ++ entries_by (Rank rank) es) (given_is ∙ taken_is)

  -- what holds of it holds of the same history, handed on
  pub few_of_all : (after longer : History P) → IsFew (h ++ entries_by (Rank rank) events) → longer ≡ after → after ≡ h ++ entries_by (Rank rank) given → given ≡ taken → taken ≡ events → IsFew longer
  few_of_all after longer few longer_is after_is given_is taken_is = subst IsFew (sym (longer_is ∙ same_after after after_is given_is taken_is)) few

-- the reply by a history that is the same
pub same_reply : {P : Type 0} (meld : P → P → P) (limits : Limits) (h : History P) (own : Record) (x : Held) (asked : Call P) (after : History P) (events : List (Event P)) → after ≡ h ++ entries_by (Rank own.number) events
    → (reply : Reply P) → reply ≡ replied meld limits h (record { look = failures h; history = after; own = events; spread = false }) own x asked
    → reply ≡ replied meld limits h (record { look = failures h; history = h ++ entries_by (Rank own.number) events; own = events; spread = false }) own x asked
same_reply meld limits h own x asked after events after_is reply reply_is = subst (λ w. reply ≡ replied meld limits h (record { look = failures h; history = w; own = events; spread = false }) own x asked) after_is reply_is

-- what holds of a round holds of it by the names that it was made of
pub same_round : {P : Type 0} (Q : Limits → History P → ℕ → ℕ → Type 0) {limits limits' : Limits} {h h' : History P} {c c' k k' : ℕ} → limits ≡ limits' → h ≡ h' → c ≡ c' → k ≡ k' → Q limits h c k → Q limits' h' c' k'
same_round Q {limits} {limits'} {h} {h'} {c} {c'} {k} {k'} limits_is history_is comm_is number_is of =
    subst (Q limits' h' c') number_is (subst (λ d. Q limits' h' d k) comm_is (subst (λ g. Q limits' g c k) history_is (subst (λ l. Q l h c k) limits_is of)))

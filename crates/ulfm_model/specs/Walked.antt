-- What the walks through a history find, as the definitions see it.
use Rattle.std.specs.{Prelude.{◌≡◌, ◌⊎◌, ℕ, ◌+◌, ◌<◌, [], ◌∷◌, ◌++◌, length, take, Some}}
use Rattle.ulfm_model.specs.declared.event.Entry.{Entry}
use Rattle.ulfm_model.specs.declared.decide.Decided.{Decided}
use Rattle.ulfm_model.specs.History.{Decision, History, says, spawns}

-- a decision
abbrev pub decision_of : {P A : Type 0} → Decided P A → Decision P
decision_of made = record { body = made.body; failed = made.failed.items; raised = made.raised }

-- a communicator was not made, as the world's never is
abbrev pub IsNotMade : {P : Type 0} → History P → ℕ → Type 0
IsNotMade h c = (c ≡ 0) ⊎ (length (spawns h) < c)

-- the event at this place makes communicator c, of this parent and round
pub record IsOrigin {P : Type 0} (h : History P) (c place parent round : ℕ) : Type 0 where
  pub entry : Entry P
  pub within : place < length h
  pub stands : take (place + 1) h ≡ take place h ++ entry ∷ []
  pub makes : (says entry.event).makes ≡ Some (parent, round)
  pub number : c ≡ length (spawns (take place h)) + 1

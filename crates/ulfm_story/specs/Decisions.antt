-- What a round decides, in words.
use Rattle.std.specs.Prelude.{◌≡◌, ℕ, true, false, List, ◌++◌, codes, Option, Some, None}
use Rattle.std.specs.Fmt.{decimal}
use Rattle.std.specs.declared.vec.Vec.{Vec}
use Rattle.ulfm_laws.specs.{Flags.{flag_meld}, declared.flag_and.FlagAnd.{FlagAnd}}
use Rattle.ulfm_model.specs.History.{Decision, History, decision, is_decided}
use Rattle.ulfm_lines.specs.DecisionTexts.{outcome_text}

-- a round, with the communicator that it is of
abbrev pub round_text : ℕ → ℕ → List ℕ
round_text round comm = codes "round " ++ (decimal round ++ (codes " of " ++ (decimal comm ++ codes ": ")))

-- a decision, behind the round and the communicator that it is of
abbrev pub decided_text : ℕ → ℕ → Decision FlagAnd → List ℕ
decided_text comm round made = round_text round comm ++ outcome_text (codes "agreed ") (codes "ids ") made

-- these are the words of what a round decides by these events; none where it decides nothing yet
abbrev pub TellsDecision : {A : Type 0} → ℕ → History FlagAnd → ℕ → ℕ → Option (Vec ℕ A) → Type 0
TellsDecision ranks h comm round None = is_decided ranks h comm round ≡ false
TellsDecision ranks h comm round (Some words) =
    (is_decided ranks h comm round ≡ true) × (words.items ≡ decided_text comm round (decision flag_meld ranks h comm round))

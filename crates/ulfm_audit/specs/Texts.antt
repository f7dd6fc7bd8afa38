-- The lines of an audit.
use Rattle.std.specs.Prelude.{ℕ, if◌then◌else◌, List, [], ◌∷◌, ◌++◌, codes, Some}
use Rattle.std.specs.Fmt.{decimal}
use Rattle.ulfm_laws.specs.{Flags.{flag_meld}, declared.flag_and.FlagAnd.{FlagAnd}}
use Rattle.ulfm_model.specs.declared.{event.Entry.{Entry}, event.Event.{Event}}
use Rattle.ulfm_model.specs.History.{Decision}
use Rattle.ulfm_numbers.specs.Seen.{Seen, decision_in, is_decided_in}
use Rattle.ulfm_model.specs.declared.line.Line.TheVariants.{Happened}
use Rattle.ulfm_lines.specs.{DecisionTexts.{outcome_text}, LineTexts.{line_text}}
use Rattle.ulfm_audit.specs.Digests.{digest_text}

-- the line of an entry, as traces have it
abbrev pub entry_line : Entry FlagAnd → List ℕ
entry_line e = line_text [] (Happened e.by (Some e.event)) ++ 10 ∷ []

-- the line of a decision, behind the communicator and the round that it is of
abbrev pub decided_text : ℕ → ℕ → Decision FlagAnd → List ℕ
decided_text c k made = codes "decided " ++ (decimal c ++ 32 ∷ (decimal k ++ 32 ∷ (outcome_text (codes "flag ") (codes "ctx ") made ++ 10 ∷ [])))

-- the line of what a round decided, where it is decided
abbrev pub round_lines : Seen FlagAnd → ℕ → ℕ → List ℕ
round_lines seen c k = if is_decided_in seen c k then decided_text c k (decision_in flag_meld seen c k) else []

-- the line of the round in which an event settles somebody, where it is decided
abbrev pub settled_lines : Seen FlagAnd → Event FlagAnd → List ℕ
settled_lines seen (Event.Fail r) = []
settled_lines seen (Event.Settle c k r given) = round_lines seen c k
settled_lines seen (Event.Mark c k r mark) = round_lines seen c k
settled_lines seen (Event.Arrive c k r) = []
settled_lines seen (Event.Revoke c) = []
settled_lines seen (Event.Spawn j c k) = []

-- the last two lines: how many pieces there were, how many of them were taken, and the digest
abbrev pub end_text : ℕ → ℕ → ℕ → List ℕ
end_text pieces taken digest =
    codes "entries " ++ (decimal pieces ++ (codes " taken " ++ (decimal taken ++ (codes "\ndigest " ++ (digest_text digest ++ 10 ∷ [])))))

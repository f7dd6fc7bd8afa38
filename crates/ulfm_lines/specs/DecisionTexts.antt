-- What a round decided, as text.
use Rattle.std.specs.Prelude.{List, ℕ, ◌++◌, codes, length}
use Rattle.std.specs.Fmt.{decimal}
use Rattle.ulfm_laws.specs.declared.{flag_and.FlagAnd.{FlagAnd}, summary.Body.{Body}}
use Rattle.ulfm_model.specs.History.{Decision}
use Rattle.ulfm_script.specs.{Digits.{flag_text}, Printed.{error_text}}
use Rattle.ulfm_lines.specs.LineTexts.{mask_flag}

-- what was contributed, combined: nothing, flags, sets of context ids, or both; these words stand before a flag, and before a set
abbrev pub body_text : List ℕ → List ℕ → Body FlagAnd → List ℕ
body_text flag ids Body.Unit = codes "nobody"
body_text flag ids (Body.Flag value) = flag ++ flag_text value
body_text flag ids (Body.Ctx mask) = ids ++ flag_text (mask_flag mask)
body_text flag ids Body.Clash = codes "mismatch"

-- that, how many ranks a decision names as failed, and whether it is raised
abbrev pub outcome_text : List ℕ → List ℕ → Decision FlagAnd → List ℕ
outcome_text flag ids made = body_text flag ids made.body ++ (codes " failed " ++ (decimal (length made.failed) ++ error_text made.raised))

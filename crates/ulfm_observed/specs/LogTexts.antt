-- The texts of logs: how each is printed. A log has one text.
use Rattle.std.specs.Prelude.{ℕ, Bool, List, [], ◌∷◌, ◌++◌, Option, Some, None, codes, map}
use Rattle.std.specs.Fmt.{decimal}
use Rattle.ulfm_laws.specs.declared.flag_and.FlagAnd.{FlagAnd}
use Rattle.ulfm_model.specs.declared.limits.Limits.{Limits}
use Rattle.ulfm_script.specs.{Digits.{flag_text}, Printed.{error_text, ranks_text, reply_text}, Spelling.{spelled_text}}
use Rattle.ulfm_lines.specs.LineTexts.{caller_text}
use Rattle.ulfm_observed.specs.declared.log.{Failures.{Failures}, Failures.TheVariants.{Any, Logged}, Order.{Order}, Order.TheVariants.{Time, Ranks}}
use Rattle.ulfm_observed.specs.declared.log.{Item.{Item}, Item.TheVariants.{Called, Replied, Lost}, Seen.{Seen}, Seen.TheVariants.{Agreed, Shrunk, Whole}}
use Rattle.ulfm_observed.specs.declared.log.{Log.{Log}, LogLine.{LogLine}}

-- a line of a log: what it tells, and the ranks that it lists
pub record Heard : Type 0 where
  pub item : Item
  pub group : List ℕ

-- a kept line, as these definitions see it
abbrev pub heard_of : {A : Type 0} → LogLine A → Heard
heard_of line = record { item = line.item; group = line.group.items }

-- the lines of a log behind its header
abbrev pub heard_in : {A : Type 0} → Log A → List Heard
heard_in log = map heard_of log.lines.items

-- the value of an agree; a star where it wasn't logged
abbrev pub value_text : Option FlagAnd → List ℕ
value_text None = codes "*"
value_text (Some value) = flag_text value

-- a number; a star where it wasn't logged
abbrev pub number_text : Option ℕ → List ℕ
number_text None = codes "*"
number_text (Some n) = decimal n

-- what is told of an agree
abbrev pub agreed_text : Option FlagAnd → Option ℕ → Bool → List ℕ
agreed_text value failed raised = codes "agreed " ++ (value_text value ++ (codes " failed " ++ (number_text failed ++ error_text raised)))

-- what is told of a new communicator
abbrev pub shrunk_text : ℕ → Option ℕ → List ℕ → List ℕ
shrunk_text comm context group =
    codes "shrunk " ++ (decimal comm ++ (codes " context " ++ (number_text context ++ (codes " members" ++ ranks_text group))))

-- what is told of a reply
abbrev pub seen_text : List ℕ → Seen → List ℕ
seen_text group (Agreed value failed raised) = agreed_text value failed raised
seen_text group (Shrunk comm context) = shrunk_text comm context group
seen_text group (Whole reply) = reply_text group reply

-- a line, without its newline
abbrev pub item_text : List ℕ → Item → List ℕ
item_text group (Called asked padded) = codes "call " ++ spelled_text padded asked
item_text group (Replied by seen) = codes "reply " ++ (caller_text by ++ 32 ∷ seen_text group seen)
item_text group (Lost rank) = codes "lost " ++ decimal rank

-- lines, each with its newline
abbrev pub heard_text : List Heard → List ℕ
heard_text [] = []
heard_text (line ∷ lines) = item_text line.group line.item ++ 10 ∷ heard_text lines

-- the word of an order
abbrev pub order_text : Order → List ℕ
order_text Time = codes " time"
order_text Ranks = codes " ranks"

-- the word for when ranks may be declared
abbrev pub failures_text : Failures → List ℕ
failures_text Any = codes " any"
failures_text Logged = codes " logged"

-- the limits of a world
abbrev pub limits_text : Limits → List ℕ
limits_text limits = decimal limits.ranks ++ 32 ∷ (decimal limits.comms ++ 32 ∷ decimal limits.rounds)

-- the first line, without its newline
abbrev pub log_header : Limits → Order → Failures → List ℕ
log_header limits order failures =
    codes "ulfm-observed 1 " ++ (limits_text limits ++ (order_text order ++ failures_text failures))

-- the text of a log
abbrev pub log_text : {A : Type 0} → Log A → List ℕ
log_text log = log_header log.limits log.order log.failures ++ 10 ∷ heard_text (heard_in log)

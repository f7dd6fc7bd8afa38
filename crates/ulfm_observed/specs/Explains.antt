-- Which traces explain a log.
use Rattle.std.specs.Prelude.{◌≡◌, ⊤, ℕ, ◌==◌, ◌&&◌, Bool, true, false, IsTrue, List, [], ◌∷◌, filter, map, Option, Some, None, if◌then◌else◌}
use Rattle.ulfm_laws.specs.{Flags.{flag_meld}, declared.flag_and.FlagAnd.{FlagAnd}}
use Rattle.ulfm_model.specs.declared.event.Caller.{Caller}
use Rattle.ulfm_model.specs.declared.event.Caller.TheVariants as caller
use Rattle.ulfm_model.specs.declared.reply.Reply.{Reply}
use Rattle.ulfm_model.specs.declared.reply.Reply.TheVariants as reply
use Rattle.ulfm_model.specs.Answers.{traits_of}
use Rattle.ulfm_model.specs.declared.line.Line.{Line}
use Rattle.ulfm_model.specs.declared.line.Line.TheVariants as line
use Rattle.ulfm_model.specs.Traces.{IsLegalTrace, same_caller}
use Rattle.ulfm_observed.specs.declared.log.{Failures.{Failures}, Failures.TheVariants.{Any, Logged}, Item.{Item}}
use Rattle.ulfm_observed.specs.declared.log.Item.TheVariants as item
use Rattle.ulfm_observed.specs.declared.log.{Log.{Log}, Order.{Order}, Order.TheVariants.{Time, Ranks}, Seen.{Seen}, Seen.TheVariants.{Agreed, Shrunk, Whole}}
use Rattle.ulfm_observed.specs.declared.shows.{Whose.{Whose}, Whose.TheVariants.{Everyone, Of}}
use Rattle.ulfm_observed.specs.declared.{stages.Stage.TheVariants.{Idle}, step.Step.{Step}}
use Rattle.ulfm_observed.specs.{LogTexts.{Heard, heard_in}, Stages.{Shown, aid_after, may_stop, shown_of, stage_after, told_of}}

-- What wasn't logged is as anything; what was is as it was logged.
abbrev pub IsAs : {X : Type 0} → Option X → X → Type 0
IsAs None x = ⊤
IsAs (Some y) x = y ≡ x

-- The reply is as the log tells it.
abbrev pub IsSeen : Seen → Reply FlagAnd → Type 0
IsSeen (Whole told) given = told ≡ given
IsSeen (Agreed value failed raised) (reply.Agreed r f v) = IsAs value v × (IsAs failed f × (raised ≡ r))
IsSeen (Shrunk comm context) (reply.Shrunk j x size) = (comm ≡ j) × IsAs context x
IsSeen _ _ = ⊥

-- The line of a trace is as a line of the log tells it.
abbrev pub IsHeard : Item → Line FlagAnd → Type 0
IsHeard (item.Called asked padded) (line.Called other spelled) = asked ≡ other
IsHeard (item.Replied by seen) (line.Replied b point (Some given)) = (by ≡ b) × IsSeen seen given
IsHeard _ _ = ⊥

-- Each line of an explanation that is shown is the line of the log in its place, with the ranks that it lists.
abbrev pub AreHeard : List Heard → List Shown → Type 0
AreHeard [] [] = ⊤
AreHeard [] (shown ∷ rest) = ⊥
AreHeard (heard ∷ log) [] = ⊥
AreHeard (heard ∷ log) (shown ∷ rest) = IsHeard heard.item shown.told.line × ((heard.group ≡ shown.told.group) × AreHeard log rest)

-- whether a caller is one of those asked for
abbrev pub is_among : Whose → Caller → Bool
is_among Everyone by = true
is_among (Of caller) by = same_caller by caller

-- whether a line of a log is a call or a reply of these callers
abbrev pub is_heard_by : Whose → Item → Bool
is_heard_by whose (item.Called asked padded) = is_among whose (traits_of asked).by
is_heard_by whose (item.Replied by seen) = is_among whose by
is_heard_by whose (item.Lost r) = false

-- whether a line of a trace is a call or a reply of these callers
abbrev pub is_told_by : Whose → Line FlagAnd → Bool
is_told_by whose (line.Called asked padded) = is_among whose (traits_of asked).by
is_told_by whose (line.Replied by point told) = is_among whose by
is_told_by whose _ = false

-- whether the log has this line of an explanation, and it is a call or a reply of these callers
abbrev pub is_shown_by : Whose → Shown → Bool
is_shown_by whose shown = shown.logged && is_told_by whose shown.told.line

-- The calls and replies of these callers are those of the log, in its order.
abbrev pub AreCallersHeard : List Heard → List Shown → Whose → Type 0
AreCallersHeard log trace whose = AreHeard (filter (λ h. is_heard_by whose h.item) log) (filter (is_shown_by whose) trace)

-- Each rank's calls and replies are those of the log, in its order.
abbrev pub AreRanksHeard : List Heard → List Shown → Type 0
AreRanksHeard log trace = (r : ℕ) → AreCallersHeard log trace (Of (caller.Rank r))

-- The calls and replies are those of the log: in its order, or each caller's own are in its order, as the log's order tells.
abbrev pub AreAllHeard : Order → List Heard → List Shown → Type 0
AreAllHeard Time log trace = AreCallersHeard log trace Everyone
AreAllHeard Ranks log trace = AreCallersHeard log trace (Of caller.Outside) × AreRanksHeard log trace

-- whether a line tells that the end of a rank's lines was lost
abbrev pub loses : ℕ → Item → Bool
loses r (item.Lost s) = s == r
loses r _ = false

-- whether the end of a rank's lines was lost
abbrev pub is_lost : ℕ → List Heard → Bool
is_lost r [] = false
is_lost r (heard ∷ log) = if loses r heard.item then true else is_lost r log

-- whether all declarations are logged
abbrev pub all_logged : Failures → Bool
all_logged Any = false
all_logged Logged = true

-- Each rank's own lines stand where they may, and its contribution is its own: where its start is still open, `started` tells the content.
abbrev pub AreWillsKept : List Heard → List Shown → Type 0
AreWillsKept log trace = (r : ℕ) → IsTrue (may_stop (stage_after r (is_lost r log) Idle trace))

-- A legal trace of its world explains a log: it has its calls and replies, each rank's contributions are its own, and the outside only helps.
pub record Explains {A B : Type 0} (log : Log A) (steps : List (Step B)) : Type 0 where
  pub legal : IsLegalTrace flag_meld log.limits (map told_of steps)
  pub heard : AreAllHeard log.order (heard_in log) (map shown_of steps)
  pub wills : AreWillsKept (heard_in log) (map shown_of steps)
  pub outside : IsTrue (aid_after (all_logged log.failures) (record { asked = None; fine = true }) (map shown_of steps)).fine

-- The texts of a trace's lines: how each typed line is printed.
use Rattle.std.specs.Prelude.{ℕ, List, [], ◌∷◌, ◌++◌, Option, Some, None, codes}
use Rattle.std.specs.Fmt.{decimal}
use Rattle.ulfm_laws.specs.declared.{summary.CtxMask.{CtxMask}, flag_and.FlagAnd.{FlagAnd}}
use Rattle.ulfm_model.specs.declared.{contribution.Offer.{Offer}, contribution.Offer.TheVariants.{Flag, Ctx}}
use Rattle.ulfm_model.specs.declared.{event.Caller.{Caller}, event.Caller.TheVariants.{Outside, Rank}}
use Rattle.ulfm_model.specs.declared.{event.Event.{Event}, event.Event.TheVariants.{Fail, Settle, Mark, Arrive, Revoke, Spawn}, reply.Reply.{Reply}}
use Rattle.ulfm_script.specs.{Digits.{flag_text}, Printed.{reply_text}, Spelling.{spelled_text}}
use Rattle.ulfm_model.specs.declared.{line.Line.{Line}, line.Line.TheVariants.{Called, Looked, Happened, Replied}}
use Rattle.ulfm_model.specs.Traces.{Told}

-- an event of a call script's contributions
abbrev pub TraceEvent : Type 0
TraceEvent = Event FlagAnd

-- a line of a trace
abbrev pub TraceLine : Type 0
TraceLine = Line FlagAnd

-- a caller, as a line names it
abbrev pub caller_text : Caller → List ℕ
caller_text Outside = codes "-"
caller_text (Rank r) = decimal r

-- two numbers
abbrev pub two_text : ℕ → ℕ → List ℕ
two_text a b = decimal a ++ 32 ∷ decimal b

-- three numbers, as a communicator, a round and a rank
abbrev pub place_text : ℕ → ℕ → ℕ → List ℕ
place_text a b c = decimal a ++ 32 ∷ two_text b c

-- the same digits as a flag's
abbrev pub mask_flag : CtxMask → FlagAnd
mask_flag mask = record { bits = mask.bits; fits = mask.fits }

-- what is offered
abbrev pub offer_text : Offer FlagAnd → List ℕ
offer_text (Flag flag) = codes "flag " ++ flag_text flag
offer_text (Ctx mask) = codes "ctx " ++ flag_text (mask_flag mask)

-- an offer with these counts
abbrev pub given_text : Offer FlagAnd → ℕ → ℕ → List ℕ
given_text offer known acked = offer_text offer ++ (codes " known " ++ (decimal known ++ (codes " acked " ++ decimal acked)))

-- a settlement with these counts
abbrev pub settle_text : ℕ → ℕ → ℕ → Offer FlagAnd → ℕ → ℕ → List ℕ
settle_text c k r offer known acked =
    codes "settle " ++ (place_text c k r ++ 32 ∷ given_text offer known acked)

-- a mark with this count
abbrev pub mark_text : ℕ → ℕ → ℕ → ℕ → List ℕ
mark_text c k r known = codes "mark " ++ (place_text c k r ++ (codes " known " ++ decimal known))

-- an event, behind its caller
abbrev pub event_text : TraceEvent → List ℕ
event_text (Fail r) = codes "fail " ++ decimal r
event_text (Settle c k r given) = settle_text c k r given.offer given.known.count given.acked.count
event_text (Mark c k r mark) = mark_text c k r mark.known.count
event_text (Arrive c k r) = codes "arrive " ++ place_text c k r
event_text (Revoke c) = codes "revoke " ++ decimal c
event_text (Spawn j c k) = codes "spawn " ++ place_text j c k

-- an event, where there is one
abbrev pub some_event_text : Option TraceEvent → List ℕ
some_event_text None = []
some_event_text (Some event) = event_text event

-- a reply with the ranks that it lists, where there is one
abbrev pub some_reply_text : List ℕ → Option (Reply FlagAnd) → List ℕ
some_reply_text group None = []
some_reply_text group (Some reply) = reply_text group reply

-- a line with the ranks that it lists, without its newline
abbrev pub line_text : List ℕ → TraceLine → List ℕ
line_text group (Called asked padded) = codes "call " ++ spelled_text padded asked
line_text group (Looked r count) = codes "look " ++ two_text r count
line_text group (Happened by event) = codes "event " ++ (caller_text by ++ 32 ∷ some_event_text event)
line_text group (Replied by point reply) = codes "reply " ++ (caller_text by ++ 32 ∷ (decimal point ++ 32 ∷ some_reply_text group reply))

-- lines, each with its newline
abbrev pub lines_text : List (Told FlagAnd) → List ℕ
lines_text [] = []
lines_text (told ∷ trace) = line_text told.group told.line ++ 10 ∷ lines_text trace

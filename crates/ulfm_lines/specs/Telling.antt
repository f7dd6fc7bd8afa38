-- Which line of text tells which typed line.
use Rattle.std.specs.Prelude.{◌≡◌, ◌≢◌, ◌⊎◌, ℕ, ◌<◌, ◌≤◌, ⊤, Bool, true, false, List, [], ◌∷◌, ◌++◌, length, Option, Some, None, codes}
use Rattle.std.specs.List.{AllByRecursion}
use Rattle.std.specs.Fmt.{decimal}
use Rattle.ulfm_laws.specs.declared.flag_and.FlagAnd.{FlagAnd}
use Rattle.ulfm_model.specs.declared.{contribution.Offer.{Offer}, event.Caller.{Caller}, event.Caller.TheVariants.{Outside, Rank}}
use Rattle.ulfm_model.specs.declared.event.Event.TheVariants.{Fail, Settle, Mark, Arrive, Revoke, Spawn}
use Rattle.ulfm_model.specs.declared.{refusal.Refusal.TheVariants.{OutOfMemory}, reply.Reply.{Reply}}
use Rattle.ulfm_model.specs.declared.reply.Reply.TheVariants as reply
use Rattle.ulfm_script.specs.{Printed.{ranks_text, reply_text, shrunk_text}, Spelling.{IsSpelledAs, SpellsAs}}
use Rattle.ulfm_lines.specs.{LineReading.{SomeReply}, LineTexts.{TraceEvent, TraceLine, caller_text, event_text, mark_text, settle_text, two_text}}
use Rattle.ulfm_model.specs.declared.line.Line.TheVariants.{Called, Looked, Happened, Replied}

-- the ranks that a line can name
abbrev pub CallerFits : Caller → Type 0
CallerFits Outside = ⊤
CallerFits (Rank r) = r < 1024

-- a communicator, a round and a rank that a line can name
abbrev pub PlaceFits : ℕ → ℕ → ℕ → Type 0
PlaceFits c k r = (c < 256) × ((k < 10000) × (r < 1024))

-- an event that a line can tell
abbrev pub EventFits : TraceEvent → Type 0
EventFits (Fail r) = r < 1024
EventFits (Settle c k r given) = PlaceFits c k r
EventFits (Mark c k r mark) = PlaceFits c k r
EventFits (Arrive c k r) = PlaceFits c k r
EventFits (Revoke c) = c < 256
EventFits (Spawn j c k) = (j < 256) × ((c < 256) × (k < 10000))

-- a settlement with counts that no contribution has
pub record IsForgedSettlement (text : List ℕ) : Type 0 where
  pub comm : ℕ
  pub round : ℕ
  pub rank : ℕ
  pub offer : Offer FlagAnd
  pub known : ℕ
  pub acked : ℕ
  pub place_fits : PlaceFits comm round rank
  pub known_fits : known < 10000
  pub acked_fits : acked < 10000
  pub forged : ¬ ((acked ≤ known) × (known ≤ 1024))
  pub text_is : text ≡ settle_text comm round rank offer known acked

-- a mark with a count that no mark has
pub record IsForgedMark (text : List ℕ) : Type 0 where
  pub comm : ℕ
  pub round : ℕ
  pub rank : ℕ
  pub known : ℕ
  pub place_fits : PlaceFits comm round rank
  pub known_fits : known < 10000
  pub forged : ¬ ((0 < known) × (known ≤ 1024))
  pub text_is : text ≡ mark_text comm round rank known

-- the text tells this event; none where its counts are no event's
abbrev pub TellsEvent : List ℕ → Option TraceEvent → Type 0
TellsEvent text None = IsForgedSettlement text ⊎ IsForgedMark text
TellsEvent text (Some event) = EventFits event × (text ≡ event_text event)

-- ranks that a line can list
abbrev pub AreRanks : List ℕ → Type 0
AreRanks group = AllByRecursion (λ r. r < 1024) group

-- the ranks of a group behind the word and the space before them, if there are any
abbrev pub behind_ranks : List ℕ → Option (List ℕ)
behind_ranks [] = None
behind_ranks (r ∷ group) = Some (decimal r ++ ranks_text group)

-- whether the ranks of a group, and nothing else, stand there
abbrev pub ListsRanks : Option (List ℕ) → List ℕ → Bool → Type 0
ListsRanks text group true = AreRanks group × (behind_ranks group ≡ text)
ListsRanks text group false = (other : List ℕ) → AreRanks other → ¬ (behind_ranks other ≡ text)

-- the reply, with the group that it lists, is one that a line can tell
abbrev pub ReplyFits : Reply FlagAnd → List ℕ → Type 0
ReplyFits (reply.Agreed raised count value) group = (count < 10000) × (group ≡ [])
ReplyFits (reply.Shrunk j context size) group = (j < 256) × (context < 256) × (0 < size) × (size ≡ length group) × AreRanks group
ReplyFits (reply.FailedGroup count) group = (count ≡ length group) × AreRanks group
ReplyFits (reply.Acked count) group = (count < 10000) × (group ≡ [])
ReplyFits (reply.Refused refusal) group = (refusal ≢ OutOfMemory) × (group ≡ [])
ReplyFits other group = group ≡ []

-- a new communicator with a context id that none has
pub record IsForgedReply (text group : List ℕ) : Type 0 where
  pub comm : ℕ
  pub context : ℕ
  pub comm_fits : comm < 256
  pub context_fits : context < 10000
  pub forged : 255 < context
  pub some : 0 < length group
  pub ranks : AreRanks group
  pub text_is : text ≡ shrunk_text comm context group

-- the text tells this reply; none where it tells a context id that no communicator has
abbrev pub TellsReply : List ℕ → List ℕ → SomeReply → Type 0
TellsReply text group None = IsForgedReply text group
TellsReply text group (Some told) = ReplyFits told group × (text ≡ reply_text group told)

-- the words of a line tell this
abbrev pub TellsLine : List ℕ → List ℕ → TraceLine → Type 0
TellsLine text group (Called asked padded) = (rest : List ℕ) × (text ≡ codes "call " ++ rest) × SpellsAs padded rest asked × (group ≡ [])
TellsLine text group (Looked r count) = (r < 1024) × (count < 10000) × (text ≡ codes "look " ++ two_text r count) × (group ≡ [])
TellsLine text group (Happened by event) =
    (rest : List ℕ) × CallerFits by × (text ≡ codes "event " ++ (caller_text by ++ 32 ∷ rest)) × TellsEvent rest event × (group ≡ [])
TellsLine text group (Replied by point told) =
    (rest : List ℕ) × CallerFits by × (point < 10000000) × (text ≡ codes "reply " ++ (caller_text by ++ 32 ∷ (decimal point ++ 32 ∷ rest)))
    × TellsReply rest group told

-- the line of text tells this typed line, which lists these ranks
abbrev pub TextTells : List ℕ → List ℕ → TraceLine → Type 0
TextTells text group line = (length text ≤ 8192) × TellsLine text group line

-- a line that can be told, with the ranks that it lists
abbrev pub LineFits : List ℕ → TraceLine → Type 0
LineFits group (Called asked padded) = IsSpelledAs padded asked × (group ≡ [])
LineFits group (Looked r count) = (r < 1024) × (count < 10000) × (group ≡ [])
LineFits group (Happened by None) = ⊥
LineFits group (Happened by (Some event)) = CallerFits by × EventFits event × (group ≡ [])
LineFits group (Replied by point None) = ⊥
LineFits group (Replied by point (Some told)) = CallerFits by × (point < 10000000) × ReplyFits told group

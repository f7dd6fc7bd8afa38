-- What the text of a trace's line tells. Where it lists ranks, they stand behind what is read here.
use Rattle.std.specs.Prelude.{ℕ, nat_lt, ◌&&◌, ◌==◌, true, false, List, [], ◌∷◌, codes, Option, Some, None, Result, Ok, Err, if◌then◌else◌}
use Rattle.std.specs.Str.{bytes_eq}
use Rattle.ulfm_laws.specs.declared.flag_and.FlagAnd.{FlagAnd}
use Rattle.ulfm_model.specs.declared.{refusal.Refusal.{Refusal}, reply.Reply.{Reply}}
use Rattle.ulfm_model.specs.declared.refusal.Refusal.TheVariants as refusal
use Rattle.ulfm_model.specs.declared.reply.Reply.TheVariants as reply
use Rattle.ulfm_model.specs.Answers.{printed}
use Rattle.ulfm_script.specs.declared.line_kind.LineKind.{LineKind}
use Rattle.ulfm_script.specs.declared.line_kind.LineKind.TheVariants.{Words}
use Rattle.ulfm_script.specs.{Calls.{call_of}, Printed.{reply_text}, Spelling.{is_padded}, Steps.{◌>>=◌}, Words.{by_verb, next_word, first_word}}
use Rattle.ulfm_lines.specs.EventReading.{ReadEvent, event_of}
use Rattle.ulfm_model.specs.declared.event.Caller.{Caller}
use Rattle.ulfm_lines.specs.Fields.{Field, both, caller_field, comm_field, error_field, flag_field, label_field, labelled, number_field, over}
use Rattle.ulfm_lines.specs.Fields.{point_field, rank_field, whole}
use Rattle.ulfm_lines.specs.LineTexts.{TraceEvent, TraceLine}
use Rattle.ulfm_model.specs.declared.line.Line.TheVariants.{Called, Looked, Happened, Replied}

-- a reply, or none where it tells a context id that no communicator has
abbrev pub SomeReply : Type 0
SomeReply = Option (Reply FlagAnd)

-- a reply that is read whole, and nothing behind it
abbrev pub alone : {A : Type 0} → (A → Reply FlagAnd) → Result A LineKind → Field SomeReply
alone make read = read >>= λ x. Ok (Some (make x), None)

-- this refusal, where it has the number and the name
abbrev pub or_refusal : ℕ → List ℕ → Refusal → Result Refusal LineKind → Result Refusal LineKind
or_refusal number name one other = if (number == (printed one).0) && bytes_eq name (printed one).1 then Ok one else other

-- the refusal of a number and a name; want of memory is never told
unfoldable pub read_refusal : ℕ → List ℕ → Result Refusal LineKind
read_refusal number name =
    or_refusal number name refusal.SelfFailed (or_refusal number name refusal.NoSuchComm (or_refusal number name refusal.Busy
    (or_refusal number name refusal.ShrinkOpen (or_refusal number name refusal.RoundsUsedUp (or_refusal number name refusal.Idle
    (or_refusal number name refusal.Mismatch (or_refusal number name refusal.NoContext (or_refusal number name refusal.NoRoom
    (or_refusal number name refusal.IsRevoked (or_refusal number name refusal.ProcFailed (or_refusal number name refusal.WorldKept
    (or_refusal number name refusal.NoSuchRank (or_refusal number name refusal.Twice (Err Words))))))))))))))

-- a number and a name
unfoldable pub refusal_field : Option (List ℕ) → Field Refusal
refusal_field text = number_field text >>= λ number. next_word number.1 >>= λ name. read_refusal number.0 name.0 >>= λ one. Ok (one, name.1)

-- this reply, where the word is its text
abbrev pub or_reply : List ℕ → Reply FlagAnd → Result (Reply FlagAnd) LineKind → Result (Reply FlagAnd) LineKind
or_reply word one other = if bytes_eq word (reply_text [] one) then Ok one else other

-- the replies of one word
unfoldable pub read_plain : List ℕ → Result (Reply FlagAnd) LineKind
read_plain word =
    or_reply word reply.Started (or_reply word reply.Pending (or_reply word reply.Done (or_reply word reply.Declared
    (or_reply word reply.AlreadyFailed (or_reply word reply.Revoked (or_reply word reply.AlreadyRevoked
    (or_reply word (reply.Standing true) (or_reply word (reply.Standing false) (or_reply word reply.Freed (Err Words))))))))))

-- what was agreed on
unfoldable pub read_agreed : Option (List ℕ) → Field SomeReply
read_agreed text =
    alone (λ x. reply.Agreed x.1.1 x.1.0 x.0) (whole (both flag_field (both (labelled (codes "failed")) error_field)) text)

-- how many failures are acknowledged
unfoldable pub acked_reply : Option (List ℕ) → Field SomeReply
acked_reply text = alone reply.Acked (whole number_field text)

-- a refusal
unfoldable pub refused_reply : Option (List ℕ) → Field SomeReply
refused_reply text = alone reply.Refused (whole refusal_field text)

-- a failed group: nobody, or ranks that are to be read
unfoldable pub failed_reply : Option (List ℕ) → Field SomeReply
failed_reply None = Err Words
failed_reply (Some text) = if bytes_eq text (codes "none") then Ok (Some (reply.FailedGroup 0), None) else Ok (Some (reply.FailedGroup 0), Some text)

-- ranks are to be read behind what was read
abbrev pub listing : {A : Type 0} → A → Option (List ℕ) → Field A
listing x None = Err Words
listing x (Some text) = Ok (x, Some text)

-- a communicator with this context id, if there is one
abbrev pub made : ℕ → ℕ → SomeReply
made comm context = if nat_lt 255 context then None else Some (reply.Shrunk comm context 0)

-- a new communicator, whose members are to be read
unfoldable pub read_shrunk : Option (List ℕ) → Field SomeReply
read_shrunk text =
    both comm_field (both (labelled (codes "context")) (label_field (codes "members"))) text >>= λ x. listing (made x.0.0 x.0.1.0) x.1

-- a reply of one word, and nothing behind it
abbrev pub word_reply : List ℕ → Option (List ℕ) → Field SomeReply
word_reply word fields = over fields >>= λ last. alone (λ one. one) (read_plain word)

-- a reply's first word, and the text behind it
abbrev pub reply_from : List ℕ × Option (List ℕ) → Field SomeReply
reply_from first =
    by_verb ((codes "agreed", read_agreed) ∷ (codes "shrunk", read_shrunk) ∷ (codes "failed", failed_reply)
    ∷ (codes "acked", acked_reply) ∷ (codes "refused", refused_reply) ∷ []) (word_reply first.0 first.1) first

-- a reply
unfoldable pub some_reply_of : Option (List ℕ) → Field SomeReply
some_reply_of text = next_word text >>= reply_from

-- a call that begins
unfoldable pub called_line : Option (List ℕ) → Field TraceLine
called_line None = Err Words
called_line (Some text) = call_of text >>= λ asked. Ok (Called asked (is_padded text asked), None)

-- who looks, and how many failures it finds
abbrev pub looked : Option (List ℕ) → Result (ℕ × ℕ) LineKind
looked text = whole (both rank_field number_field) text

-- a look
unfoldable pub looked_line : Option (List ℕ) → Field TraceLine
looked_line text = looked text >>= λ x. Ok (Looked x.0 x.1, None)

-- an event that is read, beside who makes it happen
abbrev pub made_by : Caller → ReadEvent → Result (Caller × Option TraceEvent) LineKind
made_by by read = read >>= λ event. Ok (by, event)

-- who makes something happen, and what
abbrev pub happened : Option (List ℕ) → Result (Caller × Option TraceEvent) LineKind
happened text = caller_field text >>= λ by. made_by by.0 (event_of by.1)

-- an event's line
unfoldable pub happened_line : Option (List ℕ) → Field TraceLine
happened_line text = happened text >>= λ x. Ok (Happened x.0 x.1, None)

-- a reply's line
unfoldable pub replied_line : Option (List ℕ) → Field TraceLine
replied_line text = both caller_field point_field text >>= λ x. some_reply_of x.1 >>= λ told. Ok (Replied x.0.0 x.0.1 told.0, told.1)

-- a line's first word, and the text behind it
abbrev pub line_from : List ℕ × Option (List ℕ) → Field TraceLine
line_from first =
    by_verb ((codes "call", called_line) ∷ (codes "look", looked_line) ∷ (codes "event", happened_line) ∷ (codes "reply", replied_line) ∷ []) (Err Words) first

-- a line, but for the ranks that it lists
unfoldable pub line_head : List ℕ → Field TraceLine
line_head text = line_from (first_word text)

-- a reply with the number of ranks that it lists
abbrev pub reply_listing : ℕ → Reply FlagAnd → Reply FlagAnd
reply_listing count (reply.FailedGroup none) = reply.FailedGroup count
reply_listing count (reply.Shrunk comm context none) = reply.Shrunk comm context count
reply_listing count other = other

-- the same, where there is a reply
abbrev pub told_listing : ℕ → SomeReply → SomeReply
told_listing count None = None
told_listing count (Some told) = Some (reply_listing count told)

-- a line with the number of ranks that it lists
abbrev pub line_listing : ℕ → TraceLine → TraceLine
line_listing count (Replied by point told) = Replied by point (told_listing count told)
line_listing count other = other

-- What running a script of calls writes.
use Rattle.std.specs.Prelude.{◌≡◌, ℕ, List, [], ◌∷◌, ◌++◌, take}
use Rattle.ulfm_laws.specs.declared.flag_and.FlagAnd.{FlagAnd}
use Rattle.ulfm_laws.specs.Flags.{flag_meld}
use Rattle.ulfm_model.specs.declared.call.Call.{Call}
use Rattle.ulfm_model.specs.declared.limits.Limits.{Limits}
use Rattle.ulfm_model.specs.declared.reply.Reply.{Reply}
use Rattle.ulfm_model.specs.declared.reply.Reply.TheVariants.{Shrunk, FailedGroup}
use Rattle.ulfm_model.specs.{Answers.{traits_of}, History.{failed, members}, Runs.{IsStep, State, new_state}}
use Rattle.ulfm_script.specs.declared.{heading.Heading.{Heading}, version.Version.{Version}}
use Rattle.ulfm_script.specs.{Calls.{ScriptCall, call_in}, Ends.{EndsAlone, EndsThrough, KnownText, RunEnd}, Headers.{call_heading}, Printed.{reply_text}, Scripts.{Language}}

-- the replies of calls one after another, each by its own caller
abbrev pub AreReplies : {P : Type 0} → (P → P → P) → State P → List (Call P) → List (Reply P) → Type 0
AreReplies meld state [] [] = Unit {0}
AreReplies meld state [] (reply ∷ replies) = ⊥
AreReplies meld state (asked ∷ calls) [] = ⊥
AreReplies {P} meld state (asked ∷ calls) (reply ∷ replies) =
    (next : State P) × IsStep meld state (traits_of asked).by asked reply next × AreReplies meld next calls replies

-- the state of the object behind a script
abbrev pub ScriptState : Type 0
ScriptState = State FlagAnd

-- the failed group of a communicator, and its members
abbrev pub failed_at : ScriptState → ℕ → List ℕ
failed_at state c = failed state.limits.ranks state.history c

abbrev pub members_at : ScriptState → ℕ → List ℕ
members_at state c = members state.limits.ranks state.history c

-- one call, where nobody else steps: its reply, and the next state
abbrev pub Steps : ScriptState → ScriptCall → Reply FlagAnd → ScriptState → Type 0
Steps old call reply new = IsStep flag_meld old (traits_of call).by call reply new

-- the group that a reply is about: the new communicator's members, or so many of the failed group of communicator c, which the call named
abbrev pub reply_group : ScriptState → ℕ → Reply FlagAnd → List ℕ
reply_group state c (Shrunk j context size) = members_at state j
reply_group state c (FailedGroup count) = take count (failed_at state c)
reply_group state c reply = []

-- the line that the reply to a call prints, by the state after it
abbrev pub reply_line : ScriptState → ScriptCall → Reply FlagAnd → List ℕ
reply_line state call reply = reply_text (reply_group state (traits_of call).comm reply) reply ++ 10 ∷ []

-- a call was answered, and this is the line that it prints
abbrev pub PrintsReply : ScriptState → ScriptCall → ScriptState → List ℕ → Type 0
PrintsReply old call new line = (reply : Reply FlagAnd) × Steps old call reply new × (line ≡ reply_line new call reply)

-- calls one after another go from one state to another and print these lines
abbrev pub Prints : ScriptState → List ScriptCall → List ℕ → ScriptState → Type 0
Prints old [] out new = (out ≡ []) × (new ≡ old)
Prints old (call ∷ calls) out new =
    (next : ScriptState) × (line : List ℕ) × (more : List ℕ) × PrintsReply old call next line × (out ≡ line ++ more) × Prints next calls more new

-- each line is that of its reply, with some group
abbrev pub AreReplyLines : List (Reply FlagAnd) → List ℕ → Type 0
AreReplyLines [] out = out ≡ []
AreReplyLines (reply ∷ replies) out =
    (group : List ℕ) × (more : List ℕ) × (out ≡ (reply_text group reply ++ 10 ∷ []) ++ more) × AreReplyLines replies more

-- what calls print are their replies, as the sequential object gives them
abbrev pub ArePrinted : ScriptState → List ScriptCall → List ℕ → Type 0
ArePrinted state calls out = (replies : List (Reply FlagAnd)) × AreReplies flag_meld state calls replies × AreReplyLines replies out

-- the lines of these calls on a new object of these limits
abbrev pub PrintsCalls : Limits → List ScriptCall → List ℕ → Type 0
PrintsCalls limits calls out = (last : ScriptState) × Prints (new_state limits) calls out last

-- scripts of calls, of either version; each call that can be read can be run
abbrev pub call_scripts : Language
call_scripts = record { Item = ScriptCall; heading = call_heading; read = call_in; Prints = PrintsCalls; Finds = λ limits calls number kind out. ⊥ }

-- A machine in this state has answered these calls behind this first line, in whose version it reads: these are the lines that they print.
pub record HasAnswered (version : Version) (state : ScriptState) (heading : Heading) (calls : List ScriptCall) (out : List ℕ) : Type 0 where
  pub same : version ≡ heading.version
  pub prints : Prints (new_state heading.limits) calls out state

-- a run through a buffer that the caller sees: what was to be taken, what the reader has left and what is read ahead; what the writer had
-- and has
abbrev pub RunsThrough : KnownText → KnownText → List ℕ → KnownText → KnownText → RunEnd → Type 0
RunsThrough known left ahead old new result = EndsThrough call_scripts known left ahead old new result

-- a run through a buffer of its own, which reads at most 8192 bytes ahead: what the reader had and has left, what the writer had and has
abbrev pub RunsBuffered : KnownText → KnownText → KnownText → KnownText → RunEnd → Type 0
RunsBuffered known left old new result = EndsAlone call_scripts known left old new result

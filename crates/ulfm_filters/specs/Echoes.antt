-- What running a script of calls writes where each reply stands behind its call.
use Rattle.std.specs.Prelude.{◌≡◌, ℕ, List, [], ◌∷◌, ◌++◌, codes, Result, Ok}
use Rattle.ulfm_model.specs.{declared.limits.Limits.{Limits}, Runs.{new_state}}
use Rattle.ulfm_script.specs.declared.{heading.Heading.{Heading}, line_kind.LineKind.{LineKind}, version.Version.{Version}}
use Rattle.ulfm_script.specs.{Calls.{ScriptCall, call_in}, Ends.{EndsAlone, KnownText, RunEnd}, Headers.{call_heading}, Runs.{PrintsReply, ScriptState}, Scripts.{Language}}
use Rattle.ulfm_script.specs.Steps.{◌>>=◌}

-- a line, and the call that it asks for
pub record Asked : Type 0 where
  pub line : List ℕ
  pub call : ScriptCall

-- a line with its call, or its first fault
abbrev pub with_line : List ℕ → Result ScriptCall LineKind → Result Asked LineKind
with_line line read = read >>= λ call. Ok (record { line = line; call = call })

-- the line of a reply, behind its call's own line and an arrow
abbrev pub echoed_line : List ℕ → List ℕ → List ℕ
echoed_line asking line = asking ++ (codes " -> " ++ line)

-- calls one after another go from one state to another, and print these lines, each behind its call; without the calls these
abbrev pub EchoesFrom : ScriptState → List Asked → List ℕ → List ℕ → ScriptState → Type 0
EchoesFrom old [] out plain new = (out ≡ []) × (plain ≡ []) × (new ≡ old)
EchoesFrom old (asked ∷ rest_asked) out plain new =
    (next : ScriptState) × (line : List ℕ) × (more : List ℕ) × (rest : List ℕ) × PrintsReply old asked.call next line
    × (out ≡ echoed_line asked.line line ++ more) × (plain ≡ line ++ rest) × EchoesFrom next rest_asked more rest new

-- the lines of these calls on a new object of these limits, each behind its call
abbrev pub PrintsEchoes : Limits → List Asked → List ℕ → Type 0
PrintsEchoes limits calls out = (plain : List ℕ) × (last : ScriptState) × EchoesFrom (new_state limits) calls out plain last

-- scripts of calls, whose replies are printed behind their calls
abbrev pub echo_scripts : Language
echo_scripts = record {
  Item = Asked;
  heading = call_heading;
  read = λ version line. with_line line (call_in version line);
  Prints = PrintsEchoes;
  Finds = λ limits calls number kind out. ⊥;
}

-- A machine in this state has answered these calls behind this first line, in whose version it reads: these are the lines that they print, each
-- behind its call.
pub record HasEchoed (version : Version) (state : ScriptState) (heading : Heading) (calls : List Asked) (out : List ℕ) : Type 0 where
  pub same : version ≡ heading.version
  pub plain : List ℕ
  pub echoes : EchoesFrom (new_state heading.limits) calls out plain state

-- a run through a buffer of its own, which reads at most 8192 bytes ahead: what the reader had and has left, what the writer had and has
abbrev pub RunsEchoed : KnownText → KnownText → KnownText → KnownText → RunEnd → Type 0
RunsEchoed known left old new result = EndsAlone echo_scripts known left old new result

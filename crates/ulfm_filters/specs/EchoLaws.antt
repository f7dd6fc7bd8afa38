-- The laws of echoes, as statements: each is what a function of src/laws.rt ensures.
use Rattle.std.specs.Prelude.{◌≡◌, ℕ, List, [], ◌∷◌, ◌++◌, map, Ok}
use Rattle.ulfm_script.specs.{Calls.{ScriptCall, call_in}, Ends.{PrintsAll}, Runs.{call_scripts}, Scripts.{Script, script_of}}
use Rattle.ulfm_script.specs.declared.version.Version.{Version}
use Rattle.ulfm_filters.specs.Echoes.{Asked, echo_scripts, echoed_line}

-- some lines, one behind another
abbrev pub joined : List (List ℕ) → List ℕ
joined [] = []
joined (line ∷ lines) = line ++ joined lines

-- the same, each behind its call and an arrow
abbrev pub echoed : List (List ℕ) → List Asked → List ℕ
echoed [] calls = []
echoed (line ∷ lines) [] = []
echoed (line ∷ lines) (asked ∷ calls) = echoed_line asked.line line ++ echoed lines calls

-- what a script asks for, without the lines that ask for it
abbrev pub calls_alone : Script Asked → Script ScriptCall
calls_alone script = record { heading = script.heading; items = map (λ asked. asked.call) script.items; fault = script.fault }

-- A text asks for the same calls and has the same fault with echoes and without; what is printed with them is what is printed without them, line by
-- line and byte for byte, each line behind its call; and each echo is the line that asked for its call.
pub record EchoesAreTakenAway : Type 0 where
  pub same_script : (text : List ℕ) → calls_alone (script_of echo_scripts text) ≡ script_of call_scripts text
  pub taken_away : (text out : List ℕ) → PrintsAll echo_scripts text out
      → (lines : List (List ℕ)) × PrintsAll call_scripts text (joined lines) × (out ≡ echoed lines (script_of echo_scripts text).items)
  pub own_line : (version : Version) (line : List ℕ) (asked : Asked) → echo_scripts.read version line ≡ Ok asked
      → (asked.line ≡ line) × (call_in version line ≡ Ok asked.call)

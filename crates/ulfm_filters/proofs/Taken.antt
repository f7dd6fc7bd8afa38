-- Echoes taken away.
use Rattle.std.proofs.Common.{◌≡◌, ℕ, ◌+◌, List, [], ◌∷◌, ◌++◌, length, map, Option, Some, None, Result, Ok, Err, Bool, true, false, cond, refl, sym, ap, ◌∙◌}
use Rattle.std.specs.Prelude.{nat_lt}
use Rattle.ulfm_model.specs.Runs.{new_state}
use Rattle.ulfm_script.specs.declared.{heading.Heading.{Heading}, line_kind.LineKind.{LineKind}, version.Version.{Version}}
use Rattle.ulfm_script.specs.declared.line_kind.LineKind.TheVariants.{Long, Lines}
use Rattle.ulfm_script.specs.{Calls.{ScriptCall, call_in}, Ends.{PrintsFrom}, Runs.{Prints, ScriptState, call_scripts}}
use Rattle.ulfm_script.specs.Scripts.{Parsed, asked_by, asked_last, asked_then, header_at, item_at, lines_from, no_lines, rest_from, script_by, script_of, with_header}
use Rattle.ulfm_filters.specs.{Echoes.{Asked, EchoesFrom, echo_scripts, echoed_line, with_line}, EchoLaws.{calls_alone, echoed, joined}}

-- what lines ask for, without the lines themselves
abbrev parsed_alone : Parsed Asked → Parsed ScriptCall
parsed_alone parsed = record { items = map (λ asked. asked.call) parsed.items; fault = parsed.fault }

-- a line is read alike
same_item : (version : Version) (number : ℕ) (line : List ℕ) → item_at echo_scripts version number line ≡ with_line line (item_at call_scripts version number line)
same_item version number line = go (nat_lt 64 (length line)) (nat_lt 100000 number)
  where
    go : (long late : Bool) → cond long (Err Long) (cond late (Err Lines) (with_line line (call_in version line))) ≡ with_line line (cond long (Err Long) (cond late (Err Lines) (call_in version line)))
    go true late = refl
    go false true = refl
    go false false = refl

same_then : (number : ℕ) (line : List ℕ) (read : Result ScriptCall LineKind) (more : Parsed Asked) (rest : Parsed ScriptCall) → parsed_alone more ≡ rest
    → parsed_alone (asked_then number (with_line line read) more) ≡ asked_then number read rest
same_then number line (Err kind) more rest same = refl
same_then number line (Ok call) more rest same = ap (λ (p : Parsed ScriptCall). asked_then number (Ok call) p) same

same_last : (number : ℕ) (rest : List ℕ) → parsed_alone (asked_last number rest) ≡ asked_last number rest
same_last number [] = refl
same_last number (x ∷ xs) = refl

-- lines are read alike
same_asked : (version : Version) (number : ℕ) (lines : List (List ℕ)) (rest : List ℕ)
    → parsed_alone (asked_by echo_scripts version number lines rest) ≡ asked_by call_scripts version number lines rest
same_asked version number [] rest = same_last number rest
same_asked version number (line ∷ lines) rest =
    ap (λ (read : Result Asked LineKind). parsed_alone (asked_then number read (asked_by echo_scripts version (number + 1) lines rest))) (same_item version number line)
    ∙ same_then number line (item_at call_scripts version number line) (asked_by echo_scripts version (number + 1) lines rest) (asked_by call_scripts version (number + 1) lines rest) (same_asked version (number + 1) lines rest)

same_none : (rest : List ℕ) → calls_alone (no_lines rest) ≡ no_lines rest
same_none [] = refl
same_none (x ∷ xs) = refl

same_header : (read : Result Heading LineKind) (more : Version → Parsed Asked) (rest : Version → Parsed ScriptCall)
    → ((version : Version) → parsed_alone (more version) ≡ rest version) → calls_alone (with_header read more) ≡ with_header read rest
same_header (Err kind) more rest same = refl
same_header (Ok heading) more rest same = ap (λ (p : Parsed ScriptCall). with_header (Ok heading) (λ version. p)) (same heading.version)

same_by : (lines : List (List ℕ)) (rest : List ℕ) → calls_alone (script_by echo_scripts lines rest) ≡ script_by call_scripts lines rest
same_by [] rest = same_none rest
same_by (line ∷ lines) rest = same_header (header_at call_scripts line) (λ version. asked_by echo_scripts version 2 lines rest) (λ version. asked_by call_scripts version 2 lines rest)
    (λ version. same_asked version 2 lines rest)

-- a text asks for the same with echoes and without
pub same_script : (text : List ℕ) → calls_alone (script_of echo_scripts text) ≡ script_of call_scripts text
unfolding script_of
same_script text = same_by (lines_from [] text) (rest_from [] text)

-- each echo is the line that asked for its call
pub line_read : (line : List ℕ) (read : Result ScriptCall LineKind) (asked : Asked) → with_line line read ≡ Ok asked → (asked.line ≡ line) × (read ≡ Ok asked.call)
line_read line (Err kind) asked e = absurd cc
line_read line (Ok call) asked e = let same : record { line = line; call = call } ≡ asked = cc in (ap (λ (a : Asked). a.line) (sym same), ap (λ (a : Asked). Ok a.call) same)

-- the lines without their calls
pub own_lines : (old new : ScriptState) (calls : List Asked) (out plain : List ℕ) → EchoesFrom old calls out plain new
    → (lines : List (List ℕ)) × Prints old (map (λ asked. asked.call) calls) (joined lines) new × (out ≡ echoed lines calls)
own_lines old new [] out plain h = ([], (refl, h.2), h.0)
own_lines old new (call ∷ calls) out plain h =
    let rest = own_lines h.0 new calls h.2 h.3 h.7 in
    (h.1 ∷ rest.0, (h.0, h.1, joined rest.0, h.4, refl, rest.1), h.5 ∙ ap (λ (x : List ℕ). echoed_line call.line h.1 ++ x) rest.2)

pub taken_from : (heading : Option Heading) (calls : List Asked) (out : List ℕ) → PrintsFrom echo_scripts heading calls out
    → (lines : List (List ℕ)) × PrintsFrom call_scripts heading (map (λ asked. asked.call) calls) (joined lines) × (out ≡ echoed lines calls)
taken_from None calls out h = ([], refl, h)
taken_from (Some heading) calls out h = let own = own_lines (new_state heading.limits) h.1 calls out h.0 h.2 in (own.0, (h.1, own.1), own.2)

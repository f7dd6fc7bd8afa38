-- What running a script of single steps writes: the text of a legal trace that follows it.
use Rattle.std.specs.Prelude.{◌≡◌, ℕ, List, [], ◌∷◌, ◌++◌}
use Rattle.ulfm_laws.specs.{Flags.{flag_meld}, declared.flag_and.FlagAnd.{FlagAnd}}
use Rattle.ulfm_model.specs.declared.limits.Limits.{Limits}
use Rattle.ulfm_script.specs.declared.header_kind.HeaderKind.TheVariants.{Steps, Trace}
use Rattle.ulfm_script.specs.declared.line_kind.LineKind.{LineKind}
use Rattle.ulfm_script.specs.declared.line_kind.LineKind.TheVariants.{Open}
use Rattle.ulfm_script.specs.{Ends.{EndsAlone, KnownText, RunEnd}, Headers.{header_text, heading_of}, Scripts.{Language}}
use Rattle.ulfm_model.specs.{Follows.{FindsOpen, Runs}, Traces.{Told, nothing}}
use Rattle.ulfm_lines.specs.{LineTexts.{lines_text}, StepLines.{ScriptStep, step_line_of}, Stepped.{TraceState}}

-- the first line of a trace in a world of these limits
abbrev pub first_line : Limits → List ℕ
first_line limits = header_text Trace limits ++ 10 ∷ []

-- a trace: its first line, and its lines
abbrev pub trace_text : Limits → List (Told FlagAnd) → List ℕ
trace_text limits trace = first_line limits ++ lines_text trace

-- the text of a legal trace that follows these lines of a script, of which the trace says this
abbrev pub Traces : (TraceState → Type 0) → Limits → List ScriptStep → List ℕ → Type 0
Traces Says limits lines out =
    (trace : List (Told FlagAnd)) × (now : TraceState) × Runs flag_meld (nothing limits) lines trace now × Says now × (out ≡ trace_text limits trace)

-- the text of a legal trace that follows these lines of a script
abbrev pub PrintsTrace : Limits → List ScriptStep → List ℕ → Type 0
PrintsTrace limits lines out =
    (trace : List (Told FlagAnd)) × (now : TraceState) × Runs flag_meld (nothing limits) lines trace now × (out ≡ trace_text limits trace)

-- the line of this number begins a call of a rank that has one under way in the trace of the lines before it, whose text this is
abbrev pub FindsOpenCall : Limits → List ScriptStep → ℕ → LineKind → List ℕ → Type 0
FindsOpenCall limits lines number kind out =
    (trace : List (Told FlagAnd)) × (kind ≡ Open) × FindsOpen flag_meld limits lines number trace × (out ≡ trace_text limits trace)

-- scripts of single steps
abbrev pub step_scripts : Language
step_scripts =
    record { Item = ScriptStep; heading = heading_of Steps; read = λ version. step_line_of; Prints = PrintsTrace; Finds = FindsOpenCall }

-- a run through a buffer of its own, which reads at most 8192 bytes ahead: what the reader had and has left, what the writer had and has
abbrev pub RunsSteps : KnownText → KnownText → KnownText → KnownText → RunEnd → Type 0
RunsSteps known left old new result = EndsAlone step_scripts known left old new result

-- Traces that grow, one line of a script after another.
use Rattle.std.proofs.Common.{◌≡◌, ℕ, ◌+◌, List, [], ◌∷◌, ◌++◌, length, Ok, refl, sym, ap, subst, ◌∙◌, append_assoc, inr}
use Rattle.ulfm_laws.specs.{Flags.{flag_meld}}
use Rattle.ulfm_script.specs.declared.line_kind.LineKind.TheVariants.{Open}
use Rattle.ulfm_script.specs.Ends.{HasFault, RunSoFar, TakesItem}
use Rattle.ulfm_model.specs.declared.step_line.StepLine.{StepLine}
use Rattle.ulfm_model.specs.{Follows.{Follows, Runs}, Traces.{AreLegalAfter, Told, Traced, nothing, said_by}}
use Rattle.ulfm_model.proofs.Parts.{legal_append, said_append}
use Rattle.ulfm_lines.proofs.Joined.{lines_append}
use Rattle.ulfm_lines.specs.{LineTexts.{lines_text}, StepLines.{ScriptStep, step_line_of}, Stepped.{IsOpenCall, TellsStep, TraceState}}
use Rattle.ulfm_lines.specs.declared.step_machine.Taken.TheVariants as taken
use Rattle.ulfm_run.specs.StepScripts.{FindsOpenCall, Traces, first_line, step_scripts, trace_text}

-- a script, and more lines of it
pub follows_append : {P : Type 0} (now : Traced P) (lines more : List (StepLine P)) (trace piece : List (Told P)) → Follows now lines trace
    → Follows (said_by now trace) more piece → Follows now (lines ++ more) (trace ++ piece)
follows_append {P} now [] more trace piece h k =
    subst (λ (t : List (Told P)). Follows (said_by now t) more piece → Follows now more (t ++ piece)) (sym h) (λ f. f) k
follows_append {P} now (line ∷ lines) more trace piece h k =
    let said : said_by now trace ≡ said_by (said_by now h.0) h.1 = ap (said_by now) h.2 ∙ said_append now h.0 h.1 in (
      h.0,
      h.1 ++ piece,
      ap (λ (t : List (Told P)). t ++ piece) h.2 ∙ append_assoc h.0 h.1 piece,
      h.3,
      follows_append (said_by now h.0) lines more h.1 piece h.4 (subst (λ (s : Traced P). Follows s more piece) said k),
    )

-- a run, and then one of more lines
pub runs_then : {P : Type 0} (meld : P → P → P) (old mid new : Traced P) (lines more : List (StepLine P)) (trace piece : List (Told P))
    → Runs meld old lines trace mid → Runs meld mid more piece new → Runs meld old (lines ++ more) (trace ++ piece) new
runs_then {P} meld old mid new lines more trace piece h k = record {
  legal = legal_append meld old trace piece h.legal (subst (λ (s : Traced P). AreLegalAfter meld s piece) h.new_is k.legal);
  follows = follows_append old lines more trace piece h.follows (subst (λ (s : Traced P). Follows s more piece) h.new_is k.follows);
  new_is = k.new_is ∙ ap (λ (s : Traced P). said_by s piece) h.new_is ∙ sym (said_append old trace piece);
}

-- a line was run, and its piece of the trace was told
pub takes_line : (Before After : TraceState → Type 0) (before : RunSoFar step_scripts) (line old text : List ℕ) (step : ScriptStep)
    (h : Traces Before before.heading.limits before.items before.out) → step_line_of line ≡ Ok step → old ≡ [] → TellsStep After h.1 step taken.Run old text
    → TakesItem step_scripts (λ heading. Traces After heading.limits) before (step_line_of line) text (Ok tt)
takes_line Before After before line old text step h e none t =
    let limits = before.heading.limits in
    let piece = lines_text t.0 in
    let told : text ≡ piece = t.4 ∙ ap (λ (bytes : List ℕ). bytes ++ piece) none in
    let all : before.out ++ text ≡ trace_text limits (h.0 ++ t.0) =
    ap (λ (bytes : List ℕ). bytes ++ text) h.4 ∙ ap (λ (bytes : List ℕ). trace_text limits h.0 ++ bytes) told
    ∙ append_assoc (first_line limits) (lines_text h.0) piece ∙ ap (λ (bytes : List ℕ). first_line limits ++ bytes) (sym (lines_append h.0 t.0))
    in
    (step, e, (h.0 ++ t.0, t.1, runs_then flag_meld (nothing limits) h.1 t.1 before.items (step ∷ []) h.0 t.0 h.2 t.2, t.3, all))

-- a line begins a call of a rank that has one under way
pub finds_open : (Before : TraceState → Type 0) (before : RunSoFar step_scripts) (line : List ℕ) (step : ScriptStep)
    (h : Traces Before before.heading.limits before.items before.out) → step_line_of line ≡ Ok step → IsOpenCall h.1 step
    → HasFault step_scripts before (step_line_of line) Open
finds_open Before before line step h e is =
    let lines : List ScriptStep = before.items in
    let found : (behind : List ScriptStep) → FindsOpenCall before.heading.limits (lines ++ step ∷ behind) (length lines + 2) Open before.out = λ behind. (
      h.0,
      refl,
      record {
        first = lines;
        asked = is.0;
        padded = is.1.0;
        behind = behind;
        lines_are = ap (λ (s : ScriptStep). lines ++ s ∷ behind) is.1.1;
        number_is = refl;
        now = h.1;
        runs = h.2;
        is_open = is.2;
      },
      h.4,
    ) in
    inr (step, e, found)

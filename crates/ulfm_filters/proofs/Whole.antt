-- What a run of a step script has written at its end is a legal text.
use Rattle.std.proofs.Common.{◌≡◌, ◌⊎◌, ℕ, ◌+◌, ◌*◌, ◌<◌, ◌≤◌, Bool, true, false, List, [], ◌∷◌, ◌++◌, length, map, nat_le, nat_lt, ◌&&◌, Option, Some, None, Result, Ok, Err, refl, sym, ap, subst, ◌∙◌, append-nil, append_assoc, length-append, arith, inl, inr, if◌then◌else◌}
use Rattle.std.specs.{Prelude.{codes}, Fmt.{decimal}, List.{AllByRecursion}, Io.KnownBytes.{Appends}}
use Rattle.std.proofs.lemmas.Bool.{and_parts, leb-true, ltb-true}
use Rattle.ulfm_laws.specs.{Flags.{flag_meld}, declared.flag_and.FlagAnd.{FlagAnd}}
use Rattle.ulfm_model.specs.declared.limits.Limits.{Limits}
use Rattle.ulfm_model.specs.{History.{IsLegal}, Words.{MayOpen, size_of}}
use Rattle.ulfm_model.proofs.Lists.{each_append}
use Rattle.ulfm_script.specs.declared.{header_kind.HeaderKind.TheVariants.{Steps, Trace}, heading.Heading.{Heading}, line_kind.LineKind.{LineKind}, line_kind.LineKind.TheVariants.{Limits as BadLimits, Long}}
use Rattle.ulfm_script.specs.{Written.{IsBeginning}, Ends.{EndsAlone, FindsFault, PrintsAll, PrintsSome, RunEnd, KnownText, PrintsFrom, RunsAll}, Headers.{form_from, header_of, header_text, heading_of, in_version, is_up_to, may_open, version_of}, Scripts.{Language, Script, asked_by, header_at, lines_from, no_lines, rest_from, script_by, script_of, with_header}, Words.{first_word}}
use Rattle.ulfm_script.proofs.{ScriptLemmas.{lines_step, rest_step}, WordLemmas.{step_found}}
use Rattle.ulfm_model.specs.declared.{line.Line.{Line}, step_line.StepLine.TheVariants.{Failed}}
use Rattle.ulfm_model.specs.{Traces.{AreLegalAfter, IsLegalTrace, MayCome, Told, after, nothing, said_by}}
use Rattle.ulfm_model.proofs.{Answered.{replies_answered}, Kept.{kept_along, kept_nothing as nothing_kept, limits_stay}, Parts.{legal_parts, said_append}}
use Rattle.ulfm_lines.specs.{LineTexts.{TraceLine, line_text, lines_text}, StepLines.{ScriptStep}, Stepped.{IsSpelledStep, TraceState}, Telling.{TextTells}}
use Rattle.ulfm_lines.proofs.ReadLemmas.{printed_told}
use Rattle.ulfm_run.specs.{FailingScripts.{failing_scripts, FailsAfter, FailsSomewhere, FindsOpenBehind, LeavesDue, RunsFailing}, StepScripts.{FindsOpenCall, PrintsTrace, RunsSteps, trace_text}}
use Rattle.ulfm_trace.specs.{Checks.{Checks}, Texts.{AreTold, IsFirstBad, IsLegalText, TraceLines}}
use Rattle.ulfm_trace.specs.declared.verdict.{Verdict.{Verdict}, Verdict.TheVariants.{Illegal, Legal}}
use Rattle.ulfm_trace.proofs.{Beginnings.{one_law}, TextLines.{first_then}}
use Rattle.ulfm_filters.specs.Written.{GotLegal, IsFoundLegal, IsNoneOrLegal, WroteLegal}
use Rattle.ulfm_script.specs.declared.fault.RunFault.TheVariants as fault
use Rattle.ulfm_filters.specs.Calls.{AllFit, CalledFits, calls_in}
use Rattle.ulfm_filters.proofs.{Counts.{lines_few}, Following.{StepLanguage, calls_append, follows_begins, lines_spell, piece_begins}, Lasting.{IsAnswered, Keeps, kept_after, kept_nothing}}
use Rattle.ulfm_script.proofs.Short.{Short}
use Rattle.ulfm_filters.proofs.{Short.{header_short, line_short}, Sizes.{events_few}, Tellable.{IsTellable, line_tells, told_group}}

-- each line can be told
abbrev AllTellable : TraceLines → Type 0
AllTellable trace = AllByRecursion (λ (told : Told FlagAnd). IsTellable told.group told.line) trace

-- each reply is an answer
answer_of : (limits : Limits) (before rest : TraceLines) (group : List ℕ) (line : TraceLine) → IsLegalTrace flag_meld limits (before ++ record { line = line; group = group } ∷ rest)
    → IsAnswered (said_by (nothing limits) before) line
answer_of limits before rest group (Line.Called asked padded) legal = tt
answer_of limits before rest group (Line.Looked r count) legal = tt
answer_of limits before rest group (Line.Happened by event) legal = tt
answer_of limits before rest group (Line.Replied by point None) legal = tt
answer_of limits before rest group (Line.Replied by point (Some reply)) legal = replies_answered flag_meld limits before rest by point reply group legal

tellable : (limits : Limits) → MayOpen limits → (before rest : TraceLines) → IsLegalTrace flag_meld limits (before ++ rest) → AllFit rest → Keeps (said_by (nothing limits) before) → AllTellable rest
tellable limits wide before [] legal fits kept = tt
tellable limits wide before (told ∷ rest) legal fits kept =
    let now : TraceState = said_by (nothing limits) before in
    let may = (legal_parts flag_meld (nothing limits) before (told ∷ rest) legal).1.0 in
    let answered = answer_of limits before rest told.group told.line legal in
    let here : MayOpen now.limits = subst MayOpen (sym (limits_stay flag_meld (nothing limits) before)) wide in
    let next : Keeps (said_by (nothing limits) (before ++ told ∷ [])) =
    subst Keeps (sym (said_append (nothing limits) before (told ∷ []))) (kept_after now told.group told.line may fits.0 answered kept) in (
      line_tells now here kept told.group told.line may fits.0 answered,
      tellable limits wide (before ++ told ∷ []) rest (subst (IsLegalTrace flag_meld limits) (sym (append_assoc before (told ∷ []) rest)) legal) fits.1 next,
    )

-- the texts of lines
abbrev texts : TraceLines → List (List ℕ)
texts [] = []
texts (told ∷ rest) = line_text told.group told.line ∷ texts rest

-- lines with the ranks that they list
abbrev listing : Told FlagAnd → Told FlagAnd
listing told = record { line = told.line; group = told_group told.group told.line }

text_same : (group : List ℕ) (line : TraceLine) → line_text (told_group group line) line ≡ line_text group line
text_same group (Line.Called asked padded) = refl
text_same group (Line.Looked r count) = refl
text_same group (Line.Happened by event) = refl
text_same group (Line.Replied by point told) = refl

text_short : (group : List ℕ) (line : TraceLine) → IsTellable group line → Short 8192 (line_text group line)
text_short group line is = subst (Short 8192) (text_same group line) (line_short (told_group group line) line is.fits is.few)

text_tells : (group : List ℕ) (line : TraceLine) → IsTellable group line → TextTells (line_text group line) (told_group group line) line
text_tells group line is =
    let short = line_short (told_group group line) line is.fits is.few in
    subst (λ (t : List ℕ). TextTells t (told_group group line) line) (text_same group line) (printed_told (told_group group line) line is.fits short.few)

texts_tell : (trace : TraceLines) → AllTellable trace → AreTold (texts trace) (map listing trace)
texts_tell [] all = tt
texts_tell (told ∷ rest) all = (text_tells told.group told.line all.0, texts_tell rest all.1)

texts_stand : (trace : TraceLines) → AllTellable trace → (lines_from [] (lines_text trace) ≡ texts trace) × (rest_from [] (lines_text trace) ≡ [])
texts_stand [] all = (refl, refl)
texts_stand (told ∷ rest) all =
    let text = line_text told.group told.line in
    let free = (text_short told.group told.line all.0).free in
    let more = texts_stand rest all.1 in
    (lines_step [] text (lines_text rest) free ∙ ap (λ (ts : List (List ℕ)). text ∷ ts) more.0, rest_step [] text (lines_text rest) free ∙ more.1)

texts_length : (trace : TraceLines) → length (texts trace) ≡ length trace
texts_length [] = refl
texts_length (told ∷ rest) = let more = texts_length rest in omega (arith, more)

-- a line may come whatever ranks stand beside it, where it lists none
may_list : (now : TraceState) (group : List ℕ) (line : TraceLine) → MayCome flag_meld now group line → MayCome flag_meld now (told_group group line) line
may_list now group (Line.Called asked padded) may = may
may_list now group (Line.Looked r count) may = may
may_list now group (Line.Happened by None) may = may
may_list now group (Line.Happened by (Some event)) may = may
may_list now group (Line.Replied by point told) may = may

legal_listing : (now : TraceState) (trace : TraceLines) → AreLegalAfter flag_meld now trace → AreLegalAfter flag_meld now (map listing trace)
legal_listing now [] legal = tt
legal_listing now (told ∷ rest) legal = (may_list now told.group told.line legal.0, legal_listing (after now told.line) rest legal.1)

-- the text of a legal trace with few calls, each of which some line spells, is a legal text
legal_text : (limits : Limits) → MayOpen limits → (trace : TraceLines) → IsLegalTrace flag_meld limits trace → AllFit trace → size_of limits + 3 * calls_in trace < 5000000 → IsLegalText (trace_text limits trace)
legal_text limits wide trace legal fits few =
    let all = tellable limits wide [] trace legal fits (kept_nothing limits) in
    let stand = texts_stand trace all in
    let header = header_text Trace limits in
    let short = header_short limits wide in
    let said : TraceState = said_by (nothing limits) trace in
    let kept = kept_along flag_meld (nothing limits) trace legal (nothing_kept flag_meld limits) in
    let events = events_few flag_meld limits wide said.history (subst (λ (l : Limits). IsLegal flag_meld l said.history) (limits_stay flag_meld (nothing limits) trace) kept.legal) in
    let count = lines_few (nothing limits) trace legal in
    let lines : lines_from [] (trace_text limits trace) ≡ header ∷ texts trace =
    first_then header (lines_text trace) short.free ∙ ap (λ (ts : List (List ℕ)). header ∷ ts) stand.0 in
    let size : length (lines_from [] (trace_text limits trace)) ≡ length (header ∷ texts trace) = ap length lines in
    let same = texts_length trace in (
      limits,
      map listing trace,
      record {
        header = header;
        texts = texts trace;
        lines_are = lines;
        few = omega (arith, size, same, count, events, few);
        is_header = record { may_open = wide; short = short.few; text_is = refl };
        told = texts_tell trace all;
        legal = legal_listing (nothing limits) trace legal;
      },
      ap (rest_from []) (append_assoc header (10 ∷ []) (lines_text trace)) ∙ rest_step [] header (lines_text trace) short.free ∙ stand.1,
    )

-- whatever checks a legal text, and answers, answers so
found_legal : (text : List ℕ) → IsLegalText text → IsFoundLegal text
found_legal text legal = record { legal = legal; only = only }
  where
    only : (left : KnownText) (verdict : Verdict) → Checks (Some text) left (Ok verdict) → verdict ≡ Legal
    only left Legal checks = refl
    only left (Illegal line why) checks =
        let bad : IsFirstBad text line why = subst (λ (t : List ℕ). IsFirstBad t line why) checks.2.1 checks.2.2 in
        absurd ((one_law.once text).apart line why bad legal)

-- so it is with every legal trace of few calls
pub printed_legal : (limits : Limits) (trace : TraceLines) → MayOpen limits → IsLegalTrace flag_meld limits trace → AllFit trace → size_of limits + 3 * calls_in trace < 5000000 → IsFoundLegal (trace_text limits trace)
printed_legal limits trace wide legal fits few = found_legal (trace_text limits trace) (legal_text limits wide trace legal fits few)

-- a header of a script gives limits that may be opened
opens_if : (limits : Limits) → may_open limits ≡ true → MayOpen limits
opens_if limits is =
    let small : Bool = nat_le (size_of limits) 4194304 in
    let ranks : Bool = is_up_to 1024 limits.ranks in
    let comms : Bool = is_up_to 256 limits.comms in
    let rounds : Bool = is_up_to 4096 limits.rounds in
    let all = and_parts (ranks && comms && rounds) small is in
    let two = and_parts (ranks && comms) rounds all.0 in
    let one = and_parts ranks comms two.0 in
    let r = and_parts (nat_lt 0 limits.ranks) (nat_le limits.ranks 1024) one.0 in
    let c = and_parts (nat_lt 0 limits.comms) (nat_le limits.comms 256) one.1 in
    let k = and_parts (nat_lt 0 limits.rounds) (nat_le limits.rounds 4096) two.1 in
    record {
      in_range = record {
        some_ranks = ltb-true 0 limits.ranks r.0;
        ranks = leb-true limits.ranks 1024 r.1;
        some_comms = ltb-true 0 limits.comms c.0;
        comms = leb-true limits.comms 256 c.1;
        some_rounds = ltb-true 0 limits.rounds k.0;
        rounds = leb-true limits.rounds 4096 k.1;
      };
      small = leb-true (size_of limits) 4194304 all.1;
    }

opened : (b : Bool) (x y : Limits) → (if b then Ok x else Err BadLimits) ≡ Ok y → (b ≡ true) × (x ≡ y)
opened true x y is = (refl, cc is)
opened false x y is = absurd (cc is)

header_opens : (line : List ℕ) (limits : Limits) → header_of Steps line ≡ Ok limits → MayOpen limits
unfolding header_of
header_opens line limits is =
    let a = step_found (form_from Steps (first_word line)) (λ l. if may_open l then Ok l else Err BadLimits) limits is in
    let both = opened (may_open a.0) a.0 limits a.2 in
    subst MayOpen both.1 (opens_if a.0 both.0)

heading_opens : (line : List ℕ) (heading : Heading) → heading_of Steps line ≡ Ok heading → MayOpen heading.limits
heading_opens line heading is = go (header_of Steps line) refl is
  where
    go : (read : Result Limits LineKind) → header_of Steps line ≡ read → in_version (version_of Steps) read ≡ Ok heading → MayOpen heading.limits
    go (Err kind) at is = absurd (cc is)
    go (Ok limits) at is =
        let found : Heading = record { version = version_of Steps; limits = limits } in
        let same : found ≡ heading = cc is in
        subst (λ (h : Heading). MayOpen h.limits) same (header_opens line limits at)

-- the items of a script of steps in a world of these limits
pub record Spells (limits : Limits) (items : List ScriptStep) : Type 0 where
  wide : MayOpen limits
  steps : AllByRecursion IsSpelledStep items
  few : length items ≤ 99999

-- each of both parts is one
each_parts : {X : Type 0} (Q : X → Type 0) (xs ys : List X) → AllByRecursion Q (xs ++ ys) → AllByRecursion Q xs × AllByRecursion Q ys
each_parts Q [] ys all = (tt, all)
each_parts Q (x ∷ xs) ys all = let more = each_parts Q xs ys all.1 in ((all.0, more.0), more.1)

-- and so are the first of them
first_spell : (limits : Limits) (first items : List ScriptStep) → IsBeginning first items → Spells limits items → Spells limits first
first_spell limits first items begins spells =
    let all = spells.few in
    let size : length first + length begins.0 ≡ length items = sym (length-append first begins.0) ∙ ap length begins.1 in
    record {
      wide = spells.wide;
      steps = (each_parts IsSpelledStep first begins.0 (subst (AllByRecursion IsSpelledStep) (sym begins.1) spells.steps)).0;
      few = omega (arith, all, size);
    }

module _ (Prints : Limits → List ScriptStep → List ℕ → Type 0) (Finds : Limits → List ScriptStep → ℕ → LineKind → List ℕ → Type 0) where
  abbrev lang : Language
  lang = StepLanguage Prints Finds

  header_at_opens : (line : List ℕ) (heading : Heading) → header_at lang line ≡ Ok heading → MayOpen heading.limits
  header_at_opens line heading is = go (nat_lt 64 (length line)) is
    where
      go : (long : Bool) → (if long then Err Long else heading_of Steps line) ≡ Ok heading → MayOpen heading.limits
      go true is = absurd (cc is)
      go false is = heading_opens line heading is

  -- a text that has no line has a fault, and no header
  no_lines_open : (rest : List ℕ) (heading : Heading) → (no_lines {X = ScriptStep} rest).heading ≡ Some heading → ⊥
  no_lines_open [] heading is = cc is
  no_lines_open (x ∷ xs) heading is = cc is

  no_lines_fault : (rest : List ℕ) → (no_lines {X = ScriptStep} rest).fault ≡ None → ⊥
  no_lines_fault [] none = cc none
  no_lines_fault (x ∷ xs) none = cc none

  -- a first line, and the lines behind it
  abbrev read_with : Result Heading LineKind → List (List ℕ) → List ℕ → Script ScriptStep
  read_with read lines rest = with_header read (λ version. asked_by lang version 2 lines rest)

  spells_by : (lines : List (List ℕ)) (rest : List ℕ) (heading : Heading) → (script_by lang lines rest).heading ≡ Some heading → Spells heading.limits (script_by lang lines rest).items
  spells_by [] rest heading is = absurd (no_lines_open rest heading is)
  spells_by (line ∷ lines) rest heading is = go (header_at lang line) refl is
    where
      go : (read : Result Heading LineKind) → header_at lang line ≡ read → (read_with read lines rest).heading ≡ Some heading → Spells heading.limits (read_with read lines rest).items
      go (Err kind) at is = absurd (cc is)
      go (Ok found) at is =
          let spell = lines_spell Prints Finds found.version 2 lines rest in
          let one : found ≡ heading = cc is in
          record { wide = subst (λ (h : Heading). MayOpen h.limits) one (header_at_opens line found at); steps = spell.0; few = omega (arith, spell.1) }

  opened_by : (lines : List (List ℕ)) (rest : List ℕ) → (script_by lang lines rest).fault ≡ None → (heading : Heading) × ((script_by lang lines rest).heading ≡ Some heading)
  opened_by [] rest none = absurd (no_lines_fault rest none)
  opened_by (line ∷ lines) rest none = go (header_at lang line) none
    where
      go : (read : Result Heading LineKind) → (read_with read lines rest).fault ≡ None → (heading : Heading) × ((read_with read lines rest).heading ≡ Some heading)
      go (Err kind) none = absurd (cc none)
      go (Ok found) none = (found, refl)

  -- the items of a text, where its script has a header
  text_spells : (text : List ℕ) (heading : Heading) → (script_of lang text).heading ≡ Some heading → Spells heading.limits (script_of lang text).items
  unfolding script_of
  text_spells text heading is = spells_by (lines_from [] text) (rest_from [] text) heading is

  -- it has one where it has no fault
  text_opens : (text : List ℕ) → (script_of lang text).fault ≡ None → (heading : Heading) × ((script_of lang text).heading ≡ Some heading)
  unfolding script_of
  text_opens text none = opened_by (lines_from [] text) (rest_from [] text) none

-- a trace of steps that some lines spell
trace_legal : (limits : Limits) (items : List ScriptStep) (out : List ℕ) → Spells limits items → PrintsTrace limits items out → IsFoundLegal out
trace_legal limits items out spells printed =
    let begins = follows_begins (nothing limits) items printed.0 spells.steps printed.2.follows in
    let few = begins.1 in
    let most = spells.few in
    let small = spells.wide.small in
    let legal = legal_text limits spells.wide printed.0 printed.2.legal begins.0 (omega (arith, few, most, small)) in
    found_legal out (subst IsLegalText (sym printed.3) legal)

-- a text whose items print nothing but legal texts
module _ (Prints : Limits → List ScriptStep → List ℕ → Type 0) (Finds : Limits → List ScriptStep → ℕ → LineKind → List ℕ → Type 0)
    (each_legal : (limits : Limits) (items : List ScriptStep) (out : List ℕ) → Spells limits items → Prints limits items out → IsFoundLegal out) where
  abbrev scripts : Language
  scripts = StepLanguage Prints Finds

  -- what the first items of a text print
  first_legal : (text : List ℕ) (o : Option Heading) (first : List ScriptStep) (out : List ℕ) → (script_of scripts text).heading ≡ o → IsBeginning first (script_of scripts text).items
      → PrintsFrom scripts o first out → IsNoneOrLegal out
  first_legal text None first out is begins printed = inl printed
  first_legal text (Some heading) first out is begins printed =
      inr (each_legal heading.limits first out (first_spell heading.limits first (script_of scripts text).items begins (text_spells Prints Finds text heading is)) printed)

  all_legal : (text out : List ℕ) → PrintsAll scripts text out → IsNoneOrLegal out
  all_legal text out printed =
      let items = (script_of scripts text).items in
      first_legal text (script_of scripts text).heading items out refl ([], append-nil items) printed

  some_legal : (text out : List ℕ) → PrintsSome scripts text out → IsNoneOrLegal out
  some_legal text out (inl none) = inl none
  some_legal text out (inr some) = first_legal text (script_of scripts text).heading some.0 out refl some.1 some.2

  -- what a run has written
  pub ended_legal : (known left old new : KnownText) (ended : RunEnd) → EndsAlone scripts known left old new ended → WroteLegal old new ended
  ended_legal known left old new (Ok done) ends =
      let ran : RunsAll scripts known None (Appends old new) = ends.2.0 in
      let run = ran.0 in
      let is = text_opens Prints Finds run.text run.faults in
      let items = (script_of scripts run.text).items in
      let printed : Prints is.0.limits items run.out = subst (λ (o : Option Heading). PrintsFrom scripts o items run.out) is.1 run.printed in
      (run.out, ran.1, each_legal is.0.limits items run.out (text_spells Prints Finds run.text is.0 is.1) printed)
  ended_legal known left old new (Err (fault.Line number kind)) ends = go ends.2.0
    where
      go : RunsAll scripts known (Some (number, kind)) (Appends old new) ⊎ FindsFault scripts known number kind (Appends old new) → WroteLegal old new (Err (fault.Line number kind))
      go (inl ran) = (ran.0.out, ran.1, all_legal ran.0.text ran.0.out ran.0.printed)
      go (inr found) = (found.0.out, found.1, some_legal found.0.text found.0.out found.0.printed)
  ended_legal known left old new (Err fault.Memory) ends = let stops = ends.2 in (stops.0.out, stops.1, all_legal stops.0.lines stops.0.out stops.0.printed)
  ended_legal known left old new (Err fault.Read) ends = let stops = ends.2.0 in (stops.0.out, stops.1, all_legal stops.0.lines stops.0.out stops.0.printed)
  ended_legal known left old new (Err fault.Write) ends = let stops = ends.2 in (stops.out, stops.told, some_legal stops.text stops.out stops.printed)

pub written_legal : (known left old new : KnownText) (ended : RunEnd) → RunsSteps known left old new ended → WroteLegal old new ended
written_legal = ended_legal PrintsTrace FindsOpenCall trace_legal

-- a declaration in between begins one call more
failing_begins : (limits : Limits) (r at steps : ℕ) (trace rest : TraceLines) → r < 1024 → LeavesDue limits r at steps trace rest → AllFit rest → AllFit trace × (calls_in trace ≤ calls_in rest + 1)
failing_begins limits r at steps trace rest lt (inl none) fits =
    let same : calls_in trace ≡ calls_in rest = ap calls_in none.1.same in (subst AllFit (sym none.1.same) fits, omega (arith, same))
failing_begins limits r at steps trace rest lt (inr left) fits =
    let Q : Told FlagAnd → Type 0 = λ told. CalledFits told.line in
    let parts = each_parts Q left.before left.behind (subst AllFit left.rest_is fits) in
    let declared = piece_begins (nothing limits) (Failed r) left.declaration (codes "fail " ++ decimal r, (lt, refl)) left.declares in
    let one = declared.1 in
    let whole : calls_in trace ≡ calls_in left.before + (calls_in left.declaration + calls_in left.behind) =
    ap calls_in left.trace_is ∙ (calls_append left.before (left.declaration ++ left.behind) ∙ ap (λ n. calls_in left.before + n) (calls_append left.declaration left.behind)) in
    let part : calls_in rest ≡ calls_in left.before + calls_in left.behind = ap calls_in left.rest_is ∙ calls_append left.before left.behind in (
      subst AllFit (sym left.trace_is) (each_append Q left.before (left.declaration ++ left.behind) parts.0 (each_append Q left.declaration left.behind declared.0 parts.1)),
      omega (arith, whole, part, one),
    )

-- a trace that steps which some lines spell tell, with a declaration in between
after_legal : (at r number : ℕ) (limits : Limits) (items : List ScriptStep) (out : List ℕ) → r < 1024 → Spells limits items → FailsAfter at r number limits items out → IsFoundLegal out
after_legal at r number limits items out lt spells failed =
    let begins = follows_begins (nothing limits) items failed.rest spells.steps failed.follows in
    let all = failing_begins limits r at failed.counted.steps failed.trace failed.rest lt failed.left_out begins.0 in
    let few = begins.1 in
    let most = spells.few in
    let one = all.1 in
    let small = spells.wide.small in
    let legal = legal_text limits spells.wide failed.trace failed.counted.legal all.0 (omega (arith, few, most, one, small)) in
    found_legal out (subst IsLegalText (sym failed.out_is) legal)

-- what a run to its end has written in which a rank was declared in between
pub failing_legal : (at rank number : ℕ) (known old new : KnownText) → rank < 1024 → RunsFailing at rank number known old new → GotLegal old new
failing_legal at rank number known old new lt run =
    let heading_is : (script_of failing_scripts run.text).heading ≡ Some run.heading = ap (λ (s : Script ScriptStep). s.heading) run.script_is in
    let items_are : (script_of failing_scripts run.text).items ≡ run.items = ap (λ (s : Script ScriptStep). s.items) run.script_is in
    let spells = subst (Spells run.heading.limits) items_are (text_spells FailsSomewhere FindsOpenBehind run.text run.heading heading_is) in
    (run.out, run.told, after_legal at rank number run.heading.limits run.items run.out lt spells run.has_run)

-- and what any such run has written
pub failing_ended_legal : (known left old new : KnownText) (ended : RunEnd) → EndsAlone failing_scripts known left old new ended → WroteLegal old new ended
failing_ended_legal =
    ended_legal FailsSomewhere FindsOpenBehind
    (λ limits items out spells printed. after_legal printed.0 printed.1 printed.2 limits items out printed.3 spells printed.4)

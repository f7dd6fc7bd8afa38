-- Texts that are to be migrated are read as runs read them.
use Rattle.std.proofs.Common.{◌≡◌, ℕ, ◌+◌, ◌≤◌, Bool, true, false, cond, List, [], ◌∷◌, length, Some, None, Result, Ok, Err, refl, sym, ap, subst, ◌∙◌, inl, inr}
use Rattle.std.specs.Prelude.{nat_lt}
use Rattle.std.proofs.lemmas.{Bool.{cases_lt, lt-ltb, le-ltb}}
use Rattle.ulfm_model.specs.{declared.limits.Limits.{Limits}, Words.{MayOpen}}
use Rattle.ulfm_script.specs.declared.{heading.Heading.{Heading}, line_kind.LineKind.{LineKind}}
use Rattle.ulfm_script.specs.declared.{header_kind.HeaderKind.TheVariants.{Calls}, line_kind.LineKind.TheVariants.{Header, Long}, version.Version.TheVariants.{First, Second}}
use Rattle.ulfm_script.specs.{Calls.{ScriptCall, call_of}, Headers.{header_of, heading_of, in_version, or_header}, Runs.{call_scripts}, Spelling.{Spells}}
use Rattle.ulfm_script.specs.Scripts.{Parsed, Script, asked_by, asked_last, asked_then, header_at, item_at, no_lines, script_by, with_header}
use Rattle.ulfm_script.proofs.{HeaderLemmas.{first_is_not_second, header_opens}, Spelled.{read_is_spelled}}
use Rattle.ulfm_filters.specs.Migrations.{migrations}

-- lines of the first version are read alike
asked_same : (number : ℕ) (lines : List (List ℕ)) (rest : List ℕ) → asked_by migrations First number lines rest ≡ asked_by call_scripts First number lines rest
asked_same number [] rest = refl
asked_same number (line ∷ lines) rest = ap (λ (p : Parsed ScriptCall). asked_then number (item_at call_scripts First number line) p) (asked_same (number + 1) lines rest)

with_same : (lines : List (List ℕ)) (rest : List ℕ) (read : Result Limits LineKind)
    → with_header (in_version First read) (λ version. asked_by migrations version 2 lines rest)
    ≡ with_header (in_version First read) (λ version. asked_by call_scripts version 2 lines rest)
with_same lines rest (Ok limits) = ap (λ (p : Parsed ScriptCall). with_header (in_version First (Ok limits)) (λ version. p)) (asked_same 2 lines rest)
with_same lines rest (Err kind) = refl

-- and so is a text whose first line is no header of the second version
pub read_same : (line rest : List ℕ) (lines : List (List ℕ)) → header_of (Calls Second) line ≡ Err Header
    → script_by migrations (line ∷ lines) rest ≡ script_by call_scripts (line ∷ lines) rest
read_same line rest lines none = go (nat_lt 64 (length line))
  where
    Both : Result Heading LineKind → Result Heading LineKind → Type 0
    Both one other =
        with_header one (λ version. asked_by migrations version 2 lines rest) ≡ with_header other (λ version. asked_by call_scripts version 2 lines rest)

    headings : or_header (heading_of (Calls Second) line) (heading_of (Calls First) line) ≡ heading_of (Calls First) line
    headings = ap (λ read. or_header (in_version Second read) (heading_of (Calls First) line)) none

    go : (long : Bool) → Both (cond long (Err Long) (heading_of (Calls First) line))
        (cond long (Err Long) (or_header (heading_of (Calls Second) line) (heading_of (Calls First) line)))
    go true = refl
    go false = subst (Both (heading_of (Calls First) line)) (sym headings) (with_same lines rest (header_of (Calls First) line))

-- calls of lines from this number on: each is spelled by a line, and stands within the lines that a script may have
abbrev pub Fine : ℕ → List ScriptCall → Type 0
Fine number [] = Unit {0}
Fine number (call ∷ calls) = (number ≤ 100000) × ((line : List ℕ) × Spells line call) × Fine (number + 1) calls

item_fine : (number : ℕ) (line : List ℕ) (call : ScriptCall) → item_at migrations First number line ≡ Ok call → (number ≤ 100000) × (call_of line ≡ Ok call)
item_fine number line call = elim (cases_lt 64 (length line)) as (λ _. item_at migrations First number line ≡ Ok call → (number ≤ 100000) × (call_of line ≡ Ok call)) [
  | inl long ↦ rw (lt-ltb 64 (length line) long) (λ e. absurd cc)
  | inr short ↦ elim (cases_lt 100000 number) as (λ _. item_at migrations First number line ≡ Ok call → (number ≤ 100000) × (call_of line ≡ Ok call)) [
    | inl past ↦ rw (le-ltb 64 (length line) short, lt-ltb 100000 number past) (λ e. absurd cc)
    | inr fits ↦ rw (le-ltb 64 (length line) short, le-ltb 100000 number fits) (λ e. (fits, e))
  ]
]

-- a faultless text has such calls alone
fine : (number : ℕ) (lines : List (List ℕ)) (rest : List ℕ) → Fine number (asked_by migrations First number lines rest).items
fine number [] rest = last rest
  where
    last : (rest : List ℕ) → Fine number (asked_last {X = ScriptCall} number rest).items
    last [] = tt
    last (x ∷ xs) = tt
fine number (line ∷ lines) rest = go (fine (number + 1) lines rest) (item_at migrations First number line) refl
  where
    go : Fine (number + 1) (asked_by migrations First (number + 1) lines rest).items → (read : Result ScriptCall LineKind)
        → item_at migrations First number line ≡ read
        → Fine number (asked_then number read (asked_by migrations First (number + 1) lines rest)).items
    go more (Err kind) e = tt
    go more (Ok call) e = let h = item_fine number line call e in (h.0, (line, read_is_spelled line call h.1), more)

-- a script without a fault
abbrev pub whole : Heading → List ScriptCall → Script ScriptCall
whole heading calls = record { heading = Some heading; items = calls; fault = None }

-- a header of the first version, by what it gives
header_fine : (line : List ℕ) (heading : Heading) → header_at migrations line ≡ Ok heading
    → (limits : Limits) × (record { version = First; limits = limits } ≡ heading) × (header_of (Calls First) line ≡ Ok limits)
header_fine line heading = elim (cases_lt 64 (length line)) as (λ _. header_at migrations line ≡ Ok heading → (limits : Limits) × (record { version = First; limits = limits } ≡ heading) × (header_of (Calls First) line ≡ Ok limits)) [
  | inl long ↦ rw (lt-ltb 64 (length line) long) (λ e. absurd cc)
  | inr short ↦ rw (le-ltb 64 (length line) short) (λ e. go (header_of (Calls First) line) refl e)
]
  where
    go : (read : Result Limits LineKind) → header_of (Calls First) line ≡ read → in_version First read ≡ Ok heading
        → (limits : Limits) × (record { version = First; limits = limits } ≡ heading) × (header_of (Calls First) line ≡ Ok limits)
    go (Ok limits) is e = (limits, cc, is)
    go (Err kind) is e = absurd cc

-- What the lines of a faultless text that is to be migrated tell: its header is of the first version, a world of its limits may be opened, its calls
-- are fine, and a run reads it alike.
pub record ReadsFine (lines : List (List ℕ)) (rest : List ℕ) (heading : Heading) (calls : List ScriptCall) : Type 0 where
  pub version : heading.version ≡ First
  pub opens : MayOpen heading.limits
  pub fine : Fine 2 calls
  pub same : script_by call_scripts lines rest ≡ whole heading calls

no_lines_none : (rest : List ℕ) → (no_lines {X = ScriptCall} rest).heading ≡ None
no_lines_none [] = refl
no_lines_none (x ∷ xs) = refl

pub reads_fine : (lines : List (List ℕ)) (rest : List ℕ) (heading : Heading) (calls : List ScriptCall) → script_by migrations lines rest ≡ whole heading calls
    → ReadsFine lines rest heading calls
reads_fine [] rest heading calls e =
    let none : None ≡ Some heading = sym (no_lines_none rest) ∙ ap (λ (s : Script ScriptCall). s.heading) e in absurd cc
reads_fine (line ∷ lines) rest heading calls e = go (header_at migrations line) refl e
  where
    go : (read : Result Heading LineKind) → header_at migrations line ≡ read
        → with_header read (λ version. asked_by migrations version 2 lines rest) ≡ whole heading calls → ReadsFine (line ∷ lines) rest heading calls
    go (Err kind) is f = let none : None ≡ Some heading = ap (λ (s : Script ScriptCall). s.heading) f in absurd cc
    go (Ok own) is f =
        let h = header_fine line own is in
        let first : own.version ≡ First = ap (λ (x : Heading). x.version) (sym h.1) in
        let same : own ≡ heading = (let some : Some own ≡ Some heading = ap (λ (s : Script ScriptCall). s.heading) f in cc) in
        let items : (asked_by migrations own.version 2 lines rest).items ≡ calls = ap (λ (s : Script ScriptCall). s.items) f in
        record {
          version = ap (λ (x : Heading). x.version) (sym same) ∙ first;
          opens = subst (λ (x : Heading). MayOpen x.limits) (h.1 ∙ same) (header_opens (Calls First) line h.0 h.2);
          fine = subst (Fine 2) (ap (λ version. (asked_by migrations version 2 lines rest).items) (sym first) ∙ items) (fine 2 lines rest);
          same = sym (read_same line rest lines (first_is_not_second line h.0 h.2)) ∙ e;
        }

-- What the text of a script asks for, whatever kind of script it is.
use Rattle.std.specs.Prelude.{ℕ, ◌+◌, List, [], ◌∷◌, ◌++◌, length, Option, Some, None, Result, Ok, Err, ◌==◌, nat_lt, if◌then◌else◌}
use Rattle.ulfm_model.specs.declared.limits.Limits.{Limits}
use Rattle.ulfm_script.specs.declared.{heading.Heading.{Heading}, version.Version.{Version}}
use Rattle.ulfm_script.specs.declared.line_kind.LineKind.{LineKind}
use Rattle.ulfm_script.specs.declared.line_kind.LineKind.TheVariants.{Cut, Long, Lines, Header}

-- A kind of script: what a line asks for; what its first line gives, or the fault in it; how a line is read in a script of this version, or the
-- first fault in it; what running such items prints on a new world of these limits; and the fault that running them finds though no line alone
-- shows it: its line's number, its kind, and what is printed before.
pub record Language : Type 1 where
  pub Item : Type 0
  pub heading : List ℕ → Result Heading LineKind
  pub read : Version → List ℕ → Result Item LineKind
  pub Prints : Limits → List Item → List ℕ → Type 0
  pub Finds : Limits → List Item → ℕ → LineKind → List ℕ → Type 0

-- the items of some lines up to the first fault, if there is one: its line's number and its kind
pub record Parsed (X : Type 0) : Type 0 where
  pub items : List X
  pub fault : Option (ℕ × LineKind)

-- the same with what the first line gives, where it is a header
pub record Script (X : Type 0) : Type 0 where
  pub heading : Option Heading
  pub items : List X
  pub fault : Option (ℕ × LineKind)

-- the lines that a newline ends, where the first one has this beginning
abbrev pub lines_from : List ℕ → List ℕ → List (List ℕ)
lines_from front [] = []
lines_from front (x ∷ xs) = if x == 10 then front ∷ lines_from [] xs else lines_from (front ++ x ∷ []) xs

-- what stands behind the last newline
abbrev pub rest_from : List ℕ → List ℕ → List ℕ
rest_from front [] = front
rest_from front (x ∷ xs) = if x == 10 then rest_from [] xs else rest_from (front ++ x ∷ []) xs

-- the item of a line of this number in a script of this version, or the first fault of the line
abbrev pub item_at : (lang : Language) → Version → ℕ → List ℕ → Result lang.Item LineKind
item_at lang version number line = if nat_lt 64 (length line) then Err Long else (if nat_lt 100000 number then Err Lines else lang.read version line)

-- what the first line gives, or its first fault
abbrev pub header_at : Language → List ℕ → Result Heading LineKind
header_at lang line = if nat_lt 64 (length line) then Err Long else lang.heading line

-- a fault in the line of this number
abbrev pub stopped : {X : Type 0} → ℕ → LineKind → Parsed X
stopped number kind = record { items = []; fault = Some (number, kind) }

-- the text ends, or it ends inside the line of this number
abbrev pub asked_last : {X : Type 0} → ℕ → List ℕ → Parsed X
asked_last number [] = record { items = []; fault = None }
asked_last number (x ∷ xs) = stopped number Cut

-- a line, and the lines behind it
abbrev pub asked_then : {X : Type 0} → ℕ → Result X LineKind → Parsed X → Parsed X
asked_then number (Err kind) rest = stopped number kind
asked_then number (Ok item) rest = record { items = item ∷ rest.items; fault = rest.fault }

-- lines of a script of this version from this number on, and what stands behind the last newline
abbrev pub asked_by : (lang : Language) → Version → ℕ → List (List ℕ) → List ℕ → Parsed lang.Item
asked_by lang version number [] rest = asked_last number rest
asked_by lang version number (line ∷ lines) rest = asked_then number (item_at lang version number line) (asked_by lang version (number + 1) lines rest)

-- a script without a header
abbrev pub without_header : {X : Type 0} → LineKind → Script X
without_header kind = record { heading = None; items = []; fault = Some (1, kind) }

-- a text without a newline; the empty text lacks its header
abbrev pub no_lines : {X : Type 0} → List ℕ → Script X
no_lines [] = without_header Header
no_lines (x ∷ xs) = without_header Cut

-- a first line, and the lines behind it, by its version
abbrev pub with_header : {X : Type 0} → Result Heading LineKind → (Version → Parsed X) → Script X
with_header (Err kind) asked = without_header kind
with_header (Ok heading) asked = let lines = asked heading.version in record { heading = Some heading; items = lines.items; fault = lines.fault }

-- the same of lines, and of what stands behind the last newline
abbrev pub script_by : (lang : Language) → List (List ℕ) → List ℕ → Script lang.Item
script_by lang [] rest = no_lines rest
script_by lang (line ∷ lines) rest = with_header (header_at lang line) (λ version. asked_by lang version 2 lines rest)

-- what a text asks for
unfoldable pub script_of : (lang : Language) → List ℕ → Script lang.Item
script_of lang text = script_by lang (lines_from [] text) (rest_from [] text)

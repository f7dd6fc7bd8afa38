-- The first line of a script or a trace, which gives the limits of its world.
use Rattle.std.specs.Prelude.{ℕ, List, ◌∷◌, ◌++◌, codes, Option, Bool, ◌&&◌, nat_lt, nat_le, Result, Ok, Err, if◌then◌else◌}
use Rattle.std.specs.{Fmt.{decimal}, Str.{bytes_eq}}
use Rattle.ulfm_model.specs.declared.limits.Limits.{Limits}
use Rattle.ulfm_model.specs.Words.{size_of}
use Rattle.ulfm_script.specs.declared.header_kind.HeaderKind.{HeaderKind}
use Rattle.ulfm_script.specs.declared.header_kind.HeaderKind.TheVariants.{Calls, Steps, Trace}
use Rattle.ulfm_script.specs.declared.{heading.Heading.{Heading}, version.Version.{Version}}
use Rattle.ulfm_script.specs.declared.version.Version.TheVariants.{First, Second}
use Rattle.ulfm_script.specs.declared.line_kind.LineKind.{LineKind}
use Rattle.ulfm_script.specs.declared.line_kind.LineKind.TheVariants.{Header, Limits as BadLimits}
use Rattle.ulfm_script.specs.Digits.{read_number}
use Rattle.ulfm_script.specs.Steps.{◌>>=◌, with_fault}
use Rattle.ulfm_script.specs.Words.{first_word, four_of}

-- the first word of each kind
abbrev pub kind_text : HeaderKind → List ℕ
kind_text (Calls version) = codes "ulfm"
kind_text Steps = codes "ulfm-steps"
kind_text Trace = codes "ulfm-trace"

-- the version of each kind
abbrev pub version_of : HeaderKind → Version
version_of (Calls version) = version
version_of Steps = First
version_of Trace = First

-- the word of each version
abbrev pub version_word : Version → List ℕ
version_word First = codes "1"
version_word Second = codes "2"

-- the word that stands behind the first in a header of this kind
abbrev pub version_text : HeaderKind → List ℕ
version_text kind = version_word (version_of kind)

-- the header of these limits
abbrev pub header_text : HeaderKind → Limits → List ℕ
header_text kind limits =
    kind_text kind ++ 32 ∷ (version_text kind ++ 32 ∷ (decimal limits.ranks ++ 32 ∷ (decimal limits.comms ++ 32 ∷ decimal limits.rounds)))

-- a number from 1 to a greatest one
abbrev pub is_up_to : ℕ → ℕ → Bool
is_up_to most n = nat_lt 0 n && nat_le n most

-- whether a world of these limits may be opened
abbrev pub may_open : Limits → Bool
may_open limits =
    is_up_to 1024 limits.ranks && is_up_to 256 limits.comms && is_up_to 4096 limits.rounds && nat_le (size_of limits) 4194304

-- the limits that three words give
abbrev pub numbers_of : List ℕ × List ℕ × List ℕ → Result Limits LineKind
numbers_of words = do
  ranks ← read_number words.0
  comms ← read_number words.1
  rounds ← read_number words.2
  Ok (record { ranks = ranks; comms = comms; rounds = rounds })

-- behind the name of the format stands its version, and then the limits
unfoldable pub read_limits : HeaderKind → Option (List ℕ) → Result Limits LineKind
read_limits kind fields = do
  words ← four_of fields
  if bytes_eq words.0 (version_text kind) then numbers_of (words.1, words.2, words.3) else Err Header

-- a name, and the text behind it; whatever is wrong with its form is the one fault
abbrev pub form_from : HeaderKind → List ℕ × Option (List ℕ) → Result Limits LineKind
form_from kind first = if bytes_eq first.0 (kind_text kind) then with_fault Header (read_limits kind first.1) else Err Header

-- the limits that a header of this kind gives
unfoldable pub header_of : HeaderKind → List ℕ → Result Limits LineKind
header_of kind line = form_from kind (first_word line) >>= λ limits. if may_open limits then Ok limits else Err BadLimits

-- what a first line gives in a script of this version: its limits, or its fault
abbrev pub in_version : Version → Result Limits LineKind → Result Heading LineKind
in_version version (Ok limits) = Ok (record { version = version; limits = limits })
in_version version (Err kind) = Err kind

-- the first of two readings, unless it finds no header
abbrev pub or_header : Result Heading LineKind → Result Heading LineKind → Result Heading LineKind
or_header (Err Header) other = other
or_header read other = read

-- what a header of this kind gives
abbrev pub heading_of : HeaderKind → List ℕ → Result Heading LineKind
heading_of kind line = in_version (version_of kind) (header_of kind line)

-- what the first line of a script of calls gives: it is a header of the second version, or else of the first
abbrev pub call_heading : List ℕ → Result Heading LineKind
call_heading line = or_header (heading_of (Calls Second) line) (heading_of (Calls First) line)

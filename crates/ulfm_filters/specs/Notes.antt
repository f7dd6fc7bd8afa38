-- What is said on standard error. Whoever listens may fail, so a note or a beginning of it is written, and nothing else.
use Rattle.std.specs.Prelude.{◌≡◌, ◌⊎◌, ℕ, List, [], ◌∷◌, ◌++◌, codes, ⊤, Ok, Err}
use Rattle.std.specs.Io.KnownBytes.{Keeps}
use Rattle.ulfm_filters.specs.declared.command_line.Unread.{Unread}
use Rattle.ulfm_filters.specs.declared.command_line.Unread.TheVariants.{Memory as OfMemory, NoText}
use Rattle.ulfm_script.specs.declared.fault.RunFault.{RunFault}
use Rattle.ulfm_script.specs.declared.fault.RunFault.TheVariants.{Line, Memory, Read, Write}
use Rattle.ulfm_script.specs.Ends.{KnownText, RunEnd}
use Rattle.ulfm_script.specs.Written.{WritesPart}

-- a text as one line
abbrev pub line : List ℕ → List ℕ
line text = text ++ 10 ∷ []

-- what is said of want of memory
abbrev pub no_memory : List ℕ
no_memory = line (codes "ulfm: out of memory")

-- what is said of a failed read, and of a failed write
abbrev pub no_read : List ℕ
no_read = line (codes "ulfm: read failed")

abbrev pub no_write : List ℕ
no_write = line (codes "ulfm: write failed")

-- what is said of a bad command line
abbrev pub bad_line : List ℕ
bad_line = line (codes "ulfm: bad command line")

-- what is said of a fault that no line of a script has
abbrev pub TellsFault : RunFault → KnownText → KnownText → Type 0
TellsFault (Line number kind) old new = ⊤
TellsFault Memory old new = WritesPart old new no_memory
TellsFault Read old new = WritesPart old new no_read
TellsFault Write old new = WritesPart old new no_write

-- what is said of a run that ended so: nothing where it ended well
abbrev pub TellsEnd : RunEnd → KnownText → KnownText → Type 0
TellsEnd (Ok done) old new = Keeps old new
TellsEnd (Err fault) old new = TellsFault fault old new

-- what is said of a text that was printed at this status: nothing at 0
abbrev pub TellsPrinted : ℕ → KnownText → KnownText → Type 0
TellsPrinted status old new = ((status ≡ 0) × Keeps old new) ⊎ ((status ≡ 3) × WritesPart old new no_write)

-- what is said of a verdict whose line was to be printed at this status: nothing at that of the verdict
abbrev pub TellsVerdict : ℕ → ℕ → KnownText → KnownText → Type 0
TellsVerdict wanted status old new =
    ((status ≡ wanted) × Keeps old new) ⊎ ((status ≡ 3) × (WritesPart old new no_memory ⊎ WritesPart old new no_write))

-- what is said of words that couldn't be read
abbrev pub TellsUnread : Unread → KnownText → KnownText → Type 0
TellsUnread OfMemory old new = WritesPart old new no_memory
TellsUnread NoText old new = WritesPart old new bad_line

-- What is read and not yet taken, and what is still to be written.
use Rattle.std.specs.Prelude.{◌≡◌, ◌≢◌, ℕ, ◌<◌, Bool, true, false, List, [], ◌∷◌, ◌++◌, length, take, slice_range, Option, Result, Ok, Err, if◌then◌else◌}
use Rattle.std.specs.List.{AllByRecursion}
use Rattle.std.specs.Io.KnownBytes.{Keeps, Appends, Consumes, IsAtEnd, prepend_known}
use Rattle.ulfm_script.specs.Written.{IsBeginning, Outgoing, WritesPart}
use Rattle.ulfm_script.specs.declared.buffers.Input.{Input}
use Rattle.ulfm_script.specs.declared.buffers.LineEnd.{LineEnd}
use Rattle.ulfm_script.specs.declared.buffers.LineEnd.TheVariants.{Newline, Cut, Done}
use Rattle.ulfm_script.specs.declared.buffers.Output.{Output}
use Rattle.ulfm_script.specs.declared.fault.RunFault.{RunFault}
use Rattle.ulfm_script.specs.declared.fault.RunFault.TheVariants.{Line, Memory, Read, Write}

-- what was read and not yet taken
abbrev pub pending : {A : Type 0} → Input A → List ℕ
pending input = slice_range input.bytes.items input.start input.end

-- what is still to be taken, where that is known
abbrev pub unread : {A R : Type 0} → (R → Option (List ℕ)) → Input A → R → Option (List ℕ)
unread remaining input reader = prepend_known (pending input) (remaining reader)

-- what is kept of the line that was taken last: a part of the buffer's bytes where it stood there whole, else those that were put together apart from it
abbrev pub line_of : {A : Type 0} → Input A → List ℕ → List ℕ
line_of input apart = if input.is_whole then slice_range input.bytes.items input.line_start input.line_end else apart

-- bytes are pending, if there are any more
abbrev pub Fills : Option (List ℕ) → Option (List ℕ) → List ℕ → Result (Unit {0}) RunFault → Type 0
Fills old new bytes (Ok done) = Keeps old new × (bytes ≡ [] → IsAtEnd new)
Fills old new bytes (Err fault) = Keeps old new × (bytes ≡ []) × (fault ≡ Read)

-- a line, without its newline
abbrev pub HasNoNewline : List ℕ → Type 0
HasNoNewline xs = AllByRecursion (λ x. x ≢ 10) xs

-- further bytes of a line came: where so many of its first bytes were kept before, as many are kept with these
abbrev pub KeepsFirst : ℕ → List ℕ → List ℕ → List ℕ → Type 0
KeepsFirst most old bytes new = (before : List ℕ) → old ≡ take most before → new ≡ take most (before ++ bytes)

-- Of the pending bytes those of a line were taken, and so many of its first bytes are kept: up to its newline, which was taken too, or all, where none
-- of them is a newline. None was taken where memory ran out.
abbrev pub TakesPart : {E : Type 0} → ℕ → List ℕ → List ℕ → List ℕ → List ℕ → Result Bool E → Type 0
TakesPart most old new before kept (Ok true) = (part : List ℕ) × HasNoNewline part × (old ≡ part ++ 10 ∷ new) × KeepsFirst most before part kept
TakesPart most old new before kept (Ok false) = HasNoNewline old × (new ≡ []) × KeepsFirst most before old kept
TakesPart most old new before kept (Err error) = new ≡ old

-- bytes of one line: the line and its newline begin with them
abbrev pub IsOfLine : List ℕ → Type 0
IsOfLine bytes = (line : List ℕ) × HasNoNewline line × IsBeginning bytes (line ++ 10 ∷ [])

-- how a text ends behind what is kept of its last line
abbrev pub text_end : List ℕ → LineEnd
text_end [] = Done
text_end (x ∷ kept) = Cut

-- A line was taken, or what stands behind the last newline, and so many of its first bytes are kept; nothing where no byte was left. Where the
-- reader failed inside it, nothing is pending.
abbrev pub TakesLine : ℕ → Option (List ℕ) → Option (List ℕ) → List ℕ → List ℕ → Result LineEnd RunFault → Type 0
TakesLine most old new bytes kept (Ok Newline) = (line : List ℕ) × HasNoNewline line × (kept ≡ take most line) × Consumes old new (line ++ 10 ∷ [])
TakesLine most old new bytes kept (Ok Cut) =
    (line : List ℕ) × HasNoNewline line × (0 < length line) × Consumes old new line × IsAtEnd new × (kept ≡ take most line)
TakesLine most old new bytes kept (Ok Done) = Keeps old new × IsAtEnd new × (kept ≡ [])
TakesLine most old new bytes kept (Err Read) = (part : List ℕ) × HasNoNewline part × (bytes ≡ []) × Consumes old new part
TakesLine most old new bytes kept (Err Memory) = (part : List ℕ) × HasNoNewline part × Consumes old new part
TakesLine most old new bytes kept (Err Write) = ⊥
TakesLine most old new bytes kept (Err (Line number kind)) = ⊥

-- what waits to be written
abbrev pub waiting : {A : Type 0} → Output A → List ℕ
waiting output = output.bytes.items

-- the output of a writer, through this buffer
abbrev pub outgoing : {A W : Type 0} → (W → Option (List ℕ)) → Output A → W → Outgoing
outgoing contents output writer = record { written = contents writer; waiting = output.bytes.items }

-- all that waited was written, or the writer failed
abbrev pub Drains : List ℕ → Option (List ℕ) → List ℕ → Option (List ℕ) → Result (Unit {0}) RunFault → Type 0
Drains bytes old rest new (Ok done) = (rest ≡ []) × Appends old new bytes
Drains bytes old rest new (Err fault) = (fault ≡ Write) × WritesPart old new bytes

-- a text was put behind what waits; some of it may be written
abbrev pub Puts : List ℕ → Option (List ℕ) → List ℕ → List ℕ → Option (List ℕ) → Result (Unit {0}) RunFault → Type 0
Puts bytes old text rest new (Ok done) = (part : List ℕ) × (bytes ++ text ≡ part ++ rest) × Appends old new part
Puts bytes old text rest new (Err Memory) = (part : List ℕ) × (bytes ≡ part ++ rest) × Appends old new part
Puts bytes old text rest new (Err Write) = WritesPart old new bytes
Puts bytes old text rest new (Err Read) = ⊥
Puts bytes old text rest new (Err (Line number kind)) = ⊥

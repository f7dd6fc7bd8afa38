-- What a write leaves.
use Rattle.std.specs.Prelude.{◌≡◌, ℕ, List, ◌++◌, Option, Result, Ok, Err}
use Rattle.std.specs.Io.KnownBytes.{Appends}
use Rattle.ulfm_script.specs.declared.fault.RunFault.{RunFault}
use Rattle.ulfm_script.specs.declared.fault.RunFault.TheVariants.{Write}

-- the first list is a beginning of the second
abbrev pub IsBeginning : {X : Type 0} → List X → List X → Type 0
IsBeginning {X} xs ys = (rest : List X) × (xs ++ rest ≡ ys)

-- a beginning of the bytes was written
abbrev pub WritesPart : Option (List ℕ) → Option (List ℕ) → List ℕ → Type 0
WritesPart old new bytes = (part : List ℕ) × IsBeginning part bytes × Appends old new part

-- all bytes were written, or the writer failed
abbrev pub WritesAll : List ℕ → Option (List ℕ) → Option (List ℕ) → Result (Unit {0}) RunFault → Type 0
WritesAll bytes old new (Ok done) = Appends old new bytes
WritesAll bytes old new (Err fault) = (fault ≡ Write) × WritesPart old new bytes

-- an output: the bytes that its writer has, where they are known, and what waits to be written
pub record Outgoing : Type 0 where
  pub written : Option (List ℕ)
  pub waiting : List ℕ

-- all of these bytes are written behind what the writer had, but for what waits
abbrev pub IsBuffered : Option (List ℕ) → Outgoing → List ℕ → Type 0
IsBuffered old new out = (part : List ℕ) × Appends old new.written part × (part ++ new.waiting ≡ out)

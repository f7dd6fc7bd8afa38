-- What was written, by what the writes gave.
use Rattle.std.proofs.Common.{refl, List, [], ℕ, Ok, Err, Result}
use Rattle.std.specs.Io.KnownBytes.{Keeps}
use Rattle.std.proofs.lemmas.List.{append-nil}
use Rattle.ulfm_script.specs.declared.fault.RunFault.{RunFault}
use Rattle.ulfm_script.specs.Ends.{KnownText}
use Rattle.ulfm_script.specs.Written.{WritesAll, WritesPart}
use Rattle.ulfm_script.proofs.ByteLemmas.{appends_keeps, appends_start}

-- all of a text was written, or a beginning of it
pub told : (text : List ℕ) (old new : KnownText) (end : Result (Unit {0}) RunFault) → WritesAll text old new end → WritesPart old new text
told text old new (Ok done) all = (text, ([], append-nil text), all)
told text old new (Err fault) part = part.1

-- a beginning of a text was written, and then the rest kept
pub part_kept : (text : List ℕ) (old mid new : KnownText) → WritesPart old mid text → Keeps mid new → WritesPart old new text
part_kept text old mid new part kept = (part.0, part.1, appends_keeps old mid new part.0 part.2 kept)

-- nothing was written of a text
pub none_told : (text : List ℕ) (known : KnownText) → WritesPart known known text
none_told text known = ([], (text, refl), appends_start known)

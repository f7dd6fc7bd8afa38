use Rattle.std.proofs.Common.{◌≡◌, ◌^◌, Some, true, false, sym, ap, ◌∙◌, arith}
use Rattle.ulfm_laws.specs.Ranges.{payload_bits}
use Rattle.ulfm_replica.specs.Wire.{entry_bytes, fields_of}
use Rattle.ulfm_replica.proofs.Wiring.{payload_small}
use Rattle.ulfm_replica.proofs.wire.entry_of.Goals as goal

-- bytes of an entry are those of the entry that they are read as
pub returns-else-are_same : goal.returns-else-are_same
returns-else-are_same g c = λ entry is.
    let short = payload_small g.P.Packed.pack (2 ^ payload_bits) g.met.P.Packed.pack_fits (λ m. m.fits) (omega arith) entry.by entry.event in
    let read = c.read.ensures (fields_of g.P.Packed.pack entry) short is in
    let some : Some c.in_ok-entry.entry ≡ Some entry = sym c.in_ok-entry.was ∙ c.entry.ensures entry read in
    let same : c.in_ok-entry.entry ≡ entry = cc some in
    let bytes = c.bytes_of.ensures ∙ (ap (entry_bytes g.P.Packed.pack) same ∙ sym is) in
    let clash : true ≡ false = sym (c.are_same.ensures.1 bytes) ∙ c.if-are_same.false in
    absurd (cc clash)

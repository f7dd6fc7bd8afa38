use Rattle.std.proofs.Common.{take, length, ◌-◌, refl}
use Rattle.ulfm_audit.proofs.Telling.{entries_audited, whole_is}
use Rattle.ulfm_audit.proofs.auditing.audit_entries.Goals as goal

pub returns : goal.returns
returns g c =
    let bytes = c.args.bytes.now in
    let cut = c.as_chunks.result.1.now in
    let new = c.take_pieces.new.self in
    entries_audited c.args.limits bytes (take (length bytes - length cut) bytes) c.as_chunks.result.0.now c.in_ok-pass.pass.seen new.pass.seen c.new-text.result.items
    new.text.items c.print_end.new.self.text.items (length new.pass.seen) c.digest_of.result c.as_chunks.ensures.front (whole_is bytes (length cut) c.as_chunks.ensures.back_len)
    c.in_ok-pass.ensures.seen c.new-text.ensures.items c.in_ok-take_pieces.ensures.takes refl c.digest_of.ensures c.in_ok-print_end.ensures

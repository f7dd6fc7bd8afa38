use Rattle.std.proofs.Common.{◌≡◌, ◌<◌, ◌≤◌, ap, arith, length, refl}
use Rattle.std.proofs.lemmas.List.{with_items_is}
use Rattle.std.specs.Vec.{with_items}
use Rattle.ulfm_script.proofs.ByteLemmas.{already_filled, kept_empty, none_pending, read_into}
use Rattle.ulfm_script.proofs.buffers.Input.fill.Goals as goal

pub returns-then-self : goal.returns-then-self
returns-then-self g c =
    let s = c.args.self.now in already_filled s.bytes.items s.start s.end (g.R.Read.remaining c.args.reader.now) c.if-self.true s.within

pub returns-in-Ok : goal.returns-in-Ok
returns-in-Ok g c =
    let s = c.args.self.now in
    let k = g.R.Read.remaining in
    let buf = c.read.new.buf in
    let whole : length buf ≡ s.bytes.len = omega (arith, c.read.auto.buf, ap length c.as_mut_slice.ensures.value, s.bytes.ok.0) in
    let fits : c.in-Ok.count ≤ length buf = c.in-Ok.ensures.bound.0 in
    let room : 0 < length buf = omega (arith, s.room, s.bytes.ok.0) in
    read_into s.bytes.items (with_items s.bytes buf).items buf s.start s.end c.in-Ok.count (k c.args.reader.now) (k c.read.new.self)
    c.if-self.false (with_items_is s.bytes buf whole) fits room c.in-Ok.ensures.bytes

pub returns-in-Err : goal.returns-in-Err
returns-in-Err g c =
    let s = c.args.self.now in
    let k = g.R.Read.remaining in
    let items = (with_items s.bytes c.read.new.buf).items in
    let kept = kept_empty s.bytes.items items s.start s.end (k c.args.reader.now) (k c.read.new.self) c.if-self.false c.in-Err.ensures.bytes in
    (kept, none_pending items s.start s.end c.if-self.false, refl)

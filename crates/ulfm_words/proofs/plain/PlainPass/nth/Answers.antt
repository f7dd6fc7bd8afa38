use Rattle.std.proofs.Common.{arith, ◌≡◌, ◌≤◌, ◌∙◌, Some, ap, sym, length}
use Rattle.std.specs.List.{slice_index}
use Rattle.ulfm_words.specs.{Entries.{entry_of}, Pass.{entries}, Places.{key_in}, declared.step.Step.{Step}}
use Rattle.ulfm_words.proofs.{Numbered.{nth_step}, Tied.{made-get, entries-get, entries-length, setting_found}}
use Rattle.ulfm_words.proofs.plain.PlainPass.nth.Goals as goal

pub returns-in_err-setting : goal.returns-in_err-setting
returns-in_err-setting g c =
    let past : length c.deref.result.now ≤ c.args.i = c.in_err-setting.ensures.lookup.3 in
    let len = entries-length g.P.Packed.unpack c.self.inside.row.limits c.self.inside.row.words c.self.inside.journal.items c.self.invariant.0.made in
    let items : length c.deref.result.now ≡ length c.self.inside.journal.items = ap length c.deref.ensures.value in
    rw (c.from_residual.ensures, ← c.self.view_is) (omega arith)

pub get-word-requires : goal.get-word-requires
get-word-requires g c =
    let js = c.self.inside.journal.items in
    let m = c.in_ok-setting.field-0.now in
    let e = c.in_ok-setting.ensures.lookup in
    let found = setting_found c.deref.result.now js c.args.i m c.deref.ensures.value e.3.0 e.1 in
    (made-get g.P.Packed.unpack c.self.inside.row.limits c.self.inside.row.words js c.args.i m c.self.invariant.0.made found).within

pub returns : goal.returns
returns g c =
    let unpack = g.P.Packed.unpack in
    let limits = c.self.inside.row.limits in
    let ws = c.self.inside.row.words in
    let js = c.self.inside.journal.items in
    let m = c.in_ok-setting.field-0.now in
    let e = c.in_ok-setting.ensures.lookup in
    let inv = c.self.invariant.0 in
    let found = setting_found c.deref.result.now js c.args.i m c.deref.ensures.value e.3.0 e.1 in
    let made = made-get unpack limits ws js c.args.i m inv.made found in
    let word : c.get-word.result ≡ slice_index ws (key_in limits m.place) = c.get-word.ensures in
    let step : Step = record { place = m.place; word = c.get-word.result; half = m.half; by = m.by } in
    let is : entry_of unpack step ≡ Some made.entry = ap (λ n. entry_of unpack (record { place = m.place; word = n; half = m.half; by = m.by })) word ∙ made.is_entry in
    rw (← c.self.view_is)
    (nth_step g.P.Meld.meld g.P.Packed.pack unpack limits (entries unpack limits ws js) inv.legal c.args.i step made.entry (entries-get unpack limits ws js c.args.i m inv.made found ∙ made.is_entry) is
    (λ zero. made.set (sym word ∙ zero)) (sym (inv.same m.place made.within) ∙ sym word))

use Rattle.std.proofs.Common.{sym, ◌≡◌, ◌∙◌, ℕ, Bool, Some, arith, ap, subst}
use Rattle.ulfm_model.specs.declared.place.Place.TheVariants.{Slot as SlotAt}
use Rattle.ulfm_model.specs.declared.contribution.Slot.{Slot}
use Rattle.ulfm_model.specs.{History.{History, slot}, Words.{slot_half, slot_word}}
use Rattle.ulfm_words.specs.declared.step.Step.{Step}
use Rattle.ulfm_words.specs.{Entries.{entry_of, put_of}, Slots.{tag_in}, Steps.{IsWinged, Loses}, Tries.{entry}}
use Rattle.ulfm_words.proofs.{Reading.{given_of, marked_of, slot_some_word}, Setting.{added_stands, may_put, put_read, same_entry, won_by}}
use Rattle.ulfm_words.proofs.accesses.set_slot.Goals as goal

pub set_once-requires-clause-may : goal.set_once-requires-clause-may
set_once-requires-clause-may g c =
    rw (c.slot_word.ensures, c.slot_half.ensures)
    (may_put g.P.Meld.meld g.P.Packed.pack g.P.Packed.unpack (g.W.Words.name c.args.words.now).limits (g.W.Words.sight c.args.pass.now).seen c.args.by g.met.P.Packed.unpack_pack g.met.P.Packed.pack_fits c.args.comm c.args.round c.args.rank c.args.put c.requires.may)

pub set_once-requires-clause-winged : goal.set_once-requires-clause-winged
set_once-requires-clause-winged g c = λ other is.
    let reads = put_read g.P.Meld.meld g.P.Packed.pack g.P.Packed.unpack (g.W.Words.name c.args.words.now).limits (g.W.Words.sight c.args.pass.now).seen c.args.by g.met.P.Packed.unpack_pack g.met.P.Packed.pack_fits c.args.comm c.args.round c.args.rank c.args.put in
    let here : entry_of g.P.Packed.unpack (record { place = SlotAt c.args.comm c.args.round c.args.rank; word = c.slot_word.result; half = c.slot_half.result; by = c.args.by }) ≡ Some (entry c.args.by (put_of c.args.comm c.args.round c.args.rank c.args.put)) = rw (c.slot_word.ensures, c.slot_half.ensures) reads in
    subst (λ x. IsWinged g.P.Packed.pack (g.W.Words.sight c.args.pass.now).cached x.event) (same_entry (entry c.args.by (put_of c.args.comm c.args.round c.args.rank c.args.put)) other (sym here ∙ is)) c.requires.winged

pub returns-in-Ok-clause-tries : goal.returns-in-Ok-clause-tries
returns-in-Ok-clause-tries g c =
    let sets = c.in-Ok.ensures in
    let step : Step = record { place = SlotAt c.args.comm c.args.round c.args.rank; word = c.slot_word.result; half = c.slot_half.result; by = c.args.by } in
    let reads : entry_of g.P.Packed.unpack step ≡ Some (entry c.args.by (put_of c.args.comm c.args.round c.args.rank c.args.put)) = rw (c.slot_word.ensures, c.slot_half.ensures) (put_read g.P.Meld.meld g.P.Packed.pack g.P.Packed.unpack (g.W.Words.name c.args.words.now).limits (g.W.Words.sight c.args.pass.now).seen c.args.by g.met.P.Packed.unpack_pack g.met.P.Packed.pack_fits c.args.comm c.args.round c.args.rank c.args.put) in
    record {
      of = c.set_once.ensures.of;
      outcome = won_by g.P.Packed.pack g.P.Packed.unpack g.W.Words.alone step _ (g.W.Words.sight c.args.pass.now).seen (g.W.Words.sight c.set_once.new.pass).seen reads sets.outcome;
      cached = c.set_once.ensures.cached;
      caches = c.set_once.ensures.caches;
      steps = c.set_once.ensures.steps;
      last = sets.last;
    }

pub returns-in-Ok-clause-stands : goal.returns-in-Ok-clause-stands
returns-in-Ok-clause-stands g c =
    let sets = c.in-Ok.ensures in
    let step : Step = record { place = SlotAt c.args.comm c.args.round c.args.rank; word = c.slot_word.result; half = c.slot_half.result; by = c.args.by } in
    let reads : entry_of g.P.Packed.unpack step ≡ Some (entry c.args.by (put_of c.args.comm c.args.round c.args.rank c.args.put)) = rw (c.slot_word.ensures, c.slot_half.ensures) (put_read g.P.Meld.meld g.P.Packed.pack g.P.Packed.unpack (g.W.Words.name c.args.words.now).limits (g.W.Words.sight c.args.pass.now).seen c.args.by g.met.P.Packed.unpack_pack g.met.P.Packed.pack_fits c.args.comm c.args.round c.args.rank c.args.put) in
    let added = won_by g.P.Packed.pack g.P.Packed.unpack g.W.Words.alone step _ (g.W.Words.sight c.args.pass.now).seen (g.W.Words.sight c.set_once.new.pass).seen reads sets.outcome in
    added_stands g.P.Meld.meld (g.W.Words.name c.args.words.now).limits g.W.Words.alone (g.W.Words.sight c.args.pass.now).seen (g.W.Words.sight c.set_once.new.pass).seen c.args.by c.args.comm c.args.round c.args.rank c.args.put c.set_once.ensures.of.legal added

-- the slot that stands where an exchange was lost, and its word
stood : {P : Type 0} (pack : P → ℕ) (alone : Bool) (old new : History P) (c k r word : ℕ) → Loses pack alone (SlotAt c k r) word old new → (s : Slot P) × (slot new c k r ≡ Some s) × (word ≡ slot_word pack s)
stood pack alone old new c k r word lost = slot_some_word pack new c k r word (sym lost.stands) (λ zero. absurd (omega (arith, lost.some, zero)))

pub returns-in-Err-clause-stands : goal.returns-in-Err-clause-stands
returns-in-Err-clause-stands g c =
    let s = stood g.P.Packed.pack g.W.Words.alone (g.W.Words.sight c.args.pass.now).seen (g.W.Words.sight c.set_once.new.pass).seen c.args.comm c.args.round c.args.rank c.in-Err.word c.in-Err.ensures.outcome in
    let m = marked_of g.P.Packed.pack s.0 (ap tag_in (sym s.2) ∙ c.if-word-eq0.true) in
    (m.0, s.1 ∙ ap Some m.1)

pub returns-in-Err-2-clause-stands : goal.returns-in-Err-2-clause-stands
returns-in-Err-2-clause-stands g c =
    let s = stood g.P.Packed.pack g.W.Words.alone (g.W.Words.sight c.args.pass.now).seen (g.W.Words.sight c.set_once.new.pass).seen c.args.comm c.args.round c.args.rank c.in-Err.word c.in-Err.ensures.outcome in
    let m = given_of g.P.Packed.pack s.0 (λ tag. c.if-word-eq0.false (ap tag_in s.2 ∙ tag)) in
    (m.0, s.1 ∙ ap Some m.1)

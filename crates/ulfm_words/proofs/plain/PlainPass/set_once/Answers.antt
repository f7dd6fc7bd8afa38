use Rattle.std.proofs.Common.{arith, ◌≡◌, ◌≢◌, ◌<◌, ◌∙◌, ap, ap₂, refl, sym, subst, true, false, Err, Ok, [], ◌∷◌, ◌++◌, length, vec_len, vec_capacity, get_or-set_same}
use Rattle.std.specs.List.{slice_index, slice_set}
use Rattle.std.proofs.lemmas.Grind.{common_steps}
use Rattle.ulfm_model.specs.Words.{word_at}
use Rattle.ulfm_model.proofs.WordRules.{word_some}
use Rattle.ulfm_words.specs.{Pass.{AreStood, IsTied, cached_by, entries, sight_of}, Places.{IsWithin, key_in}, Rows.{Filled, block_in, wing_in}, Steps.{IsWinged, MaySet, Sets, Sight}}
use Rattle.ulfm_words.proofs.{Besides.{beside_event}, Caching.{knows_as}, Growing.{prefix_self}, Keys.{key_lt}, Standing.{cached_place}, Telling.{sets_lost, sets_won, within_is}, Tied.{tied_set, entries-set, count-set}, Tried.{tried_same}}
use Rattle.ulfm_words.proofs.plain.PlainPass.set_once.Goals as goal
use Rattle.ulfm_words.proofs.plain.PlainPass.set_once.Goals.{After-push}
use Rattle.ulfm_words.specs.Steps.{coding, view_of}

pub returns-then-word-ne0 : goal.returns-then-word-ne0
returns-then-word-ne0 g c =
    let row = c.self.inside.row in
    let unpack = g.P.Packed.unpack in
    let js = c.self.inside.journal.items in
    let row_is : c.set_once-word.new.self ≡ row = ap₂ (λ limits words. let r : Filled = record { limits = limits; words = words } in r) c.set_once-word.ensures.limits (c.set_once-word.ensures.kept c.if-word-ne0.true) in
    subst (λ (r : Filled). Sets g.P.Meld.meld (coding g.P.Packed.pack unpack) true c.args.step (view_of g.P.Packed.pack c.args.self.now.name c.args.self.now) (Err c.set_once-word.result) (view_of g.P.Packed.pack c.args.self.now.name (sight_of unpack r.limits r.words js c.and-self-inside.result.log.items))) (sym row_is)
    (sets_lost g.P.Meld.meld g.P.Packed.pack unpack row.limits c.args.self.now row.words js (vec_capacity c.self.inside.journal) c.self.inside.trail.log.items c.and-self-inside.result.log.items c.args.step c.set_once-word.result
    c.self.view_is c.self.invariant.0 c.requires.within c.set_once-word.ensures.stood c.if-word-ne0.true c.and-self-inside.ensures)

pub invariant_of-self : goal.invariant_of-self
invariant_of-self g c =
    rw (c.set_once-word.ensures.limits, c.set_once-word.ensures.kept c.if-word-ne0.true) (
      c.self.invariant.0,
      c.self.invariant.1,
      knows_as g.P.Meld.meld g.P.Packed.pack (entries g.P.Packed.unpack c.self.inside.row.limits c.self.inside.row.words c.self.inside.journal.items) c.self.inside.sides c.self.inside.trail.log.items c.and-self-inside.result.log.items
          (ap cached_by c.and-self-inside.ensures ∙ cached_place c.self.inside.trail.log.items c.args.step.place c.set_once-word.result false) c.self.invariant.2,
      tried_same c.self.inside.sides c.self.inside.trail.log.items c.and-self-inside.result.log.items _ c.and-self-inside.ensures c.self.invariant.3,
    )

within_of : (g : _) (c : After-push g) → IsWithin c.self.inside.row.limits c.args.step.place
within_of g c = within_is g.P.Meld.meld g.P.Packed.pack g.P.Packed.unpack c.self.inside.row.limits c.args.self.now c.self.inside.row.words c.self.inside.journal.items c.self.inside.trail.log.items c.args.step.place c.self.view_is c.requires.within

below : (g : _) (c : After-push g) → key_in c.self.inside.row.limits c.args.step.place < length c.self.inside.row.words
below g c = omega (arith, key_lt c.self.inside.row.limits c.args.step.place (within_of g c), c.self.invariant.0.size)

may_in : (g : _) (c : After-push g) → MaySet g.P.Meld.meld g.P.Packed.pack g.P.Packed.unpack c.self.inside.row.limits (entries g.P.Packed.unpack c.self.inside.row.limits c.self.inside.row.words c.self.inside.journal.items) c.args.step
may_in g c = subst (λ o. MaySet g.P.Meld.meld g.P.Packed.pack g.P.Packed.unpack o.name.limits o.seen c.args.step) (sym c.self.view_is) c.requires.may

was_zero : (g : _) (c : After-push g) → slice_index c.self.inside.row.words (key_in c.self.inside.row.limits c.args.step.place) ≡ 0
was_zero g c = sym c.set_once-word.ensures.stood ∙ c.if-word-ne0.false

none : (g : _) (c : After-push g) → word_at g.P.Packed.pack (entries g.P.Packed.unpack c.self.inside.row.limits c.self.inside.row.words c.self.inside.journal.items) c.args.step.place ≡ 0
none g c = sym (c.self.invariant.0.same c.args.step.place (within_of g c)) ∙ was_zero g c

room : (g : _) (c : After-push g) → vec_len c.self.inside.journal < vec_capacity c.self.inside.journal
room g c =
    let may = may_in g c in
    let some = word_some g.P.Packed.pack may.entry.event in
    let set : c.args.step.word ≢ 0 = omega (arith, may.word, some) in
    omega (arith, count-set c.self.inside.row.words (key_in c.self.inside.row.limits c.args.step.place) c.args.step.word (was_zero g c) (below g c) set, c.self.invariant.0.free, c.self.invariant.0.room, c.self.inside.journal.ok.0)

pushed : (g : _) (c : After-push g) → c.push.new.self.items ≡ c.self.inside.journal.items ++ record { place = c.args.step.place; half = c.args.step.half; by = c.args.step.by } ∷ []
pushed g c = let fits = room g c in grind (arith, common_steps)

-- the words with one more stay tied to the journal with one more
tied : (g : _) (c : After-push g)
    → IsTied g.P.Meld.meld g.P.Packed.pack g.P.Packed.unpack c.self.inside.row.limits (slice_set c.self.inside.row.words (key_in c.self.inside.row.limits c.args.step.place) c.args.step.word) c.push.new.self.items (vec_capacity c.push.new.self)
tied g c =
    let may = may_in g c in
    let row = c.self.inside.row in
    let js = c.self.inside.journal.items in
    let ok = may.legal (entries g.P.Packed.unpack row.limits row.words js) (prefix_self _) c.self.invariant.0.legal (none g c) in
    tied_set g.P.Meld.meld g.P.Packed.pack g.P.Packed.unpack row.limits row.words js c.push.new.self.items (vec_capacity c.self.inside.journal) (vec_capacity c.push.new.self) c.args.step (key_in row.limits c.args.step.place) may.entry
    c.self.invariant.0 (within_of g c) refl (was_zero g c) may.is_entry may.word ok.0 ok.1 (pushed g c) c.push.ensures.capacity

-- .. and its history is longer by one
added : (g : _) (c : After-push g)
    → entries g.P.Packed.unpack c.self.inside.row.limits (slice_set c.self.inside.row.words (key_in c.self.inside.row.limits c.args.step.place) c.args.step.word) c.push.new.self.items
    ≡ entries g.P.Packed.unpack c.self.inside.row.limits c.self.inside.row.words c.self.inside.journal.items ++ (may_in g c).entry ∷ []
added g c =
    let unpack = g.P.Packed.unpack in
    let limits = c.self.inside.row.limits in
    let ws = c.self.inside.row.words in
    let key = key_in limits c.args.step.place in
    ap (λ ms. entries unpack limits (slice_set ws key c.args.step.word) ms) (pushed g c)
    ∙ entries-set unpack limits ws key c.args.step.word (record { place = c.args.step.place; half = c.args.step.half; by = c.args.step.by }) (may_in g c).entry (was_zero g c) (below g c) refl (may_in g c).is_entry c.self.inside.journal.items c.self.invariant.0.made

-- .. so that the words that no event sets stand as they stood
standing : (g : _) (c : After-push g)
    → AreStood g.P.Meld.meld g.P.Packed.pack (entries g.P.Packed.unpack c.self.inside.row.limits (slice_set c.self.inside.row.words (key_in c.self.inside.row.limits c.args.step.place) c.args.step.word) c.push.new.self.items)
    c.self.inside.sides c.and-self-inside.result.log.items
standing g c =
    let may = may_in g c in
    let limits = c.self.inside.row.limits in
    let sides = c.self.inside.sides in
    let before = entries g.P.Packed.unpack limits c.self.inside.row.words c.self.inside.journal.items in
    let winged = subst (λ (o : Sight _). IsWinged g.P.Packed.pack o.cached may.entry.event) (sym c.self.view_is) (c.requires.winged may.entry may.is_entry) in
    let are = beside_event g.P.Meld.meld g.P.Packed.pack sides.limits (block_in sides) (wing_in sides) before may.entry (cached_by c.self.inside.trail.log.items) winged c.self.invariant.2 in
    knows_as g.P.Meld.meld g.P.Packed.pack _ sides c.self.inside.trail.log.items c.and-self-inside.result.log.items
    (ap cached_by c.and-self-inside.ensures ∙ cached_place c.self.inside.trail.log.items c.args.step.place c.set_once-word.result false)
    (subst (λ h. AreStood g.P.Meld.meld g.P.Packed.pack h sides c.self.inside.trail.log.items) (sym (added g c)) are)

-- the row after the word was set
row_is : (g : _) (c : After-push g) → c.set_once-word.new.self ≡ record { limits = c.self.inside.row.limits; words = slice_set c.self.inside.row.words (key_in c.self.inside.row.limits c.args.step.place) c.args.step.word }
row_is g c = ap₂ (λ limits words. let r : Filled = record { limits = limits; words = words } in r) c.set_once-word.ensures.limits (c.set_once-word.ensures.set c.if-word-ne0.false)

pub invariant_of-self-2 : goal.invariant_of-self-2
invariant_of-self-2 g c =
    let at = (goal.at.invariant_of-self-2 g c).After-push in
    rw (c.set_once-word.ensures.limits, c.set_once-word.ensures.set c.if-word-ne0.false) (tied g at, c.self.invariant.1, standing g at, tried_same c.self.inside.sides c.self.inside.trail.log.items c.and-self-inside.result.log.items _ c.and-self-inside.ensures c.self.invariant.3)

pub returns : goal.returns
returns g c =
    let at = (goal.at.returns g c).After-push in
    let unpack = g.P.Packed.unpack in
    let limits = c.self.inside.row.limits in
    let ws = c.self.inside.row.words in
    let js = c.self.inside.journal.items in
    let key = key_in limits c.args.step.place in
    let may = may_in g at in
    let set : slice_index (slice_set ws key c.args.step.word) key ≡ c.args.step.word = get_or-set_same ws key c.args.step.word 0 (below g at) in
    subst (λ (r : Filled). Sets g.P.Meld.meld (coding g.P.Packed.pack unpack) true c.args.step (view_of g.P.Packed.pack c.args.self.now.name c.args.self.now) (Ok tt) (view_of g.P.Packed.pack c.args.self.now.name (sight_of unpack r.limits r.words c.push.new.self.items c.and-self-inside.result.log.items))) (sym (row_is g at))
    (sets_won g.P.Meld.meld g.P.Packed.pack unpack limits c.args.self.now ws (slice_set ws key c.args.step.word) js c.push.new.self.items (vec_capacity c.push.new.self) c.self.inside.trail.log.items c.and-self-inside.result.log.items c.args.step c.set_once-word.result
    c.self.view_is (tied g at) c.requires.within may.entry may.is_entry (added g at) set c.if-word-ne0.false c.and-self-inside.ensures)

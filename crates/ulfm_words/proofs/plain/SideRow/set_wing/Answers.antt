use Rattle.std.proofs.Common.{◌≡◌, ◌≢◌, ◌+◌, ◌*◌, ap, sym, subst, ◌∙◌, refl}
use Rattle.std.specs.Prelude.{slice_index, slice_set}
use Rattle.ulfm_model.specs.declared.{block.Block.{Block}, block.Wing.{Wing}, place.Place.{Place}}
use Rattle.ulfm_model.specs.Blocks.{IsBlockWithin}
use Rattle.ulfm_words.specs.{Places.{IsCell, IsWingWithin, key_in}, Rows.{SideWords, block_key, wing_in}}
use Rattle.ulfm_words.proofs.SideRows.{block_wing_set, slot_set}
use Rattle.ulfm_words.proofs.plain.SideRow.set_wing.Goals as goal
use Rattle.ulfm_words.proofs.plain.SideRow.set_wing.Goals.{After-set_once}

-- the words before and after a slot's wing is set
before : (g : _) (c : After-set_once g) → SideWords
before g c = record { limits = c.self.inside.wings.limits; wings = c.self.inside.wings.words; words = c.self.inside.blocks.items }

after : (g : _) (c : After-set_once g) → SideWords
after g c = record { limits = c.set_once.new.self.limits; wings = c.set_once.new.self.words; words = c.self.inside.blocks.items }

slot : (g : _) (c : After-set_once g)
    → (wing_in (after g c) (Wing.Slot c.in-Slot.comm c.in-Slot.round c.in-Slot.rank) ≡ c.args.word)
    × ((x : Wing) → IsWingWithin (before g c).limits x → x ≢ Wing.Slot c.in-Slot.comm c.in-Slot.round c.in-Slot.rank → wing_in (after g c) x ≡ wing_in (before g c) x)
unfolding before after
slot g c =
    let wings = c.self.inside.wings in
    let place = Place.Slot c.in-Slot.comm c.in-Slot.round c.in-Slot.rank in
    let within : IsWingWithin wings.limits c.args.wing = subst (λ (o : SideWords). IsWingWithin o.limits c.args.wing) (sym c.self.view_is) c.requires.within in
    let cell : IsCell wings.limits c.in-Slot.comm c.in-Slot.round c.in-Slot.rank = subst (IsWingWithin wings.limits) c.in-Slot.is within in
    let zero : slice_index wings.words (key_in wings.limits place) ≡ 0 = ap (wing_in (before g c)) (sym c.in-Slot.is) ∙ (ap (λ (o : SideWords). wing_in o c.args.wing) c.self.view_is ∙ c.requires.zero) in
    slot_set (before g c) (after g c) c.in-Slot.comm c.in-Slot.round c.in-Slot.rank c.args.word cell c.self.invariant.wings_size c.set_once.ensures.limits refl (c.set_once.ensures.set (c.set_once.ensures.stood ∙ zero))

pub returns-in-Slot-clause-set : goal.returns-in-Slot-clause-set
unfolding before after
returns-in-Slot-clause-set g c = ap (wing_in (after g c)) c.in-Slot.is ∙ (slot g c).0

pub returns-in-Slot-clause-others : goal.returns-in-Slot-clause-others
unfolding before after
returns-in-Slot-clause-others g c =
    subst (λ (o : SideWords). (x : Wing) → IsWingWithin o.limits x → x ≢ c.args.wing → wing_in (after g c) x ≡ wing_in o x) c.self.view_is
    (λ x there other. (slot g c).1 x there (λ same. other (same ∙ sym c.in-Slot.is)))

pub returns-in-Block-clause-others : goal.returns-in-Block-clause-others
returns-in-Block-clause-others g c =
    let wings = c.self.inside.wings in
    let a = c.in-Block.block in
    let old : SideWords = record { limits = wings.limits; wings = wings.words; words = c.self.inside.blocks.items } in
    let new : SideWords = record { limits = wings.limits; wings = wings.words; words = slice_set c.self.inside.blocks.items (c.index-index.result + 1) c.args.word } in
    let within : IsWingWithin wings.limits c.args.wing = subst (λ (o : SideWords). IsWingWithin o.limits c.args.wing) (sym c.self.view_is) c.requires.within in
    let there : IsBlockWithin wings.limits a = subst (IsWingWithin wings.limits) c.in-Block.is within in
    let at : c.index-index.result + 1 ≡ 2 * block_key wings.limits a + 1 = ap (λ n. n + 1) (c.index-index.ensures.at ∙ ap (λ (o : SideWords). 2 * block_key o.limits a) (sym c.self.view_is)) in
    subst (λ (o : SideWords). (x : Wing) → IsWingWithin o.limits x → x ≢ c.args.wing → wing_in new x ≡ wing_in o x) c.self.view_is
    (λ x in_it other. block_wing_set old new a (c.index-index.result + 1) c.args.word there at refl refl refl x in_it (λ same. other (same ∙ sym c.in-Block.is)))

use Rattle.std.proofs.Common.{◌≡◌, arith, sym, subst, []}
use Rattle.ulfm_model.specs.declared.{limits.Limits.{Limits}}
use Rattle.ulfm_words.specs.{Places.{IsWingWithin}, Besides.{AreBeside, written}, Pass.{cached_by, entries}, Rows.{block_in, wing_in}}
use Rattle.ulfm_words.proofs.{Besides.{beside_new}, Tied.{tied_new}}
use Rattle.ulfm_words.proofs.plain.PlainPass.new.Goals as goal

pub invariant_of-result : goal.invariant_of-result
invariant_of-result g c =
    let limits = c.args.limits in
    let sides = c.in_ok-sides.sides in
    let new = beside_new g.P.Meld.meld g.P.Packed.pack limits (block_in sides) (wing_in sides) c.in_ok-sides.ensures.blocks c.in_ok-sides.ensures.wings in
    let same : sides.limits ≡ limits = c.in_ok-sides.ensures.limits in
    let here : AreBeside g.P.Meld.meld g.P.Packed.pack (written [] sides.limits []) (block_in sides) (wing_in sides) = subst (λ (l : Limits). AreBeside g.P.Meld.meld g.P.Packed.pack (written [] l []) (block_in sides) (wing_in sides)) (sym same) new in
    rw c.in_ok-row.ensures.0 (
      tied_new g.P.Meld.meld g.P.Packed.pack g.P.Packed.unpack limits c.in_ok-row.row.words c.in_ok-journal.journal.items _ c.requires c.in_ok-row.ensures.1 c.in_ok-journal.ensures.items (omega (arith, c.in_ok-journal.ensures.capacity, c.size.ensures)),
      same,
      rw (c.in_ok-journal.ensures.items, c.new-3.ensures) here,
      λ x within some. absurd (some (c.in_ok-sides.ensures.wings x (subst (λ (l : Limits). IsWingWithin l x) same within))),
    )

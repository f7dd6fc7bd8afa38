-- In the list of communicators each stands behind its parent.
use Rattle.std.proofs.Common.{◌≡◌, ℕ, ◌<◌, ◌≤◌, ◌++◌, [], length, get_or, inl, inr, Some, slice_get, ap, sym, ◌∙◌, append-nil, arith}
use Rattle.std.specs.{List.{cons_option}, Option.{option_map}}
use Rattle.std.proofs.lemmas.Option.{slice_get-get_or, slice_get-map}
use Rattle.ulfm_model.specs.declared.{limits.Limits.{Limits}, event.Event.{Event}, event.Event.TheVariants.{Fail, Settle, Mark, Arrive, Revoke, Spawn}}
use Rattle.ulfm_model.specs.History.{Exists, History, IsLegal, MayFollow, spawns}
use Rattle.ulfm_model.proofs.{Histories.{by_events, spawns_push}, OneEvent.{made_by}, Spawned.{at_push}}
use Rattle.ulfm_steps.specs.Appends.{Passed, items}
use Rattle.ulfm_steps.specs.declared.item.Item.{Item}
use Rattle.ulfm_steps.specs.declared.item.Item.TheVariants.{Comm as OfComm}

module _ {P : Type 0} (meld : P → P → P) (limits : Limits) where
  -- each communicator was made of one that there was before it
  abbrev AreBehind : History P → Type 0
  AreBehind h = (i c k : ℕ) → slice_get (spawns h) i ≡ Some (c, k) → c ≤ i

  same : (h : History P) → AreBehind h → (i c k : ℕ) → slice_get (spawns h ++ []) i ≡ Some (c, k) → c ≤ i
  same h q i c k at = q i c k (ap (λ xs. slice_get xs i) (sym (append-nil (spawns h))) ∙ at)

  more : (h : History P) (ev : Event P) → AreBehind h → MayFollow meld limits h ev → (i c k : ℕ)
      → slice_get (spawns h ++ cons_option (made_by ev) []) i ≡ Some (c, k) → c ≤ i
  more h (Spawn j parent round) q may i c k at =
      elim (at_push meld limits (spawns h) (parent, round) (c, k) i at) [
        | inl there ↦ q i c k there.1
        | inr last ↦ let this : parent ≡ c = ap (λ (made : ℕ × ℕ). made.0) last.1 in omega (arith, may.exists, last.0, this)
      ]
  more h (Fail rank) q may i c k at = same h q i c k at
  more h (Settle comm round rank given) q may i c k at = same h q i c k at
  more h (Mark comm round rank known) q may i c k at = same h q i c k at
  more h (Arrive comm round rank) q may i c k at = same h q i c k at
  more h (Revoke comm) q may i c k at = same h q i c k at

  are_behind : (h : History P) → IsLegal meld limits h → AreBehind h
  are_behind h legal =
      by_events meld limits AreBehind (λ i c k none. absurd (cc none))
      (λ w e lw q may i c k at. more w e.event q may i c k (ap (λ xs. slice_get xs i) (sym (spawns_push w e)) ∙ at)) h legal

  -- so none of the communicators up to one that exists was made of it
  pub passed_parent : (h : History P) (c k n : ℕ) → IsLegal meld limits h → Exists h c → n ≤ c → Passed h (OfComm c k) n
  passed_parent h c k n legal exists few j below =
      let made = get_or (spawns h) j (0, 0) in
      let at : slice_get (spawns h) j ≡ Some made = slice_get-get_or (spawns h) j (0, 0) (omega (arith, below, few, exists)) in (
        OfComm made.0 made.1,
        slice_get-map (λ made. OfComm made.0 made.1) (spawns h) j ∙ ap (option_map (λ made. OfComm made.0 made.1)) at,
        λ is. let this : made.0 ≡ c = cc is in let behind = are_behind h legal j made.0 made.1 at in absurd (omega (arith, behind, this, below, few)),
      )

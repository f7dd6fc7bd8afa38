-- Context ids: each communicator has one, and a shrink offers those that its rank doesn't hold.
use Rattle.std.proofs.Common.{◌≡◌, ◌↔◌, ℕ, zero, suc, ◌<◌, ◌-◌, ◌++◌, ◌∙◌, sym, length, append-nil, IsTrue, w64, ◌==◌, false, ap, Option, Some, slice_get, List, [], ◌∷◌, subst, arith, inl, inr, refl}
use Rattle.ulfm_laws.specs.Ranges.{payload_bits}
use Rattle.std.specs.Int.{bit_at, trailing_zeros}
use Rattle.std.specs.List.{AllByRecursion, cons_option}
use Rattle.std.proofs.lemmas.Bool.{cases_lt, or_from, or_parts}
use Rattle.std.proofs.lemmas.Nat.Bits.{bit_at_above, bit_at-trailing_zeros}
use Rattle.ulfm_laws.specs.declared.{summary.Body.{Body}, summary.Body.TheVariants.{Ctx as Ids}, summary.CtxMask.{CtxMask}}
use Rattle.ulfm_model.specs.declared.event.Caller.{Caller}
use Rattle.ulfm_model.specs.declared.event.Entry.{Entry}
use Rattle.ulfm_model.specs.declared.event.Event.{Event}
use Rattle.ulfm_model.specs.declared.event.Event.TheVariants.{Spawn}
use Rattle.ulfm_model.specs.declared.limits.Limits.{Limits}
use Rattle.ulfm_model.specs.History.{History, has, spawns}
use Rattle.ulfm_model.specs.{History.{Decision, Exists, IsLegal, MayFollow, decision, is_decided}, Records.{Fits, FitsHeld, Held, IsContext, IsLowestId, Record, free_ids}}
use Rattle.ulfm_model.specs.Terms.{contexts_of}
use Rattle.ulfm_model.specs.Laws.{HasOneContext}
use Rattle.ulfm_model.proofs.Decisions.{decision_push}
use Rattle.ulfm_model.proofs.FreeIds.{free_where}
use Rattle.ulfm_model.proofs.Histories.{by_events, spawns_push}
use Rattle.ulfm_model.proofs.Lists.{each_from}
use Rattle.ulfm_model.proofs.OneEvent.{made_by}
use Rattle.ulfm_model.proofs.Spawned.{at_push, members_of_spawned}

-- a mask has one least id
lowest_one : (mask i j : ℕ) → IsLowestId mask i → IsLowestId mask j → i ≡ j
lowest_one mask i j low also =
    elim (cases_lt i j) [
      | inl less ↦ absurd (omega (arith, low.in_it, also.least i less))
      | inr more ↦ elim (cases_lt j i) [ inl less ↦ absurd (omega (arith, also.in_it, low.least j less)) | inr same ↦ omega (arith, more, same) ]
    ]

none_held : (held : List Held) (id : ℕ) → (has (contexts_of held) id ≡ false) ↔ AllByRecursion (λ x. (x.context == id) ≡ false) held
none_held [] id = (λ out. tt, λ all. refl)
none_held (x ∷ held) id =
    let rest = none_held held id in (
      λ out. let parts = or_parts (x.context == id) (has (contexts_of held) id) out in (parts.0, rest.0 parts.1),
      λ all. or_from (x.context == id) (has (contexts_of held) id) all.0 (rest.1 all.1),
    )

get_some : {X : Type 0} (xs : List X) (n : ℕ) → n < length xs → (x : X) × (slice_get xs n ≡ Some x)
get_some [] n within = absurd (omega (arith, within))
get_some (x ∷ xs) zero within = (x, refl)
get_some (x ∷ xs) (suc n) within = get_some xs n (omega (arith, within))

one_mask : {P : Type 0} (o : Option (ℕ × ℕ)) (body : ℕ × ℕ → Body P) (x y : ℕ × ℕ) (m n : CtxMask) → o ≡ Some x → o ≡ Some y → body x ≡ Ids m → body y ≡ Ids n → m ≡ n
one_mask o body x y m n is also ids others = let same : x ≡ y = cc in cc (ap body same)

module _ {P : Type 0} (meld : P → P → P) where
  -- a context id is below payload_bits
  pub context_below : (ranks : ℕ) (h : History P) (c context : ℕ) → IsContext meld ranks h c context → context < payload_bits
  context_below ranks h c context (inl world) = omega (arith, world.1)
  context_below ranks h c context (inr made) =
      elim (cases_lt context payload_bits) [ inl less ↦ less | inr more ↦ absurd (omega (arith, made.6.in_it, bit_at_above made.2.bits payload_bits context made.2.fits more)) ]

  -- a communicator has one context id
  pub context_one : (ranks : ℕ) (h : History P) (c context other : ℕ) → IsContext meld ranks h c context → IsContext meld ranks h c other → context ≡ other
  context_one ranks h c context other (inl world) (inl also) = omega (arith, world.1, also.1)
  context_one ranks h c context other (inl world) (inr made) = absurd (omega (arith, world.0, made.3))
  context_one ranks h c context other (inr made) (inl world) = absurd (omega (arith, world.0, made.3))
  context_one ranks h c context other (inr made) (inr also) =
      let mask : made.2 ≡ also.2 =
      one_mask (slice_get (spawns h) (c - 1)) (λ x. (decision meld ranks h x.0 x.1).body) (made.0, made.1) (also.0, also.1) made.2 also.2 made.4 also.4 made.5 also.5 in
      lowest_one also.2.bits context other (subst (λ (m : CtxMask). IsLowestId m.bits context) mask made.6) also.6

  -- a shrink offers the ids that no communicator of the record has
  pub offered_where : (limits : Limits) (h : History P) (own : Record) → Fits meld limits h own → (id : ℕ) → id < payload_bits → (bit_at (free_ids own.held).bits id ≡ 1) ↔ (has (contexts_of own.held) id ≡ false)
  offered_where limits h own fits id within =
      let below = each_from (FitsHeld meld limits.ranks h own.number (contexts_of own.held)) (λ x. x.context < payload_bits) (λ x is. context_below limits.ranks h x.comm x.context is.context) own.held fits.held in
      let free = free_where own.held id within below in
      let none = none_held own.held id in
      (λ bit. none.1 (free.0 bit), λ out. free.1 (none.0 out))

module _ {P : Type 0} (meld : P → P → P) (limits : Limits) where
  -- a round has decided on a set of ids that isn't empty
  abbrev HasIds : History P → ℕ × ℕ → Type 0
  HasIds h made = (mask : CtxMask) × ((decision meld limits.ranks h made.0 made.1).body ≡ Ids mask) × (0 < mask.bits)

  ids_push : (h : History P) (e : Entry P) (made : ℕ × ℕ) → IsLegal meld limits h → Exists h made.0 → IsTrue (is_decided limits.ranks h made.0 made.1) → MayFollow meld limits h e.event → HasIds h made → HasIds (h ++ e ∷ []) made
  ids_push h e made legal here all may ids =
      let next = decision_push meld limits h e made.0 made.1 legal here all may in
      (ids.0, ap (λ (d : Decision P). d.body) next.1 ∙ ids.1, ids.2)

  -- every communicator was made of such a round
  abbrev AllHaveIds : History P → Type 0
  AllHaveIds h = (j : ℕ) (made : ℕ × ℕ) → slice_get (spawns h) j ≡ Some made → HasIds h made

  old_ids : (h : History P) (e : Entry P) (j : ℕ) (made : ℕ × ℕ) → IsLegal meld limits h → AllHaveIds h → MayFollow meld limits h e.event → slice_get (spawns h) j ≡ Some made → HasIds (h ++ e ∷ []) made
  old_ids h e j made legal all may at =
      let was = members_of_spawned meld limits h legal j made.0 made.1 at in
      ids_push h e made legal was.exists was.decided may (all j made at)

  more_ids : (h : History P) (by : Caller) (event : Event P) → IsLegal meld limits h → AllHaveIds h → MayFollow meld limits h event → (j : ℕ) (made : ℕ × ℕ)
      → slice_get (spawns h ++ cons_option (made_by event) []) j ≡ Some made → HasIds (h ++ record { by = by; event = event } ∷ []) made
  more_ids h by (Spawn i parent k) legal all may j made at =
      let e : Entry P = record { by = by; event = Spawn i parent k } in
      elim (at_push meld limits (spawns h) (parent, k) made j at) [
        | inl old ↦ old_ids h e j made legal all may old.1
        | inr new ↦ subst (HasIds (h ++ e ∷ [])) new.1 (ids_push h e (parent, k) legal may.exists may.decided may may.ids)
      ]
  more_ids h by event legal all may j made at =
      old_ids h (record { by = by; event = event }) j made legal all may (ap (λ xs. slice_get xs j) (sym (append-nil (spawns h))) ∙ at)

  all_have_ids : (h : History P) → IsLegal meld limits h → AllHaveIds h
  all_have_ids h legal =
      by_events meld limits AllHaveIds (λ j made at. absurd (cc at))
      (λ w e lw q may j made at. more_ids w e.by e.event lw q may j made (ap (λ xs. slice_get xs j) (sym (spawns_push w e)) ∙ at)) h legal

  context_of : (h : History P) (c : ℕ) → IsLegal meld limits h → Exists h c → (context : ℕ) × IsContext meld limits.ranks h c context
  context_of h zero legal here = (0, inl (refl, refl))
  context_of h (suc j) legal here =
      let at = get_some (spawns h) j (omega (arith, here)) in
      let ids = all_have_ids h legal j at.0 at.1 in
      let lowest = bit_at-trailing_zeros w64 ids.0.bits ids.2 ids.0.fits in
      let before : suc j - 1 ≡ j = omega arith in
      (trailing_zeros w64 ids.0.bits, inr (at.0.0, at.0.1, ids.0, omega arith, ap (slice_get (spawns h)) before ∙ at.1, ids.1, record { in_it = lowest.1; least = lowest.2 }))

  -- a communicator that exists has one context id
  pub has_one_context : (h : History P) (c : ℕ) → IsLegal meld limits h → Exists h c → HasOneContext meld limits.ranks h c
  has_one_context h c legal here =
      let one = context_of h c legal here in
      record {
        context = one.0;
        is = one.1;
        below = context_below meld limits.ranks h c one.0 one.1;
        only = λ other also. context_one meld limits.ranks h c other one.0 also one.1;
      }

-- Context ids: which ones a rank offers, and that a round decides on none that one of its contributors holds.
use Rattle.std.proofs.Common.{◌≡◌, ℕ, zero, suc, ◌<◌, ◌≤◌, min, ◌==◌, ◌&&◌, Bool, true, cond, List, [], ◌∷◌, map, length, Option, Some, None, slice_get, refl, ap, sym, ◌∙◌, subst, arith, filter_map, if◌then◌else◌}
use Rattle.ulfm_laws.specs.Ranges.{payload_bits}
use Rattle.std.specs.Prelude.{Contains, ⊤}
use Rattle.std.specs.Int.{bit_at}
use Rattle.std.specs.List.{AllByRecursion, cons_option}
use Rattle.std.proofs.lemmas.Bool.{and_from, eq-eqb}
use Rattle.std.proofs.lemmas.Nat.Bits.{bit_at_and, bit_at-lt}
use Rattle.ulfm_laws.specs.declared.summary.Body.{Body}
use Rattle.ulfm_laws.specs.declared.summary.Body.TheVariants.{Unit as NoBody, Flag, Ctx, Clash}
use Rattle.ulfm_laws.specs.declared.summary.CtxMask.{CtxMask}
use Rattle.ulfm_laws.specs.Bodies.{body_unit, body_meld}
use Rattle.ulfm_laws.specs.Combined.{combined}
use Rattle.ulfm_model.specs.declared.contribution.Contribution.{Contribution}
use Rattle.ulfm_model.specs.declared.contribution.Offer.TheVariants.{Ctx as Ids}
use Rattle.ulfm_model.specs.declared.contribution.Slot.{Slot}
use Rattle.ulfm_model.specs.declared.contribution.Slot.TheVariants.{Given, Mark as Marked}
use Rattle.ulfm_model.specs.declared.event.Event.TheVariants.{Settle}
use Rattle.ulfm_model.specs.declared.limits.Limits.{Limits}
use Rattle.ulfm_model.specs.History.{History, has, same_place, slot}
use Rattle.ulfm_model.specs.{History.{IsLegal, body_of, contribution_of, decision, members}, Records.{Held, all_but, free_ids}}
use Rattle.ulfm_model.specs.Terms.{IsOwn, contexts_of}
use Rattle.ulfm_model.proofs.OneEvent.{put_by}
use Rattle.ulfm_model.proofs.Histories.{slot_first}
use Rattle.ulfm_model.proofs.Lists.{at_member, each_from, in_list}
use Rattle.ulfm_model.proofs.Decisions.{settled_once}
use Rattle.ulfm_model.proofs.FreeIds.{all_but_is}

-- no id that is held is free
pub held_not_free : (held : List Held) → AllByRecursion (λ x. x.context < payload_bits) held → AllByRecursion (λ i. bit_at (free_ids held).bits i ≡ 0) (contexts_of held)
held_not_free [] small = tt
held_not_free (x ∷ held) small =
    let both : (i : ℕ) → bit_at (free_ids (x ∷ held)).bits i ≡ min (bit_at (all_but x.context).bits i) (bit_at (free_ids held).bits i) = λ i. bit_at_and (all_but x.context).bits (free_ids held).bits i in
    let own : bit_at (all_but x.context).bits x.context ≡ 0 = all_but_is x.context x.context small.0 small.0 ∙ ap (λ (b : Bool). let n : ℕ = (if b then 0 else 1) in n) (eq-eqb x.context x.context refl) in
    (omega (arith, both x.context, own), each_from (λ i. bit_at (free_ids held).bits i ≡ 0) (λ i. bit_at (free_ids (x ∷ held)).bits i ≡ 0) (λ i none. omega (arith, both i, none)) (contexts_of held) (held_not_free held small.1))

-- a body that leaves id i free
abbrev LeavesFree : {P : Type 0} → ℕ → Body P → Type 0
LeavesFree i NoBody = ⊤
LeavesFree i (Flag flag) = ⊥
LeavesFree i (Ctx mask) = bit_at mask.bits i ≡ 1
LeavesFree i Clash = ⊥

-- an entry that a history has, where the first value of all is the only one
first_of_one : {X Y : Type 0} (f : X → Option Y) (xs : List X) (x : X) (y : Y) → Contains xs x → f x ≡ Some y → length (filter_map f xs) ≤ 1 → slice_get (filter_map f xs) 0 ≡ Some y
first_of_one f [] x y at is one = absurd (omega (arith, at.1))
first_of_one f (w ∷ xs) x y (zero, within, at) is one =
    let first : f w ≡ Some y = ap f at ∙ is in subst (λ o. slice_get (cons_option o (filter_map f xs)) 0 ≡ Some y) (sym first) refl
first_of_one {Y = Y} f (w ∷ xs) x y (suc k, within, at) is one =
    let more : length (filter_map f xs) ≤ 1 → slice_get (filter_map f xs) 0 ≡ Some y = first_of_one f xs x y (k, omega (arith, within), at) is in
    elim (f w) as (λ o. length (cons_option o (filter_map f xs)) ≤ 1 → slice_get (cons_option o (filter_map f xs)) 0 ≡ Some y) [
      | None ↦ more
      | Some z ↦ λ one. absurd (let some = in_list (filter_map f xs) 0 y (more (omega (arith, one))) in omega (arith, one, some))
    ] one

-- what holds of all bodies of a round holds of each member's
pub each_given : {P : Type 0} (f : ℕ → Option (Slot P)) (Q : Body P → Type 0) (ms : List ℕ) → AllByRecursion Q (map (λ g. body_of g.offer) (filter_map contribution_of (filter_map f ms)))
    → AllByRecursion (λ r. (given : Contribution P) → f r ≡ Some (Given given) → Q (body_of given.offer)) ms
each_given f Q [] all = tt
each_given {P} f Q (r ∷ ms) all = let parts = go (f r) refl all in (parts.0, each_given f Q ms parts.1)
  where
    go : (o : Option (Slot P)) → f r ≡ o → AllByRecursion Q (map (λ g. body_of g.offer) (filter_map contribution_of (cons_option o (filter_map f ms))))
        → ((given : Contribution P) → f r ≡ Some (Given given) → Q (body_of given.offer)) × AllByRecursion Q (map (λ g. body_of g.offer) (filter_map contribution_of (filter_map f ms)))
    go None is all = (λ given e. absurd (cc (is, e)), all)
    go (Some (Marked mark)) is all = (λ given e. absurd (cc (is, e)), all)
    go (Some (Given here)) is all = (λ given e. let same : here ≡ given = cc (is, e) in subst (λ g. Q (body_of g.offer)) same all.0, all.1)

module _ {P : Type 0} (meld : P → P → P) where
  both_leave : (i : ℕ) (x y : Body P) → LeavesFree i (body_meld meld x y) → LeavesFree i x × LeavesFree i y
  both_leave i NoBody y free = (tt, free)
  both_leave i (Flag x) NoBody free = absurd free
  both_leave i (Ctx x) NoBody free = (free, tt)
  both_leave i Clash NoBody free = absurd free
  both_leave i (Ctx x) (Ctx y) free =
      let both = bit_at_and x.bits y.bits i in
      let one = bit_at-lt x.bits i in
      let other = bit_at-lt y.bits i in
      (omega (arith, free, both, one, other), omega (arith, free, both, one, other))
  both_leave i (Flag x) (Flag y) free = absurd free
  both_leave i (Flag x) (Ctx y) free = absurd free
  both_leave i (Flag x) Clash free = absurd free
  both_leave i (Ctx x) (Flag y) free = absurd free
  both_leave i (Ctx x) Clash free = absurd free
  both_leave i Clash (Flag y) free = absurd free
  both_leave i Clash (Ctx y) free = absurd free
  both_leave i Clash Clash free = absurd free

  all_leave : (i : ℕ) (xs : List (Body P)) → LeavesFree i (combined body_unit (body_meld meld) xs) → AllByRecursion (LeavesFree i) xs
  all_leave i [] free = tt
  all_leave i (x ∷ xs) free = let both = both_leave i x (combined body_unit (body_meld meld) xs) free in (both.0, all_leave i xs both.1)

  -- an id that a round decides on is free at each member that contributed
  pub free_at_each : (ranks : ℕ) (h : History P) (c k r : ℕ) (mask own : CtxMask) (given : Contribution P) (i : ℕ) → (decision meld ranks h c k).body ≡ Ctx mask → bit_at mask.bits i ≡ 1
      → has (members ranks h c) r ≡ true → slot h c k r ≡ Some (Given given) → given.offer ≡ Ids own → bit_at own.bits i ≡ 1
  free_at_each ranks h c k r mask own given i body is member stands offer =
      let free : LeavesFree i (decision meld ranks h c k).body = subst (LeavesFree i) (sym body) is in
      let bodies = map (λ g. body_of g.offer) (filter_map contribution_of (filter_map (slot h c k) (members ranks h c))) in
      let each = each_given (slot h c k) (LeavesFree i) (members ranks h c) (all_leave i bodies free) in
      let here = at_member (λ r. (given : Contribution P) → slot h c k r ≡ Some (Given given) → LeavesFree i (body_of given.offer)) (members ranks h c) r each member in
      subst (λ offer. LeavesFree i (body_of offer)) offer (here given stands)

  -- a contribution that a legal history has in a rank's name stands at the rank's place
  pub own_stands : (limits : Limits) (h : History P) (c k r : ℕ) (given : Contribution P) → IsLegal meld limits h → IsOwn h r (Settle c k r given) → slot h c k r ≡ Some (Given given)
  own_stands limits h c k r given legal own =
      slot_first h c k r ∙ first_of_one (λ e. put_by c k r e.event) h _ (Given given) own here (settled_once meld limits h legal c k r)
    where
      here : put_by c k r (Settle c k r given) ≡ Some (Given given)
      here =
          let same : same_place (c, k, r) (c, k, r) ≡ true = and_from ((c == c) && (k == k)) (r == r) (and_from (c == c) (k == k) (eq-eqb c c refl) (eq-eqb k k refl)) (eq-eqb r r refl) in
          ap (λ b. cond b (Some (Given given)) None) same

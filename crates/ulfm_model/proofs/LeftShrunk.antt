-- The communicator that a shrink made is held as the history has it, and its context id is one that the rank doesn't hold.
use Rattle.std.proofs.Common.{◌≡◌, ℕ, ◌+◌, ◌-◌, ◌<◌, true, false, not, List, [], ◌∷◌, ◌++◌, Some, None, slice_get, refl, ap, sym, ◌∙◌, subst, arith, nat_eq, inr, IsTrue, IsFalse}
use Rattle.std.specs.Int.{bit_at}
use Rattle.std.specs.List.{AllByRecursion}
use Rattle.std.proofs.lemmas.Bool.{ne_eqb, not_from_false}
use mathlib.Core.List.{IsPrefix}
use Rattle.ulfm_laws.specs.declared.summary.Body.TheVariants.{Ctx as Ids}
use Rattle.ulfm_laws.specs.declared.summary.CtxMask.{CtxMask}
use Rattle.ulfm_model.specs.declared.call.Request.TheVariants.{Shrink}
use Rattle.ulfm_model.specs.declared.limits.Limits.{Limits}
use Rattle.ulfm_model.specs.History.{History, has, spawns, without}
use Rattle.ulfm_model.specs.{History.{Decision, Exists, IsLegal, decision, is_decided, members}, Records.{Fits, FitsHeld, FitsRequest, Held, IsLowestId, Record, held_at, is_shrink}}
use Rattle.ulfm_model.specs.Terms.{contexts_of, new_held}
use Rattle.ulfm_model.specs.Answers.{closed}
use Rattle.ulfm_model.proofs.Lists.{each_from, get_prefix, has_kept, in_list}
use Rattle.ulfm_model.proofs.Histories.{members_stay}
use Rattle.ulfm_model.proofs.Decisions.{decision_stays}
use Rattle.ulfm_model.proofs.Spawned.{members_of_spawned}
use Rattle.ulfm_model.proofs.Stable.{spawns_begin}
use Rattle.ulfm_model.proofs.LeftHeld.{contexts_change, shrinks_closed}
use Rattle.ulfm_model.proofs.LeftIds.{free_at_each, own_stands}
use Rattle.ulfm_model.proofs.LeftFits.{fits_closed, fits_push, held_fits}

module _ {P : Type 0} (meld : P → P → P) (limits : Limits) where
  abbrev ranks : ℕ
  ranks = limits.ranks

  -- communicator j was made of round k of communicator c, which found these ids free and doesn't leave rank r out
  pub record IsFound (h : History P) (r c k j : ℕ) (mask : CtxMask) : Type 0 where
    pub some : 0 < j
    pub made : slice_get (spawns h) (j - 1) ≡ Some (c, k)
    pub body : (decision meld ranks h c k).body ≡ Ids mask
    pub stays : IsFalse (has (decision meld ranks h c k).failed r)

  -- it is so in every legal history that begins with one in which the round is decided
  pub found_stays : (h longer : History P) (r c k j : ℕ) (mask : CtxMask) → IsPrefix h longer → IsLegal meld limits longer → Exists h c → IsTrue (is_decided ranks h c k)
      → IsFound h r c k j mask → IsFound longer r c k j mask × (members ranks longer j ≡ members ranks h j)
  found_stays h longer r c k j mask begins legal here decided found =
      let same = (decision_stays meld limits h longer c k begins legal here decided).1 in
      let below = in_list (spawns h) (j - 1) (c, k) found.made in
      let some = found.some in (
        record {
          some = found.some;
          made = get_prefix (spawns h) (spawns longer) (j - 1) (c, k) (spawns_begin h longer begins) found.made;
          body = ap (λ (d : Decision P). d.body) same ∙ found.body;
          stays = ap (λ (d : Decision P). has d.failed r) same ∙ found.stays;
        },
        (members_stay ranks h longer j begins (omega (arith, below, some))).1,
      )

  module _ (h : History P) (legal : IsLegal meld limits h) where
    -- no id that is held is the least that the rank's shrink found free
    apart : (r : ℕ) (ids : List ℕ) (x : Held) (k : ℕ) (mask : CtxMask) (context : ℕ) → FitsHeld meld ranks h r ids x → x.request ≡ Some (Shrink k) → (decision meld ranks h x.comm k).body ≡ Ids mask
        → bit_at mask.bits context ≡ 1 → AllByRecursion (λ i. nat_eq i context ≡ false) ids
    apart r ids x k mask context fits asked body is =
        let request = subst (FitsRequest h r ids x.comm) asked fits.request in
        let member = ap (λ ms. has ms r) (sym fits.group) ∙ fits.member in
        let free = free_at_each meld ranks h x.comm k r mask request.1 request.0 context body is member (own_stands meld limits h x.comm k r request.0 legal request.2) request.3 in
        each_from (λ i. bit_at request.1.bits i ≡ 0) (λ i. nat_eq i context ≡ false)
        (λ i held. ne_eqb i context (λ same. let here : bit_at request.1.bits context ≡ 0 = subst (λ n. bit_at request.1.bits n ≡ 0) same held in omega (arith, here, free))) ids request.4

    new_fits : (r : ℕ) (ids : List ℕ) (c k j context : ℕ) (mask : CtxMask) → has (members ranks h c) r ≡ true → IsFound h r c k j mask → IsLowestId mask.bits context
        → FitsHeld meld ranks h r ids (new_held j context (members ranks h j))
    new_fits r ids c k j context mask member found lowest =
        let some = found.some in
        let below = in_list (spawns h) (j - 1) (c, k) found.made in
        let made = members_of_spawned meld limits h legal (j - 1) c k found.made in
        let this : j - 1 + 1 ≡ j = omega (arith, some) in
        let group : members ranks h j ≡ without (members ranks h c) (decision meld ranks h c k).failed = ap (members ranks h) (sym this) ∙ made.group in
        record {
          exists = omega (arith, below, some);
          group = refl;
          member = ap (λ ms. has ms r) group ∙ has_kept (λ x. not (has (decision meld ranks h c k).failed x)) (members ranks h c) r member (not_from_false (has (decision meld ranks h c k).failed r) found.stays);
          context = inr (c, k, mask, found.some, found.made, found.body, lowest);
          acked = omega arith;
          request = tt;
        }

    -- what a shrink leaves fits: its request is closed, and the new communicator is held
    pub fits_shrunk : (own : Record) (c k j context : ℕ) (x : Held) (mask : CtxMask) → Fits meld limits h own → held_at own c ≡ Some x → x.request ≡ Some (Shrink k) → IsFound h own.number x.comm k j mask
        → IsLowestId mask.bits context → Fits meld limits h (let rest = closed own c in record rest { held = rest.held ++ new_held j context (members ranks h j) ∷ [] })
    fits_shrunk own c k j context x mask fits at asked found lowest =
        let f : Held → Held = λ y. record y { request = None } in
        let old = (held_fits meld limits h own c x fits at).0 in
        let member = ap (λ ms. has ms own.number) (sym old.group) ∙ old.member in
        let rest = closed own c in
        fits_push meld limits h rest (new_held j context (members ranks h j)) (fits_closed meld limits h own c x fits at)
        (shrinks_closed c f own.held x at (ap is_shrink asked) refl fits.one_shrink) refl
        (subst (AllByRecursion (λ i. nat_eq i context ≡ false)) (sym (contexts_change c f own.held x at refl)) (apart own.number (contexts_of own.held) x k mask context old asked found.body lowest.in_it))
        (new_fits own.number (contexts_of rest.held) x.comm k j context mask member found lowest)

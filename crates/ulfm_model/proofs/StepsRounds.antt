-- A round at the end of a poll: what the caller offered stands in it, and it is decided or somebody is missing.
use Rattle.std.proofs.Common.{◌≡◌, ◌⊎◌, ℕ, Bool, true, false, ◌||◌, ◌==◌, List, [], ◌∷◌, ◌++◌, map, Option, Some, None, is_some, refl, ap, sym, ◌∙◌, subst, filter, filter_map, inl, inr, IsTrue, IsFalse, if◌then◌else◌, arith}
use Rattle.std.specs.Prelude.{⊤}
use Rattle.std.specs.List.{AllByRecursion, cons_option, list_all}
use Rattle.std.proofs.lemmas.Bool.{eqb-true}
use Rattle.std.proofs.lemmas.List.Elements.{Contains-push_cases}
use Rattle.ulfm_laws.specs.declared.summary.Body.{Body}
use Rattle.ulfm_laws.specs.declared.summary.Body.TheVariants.{Unit as NoBody, Flag as OfFlags, Ctx as OfIds, Clash}
use Rattle.ulfm_laws.specs.Bodies.{body_unit, body_meld}
use Rattle.ulfm_laws.specs.Combined.{combined}
use Rattle.ulfm_model.specs.declared.contribution.Contribution.{Contribution}
use Rattle.ulfm_model.specs.declared.contribution.Slot.{Slot}
use Rattle.ulfm_model.specs.declared.contribution.Slot.TheVariants.{Given, Mark as Marked}
use Rattle.ulfm_model.specs.declared.limits.Limits.{Limits}
use Rattle.ulfm_model.specs.declared.event.Entry.{Entry}
use Rattle.ulfm_model.specs.declared.event.Caller.TheVariants.{Rank}
use Rattle.ulfm_model.specs.declared.event.Event.{Event}
use Rattle.ulfm_model.specs.declared.event.Event.TheVariants.{Settle}
use Rattle.ulfm_model.specs.History.{History, failures, has, slot}
use Rattle.ulfm_model.specs.{History.{IsLegal, MayFollow, body_of, contribution_of, is_decided, members}, Records.{Held}}
use Rattle.ulfm_model.specs.Terms.{IsOwn}
use Rattle.ulfm_model.specs.Answers.{IsPending}
use Rattle.ulfm_model.proofs.Lists.{at_member, has_kept, none_of, some_fails}
use Rattle.ulfm_model.proofs.OneEvent.{put_by}
use Rattle.ulfm_model.proofs.Histories.{by_events, slot_push, slot_remains}
use Rattle.ulfm_model.proofs.Decisions.{put_stands}
use Rattle.ulfm_model.proofs.Marking.{same_itself}

module _ {P : Type 0} (meld : P → P → P) (limits : Limits) where
  -- what a rank has contributed in a legal history stands at its place
  pub given_stands : (h : History P) → IsLegal meld limits h → (c k r : ℕ) (given : Contribution P) → IsOwn h r (Settle c k r given) → slot h c k r ≡ Some (Given given)
  given_stands h legal =
      by_events meld limits (λ w. (c k r : ℕ) (given : Contribution P) → IsOwn w r (Settle c k r given) → slot w c k r ≡ Some (Given given)) (λ c k r given own. absurd (omega (arith, own.1)))
      (λ w e lw q may c k r given own. step w e c k r given may (q c k r given) (Contains-push_cases w e _ own)) h legal
    where
      step : (w : History P) (e : Entry P) (c k r : ℕ) (given : Contribution P) → MayFollow meld limits w e.event → (IsOwn w r (Settle c k r given) → slot w c k r ≡ Some (Given given))
          → IsOwn w r (Settle c k r given) ⊎ (e ≡ record { by = Rank r; event = Settle c k r given }) → slot (w ++ e ∷ []) c k r ≡ Some (Given given)
      step w e c k r given may q (inl before) = slot_remains w e c k r (Given given) (q before)
      step w e c k r given may q (inr last) =
          let puts : put_by c k r e.event ≡ Some (Given given) = ap (λ x. put_by c k r x.event) last ∙ ap (λ b. if b then Some (Given given) else None) (same_itself c k r) in
          slot_push w e c k r (put_stands meld limits w e.event c k r (Given given) may puts).0 ∙ puts

-- the bodies that settle a round, combined
abbrev bodies_of : {P : Type 0} → (P → P → P) → List (Slot P) → Body P
bodies_of meld settled = combined body_unit (body_meld meld) (map (λ g. body_of g.offer) (filter_map contribution_of settled))

-- a body of one sort, a mask or else a flag, or what came of both
abbrev pub IsSort : {P : Type 0} → Bool → Body P → Type 0
IsSort masks NoBody = ⊥
IsSort masks (OfFlags flag) = IsFalse masks
IsSort masks (OfIds mask) = IsTrue masks
IsSort masks Clash = ⊤

-- a flag, or a flag that met something else
abbrev pub IsFlagged : {P : Type 0} → Body P → Type 0
IsFlagged body = IsSort false body

-- a mask, or a mask that met something else
abbrev pub IsMasked : {P : Type 0} → Body P → Type 0
IsMasked body = IsSort true body

module _ {P : Type 0} (meld : P → P → P) (masks : Bool) where
  -- whatever it is combined with, a body stays of its sort
  sort_left : (x y : Body P) → IsSort masks x → IsSort masks (body_meld meld x y)
  sort_left NoBody y is = absurd is
  sort_left (OfFlags flag) NoBody is = is
  sort_left (OfFlags flag) (OfFlags other) is = is
  sort_left (OfFlags flag) (OfIds mask) is = tt
  sort_left (OfFlags flag) Clash is = tt
  sort_left (OfIds mask) NoBody is = is
  sort_left (OfIds mask) (OfFlags flag) is = tt
  sort_left (OfIds mask) (OfIds other) is = is
  sort_left (OfIds mask) Clash is = tt
  sort_left Clash NoBody is = tt
  sort_left Clash (OfFlags flag) is = tt
  sort_left Clash (OfIds mask) is = tt
  sort_left Clash Clash is = tt

  sort_right : (x y : Body P) → IsSort masks y → IsSort masks (body_meld meld x y)
  sort_right NoBody y is = is
  sort_right x NoBody is = absurd is
  sort_right (OfFlags flag) (OfFlags other) is = is
  sort_right (OfIds mask) (OfFlags flag) is = tt
  sort_right Clash (OfFlags flag) is = tt
  sort_right (OfFlags flag) (OfIds mask) is = tt
  sort_right (OfIds mask) (OfIds other) is = is
  sort_right Clash (OfIds mask) is = tt
  sort_right (OfFlags flag) Clash is = tt
  sort_right (OfIds mask) Clash is = tt
  sort_right Clash Clash is = tt

  -- the round of a member is of the sort that this member gave
  pub offered : (w : History P) (c k r : ℕ) (given : Contribution P) → slot w c k r ≡ Some (Given given) → IsSort masks (body_of given.offer) → (ms : List ℕ) → has ms r ≡ true
      → IsSort masks (bodies_of meld (filter_map (slot w c k) ms))
  offered w c k r given stands is [] e = absurd (cc e)
  offered w c k r given stands is (m ∷ ms) e = go (offered w c k r given stands is ms) (m == r) refl e
    where
      more : (o : Option (Slot P)) → IsSort masks (bodies_of meld (filter_map (slot w c k) ms)) → IsSort masks (bodies_of meld (cons_option o (filter_map (slot w c k) ms)))
      more None is = is
      more (Some (Marked mark)) is = is
      more (Some (Given other)) is = sort_right (body_of other.offer) (bodies_of meld (filter_map (slot w c k) ms)) is

      go : (has ms r ≡ true → IsSort masks (bodies_of meld (filter_map (slot w c k) ms))) → (b : Bool) → (m == r) ≡ b → (b || has ms r) ≡ true → IsSort masks (bodies_of meld (cons_option (slot w c k m) (filter_map (slot w c k) ms)))
      go later false other e = more (slot w c k m) (later e)
      go later true same e =
          subst (λ o. IsSort masks (bodies_of meld (cons_option o (filter_map (slot w c k) ms)))) (sym (ap (slot w c k) (eqb-true m r same) ∙ stands))
          (sort_left (body_of given.offer) (bodies_of meld (filter_map (slot w c k) ms)) is)

-- a history at the end of a poll in round k, which looked at h: the communicator has the members that the rank holds, and
-- each member that the look found declared is settled
pub record IsMarked {P : Type 0} (ranks : ℕ) (h last : History P) (x : Held) (k : ℕ) : Type 0 where
  pub group : members ranks last x.comm ≡ x.group
  pub settles : AllByRecursion (λ r. IsTrue (is_some (slot last x.comm k r))) (filter (has x.group) (failures h))

-- where the round isn't decided, somebody is missing who isn't known to have failed
pub pends : {P : Type 0} (ranks : ℕ) (h last : History P) (own : List (Event P)) (x : Held) (k : ℕ) → IsMarked ranks h last x k → is_decided ranks last x.comm k ≡ false
    → IsPending (record { look = failures h; history = last; own = own; spread = false }) x k
pends ranks h last own x k marked undecided =
    let missing = some_fails (λ r. is_some (slot last x.comm k r)) x.group (ap (list_all (λ r. is_some (slot last x.comm k r))) (sym marked.group) ∙ undecided) in
    record {
      member = missing.0;
      in_group = missing.1;
      not_declared = by_look missing.0 missing.1 missing.2 (has (failures h) missing.0) refl;
      unsettled = none_of (slot last x.comm k missing.0) missing.2;
    }
  where
    by_look : (r : ℕ) → has x.group r ≡ true → is_some (slot last x.comm k r) ≡ false → (b : Bool) → has (failures h) r ≡ b → has (failures h) r ≡ false
    by_look r in_group unsettled false is = is
    by_look r in_group unsettled true declared =
        let settled = at_member (λ r. IsTrue (is_some (slot last x.comm k r))) (filter (has x.group) (failures h)) r marked.settles (has_kept (has x.group) (failures h) r declared in_group) in
        absurd (cc (settled, unsettled))

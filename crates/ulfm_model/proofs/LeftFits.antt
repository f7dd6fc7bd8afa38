-- A record that fits a history still fits it after each change that a reply makes of it.
use Rattle.std.proofs.Common.{◌≡◌, ℕ, ◌≤◌, ◌==◌, Bool, true, false, List, [], ◌∷◌, ◌++◌, length, Option, Some, None, refl, sym, subst, arith, filter, nat_eq, IsTrue}
use Rattle.std.specs.List.{AllByRecursion, IsDistinct}
use Rattle.std.specs.Int.{bit_at}
use Rattle.std.proofs.lemmas.Bool.{eqb-true}
use mathlib.Core.List.{IsPrefix}
use Rattle.ulfm_model.specs.declared.call.Request.{Request}
use Rattle.ulfm_model.specs.declared.call.Request.TheVariants.{Agree, Shrink, Barrier}
use Rattle.ulfm_model.specs.declared.limits.Limits.{Limits}
use Rattle.ulfm_model.specs.History.{History, failures, has}
use Rattle.ulfm_model.specs.{History.{failed}, Records.{Fits, FitsHeld, FitsRequest, Held, Record, change_at, held_at, is_shrink, with_held}}
use Rattle.ulfm_model.specs.Terms.{contexts_of}
use Rattle.ulfm_model.specs.Answers.{closed, opened}
use Rattle.ulfm_model.proofs.Lists.{any_none, distinct_push, each_filter, each_from, each_push, find_holds}
use Rattle.ulfm_model.proofs.LeftHeld.{shrinks, each_change, contexts_change, shrinks_change, shrinks_none, contexts_push, contexts_kept, distinct_kept, shrinks_kept}

-- what two facts of each give holds of each
pub each_by_two : {X : Type 0} (P Q R : X → Type 0) → ((x : X) → P x → Q x → R x) → (xs : List X) → AllByRecursion P xs → AllByRecursion Q xs → AllByRecursion R xs
each_by_two P Q R both [] all more = tt
each_by_two P Q R both (x ∷ xs) all more = (both x all.0 more.0, each_by_two P Q R both xs all.1 more.1)

-- a request that is no shrink fits whatever ids the rank holds
request_apart : {P : Type 0} (h : History P) (r : ℕ) (ids others : List ℕ) (c : ℕ) (request : Option Request) → is_shrink request ≡ false → FitsRequest h r ids c request → FitsRequest h r others c request
request_apart h r ids others c None apart fits = tt
request_apart h r ids others c (Some (Agree k)) apart fits = fits
request_apart h r ids others c (Some (Shrink k)) apart fits = absurd (cc apart)
request_apart h r ids others c (Some (Barrier k)) apart fits = fits

-- a request fits still where fewer communicators are held
request_kept : {P : Type 0} (h : History P) (r : ℕ) (p : Held → Bool) (held : List Held) (c : ℕ) (request : Option Request) → FitsRequest h r (contexts_of held) c request → FitsRequest h r (contexts_of (filter p held)) c request
request_kept h r p held c None fits = tt
request_kept h r p held c (Some (Agree k)) fits = fits
request_kept h r p held c (Some (Shrink k)) fits = (fits.0, fits.1, fits.2, fits.3, contexts_kept p (λ i. bit_at fits.1.bits i ≡ 0) held fits.4)
request_kept h r p held c (Some (Barrier k)) fits = fits

module _ {P : Type 0} (meld : P → P → P) (limits : Limits) (h : History P) where
  -- what a record holds of a communicator fits, and has that communicator's number
  pub held_fits : (own : Record) (c : ℕ) (x : Held) → Fits meld limits h own → held_at own c ≡ Some x → FitsHeld meld limits.ranks h own.number (contexts_of own.held) x × (x.comm ≡ c)
  held_fits own c x fits at =
      let found = find_holds (λ y. y.comm == c) (FitsHeld meld limits.ranks h own.number (contexts_of own.held)) own.held x fits.held at in (found.0, eqb-true x.comm c found.1)

  -- other failures are seen
  pub fits_seen : (own : Record) (seen : List ℕ) → Fits meld limits h own → IsPrefix seen (failures h) → Fits meld limits h (record own { seen = seen })
  fits_seen own seen fits begins = record { same_limits = fits.same_limits; held = fits.held; contexts = fits.contexts; one_shrink = fits.one_shrink; seen = begins; refused = fits.refused }

  -- a declared rank is refused for good
  pub fits_refused : (own : Record) → Fits meld limits h own → IsTrue (has (failures h) own.number) → Fits meld limits h (record own { refused = true })
  fits_refused own fits declared = record { same_limits = fits.same_limits; held = fits.held; contexts = fits.contexts; one_shrink = fits.one_shrink; seen = fits.seen; refused = λ yes. declared }

  -- one communicator is changed, but not its context id
  pub fits_change : (own : Record) (c : ℕ) (f : Held → Held) (x : Held) → Fits meld limits h own → held_at own c ≡ Some x → (f x).context ≡ x.context
      → FitsHeld meld limits.ranks h own.number (contexts_of own.held) (f x) → shrinks (change_at c f own.held) ≤ 1 → Fits meld limits h (with_held own c f)
  fits_change own c f x fits at same new one =
      let ids = sym (contexts_change c f own.held x at same) in
      record {
        same_limits = fits.same_limits;
        held = subst (λ w. AllByRecursion (FitsHeld meld limits.ranks h own.number w) (change_at c f own.held)) ids
            (each_change c f (FitsHeld meld limits.ranks h own.number (contexts_of own.held)) own.held x fits.held at new);
        contexts = subst (IsDistinct nat_eq) ids fits.contexts;
        one_shrink = one;
        seen = fits.seen;
        refused = fits.refused;
      }

  -- the request is closed
  pub fits_closed : (own : Record) (c : ℕ) (x : Held) → Fits meld limits h own → held_at own c ≡ Some x → Fits meld limits h (closed own c)
  fits_closed own c x fits at =
      let f : Held → Held = λ y. record y { request = None } in
      let old = (held_fits own c x fits at).0 in
      let one = fits.one_shrink in
      fits_change own c f x fits at refl (record { exists = old.exists; group = old.group; member = old.member; context = old.context; acked = old.acked; request = tt })
      (omega (arith, one, shrinks_change c f (λ y e. absurd (cc e)) own.held))

  -- so many failures of the communicator are acknowledged
  pub fits_acked : (own : Record) (c : ℕ) (x : Held) (count : ℕ) → Fits meld limits h own → held_at own c ≡ Some x → count ≤ length (failed limits.ranks h x.comm)
      → Fits meld limits h (with_held own c (λ y. record y { acked = count }))
  fits_acked own c x count fits at within =
      let f : Held → Held = λ y. record y { acked = count } in
      let old = (held_fits own c x fits at).0 in
      let one = fits.one_shrink in
      fits_change own c f x fits at refl (record { exists = old.exists; group = old.group; member = old.member; context = old.context; acked = within; request = old.request })
      (omega (arith, one, shrinks_change c f (λ y e. e) own.held))

  opened_context : (x : Held) (request : Option Request) → (opened x request).context ≡ x.context
  opened_context x None = refl
  opened_context x (Some (Agree k)) = refl
  opened_context x (Some (Shrink k)) = refl
  opened_context x (Some (Barrier k)) = refl

  opened_fits : (r : ℕ) (ids : List ℕ) (x : Held) (request : Option Request) → FitsHeld meld limits.ranks h r ids x → FitsRequest h r ids x.comm request → FitsHeld meld limits.ranks h r ids (opened x request)
  opened_fits r ids x None old own = old
  opened_fits r ids x (Some (Agree k)) old own = record { exists = old.exists; group = old.group; member = old.member; context = old.context; acked = old.acked; request = own }
  opened_fits r ids x (Some (Shrink k)) old own = record { exists = old.exists; group = old.group; member = old.member; context = old.context; acked = old.acked; request = own }
  opened_fits r ids x (Some (Barrier k)) old own = record { exists = old.exists; group = old.group; member = old.member; context = old.context; acked = old.acked; request = own }

  -- a request is opened that fits
  pub fits_opened : (own : Record) (c : ℕ) (starts : Held → Option Request) (x : Held) → Fits meld limits h own → held_at own c ≡ Some x → FitsRequest h own.number (contexts_of own.held) x.comm (starts x)
      → shrinks (change_at c (λ y. opened y (starts y)) own.held) ≤ 1 → Fits meld limits h (with_held own c (λ y. opened y (starts y)))
  fits_opened own c starts x fits at request one =
      fits_change own c (λ y. opened y (starts y)) x fits at (opened_context x (starts x)) (opened_fits own.number (contexts_of own.held) x (starts x) (held_fits own c x fits at).0 request) one

  -- some communicators are given back
  pub fits_kept : (own : Record) (p : Held → Bool) → Fits meld limits h own → Fits meld limits h (record own { held = filter p own.held })
  fits_kept own p fits =
      let one = fits.one_shrink in
      record {
        same_limits = fits.same_limits;
        held = each_filter p (FitsHeld meld limits.ranks h own.number (contexts_of (filter p own.held))) own.held
            (each_from (FitsHeld meld limits.ranks h own.number (contexts_of own.held)) (FitsHeld meld limits.ranks h own.number (contexts_of (filter p own.held)))
            (λ x old. record { exists = old.exists; group = old.group; member = old.member; context = old.context; acked = old.acked; request = request_kept h own.number p own.held x.comm x.request old.request }) own.held fits.held);
        contexts = distinct_kept p own.held fits.contexts;
        one_shrink = omega (arith, one, shrinks_kept p own.held);
        seen = fits.seen;
        refused = fits.refused;
      }

  -- a communicator with a context id of its own is taken, where no request is a shrink
  pub fits_push : (own : Record) (x : Held) → Fits meld limits h own → AllByRecursion (λ y. is_shrink y.request ≡ false) own.held → is_shrink x.request ≡ false
      → AllByRecursion (λ i. nat_eq i x.context ≡ false) (contexts_of own.held) → FitsHeld meld limits.ranks h own.number (contexts_of own.held) x → Fits meld limits h (record own { held = own.held ++ x ∷ [] })
  fits_push own x fits none shut apart new =
      let ids = contexts_of (own.held ++ x ∷ []) in
      let other : (y : Held) → FitsHeld meld limits.ranks h own.number (contexts_of own.held) y → is_shrink y.request ≡ false → FitsHeld meld limits.ranks h own.number ids y =
      λ y old no. record { exists = old.exists; group = old.group; member = old.member; context = old.context; acked = old.acked; request = request_apart h own.number (contexts_of own.held) ids y.comm y.request no old.request } in
      record {
        same_limits = fits.same_limits;
        held = each_push (FitsHeld meld limits.ranks h own.number ids) own.held x
            (each_by_two (FitsHeld meld limits.ranks h own.number (contexts_of own.held)) (λ y. is_shrink y.request ≡ false) (FitsHeld meld limits.ranks h own.number ids) other own.held fits.held none) (other x new shut);
        contexts = subst (IsDistinct nat_eq) (sym (contexts_push own.held x)) (distinct_push nat_eq (contexts_of own.held) x.context fits.contexts (any_none (λ i. nat_eq i x.context) (contexts_of own.held) apart));
        one_shrink = omega (arith, shrinks_none (own.held ++ x ∷ []) (each_push (λ y. is_shrink y.request ≡ false) own.held x none shut));
        seen = fits.seen;
        refused = fits.refused;
      }

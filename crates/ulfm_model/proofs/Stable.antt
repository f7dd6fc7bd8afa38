-- What others do in between takes nothing away: not what a rank may do next, and not what its record says.
use Rattle.std.proofs.Common.{refl, append-nil, false, ◌+◌, ◌==◌, ◌&&◌, ◌≡◌, ℕ, ◌≤◌, ◌-◌, Bool, List, [], ◌∷◌, ◌++◌, length, take, Option, Some, None, slice_get, ap, sym, ◌∙◌, subst, arith, append_assoc, filter, nat_lt, inl, inr}
use Rattle.std.proofs.lemmas.List.Elements.{filter-append, filter_map-append, Contains-append_left}
use Rattle.std.specs.List.{list_any}
use mathlib.Core.List.{IsPrefix}
use Rattle.ulfm_model.specs.declared.contribution.Contribution.{Contribution}
use Rattle.ulfm_model.specs.declared.contribution.MarkCount.{MarkCount}
use Rattle.ulfm_model.specs.declared.limits.Limits.{Limits}
use Rattle.ulfm_model.specs.declared.call.Request.{Request}
use Rattle.ulfm_model.specs.declared.call.Request.TheVariants.{Agree, Shrink, Barrier}
use Rattle.ulfm_model.specs.declared.event.Event.{Event}
use Rattle.ulfm_model.specs.declared.event.Event.TheVariants.{Fail, Settle, Mark, Arrive, Revoke}
use Rattle.ulfm_model.specs.declared.contribution.Slot.{Slot}
use Rattle.ulfm_model.specs.History.{has}
use Rattle.ulfm_model.specs.History.{History, failures, slot, has_arrived, is_revoked, spawns}
use Rattle.ulfm_model.proofs.OneEvent.{made_by}
use Rattle.ulfm_model.specs.{History.{Decision, Exists, IsLegal, IsPlace, MayFollow, MaySpawn, decision, failed, known_of, members, round}, Laws.{all_of}, Records.{Fits, FitsHeld, FitsRequest, Held, IsContext, Record}}
use Rattle.ulfm_model.specs.Terms.{IsOwn, contexts_of}
use Rattle.ulfm_model.proofs.Lists.{none_first, each_from, each_filter_map, distinct_filter, get_prefix, length_prefix, has_prefix}
use Rattle.ulfm_model.proofs.Histories.{members_stay, failures_begin, legal_parts}
use Rattle.ulfm_model.proofs.Decisions.{decision_stays, slot_stands, Stands}
use Rattle.ulfm_model.proofs.Melds.{decided_is}
use Rattle.ulfm_model.proofs.Spawned.{members_of_spawned, failures_distinct}

at_end : {X : Type 0} (xs zs : List X) → slice_get (xs ++ zs) (length xs) ≡ slice_get zs 0
at_end [] zs = refl
at_end (x ∷ xs) zs = at_end xs zs

-- a list without an element where its beginning ends is that beginning
pub same_prefix : {X : Type 0} (xs ys : List X) → IsPrefix xs ys → slice_get ys (length xs) ≡ None → ys ≡ xs
same_prefix xs ys begins empty =
    let rest = none_first begins.0 (sym (at_end xs begins.0) ∙ (ap (λ w. slice_get w (length xs)) begins.1 ∙ empty)) in
    sym begins.1 ∙ (ap (λ w. xs ++ w) rest ∙ append-nil xs)

-- communicators keep their numbers
pub spawns_begin : {P : Type 0} (h longer : History P) → IsPrefix h longer → IsPrefix (spawns h) (spawns longer)
spawns_begin h longer begins = (spawns begins.0, sym (filter_map-append (λ e. made_by e.event) h begins.0) ∙ ap spawns begins.1)

module _ {P : Type 0} (meld : P → P → P) (limits : Limits) where
  abbrev ranks : ℕ
  ranks = limits.ranks

  legal_start : (h longer : History P) → IsPrefix h longer → IsLegal meld limits longer → IsLegal meld limits h
  legal_start h longer begins legal = (legal_parts meld limits h begins.0 (subst (IsLegal meld limits) (sym begins.1) legal)).0

  -- a failed group only grows at its end
  pub failed_begins : (h longer : History P) (c : ℕ) → IsPrefix h longer → IsLegal meld limits longer → Exists h c → IsPrefix (failed ranks h c) (failed ranks longer c)
  failed_begins h longer c begins legal here =
      let same = (members_stay ranks h longer c begins here).1 in
      let more = failures_begin h longer begins in
      let p : ℕ → Bool = has (members ranks h c) in
      (filter p more.0, sym (filter-append p (failures h) more.0) ∙ (ap (filter p) more.1 ∙ ap (λ ms. filter (has ms) (failures longer)) (sym same)))

  -- a place of a round stays one
  place_stays : (h longer : History P) (c k r : ℕ) → IsPrefix h longer → IsLegal meld limits longer → IsPlace limits h c k r → IsPlace limits longer c k r
  place_stays h longer c k r begins legal place =
      let both = members_stay ranks h longer c begins place.exists in
      record { exists = both.0; member = ap (λ ms. has ms r) both.1 ∙ place.member; in_rounds = place.in_rounds }

  -- a contribution stays allowed until its place is taken
  pub settle_stays : (h longer : History P) (c k r : ℕ) (given : Contribution P) → IsPrefix h longer → IsLegal meld limits longer → MayFollow meld limits h (Settle c k r given) → slot longer c k r ≡ None → MayFollow meld limits longer (Settle c k r given)
  settle_stays h longer c k r given begins legal may empty = (
    place_stays h longer c k r begins legal may.0,
    empty,
    omega (arith, may.2, length_prefix (failed ranks h c) (failed ranks longer c) (failed_begins h longer c begins legal may.0.exists)),
  )

  -- so does a mark
  pub mark_stays : (h longer : History P) (c k r : ℕ) (mark : MarkCount) → IsPrefix h longer → IsLegal meld limits longer → MayFollow meld limits h (Mark c k r mark) → slot longer c k r ≡ None → MayFollow meld limits longer (Mark c k r mark)
  mark_stays h longer c k r mark begins legal may empty =
      let group = failed_begins h longer c begins legal may.0.exists in (
        place_stays h longer c k r begins legal may.0,
        empty,
        get_prefix (failed ranks h c) (failed ranks longer c) (mark.known.count - 1) r group may.2,
      )

  -- so does an arrival, until the rank has arrived
  pub arrive_stays : (h longer : History P) (c k r : ℕ) → IsPrefix h longer → IsLegal meld limits longer → MayFollow meld limits h (Arrive c k r) → has_arrived longer c k r ≡ false → MayFollow meld limits longer (Arrive c k r)
  arrive_stays h longer c k r begins legal may empty = (place_stays h longer c k r begins legal may.0, empty)

  -- so does a revocation, until the communicator is revoked
  pub revoke_stays : (h longer : History P) (c : ℕ) → IsPrefix h longer → IsLegal meld limits longer → MayFollow meld limits h (Revoke c) → is_revoked longer c ≡ false → MayFollow meld limits longer (Revoke c)
  revoke_stays h longer c begins legal may empty = ((members_stay ranks h longer c begins may.0).0, empty)

  -- a declaration stays allowed until another takes its place in the list
  pub fail_stays : (h longer : History P) (r : ℕ) → IsPrefix h longer → MayFollow meld limits h (Fail r) → slice_get (failures longer) (length (failures h)) ≡ None → MayFollow meld limits longer (Fail r)
  fail_stays h longer r begins may empty =
      (may.0, ap (λ w. has w r) (same_prefix (failures h) (failures longer) (failures_begin h longer begins) empty) ∙ may.1)

  -- a communicator stays allowed until another takes its number
  pub spawn_stays : (h longer : History P) (j c k : ℕ) → IsPrefix h longer → IsLegal meld limits longer → MaySpawn meld limits h j c k → slice_get (spawns longer) (length (spawns h)) ≡ None → MaySpawn meld limits longer j c k
  spawn_stays h longer j c k begins legal may empty =
      let same = same_prefix (spawns h) (spawns longer) (spawns_begin h longer begins) empty in
      let still = decision_stays meld limits h longer c k begins legal may.exists may.decided in
      record {
        next = may.next ∙ ap (λ w. length w + 1) (sym same);
        room = may.room;
        exists = (members_stay ranks h longer c begins may.exists).0;
        in_rounds = may.in_rounds;
        decided = still.0;
        ids = (may.ids.0, ap (λ (d : Decision P). d.body) still.1 ∙ may.ids.1, may.ids.2);
        first = ap (λ w. list_any (λ made. (made.0 == c) && (made.1 == k)) w) same ∙ may.first;
      }

  -- a context id stays
  pub context_stays : (h longer : History P) (c context : ℕ) → IsPrefix h longer → IsLegal meld limits longer → IsContext meld ranks h c context → IsContext meld ranks longer c context
  context_stays h longer c context begins legal (inl world) = inl world
  context_stays h longer c context begins legal (inr (parent, k, mask, above, at, body, lowest)) =
      let made = members_of_spawned meld limits h (legal_start h longer begins legal) (c - 1) parent k at in
      let same = decision_stays meld limits h longer parent k begins legal made.exists made.decided in
      let more : IsPrefix (spawns h) (spawns longer) = (spawns begins.0, sym (filter_map-append (λ e. made_by e.event) h begins.0) ∙ ap spawns begins.1) in
      inr (parent, k, mask, above, get_prefix (spawns h) (spawns longer) (c - 1) (parent, k) more at, ap (λ (d : Decision P). d.body) same.1 ∙ body, lowest)

  own_stays : (h longer : History P) (r : ℕ) (event : Event P) → IsPrefix h longer → IsOwn h r event → IsOwn longer r event
  own_stays h longer r event begins own = subst (λ w. IsOwn w r event) begins.1 (Contains-append_left h begins.0 _ own)

  request_stays : (h longer : History P) (r : ℕ) (ids : List ℕ) (c : ℕ) (request : Option Request) → IsPrefix h longer → FitsRequest h r ids c request → FitsRequest longer r ids c request
  request_stays h longer r ids c None begins fits = fits
  request_stays h longer r ids c (Some (Agree k)) begins fits = (fits.0, fits.1, own_stays h longer r (Settle c k r fits.0) begins fits.2, fits.3)
  request_stays h longer r ids c (Some (Shrink k)) begins fits = (fits.0, fits.1, own_stays h longer r (Settle c k r fits.0) begins fits.2, fits.3, fits.4)
  request_stays h longer r ids c (Some (Barrier k)) begins fits = own_stays h longer r (Arrive c k r) begins fits

  -- what is held of a communicator stays right
  pub held_stays : (h longer : History P) (r : ℕ) (ids : List ℕ) (x : Held) → IsPrefix h longer → IsLegal meld limits longer → FitsHeld meld ranks h r ids x → FitsHeld meld ranks longer r ids x
  held_stays h longer r ids x begins legal fits =
      let both = members_stay ranks h longer x.comm begins fits.exists in
      record {
        exists = both.0;
        group = fits.group ∙ sym both.1;
        member = fits.member;
        context = context_stays h longer x.comm x.context begins legal fits.context;
        acked = omega (arith, fits.acked, length_prefix (failed ranks h x.comm) (failed ranks longer x.comm) (failed_begins h longer x.comm begins legal fits.exists));
        request = request_stays h longer r ids x.comm x.request begins fits.request;
      }

  -- a record that fits goes on to fit
  pub fits_stays : (h longer : History P) (own : Record) → IsPrefix h longer → IsLegal meld limits longer → Fits meld limits h own → Fits meld limits longer own
  fits_stays h longer own begins legal fits =
      let more = failures_begin h longer begins in
      record {
        same_limits = fits.same_limits;
        held = each_from (FitsHeld meld ranks h own.number (contexts_of own.held)) (FitsHeld meld ranks longer own.number (contexts_of own.held)) (λ x. held_stays h longer own.number (contexts_of own.held) x begins legal) own.held fits.held;
        contexts = fits.contexts;
        one_shrink = fits.one_shrink;
        seen = (fits.seen.0 ++ more.0, sym (append_assoc own.seen fits.seen.0 more.0) ∙ (ap (λ w. w ++ more.0) fits.seen.1 ∙ more.1));
        refused = λ yes. has_prefix (failures h) (failures longer) own.number more (fits.refused yes);
      }

  -- in a legal history a decision is that of the summary of its round
  pub decision_is : (h : History P) (c k : ℕ) → IsLegal meld limits h
      → decision meld ranks h c k ≡ (let all = all_of meld (round ranks h c k) in record { body = all.body; failed = take all.known.count (failed ranks h c); raised = nat_lt all.acked.count all.known.count })
  decision_is h c k legal =
      decided_is meld (failed ranks h c) (round ranks h c k) (distinct_filter (has (members ranks h c)) (failures h) (failures_distinct meld limits h legal))
      (each_filter_map (slot h c k) (λ s. known_of s ≤ length (failed ranks h c)) (λ r s is. known_fits s r (slot_stands meld limits h legal c k r s is)) (members ranks h c))
    where
      known_fits : (s : Slot P) → (r : ℕ) → Stands meld limits h c k r s → known_of s ≤ length (failed ranks h c)
      known_fits s r stands = stands.fits

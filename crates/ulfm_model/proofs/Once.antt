-- What happens at most once in a legal history.
use Rattle.std.proofs.Common.{◌≡◌, ℕ, Bool, true, false, ◌||◌, ◌&&◌, ◌==◌, List, [], ◌∷◌, ◌++◌, Option, Some, None, refl, sym, ◌∙◌, subst, append-nil, filter_map, if◌then◌else◌, nat_eq}
use Rattle.std.specs.List.{list_any, cons_option, IsDistinct}
use Rattle.std.proofs.lemmas.List.Elements.{filter_map-append}
use Rattle.ulfm_model.specs.declared.contribution.Slot.{Slot}
use Rattle.ulfm_model.specs.declared.event.Event.{Event}
use Rattle.ulfm_model.specs.declared.event.Event.TheVariants.{Fail, Settle, Mark, Arrive, Revoke, Spawn}
use Rattle.ulfm_model.specs.declared.limits.Limits.{Limits}
use Rattle.ulfm_model.specs.History.{History, IsLegal, MayFollow, failures, has, is_revoked, same_place, says, slot, spawns}
use Rattle.ulfm_model.specs.Terms.{put_at}
use Rattle.ulfm_model.specs.Laws.{HappensOnce}
use Rattle.ulfm_model.proofs.Histories.{by_events, slot_first}
use Rattle.ulfm_model.proofs.Lists.{distinct_push, none_distinct, none_first}

module _ {P : Type 0} (place : ℕ × ℕ × ℕ) where
  -- where nothing settles a place, no settlement is of it
  abbrev NoneThere : List (Slot P) → List ((ℕ × ℕ × ℕ) × Slot P) → Type 0
  NoneThere there all = there ≡ [] → list_any (λ put. same_place put.0 place) all ≡ false

  none_more : (there : List (Slot P)) (all : List ((ℕ × ℕ × ℕ) × Slot P)) → NoneThere there all → (o : Option ((ℕ × ℕ × ℕ) × Slot P)) → NoneThere (cons_option (put_at place o) there) (cons_option o all)
  none_more there all none None = none
  none_more there all none (Some put) =
      elim (same_place put.0 place) as (λ b. cons_option (if b then Some put.1 else None) there ≡ [] → (b || list_any (λ put. same_place put.0 place) all) ≡ false)
      [ true ↦ λ e. absurd (cc e) | false ↦ none ]

  unsettled : (h : History P) → NoneThere (filter_map (λ e. put_at place (says e.event).settles) h) (filter_map (λ e. (says e.event).settles) h)
  unsettled [] = λ none. refl
  unsettled (e ∷ h) = none_more (filter_map (λ e. put_at place (says e.event).settles) h) (filter_map (λ e. (says e.event).settles) h) (unsettled h) (says e.event).settles

module _ {P : Type 0} (meld : P → P → P) (limits : Limits) where
  -- what no allowed event says again has no repeats
  once : {X : Type 0} (f : Event P → Option X) (same : X → X → Bool)
      → ((h : History P) (event : Event P) (x : X) → MayFollow meld limits h event → f event ≡ Some x → list_any (λ y. same y x) (filter_map (λ e. f e.event) h) ≡ false)
      → (h : History P) → IsLegal meld limits h → IsDistinct same (filter_map (λ e. f e.event) h)
  once {X} f same new h legal =
      by_events meld limits (λ w. IsDistinct same (filter_map (λ e. f e.event) w)) (none_distinct same)
      (λ w e lw q may. subst (IsDistinct same) (sym (filter_map-append (λ x. f x.event) w (e ∷ []))) (more w q (f e.event) (λ x is. new w e.event x may is))) h legal
    where
      more : (w : History P) → IsDistinct same (filter_map (λ e. f e.event) w) → (o : Option X) → ((x : X) → o ≡ Some x → list_any (λ y. same y x) (filter_map (λ e. f e.event) w) ≡ false)
          → IsDistinct same (filter_map (λ e. f e.event) w ++ cons_option o [])
      more w q None out = subst (IsDistinct same) (sym (append-nil (filter_map (λ e. f e.event) w))) q
      more w q (Some x) out = distinct_push same (filter_map (λ e. f e.event) w) x q (out x refl)

  declares : (h : History P) (event : Event P) (r : ℕ) → MayFollow meld limits h event → (says event).declares ≡ Some r → list_any (λ y. nat_eq y r) (failures h) ≡ false
  declares h (Fail rank) r may is = let same : rank ≡ r = cc is in subst (λ r. has (failures h) r ≡ false) same may.1
  declares h event r may is = absurd (cc is)

  no_other : (h : History P) (c k r : ℕ) (place : ℕ × ℕ × ℕ) → (c, k, r) ≡ place → slot h c k r ≡ None → list_any (λ y. same_place y.0 place) (filter_map (λ e. (says e.event).settles) h) ≡ false
  no_other h c k r place same empty =
      subst (λ place. list_any (λ y. same_place y.0 place) (filter_map (λ e. (says e.event).settles) h) ≡ false) same (unsettled (c, k, r) h (none_first _ (sym (slot_first h c k r) ∙ empty)))

  settles : (h : History P) (event : Event P) (put : (ℕ × ℕ × ℕ) × Slot P) → MayFollow meld limits h event → (says event).settles ≡ Some put
      → list_any (λ y. same_place y.0 put.0) (filter_map (λ e. (says e.event).settles) h) ≡ false
  settles h (Settle c k r given) put may is = no_other h c k r put.0 (cc) may.1
  settles h (Mark c k r mark) put may is = no_other h c k r put.0 (cc) may.1
  settles h event put may is = absurd (cc is)

  arrives : (h : History P) (event : Event P) (place : ℕ × ℕ × ℕ) → MayFollow meld limits h event → (says event).arrives ≡ Some place
      → list_any (λ y. same_place y place) (filter_map (λ e. (says e.event).arrives) h) ≡ false
  arrives h (Arrive c k r) place may is =
      let same : (c, k, r) ≡ place = cc is in
      subst (λ place. list_any (λ y. same_place y place) (filter_map (λ e. (says e.event).arrives) h) ≡ false) same may.1
  arrives h event place may is = absurd (cc is)

  revokes : (h : History P) (event : Event P) (c : ℕ) → MayFollow meld limits h event → (says event).revokes ≡ Some c
      → list_any (λ y. nat_eq y c) (filter_map (λ e. (says e.event).revokes) h) ≡ false
  revokes h (Revoke comm) c may is = let same : comm ≡ c = cc is in subst (λ c. is_revoked h c ≡ false) same may.1
  revokes h event c may is = absurd (cc is)

  makes : (h : History P) (event : Event P) (x : ℕ × ℕ) → MayFollow meld limits h event → (says event).makes ≡ Some x → list_any (λ y. (y.0 == x.0) && (y.1 == x.1)) (spawns h) ≡ false
  makes h (Spawn j parent k) x may is = let same : (parent, k) ≡ x = cc is in subst (λ x. list_any (λ y. (y.0 == x.0) && (y.1 == x.1)) (spawns h) ≡ false) same may.first
  makes h event x may is = absurd (cc is)

  -- each thing that an event says is said once
  pub happens_once : (h : History P) → IsLegal meld limits h → HappensOnce h
  happens_once h legal =
      record {
        declared = once (λ event. (says event).declares) nat_eq declares h legal;
        settled = once (λ event. (says event).settles) (λ x y. same_place x.0 y.0) settles h legal;
        arrived = once (λ event. (says event).arrives) same_place arrives h legal;
        revoked = once (λ event. (says event).revokes) nat_eq revokes h legal;
        made = once (λ event. (says event).makes) (λ x y. (x.0 == y.0) && (x.1 == y.1)) makes h legal;
      }

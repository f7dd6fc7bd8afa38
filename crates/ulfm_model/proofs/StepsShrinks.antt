-- The poll of a shrink: the communicator that it makes, and its reply.
use Rattle.std.proofs.Common.{◌≡◌, ℕ, suc, ◌+◌, ◌-◌, ◌<◌, ◌≤◌, Bool, true, false, cond, not, ◌&&◌, ◌||◌, ◌==◌, List, [], ◌∷◌, ◌++◌, length, Option, Some, None, slice_get, refl, ap, sym, ◌∙◌, ap₂, subst, arith, append-nil, length-append, nat_lt, inl, inr, if◌then◌else◌}
use Rattle.std.specs.List.{AllByRecursion, cons_option, list_any, position_from}
use Rattle.std.proofs.lemmas.Bool.{and_parts, eq-eqb, eqb-true, lt-ltb, ltb-true, or_left, or_right}
use Rattle.std.proofs.lemmas.Bool.Decides.{nat_tests}
use Rattle.std.proofs.lemmas.List.Folds.{list_any-append}
use Rattle.ulfm_laws.specs.declared.summary.Body.{Body}
use Rattle.ulfm_laws.specs.declared.summary.Body.TheVariants.{Unit as NoBody, Flag as OfFlags, Ctx as OfIds, Clash}
use Rattle.ulfm_laws.specs.declared.summary.CtxMask.{CtxMask}
use Rattle.ulfm_model.specs.declared.reply.Reply.TheVariants.{Refused}
use Rattle.ulfm_model.specs.declared.refusal.Refusal.TheVariants.{NoContext, SelfFailed}
use Rattle.ulfm_model.specs.declared.limits.Limits.{Limits}
use Rattle.ulfm_model.specs.declared.event.Caller.{Caller}
use Rattle.ulfm_model.specs.declared.event.Entry.{Entry}
use Rattle.ulfm_model.specs.declared.event.Event.{Event}
use Rattle.ulfm_model.specs.declared.event.Event.TheVariants.{Fail, Settle, Mark, Arrive, Revoke, Spawn}
use Rattle.ulfm_model.specs.History.{History, entries_by, failures, has, spawns}
use Rattle.ulfm_model.specs.History.{Decision, Exists, IsLegal, IsLegalAfter, MayFollow, MaySpawn, decision, failed, is_decided, is_made, members}
use Rattle.ulfm_model.specs.Computed.{is_free_mask, shrink_reply, shrunk_reply, spawn_of}
use Rattle.ulfm_model.specs.Terms.{settled_by}
use Rattle.ulfm_model.specs.Answers.{ShrinkReplies, SpawnReplies}
use Rattle.ulfm_model.proofs.Lists.{not_in_filter}
use Rattle.ulfm_model.proofs.OneEvent.{made_by}
use Rattle.ulfm_model.proofs.Histories.{by_events, spawns_push}
use Rattle.ulfm_model.proofs.LowestId.{lowest_is}
use Rattle.ulfm_model.proofs.StepsRounds.{IsMasked}

module _ {X : Type 0} (p : X → Bool) where
  -- a place that is found has an element that passes
  found_at : (xs : List X) (i j : ℕ) → position_from p i xs ≡ Some j → (n : ℕ) × (x : X) × (j ≡ i + n) × (slice_get xs n ≡ Some x) × (p x ≡ true)
  found_at [] i j e = absurd (cc e)
  found_at (x ∷ xs) i j e = go (found_at xs (i + 1) j) (p x) refl e
    where
      go : (position_from p (i + 1) xs ≡ Some j → (n : ℕ) × (x : X) × (j ≡ i + 1 + n) × (slice_get xs n ≡ Some x) × (p x ≡ true)) → (b : Bool) → p x ≡ b → cond b (Some i) (position_from p (i + 1) xs) ≡ Some j
          → (n : ℕ) × (y : X) × (j ≡ i + n) × (slice_get (x ∷ xs) n ≡ Some y) × (p y ≡ true)
      go more true passes e = let same : i ≡ j = cc e in (0, x, omega arith, refl, passes)
      go more false fails e = let found = more e in (suc found.0, found.1, omega (arith, found.2), found.3, found.4)

  -- where none is found, none passes
  none_at : (xs : List X) (i : ℕ) → position_from p i xs ≡ None → list_any p xs ≡ false
  none_at [] i e = refl
  none_at (x ∷ xs) i e = go (none_at xs (i + 1)) (p x) refl e
    where
      go : (position_from p (i + 1) xs ≡ None → list_any p xs ≡ false) → (b : Bool) → p x ≡ b → cond b (Some i) (position_from p (i + 1) xs) ≡ None → (b || list_any p xs) ≡ false
      go more true passes e = absurd (cc e)
      go more false fails e = more e

module _ {P : Type 0} (meld : P → P → P) (limits : Limits) where
  -- where there is room for the world's communicator, there is room for all that were made
  pub spawns_fit : (h : History P) → IsLegal meld limits h → 0 < limits.comms → length (spawns h) + 1 ≤ limits.comms
  spawns_fit h legal some =
      by_events meld limits (λ w. length (spawns w) + 1 ≤ limits.comms) (omega arith)
      (λ w e lw q may. subst (λ js. length js + 1 ≤ limits.comms) (sym (spawns_push w e)) (more w e.event may q)) h legal
    where
      same : (w : History P) → length (spawns w) + 1 ≤ limits.comms → length (spawns w ++ []) + 1 ≤ limits.comms
      same w q = subst (λ js. length js + 1 ≤ limits.comms) (sym (append-nil (spawns w))) q

      more : (w : History P) (ev : Event P) → MayFollow meld limits w ev → length (spawns w) + 1 ≤ limits.comms → length (spawns w ++ cons_option (made_by ev) []) + 1 ≤ limits.comms
      more w (Spawn j c k) may q = omega (arith, may.next, may.room, length-append (spawns w) ((c, k) ∷ []))
      more w (Fail r) may q = same w q
      more w (Settle c k r given) may q = same w q
      more w (Mark c k r known) may q = same w q
      more w (Arrive c k r) may q = same w q
      more w (Revoke c) may q = same w q

  -- who isn't declared is in no decision's failed group
  pub not_left_out : (h : History P) (c k r : ℕ) → has (failures h) r ≡ false → has (decision meld limits.ranks h c k).failed r ≡ false
  not_left_out h c k r alive = not_in_filter _ (failed limits.ranks h c) r (not_in_filter (has (members limits.ranks h c)) (failures h) r alive)

  -- all communicators that there may be were made, where this decided round would have been the next one's
  abbrev pub IsFull : History P → ℕ → ℕ → Type 0
  IsFull h c k = (mask : CtxMask) → is_decided limits.ranks h c k ≡ true → (decision meld limits.ranks h c k).body ≡ OfIds mask → 0 < mask.bits → is_made h c k ≡ false → length (spawns h) + 1 ≡ limits.comms

  -- the reply to a shrink that decided on free ids
  spawn_replied : (h : History P) (c k : ℕ) (mask : CtxMask) → 0 < mask.bits → (is_made h c k ≡ false → length (spawns h) + 1 ≡ limits.comms) → (o : Option ℕ) → position_from (λ made. (made.0 == c) && (made.1 == k)) 0 (spawns h) ≡ o
      → SpawnReplies limits h c k mask.bits (shrunk_reply limits.ranks h mask.bits o)
  spawn_replied h c k mask some full None none =
      let unmade = none_at (λ (made : ℕ × ℕ). (made.0 == c) && (made.1 == k)) (spawns h) 0 none in inr (full unmade, unmade, refl)
  spawn_replied h c k mask some full (Some i) at =
      let found = found_at (λ (made : ℕ × ℕ). (made.0 == c) && (made.1 == k)) (spawns h) 0 i at in
      let both = and_parts (found.1.0 == c) (found.1.1 == k) found.4 in
      let same : found.1 ≡ (c, k) = ap₂ (λ a b. (a, b)) (eqb-true found.1.0 c both.0) (eqb-true found.1.1 k both.1) in
      let place : i + 1 - 1 ≡ found.0 = omega (arith, found.2) in
      inl (i + 1, _, omega arith, ap (slice_get (spawns h)) place ∙ (found.3 ∙ ap Some same), lowest_is mask some, refl)

  -- the reply to a decided shrink, to a rank that isn't declared and that has offered a mask
  pub shrink_replied : (h : History P) (r c k : ℕ) → has (failures h) r ≡ false → is_decided limits.ranks h c k ≡ true → IsFull h c k → IsMasked (decision meld limits.ranks h c k).body
      → (let made = decision meld limits.ranks h c k in ShrinkReplies limits h r c k made (shrink_reply limits.ranks h r c k made made.body))
  shrink_replied h r c k alive decided full masked = by_body (decision meld limits.ranks h c k).body refl masked
    where
      by_mask : (mask : CtxMask) → (decision meld limits.ranks h c k).body ≡ OfIds mask → (a : Bool) → (mask.bits == 0) ≡ a → (b : Bool) → has (decision meld limits.ranks h c k).failed r ≡ b
          → ShrinkReplies limits h r c k (decision meld limits.ranks h c k)
          (if a then Refused NoContext else (if b then Refused SelfFailed else shrunk_reply limits.ranks h mask.bits (position_from (λ made. (made.0 == c) && (made.1 == k)) 0 (spawns h))))
      by_mask mask is true empty b out = inl (mask, is, inl (eqb-true mask.bits 0 empty, refl))
      by_mask mask is false some true out = absurd (cc (out, not_left_out h c k r alive))
      by_mask mask is false some false out =
          let above : 0 < mask.bits = grind (arith, nat_tests) in
          inl (mask, is, inr (above, out, spawn_replied h c k mask above (full mask decided is above) (position_from (λ made. (made.0 == c) && (made.1 == k)) 0 (spawns h)) refl))

      by_body : (body : Body P) → (decision meld limits.ranks h c k).body ≡ body → IsMasked body → ShrinkReplies limits h r c k (decision meld limits.ranks h c k) (shrink_reply limits.ranks h r c k (decision meld limits.ranks h c k) body)
      by_body NoBody is masked = absurd masked
      by_body (OfFlags flag) is masked = absurd (cc masked)
      by_body (OfIds mask) is masked = by_mask mask is (mask.bits == 0) refl (has (decision meld limits.ranks h c k).failed r) refl
      by_body Clash is masked = inr (is, refl)

  -- what the poll of a shrink may add after its marks
  pub record IsSpawned (h : History P) (by : Caller) (c k : ℕ) (events : List (Event P)) : Type 0 where
    pub legal_after : IsLegalAfter meld limits h (entries_by by events)
    pub declares_none : failures (entries_by by events) ≡ []
    pub settles_none : settled_by events ≡ []
    pub adds : AllByRecursion (λ event. (j : ℕ) × (event ≡ Spawn j c k)) events
    pub full : IsFull (h ++ entries_by by events) c k

  -- a set of ids that isn't empty
  free_ids_of : (body : Body P) → is_free_mask body ≡ true → (mask : CtxMask) × (body ≡ OfIds mask) × (0 < mask.bits)
  free_ids_of NoBody free = absurd (cc free)
  free_ids_of (OfFlags flag) free = absurd (cc free)
  free_ids_of (OfIds mask) free = (mask, refl, ltb-true 0 mask.bits free)
  free_ids_of Clash free = absurd (cc free)

  not_so : (b : Bool) → not b ≡ true → b ≡ false
  not_so true is = absurd (cc is)
  not_so false is = refl

  -- of tests that don't all hold, the last fails where the others hold
  last_fails : (a b c d e : Bool) → (a && (b && (not c && (not d && e)))) ≡ false → a ≡ true → b ≡ true → c ≡ false → d ≡ false → e ≡ false
  last_fails true true false false e is p q s t = is
  last_fails _ _ _ _ e is p q s t = absurd cc

  module _ (h : History P) (by : Caller) (r c k : ℕ) (legal : IsLegal meld limits h) (exists : Exists h c) where
    abbrev made : Decision P
    made = decision meld limits.ranks h c k

    -- whether rank r makes a communicator of the round
    abbrev is_next : Bool
    is_next = is_decided limits.ranks h c k && (is_free_mask made.body && (not (has made.failed r) && (not (is_made h c k) && nat_lt (length (spawns h) + 1) limits.comms)))

    abbrev entry : Entry P
    entry = record { by = by; event = Spawn (length (spawns h) + 1) c k }

    may_spawn : k < limits.rounds → is_next ≡ true → MaySpawn meld limits h (length (spawns h) + 1) c k
    may_spawn round holds =
        let first = and_parts (is_decided limits.ranks h c k) (is_free_mask made.body && (not (has made.failed r) && (not (is_made h c k) && nat_lt (length (spawns h) + 1) limits.comms))) holds in
        let second = and_parts (is_free_mask made.body) (not (has made.failed r) && (not (is_made h c k) && nat_lt (length (spawns h) + 1) limits.comms)) first.1 in
        let third = and_parts (not (has made.failed r)) (not (is_made h c k) && nat_lt (length (spawns h) + 1) limits.comms) second.1 in
        let last = and_parts (not (is_made h c k)) (nat_lt (length (spawns h) + 1) limits.comms) third.1 in
        record {
          next = refl;
          room = ltb-true (length (spawns h) + 1) limits.comms last.1;
          exists = exists;
          in_rounds = round;
          decided = first.0;
          ids = free_ids_of made.body second.0;
          first = not_so (is_made h c k) last.0;
        }

    -- then the round's communicator is made
    made_now : is_made (h ++ entry ∷ []) c k ≡ true
    made_now =
        let p : ℕ × ℕ → Bool = λ made. (made.0 == c) && (made.1 == k) in
        let same : p (c, k) ≡ true = rw (eq-eqb c c refl, eq-eqb k k refl) refl in
        ap (list_any p) (spawns_push h entry) ∙ (list_any-append p (spawns h) ((c, k) ∷ []) ∙ or_right (list_any p (spawns h)) (list_any p ((c, k) ∷ [])) (or_left (p (c, k)) false same))

    -- where it makes none, all that there may be were made
    full_now : 0 < limits.comms → has (failures h) r ≡ false → is_next ≡ false → IsFull h c k
    full_now some alive fails mask decided body above unmade =
        let free : is_free_mask made.body ≡ true = ap is_free_mask body ∙ lt-ltb 0 mask.bits above in
        let no_room = last_fails (is_decided limits.ranks h c k) (is_free_mask made.body) (has made.failed r) (is_made h c k) (nat_lt (length (spawns h) + 1) limits.comms) fails decided free (not_left_out h c k r alive) unmade in
        let fit = spawns_fit h legal some in
        let few : limits.comms ≤ length (spawns h) + 1 = grind (arith, nat_tests) in
        omega arith

    -- what is computed for it is such
    pub spawned : 0 < limits.comms → k < limits.rounds → has (failures h) r ≡ false → IsSpawned h by c k (spawn_of meld limits h r c k)
    spawned some round alive = by_test is_next refl
      where
        by_test : (b : Bool) → is_next ≡ b → IsSpawned h by c k (if b then Spawn (length (spawns h) + 1) c k ∷ [] else [])
        by_test true holds = record {
          legal_after = (may_spawn round holds, tt);
          declares_none = refl;
          settles_none = refl;
          adds = ((length (spawns h) + 1, refl), tt);
          full = λ mask decided body above unmade. absurd (cc (unmade, made_now));
        }
        by_test false fails = record { legal_after = tt; declares_none = refl; settles_none = refl; adds = tt; full = subst (λ w. IsFull w c k) (sym (append-nil h)) (full_now some alive fails) }

-- What an allowed event does to the words, and from that what each word of a legal history is.
use Rattle.std.proofs.Common.{◌≡◌, ◌≢◌, ◌⊎◌, inl, inr, ℕ, zero, suc, ◌+◌, ◌*◌, ◌<◌, Bool, true, false, ◌||◌, ◌&&◌, ◌==◌, List, [], ◌∷◌, ◌++◌, length, Some, None, slice_get, refl, ap, sym, ◌∙◌, arith, append-nil, append_assoc, subst, filter_map, if◌then◌else◌}
use Rattle.std.specs.List.{cons_option, list_any}
use Rattle.std.proofs.lemmas.Bool.{and_parts, eqb-true, eq-eqb, ne_eqb}
use Rattle.std.proofs.lemmas.List.Folds.{list_any-append}
use Rattle.std.proofs.lemmas.List.Elements.{filter_map-append}
use Rattle.ulfm_model.specs.declared.contribution.Slot.TheVariants.{Given, Mark as Marked}
use Rattle.ulfm_model.specs.declared.contribution.Offer.{Offer}
use Rattle.ulfm_model.specs.declared.contribution.Offer.TheVariants.{Flag, Ctx}
use Rattle.ulfm_model.specs.declared.event.Caller.{Caller}
use Rattle.ulfm_model.specs.declared.event.Entry.{Entry}
use Rattle.ulfm_model.specs.declared.event.Event.{Event}
use Rattle.ulfm_model.specs.declared.event.Event.TheVariants.{Fail, Settle, Mark, Arrive, Revoke, Spawn}
use Rattle.ulfm_model.specs.declared.limits.Limits.{Limits}
use Rattle.ulfm_model.specs.declared.place.Place.{Place}
use Rattle.ulfm_model.specs.declared.place.Place.TheVariants.{List as ListAt, Comm as CommAt, Revoked as RevokedAt, Slot as SlotAt, Arrival as ArrivalAt}
use Rattle.ulfm_model.specs.History.{History, failures, has, has_arrived, is_revoked, same_place, says, spawns}
use Rattle.ulfm_model.specs.Laws.{SetsWord, SetsOneWord, HasWords}
use Rattle.ulfm_model.specs.{History.{IsLegal, IsLegalAfter, MayFollow}, Words.{first_word, offer_number, place_of, slot_word, word_at, word_of}}
use Rattle.ulfm_model.specs.Terms.{word_or_zero}
use Rattle.ulfm_model.proofs.Histories.{along, by_events, legal_parts, legal_push, slot_kept as slot_same, slot_push}
use Rattle.ulfm_model.proofs.OneEvent.{arrives_at, declared_by, made_by, put_by, revokes}

at_end : {X : Type 0} (xs : List X) (x : X) → slice_get (xs ++ x ∷ []) (length xs) ≡ Some x
at_end [] x = refl
at_end (y ∷ xs) x = at_end xs x

past_end : {X : Type 0} (xs : List X) → slice_get xs (length xs) ≡ None
past_end [] = refl
past_end (y ∷ xs) = past_end xs

elsewhere : {X : Type 0} (xs : List X) (x : X) (n : ℕ) → length xs ≢ n → slice_get (xs ++ x ∷ []) n ≡ slice_get xs n
elsewhere [] x zero ne = absurd (ne refl)
elsewhere [] x (suc n) ne = refl
elsewhere (y ∷ xs) x zero ne = refl
elsewhere (y ∷ xs) x (suc n) ne = elsewhere xs x n (λ e. ne (ap suc e))

itself : (c k r : ℕ) → same_place (c, k, r) (c, k, r) ≡ true
itself c k r = rw (eq-eqb c c refl, eq-eqb k k refl, eq-eqb r r refl) refl

-- places of a round are one exactly where their numbers are
one_place : (c k r c' k' r' : ℕ) (at : ℕ → ℕ → ℕ → Place) → same_place (c, k, r) (c', k', r') ≡ true → at c k r ≡ at c' k' r'
one_place c k r c' k' r' at is =
    let both = and_parts ((c == c') && (k == k')) (r == r') is in
    let first = and_parts (c == c') (k == k') both.0 in
    let e : c ≡ c' = eqb-true c c' first.0 in
    let f : k ≡ k' = eqb-true k k' first.1 in
    let g : r ≡ r' = eqb-true r r' both.1 in
    cc

differ : (c k r c' k' r' : ℕ) (at : ℕ → ℕ → ℕ → Place) → at c k r ≢ at c' k' r' → same_place (c, k, r) (c', k', r') ≡ false
differ c k r c' k' r' at ne = go (same_place (c, k, r) (c', k', r')) refl
  where
    go : (b : Bool) → same_place (c, k, r) (c', k', r') ≡ b → b ≡ false
    go false is = refl
    go true is = absurd (ne (one_place c k r c' k' r' at is))

or_neither : (a b : Bool) → b ≡ false → (a || b) ≡ a
or_neither true b none = refl
or_neither false b none = none

or_second : (a b : Bool) → b ≡ true → (a || b) ≡ true
or_second true b has_it = refl
or_second false b has_it = has_it

module _ {P : Type 0} (pack : P → ℕ) (meld : P → P → P) (limits : Limits) (h : History P) (by : Caller) where
  -- the history with one more event
  abbrev after : Event P → History P
  after event = h ++ record { by = by; event = event } ∷ []

  list_word : (event : Event P) (i : ℕ) → word_at pack (after event) (ListAt i) ≡ word_or_zero (λ rank. rank + 1) (slice_get (failures h ++ cons_option (declared_by event) []) i)
  list_word event i = ap (λ ys. word_or_zero (λ rank. rank + 1) (slice_get ys i)) (filter_map-append (λ x. declared_by x.event) h (record { by = by; event = event } ∷ []))

  list_kept : (event : Event P) (i : ℕ) → place_of h event ≢ ListAt i → word_at pack (after event) (ListAt i) ≡ word_at pack h (ListAt i)
  list_kept (Fail rank) i ne = list_word (Fail rank) i ∙ ap (word_or_zero (λ rank. rank + 1)) (elsewhere (failures h) rank i (λ same. ne (ap ListAt same)))
  list_kept event i ne = list_word event i ∙ ap (λ ys. word_or_zero (λ rank. rank + 1) (slice_get ys i)) (append-nil (failures h))

  comm_word : (event : Event P) (j : ℕ) → word_at pack (after event) (CommAt (suc j)) ≡ word_or_zero (λ made. 1 + made.0 * 4096 + made.1) (slice_get (spawns h ++ cons_option (made_by event) []) j)
  comm_word event j = ap (λ ys. word_or_zero (λ (made : ℕ × ℕ). 1 + made.0 * 4096 + made.1) (slice_get ys j)) (filter_map-append (λ x. made_by x.event) h (record { by = by; event = event } ∷ []))

  comm_kept : (event : Event P) (j : ℕ) → MayFollow meld limits h event → place_of h event ≢ CommAt j → word_at pack (after event) (CommAt j) ≡ word_at pack h (CommAt j)
  comm_kept event zero may ne = refl
  comm_kept (Spawn i parent round) (suc j) may ne =
      comm_word (Spawn i parent round) j
      ∙ ap (word_or_zero (λ made. 1 + made.0 * 4096 + made.1)) (elsewhere (spawns h) (parent, round) j (λ same. ne (ap CommAt (omega (arith, may.next, same)))))
  comm_kept event (suc j) may ne = comm_word event j ∙ ap (λ ys. word_or_zero (λ (made : ℕ × ℕ). 1 + made.0 * 4096 + made.1) (slice_get ys j)) (append-nil (spawns h))

  revoked_is : (event : Event P) (c : ℕ) → is_revoked (after event) c ≡ (is_revoked h c || revokes c event)
  revoked_is event c =
      ap (λ xs. has xs c) (filter_map-append (λ x. (says x.event).revokes) h (record { by = by; event = event } ∷ []))
      ∙ list_any-append (λ x. x == c) (filter_map (λ x. (says x.event).revokes) h) (cons_option (says event).revokes [])

  revoked_word : (event : Event P) (c : ℕ) → revokes c event ≡ false → word_at pack (after event) (RevokedAt c) ≡ word_at pack h (RevokedAt c)
  revoked_word event c none = ap (λ b. if b then 1 else 0) (revoked_is event c ∙ or_neither (is_revoked h c) (revokes c event) none)

  revoked_kept : (event : Event P) (c : ℕ) → place_of h event ≢ RevokedAt c → word_at pack (after event) (RevokedAt c) ≡ word_at pack h (RevokedAt c)
  revoked_kept (Revoke comm) c ne = revoked_word (Revoke comm) c (ap (λ b. b || false) (ne_eqb comm c (λ same. ne (ap RevokedAt same))))
  revoked_kept event c ne = revoked_word event c refl

  slot_word_kept : (event : Event P) (c k r : ℕ) → put_by c k r event ≡ None → word_at pack (after event) (SlotAt c k r) ≡ word_at pack h (SlotAt c k r)
  slot_word_kept event c k r none =
      ap (word_or_zero (slot_word pack)) (slot_same h (record { by = by; event = event }) c k r none)

  slot_kept : (event : Event P) (c k r : ℕ) → place_of h event ≢ SlotAt c k r → word_at pack (after event) (SlotAt c k r) ≡ word_at pack h (SlotAt c k r)
  slot_kept (Settle comm round rank given) c k r ne =
      slot_word_kept (Settle comm round rank given) c k r (ap (λ b. if b then Some (Given given) else None) (differ comm round rank c k r (λ x y z. SlotAt x y z) ne))
  slot_kept (Mark comm round rank mark) c k r ne =
      slot_word_kept (Mark comm round rank mark) c k r (ap (λ b. if b then Some (Marked mark) else None) (differ comm round rank c k r (λ x y z. SlotAt x y z) ne))
  slot_kept event c k r ne = slot_word_kept event c k r refl

  arrived_is : (event : Event P) (c k r : ℕ) → has_arrived (after event) c k r ≡ (has_arrived h c k r || arrives_at c k r event)
  arrived_is event c k r =
      ap (list_any (λ place. same_place place (c, k, r))) (filter_map-append (λ x. (says x.event).arrives) h (record { by = by; event = event } ∷ []))
      ∙ list_any-append (λ place. same_place place (c, k, r)) (filter_map (λ x. (says x.event).arrives) h) (cons_option (says event).arrives [])

  arrival_word : (event : Event P) (c k r : ℕ) → arrives_at c k r event ≡ false → word_at pack (after event) (ArrivalAt c k r) ≡ word_at pack h (ArrivalAt c k r)
  arrival_word event c k r none = ap (λ b. if b then 1 else 0) (arrived_is event c k r ∙ or_neither (has_arrived h c k r) (arrives_at c k r event) none)

  arrival_kept : (event : Event P) (c k r : ℕ) → place_of h event ≢ ArrivalAt c k r → word_at pack (after event) (ArrivalAt c k r) ≡ word_at pack h (ArrivalAt c k r)
  arrival_kept (Arrive comm round rank) c k r ne =
      arrival_word (Arrive comm round rank) c k r (ap (λ b. b || false) (differ comm round rank c k r (λ x y z. ArrivalAt x y z) ne))
  arrival_kept event c k r ne = arrival_word event c k r refl

  -- an allowed event leaves each word but its own
  pub word_kept : (event : Event P) (place : Place) → MayFollow meld limits h event → place_of h event ≢ place → word_at pack (after event) place ≡ word_at pack h place
  word_kept event (ListAt i) may ne = list_kept event i ne
  word_kept event (CommAt j) may ne = comm_kept event j may ne
  word_kept event (RevokedAt c) may ne = revoked_kept event c ne
  word_kept event (SlotAt c k r) may ne = slot_kept event c k r ne
  word_kept event (ArrivalAt c k r) may ne = arrival_kept event c k r ne

  made_new : (j parent round : ℕ) → j ≡ length (spawns h) + 1 → (word_at pack h (CommAt j) ≡ 0) × (word_at pack (after (Spawn j parent round)) (CommAt j) ≡ 1 + parent * 4096 + round)
  made_new zero parent round next = absurd (omega (arith, next))
  made_new (suc j) parent round next =
      let made : ℕ × ℕ → ℕ = λ x. 1 + x.0 * 4096 + x.1 in
      let last : length (spawns h) ≡ j = omega (arith, next) in (
        ap (λ n. word_or_zero made (slice_get (spawns h) n)) (sym last) ∙ ap (word_or_zero made) (past_end (spawns h)),
        comm_word (Spawn (suc j) parent round) j
            ∙ (ap (λ n. word_or_zero made (slice_get (spawns h ++ (parent, round) ∷ []) n)) (sym last) ∙ ap (word_or_zero made) (at_end (spawns h) (parent, round))),
      )

  -- the word of an allowed event was 0, and is the event's from then on
  pub word_set : (event : Event P) → MayFollow meld limits h event → (word_at pack h (place_of h event) ≡ 0) × (word_at pack (after event) (place_of h event) ≡ word_of pack event)
  word_set (Fail rank) may = (
    ap (word_or_zero (λ rank. rank + 1)) (past_end (failures h)),
    list_word (Fail rank) (length (failures h)) ∙ ap (word_or_zero (λ rank. rank + 1)) (at_end (failures h) rank),
  )
  word_set (Settle c k r given) may = (
    ap (word_or_zero (slot_word pack)) may.1,
    ap (word_or_zero (slot_word pack)) (slot_push h (record { by = by; event = Settle c k r given }) c k r may.1 ∙ ap (λ b. if b then Some (Given given) else None) (itself c k r)),
  )
  word_set (Mark c k r mark) may = (
    ap (word_or_zero (slot_word pack)) may.1,
    ap (word_or_zero (slot_word pack)) (slot_push h (record { by = by; event = Mark c k r mark }) c k r may.1 ∙ ap (λ b. if b then Some (Marked mark) else None) (itself c k r)),
  )
  word_set (Arrive c k r) may = (
    ap (λ b. if b then 1 else 0) may.1,
    ap (λ b. if b then 1 else 0) (arrived_is (Arrive c k r) c k r ∙ or_second (has_arrived h c k r) (arrives_at {P = P} c k r (Arrive c k r)) (ap (λ b. b || false) (itself c k r))),
  )
  word_set (Revoke c) may = (
    ap (λ b. if b then 1 else 0) may.1,
    ap (λ b. if b then 1 else 0) (revoked_is (Revoke c) c ∙ or_second (is_revoked h c) (revokes {P = P} c (Revoke c)) (ap (λ b. b || false) (eq-eqb c c refl))),
  )
  word_set (Spawn j parent round) may = made_new j parent round may.next

offer_some : {P : Type 0} (pack : P → ℕ) (known acked : ℕ) (offer : Offer P) → 0 < first_word (offer_number pack known acked offer)
offer_some pack known acked (Flag flag) = omega arith
offer_some pack known acked (Ctx mask) = omega arith

-- no event sets 0
pub word_some : {P : Type 0} (pack : P → ℕ) (event : Event P) → 0 < word_of pack event
word_some pack (Fail rank) = omega arith
word_some pack (Settle c k r given) = offer_some pack given.known.count given.acked.count given.offer
word_some pack (Mark c k r mark) = omega arith
word_some pack (Arrive c k r) = omega arith
word_some pack (Revoke c) = omega arith
word_some pack (Spawn j c k) = omega arith

module _ (at : ℕ → Place) (apart : (m n : ℕ) → at m ≡ at n → m ≡ n) (m n : ℕ) where
  same_or_not : (at m ≡ at n) ⊎ (at m ≢ at n)
  same_or_not = go (m == n) refl
    where
      go : (b : Bool) → (m == n) ≡ b → (at m ≡ at n) ⊎ (at m ≢ at n)
      go true is = inl (ap at (eqb-true m n is))
      go false is = inr (λ same. let e = eq-eqb m n (apart m n same) in absurd (cc (is, e)))

three_or_not : (c k r c' k' r' : ℕ) (at : ℕ → ℕ → ℕ → Place) → (at c k r ≡ at c' k' r' → (c ≡ c') × (k ≡ k') × (r ≡ r')) → (at c k r ≡ at c' k' r') ⊎ (at c k r ≢ at c' k' r')
three_or_not c k r c' k' r' at parts = go (same_place (c, k, r) (c', k', r')) refl
  where
    go : (b : Bool) → same_place (c, k, r) (c', k', r') ≡ b → (at c k r ≡ at c' k' r') ⊎ (at c k r ≢ at c' k' r')
    go true is = inl (one_place c k r c' k' r' at is)
    go false is = inr (λ same. let e = parts same in absurd (cc (is, itself c k r)))

-- two places are one or not
place_or_not : (x y : Place) → (x ≡ y) ⊎ (x ≢ y)
place_or_not (ListAt m) (ListAt n) = same_or_not ListAt (λ m n e. cc) m n
place_or_not (CommAt m) (CommAt n) = same_or_not CommAt (λ m n e. cc) m n
place_or_not (RevokedAt m) (RevokedAt n) = same_or_not RevokedAt (λ m n e. cc) m n
place_or_not (SlotAt c k r) (SlotAt c' k' r') = three_or_not c k r c' k' r' (λ x y z. SlotAt x y z) (λ e. (cc, cc, cc))
place_or_not (ArrivalAt c k r) (ArrivalAt c' k' r') = three_or_not c k r c' k' r' (λ x y z. ArrivalAt x y z) (λ e. (cc, cc, cc))
place_or_not x y = inr (λ e. absurd (cc e))

module _ {P : Type 0} (pack : P → ℕ) (meld : P → P → P) (limits : Limits) where
  -- an allowed event sets one word
  pub sets_one_word : (h : History P) (e : Entry P) → MayFollow meld limits h e.event → SetsOneWord pack h e
  sets_one_word h e may =
      let set = word_set pack meld limits h e.by e.event may in
      record { not_zero = word_some pack e.event; was_zero = set.0; is_set = set.1; others_stay = λ place other. word_kept pack meld limits h e.by e.event place may other }

  -- a word that is set stays
  word_stays : (place : Place) (event : Event P) (h rest : History P) → IsLegal meld limits h → IsLegalAfter meld limits h rest → word_at pack h place ≡ word_of pack event → word_at pack (h ++ rest) place ≡ word_of pack event
  word_stays place event h rest legal more is =
      along meld limits (λ w. word_at pack w place ≡ word_of pack event)
      (λ w e lw q may. let one = sets_one_word w e may in elim (place_or_not (place_of w e.event) place) [
        | inl same ↦ absurd (omega (arith, word_some pack event, q, ap (word_at pack w) (sym same) ∙ one.was_zero))
        | inr other ↦ one.others_stay place other ∙ q
      ]) h rest legal is more

  -- each word is 0, or some event has set it
  zero_or_set : (h : History P) → IsLegal meld limits h → (place : Place) → (word_at pack h place ≡ 0) ⊎ ((e : Entry P) × SetsWord h place e)
  zero_or_set h legal =
      by_events meld limits (λ w. (place : Place) → (word_at pack w place ≡ 0) ⊎ ((e : Entry P) × SetsWord w place e)) empty
      (λ w e lw q may place. elim (place_or_not (place_of w e.event) place) [
        | inl same ↦ inr (e, record { before = w; rest = []; stands = refl; place_is = same })
        | inr other ↦ elim (q place) [
          | inl is ↦ inl ((sets_one_word w e may).others_stay place other ∙ is)
          | inr set ↦ inr (
            set.0,
            record {
              before = set.1.before;
              rest = set.1.rest ++ e ∷ [];
              stands = sym (append_assoc set.1.before (set.0 ∷ set.1.rest) (e ∷ [])) ∙ ap (λ w. w ++ e ∷ []) set.1.stands;
              place_is = set.1.place_is;
            },
          )
        ]
      ]) h legal
    where
      empty : (place : Place) → (word_at pack [] place ≡ 0) ⊎ ((e : Entry P) × SetsWord [] place e)
      empty (CommAt zero) = inl refl
      empty (CommAt (suc j)) = inl refl
      empty place = inl refl

  -- what the words of a legal history are
  pub has_words : (h : History P) → IsLegal meld limits h → HasWords pack h
  has_words h legal = record { set = set; unset = λ place. (none_sets place, is_zero place) }
    where
      set : (place : Place) (e : Entry P) → SetsWord h place e → word_at pack h place ≡ word_of pack e.event
      set place e sets =
          let parts = legal_parts meld limits sets.before (e ∷ sets.rest) (subst (IsLegal meld limits) (sym sets.stands) legal) in
          let one = sets_one_word sets.before e parts.1.0 in
          let here : word_at pack (sets.before ++ e ∷ []) place ≡ word_of pack e.event = ap (word_at pack (sets.before ++ e ∷ [])) (sym sets.place_is) ∙ one.is_set in
          ap (λ w. word_at pack w place) (sym sets.stands ∙ sym (append_assoc sets.before (e ∷ []) sets.rest))
          ∙ word_stays place e.event (sets.before ++ e ∷ []) sets.rest (legal_push meld limits sets.before e parts.0 parts.1.0) parts.1.1 here

      none_sets : (place : Place) → word_at pack h place ≡ 0 → (e : Entry P) → SetsWord h place e → ⊥
      none_sets place is e sets = absurd (omega (arith, is, set place e sets, word_some pack e.event))

      is_zero : (place : Place) → ((e : Entry P) → SetsWord h place e → ⊥) → word_at pack h place ≡ 0
      is_zero place out = elim (zero_or_set h legal place) [ inl is ↦ is | inr some ↦ absurd (out some.0 some.1) ]

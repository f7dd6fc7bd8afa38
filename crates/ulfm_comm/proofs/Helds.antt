-- The communicators that a rank holds, with their context ids and the room for them.
use Rattle.std.proofs.Common.{◌≡◌, ℕ, ◌<◌, ◌≤◌, Bool, true, false, cond, List, [], ◌∷◌, ◌++◌, filter, length, nat_eq, not, nat_lt, Some, ◌||◌, length-append, refl, ap, sym}
use Rattle.std.proofs.Common.{◌∙◌, subst, arith}
use Rattle.std.specs.List.{AllByRecursion, IsDistinct, find, list_any}
use Rattle.std.proofs.lemmas.List.{length-map}
use Rattle.std.proofs.lemmas.List.Filters.{length-filter_both}
use Rattle.std.proofs.lemmas.Map.Keys.{IsDistinct-cons}
use Rattle.std.proofs.lemmas.Map.Steps.{length-le_from_distinct_below}
use Rattle.std.proofs.lemmas.Bool.Decides.{nat_tests}
use Rattle.ulfm_model.specs.declared.{call.Request.{Request}, call.Request.TheVariants.{Agree, Shrink, Barrier}, limits.Limits.{Limits}}
use Rattle.ulfm_model.specs.{Answers.{opened}, Records.{Held, change_at}, Words.{MayOpen}}
use Rattle.ulfm_model.specs.Terms.{contexts_of}
use Rattle.ulfm_model.proofs.{LeftHeld.{contexts_kept, contexts_push, distinct_kept}, Lists.{any_none, distinct_push, each_push}}
use Rattle.ulfm_comm.specs.{Prepared.{few_comms}, Ranks.{HasRoom}}
use Rattle.ulfm_model.proofs.Places.{is_of}

-- a change that keeps each context id keeps all of them
contexts_changed : (c : ℕ) (f : Held → Held) → ((y : Held) → (f y).context ≡ y.context) → (xs : List Held) → contexts_of (change_at c f xs) ≡ contexts_of xs
contexts_changed c f same [] = refl
contexts_changed c f same (x ∷ xs) =
    let rest = contexts_changed c f same xs in
    elim (is_of c x) as (λ b. contexts_of (cond b (f x ∷ xs) (x ∷ change_at c f xs)) ≡ x.context ∷ contexts_of xs)
    [ true ↦ ap (λ i. i ∷ contexts_of xs) (same x) | false ↦ ap (λ ids. x.context ∷ ids) rest ]

-- it keeps how many there are
length_changed : (c : ℕ) (f : Held → Held) → ((y : Held) → (f y).context ≡ y.context) → (xs : List Held) → length (change_at c f xs) ≡ length xs
length_changed c f same xs =
    sym (length-map (change_at c f xs) (λ (x : Held). x.context)) ∙ (ap length (contexts_changed c f same xs) ∙ length-map xs (λ (x : Held). x.context))

-- a rank that holds one communicator
pub room_new : (limits : Limits) (capacity places : ℕ) (x : Held) → MayOpen limits → limits.ranks ≤ capacity → few_comms ≤ places → x.context < 64
    → HasRoom limits capacity places (x ∷ [])
unfolding IsDistinct
room_new limits capacity places x may_open room few id =
    record { may_open = may_open; room = room; few = few; more = λ many. absurd (omega (arith, many)); ids = (id, tt); contexts = IsDistinct-cons nat_eq x.context [] tt tt }

-- a change that keeps the context id keeps what a rank keeps
pub room_changed : (limits : Limits) (capacity places now c : ℕ) (f : Held → Held) (xs new : List Held) → HasRoom limits capacity places xs
    → ((y : Held) → (f y).context ≡ y.context) → new ≡ change_at c f xs → now ≡ places
    → HasRoom limits capacity now new
room_changed limits capacity places now c f xs new old contexts is same =
    subst (HasRoom limits capacity now) (sym is) (record {
      may_open = old.may_open;
      room = old.room;
      few = omega (arith, old.few, same);
      more = λ many. omega (arith, old.more (omega (arith, many, length_changed c f contexts xs)), same);
      ids = subst (AllByRecursion (λ i. i < 64)) (sym (contexts_changed c f contexts xs)) old.ids;
      contexts = subst (IsDistinct nat_eq) (sym (contexts_changed c f contexts xs)) old.contexts;
    })

-- a request is opened
pub room_opened : (limits : Limits) (capacity places now c : ℕ) (request : Request) (xs new : List Held) → HasRoom limits capacity places xs
    → new ≡ change_at c (λ y. opened y (Some request)) xs → now ≡ places → HasRoom limits capacity now new
room_opened limits capacity places now c (Agree k) xs new old is same = room_changed limits capacity places now c (λ y. opened y (Some (Agree k))) xs new old
    (λ y. refl) is same
room_opened limits capacity places now c (Shrink k) xs new old is same = room_changed limits capacity places now c (λ y. opened y (Some (Shrink k))) xs new old
    (λ y. refl) is same
room_opened limits capacity places now c (Barrier k) xs new old is same = room_changed limits capacity places now c
    (λ y. opened y (Some (Barrier k))) xs new old (λ y. refl) is same

-- changes that do the same to the one that is found
pub change_alike : (xs : List Held) (c : ℕ) (x : Held) (f g : Held → Held) → find (is_of c) xs ≡ Some x → f x ≡ g x → change_at c f xs ≡ change_at c g xs
change_alike [] c x f g at same = refl
change_alike (y ∷ xs) c x f g at same = go (is_of c y) at (λ more. change_alike xs c x f g more same)
  where
    go : (b : Bool) → cond b (Some y) (find (is_of c) xs) ≡ Some x → (find (is_of c) xs ≡ Some x → change_at c f xs ≡ change_at c g xs)
        → cond b (f y ∷ xs) (y ∷ change_at c f xs) ≡ cond b (g y ∷ xs) (y ∷ change_at c g xs)
    go true here rest = let is : y ≡ x = cc here in ap (λ z. z ∷ xs) (subst (λ z. f z ≡ g z) (sym is) same)
    go false more rest = ap (λ zs. y ∷ zs) (rest more)

-- what a rank keeps is kept where it holds fewer communicators
pub room_kept : (limits : Limits) (capacity places now : ℕ) (p : Held → Bool) (xs new : List Held) → HasRoom limits capacity places xs → new ≡ filter p xs
    → now ≡ places → HasRoom limits capacity now new
room_kept limits capacity places now p xs new old is same =
    subst (HasRoom limits capacity now) (sym is) (record {
      may_open = old.may_open;
      room = old.room;
      few = omega (arith, old.few, same);
      more = λ many. omega (arith, old.more (omega (arith, many, length-filter_both p (λ y. not (p y)) (λ y. refl) xs)), same);
      ids = contexts_kept p (λ i. i < 64) xs old.ids;
      contexts = distinct_kept p xs old.contexts;
    })

-- One communicator more, with a context id that none has. Where there were as many as there was room for from the start, there is room for all now.
pub room_pushed : (limits : Limits) (capacity places now c : ℕ) (f : Held → Held) (made : Held) (xs new : List Held) → HasRoom limits capacity places xs
    → ((y : Held) → (f y).context ≡ y.context) → made.context < 64
    → AllByRecursion (λ i. nat_eq i made.context ≡ false) (contexts_of xs) → new ≡ change_at c f xs ++ made ∷ []
    → few_comms ≤ now → (few_comms ≤ length xs → 64 ≤ now)
    → HasRoom limits capacity now new
room_pushed limits capacity places now c f made xs new old contexts id fresh is few more =
    let rest = room_changed limits capacity places places c f xs (change_at c f xs) old contexts refl refl in
    let others = subst (AllByRecursion (λ i. nat_eq i made.context ≡ false)) (sym (contexts_changed c f contexts xs)) fresh in
    let longer = length-append (change_at c f xs) (made ∷ []) in
    let same = length_changed c f contexts xs in
    subst (HasRoom limits capacity now) (sym is) (record {
      may_open = rest.may_open;
      room = rest.room;
      few = few;
      more = λ many. more (omega (arith, many, longer, same));
      ids = subst (AllByRecursion (λ i. i < 64)) (sym (contexts_push (change_at c f xs) made))
          (each_push (λ i. i < 64) (contexts_of (change_at c f xs)) made.context rest.ids id);
      contexts =
          subst (IsDistinct nat_eq) (sym (contexts_push (change_at c f xs) made))
          (distinct_push nat_eq (contexts_of (change_at c f xs)) made.context rest.contexts
          (any_none (λ i. nat_eq i made.context) (contexts_of (change_at c f xs)) others));
    })

ids_below : (ids : List ℕ) (q : ℕ) → AllByRecursion (λ i. i < 64) ids → list_any (nat_eq q) ids ≡ true → q < 64
ids_below [] q all among = absurd (cc among)
ids_below (i ∷ ids) q all among = go (nat_eq q i) refl (λ more. ids_below ids q all.1 more)
  where
    go : (b : Bool) → nat_eq q i ≡ b → (list_any (nat_eq q) ids ≡ true → q < 64) → q < 64
    go true same rest = let is : q ≡ i = grind (arith, nat_tests) in subst (λ n. n < 64) (sym is) all.0
    go false other rest = rest (sym (ap (λ b. b || list_any (nat_eq q) ids) other) ∙ among)

-- where a context id is free, fewer communicators are held than there are ids
few_left : (limits : Limits) (capacity places id : ℕ) (xs : List Held) → HasRoom limits capacity places xs → id < 64
    → AllByRecursion (λ i. nat_eq i id ≡ false) (contexts_of xs) → length xs < 64
few_left limits capacity places id xs old below fresh =
    let ids = contexts_of xs ++ id ∷ [] in
    let distinct = distinct_push nat_eq (contexts_of xs) id old.contexts (any_none (λ i. nat_eq i id) (contexts_of xs) fresh) in
    let all = each_push (λ i. i < 64) (contexts_of xs) id old.ids below in
    let few = length-le_from_distinct_below ids 64 distinct (λ q among. ids_below ids q all among) in
    let more = length-append (contexts_of xs) (id ∷ []) in
    let same = length-map xs (λ (x : Held). x.context) in
    omega (arith, few, more, same)

-- What is held has moved into the room that was taken, if that was needed. Then there is room for a few, and where there are as many as that, for all.
module _ (limits : Limits) (capacity places now : ℕ) (xs : List Held) (old : HasRoom limits capacity places xs)
    (moved : length xs ≡ few_comms → 64 ≤ now) (stays : (length xs ≡ few_comms → ⊥) → now ≡ places) where
  moved_by : (b : Bool) → nat_eq (length xs) 4 ≡ b → (few_comms ≤ now) × (few_comms ≤ length xs → 64 ≤ now)
  moved_by true is =
      let all = moved (grind (arith, nat_tests)) in
      (omega (arith, all), λ many. all)
  moved_by false is =
      let other : length xs ≡ few_comms → ⊥ = λ same. grind (arith, nat_tests) in
      let same = stays other in
      (omega (arith, old.few, same), λ many. omega (arith, old.more (grind (arith, nat_tests)), same))

  pub room_moved : (few_comms ≤ now) × (few_comms ≤ length xs → 64 ≤ now)
  room_moved = moved_by (nat_eq (length xs) 4) refl

  -- where a context id is free, there is room for one communicator more
  pub room_left : (id : ℕ) → id < 64 → AllByRecursion (λ i. nat_eq i id ≡ false) (contexts_of xs) → length xs < now
  room_left id below fresh =
      by (nat_lt (length xs) 4) refl
    where
      by : (b : Bool) → nat_lt (length xs) 4 ≡ b → length xs < now
      by true is = let few = room_moved.0 in grind (arith, nat_tests)
      by false is = let all = room_moved.1 (grind (arith, nat_tests)) in omega (arith, all, few_left limits capacity places id xs old below fresh)

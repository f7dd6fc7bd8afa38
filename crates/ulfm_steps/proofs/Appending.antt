-- The places of a list that were passed, and the next one.
use Rattle.std.proofs.Common.{◌≡◌, ◌≢◌, ◌⊎◌, inl, inr, ℕ, zero, suc, ◌+◌, ◌<◌, ◌-◌, ◌*◌, ◌≤◌, Bool, true, false, cond, List, [], ◌∷◌, length, map, Option, Some, None, slice_get, refl, ap, sym, ◌∙◌, subst, arith, add-one, below_more}
use Rattle.std.specs.Prelude.{MatchOption}
use Rattle.std.proofs.lemmas.List.{map-append}
use mathlib.Core.List.{IsPrefix}
use Rattle.ulfm_model.specs.declared.{event.Caller.{Caller}, limits.Limits.{Limits}}
use Rattle.ulfm_model.specs.History.{History, MayFollow, failures, spawns}
use Rattle.ulfm_model.specs.Terms.{made_at}
use Rattle.ulfm_model.proofs.{Histories.{failures_begin}, Lists.{get_prefix, in_list, prefix_trans}, Stable.{spawns_begin}}
use Rattle.ulfm_words.specs.{Steps.{Goes, Over, Sight}, Tries.{MayMake, entry}}
use Rattle.ulfm_words.proofs.Trails.{added_after, did_wait}
use Rattle.ulfm_words.specs.Steps.{view_at}
use Rattle.ulfm_steps.specs.declared.{append.Append.{Append}, append.Appended.{Appended}, append.Appended.TheVariants.{Won, Found, Full}, item.Item.{Item}, item.Item.TheVariants.{Failure, Comm}}
use Rattle.ulfm_steps.specs.{Appends.{AppendIs, Appends, MayStand, MayAppend, Passed, event_at, items, room, turns_left}}
use Rattle.ulfm_steps.proofs.Going.{Went, went_most, went_on}
use Rattle.ulfm_steps.specs.Appends.{wanted}

get_map : {X Y : Type 0} (f : X → Y) (xs : List X) (i : ℕ) (x : X) → slice_get xs i ≡ Some x → slice_get (map f xs) i ≡ Some (f x)
get_map f [] i x e = absurd (cc e)
get_map f (y ∷ xs) zero x e = let same : y ≡ x = cc e in ap (λ w. Some (f w)) same
get_map f (y ∷ xs) (suc i) x e = get_map f xs i x e

no_map : {X Y : Type 0} (f : X → Y) (xs : List X) (i : ℕ) → slice_get xs i ≡ None → slice_get (map f xs) i ≡ None
no_map f [] i e = refl
no_map f (y ∷ xs) zero e = absurd (cc e)
no_map f (y ∷ xs) (suc i) e = no_map f xs i e

map_begins : {X Y : Type 0} (f : X → Y) (xs ys : List X) → IsPrefix xs ys → IsPrefix (map f xs) (map f ys)
map_begins f xs ys begins = (map f begins.0, sym (map-append f xs begins.0) ∙ ap (map f) begins.1)

next_made : {P : Type 0} (h : History P) (i : ℕ) → made_at h (i + 1) ≡ slice_get (spawns h) i
next_made h i = rw add-one refl

-- what a load or an exchange tells of a list
pub failure_stands : {P : Type 0} (h : History P) (i r a : ℕ) → slice_get (failures h) i ≡ Some r → slice_get (items (Failure a) h) i ≡ Some (Failure r)
failure_stands h i r a e = get_map (λ x. Failure x) (failures h) i r e

pub comm_stands : {P : Type 0} (h : History P) (i p k a b : ℕ) → made_at h (i + 1) ≡ Some (p, k) → slice_get (items (Comm a b) h) i ≡ Some (Comm p k)
comm_stands h i p k a b e = get_map (λ made. Comm made.0 made.1) (spawns h) i (p, k) (sym (next_made h i) ∙ e)

-- .. where nothing stands
pub no_failure : {P : Type 0} (h : History P) (i a : ℕ) → slice_get (failures h) i ≡ None → slice_get (items (Failure a) h) i ≡ None
no_failure h i a e = no_map (λ x. Failure x) (failures h) i e

pub no_comm : {P : Type 0} (h : History P) (i a b : ℕ) → made_at h (i + 1) ≡ None → slice_get (items (Comm a b) h) i ≡ None
no_comm h i a b e = no_map (λ made. Comm made.0 made.1) (spawns h) i (sym (next_made h i) ∙ e)

pub comm_may : {P : Type 0} (meld : P → P → P) (limits : Limits) (seen : History P) (p k i : ℕ) → MayStand meld limits seen (Comm p k) i → MayMake meld limits seen (i + 1) p k
comm_may meld limits seen p k i may more begins legal none = (may more begins legal (no_map (λ made. Comm made.0 made.1) (spawns more) i (sym (next_made more i) ∙ none))).0

-- a list goes on as its history does
items_begin : {P : Type 0} (item : Item) (h longer : History P) → IsPrefix h longer → IsPrefix (items item h) (items item longer)
items_begin (Failure rank) h longer begins = map_begins (λ r. Failure r) (failures h) (failures longer) (failures_begin h longer begins)
items_begin (Comm p k) h longer begins = map_begins (λ made. Comm made.0 made.1) (spawns h) (spawns longer) (spawns_begin h longer begins)

pub passed_stays : {P : Type 0} (item : Item) (n : ℕ) (h longer : History P) → IsPrefix h longer → Passed h item n → Passed longer item n
passed_stays item n h longer begins passed j lt =
    let old = passed j lt in (old.0, get_prefix (items item h) (items item longer) j old.0 (items_begin item h longer begins) old.1, old.2)

pub passed_push : {P : Type 0} (item : Item) (n : ℕ) (h : History P) (x : Item) → Passed h item n → slice_get (items item h) n ≡ Some x → x ≢ item → Passed h item (n + 1)
passed_push item n h x passed is other = below_more _ n passed (x, is, other)

no_more : {X : Type 0} (xs : List X) (n : ℕ) → slice_get xs n ≡ None → length xs ≤ n
no_more [] n e = omega arith
no_more (x ∷ xs) zero e = absurd (cc e)
no_more (x ∷ xs) (suc n) e = omega (arith, no_more xs n e)

past_end : {X : Type 0} (xs : List X) (j : ℕ) → length xs ≤ j → slice_get xs j ≡ None
past_end [] j le = refl
past_end (x ∷ xs) zero le = absurd (omega arith)
past_end (x ∷ xs) (suc j) le = past_end xs j (omega arith)

below_or : (a b : ℕ) → (a < b) ⊎ (b ≤ a)
below_or a b = grind arith

all_passed : {P : Type 0} (item : Item) (n : ℕ) (h : History P) → Passed h item n → n ≤ length (items item h)
all_passed item zero h passed = omega arith
all_passed item (suc n) h passed = let last = passed n (omega arith) in omega (arith, in_list (items item h) n last.0 last.1)

-- the item isn't in a list of as many places as were passed
not_there : {P : Type 0} (item : Item) (n : ℕ) (h : History P) → Passed h item n → length (items item h) ≡ n → (j : ℕ) → slice_get (items item h) j ≢ Some item
not_there item n h passed count j = λ e. go e (below_or j n)
  where
    go : slice_get (items item h) j ≡ Some item → (j < n) ⊎ (n ≤ j) → ⊥
    go e (inl lt) = let old = passed j lt in let same : Some old.0 ≡ Some item = sym old.1 ∙ e in old.2 (cc same)
    go e (inr le) = let none : None ≡ Some item = sym (past_end (items item h) j (omega (arith, le, count))) ∙ e in absurd (cc none)

module _ {P : Type 0} (meld : P → P → P) (limits : Limits) where
  -- the first place that is empty may be the item's
  pub may_add : (seen : History P) (item : Item) (n : ℕ) → MayAppend meld limits seen item → Passed seen item n → n < room item limits → MayStand meld limits seen item n
  may_add seen item n may passed lt more begins legal none =
      let now = passed_stays item n seen more begins passed in
      let count : length (items item more) ≡ n = omega (arith, all_passed item n more now, no_more (items item more) n none) in
      let here = may more begins legal (not_there item n more now count) (omega (arith, count, lt)) in
      (subst (λ i. MayFollow meld limits more (event_at item i)) count here, count)

  -- what may be appended may be appended later
  pub append_stays : (seen longer : History P) (item : Item) → IsPrefix seen longer → MayAppend meld limits seen item → MayAppend meld limits longer item
  append_stays seen longer item begins may more further legal = may more (prefix_trans seen longer more begins further) legal

-- steps before it that made no event
pub appends_later : {P : Type 0} (meld : P → P → P) (alone : Bool) (name : Over P) (item : Item) (by : Caller) (few most : ℕ) (result : Appended) (x y z : Sight P) → Went meld alone false (view_at name x) (view_at name y) → y.steps + few ≤ x.steps + most
    → Appends meld alone (wanted item by) few (view_at name y) result (view_at name z) → Appends meld alone (wanted item by) most (view_at name x) result (view_at name z)
appends_later {P} meld alone name item by few most result x y z went fewer ends = record { of = ends.of; outcome = later result ends.outcome; cached = prefix_trans x.cached y.cached z.cached went.cached ends.cached; caches = ends.caches ∙ went.caches; onward = omega (arith, went.onward, ends.onward); steps = omega (arith, fewer, ends.steps) }
  where
    later : (r : Appended) → AppendIs alone name.limits item by y.seen z.seen r → AppendIs alone name.limits item by x.seen z.seen r
    later (Won i) is = (added_after alone (entry by (event_at item i)) x.seen y.seen z.seen went.did is.0, is.1)
    later (Found i) is = (did_wait alone [] x.seen y.seen z.seen went.did is.0, is.1)
    later Full is = (did_wait alone [] x.seen y.seen z.seen went.did is.0, is.1)

-- .. and one more step, whether it was the last or not
pub appends_next : {P : Type 0} (meld : P → P → P) (alone : Bool) (name : Over P) (item : Item) (by : Caller) (most : ℕ) (result : Option Appended) (x y z : Sight P) → Went meld alone false (view_at name x) (view_at name y) → y.steps + 1 ≤ x.steps + most
    → MatchOption result (Goes meld alone false 1 (view_at name y) (view_at name z)) (λ a. Appends meld alone (wanted item by) 1 (view_at name y) a (view_at name z)) → MatchOption result (Goes meld alone false most (view_at name x) (view_at name z)) (λ a. Appends meld alone (wanted item by) most (view_at name x) a (view_at name z))
appends_next meld alone name item by most None x y z went fewer goes = went_most meld alone false name most x z (went_on meld alone false name 1 x y z went goes) (omega (arith, fewer, goes.steps))
appends_next meld alone name item by most (Some a) x y z went fewer ends = appends_later meld alone name item by 1 most a x y z went fewer ends

-- at a place of the list there is a step to take
pub turns_some : (places : ℕ) (a : Append) → a.index < places → 1 ≤ turns_left places a
turns_some places a lt = elim a.empty as (λ b. 1 ≤ 2 * (places - a.index) - cond b 1 0) [ true ↦ omega (arith, lt) | false ↦ omega (arith, lt) ]

-- past it two fewer are left, or one, where it was loaded before
pub turns_fall : (places : ℕ) (a : Append) → a.index < places → turns_left places (record a { index = a.index + 1; empty = false }) + 1 ≤ turns_left places a
turns_fall places a lt = elim a.empty as (λ b. 2 * (places - (a.index + 1)) - 0 + 1 ≤ 2 * (places - a.index) - cond b 1 0) [ true ↦ omega (arith, lt) | false ↦ omega (arith, lt) ]

-- no more are left than two for each place
pub turns_most : (places : ℕ) (a : Append) → turns_left places a ≤ 2 * places
turns_most places a = elim a.empty as (λ b. 2 * (places - a.index) - cond b 1 0 ≤ 2 * places) [ true ↦ omega arith | false ↦ omega arith ]

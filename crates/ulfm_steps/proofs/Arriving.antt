-- Who has arrived, as it is read member by member.
use Rattle.std.proofs.Common.{◌≡◌, ℕ, zero, suc, ◌+◌, ◌<◌, ◌≤◌, ◌==◌, ◌||◌, ◌&&◌, Bool, true, false, not, cond, nat_eq, List, [], ◌∷◌, ◌++◌, filter, length, take, IsTrue, refl, ap, sym, ◌∙◌, subst, arith, append_assoc, append-nil, length-append, if◌then◌else◌}
use Rattle.std.specs.List.{IsDistinct, list_all, list_any, slice_index}
use Rattle.std.specs.Cmp.{nat_eq_equiv}
use Rattle.std.proofs.lemmas.Bool.{and_from, and_parts, eqb-true, or_right}
use Rattle.std.proofs.lemmas.List.Elements.{filter_more}
use Rattle.std.proofs.lemmas.List.Filters.{length-filter_both}
use Rattle.std.proofs.lemmas.List.Folds.{list_all-append, list_any-append}
use Rattle.std.proofs.lemmas.Map.Made.{length-le_from_is_member}
use Rattle.std.proofs.Math.Seq.{take-append_seam, take-length}
use mathlib.Core.List.{IsPrefix}
use Rattle.ulfm_model.specs.declared.limits.Limits.{Limits}
use Rattle.ulfm_model.specs.History.{History, IsLegal, failures, has, has_arrived, without}
use Rattle.ulfm_model.proofs.{Lists.{any_same, distinct_filter, each_always, has_filter, has_kept, has_passes, some_fails}, Melds.{filter_take}, Spawned.{failures_distinct}}
use Rattle.ulfm_words.proofs.Growing.{arrival_stays}
use Rattle.ulfm_steps.specs.Arriving.{AtArrival, IsAsked, IsPosition, MissingAre, asked_before, asked_members, asks, in_order, rank_at, ranks_of}
use Rattle.ulfm_steps.specs.declared.arrivals.{Arrivals.{Arrivals}, Missing.TheVariants.{Nobody, Others, Declared}}
use Rattle.ulfm_steps.proofs.Reading.{has_at}

-- a test that holds of all holds of each
all_at : (p : ℕ → Bool) (xs : List ℕ) (r : ℕ) → list_all p xs ≡ true → has xs r ≡ true → p r ≡ true
all_at p [] r all in_it = absurd (cc in_it)
all_at p (x ∷ xs) r all in_it = let parts = and_parts (p x) (list_all p xs) all in go (x == r) refl in_it parts.0 (λ more. all_at p xs r parts.1 more)
  where
    go : (b : Bool) → (x == r) ≡ b → (b || has xs r) ≡ true → p x ≡ true → (has xs r ≡ true → p r ≡ true) → p r ≡ true
    go true same in_it first rest = subst (λ w. p w ≡ true) (eqb-true x r same) first
    go false other in_it first rest = rest in_it

-- where one fails it, it doesn't hold of all
fails_at : (p : ℕ → Bool) (xs : List ℕ) (r : ℕ) → has xs r ≡ true → p r ≡ false → list_all p xs ≡ false
fails_at p xs r in_it fails = go (list_all p xs) refl
  where
    go : (b : Bool) → list_all p xs ≡ b → b ≡ false
    go false is = refl
    go true is = let holds = all_at p xs r is in_it in absurd (cc (holds, fails))

-- what holds wherever another does holds of all where that does
all_from : (p q : ℕ → Bool) → ((r : ℕ) → p r ≡ true → q r ≡ true) → (xs : List ℕ) → list_all p xs ≡ true → list_all q xs ≡ true
all_from p q from [] all = all
all_from p q from (x ∷ xs) all = let parts = and_parts (p x) (list_all p xs) all in and_from (q x) (list_all q xs) (from x parts.0) (all_from p q from xs parts.1)

-- one more for which it holds
all_push : (p : ℕ → Bool) (xs : List ℕ) (x : ℕ) → list_all p xs ≡ true → p x ≡ true → list_all p (xs ++ x ∷ []) ≡ true
all_push p xs x all here = list_all-append p xs (x ∷ []) ∙ and_from (list_all p xs) (list_all p (x ∷ [])) all (and_from (p x) true here refl)

-- nobody else is in a group than those of it that some list has, and the others
holds_of_group : (p : ℕ → Bool) (group declared : List ℕ) → list_all p (in_order group declared) ≡ true → list_all p group ≡ true
holds_of_group p group declared all = go (list_all p group) refl
  where
    parts : (list_all p (filter (has group) declared) ≡ true) × (list_all p (without group declared) ≡ true)
    parts = and_parts (list_all p (filter (has group) declared)) (list_all p (without group declared)) (sym (list_all-append p (filter (has group) declared) (without group declared)) ∙ all)

    by_list : (r : ℕ) → has group r ≡ true → (b : Bool) → has declared r ≡ b → p r ≡ true
    by_list r in_it true is = all_at p (filter (has group) declared) r parts.0 (has_kept (has group) declared r is in_it)
    by_list r in_it false is = all_at p (without group declared) r parts.1 (has_kept (λ x. not (has declared x)) group r in_it (ap not is))

    go : (b : Bool) → list_all p group ≡ b → b ≡ true
    go true is = refl
    go false is =
        let one = some_fails p group is in
        let holds = by_list one.0 one.1 (has declared one.0) refl in
        let fails = one.2 in absurd (cc (holds, fails))

-- a group that has a member has one that is asked about
pub some_asked : (group declared : List ℕ) → 0 < length group → in_order group declared ≡ [] → ⊥
some_asked [] declared some none = absurd (omega arith)
some_asked (x ∷ xs) declared some none =
    let all : false ≡ true = holds_of_group (λ r. false) (x ∷ xs) declared (ap (list_all (λ r. false)) none) in absurd (cc all)

-- a machine that has read nothing stands where it may begin, whatever has happened
pub at_arrival_new : {P : Type 0} (group declared : List ℕ) (a : Arrivals) (h : History P) → IsAsked group declared a.others a.next → asked_before group declared a.others a.next ≡ [] → AtArrival group declared a h
at_arrival_new group declared a h asked first = record { asked = asked; arrived = ap (list_all (has_arrived h a.comm a.round)) first }

-- whoever has arrived stays there
pub arrivals_stay : {P : Type 0} (h longer : History P) (c k : ℕ) (ranks : List ℕ) → IsPrefix h longer → list_all (has_arrived h c k) ranks ≡ true → list_all (has_arrived longer c k) ranks ≡ true
arrivals_stay h longer c k ranks begins all = all_from (has_arrived h c k) (has_arrived longer c k) (λ r is. arrival_stays h longer c k r begins is) ranks all

-- where a machine stands it stands when more has happened
pub at_arrival_stays : {P : Type 0} (group declared : List ℕ) (a : Arrivals) (h longer : History P) → IsPrefix h longer → AtArrival group declared a h → AtArrival group declared a longer
at_arrival_stays group declared a h longer begins at =
    record { asked = at.asked; arrived = arrivals_stay h longer a.comm a.round (asked_before group declared a.others a.next) begins at.arrived }

-- whoever is asked about is a member
pub asked_member : (group declared : List ℕ) (others : Bool) (at : ℕ) → IsAsked group declared others at → IsTrue (has group (rank_at group declared others at))
asked_member group declared false at asked = asked.1
asked_member group declared true at asked = has_at group at 0 asked.0

-- where somebody is asked about there is a place
pub asked_within : (group declared : List ℕ) (others : Bool) (at : ℕ) → IsAsked group declared others at → IsPosition group declared others at
asked_within group declared false at asked = omega (arith, asked.0)
asked_within group declared true at asked = omega (arith, asked.0)

pub turned_off : (b : Bool) → not b ≡ true → b ≡ false
turned_off false is = refl
turned_off true is = absurd (cc is)

pub turned_on : (b : Bool) → not b ≡ false → b ≡ true
turned_on true is = refl
turned_on false is = absurd (cc is)

-- before the first of the others stand all declared members
pub others_first : (group declared : List ℕ) → asked_before group declared true 0 ≡ filter (has group) declared
others_first group declared = append-nil (filter (has group) declared)

-- they are no more than all
pub listed_few : (group declared : List ℕ) → length (filter (has group) declared) ≤ length (in_order group declared)
listed_few group declared = omega (arith, length-append (filter (has group) declared) (without group declared))

-- of the ranks up to a place, one more passes a test
passes_next : (p : ℕ → Bool) (xs : List ℕ) (at : ℕ) → at < length xs → p (slice_index xs at) ≡ true → filter p (take (at + 1) xs) ≡ filter p (take at xs) ++ slice_index xs at ∷ []
passes_next p xs at below is = filter_more p xs at 0 below ∙ ap (λ b. filter p (take at xs) ++ cond b (slice_index xs at ∷ []) []) is

-- or it doesn't
fails_next : (p : ℕ → Bool) (xs : List ℕ) (at : ℕ) → at < length xs → p (slice_index xs at) ≡ false → filter p (take (at + 1) xs) ≡ filter p (take at xs)
fails_next p xs at below is = filter_more p xs at 0 below ∙ (ap (λ b. filter p (take at xs) ++ cond b (slice_index xs at ∷ []) []) is ∙ append-nil (filter p (take at xs)))

-- one member more was asked about
pub asked_next : (group declared : List ℕ) (others : Bool) (at : ℕ) → IsAsked group declared others at
    → asked_before group declared others (at + 1) ≡ asked_before group declared others at ++ rank_at group declared others at ∷ []
asked_next group declared false at asked = passes_next (has group) declared at asked.0 asked.1
asked_next group declared true at asked =
    ap (λ w. filter (has group) declared ++ w) (passes_next (λ x. not (has declared x)) group at asked.0 asked.1)
    ∙ sym (append_assoc (filter (has group) declared) (without (take at group) declared) (slice_index group at ∷ []))

-- before a place with one that passes there are fewer
fewer_before : (p : ℕ → Bool) (xs : List ℕ) (at : ℕ) → at < length xs → p (slice_index xs at) ≡ true → length (filter p (take at xs)) < length (filter p xs)
fewer_before p [] at below is = absurd (omega arith)
fewer_before p (x ∷ xs) zero below is = let here : length (cond true (x ∷ filter p xs) (filter p xs)) ≡ length (filter p (x ∷ xs)) = ap (λ b. length (cond b (x ∷ filter p xs) (filter p xs))) (sym is) in omega (arith, here)
fewer_before p (x ∷ xs) (suc at) below is =
    let rest = fewer_before p xs at (omega arith) is in
    elim (p x) as (λ b. length (cond b (x ∷ filter p (take at xs)) (filter p (take at xs))) < length (cond b (x ∷ filter p xs) (filter p xs))) [ true ↦ omega arith | false ↦ rest ]

-- .. than there are in all
pub asked_fewer : (group declared : List ℕ) (others : Bool) (at : ℕ) → IsAsked group declared others at → length (asked_before group declared others at) < length (asked_members group declared others)
asked_fewer group declared false at asked = fewer_before (has group) declared at asked.0 asked.1
asked_fewer group declared true at asked =
    omega (arith, fewer_before (λ x. not (has declared x)) group at asked.0 asked.1, length-append (filter (has group) declared) (without group declared), length-append (filter (has group) declared) (without (take at group) declared))

-- and so a member is left
pub asked_left : (group declared : List ℕ) (others : Bool) (at : ℕ) → IsAsked group declared others at → length (asked_before group declared others at) < length (in_order group declared)
asked_left group declared false at asked = omega (arith, asked_fewer group declared false at asked, length-append (filter (has group) declared) (without group declared))
asked_left group declared true at asked = asked_fewer group declared true at asked

-- all that are gone through
pub asked_end : (group declared : List ℕ) (others : Bool) → asked_before group declared others (length (ranks_of group declared others)) ≡ asked_members group declared others
asked_end group declared false = ap (filter (has group)) (take-length declared)
asked_end group declared true = ap (λ w. filter (has group) declared ++ without w declared) (take-length group)

-- a place is one of the ranks' or the one past the last
pub within_ranks : (group declared : List ℕ) (others : Bool) (at : ℕ) → IsPosition group declared others at → at ≤ length (ranks_of group declared others)
within_ranks group declared false at within = within
within_ranks group declared true at within = within

-- a rank that is asked about
pub asked_at : (group declared : List ℕ) (others : Bool) (at : ℕ) → at < length (ranks_of group declared others) → asks group declared others (slice_index (ranks_of group declared others) at) ≡ true → IsAsked group declared others at
asked_at group declared false at below is = (below, is)
asked_at group declared true at below is = (below, is)

-- it is the one at that place
pub rank_is : (group declared : List ℕ) (others : Bool) (at : ℕ) → rank_at group declared others at ≡ slice_index (ranks_of group declared others) at
rank_is group declared false at = refl
rank_is group declared true at = refl

-- a rank more was gone through
module _ (group declared : List ℕ) (others : Bool) (at : ℕ) (below : at < length (ranks_of group declared others)) where
  -- it isn't asked about
  passed_by : asks group declared others (slice_index (ranks_of group declared others) at) ≡ false → asked_before group declared others (at + 1) ≡ asked_before group declared others at
  passed_by is = go others below is
    where
      go : (others : Bool) → at < length (ranks_of group declared others) → asks group declared others (slice_index (ranks_of group declared others) at) ≡ false → asked_before group declared others (at + 1) ≡ asked_before group declared others at
      go false below is = fails_next (has group) declared at below is
      go true below is = ap (λ w. filter (has group) declared ++ w) (fails_next (λ x. not (has declared x)) group at below is)

  -- or it is
  asked_also : asks group declared others (slice_index (ranks_of group declared others) at) ≡ true → asked_before group declared others (at + 1) ≡ asked_before group declared others at ++ rank_at group declared others at ∷ []
  asked_also is = asked_next group declared others at (asked_at group declared others at below is)

  -- it is counted where it is asked about
  pub count_on : (b : Bool) → b ≡ asks group declared others (slice_index (ranks_of group declared others) at)
      → length (asked_before group declared others (at + 1)) ≡ length (asked_before group declared others at) + (if b then 1 else 0)
  count_on true is = ap length (asked_also (sym is)) ∙ length-append (asked_before group declared others at) (rank_at group declared others at ∷ [])
  count_on false is = ap length (passed_by (sym is)) ∙ omega arith

  -- and nobody is missing where it has arrived or isn't asked about
  pub arrived_on : (came : ℕ → Bool) (b : Bool) → b ≡ asks group declared others (slice_index (ranks_of group declared others) at) → list_all came (asked_before group declared others at) ≡ true
      → (b ≡ true → came (rank_at group declared others at) ≡ true) → list_all came (asked_before group declared others (at + 1)) ≡ true
  arrived_on came true is before here = ap (list_all came) (asked_also (sym is)) ∙ all_push came (asked_before group declared others at) (rank_at group declared others at) before (here refl)
  arrived_on came false is before here = ap (list_all came) (passed_by (sym is)) ∙ before

module _ {P : Type 0} (h : History P) (c k : ℕ) (group declared : List ℕ) where
  abbrev came : ℕ → Bool
  came = has_arrived h c k

  -- after the load of a member who has arrived
  pub arrived_further : (others : Bool) (at : ℕ) → IsAsked group declared others at → list_all came (asked_before group declared others at) ≡ true → came (rank_at group declared others at) ≡ true
      → list_all came (asked_before group declared others (at + 1)) ≡ true
  arrived_further others at asked before here =
      ap (list_all came) (asked_next group declared others at asked) ∙ all_push came (asked_before group declared others at) (rank_at group declared others at) before here

  -- after that of one who is missing
  pub missing_found : (others : Bool) (at : ℕ) → IsAsked group declared others at → list_all came (asked_before group declared others at) ≡ true → came (rank_at group declared others at) ≡ false
      → MissingAre h c k group declared (cond others Others Declared)
  missing_found false at asked before missing =
      let r = slice_index declared at in
      (fails_at came group r asked.1 missing, fails_at came (filter (has group) declared) r (has_kept (has group) declared r (has_at declared at 0 asked.0) asked.1) missing)
  missing_found true at asked before missing =
      let parts = and_parts (list_all came (filter (has group) declared)) (list_all came (without (take at group) declared)) (sym (list_all-append came (filter (has group) declared) (without (take at group) declared)) ∙ before) in
      (fails_at came group (slice_index group at) (has_at group at 0 asked.0) missing, parts.0)

  -- one of those who are asked about is missing
  pub asked_missing : (others : Bool) (at : ℕ) → IsAsked group declared others at → came (rank_at group declared others at) ≡ false → list_all came (asked_members group declared others) ≡ false
  asked_missing false at asked missing = fails_at came (filter (has group) declared) (slice_index declared at) (has_kept (has group) declared (slice_index declared at) (has_at declared at 0 asked.0) asked.1) missing
  asked_missing true at asked missing =
      let r = slice_index group at in
      let other = has_kept (λ x. not (has declared x)) group r (has_at group at 0 asked.0) asked.1 in
      fails_at came (in_order group declared) r (list_any-append (λ x. x == r) (filter (has group) declared) (without group declared) ∙ or_right (has (filter (has group) declared) r) (has (without group declared) r) other) missing

  -- somebody of the declared ranks is missing
  pub declared_missing : (r : Bool) → r ≡ list_all came (asked_members group declared false) → r ≡ false → MissingAre h c k group declared Declared
  declared_missing r is out =
      let missing = sym is ∙ out in
      let one = some_fails came (filter (has group) declared) missing in
      (fails_at came group one.0 (has_passes (has group) declared one.0 one.1) one.2, missing)

  -- or somebody is, and nobody of these
  pub others_missing : (r : Bool) → list_all came (filter (has group) declared) ≡ true → r ≡ list_all came (asked_members group declared true) → r ≡ false → MissingAre h c k group declared Others
  others_missing r listed is out =
      let rest : list_all came (without group declared) ≡ false =
      ap (λ b. b && list_all came (without group declared)) (sym listed) ∙ (sym (list_all-append came (filter (has group) declared) (without group declared)) ∙ (sym is ∙ out)) in
      let one = some_fails came (without group declared) rest in
      (fails_at came group one.0 (has_filter (λ x. not (has declared x)) group one.0 one.1) one.2, listed)

  -- or nobody
  pub nobody_is : (r : Bool) → r ≡ list_all came (asked_members group declared true) → r ≡ true → MissingAre h c k group declared Nobody
  nobody_is r is came_all = holds_of_group came group declared (sym is ∙ came_all)

  -- where the others are asked about, no declared member is missing
  pub declared_came : (others : Bool) (at : ℕ) → not others ≡ false → list_all came (asked_before group declared others at) ≡ true → list_all came (filter (has group) declared) ≡ true
  declared_came false at is before = absurd (cc is)
  declared_came true at is before = (and_parts (list_all came (filter (has group) declared)) (list_all came (without (take at group) declared)) (sym (list_all-append came (filter (has group) declared) (without (take at group) declared)) ∙ before)).0

  -- after that of the last, who has arrived
  pub nobody_missing : (before after : List ℕ) → list_all came before ≡ true → after ≡ before → after ≡ in_order group declared → MissingAre h c k group declared Nobody
  nobody_missing before after all same is = holds_of_group came group declared (ap (list_all came) (sym is ∙ same) ∙ all)

-- where the next member who is asked about was looked for, after all before it had arrived
pub at_arrival_next : {P : Type 0} (group declared : List ℕ) (a next : Arrivals) (h : History P) → list_all (has_arrived h a.comm a.round) (asked_before group declared a.others (a.next + 1)) ≡ true
    → next.comm ≡ a.comm → next.round ≡ a.round → asked_before group declared next.others next.next ≡ asked_before group declared a.others (a.next + 1) → IsAsked group declared next.others next.next → AtArrival group declared next h
at_arrival_next group declared a next h all comm round none_between asked =
    record { asked = asked; arrived = rw (comm, round) (ap (list_all (has_arrived h a.comm a.round)) none_between ∙ all) }

-- the same, by a comparison of the other sides
has_turned : (xs : List ℕ) (r : ℕ) → list_any (nat_eq r) xs ≡ has xs r
has_turned xs r = any_same (λ x. x == r) (nat_eq r) xs (each_always (λ x. nat_eq r x ≡ (x == r)) (λ x. nat_eq_equiv.symm r x) xs)

-- the declared ranks differ
begun_distinct : (declared whole : List ℕ) → IsPrefix declared whole → IsDistinct nat_eq whole → IsDistinct nat_eq declared
begun_distinct declared whole begins distinct =
    let n = length declared in
    let first : take n whole ≡ declared = ap (take n) (sym begins.1) ∙ take-append_seam declared begins.0 in
    subst (IsDistinct nat_eq) (filter_take n whole distinct ∙ first) (distinct_filter (λ r. has (take n whole) r) whole distinct)

-- each member is asked about once
pub in_order_few : {P : Type 0} (meld : P → P → P) (limits : Limits) (h : History P) (group declared : List ℕ) → IsLegal meld limits h → IsPrefix declared (failures h) → length (in_order group declared) ≤ length group
in_order_few meld limits h group declared legal begins =
    let distinct = distinct_filter (has group) declared (begun_distinct declared (failures h) begins (failures_distinct meld limits h legal)) in
    let few = length-le_from_is_member nat_eq_equiv (filter (has group) declared) (filter (has declared) group) distinct (λ q is.
    let in_it = sym (has_turned (filter (has group) declared) q) ∙ is in
    has_turned (filter (has declared) group) q ∙ has_kept (has declared) group q (has_passes (has group) declared q in_it) (has_filter (has group) declared q in_it)) in
    omega (arith, few, length-filter_both (has declared) (λ x. not (has declared x)) (λ x. refl) group, length-append (filter (has group) declared) (without group declared))

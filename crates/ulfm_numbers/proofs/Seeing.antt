-- What the tables say of a point is what the history's beginning up to there says.
use Rattle.std.proofs.Common.{zero, suc, length-append, append-nil, ◌≡◌, ◌≤◌, ◌<◌, ◌+◌, ◌==◌, ◌++◌, ◌∷◌, [], ℕ, Bool, true, false, List, length, take, drop, Option, Some, None, nat_le, slice_get, if◌then◌else◌, refl, sym, ap, ap₂, ◌∙◌, subst, arith, inr}
use Rattle.std.proofs.lemmas.Bool.{leb-false, leb-true, ne_eqb}
use Rattle.std.proofs.lemmas.List.{take-append-drop}
use Rattle.std.proofs.Math.Seq.{take-length}
use Rattle.std.specs.{List.{cons_option}, Option.{option_map}}
use Rattle.std.specs.Prelude.{Vec, map, unwrap_or}
use Rattle.ulfm_model.specs.declared.event.Entry.{Entry}
use Rattle.ulfm_model.specs.{History.{History, failures, first_ranks, members, same_place, says, spawns}, Terms.{put_at}}
use Rattle.ulfm_model.proofs.Histories.{members_made, members_same, members_stay, slot_first, spawns_push}
use Rattle.ulfm_model.proofs.Walks.{members_missing}
use Rattle.ulfm_numbers.specs.declared.numbers.Numbers.{Numbers}
use Rattle.ulfm_numbers.specs.{Failed.{members_of}, Groups.{group_at, items_of}, Seen.{Seen, made_in, seen_of}, Telling.{TablesTell, TellsGroups, seen_at}}
use Rattle.ulfm_numbers.specs.Numbers.{before_then, by_then, count_by}
use Rattle.ulfm_numbers.proofs.Tabling.{first_by, given_at, passing_at}

module _ {P A : Type 0} {g : _} {k : _} (ranks : ℕ) (numbers : Numbers P A g k) (h : History P) (tells : TablesTell ranks numbers h) (point : ℕ) where
  slots_same : (at : ℕ × ℕ × ℕ) → (seen_at numbers point).slots at ≡ (seen_of ranks (take point h)).slots at
  slots_same at = ap (by_then point) (tells.slots at) ∙ sym (slot_first (take point h) (at.0) (at.1) (at.2) ∙ first_by (λ (e : Entry P). put_at at (says e.event).settles) point h)

  arrived_same : (at : ℕ × ℕ × ℕ) → (seen_at numbers point).arrived at ≡ (seen_of ranks (take point h)).arrived at
  arrived_same at = ap (before_then point) (tells.arrivals at) ∙ sym (passing_at (λ (e : Entry P). (says e.event).arrives) (λ x. same_place x at) point h)

  revoked_same : (c : ℕ) → (seen_at numbers point).revoked c ≡ (seen_of ranks (take point h)).revoked c
  revoked_same c = ap (before_then point) (tells.revocations c) ∙ sym (passing_at (λ (e : Entry P). (says e.event).revokes) (λ x. x == c) point h)

  declared_same : (r : ℕ) → (seen_at numbers point).declared r ≡ (seen_of ranks (take point h)).declared r
  declared_same r = ap (before_then point) (tells.declared r) ∙ sym (passing_at (λ (e : Entry P). (says e.event).declares) (λ x. x == r) point h)

  failures_same : (seen_at numbers point).failures ≡ failures (take point h)
  failures_same =
      ap₂ (λ n (xs : List ℕ). take n xs) (ap (count_by point) tells.failures.1) tells.failures.0 ∙ sym (given_at (λ (e : Entry P). (says e.event).declares) point h)

  spawns_same : (seen_at numbers point).spawns ≡ spawns (take point h)
  spawns_same =
      ap₂ (λ n (xs : List (ℕ × ℕ)). take n xs) (ap (count_by point) tells.spawns.1) tells.spawns.0 ∙ sym (given_at (λ (e : Entry P). (says e.event).makes) point h)

  -- a communicator that there is keeps its members, and one that there isn't has none
  members_told : (c : ℕ) (b : Bool) → nat_le c (length (spawns (take point h))) ≡ b
      → (if b then group_at (map members_of numbers.groups.items) c else []) ≡ members ranks (take point h) c
  members_told c true is =
      let here : c ≤ length (spawns (take point h)) = leb-true c (length (spawns (take point h))) is in
      let both = members_stay ranks (take point h) h c (drop point h, take-append-drop point h) here in
      tells.groups.each c both.0 ∙ both.1
  members_told c false is =
      let beyond : length (spawns (take point h)) < c = leb-false c (length (spawns (take point h))) is in
      sym (members_missing ranks (take point h) c (inr beyond) ∙ ap (λ (b : Bool). first_ranks (if b then ranks else 0)) (ne_eqb c 0 (λ same. omega (arith, beyond, same))))

  members_seen : (c : ℕ) → (seen_at numbers point).members c ≡ members ranks (take point h) c
  members_seen c = ap (λ (xs : List (ℕ × ℕ)). if nat_le c (length xs) then group_at (map members_of numbers.groups.items) c else []) spawns_same ∙ members_told c (nat_le c (length (spawns (take point h)))) refl

  pub seen_same : seen_at numbers point ≡ seen_of ranks (take point h)
  seen_same = λ i. record {
    slots = λ at. slots_same at i;
    arrived = λ at. arrived_same at i;
    revoked = λ c. revoked_same c i;
    declared = λ r. declared_same r i;
    failures = failures_same i;
    spawns = spawns_same i;
    members = λ c. members_seen c i;
  }

get_before : {X : Type 0} (xs ys : List X) (i : ℕ) → i < length xs → slice_get (xs ++ ys) i ≡ slice_get xs i
get_before [] ys i within = absurd (omega (arith, within))
get_before (x ∷ xs) ys zero within = refl
get_before (x ∷ xs) ys (suc i) within = get_before xs ys i (omega (arith, within))

get_last : {X : Type 0} (xs : List X) (x : X) → slice_get (xs ++ x ∷ []) (length xs) ≡ Some x
get_last [] x = refl
get_last (y ∷ xs) x = get_last xs x

module _ {P : Type 0} (ranks : ℕ) (groups : List (List ℕ)) (h : History P) (e : Entry P) (tells : TellsGroups ranks groups h) where
  -- an event that makes no communicator
  pub groups_kept : (says e.event).makes ≡ None → TellsGroups ranks groups (h ++ e ∷ [])
  groups_kept none =
      let same : spawns (h ++ e ∷ []) ≡ spawns h = spawns_push h e ∙ (ap (λ (o : Option (ℕ × ℕ)). spawns h ++ cons_option o []) none ∙ append-nil (spawns h)) in
      record {
        count = tells.count ∙ ap (λ (xs : List (ℕ × ℕ)). length xs + 1) (sym same);
        each = λ c here.
            let there : c ≤ length (spawns h) = omega (arith, here, ap length same) in
            tells.each c there ∙ sym (members_same ranks h e c there);
      }

  -- one that makes a communicator
  pub groups_grow : (of : ℕ × ℕ) (group : List ℕ) → (says e.event).makes ≡ Some of → group ≡ made_in (seen_of ranks h) (of.0) (of.1) → TellsGroups ranks (groups ++ group ∷ []) (h ++ e ∷ [])
  groups_grow of group makes is = record { count = omega (arith, length-append groups (group ∷ []), tells.count, longer); each = λ c here. at c here (nat_le c (length (spawns h))) refl }
    where
      longer : length (spawns (h ++ e ∷ [])) ≡ length (spawns h) + 1
      longer = ap length (spawns_push h e ∙ ap (λ (o : Option (ℕ × ℕ)). spawns h ++ cons_option o []) makes) ∙ length-append (spawns h) (of ∷ [])

      at : (c : ℕ) → c ≤ length (spawns (h ++ e ∷ [])) → (b : Bool) → nat_le c (length (spawns h)) ≡ b → group_at (groups ++ group ∷ []) c ≡ members ranks (h ++ e ∷ []) c
      at c here true is_there =
          let there : c ≤ length (spawns h) = leb-true c (length (spawns h)) is_there in
          let within : c < length groups = omega (arith, there, tells.count) in
          ap (λ (o : Option (List ℕ)). unwrap_or o []) (get_before groups (group ∷ []) c within) ∙ (tells.each c there ∙ sym (members_same ranks h e c there))
      at c here false is_new =
          let next : c ≡ length (spawns h) + 1 = omega (arith, leb-false c (length (spawns h)) is_new, here, longer) in
          let last : c ≡ length groups = omega (arith, next, tells.count) in
          ap (λ (o : Option (List ℕ)). unwrap_or o []) (ap (slice_get (groups ++ group ∷ [])) last ∙ get_last groups group)
          ∙ (is ∙ sym (members_made ranks h e c (of.0) (of.1) makes next))

-- what they say of now is what the whole history says
pub seen_now : {P A : Type 0} {g : _} {k : _} (ranks : ℕ) (numbers : Numbers P A g k) (h : History P) → TablesTell ranks numbers h → seen_at numbers numbers.count ≡ seen_of ranks h
seen_now ranks numbers h tells = seen_same ranks numbers h tells numbers.count ∙ ap (seen_of ranks) (ap (λ n. take n h) tells.count ∙ take-length h)

-- the groups at first: the world's members alone
pub groups_first : (P : Type 0) (ranks : ℕ) (groups : List (List ℕ)) (world : List ℕ) → groups ≡ world ∷ [] → world ≡ first_ranks ranks → TellsGroups {P = P} ranks groups []
groups_first P ranks groups world is members_are = record { count = ap length is; each = each }
  where
    each : (c : ℕ) → c ≤ length (spawns {P = P} []) → group_at groups c ≡ members {P = P} ranks [] c
    each zero here = ap (λ (gs : List (List ℕ)). group_at gs 0) is ∙ members_are
    each (suc c) here = absurd (omega (arith, here))

-- the groups after one more event, where that of the communicator that it makes, if it makes one, was noted
pub groups_noted : {P A : Type 0} (ranks : ℕ) (groups longer : List (List ℕ)) (h : History P) (e : Entry P) (seen : Seen P) (made : Option (Vec ℕ A)) → TellsGroups ranks groups h → seen ≡ seen_of ranks h
    → items_of made ≡ option_map (λ (of : ℕ × ℕ). made_in seen (of.0) (of.1)) (says e.event).makes → longer ≡ groups ++ cons_option (items_of made) [] → TellsGroups ranks longer (h ++ e ∷ [])
groups_noted {P} {A} ranks groups longer h e seen made tells sees is longer_is =
    subst (λ (gs : List (List ℕ)). TellsGroups ranks gs (h ++ e ∷ [])) (sym longer_is) (by_event ((says e.event).makes) refl (items_of made) is)
  where
    by_event : (o : Option (ℕ × ℕ)) → (says e.event).makes ≡ o → (made : Option (List ℕ)) → made ≡ option_map (λ (of : ℕ × ℕ). made_in seen (of.0) (of.1)) ((says e.event).makes)
        → TellsGroups ranks (groups ++ cons_option made []) (h ++ e ∷ [])
    by_event None none None is = subst (λ (gs : List (List ℕ)). TellsGroups ranks gs (h ++ e ∷ [])) (sym (append-nil groups)) (groups_kept ranks groups h e tells none)
    by_event None none (Some group) is = absurd (cc (is ∙ ap (λ o. option_map (λ (of : ℕ × ℕ). made_in seen (of.0) (of.1)) o) none))
    by_event (Some of) some None is = absurd (cc (is ∙ ap (λ o. option_map (λ (of : ℕ × ℕ). made_in seen (of.0) (of.1)) o) some))
    by_event (Some of) some (Some group) is =
        let same : Some group ≡ Some (made_in seen (of.0) (of.1)) = is ∙ ap (λ o. option_map (λ (of : ℕ × ℕ). made_in seen (of.0) (of.1)) o) some in
        let items : group ≡ made_in seen (of.0) (of.1) = cc same in
        groups_grow ranks groups h e tells of group some (items ∙ ap (λ (s : Seen P). made_in s (of.0) (of.1)) sees)

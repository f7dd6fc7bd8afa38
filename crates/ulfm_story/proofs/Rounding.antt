-- How far rounds have come: tables with one more event, and what they say of a round.
use Rattle.std.proofs.Common.{◌≡◌, ◌∙◌, ◌⊎◌, inl, inr, ℕ, zero, suc, ◌+◌, ◌<◌, ◌≤◌, arith, Bool, true, false, ◌&&◌, if◌then◌else◌, List, [], ◌∷◌, ◌++◌, length, map, Option, Some, None, is_some, refl, sym, ap, subst, length-append}
use Rattle.std.specs.Prelude.{Vec, slice_get, unwrap_or}
use Rattle.std.specs.{HashMap.{get}, List.{cons_option, list_all}, Option.{option_map, option_or}}
use Rattle.std.proofs.lemmas.{Bool.{and_from, and_parts, cases_lt}, Option.{slice_get_past}}
use Rattle.ulfm_laws.specs.declared.flag_and.FlagAnd.{FlagAnd}
use Rattle.ulfm_model.specs.declared.{contribution.Slot.{Slot}, event.Entry.{Entry}}
use Rattle.ulfm_model.specs.{History.{History, is_decided, members, same_place, says, slot, spawns}, Terms.{put_at}}
use Rattle.ulfm_model.proofs.{Histories.{exists_push, members_same, slot_append, spawns_push}}
use Rattle.ulfm_story.specs.Rounds.{AreMembers, group_at}

-- what is settled with one more event was settled before, or is what it puts there
settled_more : (h : History FlagAnd) (e : Entry FlagAnd) (q : ℕ × ℕ × ℕ) → is_some (slot (h ++ e ∷ []) (q.0) (q.1) (q.2)) ≡ true
    → (is_some (slot h (q.0) (q.1) (q.2)) ≡ true) ⊎ (is_some (put_at q (says e.event).settles) ≡ true)
settled_more h e q is = go (slot h (q.0) (q.1) (q.2)) (put_at q (says e.event).settles) (sym (ap is_some (slot_append h (e ∷ []) (q.0) (q.1) (q.2))) ∙ is)
  where
    go : (before put : Option (Slot FlagAnd)) → is_some (option_or before (option_or put None)) ≡ true → (is_some before ≡ true) ⊎ (is_some put ≡ true)
    go (Some s) put here = inl refl
    go None (Some s) here = inr refl
    go None None here = absurd cc

-- what an event puts at a place is settled there
put_there : (settles : Option ((ℕ × ℕ × ℕ) × Slot FlagAnd)) (p q : ℕ × ℕ × ℕ) → option_map (λ put. put.0) settles ≡ Some p → is_some (put_at q settles) ≡ true
    → same_place p q ≡ true
put_there None p q is put = absurd cc
put_there (Some at) p q is put = subst (λ (o : Option (ℕ × ℕ × ℕ)). same_there o ≡ true) is (passes (same_place at.0 q) put)
  where
    same_there : Option (ℕ × ℕ × ℕ) → Bool
    same_there None = true
    same_there (Some x) = same_place x q

    passes : (b : Bool) → is_some (if b then Some at.1 else None) ≡ true → b ≡ true
    passes true here = refl
    passes false here = absurd cc

module _ (h : History FlagAnd) (e : Entry FlagAnd) (old : ℕ × ℕ × ℕ → Option ℕ) (has : (q : ℕ × ℕ × ℕ) → is_some (slot h (q.0) (q.1) (q.2)) ≡ true → is_some (old q) ≡ true) where
  -- a table with the place that an event settles
  pub place_put : (new : ℕ × ℕ × ℕ → Option ℕ) (p : ℕ × ℕ × ℕ) (v : ℕ) → ((q : ℕ × ℕ × ℕ) → new q ≡ (if same_place p q then Some v else old q))
      → option_map (λ put. put.0) (says e.event).settles ≡ Some p → (q : ℕ × ℕ × ℕ) → is_some (slot (h ++ e ∷ []) (q.0) (q.1) (q.2)) ≡ true → is_some (new q) ≡ true
  place_put new p v puts settles q is = elim (settled_more h e q is) [ inl before ↦ kept before | inr put ↦ added (put_there (says e.event).settles p q settles put) ]
    where
      added : same_place p q ≡ true → is_some (new q) ≡ true
      added same = ap is_some (puts q ∙ ap (λ (b : Bool). if b then Some v else old q) same)

      kept : is_some (slot h (q.0) (q.1) (q.2)) ≡ true → is_some (new q) ≡ true
      kept before = ap is_some (puts q) ∙ either (same_place p q)
        where
          either : (b : Bool) → is_some (if b then Some v else old q) ≡ true
          either true = refl
          either false = has q before

  -- an event that settles nothing
  pub none_put : option_map (λ put. put.0) (says e.event).settles ≡ None → (q : ℕ × ℕ × ℕ) → is_some (slot (h ++ e ∷ []) (q.0) (q.1) (q.2)) ≡ true → is_some (old q) ≡ true
  none_put none q is = elim (settled_more h e q is) [ inl before ↦ has q before | inr put ↦ nothing (says e.event).settles none put ]
    where
      nothing : (settles : Option ((ℕ × ℕ × ℕ) × Slot FlagAnd)) → option_map (λ put. put.0) settles ≡ None → is_some (put_at q settles) ≡ true → is_some (old q) ≡ true
      nothing None is put = absurd cc
      nothing (Some at) is put = absurd cc

-- the last of a list, and those before it
at_last : {X : Type 0} (xs : List X) (x : X) → slice_get (xs ++ x ∷ []) (length xs) ≡ Some x
at_last [] x = refl
at_last (y ∷ xs) x = at_last xs x

at_before : {X : Type 0} (xs : List X) (x : X) (i : ℕ) → i < length xs → slice_get (xs ++ x ∷ []) i ≡ slice_get xs i
at_before [] x i less = absurd (omega (arith, less))
at_before (y ∷ xs) x zero less = refl
at_before (y ∷ xs) x (suc i) less = at_before xs x i (omega (arith, less))

module _ (ranks : ℕ) (groups : List (List ℕ)) (h : History FlagAnd) (e : Entry FlagAnd) (are : AreMembers ranks groups h) where
  -- one more event leaves the members of communicators alone
  pub members_kept : AreMembers ranks groups (h ++ e ∷ [])
  members_kept =
      let more : length (spawns h) ≤ length (spawns (h ++ e ∷ [])) = exists_push h e (length (spawns h)) (omega arith) in
      record {
        few = omega (arith, more, are.few);
        each = λ c here. are.each c here ∙ sym (members_same ranks h e c (omega (arith, here, are.few)));
      }

  -- .. and may make one more
  pub members_grow : (of : ℕ × ℕ) (group : List ℕ) → (says e.event).makes ≡ Some of → group ≡ members ranks (h ++ e ∷ []) (length groups) → AreMembers ranks (groups ++ group ∷ []) (h ++ e ∷ [])
  members_grow of group makes is =
      let longer : length (spawns (h ++ e ∷ [])) ≡ length (spawns h) + 1 =
      ap length (spawns_push h e ∙ ap (λ (o : Option (ℕ × ℕ)). spawns h ++ cons_option o []) makes) ∙ length-append (spawns h) (of ∷ []) in
      let count : length (groups ++ group ∷ []) ≡ length groups + 1 = length-append groups (group ∷ []) in
      record {
        few = omega (arith, longer, count, are.few);
        each = λ c here. elim (cases_lt c (length groups)) [
          | inl before ↦ ap (λ (o : Option (List ℕ)). unwrap_or o []) (at_before groups group c before) ∙ members_kept.each c before
          | inr past ↦
              let last : c ≡ length groups = omega (arith, here, count, past) in
              ap (group_at (groups ++ group ∷ [])) last ∙ ap (λ (o : Option (List ℕ)). unwrap_or o []) (at_last groups group) ∙ is ∙ ap (members ranks (h ++ e ∷ [])) (sym last)
        ];
      }

-- where a weaker test fails for some, so does a stronger
all_weaker : (p q : ℕ → Bool) → ((x : ℕ) → p x ≡ true → q x ≡ true) → (xs : List ℕ) → list_all p xs ≡ true → list_all q xs ≡ true
all_weaker p q weaker [] all = refl
all_weaker p q weaker (x ∷ xs) all =
    let parts = and_parts (p x) (list_all p xs) all in and_from (q x) (list_all q xs) (weaker x parts.0) (all_weaker p q weaker xs parts.1)

-- a round of which some member isn't in the table isn't decided
pub undecided : (ranks : ℕ) (groups : List (List ℕ)) (h : History FlagAnd) (old : ℕ × ℕ × ℕ → Option ℕ) (c k : ℕ) → AreMembers ranks groups h
    → ((q : ℕ × ℕ × ℕ) → is_some (slot h (q.0) (q.1) (q.2)) ≡ true → is_some (old q) ≡ true) → list_all (λ r. is_some (old (c, k, r))) (group_at groups c) ≡ false
    → is_decided ranks h c k ≡ false
undecided ranks groups h old c k are has lacks =
    elim (cases_lt c (length groups)) [
      | inl there ↦ go (is_decided ranks h c k) refl there
      | inr past ↦
          let none : group_at groups c ≡ [] = ap (λ (o : Option (List ℕ)). unwrap_or o []) (slice_get_past groups c past) in
          let all : list_all (λ r. is_some (old (c, k, r))) (group_at groups c) ≡ true = ap (list_all (λ r. is_some (old (c, k, r)))) none in
          absurd (cc (all, lacks))
    ]
  where
    go : (b : Bool) → is_decided ranks h c k ≡ b → c < length groups → is_decided ranks h c k ≡ false
    go false is there = is
    go true is there =
        let all = all_weaker (λ r. is_some (slot h c k r)) (λ r. is_some (old (c, k, r))) (λ r. has (c, k, r)) (members ranks h c) is in
        absurd (cc (all, lacks, ap (list_all (λ r. is_some (old (c, k, r)))) (are.each c there)))

-- Where communicators were made, and who their members are by that.
use Rattle.std.proofs.Common.{◌≡◌, ℕ, ◌+◌, ◌<◌, Bool, false, if◌then◌else◌, ◌==◌, List, [], ◌∷◌, ◌++◌, length, take, drop, get_or, reverse, Option, Some, None, refl, ap, sym, ◌∙◌, subst, arith, inl, inr, length-append}
use Rattle.std.specs.List.{cons_option}
use Rattle.std.proofs.lemmas.Bool.{ne_eqb}
use Rattle.std.proofs.lemmas.List.{reverse-append, reverse-reverse, take-append-drop, take_more}
use mathlib.Core.List.{IsPrefix}
use Rattle.ulfm_model.specs.declared.event.Entry.{Entry}
use Rattle.ulfm_model.specs.History.{Exists, History, first_ranks, members, members_after, members_by, spawns, without}
use Rattle.ulfm_model.specs.Terms.{group_among}
use Rattle.ulfm_model.specs.Walked.{IsNotMade, IsOrigin}
use Rattle.ulfm_model.proofs.OneEvent.{made_by}
use Rattle.ulfm_model.proofs.Histories.{members_made, members_stay, spawns_push}

-- one more element of a beginning
pub stands_at : {X : Type 0} (xs : List X) (i : ℕ) (x : X) → x ≡ get_or xs i x → i < length xs → take (i + 1) xs ≡ take i xs ++ x ∷ []
stands_at xs i x is within = take_more xs i x within ∙ ap (λ y. take i xs ++ y ∷ []) (sym is)

module _ {P : Type 0} where
  -- the communicators that were made, after one more event
  pub spawns_more : (h : History P) (i : ℕ) (e : Entry P) → take (i + 1) h ≡ take i h ++ e ∷ [] → spawns (take (i + 1) h) ≡ spawns (take i h) ++ cons_option (made_by e.event) []
  spawns_more h i e next = ap spawns next ∙ spawns_push (take i h) e

  -- nobody is a member of a communicator that was not made
  none_by : (ranks : ℕ) (past : List (Entry P)) (c : ℕ) → length (spawns (reverse past)) < c → members_by ranks past c ≡ []
  none_by ranks [] c above = ap (λ (b : Bool). if b then first_ranks ranks else []) (ne_eqb c 0 (λ same. omega (arith, above, same)))
  none_by ranks (e ∷ past) c above =
      let longer : length (spawns (reverse past)) + length (cons_option (made_by e.event) []) < c =
      omega (arith, above, ap length (ap spawns (reverse-append (e ∷ []) past) ∙ spawns_push (reverse past) e) ∙ length-append (spawns (reverse past)) (cons_option (made_by e.event) [])) in
      kept (none_by ranks past c) (made_by e.event) longer
    where
      kept : (length (spawns (reverse past)) < c → members_by ranks past c ≡ []) → (made : Option (ℕ × ℕ)) → length (spawns (reverse past)) + length (cons_option made []) < c
          → members_after (members_by ranks past) (reverse past) made c ≡ []
      kept before None above = before (omega (arith, above))
      kept before (Some made) above =
          let other : (c == length (spawns (reverse past)) + 1) ≡ false = ne_eqb c (length (spawns (reverse past)) + 1) (λ same. omega (arith, above, same)) in
          let earlier = members_by ranks past in
          ap (λ (b : Bool). if b then without (earlier made.0) (group_among (earlier made.0) (reverse past) made.0 made.1) else earlier c) other ∙ before (omega (arith, above))

  -- the members of a communicator that was not made: all ranks where it is the world's, and else nobody
  pub members_missing : (ranks : ℕ) (h : History P) (c : ℕ) → IsNotMade h c → members ranks h c ≡ first_ranks (if c == 0 then ranks else 0)
  members_missing ranks h c (inl world) =
      let begins : IsPrefix [] h = (h, refl) in
      ap (members ranks h) world ∙ ((members_stay ranks [] h 0 begins (omega arith)).1 ∙ ap (λ (c : ℕ). first_ranks (if c == 0 then ranks else 0)) (sym world))
  members_missing ranks h c (inr above) =
      let past : length (spawns (reverse (reverse h))) < c = subst (λ w. length (spawns w) < c) (sym (reverse-reverse h)) above in
      none_by ranks (reverse h) c past ∙ ap (λ (b : Bool). first_ranks (if b then ranks else 0)) (sym (ne_eqb c 0 (λ same. omega (arith, above, same))))

  -- the members of a communicator that was made, by those of its parent then
  pub members_from : (ranks : ℕ) (h : History P) (c place parent round : ℕ) → IsOrigin h c place parent round
      → members ranks h c ≡ without (members ranks (take place h) parent) (group_among (members ranks (take place h) parent) (take place h) parent round)
  members_from ranks h c place parent round origin =
      let w = take place h in
      let e = origin.entry in
      let begins : IsPrefix (w ++ e ∷ []) h = (drop (place + 1) h, ap (λ v. v ++ drop (place + 1) h) (sym origin.stands) ∙ take-append-drop (place + 1) h) in
      let here : Exists (w ++ e ∷ []) c =
      omega (arith, origin.number, ap length (spawns_push w e ∙ ap (λ made. spawns w ++ cons_option made []) origin.makes) ∙ length-append (spawns w) ((parent, round) ∷ [])) in
      (members_stay ranks (w ++ e ∷ []) h c begins here).1 ∙ members_made ranks w e c parent round origin.makes origin.number

-- Whoever starts an agreement leaves out of its round all whom it has seen failed.
use Rattle.std.proofs.Common.{◌≡◌, ◌⊎◌, ◌==◌, ◌||◌, ℕ, Bool, true, false, not, List, [], ◌∷◌, length, take, drop, Option, Some, None, refl, ap, sym, ◌∙◌, subst, inl, inr, filter, filter_map}
use Rattle.std.specs.List.{list_any, cons_option}
use Rattle.std.proofs.Math.Seq.{take-append_seam}
use Rattle.std.proofs.lemmas.Bool.{eqb-true, false_from_ne_true, or_left, or_right}
use Rattle.std.proofs.lemmas.List.{take-append-drop}
use mathlib.Core.List.{IsPrefix}
use Rattle.ulfm_model.specs.declared.{call.Call.TheVariants.{Shrink}, contribution.Offer.{Offer}, contribution.Offer.TheVariants.{Ctx}, contribution.Slot.{Slot}, contribution.Slot.TheVariants.{Given}, event.Caller.TheVariants.{Rank}, limits.Limits.{Limits}, refusal.Refusal.{Refusal}, reply.Reply.TheVariants.{Started}}
use Rattle.ulfm_model.specs.{Answers.{Contributes, IsReply, IsSelfFailed, RepliesBy, StartReplies, refusal_of}, History.{History, IsLegal, decision, failed, failures, has, known_of, members, round, slot}, Laws.{IsLeftOut, ShrinksExcludeFailures}, Records.{Fits, Held, Record, free_ids, held_at}, Runs.{IsSpan}}
use Rattle.ulfm_model.proofs.{Histories.{legal_parts, members_stay, slot_stays}, LeftFits.{held_fits}, LeftRuns.{look_begins, look_ends}, Lists.{has_kept, has_passes, has_prefix, prefix_trans}, Spawned.{members_of_spawned}, Stable.{failed_begins}}
use Rattle.ulfm_model.specs.Terms.{rests_on}
use Rattle.ulfm_model.specs.Answers.{Replies}

-- a test that holds of what g gives for a rank of a list holds of some that g gives
any_given : {Y : Type 0} (p : Y → Bool) (g : ℕ → Option Y) (xs : List ℕ) (x : ℕ) (y : Y) → has xs x ≡ true → g x ≡ Some y → p y ≡ true → list_any p (filter_map g xs) ≡ true
any_given p g [] x y e is holds = absurd (cc e)
any_given {Y = Y} p g (z ∷ xs) x y e is holds = go (λ e. any_given p g xs x y e is holds) (z == x) refl e
  where
    later : (o : Option Y) → list_any p (filter_map g xs) ≡ true → list_any p (cons_option o (filter_map g xs)) ≡ true
    later None more = more
    later (Some w) more = or_right (p w) (list_any p (filter_map g xs)) more

    go : (has xs x ≡ true → list_any p (filter_map g xs) ≡ true) → (b : Bool) → (z == x) ≡ b → (b || has xs x) ≡ true → list_any p (cons_option (g z) (filter_map g xs)) ≡ true
    go more true same e = ap (λ o. list_any p (cons_option o (filter_map g xs))) (ap g (eqb-true z x same) ∙ is) ∙ or_left (p y) (list_any p (filter_map g xs)) holds
    go more false same e = later (g z) (more e)

module _ {P : Type 0} (meld : P → P → P) (limits : Limits) (h : History P) (c k : ℕ) where
  -- what a member's contribution or mark names is in the decision's failed group
  pub named_is_decided : (rank r : ℕ) (s : Slot P) → slot h c k rank ≡ Some s → has (members limits.ranks h c) rank ≡ true → has (take (known_of s) (failed limits.ranks h c)) r ≡ true → has (decision meld limits.ranks h c k).failed r ≡ true
  named_is_decided rank r s is member named =
      let group = failed limits.ranks h c in
      has_kept (λ r. list_any (λ s. has (take (known_of s) group) r) (round limits.ranks h c k)) group r (has_prefix (take (known_of s) group) group r (drop (known_of s) group, take-append-drop (known_of s) group) named)
      (any_given (λ s. has (take (known_of s) group) r) (slot h c k) (members limits.ranks h c) rank s member is named)

  -- whoever is in that group is left out of the round
  pub failed_is_left_out : IsLegal meld limits h → (r : ℕ) → has (decision meld limits.ranks h c k).failed r ≡ true → IsLeftOut meld limits.ranks h c k r
  failed_is_left_out legal r out = record {
    decided_failed = out;
    no_member = λ j made. subst (λ group. has group r ≡ false) (sym (members_of_spawned meld limits h legal j c k made).group)
        (false_from_ne_true _ (λ in_it. let stays = has_passes (λ m. not (has (decision meld limits.ranks h c k).failed m)) (members limits.ranks h c) r in_it in absurd (cc (stays, ap not out))));
  }

module _ {P : Type 0} (meld : P → P → P) (limits : Limits) (alone : Bool) (before after longer : History P) (own : Record) (c : ℕ) (x : Held) (fits : Fits meld limits before own) (at : held_at own c ≡ Some x) (begins : IsPrefix after longer) (legal : IsLegal meld limits longer) where
  -- a start, of an agree or of a shrink, names all whom its caller had seen failed before
  pub start_excludes : (span : IsSpan meld limits alone before after (Rank own.number)) (offer : Offer P) → Contributes (rests_on span) own x offer → (r : ℕ) → has (failed limits.ranks before c) r ≡ true → IsLeftOut meld limits.ranks longer c x.next_agreement r
  start_excludes span offer gives r was =
      let both = held_fits meld limits before own c x fits at in
      let d : ℕ = x.comm in
      let here = both.0.exists in
      let look : History P = span.look in
      let seen : IsPrefix before look = look_begins meld limits alone before after (Rank own.number) span in
      let ends : IsPrefix look longer = prefix_trans look after longer (look_ends meld limits alone before after (Rank own.number) span) begins in
      let at_look = members_stay limits.ranks before look d seen here in
      let at_end = members_stay limits.ranks before longer d (prefix_trans before look longer seen ends) here in
      let legal_look = (legal_parts meld limits look ends.0 (subst (IsLegal meld limits) (sym ends.1) legal)).0 in
      let known : gives.given.known.count ≡ length (failed limits.ranks look d) = gives.known ∙ ap (λ ms. length (filter (has ms) (failures look))) (both.0.group ∙ sym at_look.1) in
      let more : IsPrefix (failed limits.ranks look d) (failed limits.ranks longer d) = failed_begins meld limits look longer d ends legal at_look.0 in
      let names : take gives.given.known.count (failed limits.ranks longer d) ≡ failed limits.ranks look d =
      ap (λ n. take n (failed limits.ranks longer d)) known ∙ (ap (take (length (failed limits.ranks look d))) (sym more.1) ∙ take-append_seam (failed limits.ranks look d) more.0) in
      let in_look : has (failed limits.ranks look d) r ≡ true =
      has_prefix (failed limits.ranks before d) (failed limits.ranks look d) r (failed_begins meld limits before look d seen legal_look here) (ap (λ w. has (failed limits.ranks before w) r) both.1 ∙ was) in
      let stands = slot_stays span.point longer d x.next_agreement own.number (Given gives.given) (prefix_trans span.point after longer span.point_ends begins) gives.stands in
      let member : has (members limits.ranks longer d) own.number ≡ true = ap (λ ms. has ms own.number) (at_end.1 ∙ sym both.0.group) ∙ both.0.member in
      subst (λ w. IsLeftOut meld limits.ranks longer w x.next_agreement r) both.1
      (failed_is_left_out meld limits longer d x.next_agreement legal r
      (named_is_decided meld limits longer d x.next_agreement own.number r (Given gives.given) stands member (ap (λ w. has w r) names ∙ in_look)))

  module _ (rank : ℕ) (span : IsSpan meld limits alone before after (Rank own.number)) (r : ℕ) (was : has (failed limits.ranks before c) r ≡ true) where
    abbrev IsOut : Type 0
    IsOut = IsLeftOut meld limits.ranks longer c x.next_agreement r

    by_start : StartReplies (rests_on span) own x (Ctx (free_ids own.held)) Started → IsOut
    by_start (inl (is, gives)) = start_excludes span (Ctx (free_ids own.held)) gives r was
    by_start (inr twice) = absurd (cc (twice.0))

    by_record : (held : Option Held) (refusal : Option Refusal) → held ≡ Some x → RepliesBy {P = P} (λ x. Replies meld limits (rests_on span) own x (Shrink rank c) Started) Started held refusal → IsOut
    by_record held (Some refusal) same is = absurd (cc is)
    by_record (Some y) None same replies = let one : y ≡ x = cc same in by_start (subst (λ y. StartReplies (rests_on span) own y (Ctx (free_ids own.held)) Started) one replies)
    by_record None None same replies = absurd replies

    by_answer : IsSelfFailed (rests_on span) own (Shrink rank c) Started ⊎ IsReply meld limits (rests_on span) own (Shrink rank c) Started → IsOut
    by_answer (inl failed) = absurd (cc (failed.reply_is))
    by_answer (inr answer) = by_record (held_at own c) (refusal_of own (Shrink rank c)) at answer.replies

-- so a shrink that starts does
pub shrink_excludes : {P : Type 0} (meld : P → P → P) → ShrinksExcludeFailures meld
shrink_excludes meld limits alone before after longer own new rank c x fits (inl refused) at begins legal r was = absurd (cc (refused.2))
shrink_excludes meld limits alone before after longer own new rank c x fits (inr run) at begins legal r was =
    by_answer meld limits alone before after longer own c x fits at begins legal rank run.span r was run.answer.replies

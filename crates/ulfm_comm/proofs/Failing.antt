-- A declaration, by how its appending ended.
use Rattle.std.proofs.Common.{◌≡◌, ℕ, zero, suc, ◌*◌, ◌<◌, ◌≤◌, Bool, List, [], ◌∷◌, length, map, Some, slice_get, refl, ap, sym, subst, arith, append-nil}
use Rattle.std.proofs.Common.{false}
use Rattle.std.proofs.Common.{inl, inr}
use Rattle.std.proofs.lemmas.List.{length-map}
use Rattle.ulfm_model.specs.declared.{event.Caller.TheVariants.{Outside}, event.Event.{Event}, event.Event.TheVariants.{Fail}}
use Rattle.ulfm_model.specs.declared.{refusal.Refusal.TheVariants.{NoSuchRank}, reply.Reply.{Reply}, reply.Reply.TheVariants.{AlreadyFailed, Declared, Refused}}
use Rattle.ulfm_model.specs.{Answers.{AnswersFail}, History.{entries_by, failures}, Runs.{Did}}
use Rattle.ulfm_model.proofs.Lists.{has_at, in_list}
use Rattle.ulfm_words.specs.{Steps.{IsView, Over, Sight}}
use Rattle.ulfm_words.proofs.{Ranks.{full_has}, Trails.{did_added, did_none}}
use Rattle.ulfm_words.specs.Steps.{view_at}
use Rattle.ulfm_steps.specs.{Appends.{Appends}, declared.append.Appended.{Appended}, declared.append.Appended.TheVariants.{Won, Found, Full}, declared.item.Item.{Item}}
use Rattle.ulfm_steps.specs.declared.item.Item.TheVariants.{Failure}
use Rattle.ulfm_steps.specs.Appends.{wanted}
use Rattle.ulfm_comm.specs.Fails.{Fails}
use Rattle.ulfm_comm.proofs.WholeCall.{span_ends}

-- the failure at a place of the list
failure_at : (fs : List ℕ) (i r : ℕ) → slice_get (map (λ x. Failure x) fs) i ≡ Some (Failure r) → slice_get fs i ≡ Some r
failure_at [] i r e = absurd (cc e)
failure_at (x ∷ fs) zero r e = let same : x ≡ r = cc e in ap Some same
failure_at (x ∷ fs) (suc i) r e = failure_at fs i r e

-- a list with so many places has so many ranks
long_enough : (fs : List ℕ) (n : ℕ) → ((j : ℕ) → j < n → (x : Item) × (slice_get (map (λ y. Failure y) fs) j ≡ Some x)) → n ≤ length fs
long_enough fs zero all = omega arith
long_enough fs (suc n) all = let last = all n (omega arith) in omega (arith, in_list (map (λ y. Failure y) fs) n last.0 last.1, length-map fs (λ y. Failure y))

module _ {P : Type 0} (meld : P → P → P) (alone : Bool) (name : Over P) (rank : ℕ) (before after : Sight P) where
  abbrev Declares : Appended → Type 0
  Declares result = Appends meld alone (wanted (Failure rank) Outside) (2 * name.limits.ranks) (view_at name before) result (view_at name after)

  -- a declaration whose appending added these own events
  fails_with : {result : Appended} → Declares result → rank < name.limits.ranks → (own : List (Event P)) (reply : Reply P)
      → Did alone (entries_by Outside own) before.seen after.seen
      → AnswersFail name.limits (record { look = failures before.seen; history = after.seen; own = own; spread = false }) rank reply
      → Fails meld alone rank (view_at name before) reply (view_at name after)
  fails_with appends below own reply did answer = record {
    words = refl;
    of = appends.of;
    run = record {
      span = span_ends Outside own false (did_none alone before.seen) did appends.of.legal;
      no_look = refl;
      answer = answer;
    };
    at_end = refl;
    steps = appends.steps;
    no_step = λ above. absurd (omega (arith, below, above));
    onward = appends.onward;
    cached = appends.cached;
    caches = appends.caches;
  }

  -- this call declared it
  pub fail_won : (i : ℕ) → rank < name.limits.ranks → Appends meld alone (wanted (Failure rank) Outside) (2 * name.limits.ranks) (view_at name before) (Won i) (view_at name after)
      → Fails meld alone rank (view_at name before) Declared (view_at name after)
  fail_won i below appends =
      fails_with appends below (Fail rank ∷ []) Declared
      (did_added alone (record { by = Outside; event = Fail rank }) before.seen after.seen appends.outcome.0)
      (inl (refl, refl, has_at (failures after.seen) i rank (failure_at (failures after.seen) i rank appends.outcome.1)))

  -- it had been declared
  pub fail_found : (i : ℕ) → rank < name.limits.ranks → Appends meld alone (wanted (Failure rank) Outside) (2 * name.limits.ranks) (view_at name before) (Found i) (view_at name after)
      → Fails meld alone rank (view_at name before) AlreadyFailed (view_at name after)
  fail_found i below appends =
      fails_with appends below [] AlreadyFailed appends.outcome.0
      (inr (inl (refl, refl, has_at (failures after.seen) i rank (failure_at (failures after.seen) i rank appends.outcome.1))))

  -- all ranks have been
  pub fail_full : rank < name.limits.ranks → Appends meld alone (wanted (Failure rank) Outside) (2 * name.limits.ranks) (view_at name before) Full (view_at name after)
      → Fails meld alone rank (view_at name before) AlreadyFailed (view_at name after)
  fail_full below appends =
      let passed = appends.outcome.1 in
      let full = long_enough (failures after.seen) name.limits.ranks (λ j lt. let at = passed j lt in (at.0, at.1)) in
      fails_with appends below [] AlreadyFailed appends.outcome.0 (inr (inl (refl, refl, full_has meld name.limits after.seen rank appends.of.legal below full)))

  -- the world doesn't have it
  pub fail_missing : IsView meld (view_at name before) → name.limits.ranks ≤ rank → after ≡ before → Fails meld alone rank (view_at name before) (Refused NoSuchRank) (view_at name after)
  fail_missing of above same =
      subst (λ (w : Sight P). Fails meld alone rank (view_at name before) (Refused NoSuchRank) (view_at name w)) (sym same) (record {
        words = refl;
        of = of;
        run = record {
          span = span_ends Outside [] false (did_none alone before.seen) (did_none alone before.seen) of.legal;
          no_look = refl;
          answer = inr (inr (refl, refl, above));
        };
        at_end = refl;
        steps = omega arith;
        no_step = λ above. refl;
        onward = omega arith;
        cached = ([], append-nil before.cached);
        caches = refl;
      })

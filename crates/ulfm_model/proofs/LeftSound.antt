-- Every step leads from a sound state to a sound one, and a new object is sound.
use Rattle.std.proofs.Common.{◌≡◌, ℕ, ◌==◌, Bool, true, false, cond, List, [], ◌∷◌, map, Option, Some, None, refl, ap, ap₂, sym, ◌∙◌, subst, arith, nat_eq, inl, inr, if◌then◌else◌}
use Rattle.std.specs.List.{AllByRecursion, IsDistinct}
use Rattle.std.proofs.lemmas.Bool.{eqb-true}
use Rattle.ulfm_model.specs.declared.{call.Call.{Call}, event.Caller.{Caller}, event.Caller.TheVariants.{Outside, Rank}, limits.Limits.{Limits}, reply.Reply.{Reply}}
use Rattle.ulfm_model.specs.Terms.{after_call}
use Rattle.ulfm_model.specs.{History.{History, first_ranks, has}, Records.{Fits, Record, new_record}, Runs.{IsRankStep, IsRun, IsSound, IsStep, State, new_state}}
use Rattle.ulfm_model.specs.Terms.{record_at}
use Rattle.ulfm_model.specs.Records.{moment}
use Rattle.ulfm_model.proofs.Lists.{all_has, each_from, find_holds}
use Rattle.ulfm_model.proofs.Stable.{fits_stays}
use Rattle.ulfm_model.proofs.LeftRuns.{fail_fits, fail_legal, run_fits, run_number, span_begins}

one_apart : (i : ℕ) → IsDistinct nat_eq (i ∷ [])
unfolding IsDistinct
one_apart i = (tt, tt)

-- records with the one of number r replaced by one of the same number
numbers_same : (r : ℕ) (new : Record) → new.number ≡ r → (records : List Record) → map (λ x. x.number) (map (λ x. if x.number == r then new else x) records) ≡ map (λ x. x.number) records
numbers_same r new is [] = refl
numbers_same r new is (x ∷ records) = ap₂ (λ n ns. n ∷ ns) (go (x.number == r) refl) (numbers_same r new is records)
  where
    go : (b : Bool) → (x.number == r) ≡ b → (cond b new x).number ≡ x.number
    go true same = is ∙ sym (eqb-true x.number r same)
    go false same = refl

each_replaced : (r : ℕ) (new : Record) (Q : Record → Type 0) → Q new → (records : List Record) → AllByRecursion Q records → AllByRecursion Q (map (λ x. if x.number == r then new else x) records)
each_replaced r new Q is [] all = tt
each_replaced r new Q is (x ∷ records) all =
    (elim (x.number == r) as (λ b. Q (cond b new x)) [ true ↦ is | false ↦ all.0 ], each_replaced r new Q is records all.1)

module _ {P : Type 0} (meld : P → P → P) where
  -- a call of a rank whose record this is
  run_sound : (state : State P) (r : ℕ) (own : Record) (asked : Call P) (reply : Reply P) (after : History P) (left : Record) → IsSound meld state → record_at state r ≡ Some own
      → IsRun meld state.limits true (moment own state.history) asked reply (moment left after) → IsSound meld (after_call state r after left)
  run_sound state r own asked reply after left sound at run =
      let begins = span_begins meld state.limits true state.history after (Rank own.number) run.span in
      let found = find_holds (λ x. x.number == r) (Fits meld state.limits state.history) state.records own sound.fits at in
      let number = run_number meld state.limits true state.history after own asked reply left run ∙ eqb-true own.number r found.1 in
      let still = each_from (Fits meld state.limits state.history) (Fits meld state.limits after) (λ x fits. fits_stays meld state.limits state.history after x begins run.span.legal fits) state.records sound.fits in
      record {
        legal = run.span.legal;
        numbers = numbers_same r left number state.records ∙ sound.numbers;
        fits = each_replaced r left (Fits meld state.limits after) (run_fits meld state.limits true state.history after own asked reply left found.0 run) state.records still;
      }

  rank_sound : (state : State P) (r : ℕ) (own : Option Record) (asked : Call P) (reply : Reply P) (new : State P) → IsSound meld state → record_at state r ≡ own → IsRankStep meld state r own asked reply new → IsSound meld new
  rank_sound state r None asked reply new sound at step = subst (IsSound meld) (sym step.1) sound
  rank_sound state r (Some own) asked reply new sound at (inl refused) = subst (IsSound meld) (sym refused.2) sound
  rank_sound state r (Some own) asked reply new sound at (inr (after, left, run, is)) = subst (IsSound meld) (sym is) (run_sound state r own asked reply after left sound at run.run)

  -- a step leads to a sound state
  pub step_sound : (state : State P) (caller : Caller) (asked : Call P) (reply : Reply P) (new : State P) → IsSound meld state → IsStep meld state caller asked reply new → IsSound meld new
  step_sound state (Rank r) asked reply new sound step = rank_sound state r (record_at state r) asked reply new sound refl step
  step_sound state Outside asked reply new sound (r, is, after, run, at_end, left) =
      let more = fail_legal meld state.limits true state.history after r reply run in
      subst (IsSound meld) (sym left) (record {
        legal = more.1;
        numbers = sound.numbers;
        fits = each_from (Fits meld state.limits state.history) (Fits meld state.limits after) (λ x fits. fail_fits meld state.limits true state.history after x r reply run fits) state.records sound.fits;
      })

  -- a new rank's record fits a history in which nothing has happened
  pub new_fits : (limits : Limits) (r : ℕ) → has (first_ranks limits.ranks) r ≡ true → Fits meld limits [] (new_record limits r)
  new_fits limits r member = record {
    same_limits = refl;
    held = (record { exists = omega arith; group = refl; member = member; context = inl (refl, refl); acked = omega arith; request = tt }, tt);
    contexts = one_apart 0;
    one_shrink = omega arith;
    seen = ([], refl);
    refused = λ yes. absurd (cc yes);
  }

  -- a new object is sound
  pub new_sound : (limits : Limits) → IsSound meld (new_state limits)
  new_sound limits = record {
    legal = tt;
    numbers = numbers_of (first_ranks limits.ranks);
    fits = each_new (first_ranks limits.ranks) (all_has (first_ranks limits.ranks));
  }
    where
      numbers_of : (rs : List ℕ) → map (λ x. x.number) (map (new_record limits) rs) ≡ rs
      numbers_of [] = refl
      numbers_of (r ∷ rs) = ap (λ ns. r ∷ ns) (numbers_of rs)

      each_new : (rs : List ℕ) → AllByRecursion (λ r. has (first_ranks limits.ranks) r ≡ true) rs → AllByRecursion (Fits meld limits []) (map (new_record limits) rs)
      each_new [] all = tt
      each_new (r ∷ rs) all = (new_fits limits r all.0, each_new rs all.1)

-- The computed object takes the steps of the sequential object.
use Rattle.std.proofs.Common.{◌≡◌, ℕ, ◌<◌, ◌≤◌, ◌==◌, Bool, true, false, [], ◌∷◌, ◌++◌, Option, Some, None, refl, ap, ◌∙◌, arith, nat_lt, inl, inr, append-nil, if◌then◌else◌}
use Rattle.std.proofs.lemmas.Bool.Decides.{nat_tests}
use Rattle.std.proofs.lemmas.List.Elements.{filter_map-append}
use Rattle.ulfm_model.specs.declared.call.Call.{Call}
use Rattle.ulfm_model.specs.declared.call.Call.TheVariants as call
use Rattle.ulfm_model.specs.declared.reply.Reply.TheVariants.{AlreadyFailed, Declared, Refused}
use Rattle.ulfm_model.specs.declared.refusal.Refusal.TheVariants.{NoSuchRank}
use Rattle.ulfm_model.specs.declared.limits.Limits.{Limits}
use Rattle.ulfm_model.specs.declared.event.Caller.TheVariants.{Outside, Rank}
use Rattle.ulfm_model.specs.declared.event.Event.TheVariants.{Fail}
use Rattle.ulfm_model.specs.History.{History, entries_by, failures, has}
use Rattle.ulfm_model.specs.{History.{IsLegal, IsLegalAfter}, Runs.{IsAloneRun, IsFailRun, IsRankStep, IsSound, IsStep, State}}
use Rattle.ulfm_model.specs.Computed.{CallOutcome, fail_outcome, next, next_by, next_of_rank, outcome_of}
use Rattle.ulfm_model.specs.Terms.{record_at, rests_on}
use Rattle.ulfm_model.specs.Records.{Fits, Record}
use Rattle.ulfm_model.specs.Answers.{AnswersFail, left_by, traits_of}
use Rattle.ulfm_model.specs.Records.{moment}
use Rattle.ulfm_model.proofs.Lists.{find_holds}
use Rattle.ulfm_model.proofs.OneEvent.{declared_by}
use Rattle.ulfm_model.proofs.StepsAlone.{good_run, span_alone}
use Rattle.ulfm_model.proofs.StepsOutcome.{outcome_good}
use Rattle.ulfm_model.proofs.StepsPlain.{has_last}

module _ {P : Type 0} (meld : P → P → P) (limits : Limits) (h : History P) (legal : IsLegal meld limits h) where
  -- what is computed for a call of a rank that wasn't refused for good is a run where nobody else steps; a world has room for its
  -- own communicator at least, since a shrink that finds no room is answered by counting those that were made
  pub outcome_is_run : (own : Record) (asked : Call P) (rank : ℕ) → limits.ranks ≤ 1024 → 0 < limits.comms → Fits meld limits h own → own.refused ≡ false → (traits_of asked).by ≡ Rank rank
      → (let out = outcome_of meld limits h own asked in
      let after = h ++ entries_by (Rank own.number) out.own in
      IsAloneRun meld limits (moment own h) asked out.reply (moment (left_by limits.ranks after (record own { seen = failures h }) asked out.reply) after))
  outcome_is_run own asked rank small some fits in_use by_rank =
      good_run meld limits h own asked (outcome_of meld limits h own asked) legal in_use (outcome_good meld limits h legal small some own fits asked rank by_rank)

  -- the run of a declaration's outcome where nobody else steps, whose point is its end
  abbrev pub IsFailRunOf : ℕ → CallOutcome P → Type 0
  IsFailRunOf r out =
      let after = h ++ entries_by Outside out.own in (run : IsFailRun meld limits true h after r out.reply) × (run.span.point ≡ after)

  declared_after : (r : ℕ) → has (failures (h ++ record { by = Outside; event = Fail r } ∷ [])) r ≡ true
  declared_after r = ap (λ w. has w r) (filter_map-append (λ e. declared_by e.event) h (record { by = Outside; event = Fail r } ∷ [])) ∙ has_last (failures h) r

  -- what is computed for a declaration is a run where nobody else steps
  pub fail_is_run : (r : ℕ) → IsFailRunOf r (fail_outcome limits h r)
  fail_is_run r = by_tests (nat_lt r limits.ranks) refl (has (failures h) r) refl
    where
      run_of : (out : CallOutcome P) (after : IsLegalAfter meld limits h (entries_by Outside out.own)) → AnswersFail limits (rests_on (span_alone meld limits h Outside out.own legal after)) r out.reply → IsFailRunOf r out
      run_of out after answer = (record { span = span_alone meld limits h Outside out.own legal after; no_look = refl; answer = answer }, refl)

      by_tests : (below : Bool) → nat_lt r limits.ranks ≡ below → (was : Bool) → has (failures h) r ≡ was
          → IsFailRunOf r (if below then (if was then (record { own = []; reply = AlreadyFailed }) else (record { own = Fail r ∷ []; reply = Declared })) else (record { own = []; reply = Refused NoSuchRank }))
      by_tests true below true was = run_of (record { own = []; reply = AlreadyFailed }) tt (inr (inl (refl, refl, ap (λ w. has (failures w) r) (append-nil h) ∙ was)))
      by_tests true below false was = run_of (record { own = Fail r ∷ []; reply = Declared }) ((grind (arith, nat_tests), was), tt) (inl (refl, refl, declared_after r))
      by_tests false below was stood = run_of (record { own = []; reply = Refused NoSuchRank }) tt (inr (inr (refl, refl, grind (arith, nat_tests))))

module _ {P : Type 0} (meld : P → P → P) (state : State P) (sound : IsSound meld state) (small : state.limits.ranks ≤ 1024) (some : 0 < state.limits.comms) where
  rank_step : (r : ℕ) (asked : Call P) → (traits_of asked).by ≡ Rank r
      → (let out = next_of_rank meld state r (record_at state r) asked in IsRankStep meld state r (record_at state r) asked out.reply out.state)
  rank_step r asked by_rank = by_record (record_at state r) refl
    where
      by_use : (own : Record) → Fits meld state.limits state.history own → (b : Bool) → own.refused ≡ b → (let out = next_by meld state r own asked b in IsRankStep meld state r (Some own) asked out.reply out.state)
      by_use own fits true refused = inl (refused, refl, refl)
      by_use own fits false in_use =
          let run = outcome_is_run meld state.limits state.history sound.legal own asked r small some fits in_use by_rank in inr (_, _, run, refl)

      by_record : (held : Option Record) → record_at state r ≡ held → (let out = next_of_rank meld state r held asked in IsRankStep meld state r held asked out.reply out.state)
      by_record None at = (refl, refl)
      by_record (Some own) at = by_use own (find_holds (λ x. x.number == r) (Fits meld state.limits state.history) state.records own sound.fits at).0 own.refused refl

  -- each computed call is a step
  pub next_is_step : (asked : Call P) → IsStep meld state (traits_of asked).by asked (next meld state asked).reply (next meld state asked).state
  next_is_step (call.Fail rank) =
      let run = fail_is_run meld state.limits state.history sound.legal rank in
      (rank, refl, _, run.0, run.1, refl)
  next_is_step (call.GetFailed rank c) = rank_step rank (call.GetFailed rank c) refl
  next_is_step (call.FailureGetAcked rank c) = rank_step rank (call.FailureGetAcked rank c) refl
  next_is_step (call.Ack rank c count) = rank_step rank (call.Ack rank c count) refl
  next_is_step (call.FailureAck rank c) = rank_step rank (call.FailureAck rank c) refl
  next_is_step (call.Agree rank c value) = rank_step rank (call.Agree rank c value) refl
  next_is_step (call.Shrink rank c) = rank_step rank (call.Shrink rank c) refl
  next_is_step (call.Barrier rank c) = rank_step rank (call.Barrier rank c) refl
  next_is_step (call.Poll rank c) = rank_step rank (call.Poll rank c) refl
  next_is_step (call.Revoke rank c) = rank_step rank (call.Revoke rank c) refl
  next_is_step (call.IsRevoked rank c) = rank_step rank (call.IsRevoked rank c) refl
  next_is_step (call.Free rank c) = rank_step rank (call.Free rank c) refl

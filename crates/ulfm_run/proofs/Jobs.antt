-- A world, all its ranks and one pass, in one hand: what each call is of the whole.
use Rattle.std.proofs.Common.{◌≡◌, ℕ, zero, suc, ◌<◌, ◌≤◌, Bool, true, false, List, [], ◌∷◌, get_or, set, length, Some, refl, ap, ap₂, sym, ◌∙◌, subst, arith}
use Rattle.std.proofs.Common.{append-nil, inl, inr, IsTrue}
use Rattle.std.specs.Prelude.{Result, Ok, Err, OnErr}
use Rattle.std.specs.List.{AllByRecursion}
use Rattle.std.proofs.Math.Seq.{map-set_same}
use Rattle.std.proofs.lemmas.List.{get_or-map, length-map, map-set, set-get_or}
use mathlib.Core.List.{IsPrefix}
use Rattle.ulfm_model.specs.declared.{call.Call.{Call}, event.Caller.TheVariants.{Outside, Rank}, refusal.Refusal.{Refusal}, reply.Reply.{Reply}}
use Rattle.ulfm_model.specs.declared.reply.Reply.TheVariants.{Refused}
use Rattle.ulfm_model.specs.declared.call.Call.TheVariants.{Fail}
use Rattle.ulfm_model.specs.declared.refusal.Refusal.TheVariants.{NoSuchRank, OutOfMemory}
use Rattle.ulfm_model.specs.{Answers.{traits_of}, Records.{Fits, Record, new_record}, Runs.{IsFailRun, IsRankStep, IsStep, State}}
use Rattle.ulfm_model.proofs.{LeftRuns.{call_legal, call_number, fail_fits, fail_legal, span_begins}, Lists.{each_from}, Stable.{fits_stays}}
use Rattle.ulfm_words.specs.Steps.{IsView, Over, Sight, view_at}
use Rattle.ulfm_comm.specs.{Calls.{Calls, EndsBy, RunsOut, is_out_of_memory}, Counts.{Ranked, records_of}, Fails.{Fails}}
use Rattle.ulfm_comm.proofs.{CallRuns.{IsAloneCall, called_alone, called_run}, Wings.{wings_stay}}
use Rattle.ulfm_comm.specs.Wings.{WingsSettled}
use Rattle.ulfm_words.proofs.Tried.{tries_none}
use Rattle.ulfm_comm.proofs.Resting.{rests_on_none}
use Rattle.ulfm_comm.proofs.InOrder.{count_is, each_set, number_at, rank_changed, rank_found, rank_missing}
use Rattle.ulfm_comm.specs.Local.{local}
use Rattle.ulfm_run.specs.Jobs.{crew, IsJob, StepsBy, state_seen}

-- what holds anyway holds of an error
pub at_error : {X E : Type 0} {Q : Type 0} (result : Result X E) → Q → OnErr result Q
at_error (Ok x) is = tt
at_error (Err fault) is = is

module _ {P : Type 0} (meld : P → P → P) (alone : Bool) (name : Over P) (before : Sight P) (ranks : List Record) (job : IsJob meld alone (view_at name before) ranks) where
  -- the record of a rank has changed
  job_after : (i : ℕ) (d new : Record) (after : Sight P) → IsView meld (view_at name after) → Fits meld name.limits after.seen new → new.number ≡ (get_or ranks i d).number
      → IsPrefix before.seen after.seen → (IsTrue alone → WingsSettled (view_at name after)) → IsJob meld alone (view_at name after) (set ranks i new)
  job_after i d new after of fits number begins wings =
      let still = each_from (Fits meld name.limits before.seen) (Fits meld name.limits after.seen)
      (λ x was. fits_stays meld name.limits before.seen after.seen x begins of.legal was) ranks job.sound.fits in
      record {
        of = of;
        sound = record {
          legal = of.legal;
          numbers = map-set_same (λ (x : Record). x.number) ranks i new d number ∙ job.sound.numbers;
          fits = each_set (Fits meld name.limits after.seen) ranks i new still fits;
        };
        wings = wings;
      }

  module _ (i : ℕ) (d : Record) (below : i < length ranks) (new : Record) (after : Sight P) where
    -- where nobody else steps, its call is one step
    step_of : (asked : Call P) (reply : Reply P) → IsAloneCall meld name.limits before.seen after.seen (get_or ranks i d) asked reply new
        → IsRankStep meld (state_seen (view_at name before) ranks) i (Some (get_or ranks i d)) asked reply (state_seen (view_at name after) (set ranks i new))
    step_of asked reply (inl (refused, same, reply_is, kept)) =
        let with_both : _ → List Record → State P = λ h rs. record { limits = name.limits; history = h; records = rs } in
        inl (refused, reply_is, ap₂ with_both same (ap (set ranks i) kept ∙ set-get_or ranks i d))
    step_of asked reply (inr run) =
        let with_records : List Record → State P = λ rs. record { limits = name.limits; history = after.seen; records = rs } in
        inr (after.seen, new, run, ap with_records (rank_changed name.limits.ranks ranks job.sound.numbers i d new below))

    -- a call of a rank
    pub calls_step : (asks : ℕ → Call P) (reply : Reply P) → (traits_of (asks i)).by ≡ Rank i
        → Calls meld alone (asks (get_or ranks i d).number) (local (get_or ranks i d) (view_at name before)) reply (local new (view_at name after))
        → StepsBy meld alone (asks i) (crew (view_at name before) ranks) reply (crew (view_at name after) (set ranks i new))
    calls_step asks reply by made =
        let asked = asks i in
        let calls = subst (λ r. Calls meld alone (asks r) (local (get_or ranks i d) (view_at name before)) reply (local new (view_at name after)))
        (number_at name.limits.ranks ranks job.sound.numbers i d below) made in
        let run = called_run meld alone name asked (get_or ranks i d) before reply new after calls in
        let begins = (call_legal meld name.limits alone before.seen after.seen (get_or ranks i d) asked reply new job.sound.legal run).0 in
        record {
          job = job_after i d new after calls.linearizes.of calls.linearizes.fits (call_number meld name.limits alone before.seen after.seen (get_or ranks i d) asked reply new run)
              begins (λ here. calls.blocks.wings here (job.wings here));
          begins = begins;
          step = λ here.
              subst (λ caller. IsStep meld (state_seen (view_at name before) ranks) caller asked reply (state_seen (view_at name after) (set ranks i new))) (sym by)
              (subst (λ own. IsRankStep meld (state_seen (view_at name before) ranks) i own asked reply (state_seen (view_at name after) (set ranks i new)))
              (sym (rank_found name.limits.ranks ranks job.sound.numbers i d below))
              (step_of asked reply (called_alone meld alone name asked (get_or ranks i d) before reply new after calls
              (rests_on_none meld alone name asked (get_or ranks i d) before reply new after here calls (job.wings here)) here)));
        }

    -- a call that ran out of memory
    pub out_begins : (asked : Call P) → RunsOut meld alone asked (local (get_or ranks i d) (view_at name before)) (local new (view_at name after)) → IsPrefix before.seen after.seen
    out_begins asked out = span_begins meld name.limits alone before.seen after.seen (Rank (get_or ranks i d).number) out.ran_out.run_out.span

    pub out_job : (asked : Call P) → RunsOut meld alone asked (local (get_or ranks i d) (view_at name before)) (local new (view_at name after)) → IsJob meld alone (view_at name after) (set ranks i new)
    out_job asked out = job_after i d new after out.ran_out.of out.ran_out.fits (ap (λ (w : Record). w.number) out.ran_out.run_out.record_is) (out_begins asked out)
        (λ here. out.blocks.wings here (job.wings here))

    -- a call that is refused for any other reason
    pub refused_step : (asks : ℕ → Call P) (refusal : Refusal) → (traits_of (asks i)).by ≡ Rank i → (refusal ≡ OutOfMemory → ⊥)
        → EndsBy meld alone (asks (get_or ranks i d).number) (local (get_or ranks i d) (view_at name before)) refusal (is_out_of_memory refusal) (local new (view_at name after))
        → StepsBy meld alone (asks i) (crew (view_at name before) ranks) (Refused refusal) (crew (view_at name after) (set ranks i new))
    refused_step asks OutOfMemory by other ends = absurd (other refl)
    refused_step asks refusal by other ends = calls_step asks (Refused refusal) by ends

  -- a call of a rank that the world doesn't have
  pub missing_step : (asked : Call P) (i : ℕ) → (traits_of asked).by ≡ Rank i → length ranks ≤ i
      → StepsBy meld alone asked (crew (view_at name before) ranks) (Refused NoSuchRank) (crew (view_at name before) ranks)
  missing_step asked i by above =
      let count = count_is name.limits.ranks ranks job.sound.numbers in
      record {
        job = job;
        begins = ([], append-nil before.seen);
        step = λ here.
            subst (λ caller. IsStep meld (state_seen (view_at name before) ranks) caller asked (Refused NoSuchRank) (state_seen (view_at name before) ranks)) (sym by)
            (subst (λ own. IsRankStep meld (state_seen (view_at name before) ranks) i own asked (Refused NoSuchRank) (state_seen (view_at name before) ranks))
            (sym (rank_missing name.limits.ranks ranks job.sound.numbers i (new_record name.limits 0) (omega (arith, above, count)))) (refl, refl));
      }

  -- a declaration
  pub fails_step : (rank : ℕ) (reply : Reply P) (after : Sight P) → Fails meld alone rank (view_at name before) reply (view_at name after)
      → StepsBy meld alone (Fail rank) (crew (view_at name before) ranks) reply (crew (view_at name after) ranks)
  fails_step rank reply after fails =
      record {
        job = record {
          of = fails.of;
          sound = record {
            legal = fails.of.legal;
            numbers = job.sound.numbers;
            fits = each_from (Fits meld name.limits before.seen) (Fits meld name.limits after.seen)
                (λ x was. fail_fits meld name.limits alone before.seen after.seen x rank reply fails.run was) ranks job.sound.fits;
          };
          wings = λ here. wings_stay (view_at name before) (view_at name after) (fail_legal meld name.limits alone before.seen after.seen rank reply fails.run).0 (λ s. ⊥) (λ c k r never. never)
              (tries_none before.caches after.caches fails.caches) (job.wings here);
        };
        begins = (fail_legal meld name.limits alone before.seen after.seen rank reply fails.run).0;
        step = λ here. by_alone alone here fails.run fails.at_end;
      }
    where
      by_alone : (b : Bool) → IsTrue b → (run : IsFailRun meld name.limits b before.seen after.seen rank reply) → run.span.point ≡ after.seen
          → IsStep meld (state_seen (view_at name before) ranks) Outside (Fail rank) reply (state_seen (view_at name after) ranks)
      by_alone true here run at_end = (rank, refl, after.seen, run, at_end, refl)
      by_alone false here run at_end = absurd (cc here)

-- what holds of each record holds of that of a rank
holds_at : (Q : Record → Type 0) (ranks : List Ranked) (i : ℕ) (d : Ranked) → AllByRecursion Q (records_of ranks) → i < length ranks → Q (get_or ranks i d).own
holds_at Q [] i d all below = absurd (omega (arith, below))
holds_at Q (r ∷ ranks) zero d all below = all.0
holds_at Q (r ∷ ranks) (suc i) d all below = holds_at Q ranks i d all.1 (omega (arith, below))

-- The same of ranks, each with its record and how many steps its last call made.
module _ {P : Type 0} (meld : P → P → P) (alone : Bool) (name : Over P) (before : Sight P) (ranks : List Ranked) (job : IsJob meld alone (view_at name before) (records_of ranks))
  where
    -- there are as many records
    same_count : length (records_of ranks) ≡ length ranks
    same_count = length-map ranks (λ (r : Ranked). r.own)

    -- a call of a rank that the world doesn't have
    pub ranked_missing : (asked : Call P) (i : ℕ) → (traits_of asked).by ≡ Rank i → length ranks ≤ i
        → StepsBy meld alone asked (crew (view_at name before) (records_of ranks)) (Refused NoSuchRank) (crew (view_at name before) (records_of ranks))
    ranked_missing asked i by above = missing_step meld alone name before (records_of ranks) job asked i by (omega (arith, above, same_count))

    module _ (i : ℕ) (d : Ranked) (below : i < length ranks) where
      -- the record of the rank that stands there
      pub ranked_own : get_or (records_of ranks) i d.own ≡ (get_or ranks i d).own
      ranked_own = get_or-map (λ (r : Ranked). r.own) ranks i d d.own below

      pub ranked_below : i < length (records_of ranks)
      ranked_below = omega (arith, below, same_count)

      -- it fits what was seen
      pub ranked_fits : Fits meld name.limits before.seen (get_or ranks i d).own
      ranked_fits = holds_at (Fits meld name.limits before.seen) ranks i d job.sound.fits below

      -- it has the number of its place
      pub ranked_number : (get_or ranks i d).own.number ≡ i
      ranked_number = ap (λ (w : Record). w.number) (sym ranked_own) ∙ number_at name.limits.ranks (records_of ranks) job.sound.numbers i d.own ranked_below

      module _ (new : Ranked) (after : Sight P) where
        ranked_set : set (records_of ranks) i new.own ≡ records_of (set ranks i new)
        ranked_set = sym (map-set (λ (r : Ranked). r.own) ranks i new)

        -- a call of it
        pub ranked_step : (asks : ℕ → Call P) (reply : Reply P) → (traits_of (asks i)).by ≡ Rank i
            → Calls meld alone (asks (get_or ranks i d).own.number) (local (get_or ranks i d).own (view_at name before)) reply (local new.own (view_at name after))
            → StepsBy meld alone (asks i) (crew (view_at name before) (records_of ranks)) reply (crew (view_at name after) (records_of (set ranks i new)))
        ranked_step asks reply by made =
            subst (λ rs. StepsBy meld alone (asks i) (crew (view_at name before) (records_of ranks)) reply (crew (view_at name after) rs)) ranked_set
            (calls_step meld alone name before (records_of ranks) job i d.own ranked_below new.own after asks reply by
            (subst (λ (own : Record). Calls meld alone (asks own.number) (local own (view_at name before)) reply (local new.own (view_at name after))) (sym ranked_own) made))

        -- a call of it that ran out of memory
        pub ranked_begins : (asked : Call P) → RunsOut meld alone asked (local (get_or ranks i d).own (view_at name before)) (local new.own (view_at name after)) → IsPrefix before.seen after.seen
        ranked_begins asked out =
            out_begins meld alone name before (records_of ranks) job i d.own ranked_below new.own after asked
            (subst (λ (own : Record). RunsOut meld alone asked (local own (view_at name before)) (local new.own (view_at name after))) (sym ranked_own) out)

        pub ranked_job : (asked : Call P) → RunsOut meld alone asked (local (get_or ranks i d).own (view_at name before)) (local new.own (view_at name after))
            → IsJob meld alone (view_at name after) (records_of (set ranks i new))
        ranked_job asked out =
            subst (IsJob meld alone (view_at name after)) ranked_set
            (out_job meld alone name before (records_of ranks) job i d.own ranked_below new.own after asked
            (subst (λ (own : Record). RunsOut meld alone asked (local own (view_at name before)) (local new.own (view_at name after))) (sym ranked_own) out))

        -- a call of it that is refused for any other reason
        pub ranked_refused : (asks : ℕ → Call P) (refusal : Refusal) → (traits_of (asks i)).by ≡ Rank i → (refusal ≡ OutOfMemory → ⊥)
            → EndsBy meld alone (asks (get_or ranks i d).own.number) (local (get_or ranks i d).own (view_at name before)) refusal (is_out_of_memory refusal) (local new.own (view_at name after))
            → StepsBy meld alone (asks i) (crew (view_at name before) (records_of ranks)) (Refused refusal) (crew (view_at name after) (records_of (set ranks i new)))
        ranked_refused asks refusal by other ends =
            subst (λ rs. StepsBy meld alone (asks i) (crew (view_at name before) (records_of ranks)) (Refused refusal) (crew (view_at name after) rs)) ranked_set
            (refused_step meld alone name before (records_of ranks) job i d.own ranked_below new.own after asks refusal by other
            (subst (λ (own : Record). EndsBy meld alone (asks own.number) (local own (view_at name before)) refusal (is_out_of_memory refusal) (local new.own (view_at name after)))
            (sym ranked_own) ends))

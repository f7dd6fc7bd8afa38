-- What a call promises, by its run.
use Rattle.std.proofs.Common.{◌≡◌, ◌⊎◌, ℕ, ◌≤◌, Bool, true, false, List, [], None, refl, ap, sym, ◌∙◌, subst, append-nil, inl, inr, IsTrue}
use Rattle.ulfm_model.specs.History.{slot}
use Rattle.ulfm_model.specs.declared.{contribution.Contribution.{Contribution}, contribution.Slot.{Slot}}
use Rattle.std.proofs.Common.{Some}
use Rattle.std.proofs.Common.{Some}
use Rattle.ulfm_model.specs.Runs.{settled_by}
use Rattle.ulfm_model.specs.Records.{Held}
use Rattle.ulfm_comm.proofs.Unspread.{unspread}
use Rattle.ulfm_comm.specs.Requests.{contributes}
use Rattle.std.specs.List.{AllByRecursion}
use mathlib.Core.List.{IsPrefix}
use Rattle.ulfm_model.specs.declared.{call.Call.{Call}, event.Caller.TheVariants.{Rank}, event.Event.{Event}, limits.Limits.{Limits}}
use Rattle.ulfm_model.specs.declared.refusal.Refusal.TheVariants.{NoSuchComm, ProcFailed, SelfFailed, Twice}
use Rattle.ulfm_model.specs.declared.{reply.Reply.{Reply}, reply.Reply.TheVariants.{FailedGroup, Pending, Refused}}
use Rattle.ulfm_model.specs.{Answers.{MayOwn, Sees, polled_by, refusal_of}, History.{History, IsLegal, entries_by, failures, has, spawns}}
use Rattle.ulfm_model.specs.{Records.{Fits, Record, held_at, is_shrink}, Runs.{Did, IsAloneRun, IsCall, IsRun}}
use Rattle.ulfm_model.specs.Terms.{comm_of}
use Rattle.ulfm_model.specs.Records.{moment}
use Rattle.ulfm_model.proofs.{LeftFits.{fits_seen}, LeftRuns.{call_fits}, Lists.{prefix_trans}, Stable.{fits_stays}}
use Rattle.ulfm_words.specs.Steps.{IsView, Over, Sight, view_at}
use Rattle.ulfm_words.proofs.Trails.{did_none, did_prefix, did_quiet, did_wait}
use Rattle.ulfm_comm.specs.{Calls.{Calls, FindsTwice, IsRunOut, RanOut, Linearizes}, Ends.{IsEarlyRun, IsEndRun, IsRefusedAgain}, Look.{Looked}}
use Rattle.ulfm_comm.proofs.ReplyKinds.{counted_seen}
use Rattle.ulfm_comm.proofs.WholeCall.{refused_missing, sees_later, self_failed, span_ends}
use Rattle.ulfm_comm.specs.Local.{local}

-- a call of a rank where nobody else steps: one that was refused for good before is refused again, without a step
abbrev pub IsAloneCall : {P : Type 0} → (P → P → P) → Limits → History P → History P → Record → Call P → Reply P → Record → Type 0
IsAloneCall meld limits before after old asked reply new =
    (IsTrue old.refused × (after ≡ before) × (reply ≡ Refused SelfFailed) × (new ≡ old)) ⊎ IsAloneRun meld limits (moment old before) asked reply (moment new after)

module _ {P : Type 0} (meld : P → P → P) (limits : Limits) (alone : Bool) (before after : History P) (old : Record) (asked : Call P) (reply : Reply P)
    (new : Record) where
  -- a run of which the caller saw the end, and then others' events
  pub run_early : IsLegal meld limits after → IsEarlyRun meld limits alone (moment old before) asked reply (moment new after)
      → IsRun meld limits alone (moment old before) asked reply (moment new after)
  run_early legal early =
      let ended = early.run in
      let span = ended.run.span in
      record {
        in_use = ended.run.in_use;
        span = record {
          look = span.look;
          point = span.point;
          own = span.own;
          looked = span.looked;
          did = did_wait alone (entries_by (Rank old.number) span.own) span.look early.found after span.did early.waited;
          point_begins = span.point_begins;
          point_ends = prefix_trans span.point early.found after span.point_ends (did_prefix alone [] early.found after early.waited);
          legal = legal;
          spread = span.spread;
        };
        answer = record {
          own = ended.run.answer.own;
          replies = ended.run.answer.replies;
          leaves = record {
            seen = sees_later (is_shrink (polled_by old asked)) (failures span.look) early.found after new.seen
                (did_prefix alone [] early.found after early.waited) ended.run.answer.leaves.seen;
            record_is = ended.run.answer.leaves.record_is;
          };
        };
      }

  -- a reply that rests on no wing: one that is `twice` to the start of an agreement finds a contribution
  abbrev pub RestsOnNone : Type 0
  RestsOnNone = reply ≡ Refused Twice → contributes asked ≡ true → (x : Held) → held_at old (comm_of asked) ≡ Some x
      → (given : Contribution P) × (slot after x.comm x.next_agreement old.number ≡ Some (Slot.Given given))

  -- where nobody else steps, a run whose reply rests on no wing is one of the sequential object
  pub alone_of : RestsOnNone → IsEndRun meld limits alone (moment old before) asked reply (moment new after) → IsTrue alone → IsAloneCall meld limits before after old asked reply new
  alone_of rests ended here = inr (by_alone alone here ended)
    where
      by_alone : (b : Bool) → IsTrue b → IsEndRun meld limits b (moment old before) asked reply (moment new after) → IsAloneRun meld limits (moment old before) asked reply (moment new after)
      by_alone true here ended =
          let u = unspread meld limits true before after old asked reply new ended rests in
          record {
            run = u.0;
            at_end = u.2 ∙ ended.at_end;
            unspread = u.1;
            marks = λ polls not_declared. ap settled_by u.3 ∙ ended.marks refl polls not_declared;
          }
      by_alone false here ended = absurd (cc here)

-- what a call is, by its end
module _ {P : Type 0} (meld : P → P → P) (alone : Bool) (name : Over P) (asked : Call P) (old : Record) (before : Sight P) (reply : Reply P) (new : Record)
    (after : Sight P) (called : Calls meld alone asked (local old (view_at name before)) reply (local new (view_at name after))) where
  -- it is one of the sequential object, among the steps of others
  pub called_run : IsCall meld name.limits alone (moment old before.seen) asked reply (moment new after.seen)
  called_run = by_end called.linearizes.ends
    where
      by_end : (IsRefusedAgain old reply new × (after ≡ before)) ⊎ (IsEndRun meld name.limits alone (moment old before.seen) asked reply (moment new after.seen) ⊎ IsEarlyRun meld name.limits alone (moment old before.seen) asked reply (moment new after.seen))
          → IsCall meld name.limits alone (moment old before.seen) asked reply (moment new after.seen)
      by_end (inl (again, same)) = inl (again.refused, ap (λ (w : Sight P). w.seen) same, again.reply_is, again.record_is)
      by_end (inr (inl ended)) = inr ended.run
      by_end (inr (inr early)) = inr (run_early meld name.limits alone before.seen after.seen old asked reply new called.linearizes.of.legal early)

  -- a barrier's rests on none
  early_rests : (early : IsEarlyRun meld name.limits alone (moment old before.seen) asked reply (moment new after.seen)) → RestsOnNone meld name.limits alone before.seen early.found old asked reply new
  early_rests early = by_missing early.missing
    where
      by_missing : (reply ≡ Pending) ⊎ (reply ≡ Refused ProcFailed) → RestsOnNone meld name.limits alone before.seen early.found old asked reply new
      by_missing (inl waits) = λ is. absurd (cc (waits, is))
      by_missing (inr failed) = λ is. absurd (cc (failed, is))

  -- where nobody else steps, it is one of the sequential object alone, if its reply rests on no wing
  pub called_alone : RestsOnNone meld name.limits alone before.seen after.seen old asked reply new → IsTrue alone → IsAloneCall meld name.limits before.seen after.seen old asked reply new
  called_alone rests here = by_end called.linearizes.ends
    where
      by_end : (IsRefusedAgain old reply new × (after ≡ before)) ⊎ (IsEndRun meld name.limits alone (moment old before.seen) asked reply (moment new after.seen) ⊎ IsEarlyRun meld name.limits alone (moment old before.seen) asked reply (moment new after.seen))
          → IsAloneCall meld name.limits before.seen after.seen old asked reply new
      by_end (inl (again, same)) = inl (again.refused, ap (λ (w : Sight P). w.seen) same, again.reply_is, again.record_is)
      by_end (inr (inl ended)) = alone_of meld name.limits alone before.seen after.seen old asked reply new rests ended here
      by_end (inr (inr early)) =
          subst (λ h. IsAloneCall meld name.limits before.seen h old asked reply new) (sym (did_quiet alone early.found after.seen early.waited here))
          (alone_of meld name.limits alone before.seen early.found old asked reply new (early_rests early) early.run here)

  -- one that counted failures has seen all that are declared at its end
  pub called_counts : (count : ℕ) → reply ≡ FailedGroup count → new.seen ≡ failures after.seen
  called_counts count is = by_end called.linearizes.ends
    where
      by_end : (IsRefusedAgain old reply new × (after ≡ before)) ⊎ (IsEndRun meld name.limits alone (moment old before.seen) asked reply (moment new after.seen) ⊎ IsEarlyRun meld name.limits alone (moment old before.seen) asked reply (moment new after.seen))
          → new.seen ≡ failures after.seen
      by_end (inl (again, same)) = let other = again.reply_is in absurd (cc (other, is))
      by_end (inr (inl ended)) = counted_seen meld name.limits alone before.seen after.seen old asked reply new ended.run count is ∙ ap failures ended.at_end
      by_end (inr (inr early)) = absurd (not_early early.missing)
        where
          not_early : (reply ≡ Pending) ⊎ (reply ≡ Refused ProcFailed) → ⊥
          not_early (inl waits) = cc (waits, is)
          not_early (inr failed) = cc (failed, is)

module _ {P : Type 0} (meld : P → P → P) (alone : Bool) (name : Over P) (before after : Sight P) (onward : before.steps ≤ after.steps) where
  linear : (asked : Call P) (old : Record) (reply : Reply P) (new : Record) → IsView meld (view_at name after) → Fits meld name.limits before.seen old
      → (reply ≡ Refused Twice → FindsTwice asked old (view_at name after)) → IsRun meld name.limits alone (moment old before.seen) asked reply (moment new after.seen)
      → IsEndRun meld name.limits alone (moment old before.seen) asked reply (moment new after.seen)
      ⊎ IsEarlyRun meld name.limits alone (moment old before.seen) asked reply (moment new after.seen)
      → Linearizes meld alone asked (local old (view_at name before)) reply (local new (view_at name after))
  linear asked old reply new of fits twice run ends =
      record {
        of = of;
        onward = onward;
        fits = call_fits meld name.limits alone before.seen after.seen old asked reply new fits (inr run);
        twice = twice;
        ends = inr ends;
      }

  -- a call with its point at its end
  pub calls_is : (asked : Call P) (old : Record) (reply : Reply P) (new : Record) → IsView meld (view_at name after) → Fits meld name.limits before.seen old
      → (reply ≡ Refused Twice → FindsTwice asked old (view_at name after))
      → IsEndRun meld name.limits alone (moment old before.seen) asked reply (moment new after.seen) → Linearizes meld alone asked (local old (view_at name before)) reply (local new (view_at name after))
  calls_is asked old reply new of fits twice ended = linear asked old reply new of fits twice ended.run (inl ended)

  -- the poll of a barrier, with its point where somebody was found missing
  pub calls_early : (asked : Call P) (old : Record) (reply : Reply P) (new : Record) → IsView meld (view_at name after) → Fits meld name.limits before.seen old
      → (reply ≡ Refused Twice → FindsTwice asked old (view_at name after))
      → IsEarlyRun meld name.limits alone (moment old before.seen) asked reply (moment new after.seen) → Linearizes meld alone asked (local old (view_at name before)) reply (local new (view_at name after))
  calls_early asked old reply new of fits twice early =
      linear asked old reply new of fits twice (run_early meld name.limits alone before.seen after.seen old asked reply new of.legal early) (inr early)

  -- a rank that its look finds declared
  pub calls_declared : (asked : Call P) (old new : Record) → IsView meld (view_at name after) → Fits meld name.limits before.seen old → old.refused ≡ false
      → Did alone [] before.seen after.seen
      → IsTrue (has (failures after.seen) old.number) → new ≡ record old { seen = failures after.seen; refused = true }
      → Linearizes meld alone asked (local old (view_at name before)) (Refused SelfFailed) (local new (view_at name after))
  calls_declared asked old new of fits in_use did declared is =
      calls_is asked old (Refused SelfFailed) new of fits (λ is no. absurd (cc (is, no))) (self_failed meld name.limits alone before.seen after.seen old after.seen asked new in_use did
      (did_none alone after.seen) of.legal declared is)

  -- a rank that goes on after its look
  pub looked_fits : (old mid : Record) → IsView meld (view_at name after) → Fits meld name.limits before.seen old → Looked alone before.seen after.seen old mid
      → Fits meld name.limits after.seen mid
  looked_fits old mid of fits looked =
      let still = fits_stays meld name.limits before.seen after.seen old (did_prefix alone [] before.seen after.seen looked.did) of.legal fits in
      subst (Fits meld name.limits after.seen) (sym looked.record_is) (fits_seen meld name.limits after.seen old (failures after.seen) still
      ([], append-nil (failures after.seen)))

  -- a call on a communicator that the rank doesn't hold
  pub calls_missing : (asked : Call P) (old mid : Record) → IsView meld (view_at name after) → Fits meld name.limits before.seen old
      → Looked alone before.seen after.seen old mid → held_at mid (comm_of asked) ≡ None
      → Linearizes meld alone asked (local old (view_at name before)) (Refused NoSuchComm) (local mid (view_at name after))
  calls_missing asked old mid of fits looked missing =
      calls_is asked old (Refused NoSuchComm) mid of fits (λ is no. absurd (cc (is, no))) (refused_missing meld name.limits alone before.seen after.seen old mid looked asked mid of.legal
      missing refl)

  -- a call that ran out of memory, of a rank that has then seen so much
  pub runs_out_after : (asked : Call P) (old new : Record) → IsView meld (view_at name after) → Fits meld name.limits before.seen old
      → IsPrefix new.seen (failures after.seen) → IsRunOut meld name.limits alone (moment old before.seen) asked (moment new after.seen)
      → RanOut meld alone asked (local old (view_at name before)) (local new (view_at name after))
  runs_out_after asked old new of fits begins run_out =
      let whole = prefix_trans before.seen run_out.span.point after.seen run_out.span.point_begins run_out.span.point_ends in
      let still = fits_stays meld name.limits before.seen after.seen old whole of.legal fits in
      record {
        of = of;
        onward = onward;
        fits = subst (Fits meld name.limits after.seen) (sym run_out.record_is) (fits_seen meld name.limits after.seen old new.seen still begins);
        run_out = run_out;
      }

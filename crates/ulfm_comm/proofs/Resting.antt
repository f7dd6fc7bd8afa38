-- Where nobody else steps, no start is answered `twice` for its wing alone.
use Rattle.std.proofs.Common.{◌≡◌, ◌⊎◌, inl, inr, ◌++◌, Bool, true, false, Some, ap, sym, ◌∙◌, subst, IsTrue}
use Rattle.ulfm_model.specs.declared.{call.Call.{Call}, contribution.Contribution.{Contribution}, contribution.Slot.TheVariants.{Given, Mark as Marked}, event.Caller.TheVariants.{Rank}}
use Rattle.ulfm_model.specs.declared.{refusal.Refusal.TheVariants.{ProcFailed, Twice}, reply.Reply.{Reply}, reply.Reply.TheVariants.{Pending, Refused}}
use Rattle.ulfm_model.specs.{Answers.{IsReply, IsSelfFailed}, History.{IsLegal, entries_by, failures, has, slot}, Records.{Held, Record, held_at, moment}, Runs.{IsRun, IsSpan, rests_on}, Terms.{comm_of}}
use Rattle.ulfm_model.proofs.{OnlyRuns.{failures_same}, StepsStarts.{not_marked}}
use Rattle.ulfm_words.specs.Steps.{Over, Sight, view_at}
use Rattle.ulfm_comm.specs.{Calls.{Calls}, Ends.{IsEarlyRun, IsEndRun, IsRefusedAgain}, Local.{local}, Requests.{contributes}, Wings.{IsPlaceSet, WingsSettled}}
use Rattle.ulfm_steps.specs.Settles.{WingStands}
use Rattle.ulfm_comm.proofs.CallRuns.{RestsOnNone}

module _ {P : Type 0} (meld : P → P → P) (alone : Bool) (name : Over P) (asked : Call P) (old : Record) (before : Sight P) (reply : Reply P) (new : Record) (after : Sight P) (here : IsTrue alone)
    (calls : Calls meld alone asked (local old (view_at name before)) reply (local new (view_at name after))) (is : reply ≡ Refused Twice) where
  legal : IsLegal meld name.limits after.seen
  legal = calls.linearizes.of.legal

  -- the rank isn't declared
  by_run : IsRun meld name.limits alone (moment old before.seen) asked reply (moment new after.seen) → has (failures after.seen) old.number ≡ false
  by_run run = by_reply run.answer.replies
    where
      span : IsSpan meld name.limits alone before.seen after.seen (Rank old.number)
      span = run.span

      all : span.look ++ entries_by (Rank old.number) span.own ≡ after.seen
      all = ap (λ more. span.look ++ more) (sym (span.did.quiet here)) ∙ span.did.goes_on

      same : failures after.seen ≡ failures span.look
      same = ap failures (sym all) ∙ failures_same meld name.limits span.look old span.own (subst (IsLegal meld name.limits) (sym all) legal) asked reply run.answer.own

      by_reply : IsSelfFailed (rests_on span) old asked reply ⊎ IsReply meld name.limits (rests_on span) old asked reply → has (failures after.seen) old.number ≡ false
      by_reply (inl failed) = let other = failed.reply_is in absurd (cc (other, is))
      by_reply (inr replied) = ap (λ fs. has fs old.number) same ∙ replied.not_declared

  alive : has (failures after.seen) old.number ≡ false
  alive = by_end calls.linearizes.ends
    where
      early : (reply ≡ Pending) ⊎ (reply ≡ Refused ProcFailed) → ⊥
      early (inl waits) = cc (waits, is)
      early (inr failed) = cc (failed, is)

      by_end : (IsRefusedAgain old reply new × (after ≡ before)) ⊎ (IsEndRun meld name.limits alone (moment old before.seen) asked reply (moment new after.seen) ⊎ IsEarlyRun meld name.limits alone (moment old before.seen) asked reply (moment new after.seen))
          → has (failures after.seen) old.number ≡ false
      by_end (inl (again, same)) = let other = again.reply_is in absurd (cc (other, is))
      by_end (inr (inl ended)) = by_run ended.run
      by_end (inr (inr found)) = absurd (early found.missing)

  -- where its wing was tried before, its place is set, and by a contribution
  twice_given : WingsSettled (view_at name before) → contributes asked ≡ true → (x : Held) → held_at old (comm_of asked) ≡ Some x → (given : Contribution P) × (slot after.seen x.comm x.next_agreement old.number ≡ Some (Given given))
  twice_given wings starts x held = by (calls.linearizes.twice is starts x held)
    where
      of : IsPlaceSet (view_at name after) x.comm x.next_agreement old.number → (given : Contribution P) × (slot after.seen x.comm x.next_agreement old.number ≡ Some (Given given))
      of (Given given, stands) = (given, stands)
      of (Marked mark, stands) = absurd (not_marked meld name.limits after.seen legal old alive x.comm x.next_agreement mark stands)

      by : ((given : Contribution P) × (slot after.seen x.comm x.next_agreement old.number ≡ Some (Given given))) ⊎ WingStands (view_at name after) x.comm x.next_agreement old.number
          → (given : Contribution P) × (slot after.seen x.comm x.next_agreement old.number ≡ Some (Given given))
      by (inl given) = given
      by (inr wing) = of (calls.blocks.wings here wings x.comm x.next_agreement old.number wing.2)

-- a call where nobody else steps rests on no wing
pub rests_on_none : {P : Type 0} (meld : P → P → P) (alone : Bool) (name : Over P) (asked : Call P) (old : Record) (before : Sight P) (reply : Reply P) (new : Record) (after : Sight P) → IsTrue alone
    → Calls meld alone asked (local old (view_at name before)) reply (local new (view_at name after)) → WingsSettled (view_at name before) → RestsOnNone meld name.limits alone before.seen after.seen old asked reply new
rests_on_none meld alone name asked old before reply new after here calls wings = λ is starts x held. twice_given meld alone name asked old before reply new after here calls is wings starts x held

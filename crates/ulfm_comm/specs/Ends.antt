-- How a call of a rank ends.
use Rattle.std.specs.Prelude.{◌≡◌, ◌⊎◌, ℕ, Bool, true, [], Some, IsTrue, IsFalse}
use Rattle.ulfm_model.specs.declared.call.Request.TheVariants.{Barrier}
use Rattle.ulfm_model.specs.declared.{call.Call.{Call}, limits.Limits.{Limits}, refusal.Refusal.TheVariants.{ProcFailed, SelfFailed, Twice}}
use Rattle.ulfm_model.specs.declared.{reply.Reply.{Reply}, reply.Reply.TheVariants.{Pending, Refused}}
use Rattle.ulfm_model.specs.{Answers.{polled_by, traits_of}, History.{History, failures, has}, Records.{Moment, Record, moment}}
use Rattle.ulfm_model.specs.Runs.{Did, IsRun, unsettled_of}
use Rattle.ulfm_model.specs.Terms.{comm_of, settled_by}
use Rattle.ulfm_comm.specs.Requests.{contributes}

-- a rank that was refused for good before (it was found to be declared failed) is refused again, and its record is as it was
pub record IsRefusedAgain {P : Type 0} (old : Record) (reply : Reply P) (new : Record) : Type 0 where
  pub refused : IsTrue old.refused
  pub reply_is : reply ≡ Refused SelfFailed
  pub record_is : new ≡ old

-- A run, that is a call with a linearization point, which has this point at its end. Only the start of an agreement that is answered `twice` rests
-- on a wing. Where nobody else steps, the poll of a rank that isn't
-- declared has marked (left out of the round) each declared member that was unsettled, with neither contribution nor mark.
pub record IsEndRun {P : Type 0} (meld : P → P → P) (limits : Limits) (alone : Bool) (start : Moment P) (asked : Call P) (reply : Reply P) (end : Moment P)
    : Type 0 where
  pub run : IsRun meld limits alone start asked reply end
  pub at_end : run.span.point ≡ end.seen
  pub rests : IsTrue run.span.spread → (contributes asked ≡ true) × (reply ≡ Refused Twice)
  pub marks : IsTrue alone → IsTrue (traits_of asked).polls → IsFalse (has (failures start.seen) start.own.number)
      → settled_by run.span.own ≡ unsettled_of limits.ranks start.seen (comm_of asked) (polled_by start.own asked)

-- The poll of a barrier that found somebody missing: it is a run whose point is the moment when that was found, before its last load. After that
-- moment only others' events came.
pub record IsEarlyRun {P : Type 0} (meld : P → P → P) (limits : Limits) (alone : Bool) (start : Moment P) (asked : Call P) (reply : Reply P) (end : Moment P)
    : Type 0 where
  pub found : History P
  pub run : IsEndRun meld limits alone start asked reply (moment end.own found)
  pub waited : Did alone [] found end.seen
  pub round : ℕ
  pub open_is : polled_by start.own asked ≡ Some (Barrier round)
  pub missing : (reply ≡ Pending) ⊎ (reply ≡ Refused ProcFailed)

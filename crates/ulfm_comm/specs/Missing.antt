-- What the poll of a barrier finds at its last load of an arrival, and how it is answered after that.
use Rattle.std.specs.Prelude.{◌≡◌, Bool, IsTrue, ⊤}
use Rattle.ulfm_model.specs.declared.call.Call.TheVariants as call
use Rattle.ulfm_model.specs.declared.reply.Reply.{Reply}
use Rattle.ulfm_model.specs.{History.{History}, Records.{Fits, Record, moment}, Terms.{comm_of}}
use Rattle.ulfm_words.specs.Steps.{Sight, view_at}
use Rattle.ulfm_steps.specs.declared.arrivals.Missing.{Missing}
use Rattle.ulfm_comm.specs.Local.{Local, frame_of, local, moment_of}
use Rattle.ulfm_comm.specs.{Barrier.{AnswersEarly, IsChecking}, Phase.{Stands, UnderWay}}
use Rattle.ulfm_comm.specs.declared.{phases.phase.Next.{Next}, phases.phase.Next.TheVariants.{Goes, Ends}, phases.phase.Phase.{Phase}}
use Rattle.ulfm_comm.specs.declared.phases.phase.Phase.TheVariants.{Waiting, Checking}

-- a call between two steps: what it does, and what its rank goes by
pub record Midway (P : Type 0) : Type 0 where
  pub doing : UnderWay P
  pub rank : Local P

abbrev pub midway : {P : Type 0} → UnderWay P → Local P → Midway P
midway doing rank = record { doing = doing; rank = rank }

-- A step of a call that stood so finds who is missing: whenever the call began, it was found when this had been seen.
abbrev pub FindsMissing : {P : Type 0} → (P → P → P) → Bool → Midway P → Local P → Missing → Type 0
FindsMissing {P} meld quiet at new missing =
    (alone : Bool) → (IsTrue alone → IsTrue quiet) → (old : Record) → (before : Sight P)
    → Stands meld alone (local old (view_at at.rank.view.words before)) at.doing at.rank
    → IsChecking (frame_of meld alone at.rank) (comm_of at.doing.asked) missing new.view.pass.seen (moment old before.seen) (moment_of new)

-- so a step does that ends the reading of a barrier's arrivals; of any other nothing is said
abbrev pub FoundNow : {P : Type 0} → (Missing → Type 0) → Phase P → Next P → Type 0
FoundNow Finds (Waiting arrivals) (Goes (Checking missing)) = Finds missing
FoundNow Finds _ _ = ⊤

-- The call that stands so is a poll that began with this record, when this had been seen, and has found who is missing.
pub record HasFound {P : Type 0} (meld : P → P → P) (alone : Bool) (at : Midway P) (missing : Missing) : Type 0 where
  pub old : Record
  pub before : History P
  pub fits : Fits meld at.rank.view.words.limits before old
  pub polls : at.doing.asked ≡ call.Poll old.number (comm_of at.doing.asked)
  pub earlier : History P
  pub checking : IsChecking (frame_of meld alone at.rank) (comm_of at.doing.asked) missing earlier (moment old before) (moment_of at.rank)

-- A step answers such a call as it was answered when that was found, unless nobody was missing, or it finds a revocation.
abbrev pub AnswersMissing : {P : Type 0} → (P → P → P) → Bool → Midway P → Record → Missing → Reply P → Type 0
AnswersMissing meld quiet at new missing reply =
    (alone : Bool) → (IsTrue alone → IsTrue quiet) → (found : HasFound meld alone at missing)
    → AnswersEarly (frame_of meld alone at.rank) at.doing.asked missing (moment found.old found.before) reply (moment new found.earlier)

-- so the last step of a barrier's poll does; of any other nothing is said
abbrev pub AnsweredNow : {P : Type 0} → (Missing → Reply P → Type 0) → Phase P → Next P → Type 0
AnsweredNow Answers (Checking missing) (Ends reply) = Answers missing reply
AnsweredNow Answers _ _ = ⊤

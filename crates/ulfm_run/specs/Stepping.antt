-- What a machine of single steps knows of each rank, beside what the lines so far say.
use Rattle.std.specs.Prelude.{◌≡◌, ℕ, ◌≤◌, Bool, true, false, ⊤, List, [], ◌∷◌, ◌++◌, length, Option, Some, None, IsFalse, if◌then◌else◌}
use Rattle.ulfm_model.specs.declared.{call.Call.{Call}, event.Caller.{Caller}, event.Caller.TheVariants.{Rank}, event.Event.{Event}, reply.Reply.{Reply}}
use Rattle.ulfm_model.specs.declared.{limits.Limits.{Limits}, refusal.Refusal.TheVariants.{ProcFailed}}
use Rattle.ulfm_model.specs.declared.reply.Reply.TheVariants.{Pending, Refused}
use Rattle.ulfm_model.specs.Answers.{comm_of, refusal_of, traits_of}
use Rattle.ulfm_model.specs.{History.{History, failures, has}, Records.{Fits, Moment, Record, moment}}
use Rattle.ulfm_words.specs.Steps.{Sight, Over, view_at}
use Rattle.ulfm_comm.specs.{Barrier.{IsChecking}, Phase.{Stands, UnderWay, Waits, is_looking, is_making}}
use Rattle.ulfm_comm.specs.declared.phases.phase.{Phase.{Phase}, Phase.TheVariants.{Checking}}
use Rattle.ulfm_comm.specs.Local.{frame, local}
use Rattle.ulfm_model.specs.declared.line.Line.TheVariants.{Replied}
use Rattle.ulfm_model.specs.Traces.{Told, Traced, Under, call_by, record_in, same_caller}

-- the events of one caller, in order
abbrev pub events_by : {P : Type 0} → Caller → History P → List (Event P)
events_by by [] = []
events_by by (x ∷ xs) = if same_caller x.by by then x.event ∷ events_by by xs else events_by by xs

-- the line of a reply to a rank's call, at a point, with the group that it lists
abbrev pub reply_told : {P : Type 0} → ℕ → ℕ → List ℕ → Reply P → Told P
reply_told r point group reply = record { line = Replied (Rank r) point (Some reply); group = group }

-- What the lines so far say of rank n: the limits and the history are what a pass sees, the rank has this call under way, or none, and its
-- record was this one, but for the failures that it had seen.
pub record IsSaid {P : Type 0} (name : Over P) (now : Traced P) (pass : Sight P) (n : ℕ) (call : Option (Under P)) (old : Record) : Type 0 where
  pub limits : now.limits ≡ name.limits
  pub history : now.history ≡ pass.seen
  pub call_is : call_by now (Rank n) ≡ call
  pub seen : List ℕ
  pub record_is : record_in now n ≡ Some (record old { seen = seen })

-- A rank without a call: its record is what the lines so far say, but for the failures that it has seen, since the poll of a shrink
-- may have read on.
pub record IsIdle {P : Type 0} (meld : P → P → P) (name : Over P) (now : Traced P) (pass : Sight P) (own : Record) : Type 0 where
  pub said : IsSaid name now pass own.number None own
  pub fits : Fits meld name.limits pass.seen own

-- What the lines so far say of a rank's call that is under way, of what it asks, and of the rank's record, which was `old` when the call began.
pub record KnowsCall {P : Type 0} (name : Over P) (now : Traced P) (pass : Sight P) (own : Record) (asked : Call P) (u : Under P) (old : Record)
    : Type 0 where
  pub said : IsSaid name now pass own.number (Some u) old
  pub asked_is : u.asked ≡ asked
  pub in_use : IsFalse old.refused

-- A call of a rank that is in its look: it has told nothing yet, and may as well have begun at the present history. The rank's record
-- was `old` when it began.
pub record HasBegun {P : Type 0} (meld : P → P → P) (name : Over P) (now : Traced P) (pass : Sight P) (own : Record) (doing : UnderWay P) : Type 0 where
  pub u : Under P
  pub old : Record
  pub known : KnowsCall name now pass own doing.asked u old
  pub number : own.number ≡ old.number
  pub looking : is_looking doing.phase ≡ true
  pub stands : Stands meld false (local old (view_at name pass)) doing (local own (view_at name pass))
  pub begun : u.begun ≤ length pass.seen
  pub look : u.look ≡ None
  pub own_is : u.own ≡ []

-- the poll of a barrier that makes its last load next found who is missing when there were so many events
abbrev pub FoundAt : {P : Type 0} → (P → P → P) → Limits → ℕ → Moment P → Moment P → ℕ → Phase P → Type 0
FoundAt {P} meld limits c start now found (Checking missing) =
    (earlier : History P) × IsChecking (frame meld limits false) c missing earlier start now × (length earlier ≡ found)
FoundAt meld limits c start now found _ = ⊤

-- A call of a rank that has looked, between two steps: what the lines so far say of it, and where it stands. The history at the
-- look's end is `before.seen`; what the rank has seen of failures is what that says, but where a shrink's poll reads on; the events
-- of the rank since the look are those that the lines tell.
pub record HasCalled {P : Type 0} (meld : P → P → P) (name : Over P) (now : Traced P) (pass : Sight P) (own : Record) (found : ℕ) (doing : UnderWay P)
    : Type 0 where
  pub u : Under P
  pub old : Record
  pub known : KnowsCall name now pass own doing.asked u old
  pub before : Sight P
  pub stood : Sight P
  pub stands : Stands meld false (local old (view_at name before)) doing (local own (view_at name stood))
  pub waits : Waits false stood pass
  pub past : is_looking doing.phase ≡ false
  pub own_same : own ≡ record old { seen = own.seen }
  pub sees : is_making doing.phase ≡ false → own.seen ≡ failures before.seen
  pub begun : u.begun ≤ length before.seen
  pub look : u.look ≡ Some (length (failures before.seen))
  pub rest : History P
  pub since : before.seen ++ rest ≡ pass.seen
  pub own_is : events_by (Rank own.number) rest ≡ u.own
  pub no_own : (traits_of doing.asked).polls ≡ false → u.own ≡ []
  pub not_declared : IsFalse (has (failures before.seen) old.number)
  pub not_refused : refusal_of old doing.asked ≡ None
  pub found_at : FoundAt meld name.limits (comm_of doing.asked) (moment old before.seen) (moment own pass.seen) found doing.phase

-- a reply that the poll of a barrier gives where somebody is missing
abbrev pub is_early : {P : Type 0} → Reply P → Bool
is_early Pending = true
is_early (Refused ProcFailed) = true
is_early _ = false

-- the point of a reply: how many events there are now, or, where a barrier's poll made its last load, were when it found somebody missing
abbrev pub point_of : {P : Type 0} → ℕ → ℕ → Bool → Reply P → ℕ
point_of found present true reply = if is_early reply then found else present
point_of found present false reply = present

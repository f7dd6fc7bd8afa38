-- A rank that replays a log, and what is promised of it.
use Rattle.std.specs.Prelude.{◌≡◌, ◌≢◌, ◌⊎◌, ◌<◌, ◌+◌, ◌++◌, ◌||◌, ◌∷◌, [], ℕ, ⊤, Bool, true, false, List, Option, None, Some, Result, Ok, Err, IsTrue, is_some, length}
use mathlib.Core.List.{IsPrefix}
use Rattle.ulfm_model.specs.declared.{call.Call.{Call}, event.Caller.TheVariants.{Rank}, event.Entry.{Entry}, limits.Limits.{Limits}}
use Rattle.ulfm_model.specs.declared.{reply.Reply.{Reply}, step_name.StepName.{StepName}}
use Rattle.ulfm_model.specs.declared.step_name.StepName.TheVariants as step
use Rattle.ulfm_model.specs.{History.{History, MayFollow}, Records.{Record, new_record}}
use Rattle.ulfm_words.specs.Steps.{IsView, Name, Sight, View, view_of}
use Rattle.ulfm_comm.specs.Phase.{Answered, MayStep, Stands, UnderWay, Waits, next_step}
use Rattle.ulfm_comm.specs.{Counts.{Counted}, Local.{FitsView, local}, Proposals.{Proposes, proposes}, StepsLeft.{steps_left}, Wings.{WingsSettled}}
use Rattle.ulfm_replica.specs.{Replays.{Feeds, LogMakes}, Wire.{IsReadAs, entry_bytes}}
use Rattle.ulfm_replica.specs.declared.answers.{Fed.{Fed}, FeedFault.{FeedFault}, FeedFault.TheVariants.{Gap, Lost as IsLost}, Lost.{Lost}, Ran.{Ran}}
use Rattle.ulfm_replica.specs.declared.answers.Fed.TheVariants as fed
use Rattle.ulfm_replica.specs.declared.answers.Ran.TheVariants as ran

-- how contributions are combined, and packed into words
pub record Rules (P : Type 0) : Type 0 where
  pub meld : P → P → P
  pub pack : P → ℕ

abbrev pub rules : {P : Type 0} → (P → P → P) → (P → ℕ) → Rules P
rules meld pack = record { meld = meld; pack = pack }

-- a rank over words of its own: their identity, its record, what it has seen, its call if one is under way, and the reply to that if it is answered
pub record Calling (P : Type 0) : Type 0 where
  pub words : Name
  pub own : Record
  pub pass : Sight P
  pub call : Option (UnderWay P)
  pub reply : Option (Reply P)

-- where a call stands that is under way, if one is
abbrev pub way_in : {P : Type 0} → Option (Counted P) → Option (UnderWay P)
way_in None = None
way_in (Some doing) = Some doing.way

-- its view of its words
abbrev pub view_in : {P : Type 0} → Rules P → Calling P → View P
view_in by r = view_of by.pack r.words r.pass

-- The call that asks this, of a rank that began it with this record when so much was seen, stands so: it is under way, and since it stood there others' events
-- alone have come; or it was answered, and since then they have.
abbrev pub SinceIn : {P : Type 0} → Rules P → Record → Sight P → Call P → Calling P → Option (UnderWay P) → Option (Reply P) → Type 0
SinceIn by began before asked r None None = ⊥
SinceIn {P} by began before asked r (Some doing) reply =
    (doing.asked ≡ asked) × (stood : Sight P)
    × Stands by.meld false (local began (view_of by.pack r.words before)) doing (local r.own (view_of by.pack r.words stood)) × Waits false stood r.pass
SinceIn {P} by began before asked r None (Some reply) =
    (then : Sight P) × Answered by.meld false asked (local began (view_of by.pack r.words before)) reply (local r.own (view_of by.pack r.words then))
    × Waits false then r.pass

abbrev pub Since : {P : Type 0} → Rules P → Record → Sight P → Call P → Calling P → Type 0
Since by began before asked r = SinceIn by began before asked r r.call r.reply

-- its call stands so since some time, and no reply is left to be told; or no call is under way, and its record fits what it has seen
abbrev pub StandsIn : {P : Type 0} → Rules P → Calling P → Option (UnderWay P) → Option (Reply P) → Type 0
StandsIn by r None reply = FitsView by.meld (local r.own (view_in by r))
StandsIn by r (Some doing) reply = (reply ≡ None) × MayStep by.meld doing (local r.own (view_in by r))

-- whether a step is the exchange of a contribution's word, behind that of its wing
abbrev pub is_settle : Option StepName → Bool
is_settle (Some step.Settle) = true
is_settle _ = false

-- a call's wing isn't set before its contribution's entry has come back
abbrev pub IsUnspread : {P : Type 0} → Option (UnderWay P) → Type 0
IsUnspread None = ⊤
IsUnspread (Some doing) = is_settle (next_step doing.phase) ≡ false

-- What holds of each such rank: its call stands on its way, and no wing stands without its place.
pub record IsCalling {P : Type 0} (by : Rules P) (r : Calling P) : Type 0 where
  pub of : IsView by.meld (view_in by r)
  pub settled : WingsSettled (view_in by r)
  pub unspread : IsUnspread r.call
  pub stands : StandsIn by r r.call r.reply

-- the words are the same, a rank without a call is as it was, and where a call stood it stands still, whenever it began
pub record KeepsCall {P : Type 0} (by : Rules P) (old new : Calling P) : Type 0 where
  pub words : new.words ≡ old.words
  pub idle : old.call ≡ None → new.own ≡ old.own
  pub since : (began : Record) (before : Sight P) (asked : Call P) → Since by began before asked old → Since by began before asked new

-- how many steps its call makes from here on, and its reply, at most
abbrev pub left_of : {P : Type 0} → Limits → Record → Option (UnderWay P) → ℕ
left_of limits own None = 0
left_of limits own (Some doing) = steps_left limits own doing.asked doing.phase + 1

-- What its call waits for: the entry that its next step is for, in its rank's name, where that may come next.
pub record IsWanted {P : Type 0} (by : Rules P) (r : Calling P) (entry : Entry P) : Type 0 where
  pub mine : entry.by ≡ Rank r.own.number
  pub follows : MayFollow by.meld r.words.limits r.pass.seen entry.event
  pub doing : UnderWay P
  pub waits : r.call ≡ Some doing
  pub is_for : proposes doing.phase ≡ true
  pub event : Proposes r.own doing.asked doing.phase entry.event

-- A step of its call: fewer are left, and what was seen is so still.
pub record StepsOn {P : Type 0} (by : Rules P) (old new : Calling P) : Type 0 where
  pub keeps : KeepsCall by old new
  pub nearer : left_of new.words.limits new.own new.call < left_of old.words.limits old.own old.call
  pub begins : IsPrefix old.pass.seen new.pass.seen

-- the entry that its call waited for has come
abbrev pub MakesWanted : {P : Type 0} → Rules P → Calling P → Calling P → Type 0
MakesWanted {P} by old new = (entry : Entry P) → IsWanted by old entry → IsPrefix (old.pass.seen ++ entry ∷ []) new.pass.seen

-- a call is under way, or its reply wasn't told yet
abbrev pub IsBusy : {P : Type 0} → Calling P → Type 0
IsBusy r = IsTrue (is_some r.call || is_some r.reply)

-- a call begins, where none is under way
pub record Begins {P : Type 0} (by : Rules P) (asked : Call P) (old new : Calling P) : Type 0 where
  pub idle : (old.call ≡ None) × (old.reply ≡ None)
  pub own : new.own ≡ old.own
  pub pass : new.pass ≡ old.pass
  pub words : new.words ≡ old.words
  pub since : Since by old.own old.pass asked new

-- a rank that replays a log: the rank over its words, and the entries that it was fed with, as bytes
pub record Replicated (P : Type 0) : Type 0 where
  pub at : Calling P
  pub fed : List (List ℕ)

-- What an entry's bytes make of a history: those of an entry that may come next, that; of any other entry, and of nobody's, nothing.
abbrev pub Takes : {P : Type 0} → Rules P → Limits → List ℕ → Bool → History P → History P → Type 0
Takes {P} by limits bytes taken old new =
    ((entry : Entry P) × IsReadAs by.pack bytes entry × Feeds by.meld limits entry taken old new)
    ⊎ (((entry : Entry P) → bytes ≢ entry_bytes by.pack entry) × (taken ≡ false) × (new ≡ old))

-- what a log makes of a history, entry by entry
abbrev pub Replays : {P : Type 0} → Rules P → Limits → History P → List (List ℕ) → History P → Type 0
Replays by limits h log new = LogMakes (Takes by limits) h log new

-- what a replica has seen is what its log makes of an empty history
abbrev pub IsReplica : {P : Type 0} → Rules P → Replicated P → Type 0
IsReplica by r = Replays by r.at.words.limits [] r.fed r.at.pass.seen

-- a call is answered: with this reply, at some time since when others' events alone have come, whenever it began
abbrev pub EndsCall : {P : Type 0} → Rules P → Calling P → Reply P → Calling P → Type 0
EndsCall {P} by old reply new =
    (began : Record) (before : Sight P) (asked : Call P) → Since by began before asked old
    → (then : Sight P)
    × Answered by.meld false asked (local began (view_of by.pack new.words before)) reply (local new.own (view_of by.pack new.words then))
    × Waits false then new.pass

-- what running on came to: no call is under way; or the call waits for an entry; or it is answered, and over
abbrev pub ComesTo : {P : Type 0} → Rules P → Calling P → Ran P → Calling P → Type 0
ComesTo by old ran.Idle new = (old.call ≡ None) × (old.reply ≡ None) × (new ≡ old)
ComesTo by old (ran.Wants entry) new = IsWanted by new entry × KeepsCall by old new
ComesTo by old (ran.Answered reply) new = (new.call ≡ None) × (new.reply ≡ None) × EndsCall by old reply new

-- A replica runs on: it is fed with nothing, and sees nothing more.
pub record RunsOn {P : Type 0} (by : Rules P) (old : Replicated P) (ran : Ran P) (new : Replicated P) : Type 0 where
  pub words : new.at.words ≡ old.at.words
  pub fed : new.fed ≡ old.fed
  pub seen : new.at.pass.seen ≡ old.at.pass.seen
  pub comes : ComesTo by old.at ran new.at

-- whether an entry was taken
abbrev pub is_taken : Fed → Bool
is_taken fed.LeftOut = false
is_taken fed.Taken = true
is_taken fed.Own = true

-- an entry was its call's own only where it is in its rank's name
abbrev pub IsMine : {P : Type 0} → Rules P → List ℕ → Fed → Calling P → Type 0
IsMine {P} by bytes done old = done ≡ fed.Own → (entry : Entry P) × (bytes ≡ entry_bytes by.pack entry) × (entry.by ≡ Rank old.own.number)

-- A replica is fed with the next entry of its log. Its call stands where it stood, or has made its step.
pub record IsFed {P : Type 0} (by : Rules P) (old : Replicated P) (bytes : List ℕ) (done : Fed) (new : Replicated P) : Type 0 where
  pub fed : new.fed ≡ old.fed ++ bytes ∷ []
  pub takes : Takes by old.at.words.limits bytes (is_taken done) old.at.pass.seen new.at.pass.seen
  pub mine : IsMine by bytes done old.at
  pub keeps : KeepsCall by old.at new.at

-- .. one that isn't lost, by the entry's number; another number than the next changes nothing
abbrev pub FeedsIn : {P : Type 0} → Rules P → Option (Replicated P) → ℕ → List ℕ → Result Fed FeedFault → Option (Replicated P) → Type 0
FeedsIn by None index bytes answered new = (answered ≡ Err IsLost) × (new ≡ None)
FeedsIn {P} by (Some old) index bytes (Ok done) new = (r : Replicated P) × (new ≡ Some r) × (index ≡ length old.fed) × IsFed by old bytes done r
FeedsIn by (Some old) index bytes (Err Gap) new = (index ≢ length old.fed) × (new ≡ Some old)
FeedsIn by (Some old) index bytes (Err IsLost) new = new ≡ None

-- a replica runs on, where it isn't lost
abbrev pub RunsIn : {P : Type 0} → Rules P → Option (Replicated P) → Result (Ran P) Lost → Option (Replicated P) → Type 0
RunsIn {P} by None answered new = (new ≡ None) × ((ran : Ran P) → answered ≢ Ok ran)
RunsIn {P} by (Some old) (Ok ran) new = (r : Replicated P) × (new ≡ Some r) × RunsOn by old ran r
RunsIn by (Some old) (Err lost) new = new ≡ None

-- a call begins, where the replica isn't lost and none is under way; else nothing changes
abbrev pub BeginsIn : {P : Type 0} → Rules P → Option (Replicated P) → Call P → Bool → Option (Replicated P) → Type 0
BeginsIn by None asked begun new = (begun ≡ false) × (new ≡ None)
BeginsIn {P} by (Some old) asked true new = (r : Replicated P) × (new ≡ Some r) × (r.fed ≡ old.fed) × Begins by asked old.at r.at
BeginsIn by (Some old) asked false new = (new ≡ Some old) × IsBusy old.at

-- a replica that was opened: it has seen nothing, was fed with nothing, and makes no call
pub record IsNewReplica {P : Type 0} (limits : Limits) (number : ℕ) (r : Replicated P) : Type 0 where
  pub limits_are : r.at.words.limits ≡ limits
  pub own : r.at.own ≡ new_record limits number
  pub seen : r.at.pass.seen ≡ []
  pub idle : (r.at.call ≡ None) × (r.at.reply ≡ None)
  pub fed : r.fed ≡ []

-- of two replicas in worlds of the same limits, where the log of one begins with the log of the other, what the one has seen begins with what the other has
abbrev pub MachinesAgree : {P : Type 0} → Rules P → Type 0
MachinesAgree {P} by = (one other : Replicated P) → one.at.words.limits ≡ other.at.words.limits → IsReplica by one → IsReplica by other
    → IsPrefix one.fed other.fed → IsPrefix one.at.pass.seen other.at.pass.seen

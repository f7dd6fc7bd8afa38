-- What one call is: among the steps of others, and where nobody else steps.
use Rattle.std.specs.Prelude.{◌≡◌, ◌⊎◌, ℕ, ◌==◌, Bool, false, true, not, IsTrue, IsFalse, ⊤, if◌then◌else◌}
use Rattle.std.specs.Prelude.{List, [], ◌∷◌, ◌++◌, map, filter, filter_map, find, Option, Some, None, is_some}
use Rattle.std.specs.{List.{AllByRecursion}, Option.{option_map_or}}
use mathlib.Core.List.{IsPrefix}
use Rattle.ulfm_model.specs.declared.{call.Call.{Call}, call.Request.{Request}, event.Caller.{Caller}, event.Event.{Event}, limits.Limits.{Limits}}
use Rattle.ulfm_model.specs.declared.{refusal.Refusal.{Refusal}, reply.Reply.{Reply}}
use Rattle.ulfm_model.specs.Answers.{Answers, AnswersFail, AtPoint, comm_of, polled_by, traits_of}
use Rattle.ulfm_model.specs.History.{History, IsLegal, entries_by, failed, failures, first_ranks, has, says, slot}
use Rattle.ulfm_model.specs.Records.{Fits, Moment, Record, agreement_of, moment, new_record}

-- the first list stands in the second, in order, with others in between
abbrev pub StandsIn : {E : Type 0} → List E → List E → Type 0
StandsIn [] ys = ⊤
StandsIn (x ∷ xs) [] = ⊥
StandsIn (x ∷ xs) (y ∷ ys) = ((x ≡ y) × StandsIn xs ys) ⊎ StandsIn (x ∷ xs) ys

-- the new history begins with the old one and has these entries since, in order, among those of others; or alone, where the caller is
pub record Did {P : Type 0} (alone : Bool) (own old new : History P) : Type 0 where
  pub since : History P
  pub goes_on : old ++ since ≡ new
  pub stands : StandsIn own since
  pub quiet : IsTrue alone → since ≡ own

-- a call looks at one history and has its point at another, each beginning with what was seen before; its own events come after the look
pub record IsSpan {P : Type 0} (meld : P → P → P) (limits : Limits) (alone : Bool) (before after : History P) (caller : Caller) : Type 0 where
  pub look : History P
  pub point : History P
  pub own : List (Event P)
  pub spread : Bool
  pub looked : Did alone [] before look
  pub did : Did alone (entries_by caller own) look after
  pub point_begins : IsPrefix before point
  pub point_ends : IsPrefix point after
  pub legal : IsLegal meld limits after

-- what the reply of a call rests on
abbrev pub rests_on : {P : Type 0} {meld : P → P → P} {limits : Limits} {alone : Bool} {before after : History P} {caller : Caller}
    → IsSpan meld limits alone before after caller → AtPoint P
rests_on span = record { look = failures span.look; history = span.point; own = span.own; spread = span.spread }

-- a call of a rank that wasn't refused for good before, from one moment to another: its reply is an answer at its point
pub record IsRun {P : Type 0} (meld : P → P → P) (limits : Limits) (alone : Bool) (start : Moment P) (asked : Call P) (reply : Reply P) (end : Moment P)
    : Type 0 where
  pub in_use : IsFalse start.own.refused
  pub span : IsSpan meld limits alone start.seen end.seen (Caller.Rank start.own.number)
  pub answer : Answers meld limits (rests_on span) start.own asked reply end

-- a call of a rank: one that was refused for good before is refused again, without a step
abbrev pub IsCall : {P : Type 0} → (P → P → P) → Limits → Bool → Moment P → Call P → Reply P → Moment P → Type 0
IsCall meld limits alone start asked reply end =
    (IsTrue start.own.refused × (end.seen ≡ start.seen) × (reply ≡ Reply.Refused Refusal.SelfFailed) × (end.own ≡ start.own))
    ⊎ IsRun meld limits alone start asked reply end

-- the outside's declaration of a rank; it makes no look
pub record IsFailRun {P : Type 0} (meld : P → P → P) (limits : Limits) (alone : Bool) (before after : History P) (rank : ℕ) (reply : Reply P) : Type 0 where
  pub span : IsSpan meld limits alone before after Caller.Outside
  pub no_look : span.look ≡ before
  pub answer : AnswersFail limits (rests_on span) rank reply

-- whom a poll marks where nobody else steps: in an agreement's round, the unsettled declared members, in the order of their failures
abbrev pub unsettled_of : {P : Type 0} → ℕ → History P → ℕ → Option Request → List ℕ
unsettled_of ranks h c request = option_map_or (λ k. filter (λ r. not (is_some (slot h c k r))) (failed ranks h c)) (agreement_of request) []

-- the ranks that some events settle, by contributions or marks
abbrev pub settled_by : {P : Type 0} → List (Event P) → List ℕ
settled_by events = map (λ put. put.0.2) (filter_map (λ e. (says e).settles) events)

-- a run where nobody else steps: its point is its end, and the poll of a rank that isn't declared has marked them all
pub record IsAloneRun {P : Type 0} (meld : P → P → P) (limits : Limits) (start : Moment P) (asked : Call P) (reply : Reply P) (end : Moment P) : Type 0 where
  pub run : IsRun meld limits true start asked reply end
  pub at_end : run.span.point ≡ end.seen
  pub unspread : run.span.spread ≡ false
  pub marks : IsTrue (traits_of asked).polls → IsFalse (has (failures start.seen) start.own.number)
      → settled_by run.span.own ≡ unsettled_of limits.ranks start.seen (comm_of asked) (polled_by start.own asked)

-- the object's state: its limits, what has happened, and what each rank holds
pub record State (P : Type 0) : Type 0 where
  pub limits : Limits
  pub history : History P
  pub records : List Record

-- a new object: nothing has happened, and each rank has a new record
abbrev pub new_state : {P : Type 0} → Limits → State P
new_state limits = record { limits = limits; history = []; records = map (new_record limits) (first_ranks limits.ranks) }

-- a state that calls may lead to: its history is legal, and each rank, in order, has a record that fits it
pub record IsSound {P : Type 0} (meld : P → P → P) (state : State P) : Type 0 where
  pub legal : IsLegal meld state.limits state.history
  pub numbers : map (λ x. x.number) state.records ≡ first_ranks state.limits.ranks
  pub fits : AllByRecursion (Fits meld state.limits state.history) state.records

-- a call of rank r: of a rank that the world doesn't have; of one that was refused for good; of any other
abbrev pub IsRankStep : {P : Type 0} → (P → P → P) → State P → ℕ → Option Record → Call P → Reply P → State P → Type 0
IsRankStep meld old r None asked reply new = (reply ≡ Reply.Refused Refusal.NoSuchRank) × (new ≡ old)
IsRankStep {P} meld old r (Some own) asked reply new =
    (IsTrue own.refused × (reply ≡ Reply.Refused Refusal.SelfFailed) × (new ≡ old))
    ⊎ ((after : History P) × (left : Record) × IsAloneRun meld old.limits (moment own old.history) asked reply (moment left after)
    × (new ≡ record old { history = after; records = map (λ x. if x.number == r then left else x) old.records }))

-- one call where nobody else steps: its reply, and the next state
abbrev pub IsStep : {P : Type 0} → (P → P → P) → State P → Caller → Call P → Reply P → State P → Type 0
IsStep {P} meld old (Caller.Rank r) asked reply new = IsRankStep meld old r (find (λ x. x.number == r) old.records) asked reply new
IsStep {P} meld old Caller.Outside asked reply new =
    (r : ℕ) × (asked ≡ Call.Fail r) × (after : History P) × (run : IsFailRun meld old.limits true old.history after r reply)
    × (run.span.point ≡ after) × (new ≡ record old { history = after })

-- The laws of legal traces, as statements: each is what a function of src/laws.rt ensures.
use Rattle.std.specs.Prelude.{◌≡◌, ◌⊎◌, ℕ, false, List, ◌∷◌, ◌++◌, take, Option, Some, None, IsTrue}
use Rattle.ulfm_model.specs.declared.{event.Caller.{Caller}, limits.Limits.{Limits}, refusal.Refusal.{Refusal}, reply.Reply.{Reply}}
use Rattle.ulfm_model.specs.{Answers.{rank_of}, History.{IsLegal}, Records.{Record}, Runs.{IsFailRun, IsRun}}
use Rattle.ulfm_model.specs.Records.{moment}
use Rattle.ulfm_model.specs.declared.line.{Line.{Line}, Why.{Why}}
use Rattle.ulfm_model.specs.Traces.{IsBad, IsLegalTrace, MayCome, Told, Traced, Under, call_by, nothing, record_in, said_by, taken_in}

-- what the sequential object answers to a rank's call: no such rank; refused again, without a step; or a run with its point there
abbrev pub IsRanksAnswer : {P : Type 0} → (P → P → P) → Traced P → Under P → ℕ → Reply P → Option Record → Type 0
IsRanksAnswer meld now u point reply None = reply ≡ Reply.Refused Refusal.NoSuchRank
IsRanksAnswer meld now u point reply (Some own) =
    let left = taken_in now u point reply own in
    (IsTrue own.refused × (reply ≡ Reply.Refused Refusal.SelfFailed) × (left ≡ own))
    ⊎ ((run : IsRun meld now.limits false (moment own (take u.begun now.history)) u.asked reply (moment left now.history))
    × (run.span.point ≡ take point now.history))

-- what it answers to a caller's call, which began after so many events, among those of others
abbrev pub IsAnswer : {P : Type 0} → (P → P → P) → Traced P → Caller → Under P → ℕ → Reply P → Type 0
IsAnswer meld now Caller.Outside u point reply =
    (run : IsFailRun meld now.limits false (take u.begun now.history) now.history (rank_of u.asked) reply) × (run.span.point ≡ take point now.history)
IsAnswer meld now (Caller.Rank r) u point reply = IsRanksAnswer meld now u point reply (record_in now r)

-- each reply of a legal trace is an answer of the sequential object at its point
abbrev pub RepliesAreAnswers : {P : Type 0} → (P → P → P) → Type 0
RepliesAreAnswers {P} meld =
    (limits : Limits) (before rest : List (Told P)) (by : Caller) (point : ℕ) (reply : Reply P) (group : List ℕ)
    → IsLegalTrace meld limits (before ++ record { line = Line.Replied by point (Some reply); group = group } ∷ rest)
    → let now = said_by (nothing limits) before in (u : Under P) × (call_by now by ≡ Some u) × IsAnswer meld now by u point reply

-- the events of a legal trace are a legal history
abbrev pub EventsAreLegal : {P : Type 0} → (P → P → P) → Type 0
EventsAreLegal {P} meld =
    (limits : Limits) (lines : List (Told P)) → IsLegalTrace meld limits lines → IsLegal meld limits (said_by (nothing limits) lines).history

-- a line that may come is bad for no reason, one that may not isn't without, and none is bad for two
pub record IsBadForOne {P : Type 0} (meld : P → P → P) (now : Traced P) (group : List ℕ) (line : Line P) : Type 0 where
  pub apart : (reason : Why) → IsBad meld now group line reason → ¬ MayCome meld now group line
  pub some : ¬ MayCome meld now group line → ¬ ((reason : Why) → ¬ IsBad meld now group line reason)
  pub one : (reason other : Why) → IsBad meld now group line reason → IsBad meld now group line other → reason ≡ other

-- each line either may come or is bad, for one reason
abbrev pub LinesHaveOneReason : {P : Type 0} → (P → P → P) → Type 0
LinesHaveOneReason {P} meld = (now : Traced P) (group : List ℕ) (line : Line P) → IsBadForOne meld now group line

-- What is done over one pass: declarations of ranks, and the turns of a worker, call by call.
use Rattle.std.specs.Prelude.{◌≡◌, ◌⊎◌, ℕ, ◌+◌, ◌==◌, Bool, false, List, [], ◌∷◌, length, IfErr, IfOk, IsTrue, IsFalse, Result, Ok, Err, if◌then◌else◌}
use Rattle.std.specs.List.{list_any}
use Rattle.ulfm_laws.specs.{declared.flag_and.FlagAnd.{FlagAnd}, Flags.{flag_meld}}
use Rattle.ulfm_model.specs.declared.{call.Call.{Call}, call.Call.TheVariants.{Agree, Shrink}, refusal.Refusal.{Refusal}, reply.Reply.{Reply}}
use Rattle.ulfm_words.specs.Steps.{view_of, Name, Sight}
use Rattle.ulfm_comm.specs.Fails.{Fails}
use Rattle.ulfm_comm.specs.declared.calls.polled.Polled.{Polled}
use Rattle.ulfm_wait.specs.Members.{MemberCalls, Membership, setting_of}
use Rattle.ulfm_wait.specs.{Turns.{MemberPends}, Waits.{MemberAwaits}}
use Rattle.ulfm_race.specs.Races.{IsGiven, IsKeptReply, flag_of, flag_pack, is_refused}
use Rattle.ulfm_race.specs.declared.{plan.Plan.{Plan}, plan.RaceFault.{RaceFault}, worker.Report.{Report}}

-- rank r was declared by one call, and nothing else was done over the pass
abbrev pub Declares : Name → ℕ → Sight FlagAnd → Sight FlagAnd → Type 0
Declares name r before after = (reply : Reply FlagAnd) × Fails flag_meld false r (view_of flag_pack name before) reply (view_of flag_pack name after)

-- the most steps of one declaration of each rank whose worker couldn't be started, where one makes so many
abbrev pub steps_of : {X : Type 0} → ℕ → List (Result X RaceFault) → ℕ
steps_of most [] = 0
steps_of most (Ok x ∷ starts) = steps_of most starts
steps_of most (Err fault ∷ starts) = most + steps_of most starts

-- so many polls, and each was pending
abbrev pub HasPended : Membership FlagAnd → Membership FlagAnd → Type 0
HasPended old new = (times : ℕ) × MemberPends (setting_of flag_meld flag_pack false) 0 times old new

-- A start and what came of it, and nothing else, in no more steps than these calls may make: it was refused; or it started, and polls went on until
-- one was answered, but not for want of memory.
abbrev pub TakesPart : Call FlagAnd → Membership FlagAnd → Reply FlagAnd → Membership FlagAnd → Type 0
TakesPart asked old reply new =
    ((refusal : Refusal) × (reply ≡ Reply.Refused refusal) × MemberCalls (setting_of flag_meld flag_pack false) asked old (Reply.Refused refusal) new)
    ⊎ ((answer : Result (Polled FlagAnd) Refusal) × IsKeptReply answer reply × MemberAwaits (setting_of flag_meld flag_pack false) 0 asked old answer new)

-- A turn that met a fault: its last poll wanted memory; or the gate said no, before the start, or behind it and so many pending polls.
abbrev pub BreaksIn : Call FlagAnd → Membership FlagAnd → RaceFault → Membership FlagAnd → Type 0
BreaksIn asked old RaceFault.Memory new = MemberAwaits (setting_of flag_meld flag_pack false) 0 asked old (Err Refusal.OutOfMemory) new
BreaksIn asked old RaceFault.Held new =
    (new ≡ old) ⊎ ((mid : Membership FlagAnd) × MemberCalls (setting_of flag_meld flag_pack false) asked old Reply.Started mid × HasPended mid new)

-- a turn that was answered so, or met a fault
abbrev pub TurnIs : Call FlagAnd → Membership FlagAnd → Result (Reply FlagAnd) RaceFault → Membership FlagAnd → Type 0
TurnIs asked old (Ok reply) new = TakesPart asked old reply new
TurnIs asked old (Err fault) new = BreaksIn asked old fault new

-- the call of a worker's turn k: the agree of round k, and behind all rounds the shrink
abbrev pub turn_of : Plan → ℕ → ℕ → Call FlagAnd
turn_of plan r k = if k == plan.rounds then Shrink r 0 else Agree r 0 (flag_of r k)

-- turns of rank r, from turn k on, answered so one behind the other, and nothing in between
abbrev pub TakesTurns : Plan → ℕ → ℕ → List (Reply FlagAnd) → Membership FlagAnd → Membership FlagAnd → Type 0
TakesTurns plan r k [] old new = new ≡ old
TakesTurns plan r k (reply ∷ replies) old new =
    (mid : Membership FlagAnd) × TakesPart (turn_of plan r k) old reply mid × TakesTurns plan r (k + 1) replies mid new

-- Turns of rank r that broke off by this fault, behind those that were answered so: the next one met it; or it was answered, and memory was refused
-- to keep that.
abbrev pub TurnsBreakOff : Plan → ℕ → RaceFault → List (Reply FlagAnd) → Membership FlagAnd → Membership FlagAnd → Type 0
TurnsBreakOff plan r fault said old new =
    (mid : Membership FlagAnd) × TakesTurns plan r 0 said old mid × (BreaksIn (turn_of plan r (length said)) mid fault new
    ⊎ ((fault ≡ RaceFault.Memory) × (reply : Reply FlagAnd) × TakesPart (turn_of plan r (length said)) mid reply new))

-- turns of rank r, answered so, or broken off where a fault was met
abbrev pub HasTurned : {X : Type 0} → Plan → ℕ → Result X RaceFault → List (Reply FlagAnd) → Membership FlagAnd → Membership FlagAnd → Type 0
HasTurned plan r (Ok x) said old new = TakesTurns plan r 0 said old new
HasTurned plan r (Err fault) said old new = TurnsBreakOff plan r fault said old new

-- What a worker has done from its start on, and nothing else: its turns; and behind them the declaration of its rank where it met a fault or was
-- refused, and none where it was told all.
pub record HasWorked (name : Name) (plan : Plan) (start : Membership FlagAnd) (report : Report) : Type 0 where
  pub end : Result Bool RaceFault
  pub said : List (Reply FlagAnd)
  pub ended : Membership FlagAnd
  pub turns : HasTurned plan start.own.number end said start ended
  pub given : IsGiven end said report.said
  pub own_is : report.rank.own ≡ ended.own
  pub after : Sight FlagAnd
  pub refused : IsTrue (list_any is_refused said) → Declares name start.own.number ended.view.pass after
  pub faulted : IfErr report.said (λ _. Declares name start.own.number ended.view.pass after)
  pub alone : IfOk report.said (λ _. IsFalse (list_any is_refused said) → after ≡ ended.view.pass)
  pub told_is : report.told.seen ≡ after.seen

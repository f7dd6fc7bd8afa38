-- What a worker does, call by call, and what is done where workers are started.
use Rattle.std.proofs.Common.{◌≡◌, ℕ, zero, suc, ◌+◌, ◌*◌, ◌<◌, ◌≤◌, Bool, false, List, [], ◌∷◌, ◌++◌, length, Result, Ok, Err, IfErr, IfOk, MatchResult, inl, inr, refl, ap, sym, ◌∙◌, subst, arith, if◌then◌else◌}
use Rattle.std.proofs.lemmas.Bool.{eq-eqb, ne_eqb}
use Rattle.ulfm_laws.specs.{declared.flag_and.FlagAnd.{FlagAnd}, Flags.{flag_meld}}
use Rattle.ulfm_model.specs.declared.{call.Call.{Call}, call.Call.TheVariants.{Agree, Shrink}, refusal.Refusal.{Refusal}, refusal.Refusal.TheVariants.{OutOfMemory}, reply.Reply.{Reply}, reply.Reply.TheVariants.{Started}}
use Rattle.ulfm_words.specs.Steps.{Name, Sight}
use Rattle.ulfm_comm.specs.declared.calls.polled.{Polled.{Polled}, Polled.TheVariants.{Pending as StillPending}}
use Rattle.ulfm_comm.specs.{Calls.{Calls}, Counts.{TakesSteps}}
use Rattle.ulfm_model.specs.{History.{History}, Records.{Record}}
use Rattle.ulfm_wait.specs.Members.{MemberCalls, MemberPolls, Membership, after_call, local_of, setting_of}
use Rattle.ulfm_wait.specs.{Turns.{MemberPends}, Waits.{MemberAwaits, MemberPollsOn}}
use Rattle.ulfm_race.specs.Races.{IsKeptReply, IsReady, flag_of, flag_pack}
use Rattle.ulfm_race.specs.Worked.{BreaksIn, TurnsBreakOff, Declares, HasPended, TakesPart, TakesTurns, TurnIs, steps_of, turn_of}
use Rattle.ulfm_race.specs.declared.{plan.Plan.{Plan}, plan.RaceFault.{RaceFault}, plan.RaceFault.TheVariants.{Held as HeldBack, Memory}}

-- one rank more that was to be started
pub steps_push : {X : Type 0} (most : ℕ) (starts : List (Result X RaceFault)) (one : Result X RaceFault) → steps_of most (starts ++ one ∷ []) ≡ steps_of most starts + steps_of most (one ∷ [])
steps_push most [] one = omega arith
steps_push most (Ok x ∷ starts) one = steps_push most starts one
steps_push most (Err fault ∷ starts) one = omega (arith, steps_push most starts one)

-- its steps: none where it was started, and else those of one declaration
pub start_steps : {X : Type 0} (name : Name) (r : ℕ) (one : Result X RaceFault) (before after : Sight FlagAnd) → MatchResult one (λ _. after ≡ before) (λ _. Declares name r before after)
    → after.steps ≤ before.steps + steps_of (2 * name.limits.ranks) (one ∷ [])
start_steps name r (Ok x) before after same = omega (arith, ap (λ (s : Sight FlagAnd). s.steps) same)
start_steps name r (Err fault) before after declares = let few = declares.1.steps in omega (arith, few)

-- so many pending polls, and one more behind them
pends_last : (times : ℕ) (old mid new : Membership FlagAnd) → MemberPends (setting_of flag_meld flag_pack false) 0 times old mid → MemberPolls (setting_of flag_meld flag_pack false) 0 mid (Ok StillPending) new → MemberPends (setting_of flag_meld flag_pack false) 0 (suc times) old new
pends_last zero old mid new same last = (new, subst (λ m. MemberPolls (setting_of flag_meld flag_pack false) 0 m (Ok StillPending) new) same last, refl)
pends_last (suc times) old mid new (first, pends, rest) last = (first, pends, pends_last times first mid new rest last)

pub pended_more : (old mid new : Membership FlagAnd) → HasPended old mid → MemberPolls (setting_of flag_meld flag_pack false) 0 mid (Ok StillPending) new → HasPended old new
pended_more old mid new pended last = (suc pended.0, pends_last pended.0 old mid new pended.1 last)

-- a turn that started, and was polled until a poll was answered
pub turn_answered : (asked : Call FlagAnd) (old mid new : Membership FlagAnd) (answer : Result (Polled FlagAnd) Refusal) (result : Result (Reply FlagAnd) RaceFault) → MemberCalls (setting_of flag_meld flag_pack false) asked old Started mid
    → MemberPollsOn (setting_of flag_meld flag_pack false) 0 mid answer new → IfOk result (IsKeptReply answer) → IfErr result (λ fault. (fault ≡ Memory) × (answer ≡ Err OutOfMemory)) → TurnIs asked old result new
turn_answered asked old mid new answer (Ok reply) starts polls kept stops = inr (answer, kept, record { mid = mid; starts = starts; polls = polls })
turn_answered asked old mid new answer (Err fault) starts polls kept stops =
    subst (λ f. BreaksIn asked old f new) (sym stops.0) (subst (λ a. MemberAwaits (setting_of flag_meld flag_pack false) 0 asked old a new) stops.1 (record { mid = mid; starts = starts; polls = polls }))

-- one that started, and was held
pub turn_held : (asked : Call FlagAnd) (old mid new : Membership FlagAnd) (fault : RaceFault) → MemberCalls (setting_of flag_meld flag_pack false) asked old Started mid → HasPended mid new → fault ≡ HeldBack → BreaksIn asked old fault new
turn_held asked old mid new fault starts pended held = subst (λ f. BreaksIn asked old f new) (sym held) (inr (mid, starts, pended))

-- a member's call of a rank, by what its rank's call promises
pub made_so : {asked made : Call FlagAnd} {reply : Reply FlagAnd} → made ≡ asked → (old mid : Membership FlagAnd) → mid.view.words ≡ old.view.words
    → Calls flag_meld false made (local_of flag_pack old) reply (after_call flag_pack old mid) → TakesSteps made (local_of flag_pack old) mid.last (after_call flag_pack old mid)
    → MemberCalls (setting_of flag_meld flag_pack false) asked old reply mid
made_so {reply = reply} same old mid words calls steps =
    subst (λ a. MemberCalls (setting_of flag_meld flag_pack false) a old reply mid) same (record { words = words; calls = calls; steps = steps })

-- the agree of a round, by the number and the flag that it was given
pub agree_given : {n r : ℕ} (k : ℕ) {flag : FlagAnd} → flag ≡ flag_of n k → n ≡ r → Agree r 0 flag ≡ Agree r 0 (flag_of r k)
agree_given {r = r} k flag_is same = ap (λ v. Agree r 0 v) (flag_is ∙ ap (λ m. flag_of m k) same)

-- the turn of a round is its agree
pub agree_asked : {plan : Plan} {r k : ℕ} {own : Record} {h : History FlagAnd} {said : List (Reply FlagAnd)} → IsReady plan r k own h said → k < plan.rounds → Agree own.number 0 (flag_of own.number k) ≡ turn_of plan r k
agree_asked {plan} {r} {k} ready early =
    ap (λ m. Agree m 0 (flag_of m k)) ready.number
    ∙ sym (ap (λ (b : Bool). if b then Shrink r 0 else Agree r 0 (flag_of r k)) (ne_eqb k plan.rounds (λ e. omega (arith, e, early))))

-- and the one behind all rounds is the shrink
pub shrink_asked : {plan : Plan} {r : ℕ} {own : Record} {h : History FlagAnd} {said : List (Reply FlagAnd)} → IsReady plan r plan.rounds own h said → Shrink own.number 0 ≡ turn_of plan r plan.rounds
shrink_asked {plan} {r} ready =
    ap (λ m. Shrink m 0) ready.number
    ∙ sym (ap (λ (b : Bool). if b then Shrink r 0 else Agree r 0 (flag_of r plan.rounds)) (eq-eqb plan.rounds plan.rounds refl))

-- no turn yet
pub turns_none : (plan : Plan) (r : ℕ) (said : List (Reply FlagAnd)) (m : Membership FlagAnd) → length said ≡ 0 → TakesTurns plan r 0 said m m
turns_none plan r [] m none = refl
turns_none plan r (reply ∷ said) m none = absurd (omega (arith, none))

-- turns, and one more behind them
turns_push : (plan : Plan) (r k : ℕ) (said : List (Reply FlagAnd)) (reply : Reply FlagAnd) (old mid new : Membership FlagAnd) (m : ℕ) → m ≡ k + length said → TakesTurns plan r k said old mid
    → TakesPart (turn_of plan r m) mid reply new → TakesTurns plan r k (said ++ reply ∷ []) old new
turns_push plan r k [] reply old mid new m is same last =
    (new, subst (λ w. TakesPart (turn_of plan r k) w reply new) same (subst (λ n. TakesPart (turn_of plan r n) mid reply new) (omega (arith, is)) last), refl)
turns_push plan r k (first ∷ said) reply old mid new m is (next, part, rest) last = (next, part, turns_push plan r (k + 1) said reply next mid new m (omega (arith, is)) rest last)

-- the next turn, answered, or broken off
pub next_turn : {plan : Plan} {r k : ℕ} {own : Record} {h : History FlagAnd} {said : List (Reply FlagAnd)} → IsReady plan r k own h said → {asked : Call FlagAnd} → asked ≡ turn_of plan r k → (start mid new : Membership FlagAnd)
    (result : Result (Reply FlagAnd) RaceFault) → TakesTurns plan r 0 said start mid → TurnIs asked mid result new → MatchResult result (λ reply. TakesTurns plan r 0 (said ++ reply ∷ []) start new) (λ fault. TurnsBreakOff plan r fault said start new)
next_turn {plan} {r} {k} {said = said} ready is start mid new (Ok reply) turns turn =
    let count = ready.count in
    turns_push plan r 0 said reply start mid new k (omega (arith, count)) turns (subst (λ a. TakesPart a mid reply new) is turn)
next_turn {plan} {r} ready is start mid new (Err fault) turns turn =
    (mid, turns, inl (subst (λ n. BreaksIn (turn_of plan r n) mid fault new) (sym ready.count) (subst (λ a. BreaksIn a mid fault new) is turn)))

-- the same where its reply was kept behind those before
pub kept_turn : {plan : Plan} {r k : ℕ} {own : Record} {h : History FlagAnd} {said : List (Reply FlagAnd)} → IsReady plan r k own h said → {asked : Call FlagAnd} → asked ≡ turn_of plan r k → (start mid new : Membership FlagAnd)
    (reply : Reply FlagAnd) (kept : List (Reply FlagAnd)) → kept ≡ said ++ reply ∷ [] → TakesTurns plan r 0 said start mid → TakesPart asked mid reply new → TakesTurns plan r 0 kept start new
kept_turn {plan} {r} ready is start mid new reply kept same turns turn = subst (λ w. TakesTurns plan r 0 w start new) (sym same) (next_turn ready is start mid new (Ok reply) turns turn)

-- one that was answered, which couldn't be kept
pub lost_turn : {plan : Plan} {r k : ℕ} {own : Record} {h : History FlagAnd} {said : List (Reply FlagAnd)} → IsReady plan r k own h said → {asked : Call FlagAnd} → asked ≡ turn_of plan r k → (start mid new : Membership FlagAnd)
    (reply : Reply FlagAnd) (fault : RaceFault) (kept : List (Reply FlagAnd)) → kept ≡ said → fault ≡ Memory → TakesTurns plan r 0 said start mid → TakesPart asked mid reply new → TurnsBreakOff plan r fault kept start new
lost_turn {plan} {r} ready is start mid new reply fault kept same refused turns turn =
    subst (λ xs. TurnsBreakOff plan r fault xs start new) (sym same)
    (mid, turns, inr (refused, reply, subst (λ n. TakesPart (turn_of plan r n) mid reply new) (sym ready.count) (subst (λ a. TakesPart a mid reply new) is turn)))

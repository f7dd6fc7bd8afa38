-- Whose rank is declared failed, since its worker stopped.
use Rattle.std.proofs.Common.{Result, Ok, Err, IfErr, IfOk, ◌≡◌, ◌∙◌, ℕ, ◌<◌, Bool, true, false, not, List, [], inl, inr, refl, sym, subst, IsTrue, arith}
use Rattle.std.specs.Prelude.{Vec, ⊤}
use Rattle.boxcar.specs.Table.{Where}
use Rattle.ulfm_laws.specs.{declared.flag_and.FlagAnd.{FlagAnd}, Flags.{flag_meld}}
use Rattle.ulfm_model.specs.declared.{limits.Limits.{Limits}, reply.Reply.{Reply}}
use Rattle.ulfm_model.specs.{History.{History, failures, has}, Records.{Fits, Record, new_record}, Runs.{IsFailRun}}
use Rattle.ulfm_words.proofs.Ranks.{members_below}
use Rattle.ulfm_race.specs.declared.{plan.RaceFault.{RaceFault}, plan.Turn.{Turn}}
use Rattle.ulfm_race.specs.Races.{IsGiven, StopsFor, is_stopped}

-- a declaration of a rank that the world has leaves it declared
pub fail_declares : (limits : Limits) (alone : Bool) (before after : History FlagAnd) (r : ℕ) (reply : Reply FlagAnd) → (run : IsFailRun flag_meld limits alone before after r reply)
    → run.span.point ≡ after → r < limits.ranks → IsTrue (has (failures after) r)
fail_declares limits alone before after r reply run at_end below = elim run.answer [
  | inl new ↦ subst (λ h. IsTrue (has (failures h) r)) at_end new.2
  | inr (inl found) ↦ subst (λ h. IsTrue (has (failures h) r)) at_end found.2
  | inr (inr none) ↦ absurd (omega (arith, below, none.2))
]

-- a rank of a new world is one of its ranks
pub new_below : (limits : Limits) (h : History FlagAnd) (own : Record) (r : ℕ) → own ≡ new_record limits r → Fits flag_meld limits h own → r < limits.ranks
new_below limits h own r is fits =
    let new = subst (Fits flag_meld limits h) is fits in
    members_below {P = FlagAnd} limits.ranks [] 0 r new.held.0.member

-- a worker that was refused stopped
pub refused_stops : {X : Type 0} (ended : Result Bool RaceFault) (said : Result X RaceFault) (refused : Bool) → IfOk ended (λ whole. refused ≡ not whole) → refused ≡ true → is_stopped ended said ≡ true
refused_stops (Ok whole) (Ok x) refused is some = sym is ∙ some
refused_stops (Ok whole) (Err fault) refused is some = refl
refused_stops (Err fault) said refused is some = refl

-- and so did one that gives back a fault
pub fault_stops : {X : Type 0} (ended : Result Bool RaceFault) (said : Result X RaceFault) → IfErr said (λ _. is_stopped ended said ≡ true)
fault_stops ended (Ok x) = tt
fault_stops (Ok whole) (Err fault) = refl
fault_stops (Err met) (Err fault) = refl

-- one that was told all, and gives that back, didn't
pub whole_goes_on : {A : Type 0} (ended : Result Bool RaceFault) (replies : List (Reply FlagAnd)) (said : Result (Where (Vec (Reply FlagAnd) A)) RaceFault) (refused : Bool)
    → IsGiven ended replies said → IfOk ended (λ whole. refused ≡ not whole) → IfOk said (λ _. refused ≡ false → is_stopped ended said ≡ false)
whole_goes_on (Ok whole) replies (Ok token) refused given is = λ none. sym is ∙ none
whole_goes_on (Err met) replies (Ok token) refused given is = absurd given
whole_goes_on ended replies (Err fault) refused given is = tt

-- what holds of the replies where the turns met no fault holds of what the token shows
pub given_holds : {A : Type 0} (Q : List (Reply FlagAnd) → Type 0) (ended : Result Bool RaceFault) (replies : List (Reply FlagAnd)) (said : Result (Where (Vec (Reply FlagAnd) A)) RaceFault)
    → IsGiven ended replies said → IfOk ended (λ _. Q replies) → IfOk said (λ t. Q t.value.items)
given_holds Q (Ok whole) replies (Ok token) given holds = subst Q (sym given) holds
given_holds Q (Err met) replies (Ok token) given holds = absurd given
given_holds Q ended replies (Err fault) given holds = tt

-- and why it stops is why the turns did, or that memory was refused
pub given_stops : {A : Type 0} (may_say : Turn → Bool → Type 0) (ended : Result Bool RaceFault) (replies : List (Reply FlagAnd)) (said : Result (Where (Vec (Reply FlagAnd) A)) RaceFault)
    → IsGiven ended replies said → IfErr ended (StopsFor ⊤ may_say) → IfErr said (StopsFor ⊤ may_say)
given_stops may_say ended replies (Ok token) given stops = tt
given_stops may_say (Ok whole) replies (Err fault) given stops = subst (StopsFor ⊤ may_say) (sym given) tt
given_stops may_say (Err met) replies (Err fault) given stops = subst (StopsFor ⊤ may_say) (sym given) stops

-- what follows where a result is good, and where it isn't
pub if_ok : {X : Type 0} {P Q : X → Type 0} (o : Result X RaceFault) → ((x : X) → P x → Q x) → IfOk o P → IfOk o Q
if_ok (Ok x) follows is = follows x is
if_ok (Err fault) follows is = tt

pub if_err : {X : Type 0} {P Q : RaceFault → Type 0} (o : Result X RaceFault) → ((fault : RaceFault) → P fault → Q fault) → IfErr o P → IfErr o Q
if_err (Ok x) follows is = tt
if_err (Err fault) follows is = follows fault is

-- what holds anyhow
pub ok_anyhow : {X P : Type 0} (o : Result X RaceFault) → P → IfOk o (λ _. P)
ok_anyhow (Ok x) holds = holds
ok_anyhow (Err fault) holds = tt

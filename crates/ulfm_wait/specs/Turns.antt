-- What an agree as a future promises, poll by poll.
use Rattle.std.specs.Prelude.{◌≡◌, ◌⊎◌, ℕ, zero, suc, Bool, true, Option, None, Some, IfOk, IsTrue, IsSomeAnd, MatchBool, MatchOption, Result, Ok, Err}
use Rattle.ulfm_model.specs.declared.{call.Call.{Call}, call.Request.{Request}, refusal.Refusal.{Refusal}, reply.Reply.{Reply}}
use Rattle.ulfm_model.specs.Records.{Held, held_at}
use Rattle.ulfm_words.specs.Steps.{Name, Sight}
use Rattle.ulfm_comm.specs.{Counts.{Ranked}, Polls.{IsNotPending}}
use Rattle.ulfm_comm.specs.declared.calls.polled.Polled.{Polled}
use Rattle.ulfm_wait.specs.Members.{IsMember, MemberCalls, MemberPolls, Membership, viewing, Setting}
use Rattle.ulfm_model.specs.Rounds.{Gave}
use Rattle.ulfm_wait.specs.Waits.{MemberPollsOn, MemberWaits}

-- an agree: on which communicator, on which flag, and whether it has started
pub record Agreeing (P : Type 0) : Type 0 where
  pub comm : ℕ
  pub value : P
  pub started : Bool

-- an agree as a future: the agree, and the rank with its pass, as a member, which it holds until it has given its output
pub record AgreeState (P : Type 0) : Type 0 where
  pub agree : Agreeing P
  pub held : Option (Membership P)

-- a rank and a pass of these words, as a member
abbrev pub member_of : {P : Type 0} → Name → Ranked → Sight P → Membership P
member_of name rank pass = record { own = rank.own; last = rank.last; view = viewing name pass }

-- the start of an agree, and then one poll of it
pub record StartsAndPolls {P : Type 0} (setting : Setting P) (agree : Agreeing P) (old : Membership P)
    (result : Result (Polled P) Refusal) (new : Membership P) : Type 0 where
  pub mid : Membership P
  pub starts : MemberCalls setting (Call.Agree old.own.number agree.comm agree.value) old Reply.Started mid
  pub polls : MemberPolls setting agree.comm mid result new

-- an agree that isn't started begins: it starts and polls once; or it is refused its start, and doesn't poll
abbrev pub BeginsAgree : {P : Type 0} → Setting P → Agreeing P → Membership P → Result (Polled P) Refusal → Membership P → Type 0
BeginsAgree setting agree old (Ok reply) new = StartsAndPolls setting agree old (Ok reply) new
BeginsAgree setting agree old (Err refusal) new =
    MemberCalls setting (Call.Agree old.own.number agree.comm agree.value) old (Reply.Refused refusal) new
    ⊎ StartsAndPolls setting agree old (Err refusal) new

-- a turn of an agree: one poll, where it has started; else it begins
abbrev pub TakesAgreeTurn : {P : Type 0} → Setting P → Agreeing P → Membership P → Result (Polled P) Refusal → Membership P → Type 0
TakesAgreeTurn setting agree old result new =
    MatchBool agree.started (MemberPolls setting agree.comm old result new) (BeginsAgree setting agree old result new)

-- the member's agree on communicator c is open in a round, to which it gave its flag
pub record HasOpenAgree {P : Type 0} (c : ℕ) (value : P) (m : Membership P) : Type 0 where
  pub x : Held
  pub held : held_at m.own c ≡ Some x
  pub round : ℕ
  pub open_is : x.request ≡ Some (Request.Agree round)
  pub gave : Gave m.view.pass.seen c round m.own.number value

-- what a future holds: a member, and, where the agree has started, one that has given its flag
pub record FutureHolds {P : Type 0} (meld : P → P → P) (pack : P → ℕ) (agree : Agreeing P) (m : Membership P) : Type 0 where
  pub is : IsMember meld pack m
  pub given : IsTrue agree.started → HasOpenAgree agree.comm agree.value m

-- A poll of the future that is pending, of a member that it held: it took one turn, whose poll was pending, and holds what the turn
-- left of that member, which has given its flag. From now on it has started.
pub record TurnPends {P : Type 0} (setting : Setting P) (old : AgreeState P) (m : Membership P) (new : AgreeState P) : Type 0 where
  pub left : Membership P
  pub turn : TakesAgreeTurn setting old.agree m (Ok Polled.Pending) left
  pub given : HasOpenAgree old.agree.comm old.agree.value left
  pub new_is : new ≡ record { agree = record old.agree { started = true }; held = Some left }

-- a pending poll of the future took one turn; after its output it takes none, and stays as it is
abbrev pub Pends : {P : Type 0} → Setting P → AgreeState P → AgreeState P → Type 0
Pends setting old new = MatchOption old.held (new ≡ old) (λ m. TurnPends setting old m new)

-- A poll of the future that gives its output, of a member that it held: it took one turn, which was answered so and left this member,
-- which is handed out.
pub record TurnEnds {P : Type 0} (setting : Setting P) (old : AgreeState P) (m : Membership P) (result : Result (Polled P) Refusal)
    (left : Membership P) (new : AgreeState P) : Type 0 where
  pub answered : IfOk result IsNotPending
  pub turn : TakesAgreeTurn setting old.agree m result left
  pub new_is : new ≡ record { agree = old.agree; held = None }

-- the poll that gives the output, with the rank and the pass that it hands out
abbrev pub FutureEnds : {P : Type 0} → Setting P → AgreeState P → Result (Polled P) Refusal → Ranked → Sight P → AgreeState P → Type 0
FutureEnds setting old result rank pass new = IsSomeAnd old.held (λ m. TurnEnds setting old m result (member_of m.view.words rank pass) new)

-- what an agree gives from some member on: where it has started, what polls give; else all that a call that waits does
abbrev pub AgreeGives : {P : Type 0} → Setting P → Agreeing P → Membership P → Result (Polled P) Refusal → Membership P → Type 0
AgreeGives setting agree old result new =
    MatchBool agree.started (MemberPollsOn setting agree.comm old result new)
    (MemberWaits setting agree.comm (Call.Agree old.own.number agree.comm agree.value) old result new)

-- what the future gives: that, of the member that it holds
abbrev pub FutureGives : {P : Type 0} → Setting P → AgreeState P → Result (Polled P) Refusal → Ranked → Sight P → Type 0
FutureGives setting f result rank pass = IsSomeAnd f.held (λ m. AgreeGives setting f.agree m result (member_of m.view.words rank pass))

-- so many polls of the future, one behind the other, each pending
abbrev pub PendsTimes : {P : Type 0} → Setting P → ℕ → AgreeState P → AgreeState P → Type 0
PendsTimes setting zero old new = new ≡ old
PendsTimes {P} setting (suc times) old new = (mid : AgreeState P) × Pends setting old mid × PendsTimes setting times mid new

-- so many polls of a member on communicator c, each pending
abbrev pub MemberPends : {P : Type 0} → Setting P → ℕ → ℕ → Membership P → Membership P → Type 0
MemberPends setting c zero old new = new ≡ old
MemberPends {P} setting c (suc times) old new =
    (mid : Membership P) × MemberPolls setting c old (Ok Polled.Pending) mid × MemberPends setting c times mid new

-- What so many pending polls of the future made, from this member on: one start, and as many polls of its rank; and it holds what these
-- left, which has given its flag.
pub record HasPolled {P : Type 0} (setting : Setting P) (times : ℕ) (agree : Agreeing P) (m : Membership P) (new : AgreeState P)
    : Type 0 where
  pub mid : Membership P
  pub starts : MemberCalls setting (Call.Agree m.own.number agree.comm agree.value) m Reply.Started mid
  pub left : Membership P
  pub polls : MemberPends setting agree.comm times mid left
  pub given : HasOpenAgree agree.comm agree.value left
  pub new_is : new ≡ record { agree = record agree { started = true }; held = Some left }

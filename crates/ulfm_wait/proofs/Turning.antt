-- Turns of an agree as a future.
use Rattle.std.proofs.Common.{◌≡◌, ℕ, zero, suc, Bool, true, false, Option, None, Some, Result, Ok, Err, IfOk, IfSome, IsTrue, inl, inr, refl, ap, sym, ◌∙◌, subst, ◌==◌}
use Rattle.std.specs.Prelude.{find, option_map}
use Rattle.futures.specs.Poll.{OnPending}
use Rattle.futures.specs.declared.task.{Poll.{Poll as Given}, Poll.TheVariants.{Pending as StaysPending}}
use Rattle.ulfm_model.specs.declared.{call.Call.TheVariants.{Agree, Poll}, call.Request.TheVariants.{Agree as OpenAgree}, refusal.Refusal.{Refusal}}
use Rattle.ulfm_model.specs.declared.reply.Reply.TheVariants.{Pending, Started}
use Rattle.ulfm_model.specs.{Answers.{opened}, Records.{Held}}
use Rattle.ulfm_model.proofs.LeftRuns.{call_number}
use Rattle.ulfm_words.specs.Steps.{Sight, over}
use Rattle.ulfm_comm.specs.{Counts.{Ranked}, Polls.{IsNotPending}}
use Rattle.ulfm_comm.specs.declared.calls.polled.{Polled.{Polled}, Polled.TheVariants.{Pending as StillPending}}
use Rattle.ulfm_comm.proofs.CallRuns.{called_run}
use Rattle.ulfm_wait.specs.Members.{IsMember, MemberCalls, MemberPolls, Membership, setting_of}
use Rattle.ulfm_model.specs.Rounds.{Gave}
use Rattle.ulfm_model.proofs.{Staying.{gave_lasts}, Telling.{agree_opened, find_change, pending_holds}}
use Rattle.ulfm_wait.specs.{Turns.{AgreeGives, AgreeState, Agreeing, BeginsAgree, FutureEnds, FutureGives, HasOpenAgree, HasPolled, FutureHolds, MemberPends, Pends, PendsTimes, StartsAndPolls, TakesAgreeTurn, member_of}, Waits.{MemberPollsOn}}
use Rattle.ulfm_wait.proofs.Waiting.{goes_on, is_answer, member_answered, member_pends, member_refused, member_waits, poll_member, same_words, started_on}

-- what isn't pending is an answer
answered_if : {P : Type 0} (result : Result (Polled P) Refusal) → (result ≡ Ok StillPending → ⊥) → IfOk result IsNotPending
answered_if (Ok reply) other = is_answer reply (λ is. other (ap Ok is))
answered_if (Err refusal) other = tt

module _ {P : Type 0} (meld : P → P → P) (pack : P → ℕ) (alone : Bool) (c : ℕ) (value : P) where
  abbrev agree_is : Bool → Agreeing P
  agree_is started = record { comm = c; value = value; started = started }

  -- a start and a poll are how it begins
  pub both_begin : (old new : Membership P) (result : Result (Polled P) Refusal) → StartsAndPolls (setting_of meld pack alone) (agree_is false) old result new → BeginsAgree (setting_of meld pack alone) (agree_is false) old result new
  both_begin old new (Ok reply) both = both
  both_begin old new (Err refusal) both = inr both

  -- a turn that was answered is what the future gives
  pub turn_gives : (started : Bool) (old new : Membership P) (result : Result (Polled P) Refusal) → TakesAgreeTurn (setting_of meld pack alone) (agree_is started) old result new → IfOk result IsNotPending
      → AgreeGives (setting_of meld pack alone) (agree_is started) old result new
  turn_gives true old new result polls answered = member_answered meld pack alone c old new result polls answered
  turn_gives false old new (Ok reply) both answered =
      member_waits meld pack alone c (Agree old.own.number c value) old both.mid new (Ok reply) both.starts (member_answered meld pack alone c both.mid new (Ok reply) both.polls answered)
  turn_gives false old new (Err refusal) (inl refused) answered = member_refused meld pack alone c (Agree old.own.number c value) old new refusal refused
  turn_gives false old new (Err refusal) (inr both) answered =
      member_waits meld pack alone c (Agree old.own.number c value) old both.mid new (Err refusal) both.starts (member_answered meld pack alone c both.mid new (Err refusal) both.polls tt)

  -- what the future gives after a pending turn it gave before
  pub turn_before : (started : Bool) (old mid new : Membership P) (result : Result (Polled P) Refusal) → TakesAgreeTurn (setting_of meld pack alone) (agree_is started) old (Ok StillPending) mid → MemberPollsOn (setting_of meld pack alone) c mid result new
      → AgreeGives (setting_of meld pack alone) (agree_is started) old result new
  turn_before true old mid new result pends later = member_pends meld pack alone c old mid new result pends later
  turn_before false old mid new result both later =
      member_waits meld pack alone c (Agree old.own.number c value) old both.mid new result both.starts (member_pends meld pack alone c both.mid mid new result both.polls later)

  -- what a turn leaves is a member of the same words
  pub turn_member : (started : Bool) (old new : Membership P) (result : Result (Polled P) Refusal) → TakesAgreeTurn (setting_of meld pack alone) (agree_is started) old result new → IsMember meld pack new
  turn_member true old new result polls = poll_member meld pack alone c old result new polls
  turn_member false old new (Ok reply) both = poll_member meld pack alone c both.mid (Ok reply) new both.polls
  turn_member false old new (Err refusal) (inl refused) = same_words meld pack old.view.words new refused.words refused.calls.linearizes.of refused.calls.linearizes.fits
  turn_member false old new (Err refusal) (inr both) = poll_member meld pack alone c both.mid (Err refusal) new both.polls

  pub turn_words : (started : Bool) (old new : Membership P) (result : Result (Polled P) Refusal) → TakesAgreeTurn (setting_of meld pack alone) (agree_is started) old result new → new.view.words ≡ old.view.words
  turn_words true old new result polls = polls.words
  turn_words false old new (Ok reply) both = both.polls.words ∙ both.starts.words
  turn_words false old new (Err refusal) (inl refused) = refused.words
  turn_words false old new (Err refusal) (inr both) = both.polls.words ∙ both.starts.words

  -- a member that starts an agree has given its flag
  starts_given : (old new : Membership P) → MemberCalls (setting_of meld pack alone) (Agree old.own.number c value) old Started new → HasOpenAgree c value new
  starts_given old new starts =
      let limits = old.view.words.limits in
      let call = called_run meld alone (over pack old.view.words) (Agree old.own.number c value) old.own old.view.pass Started new.own new.view.pass starts.calls in
      let on = started_on meld alone (over pack old.view.words) c (Agree old.own.number c value) old.own old.view.pass new.own new.view.pass starts.calls in
      let opens = agree_opened meld limits alone old.view.pass.seen new.view.pass.seen old.own new.own c value on.0 on.1 call in
      let f : Held → Held = λ y. opened y (Some (OpenAgree y.next_agreement)) in
      let number = call_number meld limits alone old.view.pass.seen new.view.pass.seen old.own (Agree old.own.number c value) Started new.own call in
      record {
        x = f on.0;
        held = ap (λ h. find (λ y. y.comm == c) h) opens.0 ∙ find_change c f (λ y. refl) old.own.held on.0 on.1;
        round = on.0.next_agreement;
        open_is = refl;
        gave = subst (λ r. Gave new.view.pass.seen c on.0.next_agreement r value) (sym number) opens.1;
      }

  -- and has still after a pending poll
  pends_given : (old new : Membership P) → IsMember meld pack old → HasOpenAgree c value old → MemberPolls (setting_of meld pack alone) c old (Ok StillPending) new → HasOpenAgree c value new
  pends_given old new is given polls =
      let limits = old.view.words.limits in
      let call = called_run meld alone (over pack old.view.words) (Poll old.own.number c) old.own old.view.pass Pending new.own new.view.pass polls.polls.run in
      let same = pending_holds meld limits alone old.view.pass.seen new.view.pass.seen old.own new.own c call in
      let number = call_number meld limits alone old.view.pass.seen new.view.pass.seen old.own (Poll old.own.number c) Pending new.own call in
      let begins = goes_on meld alone (over pack old.view.words) c (Poll old.own.number c) old.own old.view.pass Pending new.own new.view.pass is.of polls.polls.run in
      let stays = gave_lasts meld limits old.view.pass.seen new.view.pass.seen begins polls.polls.of.legal c given.round old.own.number value given.gave in
      record {
        x = given.x;
        held = ap (λ h. find (λ y. y.comm == c) h) same ∙ given.held;
        round = given.round;
        open_is = given.open_is;
        gave = subst (λ r. Gave new.view.pass.seen c given.round r value) (sym number) stays;
      }

  -- so after a pending turn
  pub turn_given : (started : Bool) (old new : Membership P) → IsMember meld pack old → (IsTrue started → HasOpenAgree c value old) → TakesAgreeTurn (setting_of meld pack alone) (agree_is started) old (Ok StillPending) new → HasOpenAgree c value new
  turn_given true old new is given polls = pends_given old new is (given refl) polls
  turn_given false old new is given both =
      pends_given both.mid new (same_words meld pack old.view.words both.mid both.starts.words both.starts.calls.linearizes.of both.starts.calls.linearizes.fits) (starts_given old both.mid both.starts) both.polls

  -- the future that holds a member
  abbrev holding : Bool → Membership P → AgreeState P
  holding started m = record { agree = agree_is started; held = Some m }

  -- A pending turn: what a poll of the future promises then.
  pub record IsPending (old : AgreeState P) (left : Membership P) : Type 0 where
    pub way : FutureHolds meld pack (agree_is true) left
    pub pends : Pends (setting_of meld pack alone) old (holding true left)
    pub same : (reply : Result (Polled P) Refusal) (rank : Ranked) (pass : Sight P) → FutureGives (setting_of meld pack alone) (holding true left) reply rank pass → FutureGives (setting_of meld pack alone) old reply rank pass

  pub turn_pends : (started : Bool) (m left : Membership P) → FutureHolds meld pack (agree_is started) m → TakesAgreeTurn (setting_of meld pack alone) (agree_is started) m (Ok StillPending) left → IsPending (holding started m) left
  turn_pends started m left way turn =
      let given = turn_given started m left way.is way.given turn in
      let words = turn_words started m left (Ok StillPending) turn in
      record {
        way = record { is = turn_member started m left (Ok StillPending) turn; given = λ is. given };
        pends = record { left = left; turn = turn; given = given; new_is = refl };
        same = λ reply rank pass gives. turn_before started m left (member_of m.view.words rank pass) reply turn (subst (λ name. MemberPollsOn (setting_of meld pack alone) c left reply (member_of name rank pass)) words gives);
      }

  -- A turn that was answered: so too.
  pub record IsEnding (old : AgreeState P) (reply : Result (Polled P) Refusal) (rank : Ranked) (pass : Sight P) (started : Bool) : Type 0 where
    pub ends : FutureEnds (setting_of meld pack alone) old reply rank pass (record { agree = agree_is started; held = None })
    pub gives : FutureGives (setting_of meld pack alone) old reply rank pass

  pub turn_ends : (started : Bool) (m : Membership P) (reply : Result (Polled P) Refusal) (rank : Ranked) (pass : Sight P) → (reply ≡ Ok StillPending → ⊥)
      → TakesAgreeTurn (setting_of meld pack alone) (agree_is started) m reply (member_of m.view.words rank pass) → IsEnding (holding started m) reply rank pass started
  turn_ends started m reply rank pass other turn =
      let answered = answered_if reply other in
      record {
        ends = record { answered = answered; turn = turn; new_is = refl };
        gives = turn_gives started m (member_of m.view.words rank pass) reply turn answered;
      }

  -- A poll that opened the future, of what it held, the pass and the rank s: what it promises where its turn was pending.
  pub opened_pends : {S : Type 0} (inside : Option S) (member : S → Membership P) (s : S) (started : Bool) (f : AgreeState P) (left : Membership P) (reply : Result (Polled P) Refusal)
      → record { agree = agree_is started; held = option_map member inside } ≡ f → IfSome inside (λ s. FutureHolds meld pack (agree_is started) (member s)) → inside ≡ Some s → reply ≡ Ok StillPending
      → TakesAgreeTurn (setting_of meld pack alone) (agree_is started) (member s) reply left → IsPending f left
  opened_pends inside member s started f left reply view way is pending turn =
      let holds : holding started (member s) ≡ f = ap (λ h. record { agree = agree_is started; held = option_map member h }) (sym is) ∙ view in
      let under = subst (λ h. IfSome h (λ s. FutureHolds meld pack (agree_is started) (member s))) is way in
      subst (λ f. IsPending f left) holds (turn_pends started (member s) left under (subst (λ r. TakesAgreeTurn (setting_of meld pack alone) (agree_is started) (member s) r left) pending turn))

  -- and where it was answered
  pub opened_ends : {S : Type 0} (inside : Option S) (member : S → Membership P) (s : S) (started : Bool) (f : AgreeState P) (reply : Result (Polled P) Refusal) (rank : Ranked) (pass : Sight P)
      → record { agree = agree_is started; held = option_map member inside } ≡ f → inside ≡ Some s → (reply ≡ Ok StillPending → ⊥)
      → TakesAgreeTurn (setting_of meld pack alone) (agree_is started) (member s) reply (member_of (member s).view.words rank pass) → IsEnding f reply rank pass started
  opened_ends inside member s started f reply rank pass view is other turn =
      let holds : holding started (member s) ≡ f = ap (λ h. record { agree = agree_is started; held = option_map member h }) (sym is) ∙ view in
      subst (λ f. IsEnding f reply rank pass started) holds (turn_ends started (member s) reply rank pass other turn)

  -- What pending polls of a future left that had started.
  record IsPolledMore (times : ℕ) (m : Membership P) (new : AgreeState P) : Type 0 where
    pub left : Membership P
    pub polls : MemberPends (setting_of meld pack alone) c times m left
    pub given : HasOpenAgree c value left
    pub new_is : new ≡ holding true left

  polls_more : (times : ℕ) (m : Membership P) (new : AgreeState P) → HasOpenAgree c value m → PendsTimes (setting_of meld pack alone) times (holding true m) new → IsPolledMore times m new
  polls_more zero m new given is = record { left = m; polls = refl; given = given; new_is = is }
  polls_more (suc times) m new given (mid, pends, rest) =
      let more = polls_more times pends.left new pends.given (subst (λ f. PendsTimes (setting_of meld pack alone) times f new) pends.new_is rest) in
      record { left = more.left; polls = (pends.left, pends.turn, more.polls); given = more.given; new_is = more.new_is }

  -- Pending polls of a future that isn't started are counted: they made one start, and as many polls of its rank.
  polls_counted : (times : ℕ) (m : Membership P) (new : AgreeState P) → PendsTimes (setting_of meld pack alone) (suc times) (holding false m) new
      → HasPolled (setting_of meld pack alone) (suc times) (agree_is false) m new
  polls_counted times m new (mid, pends, rest) =
      let more = polls_more times pends.left new pends.given (subst (λ f. PendsTimes (setting_of meld pack alone) times f new) pends.new_is rest) in
      record {
        mid = pends.turn.mid;
        starts = pends.turn.starts;
        left = more.left;
        polls = (pends.left, pends.turn.polls, more.polls);
        given = more.given;
        new_is = more.new_is;
      }

-- Pending polls of a future that isn't started, and holds this member, are counted.
pub polls_are_counted : {P : Type 0} (meld : P → P → P) (pack : P → ℕ) (alone : Bool) (times : ℕ) (old new : AgreeState P) (m : Membership P) → old.agree.started ≡ false → old.held ≡ Some m
    → PendsTimes (setting_of meld pack alone) (suc times) old new → HasPolled (setting_of meld pack alone) (suc times) old.agree m new
polls_are_counted {P} meld pack alone times old new m started held polls =
    let c = old.agree.comm in
    let value = old.agree.value in
    let fresh : AgreeState P = record { agree = record { comm = c; value = value; started = false }; held = Some m } in
    let same : fresh ≡ old =
    ap (λ b. record { agree = record { comm = c; value = value; started = b }; held = Some m }) (sym started) ∙ ap (λ h. record { agree = old.agree; held = h }) (sym held) in
    let counted = polls_counted meld pack alone c value times m new (subst (λ f. PendsTimes (setting_of meld pack alone) (suc times) f new) (sym same) polls) in
    subst (λ agree. HasPolled (setting_of meld pack alone) (suc times) agree m new) (ap (λ (f : AgreeState P). f.agree) same) counted

-- what holds where a poll is pending
pub on_pending : {A X : Type 0} (result : Given A) → result ≡ StaysPending → X → OnPending result X
on_pending {A} {X} result is x = subst (λ r. OnPending {A = A} r X) (sym is) x

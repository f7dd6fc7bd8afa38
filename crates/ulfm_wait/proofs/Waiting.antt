-- Polls that go on until one is answered.
use Rattle.std.proofs.Common.{◌≡◌, ℕ, zero, suc, Bool, Some, Result, Ok, Err, IfOk, inl, inr, refl, ap, sym, ◌∙◌, subst, ◌==◌, [], append-nil}
use Rattle.std.specs.Prelude.{find}
use mathlib.Core.List.{IsPrefix}
use Rattle.ulfm_model.specs.declared.{call.Call.{Call}, call.Call.TheVariants.{Agree, Poll, Shrink}, call.Request.TheVariants.{Agree as OpenAgree, Shrink as OpenShrink}}
use Rattle.ulfm_model.specs.declared.{refusal.Refusal.{Refusal}, reply.Reply.{Reply}, reply.Reply.TheVariants.{Pending, Refused, Started}}
use Rattle.ulfm_model.specs.{Answers.{opened}, History.{IsLegal}, Records.{Fits, Held, Record, change_at, held_at}, Runs.{IsCall}, Terms.{comm_of}}
use Rattle.ulfm_model.specs.Records.{moment}
use Rattle.ulfm_model.proofs.{LeftRuns.{call_legal, call_number}, Lists.{prefix_trans}}
use Rattle.ulfm_words.specs.Steps.{view_at, view_of, IsView, Name, Over, Sight, over}
use Rattle.ulfm_comm.specs.{Calls.{Calls, reply_of}, Polls.{IsNotPending, PollIs, polled}}
use Rattle.ulfm_comm.specs.declared.calls.polled.{Polled.{Polled}, Polled.TheVariants.{Agreed, Done, Pending as StillPending, Shrunk}}
use Rattle.ulfm_comm.proofs.CallRuns.{called_run}
use Rattle.ulfm_comm.specs.Local.{local}
use Rattle.ulfm_wait.specs.Members.{IsMember, MemberCalls, MemberPolls, Membership, setting_of}
use Rattle.ulfm_model.specs.{Rounds.{IsMadeOf}, Told.{IsFinalReply}}
use Rattle.ulfm_model.proofs.{RoundAnswers.{answered_on}, Staying.{gave_lasts}, Telling.{agree_opened, agree_tells, find_change, pending_holds, shrink_opened, shrink_tells}}
use Rattle.ulfm_wait.specs.Waits.{IsPolledOn, MemberAwaits, MemberPollsFrom, MemberPollsOn, MemberPollsUntil, MemberRuns, MemberWaits, PollsUntil, TellsAgree, TellsShrink}

-- an answer ends its request
pub answer_ends : {P : Type 0} (reply : Polled P) → IsNotPending reply → IsFinalReply (polled reply)
answer_ends StillPending answer = absurd answer
answer_ends (Agreed raised count value) answer = inl (value, count, raised, refl)
answer_ends (Shrunk j context size) answer = inr (inl (j, context, size, refl))
answer_ends Done answer = inr (inr refl)

module _ {P : Type 0} (meld : P → P → P) (alone : Bool) (name : Over P) (c : ℕ) where
  -- what pending polls leave as it was: the rank's number, what it holds, and that its pass goes on from what it had seen
  pub record HasPended (old : Record) (before : Sight P) (own : Record) (at : Sight P) : Type 0 where
    pub number : own.number ≡ old.number
    pub held : own.held ≡ old.held
    pub begins : IsPrefix before.seen at.seen

  -- no poll has pended yet
  has_begun : (old : Record) (before : Sight P) → HasPended old before old before
  has_begun old before = record { number = refl; held = refl; begins = ([], append-nil before.seen) }

  -- the last poll, and how it stands before it
  pub record IsLast (old : Record) (before : Sight P) (result : Result (Polled P) Refusal) (new : Record) (after : Sight P) : Type 0 where
    pub own : Record
    pub at : Sight P
    pub of : IsView meld (view_at name at)
    pub fits : Fits meld name.limits at.seen own
    pub pended : HasPended old before own at
    pub answered : IfOk result IsNotPending
    pub poll : PollIs meld alone (Poll own.number c) (local own (view_at name at)) result (local new (view_at name after))

  -- a rank started a request, and then polled until one poll was answered
  pub record IsAwaited (asked : Call P) (old : Record) (before : Sight P) (result : Result (Polled P) Refusal) (new : Record) (after : Sight P) : Type 0 where
    pub own : Record
    pub at : Sight P
    pub starts : Calls meld alone asked (local old (view_at name before)) Started (local own (view_at name at))
    pub polls : IsPolledOn meld alone c (local own (view_at name at)) result (local new (view_at name after))

  -- a pending poll comes first
  pub pends_first : (old mid : Record) (before then : Sight P) (result : Result (Polled P) Refusal) (new : Record) (after : Sight P) → Calls meld alone (Poll old.number c) (local old (view_at name before)) Pending (local mid (view_at name then))
      → IsPolledOn meld alone c (local mid (view_at name then)) result (local new (view_at name after)) → IsPolledOn meld alone c (local old (view_at name before)) result (local new (view_at name after))
  pends_first old mid before then result new after called (n, rest) = (suc n, (mid, then, called, rest))

  -- a call goes on from what was seen
  pub goes_on : (asked : Call P) (old : Record) (before : Sight P) (reply : Reply P) (new : Record) (after : Sight P) → IsView meld (view_at name before) → Calls meld alone asked (local old (view_at name before)) reply (local new (view_at name after)) → IsPrefix before.seen after.seen
  goes_on asked old before reply new after of calls = (call_legal meld name.limits alone before.seen after.seen old asked reply new of.legal (called_run meld alone name asked old before reply new after calls)).0

  -- there is a last poll
  pub last_poll : (n : ℕ) (old : Record) (before : Sight P) (result : Result (Polled P) Refusal) (new : Record) (after : Sight P) → IsView meld (view_at name before) → Fits meld name.limits before.seen old
      → PollsUntil meld alone c n (local old (view_at name before)) result (local new (view_at name after)) → IsLast old before result new after
  last_poll zero old before result new after of fits polls = record {
    own = old;
    at = before;
    of = of;
    fits = fits;
    pended = has_begun old before;
    answered = polls.0;
    poll = polls.1;
  }
  last_poll (suc n) old before result new after of fits (mid, then, called, rest) =
      let last = last_poll n mid then result new after called.linearizes.of called.linearizes.fits rest in
      let call = called_run meld alone name (Poll old.number c) old before Pending mid then called in
      record {
        own = last.own;
        at = last.at;
        of = last.of;
        fits = last.fits;
        pended = record {
          number = last.pended.number ∙ call_number meld name.limits alone before.seen then.seen old (Poll old.number c) Pending mid call;
          held = last.pended.held ∙ pending_holds meld name.limits alone before.seen then.seen old mid c call;
          begins = prefix_trans before.seen then.seen last.at.seen (goes_on (Poll old.number c) old before Pending mid then of called) last.pended.begins;
        };
        answered = last.answered;
        poll = last.poll;
      }

  -- the last poll's call, where it was answered
  last_goes : (own : Record) (at : Sight P) (reply : Polled P) (new : Record) (after : Sight P) → IsView meld (view_at name at) → PollIs meld alone (Poll own.number c) (local own (view_at name at)) (Ok reply) (local new (view_at name after)) → IsPrefix at.seen after.seen × IsLegal meld name.limits after.seen
  last_goes own at reply new after of called = (goes_on (Poll own.number c) own at (polled reply) new after of called, called.linearizes.of.legal)

  -- a start that started is on a communicator that the rank holds
  pub started_on : (asked : Call P) (old : Record) (before : Sight P) (own : Record) (at : Sight P) → Calls meld alone asked (local old (view_at name before)) Started (local own (view_at name at)) → (x : Held) × (held_at old (comm_of asked) ≡ Some x)
  started_on asked old before own at calls = go (called_run meld alone name asked old before Started own at calls)
    where
      go : IsCall meld name.limits alone (moment old before.seen) asked Started (moment own at.seen) → (x : Held) × (held_at old (comm_of asked) ≡ Some x)
      go (inl refused) = absurd (cc (refused.2))
      go (inr run) = let on = answered_on meld name.limits alone before.seen at.seen old asked Started own run (λ refusal is. absurd (cc is)) in (on.x, on.held)

  -- the request of such a call is open at its last poll, as the start left it
  open_last : (old own last : Record) (x : Held) (f : Held → Held) → ((y : Held) → (f y).comm ≡ y.comm) → held_at old c ≡ Some x → own.held ≡ change_at c f old.held → last.held ≡ own.held
      → held_at last c ≡ Some (f x)
  open_last old own last x f same held opens kept = ap (λ h. find (λ y. y.comm == c) h) (kept ∙ opens) ∙ find_change c f same old.held x held

  -- what an agree tells that started and was polled until it was answered
  pub tells_agree : (value : P) (old : Record) (before : Sight P) (reply : Polled P) (new : Record) (after : Sight P)
      → IsAwaited (Agree old.number c value) old before (Ok reply) new after → TellsAgree meld name.limits after.seen c value old reply
  tells_agree value old before reply new after awaited =
      let limits = name.limits in
      let starts = called_run meld alone name (Agree old.number c value) old before Started awaited.own awaited.at awaited.starts in
      let on = started_on (Agree old.number c value) old before awaited.own awaited.at awaited.starts in
      let x = on.0 in
      let opens = agree_opened meld limits alone before.seen awaited.at.seen old awaited.own c value x on.1 starts in
      let last = last_poll awaited.polls.0 awaited.own awaited.at (Ok reply) new after awaited.starts.linearizes.of awaited.starts.linearizes.fits awaited.polls.1 in
      let polls = called_run meld alone name (Poll last.own.number c) last.own last.at (polled reply) new after last.poll in
      let f : Held → Held = λ y. opened y (Some (OpenAgree y.next_agreement)) in
      let there = open_last old awaited.own last.own x f (λ y. refl) on.1 opens.0 last.pended.held in
      let told = agree_tells meld limits alone last.at.seen after.seen last.own new c x.next_agreement (f x) (polled reply) last.fits there refl (answer_ends reply last.answered) polls in
      let more = last_goes last.own last.at reply new after last.of last.poll in
      record {
        x = x;
        held = on.1;
        decision = told.0;
        gave = gave_lasts meld limits awaited.at.seen after.seen (prefix_trans awaited.at.seen last.at.seen after.seen last.pended.begins more.0) more.1 c x.next_agreement old.number value opens.1;
      }

  -- what a shrink tells that started and was polled until it was answered
  pub tells_shrink : (old : Record) (before : Sight P) (reply : Polled P) (new : Record) (after : Sight P)
      → IsAwaited (Shrink old.number c) old before (Ok reply) new after → TellsShrink meld name.limits after.seen c old reply
  tells_shrink old before reply new after awaited =
      let limits = name.limits in
      let starts = called_run meld alone name (Shrink old.number c) old before Started awaited.own awaited.at awaited.starts in
      let on = started_on (Shrink old.number c) old before awaited.own awaited.at awaited.starts in
      let x = on.0 in
      let last = last_poll awaited.polls.0 awaited.own awaited.at (Ok reply) new after awaited.starts.linearizes.of awaited.starts.linearizes.fits awaited.polls.1 in
      let polls = called_run meld alone name (Poll last.own.number c) last.own last.at (polled reply) new after last.poll in
      let f : Held → Held = λ y. opened y (Some (OpenShrink y.next_agreement)) in
      let opens = shrink_opened meld limits alone before.seen awaited.at.seen old awaited.own c starts in
      let there = open_last old awaited.own last.own x f (λ y. refl) on.1 opens last.pended.held in
      let told = shrink_tells meld limits alone last.at.seen after.seen last.own new c x.next_agreement (f x) (polled reply) last.fits there refl (answer_ends reply last.answered) polls in
      let number = last.pended.number ∙ call_number meld limits alone before.seen awaited.at.seen old (Shrink old.number c) Started awaited.own starts in
      record { x = x; held = on.1; made = subst (λ r. IsMadeOf meld limits after.seen c x.next_agreement r (polled reply)) number told.0 }

-- what isn't pending is an answer
pub is_answer : {P : Type 0} (reply : Polled P) → (reply ≡ StillPending → ⊥) → IsNotPending reply
is_answer StillPending other = other refl
is_answer (Agreed raised count value) other = tt
is_answer (Shrunk j context size) other = tt
is_answer Done other = tt

module _ {P : Type 0} (meld : P → P → P) (pack : P → ℕ) where
  -- a member of these words
  pub same_words : (name : Name) (m : Membership P) → m.view.words ≡ name → IsView meld (view_of pack name m.view.pass) → Fits meld name.limits m.view.pass.seen m.own → IsMember meld pack m
  same_words name m same of fits = record {
    of = subst (λ w. IsView meld (view_of pack w m.view.pass)) (sym same) of;
    fits = subst (λ (w : Name). Fits meld w.limits m.view.pass.seen m.own) (sym same) fits;
  }

module _ {P : Type 0} (meld : P → P → P) (pack : P → ℕ) (alone : Bool) (c : ℕ) where
  -- polls of a member are polls of its rank with its pass
  polls_seen : (n : ℕ) (name : Name) (old : Membership P) (result : Result (Polled P) Refusal) (new : Membership P) → old.view.words ≡ name → MemberPollsUntil (setting_of meld pack alone) c n old result new
      → PollsUntil meld alone c n (local old.own (view_of pack name old.view.pass)) result (local new.own (view_of pack name new.view.pass))
  polls_seen zero name old result new same polls = (polls.0, subst (λ w. PollIs meld alone (Poll old.own.number c) (local old.own (view_of pack w old.view.pass)) result (local new.own (view_of pack w new.view.pass))) same polls.1.polls.run)
  polls_seen (suc n) name old result new same (mid, pends, rest) =
      (mid.own, mid.view.pass, subst (λ w. Calls meld alone (Poll old.own.number c) (local old.own (view_of pack w old.view.pass)) Pending (local mid.own (view_of pack w mid.view.pass))) same pends.polls.run, polls_seen n name mid result new (pends.words ∙ same) rest)

  -- and so is a request that was awaited
  awaited_seen : (asked : Call P) (old : Membership P) (result : Result (Polled P) Refusal) (new : Membership P) → MemberAwaits (setting_of meld pack alone) c asked old result new
      → IsAwaited meld alone (over pack old.view.words) c asked old.own old.view.pass result new.own new.view.pass
  awaited_seen asked old result new awaits = record {
    own = awaits.mid.own;
    at = awaits.mid.view.pass;
    starts = awaits.starts.calls;
    polls = (awaits.polls.0, polls_seen awaits.polls.0 old.view.words awaits.mid result new awaits.starts.words awaits.polls.1);
  }

  -- what polls leave is a member of the same words
  pub poll_member : (old : Membership P) (result : Result (Polled P) Refusal) (new : Membership P) → MemberPolls (setting_of meld pack alone) c old result new → IsMember meld pack new
  poll_member old result new polls = same_words meld pack old.view.words new polls.words polls.polls.of polls.polls.fits

  polled_until : (n : ℕ) (old : Membership P) (result : Result (Polled P) Refusal) (new : Membership P) → MemberPollsUntil (setting_of meld pack alone) c n old result new → (new.view.words ≡ old.view.words) × IsMember meld pack new
  polled_until zero old result new polls = (polls.1.words, poll_member old result new polls.1)
  polled_until (suc n) old result new (mid, pends, rest) = let later = polled_until n mid result new rest in (later.0 ∙ pends.words, later.1)

  -- a pending poll of a member comes first
  pub member_pends : (old mid new : Membership P) (result : Result (Polled P) Refusal) → MemberPolls (setting_of meld pack alone) c old (Ok StillPending) mid → MemberPollsOn (setting_of meld pack alone) c mid result new
      → MemberPollsOn (setting_of meld pack alone) c old result new
  member_pends old mid new result pends (n, rest) = (suc n, (mid, pends, rest))

  -- and one that isn't pending last
  pub member_answered : (old new : Membership P) (result : Result (Polled P) Refusal) → MemberPolls (setting_of meld pack alone) c old result new → IfOk result IsNotPending → MemberPollsOn (setting_of meld pack alone) c old result new
  member_answered old new result polls answered = (0, (answered, polls))

  awaited_runs : (asked : Call P) (old : Membership P) (result : Result (Polled P) Refusal) (new : Membership P) → MemberAwaits (setting_of meld pack alone) c asked old result new → MemberRuns (setting_of meld pack alone) c asked old result new
  awaited_runs asked old (Ok reply) new awaits = awaits
  awaited_runs asked old (Err refusal) new awaits = inr awaits

  -- a member that started and was polled on has waited
  pub member_waits : (asked : Call P) (old mid new : Membership P) (result : Result (Polled P) Refusal) → MemberCalls (setting_of meld pack alone) asked old Started mid → MemberPollsOn (setting_of meld pack alone) c mid result new
      → MemberWaits (setting_of meld pack alone) c asked old result new
  member_waits asked old mid new result starts polls =
      let later = polled_until polls.0 mid result new polls.1 in
      record {
        words = later.0 ∙ starts.words;
        is = later.1;
        run = awaited_runs asked old result new (record { mid = mid; starts = starts; polls = polls });
      }

  -- so has one whose start was refused
  pub member_refused : (asked : Call P) (old new : Membership P) (refusal : Refusal) → MemberCalls (setting_of meld pack alone) asked old (Refused refusal) new → MemberWaits (setting_of meld pack alone) c asked old (Err refusal) new
  member_refused asked old new refusal starts =
      record { words = starts.words; is = same_words meld pack old.view.words new starts.words starts.calls.linearizes.of starts.calls.linearizes.fits; run = inl starts }

  -- however its start was answered
  pub member_comes : (asked : Call P) (old mid new : Membership P) (started : Result (Unit {0}) Refusal) (result : Result (Polled P) Refusal)
      → MemberCalls (setting_of meld pack alone) asked old (reply_of (λ _. Started) started) mid → MemberPollsFrom (setting_of meld pack alone) c started mid result new
      → MemberWaits (setting_of meld pack alone) c asked old result new
  member_comes asked old mid new (Ok x) result starts polls = member_waits asked old mid new result starts polls
  member_comes asked old mid new (Err refusal) result starts (is, same) =
      subst (λ r. MemberWaits (setting_of meld pack alone) c asked old r new) (sym is)
      (subst (λ m. MemberWaits (setting_of meld pack alone) c asked old (Err refusal) m) (sym same) (member_refused asked old mid refusal starts))

  -- what an agree of a member tells
  pub member_tells : (value : P) (old new : Membership P) (result : Result (Polled P) Refusal) → MemberWaits (setting_of meld pack alone) c (Agree old.own.number c value) old result new
      → IfOk result (TellsAgree meld old.view.words.limits new.view.pass.seen c value old.own)
  member_tells value old new (Ok reply) waits =
      tells_agree meld alone (over pack old.view.words) c value old.own old.view.pass reply new.own new.view.pass (awaited_seen (Agree old.own.number c value) old (Ok reply) new waits.run)
  member_tells value old new (Err refusal) waits = tt

  -- and what a shrink tells
  pub member_made : (old new : Membership P) (result : Result (Polled P) Refusal) → MemberWaits (setting_of meld pack alone) c (Shrink old.own.number c) old result new
      → IfOk result (TellsShrink meld old.view.words.limits new.view.pass.seen c old.own)
  member_made old new (Ok reply) waits = tells_shrink meld alone (over pack old.view.words) c old.own old.view.pass reply new.own new.view.pass (awaited_seen (Shrink old.own.number c) old (Ok reply) new waits.run)
  member_made old new (Err refusal) waits = tt

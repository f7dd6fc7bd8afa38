-- One step of a call that has looked: what it tells may come.
use Rattle.std.proofs.Common.{◌≡◌, ◌⊎◌, ℕ, ◌<◌, ◌≤◌, ◌==◌, Bool, true, false, List, [], ◌∷◌, ◌++◌, length, Option, Some, None, is_some, refl, ap, ap₂, sym, ◌∙◌, subst, arith, append-nil, append_assoc, inl, inr, IsTrue, if◌then◌else◌}
use Rattle.std.specs.Prelude.{MatchOption}
use Rattle.std.specs.Option.{option_map_or}
use mathlib.Core.List.{IsPrefix}
use Rattle.ulfm_model.specs.declared.call.Call.TheVariants as call
use Rattle.ulfm_model.specs.declared.{call.Call.{Call}, call.Request.{Request}, call.Request.TheVariants.{Agree, Barrier, Shrink}, event.Caller.{Caller}, event.Caller.TheVariants.{Outside, Rank}, event.Event.{Event}, refusal.Refusal.TheVariants.{ProcFailed}, reply.Reply.{Reply}, reply.Reply.TheVariants.{Pending, Refused, Revoked, Started}}
use Rattle.ulfm_model.specs.{Answers.{CallAdds, PollAdds, MayOwn, polled_by, rank_of, refusal_of, traits_of}, History.{History, IsLegal, MayFollow, entries_by, failures, says}, Records.{Fits, Held, Record, held_at, is_shrink}, Runs.{Did}}
use Rattle.ulfm_model.specs.Terms.{comm_of}
use Rattle.ulfm_model.proofs.{Histories.{legal_parts}, Lists.{prefix_trans}}
use Rattle.ulfm_model.specs.Records.{moment}
use Rattle.ulfm_words.specs.Steps.{IsView, Sight, Over as Named, view_at}
use Rattle.ulfm_words.proofs.Trails.{did_prefix, did_quiet}
use Rattle.ulfm_steps.specs.declared.{arrivals.Missing.{Missing}}
use Rattle.ulfm_comm.specs.Missing.{AnsweredNow, AnswersMissing, FindsMissing, FoundNow, Midway, midway}
use Rattle.ulfm_comm.specs.{Barrier.{AnswersEarly, IsChecking}, Calls.{Linearizes, RepliedAs, HasReplied, wants_memory}, Ends.{IsEarlyRun, IsEndRun, IsRefusedAgain}, Phase.{Answered, Idles, LeadsTo, Stands, StandsAt, UnderWay, is_checking, is_making, next_of, reply_in}, Step.{Adds, Makes, StepAdds, Stepped}, StepsLeft.{FewerLeft, steps_left}}
use Rattle.ulfm_comm.specs.declared.phases.phase.{Phase.{Phase}, Phase.TheVariants.{Over, Begun, Looking, Spreading, Settling, Arriving, Revoking, Asking, Peeking, Marking, Reading, ReadingOn, Spawning, Waiting, Checking}}
use Rattle.ulfm_comm.proofs.{StepAdds.{adds_none}, AmongOthers.{waits_none}, Stands.{stands_lasts}}
use Rattle.ulfm_comm.specs.Local.{frame, local}
use Rattle.ulfm_model.specs.declared.line.Line.TheVariants.{Happened}
use Rattle.ulfm_model.specs.Traces.{MayCome, Traced, Under, after, call_by, found_by, same_caller, with_event}
use Rattle.ulfm_model.proofs.Callers.{find_change, same_rank}
use Rattle.ulfm_lines.proofs.Calls.{keeps_asked}
use Rattle.ulfm_run.specs.Stepping.{FoundAt, HasCalled, KnowsCall, events_by, is_early, point_of}
use Rattle.ulfm_run.proofs.{ByPhase.{found_by_check}, Ending.{ends_so, found_is, lists_none, may_list}, Knowing.{known_then}, Nexts.{reply_next}, Phases.{IsBarrier, barrier_phase, checking_polls, making_shrinks, seen_stays, stands_same, stays_making, stays_past}}
use Rattle.ulfm_run.proofs.{Replying.{by_append, reply_answers}, Reseen.{own_reseen, reseen}, Swapping.{answer_swaps}, Turns.{EndsSo, NextAt, SaysStep}}

-- an event that needs no look may be added with any
widened : {P : Type 0} (look : List ℕ) (r : ℕ) (x : Held) (asked : Call P) (event : Event P) → CallAdds [] r x asked event → CallAdds look r x asked event
widened look r x (call.Fail rank) event a = absurd a
widened look r x (call.GetFailed rank c) event a = absurd a
widened look r x (call.FailureGetAcked rank c) event a = absurd a
widened look r x (call.Ack rank c count) event a = absurd a
widened look r x (call.FailureAck rank c) event a = absurd a
widened look r x (call.Agree rank c value) event a = a
widened look r x (call.Shrink rank c) event a = a
widened look r x (call.Barrier rank c) event a = a
widened {P} look r x (call.Poll rank c) event a = go x.request a
  where
    go : (request : Option Request) → PollAdds [] x request event → PollAdds look x request event
    go None a = absurd a
    go (Some (Agree k)) (s, mark, is, seen, among) = absurd (cc seen)
    go (Some (Shrink k)) (inl (s, mark, is, seen, among)) = absurd (cc seen)
    go (Some (Shrink k)) (inr made) = inr made
    go (Some (Barrier k)) a = absurd a
widened look r x (call.Revoke rank c) event a = a
widened look r x (call.IsRevoked rank c) event a = absurd a
widened look r x (call.Free rank c) event a = absurd a

adds_widened : {P : Type 0} (look : List ℕ) (own : Record) (asked : Call P) (reply : Option (Reply P)) (old new : History P) → Adds true [] own asked reply old new → Adds true look own asked reply old new
adds_widened {P} look own asked reply old new adds = record { events = adds.events; did = adds.did; few = go adds.few }
  where
    go : (adds.events ≡ []) ⊎ ((event : Event P) × (adds.events ≡ event ∷ []) × Makes [] own asked reply event) → (adds.events ≡ []) ⊎ ((event : Event P) × (adds.events ≡ event ∷ []) × Makes look own asked reply event)
    go (inl none) = inl none
    go (inr (event, is, makes)) = inr (event, is, record { x = makes.x; held = makes.held; adds = widened look own.number makes.x asked event makes.adds; wins = makes.wins })

-- what a step adds, whatever the call does, by the failures that its look found
module _ {P : Type 0} (look : List ℕ) (own : Record) (asked : Call P) (reply : Option (Reply P)) (old new : History P) where
  pub adds_of : (phase : Phase P) → (is_making phase ≡ false → own.seen ≡ look) → StepAdds true own asked phase reply old new → Adds true look own asked reply old new
  adds_of Over sees did = adds_none true look own asked reply old new did
  adds_of Begun sees did = adds_none true look own asked reply old new did
  adds_of Looking sees did = adds_none true look own asked reply old new did
  adds_of (Spreading request offer) sees did = adds_none true look own asked reply old new did
  adds_of (Settling request offer) sees adds = subst (λ s. Adds true s own asked reply old new) (sees refl) adds
  adds_of (Arriving round) sees adds = subst (λ s. Adds true s own asked reply old new) (sees refl) adds
  adds_of Revoking sees adds = subst (λ s. Adds true s own asked reply old new) (sees refl) adds
  adds_of Asking sees did = adds_none true look own asked reply old new did
  adds_of (Peeking peek shrinks) sees did = adds_none true look own asked reply old new did
  adds_of (Marking marks blocks shrinks) sees adds = subst (λ s. Adds true s own asked reply old new) (sees refl) adds
  adds_of (Reading reading shrinks) sees did = adds_none true look own asked reply old new did
  adds_of (ReadingOn on made) sees did = adds_none true look own asked reply old new did
  adds_of (Spawning append context reach) sees adds = adds_widened look own asked reply old new adds
  adds_of (Waiting arrivals) sees did = adds_none true look own asked reply old new did
  adds_of (Checking missing) sees did = adds_none true look own asked reply old new did

-- a history without a step's event, or with it
pub did_is : {P : Type 0} (own x y : History P) → Did true own x y → x ++ own ≡ y
did_is own x y did = ap (λ w. x ++ w) (sym (did.quiet refl)) ∙ did.goes_on

-- a barrier's poll that makes its last load next
checking_is : {P : Type 0} (phase : Phase P) → is_checking phase ≡ true → (missing : Missing) × (phase ≡ Checking missing)
checking_is (Checking missing) is = (missing, refl)
checking_is _ is = absurd (cc is)

module _ {P : Type 0} (meld : P → P → P) (name : Named P) (now : Traced P) (pass after_it : Sight P) (own : Record) (found : ℕ) (doing : UnderWay P) (h : HasCalled meld name now pass own found doing) (of_old : IsView meld (view_at name pass))
    (result : Option (Reply P)) (own' : Record) (doing' : UnderWay P) (s : Stepped meld true doing (local own (view_at name pass)) (next_of result doing'.phase) (local own' (view_at name after_it))) (asked' : doing'.asked ≡ doing.asked)
    (ends : MatchOption result (Stands meld false (local h.old (view_at name h.before)) doing' (local own' (view_at name after_it))) (λ reply. Answered meld false doing.asked (local h.old (view_at name h.before)) reply (local own' (view_at name after_it)))) where
  abbrev start : History P
  start = h.before.seen

  abbrev look : List ℕ
  look = failures start

  own_number : own.number ≡ h.old.number
  own_number = ap (λ (w : Record). w.number) h.own_same

  own_held : (c : ℕ) → held_at h.old c ≡ held_at own c
  own_held c = sym (ap (λ (w : Record). held_at w c) h.own_same)

  begins_now : IsPrefix start now.history
  begins_now = (h.rest, h.since ∙ sym h.known.said.history)

  added : Adds true look own doing.asked result pass.seen after_it.seen
  added = adds_of look own doing.asked result pass.seen after_it.seen doing.phase h.sees (subst (λ r. StepAdds true own doing.asked doing.phase r pass.seen after_it.seen) (reply_next result doing'.phase) s.adds)

  -- but for a shrink's poll, what was seen is what the look found
  seen_then : is_shrink (polled_by h.old doing.asked) ≡ false → own'.seen ≡ look
  seen_then other = go (is_making doing.phase) refl
    where
      go : (b : Bool) → is_making doing.phase ≡ b → own'.seen ≡ look
      go true making = absurd (cc (making_shrinks meld false name doing.asked h.old h.before doing.prepared own h.stood h.known.in_use doing.phase making h.stands.at, other))
      go false not = seen_stays doing.phase h.past not own.seen own'.seen s.sees ∙ h.sees not

  -- the event of a step
  module _ (event : Event P) (makes : Makes look own doing.asked result event) (one_more : pass.seen ++ record { by = Rank own.number; event = event } ∷ [] ≡ after_it.seen) where
    may_own : MayOwn (found_by now h.u) (reseen h.old h.known.said.seen) h.u.asked event
    may_own =
        let found_there = found_is now h.u start h.look begins_now in
        own_reseen (found_by now h.u) h.old h.known.said.seen h.u.asked event (subst (λ (a : Call P). MayOwn (found_by now h.u) h.old a event) (sym h.known.asked_is)
        (subst (λ s. MayOwn s h.old doing.asked event) (sym found_there) (record {
          not_declared = h.not_declared;
          not_refused = h.not_refused;
          adds = (makes.x, own_held (comm_of doing.asked) ∙ makes.held, subst (λ n. CallAdds look n makes.x doing.asked event) own_number makes.adds);
        })))

    may_follow : MayFollow meld now.limits now.history event
    may_follow =
        let legal = subst (IsLegal meld name.limits) (sym one_more) s.of.legal in
        let last = (legal_parts meld name.limits pass.seen (record { by = Rank own.number; event = event } ∷ []) legal).1.0 in
        subst (λ l. MayFollow meld l now.history event) (sym h.known.said.limits) (subst (λ w. MayFollow meld name.limits w event) (sym h.known.said.history) last)

    may_happen : MayCome meld now [] (Happened (Rank own.number) (Some event))
    may_happen = (may_follow, record { call = h.u; is_open = h.known.said.call_is; looked = subst (λ o. IsTrue (is_some o)) (sym h.look) refl; own = reseen h.old h.known.said.seen; has_record = h.known.said.record_is; may_own = may_own })

    abbrev next : Traced P
    next = after now (Happened (Rank own.number) (Some event))

    abbrev u_next : Under P
    u_next = record h.u { own = h.u.own ++ event ∷ [] }

    history_then : next.history ≡ after_it.seen
    history_then = ap (λ w. w ++ record { by = Rank own.number; event = event } ∷ []) h.known.said.history ∙ one_more

    owned : (traits_of h.u.asked).by ≡ Rank own.number
    owned = ap (λ (a : Call P). (traits_of a).by) h.known.asked_is ∙ (h.stands.mine ∙ ap Rank (sym own_number))

    u_then : with_event event h.u ≡ u_next
    u_then = by_owner (traits_of h.u.asked).by owned
      where
        by_owner : (by : Caller) → by ≡ Rank own.number → (if (if same_caller by Outside then option_map_or (λ r. r == rank_of h.u.asked) (says event).declares false else true) then record h.u { own = h.u.own ++ event ∷ [] } else h.u) ≡ record h.u { own = h.u.own ++ event ∷ [] }
        by_owner (Rank r) is = refl
        by_owner Outside is = absurd (cc is)

    call_then : call_by next (Rank own.number) ≡ Some u_next
    call_then = find_change (Rank own.number) (with_event event) (keeps_asked event) now.calls h.u h.known.said.call_is ∙ ap Some u_then

    own_then : events_by (Rank own.number) (h.rest ++ record { by = Rank own.number; event = event } ∷ []) ≡ h.u.own ++ event ∷ []
    own_then = by_append (Rank own.number) h.rest (record { by = Rank own.number; event = event } ∷ []) ∙ ap₂ (λ a b. a ++ b) h.own_is (ap (λ (b : Bool). if b then event ∷ [] else []) (same_rank own.number))

    since_then : start ++ (h.rest ++ record { by = Rank own.number; event = event } ∷ []) ≡ after_it.seen
    since_then = sym (append_assoc start h.rest (record { by = Rank own.number; event = event } ∷ [])) ∙ (ap (λ w. w ++ record { by = Rank own.number; event = event } ∷ []) h.since ∙ one_more)

  -- What is said when the step has ended, `t`, with the call as `u`, and what came since its look: no event of the call that is new, or one.
  record Said (t : Traced P) (u : Under P) (rest : History P) : Type 0 where
    pub known : KnowsCall name t after_it own doing.asked u h.old
    pub begun : u.begun ≤ length start
    pub look_is : u.look ≡ Some (length look)
    pub since : start ++ rest ≡ after_it.seen
    pub own_is : events_by (Rank own.number) rest ≡ u.own
    pub adds : (u.own ≡ h.u.own) ⊎ ((event : Event P) × (u.own ≡ h.u.own ++ event ∷ []) × Makes look own doing.asked result event)

  module _ (t : Traced P) (u : Under P) (rest : History P) (x : Said t u rest) where
    -- the call goes on
    goes_on : result ≡ None → (leads : LeadsTo doing.phase (next_of None doing'.phase)) → Stands meld false (local h.old (view_at name h.before)) doing' (local own' (view_at name after_it)) → (found' : ℕ) → FoundAt meld name.limits (comm_of doing'.asked) (moment h.old start) (moment own' after_it.seen) found' doing'.phase
        → (own'.number ≡ own.number) × HasCalled meld name t after_it own' found' doing'
    goes_on going leads stands found' found_at =
        let past = stays_past doing.phase doing'.phase h.past leads in
        let same = stands_same meld false name doing'.asked h.old h.before doing'.prepared own' after_it h.known.in_use doing'.phase past stands.at in
        let number : own.number ≡ own'.number = own_number ∙ sym (ap (λ (w : Record). w.number) same) in (
          sym number,
          record {
            u = u;
            old = h.old;
            known = known_then x.known number (sym asked') refl;
            before = h.before;
            stood = after_it;
            stands = stands;
            waits = waits_none after_it;
            past = past;
            own_same = same;
            sees = λ not. sees (is_making doing.phase) refl not;
            begun = x.begun;
            look = x.look_is;
            rest = rest;
            since = x.since;
            own_is = subst (λ n. events_by (Rank n) rest ≡ u.own) number x.own_is;
            no_own = λ no_poll. no_own (ap (λ (a : Call P). (traits_of a).polls) (sym asked') ∙ no_poll) x.adds;
            not_declared = h.not_declared;
            not_refused = ap (refusal_of h.old) asked' ∙ h.not_refused;
            found_at = found_at;
          },
        )
      where
        sees : (b : Bool) → is_making doing.phase ≡ b → is_making doing'.phase ≡ false → own'.seen ≡ look
        sees true making not = absurd (cc (stays_making doing.phase doing'.phase making leads, not))
        sees false before not = seen_stays doing.phase h.past before own.seen own'.seen s.sees ∙ h.sees before

        -- an event of a call that doesn't poll is answered at once
        no_own : (traits_of doing.asked).polls ≡ false → (u.own ≡ h.u.own) ⊎ ((event : Event P) × (u.own ≡ h.u.own ++ event ∷ []) × Makes look own doing.asked result event) → u.own ≡ []
        no_own no_poll (inl same) = same ∙ h.no_own no_poll
        no_own no_poll (inr (event, own_more, makes)) = no_more (makes.wins no_poll)
          where
            no_more : (result ≡ Some Started) ⊎ (result ≡ Some Revoked) → u.own ≡ []
            no_more (inl is) = absurd (cc (is, going))
            no_more (inr is) = absurd (cc (is, going))

    -- it is answered, at the present point
    ends_now : (reply : Reply P) → result ≡ Some reply → IsEndRun meld name.limits false (moment h.old start) doing.asked reply (moment own' after_it.seen) → Fits meld name.limits after_it.seen own'
        → EndsSo meld name t after_it own.number (comm_of doing.asked) (length after_it.seen) reply own'
    ends_now reply is ended fits =
        let answers = reply_answers meld name.limits start after_it.seen h.old doing.asked reply own' ended rest x.since u.own (subst (λ n. events_by (Rank n) rest ≡ u.own) own_number x.own_is) (λ no_poll. few no_poll x.adds) seen_then in
        ends_so meld name t after_it own.number h.old x.known.said.seen u doing.asked start after_it.seen rest [] reply own' x.known.said.limits x.known.said.history x.known.said.call_is x.known.said.record_is own_number x.known.in_use x.known.asked_is x.begun x.look_is x.since
        (append-nil after_it.seen) answers ended fits (may_list meld name.limits start after_it.seen h.old doing.asked own' fits reply ended)
      where
        how : (result ≡ Some Started) ⊎ (result ≡ Some Revoked) → (reply ≡ Started) ⊎ (reply ≡ Revoked)
        how (inl started) = inl (cc (is, started))
        how (inr revoked) = inr (cc (is, revoked))

        few : (traits_of doing.asked).polls ≡ false → (u.own ≡ h.u.own) ⊎ ((event : Event P) × (u.own ≡ h.u.own ++ event ∷ []) × Makes look own doing.asked result event)
            → (u.own ≡ []) ⊎ ((e : Event P) × (u.own ≡ e ∷ []) × ((reply ≡ Started) ⊎ (reply ≡ Revoked)))
        few no_poll (inl same) = inl (same ∙ h.no_own no_poll)
        few no_poll (inr (event, own_more, makes)) = inr (event, own_more ∙ ap (λ es. es ++ event ∷ []) (h.no_own no_poll), how (makes.wins no_poll))

  abbrev Says : (Traced P → Type 0) → Type 0
  Says Then = SaysStep meld now own.number pass.seen after_it.seen Then

  same_history : added.events ≡ [] → pass.seen ≡ after_it.seen
  same_history none = sym (append-nil pass.seen) ∙ (ap (λ es. pass.seen ++ entries_by (Rank own.number) es) (sym none) ∙ did_is (entries_by (Rank own.number) added.events) pass.seen after_it.seen added.did)

  one_more : (event : Event P) → added.events ≡ event ∷ [] → pass.seen ++ record { by = Rank own.number; event = event } ∷ [] ≡ after_it.seen
  one_more event one = ap (λ es. pass.seen ++ entries_by (Rank own.number) es) (sym one) ∙ did_is (entries_by (Rank own.number) added.events) pass.seen after_it.seen added.did

  abbrev Few : Type 0
  Few = (added.events ≡ []) ⊎ ((event : Event P) × (added.events ≡ event ∷ []) × Makes look own doing.asked result event)

  abbrev HasSaid : Traced P → Type 0
  HasSaid t = (u : Under P) × (rest : History P) × Said t u rest

  -- it told an event or not
  said : Few → Says HasSaid
  said (inl none) =
      let same = same_history none in
      inl (
        same,
        (
          h.u,
          h.rest,
          record {
            known = known_then h.known refl refl same;
            begun = h.begun;
            look_is = h.look;
            since = h.since ∙ same;
            own_is = h.own_is;
            adds = inl refl;
          },
        ),
      )
  said (inr (event, one, makes)) =
      let more = one_more event one in
      inr (
        event,
        more,
        may_happen event makes more,
        (
          u_next event makes more,
          h.rest ++ record { by = Rank own.number; event = event } ∷ [],
          record {
            known = record {
              said = record {
                limits = h.known.said.limits;
                history = history_then event makes more;
                call_is = call_then event makes more;
                seen = h.known.said.seen;
                record_is = h.known.said.record_is;
              };
              asked_is = h.known.asked_is;
              in_use = h.known.in_use;
            };
            begun = h.begun;
            look_is = h.look;
            since = since_then event makes more;
            own_is = own_then event makes more;
            adds = inr (event, refl, makes);
          },
        ),
      )

  -- and so what holds where so much is said holds then
  says_as : (Then : Traced P → Type 0) → ((t : Traced P) → HasSaid t → Then t) → Says Then
  says_as Then holds = go (said added.few)
    where
      go : Says HasSaid → Says Then
      go (inl (same, is)) = inl (same, holds now is)
      go (inr (event, more, may, is)) = inr (event, more, may, holds (after now (Happened (Rank own.number) (Some event))) is)

  -- the poll of a barrier found somebody missing before its last load, and is answered as it was then
  module _ (missing : Missing) (phase_is : doing.phase ≡ Checking missing) (polls : doing.asked ≡ call.Poll h.old.number (comm_of doing.asked)) (earlier : History P) (i : IsChecking (frame meld name.limits false) (comm_of doing.asked) missing earlier (moment h.old start) (moment own pass.seen))
      (still : pass.seen ≡ after_it.seen) where
    says_early : (reply : Reply P) → is_early reply ≡ true → IsEndRun meld name.limits false (moment h.old start) doing.asked reply (moment own' earlier) → Fits meld name.limits after_it.seen own' → EndsSo meld name now after_it own.number (comm_of doing.asked) (length earlier) reply own'
    says_early reply early ended fits =
        let w = i.waits in
        let from_start = prefix_trans start w.since.look earlier (did_prefix false [] start w.since.look w.since.looked.did) (did_prefix false [] w.since.look earlier w.waited) in
        let to_now = did_prefix false [] earlier pass.seen i.waited in
        let polling : (traits_of doing.asked).polls ≡ true = ap (λ (a : Call P). (traits_of a).polls) polls in
        let answers = reply_answers meld name.limits start earlier h.old doing.asked reply own' ended from_start.0 from_start.1 (events_by (Rank h.old.number) from_start.0) refl (λ no_poll. absurd (cc (polling, no_poll))) seen_then in
        let swapped = answer_swaps meld name.limits (record { look = look; history = earlier; own = events_by (Rank h.old.number) from_start.0; spread = true }) h.old h.u.own doing.asked reply
        (record { one = λ no_poll e is. absurd (cc (polling, no_poll)); none = λ no_poll not_started not_revoked. absurd (cc (polling, no_poll)) }) answers in
        ends_so meld name now after_it own.number h.old h.known.said.seen h.u doing.asked start earlier from_start.0 to_now.0 reply own' h.known.said.limits (h.known.said.history ∙ still) h.known.said.call_is h.known.said.record_is own_number h.known.in_use h.known.asked_is h.begun h.look from_start.1 (to_now.1 ∙ still)
        swapped ended fits (lists_none name.limits.ranks earlier (comm_of doing.asked) reply own' early)

  stands_now : Stands meld false (local h.old (view_at name h.before)) doing (local own (view_at name pass))
  stands_now = stands_lasts meld false name h.old h.before doing own h.stood pass h.stands h.waits of_old

  classified : (k : ℕ) → polled_by h.old doing.asked ≡ Some (Barrier k) → IsBarrier doing.phase
  classified k polls = barrier_phase meld false name doing.asked h.old h.before doing.prepared own h.stood h.known.in_use k polls doing.phase h.past h.stands.at

  -- a barrier's poll that makes its last load next has just found who is missing
  module _ (going : result ≡ None) (stands : Stands meld false (local h.old (view_at name h.before)) doing' (local own' (view_at name after_it))) (found' : ℕ) (found_is : found' ≡ length after_it.seen) where
    abbrev FoundIn : Phase P → Type 0
    FoundIn phase = FoundAt meld name.limits (comm_of doing'.asked) (moment h.old start) (moment own' after_it.seen) found' phase

    found_checking : (missing : Missing) → doing'.phase ≡ Checking missing → FoundIn (Checking missing)
    found_checking missing is = go (classified at.2.k (ap (polled_by h.old) (sym asked') ∙ checking_polls meld false name doing'.asked h.old h.before doing'.prepared own' after_it h.known.in_use missing at))
      where
        at : StandsAt meld false doing'.asked (local h.old (view_at name h.before)) (Checking missing) doing'.prepared (local own' (view_at name after_it))
        at = subst (λ phase. StandsAt meld false doing'.asked (local h.old (view_at name h.before)) phase doing'.prepared (local own' (view_at name after_it))) is stands.at

        next_is : next_of result doing'.phase ≡ next_of None (Checking missing)
        next_is = ap₂ next_of going is

        go : IsBarrier doing.phase → FoundIn (Checking missing)
        go (inl (arrivals, was)) =
            let at : Midway P = midway doing (local own (view_at name pass)) in
            let found = subst (λ next. FoundNow (FindsMissing meld true at (local own' (view_at name after_it))) (Waiting arrivals) next) next_is
            (subst (λ phase. FoundNow (FindsMissing meld true at (local own' (view_at name after_it))) phase (next_of result doing'.phase)) was s.checks) in
            let here = found false (λ alone. absurd (cc alone)) h.old h.before stands_now in
            (after_it.seen, subst (λ (a : Call P). IsChecking (frame meld name.limits false) (comm_of a) missing after_it.seen (moment h.old start) (moment own' after_it.seen)) (sym asked') here, sym found_is)
        go (inr (before, was)) =
            let fewer = subst (λ next. FewerLeft (steps_left name.limits own doing.asked doing.phase) name.limits own' doing.asked next) next_is s.nearer in
            let less = subst (λ phase. 1 < steps_left name.limits own doing.asked phase) was fewer in
            absurd (omega (arith, less))

    found_then : FoundIn doing'.phase
    found_then = found_by_check (λ (phase : Phase P). doing'.phase ≡ phase) meld name.limits (comm_of doing'.asked) h.old start own' after_it.seen found' found_checking doing'.phase refl

  -- the call is answered
  module _ (reply : Reply P) (is : result ≡ Some reply) (point : ℕ) (point_is : point ≡ point_of found (length after_it.seen) (is_checking doing.phase) reply) (calls : Linearizes meld false doing.asked (local h.old (view_at name h.before)) reply (local own' (view_at name after_it))) where
    abbrev SaysReply : ℕ → Type 0
    SaysReply n = Says (λ t. EndsSo meld name t after_it own.number (comm_of doing.asked) n reply own')

    abbrev Ended : Type 0
    Ended = (IsRefusedAgain h.old reply own' × (after_it ≡ h.before)) ⊎ (IsEndRun meld name.limits false (moment h.old start) doing.asked reply (moment own' after_it.seen) ⊎ IsEarlyRun meld name.limits false (moment h.old start) doing.asked reply (moment own' after_it.seen))

    -- at the present point
    present : (IsEarlyRun meld name.limits false (moment h.old start) doing.asked reply (moment own' after_it.seen) → ⊥) → SaysReply (length after_it.seen)
    present never = go calls.ends
      where
        go : Ended → SaysReply (length after_it.seen)
        go (inl again) = absurd (cc (again.0.refused, h.known.in_use))
        go (inr (inl ended)) = says_as (λ t. EndsSo meld name t after_it own.number (comm_of doing.asked) (length after_it.seen) reply own') (λ t x. ends_now t x.0 x.1 x.2 reply is ended calls.fits)
        go (inr (inr early)) = absurd (never early)

    early_is : (reply ≡ Pending) ⊎ (reply ≡ Refused ProcFailed) → is_early reply ≡ true
    early_is (inl pending) = ap is_early pending
    early_is (inr failed) = ap is_early failed

    -- the last load of a barrier's poll
    checked : (missing : Missing) → doing.phase ≡ Checking missing → SaysReply (point_of found (length after_it.seen) true reply)
    checked missing phase_is =
        let at : Midway P = midway doing (local own (view_at name pass)) in
        let answered = subst (λ next. AnsweredNow (AnswersMissing meld true at own') (Checking missing) next) (ap (λ r. next_of r doing'.phase) is)
        (subst (λ phase. AnsweredNow (AnswersMissing meld true at own') phase (next_of result doing'.phase)) phase_is s.early) in
        by_clause
        (answered false (λ alone. absurd (cc alone)) (record { old = h.old; before = start; fits = h.stands.fits; polls = polls; earlier = there.0; checking = there.1 }))
      where
        polls : doing.asked ≡ call.Poll h.old.number (comm_of doing.asked)
        polls = let at = subst (λ phase. StandsAt meld false doing.asked (local h.old (view_at name h.before)) phase doing.prepared (local own (view_at name h.stood))) phase_is h.stands.at in at.0

        there : FoundAt meld name.limits (comm_of doing.asked) (moment h.old start) (moment own pass.seen) found (Checking missing)
        there = subst (FoundAt meld name.limits (comm_of doing.asked) (moment h.old start) (moment own pass.seen) found) phase_is h.found_at

        still : pass.seen ≡ after_it.seen
        still =
            let did = subst (λ phase. StepAdds true own doing.asked phase (reply_in (next_of result doing'.phase)) pass.seen after_it.seen) phase_is s.adds in sym (did_quiet true pass.seen after_it.seen did refl)

        late : is_early reply ≡ false → SaysReply (point_of found (length after_it.seen) true reply)
        late not =
            subst SaysReply (sym (ap (λ (b : Bool). if b then found else length after_it.seen) not)) (present (λ early. let sooner = early_is early.missing in cc (sooner, not)))

        by_early : (b : Bool) → is_early reply ≡ b → IsEndRun meld name.limits false (moment h.old start) doing.asked reply (moment own' there.0) → SaysReply (point_of found (length after_it.seen) true reply)
        by_early true early ended =
            subst SaysReply (there.2 ∙ sym (ap (λ (b : Bool). if b then found else length after_it.seen) early))
            (inl (still, says_early missing phase_is polls there.0 there.1 still reply early ended calls.fits))
        by_early false not ended = late not

        by_clause : AnswersEarly (frame meld name.limits false) doing.asked missing (moment h.old start) reply (moment own' there.0) → SaysReply (point_of found (length after_it.seen) true reply)
        by_clause (inl (nobody, done)) = late (ap is_early done)
        by_clause (inr (inl revoked)) = late (ap is_early revoked)
        by_clause (inr (inr ended)) = by_early (is_early reply) refl ended

    says_reply : SaysReply point
    says_reply = go (is_checking doing.phase) refl
      where
        never : is_checking doing.phase ≡ false → IsEarlyRun meld name.limits false (moment h.old start) doing.asked reply (moment own' after_it.seen) → ⊥
        never not early = by (classified early.round early.open_is)
          where
            by : IsBarrier doing.phase → ⊥
            by (inl (arrivals, was)) = subst (λ r. LeadsTo (Waiting arrivals) (next_of r doing'.phase)) is (subst (λ phase. LeadsTo phase (next_of result doing'.phase)) was s.leads)
            by (inr (missing, was)) = let checks = ap is_checking was in cc (checks, not)

        go : (b : Bool) → is_checking doing.phase ≡ b → SaysReply point
        go true checking =
            let c = checking_is doing.phase checking in
            subst SaysReply (sym (point_is ∙ ap (λ b. point_of found (length after_it.seen) b reply) checking)) (checked c.0 c.1)
        go false not = subst SaysReply (sym (point_is ∙ ap (λ b. point_of found (length after_it.seen) b reply) not)) (present (never not))

  abbrev Comes : ℕ → ℕ → Option (Reply P) → Type 0
  Comes point found' r = Says (NextAt meld name own.number (comm_of doing.asked) point found' r after_it own' doing')

  pub comes : ((reply : Reply P) → result ≡ Some reply → wants_memory reply ≡ false) → (found' : ℕ) → found' ≡ length after_it.seen → (point : ℕ)
      → ((reply : Reply P) → result ≡ Some reply → point ≡ point_of found (length after_it.seen) (is_checking doing.phase) reply) → Comes point found' result
  comes has_memory found' found_is point point_is = go result refl ends
    where
      answered : (reply : Reply P) → result ≡ Some reply → (IsRefusedAgain h.old reply own' × Idles false h.before after_it) ⊎ HasReplied meld false doing.asked (local h.old (view_at name h.before)) reply (local own' (view_at name after_it)) → Comes point found' (Some reply)
      answered reply is (inl again) = absurd (cc (again.0.refused, h.known.in_use))
      answered reply is (inr e) =
          says_reply reply is point (point_is reply is) (subst (λ b. RepliedAs meld false doing.asked (local h.old (view_at name h.before)) reply b (local own' (view_at name after_it))) (has_memory reply is) e)

      go : (r : Option (Reply P)) → result ≡ r → MatchOption r (Stands meld false (local h.old (view_at name h.before)) doing' (local own' (view_at name after_it))) (λ reply. Answered meld false doing.asked (local h.old (view_at name h.before)) reply (local own' (view_at name after_it))) → Comes point found' r
      go None is stands =
          let leads = subst (λ r. LeadsTo doing.phase (next_of r doing'.phase)) is s.leads in
          says_as (λ t. (own'.number ≡ own.number) × HasCalled meld name t after_it own' found' doing') (λ t x. goes_on t x.0 x.1 x.2 is leads stands found' (found_then is stands found' found_is))
      go (Some reply) is a = answered reply is a.ends

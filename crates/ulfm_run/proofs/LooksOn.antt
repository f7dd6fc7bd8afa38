-- One step of a call in its look: its end, where it comes, is told at once, with the number of failures that there are.
use Rattle.std.proofs.Common.{◌≡◌, ◌⊎◌, ℕ, ◌≤◌, Bool, true, false, List, [], length, Option, Some, None, refl, ap, sym, ◌∙◌, subst, append-nil, inl, inr, IsFalse}
use Rattle.std.specs.Prelude.{MatchOption}
use Rattle.ulfm_model.specs.declared.{call.Call.{Call}, event.Caller.TheVariants.{Rank}, reply.Reply.{Reply}}
use Rattle.ulfm_model.specs.{Answers.{IsReply, IsSelfFailed, Sees, comm_of, polled_by, refusal_of}, History.{History, failures, has}, Records.{Fits, Record, is_shrink}}
use Rattle.ulfm_model.specs.declared.limits.Limits.{Limits}
use Rattle.ulfm_model.proofs.Lists.{prefix_trans}
use Rattle.ulfm_model.specs.Records.{moment}
use Rattle.ulfm_words.specs.Steps.{IsView, Sight, Over, view_at}
use Rattle.ulfm_words.proofs.Trails.{did_prefix, did_quiet}
use Rattle.ulfm_steps.specs.declared.arrivals.Missing.{Missing}
use Rattle.ulfm_comm.specs.{Barrier.{IsChecking}, Calls.{RepliedAs, HasReplied, wants_memory}, Ends.{IsEarlyRun, IsEndRun, IsRefusedAgain}, Phase.{Answered, Idles, Stands, StandsAt, UnderWay, is_looking}, Step.{StepAdds}}
use Rattle.ulfm_comm.specs.declared.phases.phase.{Phase.{Phase}, Phase.TheVariants.{Checking}}
use Rattle.ulfm_comm.proofs.AmongOthers.{waits_none}
use Rattle.ulfm_comm.specs.Local.{frame, local}
use Rattle.ulfm_model.specs.declared.line.Line.TheVariants.{Looked}
use Rattle.ulfm_model.specs.Traces.{MayCome, Traced, Under, after, call_by}
use Rattle.ulfm_model.proofs.Callers.{find_change}
use Rattle.ulfm_run.specs.Stepping.{FoundAt, HasBegun, HasCalled, KnowsCall}
use Rattle.ulfm_run.proofs.{ByPhase.{found_by_check, in_look}, Ending.{ends_so, may_list}, Knowing.{known_then}, LookedAt.{begins_again, found_all, found_by_phase, squeeze}, Replying.{reply_answers}, Reseen.{reseen}, Turns.{EndsSo, LooksOn}}
use Rattle.ulfm_comm.specs.Prepared.{Prepared}

-- a look makes no event
pub no_event : {P : Type 0} (own : Record) (asked : Call P) (phase : Phase P) (reply : Option (Reply P)) (old new : History P) → is_looking phase ≡ true → StepAdds true own asked phase reply old new → new ≡ old
no_event {P} own asked phase reply old new looking =
    in_look (λ (at : Phase P). StepAdds true own asked at reply old new → new ≡ old) (λ did. did_quiet true old new did refl) (λ did. did_quiet true old new did refl) phase looking

-- in its look, a call's rank has its number
same_number : {P : Type 0} (meld : P → P → P) (name : Over P) (asked : Call P) (old : Record) (before : Sight P) (prepared : Prepared) (own : Record) (now : Sight P) (phase : Phase P) → is_looking phase ≡ true → StandsAt meld false asked (local old (view_at name before)) phase prepared (local own (view_at name now)) → own.number ≡ old.number
same_number {P} meld name asked old before prepared own now =
    in_look (λ (phase : Phase P). StandsAt meld false asked (local old (view_at name before)) phase prepared (local own (view_at name now)) → own.number ≡ old.number) (λ p. ap (λ (w : Record). w.number) p.1) (λ p. ap (λ (w : Record). w.number) p.1)

-- all that a call's last look found was seen, whatever it polls
sees_all : {P : Type 0} (b : Bool) (look after : History P) (seen : List ℕ) → Sees b (failures look) after seen → failures look ≡ failures after → seen ≡ failures after
sees_all false look after seen sees all = sees ∙ all
sees_all true look after seen sees all = squeeze (failures look) seen (failures after) sees.0 sees.1 all

-- a barrier's poll that makes its last load at the look's end found at the look who is missing
found_now : {P : Type 0} (meld : P → P → P) (limits : Limits) (asked : Call P) (name : Over P) (old : Record) (before : Sight P) (prepared : Prepared) (own : Record) (now : Sight P) (found : ℕ) (phase : Phase P) → StandsAt meld false asked (local old (view_at name before)) phase prepared (local own (view_at name now))
    → name.limits ≡ limits → before.seen ≡ now.seen → found ≡ length now.seen → FoundAt meld limits (comm_of asked) (moment old before.seen) (moment own now.seen) found phase
found_now {P} meld limits asked name old before prepared own now found phase p limits_is still found_is =
    found_by_check (λ (at : Phase P). StandsAt meld false asked (local old (view_at name before)) at prepared (local own (view_at name now))) meld limits (comm_of asked) old before.seen own now.seen found go phase p
  where
    go : (missing : Missing) → StandsAt meld false asked (local old (view_at name before)) (Checking missing) prepared (local own (view_at name now)) → FoundAt meld limits (comm_of asked) (moment old before.seen) (moment own now.seen) found (Checking missing)
    go missing p =
        let i = p.2 in
        let w = i.waits in
        let begins = prefix_trans before.seen w.since.look p.1 (did_prefix false [] before.seen w.since.look w.since.looked.did) (did_prefix false [] w.since.look p.1 w.waited) in
        let here : p.1 ≡ now.seen = squeeze before.seen p.1 now.seen begins (did_prefix false [] p.1 now.seen i.waited) still in
        (p.1, subst (λ (l : Limits). IsChecking (frame meld l false) (comm_of asked) missing p.1 (moment old before.seen) (moment own now.seen)) limits_is i, ap length here ∙ sym found_is)

module _ {P : Type 0} (meld : P → P → P) (name : Over P) (now : Traced P) (pass after_it : Sight P) (own : Record) (doing : UnderWay P) (h : HasBegun meld name now pass own doing) (of : IsView meld (view_at name after_it)) (result : Option (Reply P)) (own' : Record) (doing' : UnderWay P)
    (adds : StepAdds true own doing.asked doing.phase result pass.seen after_it.seen) (asked' : doing'.asked ≡ doing.asked) (found' : ℕ) (found_is' : found' ≡ length after_it.seen) where
  still : pass.seen ≡ after_it.seen
  still = sym (no_event own doing.asked doing.phase result pass.seen after_it.seen h.looking adds)

  history' : now.history ≡ after_it.seen
  history' = h.known.said.history ∙ still

  -- the look goes on
  goes_on : is_looking doing'.phase ≡ true → Stands meld false (local h.old (view_at name pass)) doing' (local own' (view_at name after_it)) → (own'.number ≡ own.number) × HasBegun meld name now after_it own' doing'
  goes_on looking stands =
      let number' : own'.number ≡ own.number = same_number meld name doing'.asked h.old pass doing'.prepared own' after_it doing'.phase looking stands.at ∙ sym h.number in (
        number',
        record {
          u = h.u;
          old = h.old;
          known = known_then h.known (sym number') (sym asked') still;
          number = number' ∙ h.number;
          looking = looking;
          stands = begins_again meld name h.old pass doing' own' after_it looking stands of ([], append-nil pass.seen ∙ still);
          begun = subst (λ w. h.u.begun ≤ length w) still h.begun;
          look = h.look;
          own_is = h.own_is;
        },
      )

  -- it has ended
  module _ (seen' : own'.seen ≡ failures after_it.seen) where
    abbrev told : Traced P
    told = after now (Looked own.number (length own'.seen))

    abbrev u' : Under P
    u' = record h.u { look = Some (length own'.seen) }

    may_look : MayCome meld now [] (Looked own.number (length own'.seen))
    may_look = (record { call = h.u; is_open = h.known.said.call_is; first = h.look; own = reseen h.old h.known.said.seen; has_record = h.known.said.record_is; in_use = h.known.in_use }, ap length (seen' ∙ ap failures (sym history')))

    call' : call_by told (Rank own.number) ≡ Some u'
    call' = find_change (Rank own.number) (λ u. record u { look = Some (length own'.seen) }) (λ u. refl) now.calls h.u h.known.said.call_is

    known' : KnowsCall name told after_it own doing.asked u' h.old
    known' =
        record {
          said = record { limits = h.known.said.limits; history = history'; call_is = call'; seen = h.known.said.seen; record_is = h.known.said.record_is };
          asked_is = h.known.asked_is;
          in_use = h.known.in_use;
        }

    look' : u'.look ≡ Some (length (failures pass.seen))
    look' = ap (λ s. Some (length s)) (seen' ∙ ap failures (sym still))

    -- and the call goes on
    ends_on : is_looking doing'.phase ≡ false → Stands meld false (local h.old (view_at name pass)) doing' (local own' (view_at name after_it)) → own' ≡ record h.old { seen = own'.seen } → IsFalse (has (failures after_it.seen) h.old.number) → refusal_of h.old doing'.asked ≡ None
        → (own'.number ≡ own.number) × HasCalled meld name told after_it own' found' doing'
    ends_on past stands same alive passes =
        let number' : own'.number ≡ own.number = ap (λ (w : Record). w.number) same ∙ sym h.number in (
          number',
          record {
            u = u';
            old = h.old;
            known = known_then known' (sym number') (sym asked') refl;
            before = pass;
            stood = after_it;
            stands = stands;
            waits = waits_none after_it;
            past = past;
            own_same = same;
            sees = λ other. seen' ∙ ap failures (sym still);
            begun = h.begun;
            look = look';
            rest = [];
            since = append-nil pass.seen ∙ still;
            own_is = sym h.own_is;
            no_own = λ no_poll. h.own_is;
            not_declared = subst (λ w. IsFalse (has (failures w) h.old.number)) (sym still) alive;
            not_refused = passes;
            found_at = found_now meld name.limits doing'.asked name h.old pass doing'.prepared own' after_it found' doing'.phase stands.at refl still found_is';
          },
        )

    -- or it is answered
    ends_reply : (reply : Reply P) → IsEndRun meld name.limits false (moment h.old pass.seen) doing.asked reply (moment own' after_it.seen) → Fits meld name.limits after_it.seen own'
        → EndsSo meld name told after_it own.number (comm_of doing.asked) (length after_it.seen) reply own'
    ends_reply reply ended fits =
        let answers = reply_answers meld name.limits pass.seen after_it.seen h.old doing.asked reply own' ended [] (append-nil pass.seen ∙ still) [] refl (λ no_poll. inl refl) (λ other. seen' ∙ ap failures (sym still)) in
        let there = subst (λ es. IsSelfFailed (record { look = failures pass.seen; history = after_it.seen; own = es; spread = true }) h.old doing.asked reply ⊎ IsReply meld name.limits (record { look = failures pass.seen; history = after_it.seen; own = es; spread = true }) h.old doing.asked reply) (sym h.own_is) answers in
        ends_so meld name told after_it own.number h.old h.known.said.seen u' doing.asked pass.seen after_it.seen [] [] reply own' h.known.said.limits history' call' h.known.said.record_is h.number h.known.in_use h.known.asked_is h.begun look' (append-nil pass.seen ∙ still) (append-nil after_it.seen)
        there ended fits (may_list meld name.limits pass.seen after_it.seen h.old doing.asked own' fits reply ended)

  -- what the reply says was seen
  seen_of : (reply : Reply P) → IsEndRun meld name.limits false (moment h.old pass.seen) doing.asked reply (moment own' after_it.seen) → own'.seen ≡ failures after_it.seen
  seen_of reply ended =
      let span = ended.run.span in
      let here : span.look ≡ after_it.seen = squeeze pass.seen span.look after_it.seen (did_prefix false [] pass.seen span.look span.looked) (did_prefix false _ span.look after_it.seen span.did) still in
      sees_all (is_shrink (polled_by h.old doing.asked)) span.look after_it.seen own'.seen ended.run.answer.leaves.seen (ap failures here)

  -- a run that ended as it was when somebody was found missing ended now
  ended_now : (reply : Reply P) → IsEarlyRun meld name.limits false (moment h.old pass.seen) doing.asked reply (moment own' after_it.seen) → IsEndRun meld name.limits false (moment h.old pass.seen) doing.asked reply (moment own' after_it.seen)
  ended_now reply early =
      let span = early.run.run.span in
      let begins = prefix_trans pass.seen span.look early.found (did_prefix false [] pass.seen span.look span.looked) (did_prefix false _ span.look early.found span.did) in
      let here : early.found ≡ after_it.seen = squeeze pass.seen early.found after_it.seen begins (did_prefix false [] early.found after_it.seen early.waited) still in
      subst (λ w. IsEndRun meld name.limits false (moment h.old pass.seen) doing.asked reply (moment own' w)) here early.run

  abbrev Comes : Option (Reply P) → Type 0
  Comes r = LooksOn meld name own.number (comm_of doing.asked) (length after_it.seen) found' now r after_it own' doing'

  going : Stands meld false (local h.old (view_at name pass)) doing' (local own' (view_at name after_it)) → Comes None
  going stands = go (is_looking doing'.phase) refl
    where
      go : (b : Bool) → is_looking doing'.phase ≡ b → Comes None
      go true looking = let on = goes_on looking stands in inl (refl, on.0, on.1)
      go false past =
          let f = found_by_phase meld name doing'.asked h.old pass doing'.prepared own' after_it h.known.in_use doing'.phase past stands.at in
          let all = found_all doing'.asked h.old own' pass.seen after_it.seen f still in
          inr (may_look all.1, ends_on all.1 past stands f.same (subst (λ s. IsFalse (has s h.old.number)) all.0 f.not_declared) f.not_refused)

  answered : (reply : Reply P) → wants_memory reply ≡ false → Answered meld false doing.asked (local h.old (view_at name pass)) reply (local own' (view_at name after_it)) → Comes (Some reply)
  answered reply has_memory a = go a.ends
    where
      ending : IsEndRun meld name.limits false (moment h.old pass.seen) doing.asked reply (moment own' after_it.seen) → Fits meld name.limits after_it.seen own' → Comes (Some reply)
      ending ended fits = let seen' = seen_of reply ended in inr (may_look seen', ends_reply seen' reply ended fits)

      by_calls : Fits meld name.limits after_it.seen own'
          → (IsRefusedAgain h.old reply own' × (after_it ≡ pass)) ⊎ (IsEndRun meld name.limits false (moment h.old pass.seen) doing.asked reply (moment own' after_it.seen) ⊎ IsEarlyRun meld name.limits false (moment h.old pass.seen) doing.asked reply (moment own' after_it.seen)) → Comes (Some reply)
      by_calls fits (inl again) = absurd (cc (again.0.refused, h.known.in_use))
      by_calls fits (inr (inl ended)) = ending ended fits
      by_calls fits (inr (inr early)) = ending (ended_now reply early) fits

      go : (IsRefusedAgain h.old reply own' × Idles false pass after_it) ⊎ HasReplied meld false doing.asked (local h.old (view_at name pass)) reply (local own' (view_at name after_it)) → Comes (Some reply)
      go (inl again) = absurd (cc (again.0.refused, h.known.in_use))
      go (inr e) = let calls = subst (λ b. RepliedAs meld false doing.asked (local h.old (view_at name pass)) reply b (local own' (view_at name after_it))) has_memory e in by_calls calls.fits calls.ends

  pub looks_on : ((reply : Reply P) → result ≡ Some reply → wants_memory reply ≡ false) → MatchOption result (Stands meld false (local h.old (view_at name pass)) doing' (local own' (view_at name after_it))) (λ reply. Answered meld false doing.asked (local h.old (view_at name pass)) reply (local own' (view_at name after_it))) → Comes result
  looks_on has_memory ends = go result refl ends
    where
      go : (r : Option (Reply P)) → result ≡ r → MatchOption r (Stands meld false (local h.old (view_at name pass)) doing' (local own' (view_at name after_it))) (λ reply. Answered meld false doing.asked (local h.old (view_at name pass)) reply (local own' (view_at name after_it))) → Comes r
      go None is stands = going stands
      go (Some reply) is a = answered reply (has_memory reply is) a

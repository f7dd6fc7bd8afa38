-- The end of a shrink's poll.
use Rattle.std.proofs.Common.{◌≡◌, ◌⊎◌, ℕ, ◌+◌, ◌-◌, ◌<◌, Bool, true, List, [], ◌∷◌, ◌++◌, length, filter, filter_map, map, take, Some, slice_get, refl, ap}
use Rattle.std.proofs.Common.{false}
use Rattle.std.proofs.Common.{ap₂, sym, ◌∙◌, subst, append-nil, arith, inl, inr, IsTrue, IsFalse}
use Rattle.std.specs.List.{AllByRecursion}
use Rattle.std.proofs.lemmas.List.{map-append}
use Rattle.std.proofs.lemmas.List.Elements.{filter_map-append}
use mathlib.Core.List.{IsPrefix}
use Rattle.ulfm_laws.specs.declared.{summary.Body.{Body}, summary.Body.TheVariants.{Unit as NoBody, Flag as OfFlags, Ctx as OfIds, Clash}}
use Rattle.ulfm_laws.specs.declared.{summary.CtxMask.{CtxMask}, summary.Summary.{Summary}}
use Rattle.ulfm_model.specs.declared.call.Call.TheVariants as call
use Rattle.ulfm_model.specs.declared.{call.Call.{Call}, call.Request.TheVariants.{Shrink}, contribution.Slot.{Slot}, event.Caller.{Caller}}
use Rattle.ulfm_model.specs.declared.{event.Caller.TheVariants.{Rank}, event.Event.{Event}, event.Event.TheVariants.{Fail, Settle, Mark, Arrive, Revoke, Spawn}}
use Rattle.ulfm_model.specs.declared.{limits.Limits.{Limits}, refusal.Refusal.TheVariants.{Mismatch, NoContext, NoRoom, SelfFailed}, reply.Reply.{Reply}}
use Rattle.ulfm_model.specs.declared.reply.Reply.TheVariants.{Refused, Shrunk}
use Rattle.ulfm_model.specs.Answers.{IsReply, IsSelfFailed, MayOwn, PollAdds, PollReplies, RepliesBy, Sees, ShrinkReplies, AtPoint, closed, left_by, polled_by}
use Rattle.ulfm_model.specs.Answers.{refusal_of}
use Rattle.ulfm_model.specs.History.{Decision, Exists, History, IsLegal, decision, entries_by, failed, failures, has, is_decided, is_made, members, says}
use Rattle.ulfm_model.specs.History.{spawns, without}
use Rattle.ulfm_model.specs.{Records.{Fits, Held, IsLowestId, Record, is_shrink}, Runs.{Did}}
use Rattle.ulfm_model.specs.Terms.{new_held, settled_by}
use Rattle.ulfm_model.proofs.{Decisions.{decision_stays}, Histories.{failures_begin}, Lists.{each_append, each_from, has_prefix, not_in_filter, prefix_trans}}
use Rattle.ulfm_model.proofs.{Spawned.{members_of_spawned}, Stable.{failed_begins, fits_stays}, StepsRounds.{IsMasked}}
use Rattle.ulfm_words.proofs.Trails.{did_after, did_more, did_prefix}
use Rattle.ulfm_model.specs.Blocks.{IsSummed}
use Rattle.ulfm_model.specs.Answers.{Replies}
use Rattle.ulfm_model.specs.Records.{moment}
use Rattle.ulfm_steps.specs.Marks.{IsMarkOf}
use Rattle.ulfm_steps.specs.ReadsOn.{ReadsOn}
use Rattle.ulfm_comm.specs.{Calls.{IsDecidedFor}, Ends.{IsEndRun}, Polls.{PollHasMarked}}
use Rattle.ulfm_steps.proofs.ReadingOn.{take_begins}
use Rattle.ulfm_comm.proofs.{LeftOut.{has_first, reached_first, without_among}, Holding.{comm_is, exists_is, failed_is, group_is}}
use Rattle.ulfm_comm.proofs.Polls.{answered, body_read, declared, due, enough_read, group_read, held_first, later, not_refused, polls_it, read_decided}
use Rattle.ulfm_comm.proofs.Polls.{read_masked, whole}
use Rattle.ulfm_comm.proofs.WholeCall.{run_ends}
use Rattle.ulfm_comm.specs.Local.{frame}
use Rattle.ulfm_comm.specs.Requests.{polled_round}

-- a body that is a mask or a clash, and no mask
pub masked_clash : {P : Type 0} (body : Body P) → IsMasked body → ((mask : CtxMask) → body ≡ OfIds mask → ⊥) → body ≡ Clash
masked_clash NoBody masked other = absurd masked
masked_clash (OfFlags flag) masked other = absurd (cc masked)
masked_clash (OfIds mask) masked other = absurd (other mask refl)
masked_clash Clash masked other = refl

-- events that settle nothing add nobody
settled_more : {P : Type 0} (marks more : List (Event P)) → settled_by more ≡ [] → settled_by (marks ++ more) ≡ settled_by marks
settled_more {P} marks more none =
    let rank_of : (ℕ × ℕ × ℕ) × Slot P → ℕ = λ put. put.0.2 in
    ap (map rank_of) (filter_map-append (λ e. (says e).settles) marks more)
    ∙ (map-append rank_of (filter_map (λ e. (says e).settles) marks) (filter_map (λ e. (says e).settles) more)
    ∙ (ap (λ rs. settled_by marks ++ rs) none ∙ append-nil (settled_by marks)))

-- marks make no communicator
pub marks_make_none : {P : Type 0} (by : Caller) (c k : ℕ) (ranks : List ℕ) (own : List (Event P)) → AllByRecursion (IsMarkOf c k ranks) own
    → spawns (entries_by by own) ≡ []
marks_make_none by c k ranks [] all = refl
marks_make_none by c k ranks (Mark comm round rank mark ∷ own) all = marks_make_none by c k ranks own all.1
marks_make_none by c k ranks (Fail rank ∷ own) all = absurd all.0
marks_make_none by c k ranks (Settle comm round rank given ∷ own) all = absurd all.0
marks_make_none by c k ranks (Arrive comm round rank ∷ own) all = absurd all.0
marks_make_none by c k ranks (Revoke comm ∷ own) all = absurd all.0
marks_make_none by c k ranks (Spawn j comm round ∷ own) all = absurd all.0

module _ {P : Type 0} (meld : P → P → P) (limits : Limits) (alone : Bool) (before : History P) (old mid : Record) (c k : ℕ) (x : Held) (h : History P)
    (p : PollHasMarked (frame meld limits alone) c (polled_round true k) x (moment old before) (moment mid h)) (all : Summary P)
    (read : IsSummed meld h c k x.group all) where
  abbrev poll : Call P
  poll = call.Poll old.number c

  still : Fits meld limits h mid
  still = later meld limits alone before old mid c true k x h p

  exists : Exists h c
  exists = exists_is meld limits h mid c x still p.since.held

  decided : IsTrue (is_decided limits.ranks h c k)
  decided = read_decided meld limits h mid c k x p.legal still p.since.held all read

  -- the body is a mask or a clash
  masked : IsMasked all.body
  masked = read_masked meld limits h mid c k x p.legal still p.since.held all read p.open_is

  here : x.comm ≡ c
  here = comm_is meld limits h mid c x still p.since.held

  replied_here : (reply : Reply P) (new : Record) → ShrinkReplies limits h old.number c k (decision meld limits.ranks h c k) reply
      → new ≡ left_by limits.ranks h mid poll reply → IsEndRun meld limits alone (moment old before) poll reply (moment new h)
  replied_here reply new replies left =
      answered meld limits alone before old mid c true k x h p reply new
      (inr (
        subst (λ w. IsTrue (is_decided limits.ranks h w k)) (sym here) decided,
        subst (λ w. ShrinkReplies limits h old.number w k (decision meld limits.ranks h w k) reply) (sym here) replies,
      ))
      left

  -- some agreed
  pub shrink_mismatch : (new : Record) → ((mask : CtxMask) → all.body ≡ OfIds mask → ⊥) → new ≡ closed mid c
      → IsEndRun meld limits alone (moment old before) poll (Refused Mismatch) (moment new h)
  shrink_mismatch new other left =
      replied_here (Refused Mismatch) new (inr (body_read meld limits h mid c k x p.legal still p.since.held all read ∙ masked_clash all.body masked other, refl))
      left

  -- no context id is free at all
  pub shrink_no_context : (mask : CtxMask) (new : Record) → all.body ≡ OfIds mask → mask.bits ≡ 0 → new ≡ closed mid c
      → IsEndRun meld limits alone (moment old before) poll (Refused NoContext) (moment new h)
  shrink_no_context mask new body none left =
      replied_here (Refused NoContext) new (inl (mask, body_read meld limits h mid c k x p.legal still p.since.held all read ∙ body, inl (none, refl))) left

  -- the list of failures was read on, and others' events alone came
  module _ (after : History P) (begins : IsPrefix h after) (legal : IsLegal meld limits after) (seen : List ℕ) (reach : ℕ)
      (reads : ReadsOn x.group all.known.count mid.seen seen (failures after) reach) where
    fits_after : Fits meld limits after mid
    fits_after = fits_stays meld limits h after mid begins legal still

    -- those of the group that reach so far are the decision's failed group
    pub left_out : (decision meld limits.ranks h c k).failed ≡ filter (has x.group) (take reach seen)
    left_out =
        let more = failed_begins meld limits h after c begins legal exists in
        let enough = enough_read meld limits h mid c k x p.legal still p.since.held all read in
        group_read meld limits h mid c k x p.legal still p.since.held all read
        ∙ (sym (take_begins all.known.count (failed limits.ranks h c) (failed limits.ranks after c) more enough)
        ∙ (ap (take all.known.count) (sym (failed_is meld limits after mid c x fits_after p.since.held)) ∙ reached_first x.group all.known.count mid.seen seen
        (failures after) reach reads))

    -- what happened then up to the end
    module _ (own : List (Event P)) (ending : History P) (did : Did alone (entries_by (Rank old.number) own) after ending) (first : Did alone [] h after)
        (makes : AllByRecursion (λ event. (i : ℕ) × (event ≡ Spawn i c k)) own)
        (settles_none : settled_by own ≡ []) (end_legal : IsLegal meld limits ending) where
      abbrev events : List (Event P)
      events = p.marks.own ++ own

      abbrev view : AtPoint P
      view = record { look = failures p.since.look; history = ending; own = events; spread = false }

      pub all_did : Did alone (entries_by (Rank old.number) events) p.since.look ending
      all_did =
          did_more alone (Rank old.number) p.marks.own own p.since.look h ending (whole meld limits alone before old mid c true k x h p)
          (did_after alone (entries_by (Rank old.number) own) h after ending first did)

      pub may_own : AllByRecursion (MayOwn (failures p.since.look) old poll) events
      may_own =
          let mine : AllByRecursion (PollAdds (failures p.since.look) x (Some (Shrink k))) events =
          each_append (PollAdds (failures p.since.look) x (Some (Shrink k))) p.marks.own own (declared meld limits alone before old mid c true k x h p)
          (each_from (λ event. (i : ℕ) × (event ≡ Spawn i c k)) (PollAdds (failures p.since.look) x (Some (Shrink k)))
          (λ event made. inr (made.0, made.1 ∙ ap (λ w. Spawn made.0 w k) (sym here))) own makes) in
          each_from (PollAdds (failures p.since.look) x (Some (Shrink k))) (MayOwn (failures p.since.look) old poll)
          (λ event added.
          record {
            not_declared = p.since.looked.not_declared;
            not_refused = not_refused meld limits alone before old mid c true k x h p;
            adds = (
              x,
              held_first meld limits alone before old mid c true k x h p,
              subst (λ request. PollAdds (failures p.since.look) x request event)
                  (sym p.open_is) added,
            );
          }) events mine

      pub sees_on : Sees (is_shrink (polled_by old poll)) (failures p.since.look) ending seen
      sees_on =
          let to_end = failures_begin after ending (did_prefix alone (entries_by (Rank old.number) own) after ending did) in
          subst (λ request. Sees (is_shrink request) (failures p.since.look) ending seen) (sym (polls_it meld limits alone before old mid c true k x h p)) (
            subst (λ s. IsPrefix s seen) (ap (λ (w : Record). w.seen) p.since.looked.record_is) reads.goes_on,
            prefix_trans seen (failures after)
                (failures ending) reads.begins to_end,
          )

      ends_so : (reply : Reply P) (new : Record) → IsSelfFailed view old poll reply ⊎ IsReply meld limits view old poll reply
          → new ≡ left_by limits.ranks ending (record mid { seen = seen }) poll reply → IsEndRun meld limits alone (moment old before) poll reply (moment new ending)
      ends_so reply new replies left =
          run_ends meld limits alone before p.since.look old false ending events poll reply new seen p.since.looked.in_use p.since.looked.did all_did end_legal may_own replies sees_on
          (left ∙ ap (λ (w : Record). left_by limits.ranks ending (record w { seen = seen }) poll reply) p.since.looked.record_is)
          (λ alone_here polls not_declared. settled_more p.marks.own own settles_none ∙ due meld limits alone before old mid c true k x h p alone_here)
          (λ on. absurd (cc on))

      end_begins : IsPrefix h ending
      end_begins = prefix_trans h after ending begins (did_prefix alone (entries_by (Rank old.number) own) after ending did)

      decided_then : IsTrue (is_decided limits.ranks ending c k) × (decision meld limits.ranks ending c k ≡ decision meld limits.ranks h c k)
      decided_then = decision_stays meld limits h ending c k end_begins end_legal exists decided

      -- a reply of the decided shrink
      replied_then : (reply : Reply P) → ShrinkReplies limits ending old.number c k (decision meld limits.ranks ending c k) reply
          → IsReply meld limits view old poll reply
      replied_then reply replies =
          let polled : PollReplies meld limits view old.number x (Some (Shrink k)) reply =
          inr (
            subst (λ w. IsTrue (is_decided limits.ranks ending w k)) (sym here) decided_then.0,
            subst (λ w. ShrinkReplies limits ending old.number w k (decision meld limits.ranks ending w k) reply) (sym here) replies,
          ) in
          record {
            not_declared = p.since.looked.not_declared;
            replies =
                subst (λ held. RepliesBy {P = P} (λ x. Replies meld limits view old x poll reply) reply held (refusal_of old poll))
                (sym (held_first meld limits alone before old mid c true k x h p))
                (subst (RepliesBy {P = P} (λ x. Replies meld limits view old x poll reply) reply (Some x)) (sym (not_refused meld limits alone before old mid c true k x h p))
                (subst (λ request. PollReplies meld limits view old.number x request reply) (sym p.open_is) polled));
          }

      -- the decision's failed group, and who is left
      left_then : (decision meld limits.ranks ending c k).failed ≡ filter (has x.group) (take reach seen)
      left_then = ap (λ (d : Decision P). d.failed) decided_then.1 ∙ left_out

      stays_in : IsFalse (has (take reach seen) old.number) → IsFalse (has (decision meld limits.ranks ending c k).failed old.number)
      stays_in out = ap (λ rs. has rs old.number) left_then ∙ not_in_filter (has x.group) (take reach seen) old.number out

      body_then : (decision meld limits.ranks ending c k).body ≡ all.body
      body_then = ap (λ (d : Decision P). d.body) decided_then.1 ∙ body_read meld limits h mid c k x p.legal still p.since.held all read

      -- the rank is in the failed group
      pub shrink_self_failed : (new : Record) → IsTrue (has (take reach seen) old.number) → new ≡ record mid { seen = seen; refused = true }
          → IsEndRun meld limits alone (moment old before) poll (Refused SelfFailed) (moment new ending)
      shrink_self_failed new among left =
          let to_end = failures_begin after ending (did_prefix alone (entries_by (Rank old.number) own) after ending did) in
          ends_so (Refused SelfFailed) new
          (inl (record {
            reply_is = refl;
            declared = has_prefix seen (failures ending) old.number (prefix_trans seen (failures after) (failures ending) reads.begins to_end)
                (has_first reach seen old.number among);
            adds_nothing = λ y starts. absurd (cc starts);
          }))
          left

      module _ (mask : CtxMask) (body : all.body ≡ OfIds mask) (some : 0 < mask.bits) (out : IsFalse (has (take reach seen) old.number)) where
        -- the round is decided for the rank
        pub shrink_decided : IsDecidedFor meld limits ending old.number c k
        shrink_decided = record { decided = decided_then.0; mask = mask; body = body_then ∙ body; some = some; stays = stays_in out }

        -- no communicator is left
        pub shrink_no_room : (new : Record) → length (spawns ending) + 1 ≡ limits.comms → IsFalse (is_made ending c k)
            → new ≡ closed (record mid { seen = seen }) c → IsEndRun meld limits alone (moment old before) poll (Refused NoRoom) (moment new ending)
        shrink_no_room new full unmade left = ends_so (Refused NoRoom) new (inr (replied_then (Refused NoRoom)
            (inl (mask, body_then ∙ body, inr (some, stays_in out, inr (full, unmade, refl)))))) left

        -- it is made, and the rank holds it
        pub shrink_shrunk : (j context size : ℕ) (new : Record) → 0 < j → slice_get (spawns ending) (j - 1) ≡ Some (c, k) → IsLowestId mask.bits context
            → size ≡ length (without x.group (take reach seen))
            → new ≡ (let rest = closed (record mid { seen = seen }) c in record rest {
              held = rest.held ++ new_held j context (without x.group (take reach seen)) ∷ [];
            })
            → IsEndRun meld limits alone (moment old before) poll (Shrunk j context size) (moment new ending)
        shrink_shrunk j context size new there made lowest counted left =
            let spawned = members_of_spawned meld limits ending end_legal (j - 1) c k made in
            let number : j - 1 + 1 ≡ j = omega (arith, there) in
            let parent : members limits.ranks ending c ≡ x.group = sym (group_is meld limits ending mid c x
            (fits_stays meld limits h ending mid end_begins end_legal still) p.since.held) in
            let group : members limits.ranks ending j ≡ without x.group (take reach seen) =
            ap (members limits.ranks ending) (sym number) ∙ (spawned.group ∙ (ap₂ without parent left_then ∙ without_among x.group (take reach seen))) in
            let as_reply : ℕ → Reply P = λ n. Shrunk j context n in
            let same : as_reply size ≡ as_reply (length (members limits.ranks ending j)) = ap as_reply (counted ∙ ap length (sym group)) in
            ends_so (Shrunk j context size) new (inr (replied_then (Shrunk j context size)
            (inl (mask, body_then ∙ body, inr (some, stays_in out, inl (j, context, there, made, lowest, same))))))
            (left ∙ ap (λ ms. let rest = closed (record mid { seen = seen }) c in record rest { held = rest.held ++ new_held j context ms ∷ [] }) (sym group))

-- That a reply may come is decided by tests that compute; and a reply that starts something has a round whose next number fits.
use Rattle.std.proofs.Common.{◌≡◌, ◌⊎◌, ◌≤◌, ℕ, Bool, true, false, not, List, [], length, filter, max, min, take, Option, Some, None, is_some, if◌then◌else◌, refl, sym, ap, ◌∙◌, subst, IsTrue, IsFalse, inl, inr}
use Rattle.std.specs.Bool.{Decides}
use Rattle.std.specs.List.{list_all}
use Rattle.std.proofs.lemmas.Bool.{and_parts}
use Rattle.std.proofs.lemmas.Bool.Decides.{Decides-and, Decides-like, Decides-or}
use Rattle.ulfm_model.specs.declared.{call.Call.{Call}, call.Request.{Request}, contribution.Offer.{Offer}, event.Caller.{Caller}, limits.Limits.{Limits}, refusal.Refusal.{Refusal}, reply.Reply.{Reply}}
use Rattle.ulfm_model.specs.Answers.{IsPending, IsReply, IsSelfFailed, PollReplies, Replies, RepliesBy, AtPoint, comm_of, most_failures, rank_of, refusal_of, refusal_on, traits_of}
use Rattle.ulfm_model.specs.History.{History, decision, failed, failures, has, has_arrived, is_decided, is_revoked, members}
use Rattle.ulfm_model.specs.Records.{Held, Record, free_ids, held_at}
use Rattle.ulfm_model.specs.Kept.{FitsNext}
use Rattle.ulfm_model.proofs.Allowed.{allowed_fits}
use Rattle.ulfm_model.specs.Traces.{AnswersCall, AnswersRank, MayReply, Traced, Under, call_by, listed, record_in, view_at}
use Rattle.ulfm_model.specs.declared.line.Line.{Line}
use Rattle.ulfm_numbers.specs.{Groups.{same_ranks}, Seen.{seen_of}}
use Rattle.ulfm_judge.specs.CallsAt.{CallAt, call_of}
use Rattle.ulfm_judge.specs.ReplyTests.{by_record_test, call_test, listed_in, looked_test, pending_test, polled_test, rank_test, replied_test, reply_test}
use Rattle.ulfm_numbers.proofs.Deciding.{false_decides, le_decides, never_decides, ranks_decide, true_decides}
use Rattle.ulfm_judge.proofs.Polling.{agree_decides, shrink_decides, start_decides}
use Rattle.ulfm_judge.proofs.Replying.{acked_decides, barrier_decides, barrier_start_decides, fail_decides, freed_decides, group_decides, pending_decides, refused_decides, revoke_decides, self_failed_decides, standing_decides}

module _ {P : Type 0} (meld : P → P → P) (pack : P → ℕ) (tells : (x y : P) → pack x ≡ pack y → x ≡ y) where
  module _ (limits : Limits) (view : AtPoint P) (wing : IsTrue view.spread) (old : Record) where
    abbrev call : CallAt P
    call = call_of limits view old

    polled_decides : (x : Held) (request : Option Request) (reply : Reply P)
        → Decides (polled_test meld pack call x request reply) (PollReplies meld limits view old.number x request reply)
    polled_decides x None reply = never_decides (λ q. q)
    polled_decides x (Some (Request.Agree k)) reply =
        agree_decides pack tells (IsPending view x k) (pending_test call.look call.seen x k) (pending_decides limits.ranks view x k)
        (is_decided limits.ranks view.history x.comm k) (decision meld limits.ranks view.history x.comm k) reply
    polled_decides x (Some (Request.Shrink k)) reply =
        shrink_decides pack tells (IsPending view x k) (pending_test call.look call.seen x k) (pending_decides limits.ranks view x k)
        (is_decided limits.ranks view.history x.comm k) (decision meld limits.ranks view.history x.comm k) limits view old x.comm k reply
    polled_decides x (Some (Request.Barrier k)) reply =
        barrier_decides (is_revoked view.history x.comm) (list_all (has_arrived view.history x.comm k) x.group)
        (list_all (has_arrived view.history x.comm k) (filter (has x.group) view.look)) reply

    replied_decides : (x : Held) (asked : Call P) (reply : Reply P)
        → Decides (replied_test meld pack call x asked reply) (Replies meld limits view old x asked reply)
    replied_decides x (Call.Fail rank) reply = never_decides (λ q. q)
    replied_decides x (Call.GetFailed rank c) reply =
        Decides-and _ _ (ranks_decide (failures view.history) view.look) (group_decides (length (failed limits.ranks view.history c)) reply)
    replied_decides x (Call.FailureGetAcked rank c) reply =
        Decides-and _ _ (ranks_decide (failures view.history) view.look) (group_decides (length (take x.acked (failed limits.ranks view.history c))) reply)
    replied_decides x (Call.Ack rank c count) reply =
        Decides-and _ _ (ranks_decide (failures view.history) view.look) (acked_decides (max x.acked (min count (length (failed limits.ranks view.history c)))) reply)
    replied_decides x (Call.FailureAck rank c) reply =
        Decides-and _ _ (ranks_decide (failures view.history) view.look)
        (acked_decides (max x.acked (min most_failures (length (failed limits.ranks view.history c)))) reply)
    replied_decides x (Call.Agree rank c value) reply = start_decides pack tells limits view wing old x (Offer.Flag value) reply
    replied_decides x (Call.Shrink rank c) reply = start_decides pack tells limits view wing old x (Offer.Ctx (free_ids old.held)) reply
    replied_decides x (Call.Barrier rank c) reply = barrier_start_decides view old x reply
    replied_decides x (Call.Poll rank c) reply = polled_decides x x.request reply
    replied_decides x (Call.Revoke rank c) reply = revoke_decides view c reply
    replied_decides x (Call.IsRevoked rank c) reply = standing_decides (is_revoked view.history c) reply
    replied_decides x (Call.Free rank c) reply = freed_decides reply

    by_record_decides : (held : Option Held) (asked : Call P) (reply : Reply P) (refusal : Option Refusal)
        → Decides (by_record_test meld pack call held asked reply refusal) (RepliesBy {P = P} (λ x. Replies meld limits view old x asked reply) reply held refusal)
    by_record_decides held asked reply (Some refusal) = refused_decides refusal reply
    by_record_decides (Some x) asked reply None = replied_decides x asked reply
    by_record_decides None asked reply None = never_decides (λ q. q)

    -- a rank's call is answered so, after its look
    looked_decides : (asked : Call P) (reply : Reply P)
        → Decides (looked_test meld pack call asked reply) (IsSelfFailed view old asked reply ⊎ IsReply meld limits view old asked reply)
    looked_decides asked reply =
        Decides-or _ _ (self_failed_decides view old asked reply)
        (Decides-like _ (λ p. record { not_declared = p.0; replies = p.1 }) (λ q. (q.not_declared, q.replies))
        (Decides-and _ _ (false_decides (has view.look old.number)) (by_record_decides (held_at old (comm_of asked)) asked reply (refusal_of old asked))))

  by_test : (b x y : Bool) (X Y Z : Type 0) → Decides x X → Decides y (Y × Z) → Decides (if b then x else y) ((IsTrue b × X) ⊎ (IsFalse b × Y × Z))
  by_test true x y X Y Z one other = Decides-like x (λ p. inl (refl, p)) (λ q. elim q [ inl a ↦ a.1 | inr b ↦ absurd (cc (b.0)) ]) one
  by_test false x y X Y Z one other = Decides-like y (λ p. inr (refl, p.0, p.1)) (λ q. elim q [ inl a ↦ absurd (cc (a.0)) | inr b ↦ (b.1, b.2) ]) other

  rank_decides : (now : Traced P) (u : Under P) (point : ℕ) (reply : Reply P) (own : Option Record)
      → Decides (rank_test meld pack now u point reply own) (AnswersRank meld now u point reply own)
  rank_decides now u point reply None = refused_decides Refusal.NoSuchRank reply
  rank_decides now u point reply (Some old) =
      by_test old.refused _ _ _ _ _ (refused_decides Refusal.SelfFailed reply)
      (Decides-and _ _ (true_decides (is_some u.look)) (looked_decides now.limits (view_at now u point) refl old u.asked reply))

  call_decides : (now : Traced P) (by : Caller) (u : Under P) (point : ℕ) (reply : Reply P) → Decides (call_test meld pack now by u point reply) (AnswersCall meld now by u point reply)
  call_decides now Caller.Outside u point reply = fail_decides now.limits (view_at now u point) (rank_of u.asked) reply
  call_decides now (Caller.Rank r) u point reply = rank_decides now u point reply (record_in now r)

  -- a reply lists this group
  lists_decide : (ranks : ℕ) (h : History P) (c : ℕ) (group : List ℕ) (reply : Reply P)
      → Decides (same_ranks group (listed_in (seen_of ranks h) c reply)) (group ≡ listed ranks h c reply)
  lists_decide ranks h c group (Reply.Shrunk j context size) = ranks_decide group (members ranks h j)
  lists_decide ranks h c group (Reply.FailedGroup count) = ranks_decide group (failed ranks h c)
  lists_decide ranks h c group _ = ranks_decide group []

  -- a reply may come
  pub reply_decides : (now : Traced P) (by : Caller) (point : ℕ) (group : List ℕ) (reply : Reply P)
      → Decides (reply_test meld pack now group (Line.Replied by point (Some reply)) (call_by now by)) (MayReply meld now by point group reply)
  reply_decides now by point group reply = by_call (call_by now by) refl
    where
      by_call : (call : Option (Under P)) → call_by now by ≡ call → Decides (reply_test meld pack now group (Line.Replied by point (Some reply)) call) (MayReply meld now by point group reply)
      by_call None is = never_decides (λ q. cc (is, q.is_open))
      by_call (Some u) is =
          Decides-like _ (λ p. record { call = u; is_open = is; since_begin = p.0; by_now = p.1.0; answers = p.1.1.0; lists = p.1.1.1 })
          (λ q.
          let same : q.call ≡ u = cc (is, q.is_open) in
          let Parts : Under P → Type 0 = λ v. (v.begun ≤ point) × ((point ≤ length now.history) × (AnswersCall meld now by v point reply × (group ≡ listed now.limits.ranks (take point now.history) (comm_of v.asked) reply))) in
          subst Parts same (q.since_begin, (q.by_now, (q.answers, q.lists))))
          (Decides-and _ _ (le_decides u.begun point)
          (Decides-and _ _ (le_decides point (length now.history))
          (Decides-and _ _ (call_decides now by u point reply) (lists_decide now.limits.ranks (take point now.history) (comm_of u.asked) group reply))))

-- an answer that says that something has started, as tests have it
pub started_fits : {P : Type 0} (meld : P → P → P) (pack : P → ℕ) (call : CallAt P) (asked : Call P) (reply : Reply P) → call.caller.limits.rounds ≤ 4096
    → looked_test meld pack call asked reply ≡ true
    → (x : Held) → reply ≡ Reply.Started → held_at call.caller (comm_of asked) ≡ Some x → FitsNext ((traits_of asked).starts x)
started_fits {P} meld pack call asked reply small is x starts holds =
    let old = call.caller in
    let answers : looked_test meld pack call asked Reply.Started ≡ true = subst (λ (q : Reply P). looked_test meld pack call asked q ≡ true) starts is in
    by_refusal (refusal_of old asked) refl (and_parts (not (has call.look old.number)) (by_record_test meld pack call (held_at old (comm_of asked)) asked Reply.Started (refusal_of old asked)) answers).1
  where
    by_refusal : (o : Option Refusal) → refusal_of call.caller asked ≡ o → by_record_test meld pack call (held_at call.caller (comm_of asked)) asked Reply.Started o ≡ true → FitsNext ((traits_of asked).starts x)
    by_refusal (Some refusal) is e = absurd (cc e)
    by_refusal None is e = allowed_fits call.caller x asked small (ap (λ w. refusal_on call.caller w asked) (sym holds) ∙ is)

-- A communicator that a shrink made has no more members than its parent.
use Rattle.std.proofs.Common.{◌≡◌, ◌⊎◌, ℕ, ◌+◌, ◌-◌, ◌<◌, ◌≤◌, Bool, true, false, not, filter, length, Option, Some, None, refl, ap, sym, ◌∙◌, subst, arith}
use Rattle.std.proofs.Common.{inl, inr, IsTrue, IsFalse, if◌then◌else◌}
use Rattle.std.specs.List.{list_all}
use Rattle.ulfm_laws.specs.declared.summary.CtxMask.{CtxMask}
use Rattle.ulfm_model.specs.declared.{call.Call.TheVariants.{Poll}, call.Request.{Request}, call.Request.TheVariants.{Agree, Shrink, Barrier}}
use Rattle.ulfm_model.specs.declared.limits.Limits.{Limits}
use Rattle.ulfm_model.specs.declared.{refusal.Refusal.TheVariants.{IsRevoked, NoContext, ProcFailed}, reply.Reply.{Reply}}
use Rattle.ulfm_model.specs.declared.reply.Reply.TheVariants.{Done, Pending, Refused, Shrunk}
use Rattle.ulfm_model.specs.Answers.{AgreeReplies, PollReplies, ShrinkReplies, SpawnReplies, AtPoint}
use Rattle.ulfm_model.specs.History.{Decision, History, decision, has, has_arrived, is_revoked, made_of, members, spawns, without}
use Rattle.ulfm_model.specs.{Records.{Fits, Held, Record, held_at, is_shrink}, Runs.{IsCall, IsRun}, Terms.{rests_on}}
use Rattle.ulfm_model.specs.Records.{moment}
use Rattle.ulfm_model.proofs.{Histories.{members_stay}, Lists.{get_prefix, length-filter-le, prefix_trans}, Spawned.{members_of_spawned}, Stable.{spawns_begin}}
use Rattle.ulfm_words.specs.Steps.{Over, Sight, view_at}
use Rattle.ulfm_comm.specs.Calls.{Calls}
use Rattle.ulfm_comm.proofs.{CallRuns.{called_run}, Holding.{comm_is, exists_is, group_is}, ReplyKinds.{answered_on}}
use Rattle.ulfm_comm.specs.Local.{local}

module _ {P : Type 0} (meld : P → P → P) (limits : Limits) (view : AtPoint P) (r : ℕ) (x : Held) (j context size : ℕ) where
  -- the reply
  abbrev answer : Reply P
  answer = Shrunk j context size

  no_barrier : (revoked done waits : Bool) → answer ≡ (if revoked then Refused IsRevoked else
      (if done then Done else (if waits then Pending else Refused ProcFailed))) → ⊥
  no_barrier true done waits is = cc is
  no_barrier false true waits is = cc is
  no_barrier false false true is = cc is
  no_barrier false false false is = cc is

  agreed : (made : Decision P) → AgreeReplies made (Shrunk j context size) → ⊥
  agreed made (inl flag) = cc (flag.2)
  agreed made (inr clash) = cc (clash.1)

  spawned : (h : History P) (c k mask : ℕ) → SpawnReplies limits h c k mask (Shrunk j context size) → (0 < j) × (made_of h j ≡ Some (c, k))
  spawned h c k mask (inl found) = let is = found.5 in let same : j ≡ found.0 = cc
      is in (subst (λ i. 0 < i) (sym same) found.2, subst (λ i. made_of h i ≡ Some (c, k)) (sym same) found.3)
  spawned h c k mask (inr full) = absurd (cc (full.2))

  with_ids : (h : History P) (c k : ℕ) (made : Decision P) (mask : CtxMask) → ((mask.bits ≡ 0) × (answer ≡ Refused NoContext)) ⊎
      ((0 < mask.bits) × IsFalse (has made.failed r) × SpawnReplies limits h c k mask.bits (Shrunk j context size))
      → (0 < j) × (made_of h j ≡ Some (c, k))
  with_ids h c k made mask (inl none) = absurd (cc (none.1))
  with_ids h c k made mask (inr some) = spawned h c k mask.bits some.2

  shrunk : (h : History P) (c k : ℕ) (made : Decision P) → ShrinkReplies limits h r c k made (Shrunk j context size) → (0 < j) × (made_of h j ≡ Some (c, k))
  shrunk h c k made (inl on) = with_ids h c k made on.0 on.2
  shrunk h c k made (inr clash) = absurd (cc (clash.1))

  -- the poll of a shrink is answered so, by what was made of its round
  by_request : (request : Option Request) → PollReplies meld limits view r x request (Shrunk j context size)
      → IsTrue (is_shrink request) × (k : ℕ) × (0 < j) × (made_of view.history j ≡ Some (x.comm, k))
  by_request None replies = absurd replies
  by_request (Some (Agree k)) (inl waits) = absurd (cc (waits.1))
  by_request (Some (Agree k)) (inr decided) = absurd (agreed (decision meld limits.ranks view.history x.comm k) decided.1)
  by_request (Some (Shrink k)) (inl waits) = absurd (cc (waits.1))
  by_request (Some (Shrink k)) (inr decided) = let made = shrunk view.history x.comm k (decision meld limits.ranks view.history x.comm k)
      decided.1 in (refl, k, made.0, made.1)
  by_request (Some (Barrier k)) is = absurd (no_barrier (is_revoked view.history x.comm) (list_all (has_arrived view.history x.comm k) x.group)
      (list_all (has_arrived view.history x.comm k) (filter (has x.group) view.look)) is)

-- the rank holds the parent with an open shrink, and no fewer members
pub record IsOfFew (old : Record) (c : ℕ) (y : Held) : Type 0 where
  pub x : Held
  pub held : held_at old c ≡ Some x
  pub shrinks : IsTrue (is_shrink x.request)
  pub few : length y.group ≤ length x.group

module _ {P : Type 0} (meld : P → P → P) (alone : Bool) (name : Over P) (c : ℕ) (old : Record) (before : Sight P) (j context size : ℕ) (new : Record)
    (after : Sight P) (calls : Calls meld alone (Poll old.number c) (local old (view_at name before)) (Shrunk j context size) (local new (view_at name after)))
    (fits : Fits meld name.limits before.seen old) (y : Held) (holds : held_at new j ≡ Some y) where
  by_run : IsRun meld name.limits alone (moment old before.seen) (Poll old.number c) (Shrunk j context size) (moment new after.seen) → IsOfFew old c y
  by_run run =
      let ranks = name.limits.ranks in
      let answered = answered_on meld name.limits alone before.seen after.seen old (Poll old.number c) (Shrunk j context size) new run (λ refusal is. cc is) in
      let x = answered.x in
      let made = by_request meld name.limits (rests_on run.span) old.number x j context size x.request answered.replies in
      let k = made.1 in
      let is : x.comm ≡ c = comm_is meld name.limits before.seen old c x fits answered.held in
      let begins = prefix_trans before.seen run.span.point after.seen run.span.point_begins run.span.point_ends in
      let there = get_prefix (spawns run.span.point) (spawns after.seen) (j - 1) (x.comm, k) (spawns_begin run.span.point after.seen run.span.point_ends)
      made.3 in
      let some = made.2 in
      let this : j - 1 + 1 ≡ j = omega (arith, some) in
      let group : y.group ≡ without (members ranks after.seen x.comm) (decision meld ranks after.seen x.comm k).failed =
      group_is meld name.limits after.seen new j y calls.linearizes.fits holds ∙ (ap (members ranks after.seen) (sym this) ∙
      (members_of_spawned meld name.limits after.seen calls.linearizes.of.legal (j - 1) x.comm k there).group) in
      let parent : members ranks after.seen x.comm ≡ x.group =
      ap (members ranks after.seen) is ∙ ((members_stay ranks before.seen after.seen c begins
      (exists_is meld name.limits before.seen old c x fits answered.held)).1 ∙ sym (group_is meld name.limits before.seen old c x fits answered.held)) in
      let fewer = length-filter-le (λ q. not (has (decision meld ranks after.seen x.comm k).failed q)) (members ranks after.seen x.comm) in
      record {
        x = x;
        held = answered.held;
        shrinks = made.0;
        few = omega (arith, ap length group, fewer, ap length parent);
      }

  pub made_few : IsOfFew old c y
  made_few = by_call (called_run meld alone name (Poll old.number c) old before (Shrunk j context size) new after calls)
    where
      by_call : IsCall meld name.limits alone (moment old before.seen) (Poll old.number c) (Shrunk j context size) (moment new after.seen) → IsOfFew old c y
      by_call (inl refused) = absurd (cc (refused.2))
      by_call (inr run) = by_run run

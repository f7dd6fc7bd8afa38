-- The poll of a request has one reply at each point of a history.
use Rattle.std.proofs.Common.{◌≡◌, ℕ, zero, suc, ◌+◌, ◌-◌, ◌<◌, ◌^◌, ◌==◌, Bool, true, false, List, [], ◌∷◌, length, Option, Some, None, is_some, refl, ap, ap₂, sym, ◌∙◌, arith, inl, inr, if◌then◌else◌, slice_get}
use Rattle.ulfm_laws.specs.Ranges.{payload_bits}
use Rattle.std.specs.List.{list_any, position_from}
use Rattle.std.proofs.lemmas.Bool.{and_from, eq-eqb, false_from_ne_true, ne_eqb, or_left, or_right}
use Rattle.ulfm_laws.specs.declared.summary.Body.TheVariants.{Ctx as OfIds}
use Rattle.ulfm_laws.specs.declared.summary.CtxMask.{CtxMask}
use Rattle.ulfm_model.specs.declared.call.Request.{Request}
use Rattle.ulfm_model.specs.declared.call.Request.TheVariants.{Agree, Shrink, Barrier}
use Rattle.ulfm_model.specs.declared.limits.Limits.{Limits}
use Rattle.ulfm_model.specs.declared.reply.Reply.{Reply}
use Rattle.ulfm_model.specs.declared.reply.Reply.TheVariants.{Pending, Shrunk, Refused}
use Rattle.ulfm_model.specs.declared.refusal.Refusal.TheVariants.{NoContext, SelfFailed}
use Rattle.ulfm_model.specs.History.{History, has, slot, spawns}
use Rattle.ulfm_model.specs.History.{Decision, IsLegal, decision, is_decided, is_made, members}
use Rattle.ulfm_model.specs.Computed.{agree_reply, poll_reply, shrink_reply, shrunk_reply}
use Rattle.ulfm_model.specs.Records.{Held}
use Rattle.ulfm_model.specs.Answers.{AgreeReplies, IsPending, PollReplies, ShrinkReplies, SpawnReplies, AtPoint}
pub use Rattle.ulfm_model.proofs.Lists.{all_member}
use Rattle.ulfm_model.proofs.OnlySpawned.{is_of, lowest_is, position_none, position_of, spawns_once}

-- the entry of a round is of that round
pub of_itself : (c k : ℕ) → is_of c k (c, k) ≡ true
of_itself c k = and_from (c == c) (k == k) (eq-eqb c c refl) (eq-eqb k k refl)

-- a round that stands among those that were made was made
pub made_at : (xs : List (ℕ × ℕ)) (i c k : ℕ) → slice_get xs i ≡ Some (c, k) → list_any (is_of c k) xs ≡ true
made_at [] i c k at = absurd (cc at)
made_at (x ∷ xs) zero c k at = let here : x ≡ (c, k) = cc at in or_left (is_of c k x) (list_any (is_of c k) xs) (ap (is_of c k) here ∙ of_itself c k)
made_at (x ∷ xs) (suc i) c k at = or_right (is_of c k x) (list_any (is_of c k) xs) (made_at xs i c k at)

agree_is : {P : Type 0} (made : Decision P) (reply : Reply P) → AgreeReplies made reply → reply ≡ agree_reply made made.body
agree_is made reply (inl (value, body, is)) = is ∙ ap (agree_reply made) (sym body)
agree_is made reply (inr (body, is)) = is ∙ ap (agree_reply made) (sym body)

module _ {P : Type 0} (meld : P → P → P) (limits : Limits) (view : AtPoint P) (legal : IsLegal meld limits view.history) (r : ℕ) (x : Held) (group : x.group ≡ members limits.ranks view.history x.comm) where
  abbrev v : History P
  v = view.history

  abbrev decided : ℕ → Bool
  decided k = is_decided limits.ranks v x.comm k

  abbrev made_in : ℕ → Decision P
  made_in k = decision meld limits.ranks v x.comm k

  -- a pending round isn't decided
  pending_open : (k : ℕ) → IsPending view x k → decided k ≡ false
  pending_open k is =
      false_from_ne_true (decided k)
      (λ all. let some = all_member (λ m. is_some (slot v x.comm k m)) (members limits.ranks v x.comm) is.member all (ap (λ ms. has ms is.member) (sym group) ∙ is.in_group) in cc (some, ap is_some is.unsettled))

  spawn_is : (k mask : ℕ) (reply : Reply P) → mask < 2 ^ payload_bits → SpawnReplies limits v x.comm k mask reply → reply ≡ shrunk_reply limits.ranks v mask (position_from (is_of x.comm k) 0 (spawns v))
  spawn_is k mask reply fits (inl (j, context, above, at, lowest, is)) =
      let place = position_of (is_of x.comm k) (spawns v) 0 (j - 1) (x.comm, k) (spawns_once meld limits v legal x.comm k) at (of_itself x.comm k) in
      let same : j ≡ 0 + (j - 1) + 1 = omega (arith, above) in
      is ∙ (ap₂ (λ i id. Shrunk i id (length (members limits.ranks v i))) same (lowest_is mask context fits lowest) ∙ ap (shrunk_reply limits.ranks v mask) (sym place))
  spawn_is k mask reply fits (inr (full, unmade, is)) = is ∙ ap (shrunk_reply limits.ranks v mask) (sym (position_none (is_of x.comm k) (spawns v) 0 unmade))

  shrink_is : (k : ℕ) (made : Decision P) (reply : Reply P) → ShrinkReplies limits v r x.comm k made reply → reply ≡ shrink_reply limits.ranks v r x.comm k made made.body
  shrink_is k made reply (inl (mask, body, inl (none, is))) =
      let rest : Reply P = if has made.failed r then Refused SelfFailed else shrunk_reply limits.ranks v mask.bits (position_from (is_of x.comm k) 0 (spawns v)) in
      is ∙ (ap (λ b. if b then Refused NoContext else rest) (sym (eq-eqb mask.bits 0 none)) ∙ ap (shrink_reply limits.ranks v r x.comm k made) (sym body))
  shrink_is k made reply (inl (mask, body, inr (some, kept, spawned))) =
      let last : Reply P = shrunk_reply limits.ranks v mask.bits (position_from (is_of x.comm k) 0 (spawns v)) in
      let not_none : (mask.bits == 0) ≡ false = ne_eqb mask.bits 0 (λ e. omega (arith, some, e)) in
      spawn_is k mask.bits reply mask.fits spawned
      ∙ (ap₂ (λ a b. if a then Refused NoContext else (if b then Refused SelfFailed else last)) (sym not_none) (sym kept) ∙ ap (shrink_reply limits.ranks v r x.comm k made) (sym body))
  shrink_is k made reply (inr (body, is)) = is ∙ ap (shrink_reply limits.ranks v r x.comm k made) (sym body)

  -- the reply is the computed one
  pub poll_reply_is : (request : Option Request) (reply : Reply P) → PollReplies meld limits view r x request reply → reply ≡ poll_reply meld limits view r x request
  poll_reply_is None reply replies = absurd replies
  poll_reply_is (Some (Agree k)) reply (inl (pending, is)) = is ∙ ap (λ b. if b then agree_reply (made_in k) (made_in k).body else Pending) (sym (pending_open k pending))
  poll_reply_is (Some (Agree k)) reply (inr (all, replies)) = agree_is (made_in k) reply replies ∙ ap (λ b. if b then agree_reply (made_in k) (made_in k).body else Pending) (sym all)
  poll_reply_is (Some (Shrink k)) reply (inl (pending, is)) = is ∙ ap (λ b. if b then shrink_reply limits.ranks v r x.comm k (made_in k) (made_in k).body else Pending) (sym (pending_open k pending))
  poll_reply_is (Some (Shrink k)) reply (inr (all, replies)) =
      shrink_is k (made_in k) reply replies ∙ ap (λ b. if b then shrink_reply limits.ranks v r x.comm k (made_in k) (made_in k).body else Pending) (sym all)
  poll_reply_is (Some (Barrier k)) reply replies = replies

  -- where a communicator may still be made of a round, no reply is an answer to a shrink's poll
  pub no_answer : (k : ℕ) (mask : CtxMask) (reply : Reply P) → decided k ≡ true → (made_in k).body ≡ OfIds mask → 0 < mask.bits → is_made v x.comm k ≡ false → length (spawns v) + 1 < limits.comms
      → PollReplies meld limits view r x (Some (Shrink k)) reply → ⊥
  no_answer k mask reply all body some unmade room (inl (pending, is)) = let undecided = pending_open k pending in cc (undecided, all)
  no_answer k mask reply all body some unmade room (inr (done, inr (clash, is))) = cc (body, clash)
  no_answer k mask reply all body some unmade room (inr (done, inl (other, same, inl (none, is)))) =
      let same_mask : mask ≡ other = cc (body, same) in
      let equal : mask.bits ≡ other.bits = ap (λ (m : CtxMask). m.bits) same_mask in omega (arith, equal, none, some)
  no_answer k mask reply all body some unmade room (inr (done, inl (other, same, inr (more, kept, inl (j, context, above, at, lowest, is))))) =
      let made = made_at (spawns v) (j - 1) x.comm k at in cc (made, unmade)
  no_answer k mask reply all body some unmade room (inr (done, inl (other, same, inr (more, kept, inr (full, unmade_too, is))))) = omega (arith, room, full)

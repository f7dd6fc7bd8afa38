-- That a reply is an answer is decided by tests that compute.
use Rattle.std.proofs.Common.{◌≡◌, ◌==◌, ◌&&◌, ◌||◌, ℕ, Bool, true, false, not, List, [], ◌∷◌, length, is_some, if◌then◌else◌, refl, sym, ap, ◌∙◌, subst, IsTrue, inl, inr, arith}
use Rattle.std.specs.List.{list_any}
use Rattle.std.specs.Bool.{Decides}
use Rattle.std.proofs.lemmas.Bool.{eqb-true, eq-eqb, or_cases, or_left, or_right}
use Rattle.std.proofs.lemmas.Bool.Decides.{Decides-and, Decides-like, Decides-or}
use Rattle.ulfm_model.specs.declared.{call.Call.{Call}, event.Event.{Event}, limits.Limits.{Limits}, refusal.Refusal.{Refusal}, reply.Reply.{Reply}}
use Rattle.ulfm_model.specs.Answers.{AnswersFail, BarrierStartReplies, DoneOrFound, IsPending, IsSelfFailed, AtPoint, printed, traits_of}
use Rattle.ulfm_model.specs.History.{failures, has, has_arrived, is_revoked, slot}
use Rattle.ulfm_model.specs.Records.{Held, Record, new_held}
use Rattle.ulfm_numbers.specs.Seen.{seen_of}
use Rattle.ulfm_judge.specs.Tests.{arrives_test, revokes_test}
use Rattle.ulfm_judge.specs.ReplyTests.{acked_test, barrier_start_test, barrier_test, fail_test, fails_test, freed_test, group_test, only_test, pending_test, refused_test, revoke_test, same_answer, same_refusal, self_failed_test, standing_test, starts_test}
use Rattle.ulfm_judge.proofs.Deciding.{arrives_decides, revokes_decides}
use Rattle.ulfm_numbers.proofs.Deciding.{eq_decides, false_decides, le_decides, never_decides, none_decides, true_decides}

-- ---- what is compared

-- the refusal of a number
abbrev refusal_at : ℕ → Refusal
refusal_at n =
    if n == 1 then Refusal.SelfFailed else (if n == 2 then Refusal.NoSuchComm else (if n == 3 then Refusal.Busy else (if n == 4 then Refusal.ShrinkOpen else (if n == 5 then Refusal.RoundsUsedUp else (if n == 6 then Refusal.Idle
    else (if n == 7 then Refusal.Mismatch else (if n == 8 then Refusal.NoContext else (if n == 9 then Refusal.NoRoom else (if n == 10 then Refusal.IsRevoked else (if n == 11 then Refusal.ProcFailed else (if n == 12 then Refusal.WorldKept
    else (if n == 13 then Refusal.NoSuchRank else (if n == 14 then Refusal.OutOfMemory else Refusal.Twice)))))))))))))

number_back : (r : Refusal) → refusal_at (printed r).0 ≡ r
number_back Refusal.SelfFailed = refl
number_back Refusal.NoSuchComm = refl
number_back Refusal.Busy = refl
number_back Refusal.ShrinkOpen = refl
number_back Refusal.RoundsUsedUp = refl
number_back Refusal.Idle = refl
number_back Refusal.Mismatch = refl
number_back Refusal.NoContext = refl
number_back Refusal.NoRoom = refl
number_back Refusal.IsRevoked = refl
number_back Refusal.ProcFailed = refl
number_back Refusal.WorldKept = refl
number_back Refusal.NoSuchRank = refl
number_back Refusal.OutOfMemory = refl
number_back Refusal.Twice = refl

-- refusals are told apart by their numbers
pub refusal_decides : (r s : Refusal) → Decides (same_refusal r s) (r ≡ s)
refusal_decides r s = Decides-like _ (λ same. sym (number_back r) ∙ (ap refusal_at same ∙ number_back s)) (λ same. ap (λ x. (printed x).0) same) (eq_decides (printed r).0 (printed s).0)

-- so are two answers of a test
pub answer_decides : (a b : Bool) → Decides (same_answer a b) (a ≡ b)
answer_decides true true = (λ e. refl, λ e. refl)
answer_decides true false = (λ e. absurd (cc e), λ e. absurd (cc e))
answer_decides false true = (λ e. absurd (cc e), λ e. absurd (cc e))
answer_decides false false = (λ e. refl, λ e. refl)

-- a list has no entry
pub empty_decides : {X : Type 0} (xs : List X) → Decides (length xs == 0) (xs ≡ [])
empty_decides [] = (λ e. refl, λ e. refl)
empty_decides (x ∷ xs) = never (λ e. cc e) (length xs) refl
  where
    never : (x ∷ xs ≡ [] → ⊥) → (n : ℕ) → length xs ≡ n → Decides (length (x ∷ xs) == 0) (x ∷ xs ≡ [])
    never apart n is = (λ e. absurd (omega (arith, eqb-true (length (x ∷ xs)) 0 e)), λ e. absurd (apart e))

-- it has one alone, which passes a test
pub only_decides : {X : Type 0} (p : X → Bool) (Q : X → Type 0) → ((x : X) → Decides (p x) (Q x)) → (xs : List X) → Decides (only_test p xs) ((x : X) × (xs ≡ x ∷ []) × Q x)
only_decides p Q each [] = never_decides (λ q. cc (q.1))
only_decides p Q each (x ∷ []) = Decides-like _ (λ q. (x, refl, q)) (λ q. let same : q.0 ≡ x = cc (q.1) in subst Q same q.2) (each x)
only_decides p Q each (x ∷ y ∷ xs) = never_decides (λ q. cc (q.1))

-- it is one that passes a test for one entry alone
only_one : {X : Type 0} (p : X → Bool) (e : X) → ((x : X) → Decides (p x) (x ≡ e)) → (xs : List X) → Decides (only_test p xs) (xs ≡ e ∷ [])
only_one p e each xs = Decides-like _ (λ q. q.1 ∙ ap (λ x. x ∷ []) q.2) (λ is. (e, is, refl)) (only_decides p (λ x. x ≡ e) each xs)

fails_decides : {P : Type 0} (r : ℕ) (event : Event P) → Decides (fails_test r event) (event ≡ Event.Fail r)
fails_decides r (Event.Fail s) = Decides-like _ (λ e. ap Event.Fail e) (λ e. cc e) (eq_decides s r)
fails_decides r _ = never_decides (λ e. cc e)

-- a reply is this refusal
pub refused_decides : {P : Type 0} (refusal : Refusal) (reply : Reply P) → Decides (refused_test refusal reply) (reply ≡ Reply.Refused refusal)
refused_decides refusal (Reply.Refused r) = Decides-like _ (λ e. ap Reply.Refused e) (λ e. cc e) (refusal_decides r refusal)
refused_decides refusal _ = never_decides (λ e. cc e)

-- ---- declarations, and refusals for good

-- a declaration is answered so
pub fail_decides : {P : Type 0} (limits : Limits) (view : AtPoint P) (r : ℕ) (reply : Reply P) → Decides (fail_test limits (has (failures view.history) r) view.own r reply) (AnswersFail limits view r reply)
fail_decides limits view r Reply.Declared =
    Decides-like _ (λ p. inl (refl, p.0, p.1)) (λ q. elim q [ inl a ↦ (a.1, a.2) | inr (inl b) ↦ absurd (cc (b.0)) | inr (inr d) ↦ absurd (cc (d.0)) ])
    (Decides-and _ _ (only_one (fails_test r) (Event.Fail r) (fails_decides r) view.own) (true_decides (has (failures view.history) r)))
fail_decides limits view r Reply.AlreadyFailed =
    Decides-like _ (λ p. inr (inl (refl, p.0, p.1))) (λ q. elim q [ inl a ↦ absurd (cc (a.0)) | inr (inl b) ↦ (b.1, b.2) | inr (inr d) ↦ absurd (cc (d.0)) ])
    (Decides-and _ _ (empty_decides view.own) (true_decides (has (failures view.history) r)))
fail_decides limits view r (Reply.Refused refusal) =
    Decides-like _ (λ p. inr (inr (ap Reply.Refused p.0, p.1.0, p.1.1)))
    (λ q. elim q [
      | inl a ↦ absurd (cc (a.0))
      | inr (inl b) ↦ absurd (cc (b.0))
      | inr (inr d) ↦ let same : refusal ≡ Refusal.NoSuchRank = cc (d.0) in (same, (d.1, d.2))
    ])
    (Decides-and _ _ (refusal_decides refusal Refusal.NoSuchRank) (Decides-and _ _ (empty_decides view.own) (le_decides limits.ranks r)))
fail_decides limits view r _ = never_decides (λ q. elim q [ inl a ↦ cc (a.0) | inr (inl b) ↦ cc (b.0) | inr (inr d) ↦ cc (d.0) ])

-- where a call starts a request, nothing was added
starts_decides : {P : Type 0} (own : List (Event P)) (asked : Call P) → Decides (not (starts_test asked) || (length own == 0)) ((x : Held) → IsTrue (is_some ((traits_of asked).starts x)) → own ≡ [])
starts_decides own (Call.Agree rank c value) = Decides-like (length own == 0) (λ none x some. none) (λ each. each (new_held 0 0 []) refl) (empty_decides own)
starts_decides own (Call.Shrink rank c) = Decides-like (length own == 0) (λ none x some. none) (λ each. each (new_held 0 0 []) refl) (empty_decides own)
starts_decides own (Call.Barrier rank c) = Decides-like (length own == 0) (λ none x some. none) (λ each. each (new_held 0 0 []) refl) (empty_decides own)
starts_decides own _ = (λ e x some. absurd (cc some), λ e. refl)

pub self_failed_decides : {P : Type 0} (view : AtPoint P) (old : Record) (asked : Call P) (reply : Reply P) → Decides (self_failed_test (has (failures view.history) old.number) view.own asked reply) (IsSelfFailed view old asked reply)
self_failed_decides view old asked reply =
    Decides-like _ (λ p. record { reply_is = p.0; declared = p.1.0; adds_nothing = p.1.1 }) (λ q. (q.reply_is, (q.declared, q.adds_nothing)))
    (Decides-and _ _ (refused_decides Refusal.SelfFailed reply) (Decides-and _ _ (true_decides (has (failures view.history) old.number)) (starts_decides view.own asked)))

-- ---- barriers, revocations, and what only reads

pub barrier_start_decides : {P : Type 0} (view : AtPoint P) (old : Record) (x : Held) (reply : Reply P)
    → Decides (barrier_start_test (has_arrived view.history x.comm x.next_barrier old.number) view.own old.number x reply) (BarrierStartReplies view old x reply)
barrier_start_decides view old x Reply.Started =
    Decides-like _ (λ p. (p.0, inl (refl, p.1))) (λ q. (q.0, elim (q.1) [ inl a ↦ a.1 | inr b ↦ absurd (cc (b.0)) ]))
    (Decides-and _ _ (true_decides (has_arrived view.history x.comm x.next_barrier old.number))
    (only_one (arrives_test x.comm x.next_barrier old.number) (Event.Arrive x.comm x.next_barrier old.number) (arrives_decides x.comm x.next_barrier old.number) view.own))
barrier_start_decides view old x (Reply.Refused refusal) =
    Decides-like _ (λ p. (p.0, inr (ap Reply.Refused p.1.0, p.1.1)))
    (λ q. (q.0, elim (q.1) [ inl a ↦ absurd (cc (a.0)) | inr b ↦ let same : refusal ≡ Refusal.Twice = cc (b.0) in (same, b.1) ]))
    (Decides-and _ _ (true_decides (has_arrived view.history x.comm x.next_barrier old.number))
    (Decides-and _ _ (refusal_decides refusal Refusal.Twice) (empty_decides view.own)))
barrier_start_decides view old x _ = never_decides (λ q. elim (q.1) [ inl a ↦ cc (a.0) | inr b ↦ cc (b.0) ])

pub revoke_decides : {P : Type 0} (view : AtPoint P) (c : ℕ) (reply : Reply P)
    → Decides (revoke_test (is_revoked view.history c) view.own c reply) (IsTrue (is_revoked view.history c) × DoneOrFound view (Event.Revoke c) Reply.Revoked Reply.AlreadyRevoked reply)
revoke_decides view c Reply.Revoked =
    Decides-like _ (λ p. (p.0, inl (refl, p.1))) (λ q. (q.0, elim (q.1) [ inl a ↦ a.1 | inr b ↦ absurd (cc (b.0)) ]))
    (Decides-and _ _ (true_decides (is_revoked view.history c)) (only_one (revokes_test c) (Event.Revoke c) (revokes_decides c) view.own))
revoke_decides view c Reply.AlreadyRevoked =
    Decides-like _ (λ p. (p.0, inr (refl, p.1))) (λ q. (q.0, elim (q.1) [ inl a ↦ absurd (cc (a.0)) | inr b ↦ b.1 ]))
    (Decides-and _ _ (true_decides (is_revoked view.history c)) (empty_decides view.own))
revoke_decides view c _ = never_decides (λ q. elim (q.1) [ inl a ↦ cc (a.0) | inr b ↦ cc (b.0) ])

pub standing_decides : {P : Type 0} (revoked : Bool) (reply : Reply P) → Decides (standing_test revoked reply) (reply ≡ Reply.Standing revoked)
standing_decides revoked (Reply.Standing told) = Decides-like _ (λ e. ap Reply.Standing e) (λ e. cc e) (answer_decides told revoked)
standing_decides revoked _ = never_decides (λ e. cc e)

pub freed_decides : {P : Type 0} (reply : Reply P) → Decides (freed_test reply) (reply ≡ Reply.Freed)
freed_decides Reply.Freed = (λ e. refl, λ e. refl)
freed_decides _ = never_decides (λ e. cc e)

pub group_decides : {P : Type 0} (size : ℕ) (reply : Reply P) → Decides (group_test size reply) (reply ≡ Reply.FailedGroup size)
group_decides size (Reply.FailedGroup count) = Decides-like _ (λ e. ap Reply.FailedGroup e) (λ e. cc e) (eq_decides count size)
group_decides size _ = never_decides (λ e. cc e)

pub acked_decides : {P : Type 0} (now : ℕ) (reply : Reply P) → Decides (acked_test now reply) (reply ≡ Reply.Acked now)
acked_decides now (Reply.Acked count) = Decides-like _ (λ e. ap Reply.Acked e) (λ e. cc e) (eq_decides count now)
acked_decides now _ = never_decides (λ e. cc e)

-- ---- a barrier's poll

revoked_decides : {P : Type 0} (all known : Bool) (reply : Reply P) → Decides (barrier_test true all known reply) (reply ≡ Reply.Refused Refusal.IsRevoked)
revoked_decides all known (Reply.Refused refusal) = Decides-like _ (λ e. ap Reply.Refused e) (λ e. cc e) (refusal_decides refusal Refusal.IsRevoked)
revoked_decides all known Reply.Done = never_decides (λ e. cc e)
revoked_decides all known Reply.Pending = never_decides (λ e. cc e)
revoked_decides all known _ = never_decides (λ e. cc e)

done_decides : {P : Type 0} (known : Bool) (reply : Reply P) → Decides (barrier_test false true known reply) (reply ≡ Reply.Done)
done_decides known Reply.Done = (λ e. refl, λ e. refl)
done_decides known _ = never_decides (λ e. cc e)

waits_decides : {P : Type 0} (reply : Reply P) → Decides (barrier_test false false true reply) (reply ≡ Reply.Pending)
waits_decides Reply.Pending = (λ e. refl, λ e. refl)
waits_decides _ = never_decides (λ e. cc e)

gone_decides : {P : Type 0} (reply : Reply P) → Decides (barrier_test false false false reply) (reply ≡ Reply.Refused Refusal.ProcFailed)
gone_decides (Reply.Refused refusal) = Decides-like _ (λ e. ap Reply.Refused e) (λ e. cc e) (refusal_decides refusal Refusal.ProcFailed)
gone_decides _ = never_decides (λ e. cc e)

pub barrier_decides : {P : Type 0} (revoked all known : Bool) (reply : Reply P)
    → Decides (barrier_test revoked all known reply)
    (reply ≡ (if revoked then Reply.Refused Refusal.IsRevoked else (if all then Reply.Done else (if known then Reply.Pending else Reply.Refused Refusal.ProcFailed))))
barrier_decides true all known reply = revoked_decides all known reply
barrier_decides false true known reply = done_decides known reply
barrier_decides false false true reply = waits_decides reply
barrier_decides false false false reply = gone_decides reply

-- ---- pending rounds

-- some entry passes a test exactly where one that the list has does
some_decides : (p : ℕ → Bool) (xs : List ℕ) → Decides (list_any p xs) ((r : ℕ) × (has xs r ≡ true) × (p r ≡ true))
some_decides p [] = never_decides (λ q. cc (q.1))
some_decides p (x ∷ xs) =
    Decides-like _
    (λ s. elim s [ inl here ↦ (x, or_left (x == x) (has xs x) (eq-eqb x x refl), here) | inr later ↦ (later.0, or_right (x == later.0) (has xs later.0) later.1, later.2) ])
    (λ q. elim (or_cases (x == q.0) (has xs q.0) (q.1)) [ inl here ↦ inl (ap p (eqb-true x q.0 here) ∙ q.2) | inr later ↦ inr (q.0, later, q.2) ])
    (Decides-or _ _ (true_decides (p x)) (some_decides p xs))

pub pending_decides : {P : Type 0} (ranks : ℕ) (view : AtPoint P) (x : Held) (k : ℕ) → Decides (pending_test view.look (seen_of ranks view.history) x k) (IsPending view x k)
pending_decides ranks view x k =
    let unknown : ℕ → Bool = λ r. not (has view.look r) in
    let unset : ℕ → Bool = λ r. not (is_some (slot view.history x.comm k r)) in
    let both = λ (r : ℕ). Decides-and _ _ (false_decides (has view.look r)) (none_decides (slot view.history x.comm k r)) in
    Decides-like _ (λ q. let is = (both q.0).0 q.2 in record { member = q.0; in_group = q.1; not_declared = is.0; unsettled = is.1 })
    (λ pending. (pending.member, pending.in_group, (both pending.member).1 (pending.not_declared, pending.unsettled)))
    (some_decides (λ r. unknown r && unset r) x.group)

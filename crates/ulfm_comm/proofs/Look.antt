-- What comes after the look of a call.
use Rattle.std.proofs.Common.{◌≡◌, ℕ, ◌-◌, ◌<◌, ◌≤◌, ◌==◌, Bool, true, false, not, List, [], ◌∷◌, length, filter, take, drop, max, min, Option, Some, None}
use Rattle.std.proofs.Common.{is_some, refl, ap, ap₂, sym, ◌∙◌, subst, arith, inr, IsTrue, if◌then◌else◌}
use Rattle.std.specs.List.{AllByRecursion}
use Rattle.ulfm_laws.specs.declared.summary.CtxMask.{CtxMask}
use Rattle.ulfm_model.specs.declared.call.Call.TheVariants as call
use Rattle.ulfm_model.specs.declared.{call.Call.{Call}, call.Request.{Request}, call.Request.TheVariants.{Agree, Shrink}, contribution.Offer.{Offer}}
use Rattle.ulfm_model.specs.declared.{contribution.Offer.TheVariants.{Flag, Ctx}, event.Caller.TheVariants.{Rank}, refusal.Refusal.{Refusal}}
use Rattle.ulfm_model.specs.declared.{refusal.Refusal.TheVariants.{Idle, NoSuchComm, SelfFailed, Twice}, reply.Reply.{Reply}}
use Rattle.ulfm_model.specs.declared.reply.Reply.TheVariants.{Acked, FailedGroup, Freed, Pending, Refused}
use Rattle.ulfm_model.specs.{Answers.{Effect, first_refusal, most_failures, printed, left_with, traits_of}, Answers.Effect.{Keeps}, History.{failures, has}}
use Rattle.ulfm_model.specs.{Records.{Fits, Held, Record, free_ids, held_at, with_held}, Runs.{Did}}
use Rattle.ulfm_model.specs.Terms.{comm_of, request_of, tests_of}
use Rattle.ulfm_words.specs.Steps.{IsView, Over, Sight, view_at}
use Rattle.ulfm_words.proofs.{Ranks.{failures_le, full_has}, Trails.{did_none, did_prefix}}
use Rattle.std.proofs.lemmas.{Bool.{eqb-false}, List.{length-take, take-append-drop}}
use mathlib.Core.List.{IsPrefix}
use Rattle.ulfm_model.proofs.{Histories.{failures_begin}, Marking.{failed_few}, Lists.{length_prefix, prefix_trans}}
use Rattle.ulfm_model.specs.Records.{moment}
use Rattle.ulfm_steps.proofs.Looking.{full_found}
use Rattle.ulfm_steps.specs.Looks.{LookIs}
use Rattle.ulfm_comm.specs.{Calls.{Linearizes, RepliedAs, is_out_of_memory, wants_memory}, Phase.{Answered, Stands}, Look.{HasLooked, JustLooked}}
use Rattle.ulfm_comm.specs.{Ends.{IsEndRun}, Exchange.{StartsWith}}
use Rattle.ulfm_comm.specs.declared.phases.phase.Phase.TheVariants.{Begun, Looking}
use Rattle.ulfm_comm.proofs.{Acks.{ack_failed_is, failure_ack_is, get_acked_is, get_failed_is}, CallRuns.{calls_declared, calls_is, calls_missing, looked_fits}, Frees.{calls_freed}}
use Rattle.ulfm_comm.proofs.{WholeCall.{held_before, refused}, Refusals.{by_tests}}
use Rattle.ulfm_comm.specs.Local.{frame, local}
use Rattle.ulfm_comm.specs.Prepared.{Prepared}

abbrev is_twice : Refusal → Bool
is_twice Twice = true
is_twice _ = false

-- what each test of a call refuses leaves the record as it is, and is neither want of memory nor `twice`
abbrev IsMild : Bool × Refusal → Type 0
IsMild test = ((printed test.1).2 ≡ Keeps) × (is_out_of_memory test.1 ≡ false) × (is_twice test.1 ≡ false)

mild_tests : {P : Type 0} (own : Record) (x : Held) (asked : Call P) → AllByRecursion IsMild (tests_of own x asked)
mild_tests own x (call.Fail rank) = tt
mild_tests own x (call.GetFailed rank c) = tt
mild_tests own x (call.FailureGetAcked rank c) = tt
mild_tests own x (call.Ack rank c count) = tt
mild_tests own x (call.FailureAck rank c) = tt
mild_tests own x (call.Agree rank c value) = ((refl, refl, refl), ((refl, refl, refl), tt))
mild_tests own x (call.Shrink rank c) = ((refl, refl, refl), ((refl, refl, refl), ((refl, refl, refl), tt)))
mild_tests own x (call.Barrier rank c) = ((refl, refl, refl), ((refl, refl, refl), tt))
mild_tests own x (call.Poll rank c) = ((refl, refl, refl), tt)
mild_tests own x (call.Revoke rank c) = tt
mild_tests own x (call.IsRevoked rank c) = tt
mild_tests own x (call.Free rank c) = ((refl, refl, refl), ((refl, refl, refl), tt))

mild_first : (tests : List (Bool × Refusal)) (refusal : Refusal) → AllByRecursion IsMild tests → first_refusal tests ≡ Some refusal
    → ((printed refusal).2 ≡ Keeps) × (is_out_of_memory refusal ≡ false) × (is_twice refusal ≡ false)
mild_first [] refusal all is = absurd (cc is)
mild_first ((true, first) ∷ tests) refusal all is = let same : first ≡ refusal = cc is in subst (λ r. ((printed r).2 ≡ Keeps) × (is_out_of_memory r ≡ false) × (is_twice r ≡ false))
    same all.0
mild_first ((false, first) ∷ tests) refusal all is = mild_first tests refusal all.1 is

-- the tests don't read what was seen
pub tests_same : {P : Type 0} (own : Record) (seen : List ℕ) (x : Held) (asked : Call P) → tests_of (record own { seen = seen }) x asked ≡ tests_of own x asked
tests_same own seen x (call.Fail rank) = refl
tests_same own seen x (call.GetFailed rank c) = refl
tests_same own seen x (call.FailureGetAcked rank c) = refl
tests_same own seen x (call.Ack rank c count) = refl
tests_same own seen x (call.FailureAck rank c) = refl
tests_same own seen x (call.Agree rank c value) = refl
tests_same own seen x (call.Shrink rank c) = refl
tests_same own seen x (call.Barrier rank c) = refl
tests_same own seen x (call.Poll rank c) = refl
tests_same own seen x (call.Revoke rank c) = refl
tests_same own seen x (call.IsRevoked rank c) = refl
tests_same own seen x (call.Free rank c) = refl

-- a poll that is refused has no request
pub idle_poll : {P : Type 0} (own : Record) (x : Held) (asked : Call P) (refusal : Refusal) → (traits_of asked).polls ≡ true
    → first_refusal (tests_of own x asked) ≡ Some refusal → x.request ≡ None
idle_poll own x (call.Poll rank c) refusal polls is = by_request x.request is
  where
    by_request : (request : Option Request) → first_refusal ((not (is_some request), Idle) ∷ []) ≡ Some refusal → request ≡ None
    by_request None is = refl
    by_request (Some request) is = absurd (cc is)
idle_poll own x _ refusal polls is = absurd (cc polls)

module _ {P : Type 0} (meld : P → P → P) (alone : Bool) (name : Over P) (asked : Call P) (old : Record) (before : Sight P) (new : Record) (after : Sight P) where
  -- a reply that isn't pending, and isn't for want of memory
  pub answered_by : (reply : Reply P) → wants_memory reply ≡ false → (reply ≡ Pending → ⊥) → Linearizes meld alone asked (local old (view_at name before)) reply (local new (view_at name after))
      → Answered meld alone asked (local old (view_at name before)) reply (local new (view_at name after))
  answered_by reply none other calls =
      record { ends = inr (subst (λ b. RepliedAs meld alone asked (local old (view_at name before)) reply b (local new (view_at name after))) (sym none) calls); pending = λ is. absurd (other is) }

module _ {P : Type 0} (meld : P → P → P) (alone : Bool) (name : Over P) (asked : Call P) (old : Record) (before : Sight P) (mid : Record) (now : Sight P)
    (j : JustLooked meld alone asked (local old (view_at name before)) (local mid (view_at name now))) (of : IsView meld (view_at name now)) where
  pub just_fits : Fits meld name.limits now.seen mid
  just_fits = looked_fits meld alone name before now j.onward old mid of j.fits j.looked

  -- on a communicator that the rank doesn't hold
  pub just_missing : held_at mid (comm_of asked) ≡ None → Answered meld alone asked (local old (view_at name before)) (Refused NoSuchComm) (local mid (view_at name now))
  just_missing missing = answered_by meld alone name asked old before mid now (Refused NoSuchComm) refl (λ is. absurd (cc is))
      (calls_missing meld alone name before now j.onward asked old mid of j.fits j.looked missing)

  module _ (x : Held) (held : held_at mid (comm_of asked) ≡ Some x) where
    pub tests_before : tests_of mid x asked ≡ tests_of old x asked
    tests_before = ap (λ (w : Record). tests_of w x asked) j.looked.record_is ∙ tests_same old (failures now.seen) x asked

    -- the record refuses the call
    pub just_refused : (refusal : Refusal) → first_refusal (tests_of mid x asked) ≡ Some refusal
        → Answered meld alone asked (local old (view_at name before)) (Refused refusal) (local mid (view_at name now))
    just_refused refusal is =
        let mild = mild_first (tests_of mid x asked) refusal (mild_tests mid x asked) is in
        let first : first_refusal (tests_of old x asked) ≡ Some refusal = sym (ap first_refusal tests_before) ∙ is in
        let at = held_before meld name.limits alone before.seen now.seen old mid j.looked (comm_of asked) (Some x) held in
        answered_by meld alone name asked old before mid now (Refused refusal) mild.1 (λ same. absurd (cc same))
        (calls_is meld alone name before now j.onward asked old (Refused refusal) mid of j.fits (λ same. absurd (let no = mild.2 in cc (same, no)))
        (refused meld name.limits alone before.seen now.seen old mid j.looked asked refusal mid of.legal
        (by_tests meld alone name before now asked old mid j.fits j.looked x held (Some refusal) first)
        (sym (ap (λ (e : Effect). left_with mid (comm_of asked) e) mild.0))
        (λ polls. ap₂ (λ (b : Bool) h. if b then request_of h else None) polls at ∙ idle_poll mid x asked refusal polls is)))

    -- it doesn't
    abbrev pub just_passed : first_refusal (tests_of mid x asked) ≡ None → HasLooked (frame meld name.limits alone) asked (moment old before.seen) (moment mid now.seen)
    just_passed is =
        record {
          look = now.seen;
          looked = j.looked;
          legal = of.legal;
          fits = just_fits;
          x = x;
          held = held;
          passed = by_tests meld alone name before now asked old mid j.fits j.looked x held None (sym (ap first_refusal tests_before) ∙ is);
          waited = did_none alone now.seen;
        }

module _ {P : Type 0} (meld : P → P → P) (alone : Bool) (name : Over P) (rank c : ℕ) (old : Record) (before : Sight P) (mid : Record) (now : Sight P)
    (of : IsView meld (view_at name now)) (x : Held) (held : held_at mid c ≡ Some x) where
  -- a call that only looks, by its run
  looked_only : (asked : Call P) (reply : Reply P) (new : Record) → wants_memory reply ≡ false → (reply ≡ Pending → ⊥) → (reply ≡ Refused Twice → ⊥)
      → JustLooked meld alone asked (local old (view_at name before)) (local mid (view_at name now))
      → IsEndRun meld name.limits alone (moment old before.seen) asked reply (moment new now.seen)
      → Answered meld alone asked (local old (view_at name before)) reply (local new (view_at name now))
  looked_only asked reply new none waits twice j run =
      answered_by meld alone name asked old before new now reply none waits
      (calls_is meld alone name before now j.onward asked old reply new of j.fits (λ is no. absurd (twice is)) run)

  -- what was seen is what the look found
  seen_is : (asked : Call P) → JustLooked meld alone asked (local old (view_at name before)) (local mid (view_at name now))
      → filter (has x.group) mid.seen ≡ filter (has x.group) (failures now.seen)
  seen_is asked j = ap (λ (w : Record). filter (has x.group) w.seen) j.looked.record_is

  -- so many ranks have failed; no world has more than may be counted
  pub just_counted : (n : ℕ) → n ≡ min most_failures (length (filter (has x.group) mid.seen)) → JustLooked meld alone (call.GetFailed rank c) (local old (view_at name before)) (local mid (view_at name now))
      → Answered meld alone (call.GetFailed rank c) (local old (view_at name before)) (FailedGroup n) (local mid (view_at name now))
  just_counted n is j =
      let seen = ap length (seen_is (call.GetFailed rank c) j) in
      let few = failed_few meld name.limits now.seen x.group of.legal in
      let counted : n ≡ length (filter (has x.group) (failures now.seen)) = omega (arith, is, seen, few, of.may_open.in_range.ranks) in
      looked_only (call.GetFailed rank c) (FailedGroup n) mid refl (λ same. absurd (cc same)) (λ same. absurd (cc same)) j
      (get_failed_is meld name.limits alone before.seen now.seen old mid j.looked of.legal
      (just_fits meld alone name (call.GetFailed rank c) old before mid now j of) rank c x held n counted)

  -- so many of them are acknowledged
  pub just_listed : (n : ℕ) → n ≡ min x.acked (length (filter (has x.group) mid.seen)) → JustLooked meld alone (call.FailureGetAcked rank c) (local old (view_at name before)) (local mid (view_at name now))
      → Answered meld alone (call.FailureGetAcked rank c) (local old (view_at name before)) (FailedGroup n) (local mid (view_at name now))
  just_listed n is j =
      looked_only (call.FailureGetAcked rank c) (FailedGroup n) mid refl (λ same. absurd (cc same)) (λ same. absurd (cc same)) j
      (get_acked_is meld name.limits alone before.seen now.seen old mid j.looked of.legal
      (just_fits meld alone name (call.FailureGetAcked rank c) old before mid now j of) rank c x held n
      (is ∙ (ap (λ group. min x.acked (length group)) (seen_is (call.FailureGetAcked rank c) j) ∙ sym (length-take x.acked (filter (has x.group) (failures now.seen))))))

  -- so many are acknowledged now
  pub just_acked : (count n : ℕ) (new : Record) → n ≡ max x.acked (min count (length (filter (has x.group) mid.seen)))
      → new ≡ with_held mid c (λ y. record y { acked = n }) → JustLooked meld alone (call.Ack rank c count) (local old (view_at name before)) (local mid (view_at name now))
      → Answered meld alone (call.Ack rank c count) (local old (view_at name before)) (Acked n) (local new (view_at name now))
  just_acked count n new is left j =
      looked_only (call.Ack rank c count) (Acked n) new refl (λ same. absurd (cc same)) (λ same. absurd (cc same)) j
      (ack_failed_is meld name.limits alone before.seen now.seen old mid j.looked of.legal
      (just_fits meld alone name (call.Ack rank c count) old before mid now j of) rank c x held count n new
      (is ∙ ap (λ group. max x.acked (min count (length group))) (seen_is (call.Ack rank c count) j)) left)

  -- .. where all are asked for
  pub just_acked_all : (n : ℕ) (new : Record) → n ≡ max x.acked (min most_failures (length (filter (has x.group) mid.seen)))
      → new ≡ with_held mid c (λ y. record y { acked = n }) → JustLooked meld alone (call.FailureAck rank c) (local old (view_at name before)) (local mid (view_at name now))
      → Answered meld alone (call.FailureAck rank c) (local old (view_at name before)) (Acked n) (local new (view_at name now))
  just_acked_all n new is left j =
      looked_only (call.FailureAck rank c) (Acked n) new refl (λ same. absurd (cc same)) (λ same. absurd (cc same)) j
      (failure_ack_is meld name.limits alone before.seen now.seen old mid j.looked of.legal
      (just_fits meld alone name (call.FailureAck rank c) old before mid now j of) rank c x held n new
      (is ∙ ap (λ group. max x.acked (min most_failures (length group))) (seen_is (call.FailureAck rank c) j)) left)

  -- the communicator is given back
  pub just_freed : (new : Record) → first_refusal (tests_of {P = P} mid x (call.Free rank c)) ≡ None
      → new ≡ record mid { held = filter (λ y. not (y.comm == c)) mid.held } → JustLooked meld alone (call.Free rank c) (local old (view_at name before)) (local mid (view_at name now))
      → Answered meld alone (call.Free rank c) (local old (view_at name before)) Freed (local new (view_at name now))
  just_freed new passed left j =
      answered_by meld alone name (call.Free rank c) old before new now Freed refl (λ same. absurd (cc same))
      (calls_freed meld alone name before now j.onward rank c old mid new of j.fits j.looked x held
      (sym (ap first_refusal (tests_before meld alone name (call.Free rank c) old before mid now j of x held)) ∙ passed) left)

-- a rank that its look finds declared
pub just_declared : {P : Type 0} (meld : P → P → P) (alone : Bool) (name : Over P) (asked : Call P) (old : Record) (before : Sight P) (new : Record)
    (now : Sight P) → before.steps ≤ now.steps → IsView meld (view_at name now) → Fits meld name.limits before.seen old → old.refused ≡ false
    → Did alone [] before.seen now.seen → IsTrue (has (failures now.seen) old.number) → new ≡ record old { seen = failures now.seen; refused = true }
    → Answered meld alone asked (local old (view_at name before)) (Refused SelfFailed) (local new (view_at name now))
just_declared meld alone name asked old before new now onward of fits in_use did declared is =
    answered_by meld alone name asked old before new now (Refused SelfFailed) refl (λ same. absurd (cc same))
    (calls_declared meld alone name before now onward asked old new of fits in_use did declared is)

-- a rank's call is in its own name
same_rank : (rank r : ℕ) → Rank rank ≡ Rank r → rank ≡ r
same_rank rank r is = cc is

module _ {P : Type 0} (asked : Call P) (rank c r : ℕ) (mine : (traits_of asked).by ≡ Rank r) where
  pub own_barrier : asked ≡ call.Barrier rank c → asked ≡ call.Barrier r (comm_of asked)
  own_barrier is =
      let same = same_rank rank r (subst (λ (a : Call P). (traits_of a).by ≡ Rank r) is mine) in
      is ∙ ap₂ (λ n w. call.Barrier n w) same (sym (ap (λ (a : Call P). comm_of a) is))

  pub own_revoke : asked ≡ call.Revoke rank c → asked ≡ call.Revoke r (comm_of asked)
  own_revoke is =
      let same = same_rank rank r (subst (λ (a : Call P). (traits_of a).by ≡ Rank r) is mine) in
      is ∙ ap₂ (λ n w. call.Revoke n w) same (sym (ap (λ (a : Call P). comm_of a) is))

  pub own_question : asked ≡ call.IsRevoked rank c → asked ≡ call.IsRevoked r (comm_of asked)
  own_question is =
      let same = same_rank rank r (subst (λ (a : Call P). (traits_of a).by ≡ Rank r) is mine) in
      is ∙ ap₂ (λ n w. call.IsRevoked n w) same (sym (ap (λ (a : Call P). comm_of a) is))

-- what the start of an agree contributes, and that of a shrink
pub starts_agree : {P : Type 0} (asked : Call P) (rank c : ℕ) (value : P) (own : Record) (x : Held) (round : ℕ) → asked ≡ call.Agree rank c value
    → round ≡ x.next_agreement → StartsWith asked own x (Agree round) (Flag value)
starts_agree asked rank c value own x round is at = subst (λ a. StartsWith a own x (Agree round) (Flag value)) (sym is) (ap Agree at, refl)

pub starts_shrink : {P : Type 0} (asked : Call P) (rank c : ℕ) (own mid : Record) (seen : List ℕ) (x : Held) (round : ℕ) (ids : CtxMask)
    → asked ≡ call.Shrink rank c → mid ≡ record own { seen = seen } → ids ≡ free_ids mid.held → round ≡ x.next_agreement
    → StartsWith asked own x (Shrink round) (Ctx ids)
starts_shrink {P} asked rank c own mid seen x round ids is mid_is free at =
    subst (λ a. StartsWith a own x (Shrink round) (Ctx ids)) (sym is) (ap Shrink at, ap as_offer (free ∙ ap (λ (w : Record). free_ids w.held) mid_is))
  where
    as_offer : CtxMask → Offer P
    as_offer i = Ctx i

-- a call that begins has seen what is a beginning of the list of failures
begun_seen : {P : Type 0} (meld : P → P → P) (alone : Bool) (name : Over P) (asked : Call P) (old : Record) (before : Sight P) (prepared : Prepared) (own : Record)
    (now : Sight P)
    → Stands meld alone (local old (view_at name before)) (record { asked = asked; phase = Begun; prepared = prepared }) (local own (view_at name now)) → IsPrefix own.seen (failures now.seen)
begun_seen meld alone name asked old before prepared own now u =
    let grown = failures_begin before.seen now.seen (did_prefix alone [] before.seen now.seen u.at.2) in
    subst (λ (w : Record). IsPrefix w.seen (failures now.seen)) (sym u.at.1) (prefix_trans old.seen (failures before.seen)
    (failures now.seen) u.fits.seen grown)

-- that is all ranks, at most
pub begun_within : {P : Type 0} (meld : P → P → P) (alone : Bool) (name : Over P) (asked : Call P) (old : Record) (before : Sight P) (prepared : Prepared)
    (own : Record) (now : Sight P) → IsView meld (view_at name now)
    → Stands meld alone (local old (view_at name before)) (record { asked = asked; phase = Begun; prepared = prepared }) (local own (view_at name now)) → length own.seen ≤ name.limits.ranks
begun_within meld alone name asked old before prepared own now of u =
    omega (
      arith,
      length_prefix own.seen (failures now.seen) (begun_seen meld alone name asked old before prepared own now u),
      failures_le meld name.limits
          now.seen of.legal,
    )

-- a look begins behind what was seen, or at the last of all ranks
pub begins_looking : {P : Type 0} (meld : P → P → P) (alone : Bool) (name : Over P) (asked : Call P) (old : Record) (before : Sight P) (prepared : Prepared)
    (own new : Record) (now : Sight P) → IsView meld (view_at name now)
    → new ≡ record own { seen = take (own.limits.ranks - 1) own.seen }
    → Stands meld alone (local old (view_at name before)) (record { asked = asked; phase = Begun; prepared = prepared }) (local own (view_at name now))
    → Stands meld alone (local old (view_at name before)) (record { asked = asked; phase = Looking; prepared = prepared }) (local new (view_at name now))
begins_looking meld alone name asked old before prepared own new now of is u =
    let n = own.limits.ranks - 1 in
    let some : 0 < name.limits.ranks = omega (arith, of.may_open.in_range.some_ranks) in
    let limits_are : own.limits.ranks ≡ name.limits.ranks = ap (λ (w : Record). w.limits.ranks) u.at.1 ∙ ap (λ l. l.ranks) u.fits.same_limits in
    let seen : new.seen ≡ take n own.seen = ap (λ (w : Record). w.seen) is in
    let begins = begun_seen meld alone name asked old before prepared own now u in
    let fewer : length (take n own.seen) < name.limits.ranks = omega (arith, length-take n own.seen, limits_are, some) in
    record {
      fits = u.fits;
      mine = u.mine;
      onward = u.onward;
      at = (
        u.at.0,
        is ∙ (ap (λ (w : Record). record w { seen = take n own.seen }) u.at.1 ∙ ap (λ s. record old { seen = s }) (sym seen)),
        u.at.2,
        subst (λ s. LookIs name.limits false s now.seen) (sym seen) (
          prefix_trans (take n own.seen) own.seen (failures now.seen)
              (drop n own.seen, take-append-drop n own.seen) begins,
          fewer,
        ),
      );
    }

-- a rank that has seen as many failures as there are ranks has seen them all
pub full_seen : {P : Type 0} (meld : P → P → P) (name : Over P) (own : Record) (now : Sight P) → IsView meld (view_at name now) → Fits meld name.limits now.seen own
    → length own.seen ≡ own.limits.ranks → own.seen ≡ failures now.seen
full_seen meld name own now of fits full =
    let ranks : own.limits.ranks ≡ name.limits.ranks = ap (λ l. l.ranks) fits.same_limits in
    let few = failures_le meld name.limits now.seen of.legal in
    full_found own.seen (failures now.seen) fits.seen (omega (arith, few, full, ranks))

-- a rank that has seen all ranks declared is one of them
pub has_seen_all : {P : Type 0} (meld : P → P → P) (alone : Bool) (name : Over P) (asked : Call P) (own new : Record) (now : Sight P) → IsView meld (view_at name now)
    → Fits meld name.limits now.seen own → own.refused ≡ false
    → own.number < own.limits.ranks → length own.seen ≡ own.limits.ranks → new ≡ record own { refused = true }
    → Linearizes meld alone asked (local own (view_at name now)) (Refused SelfFailed) (local new (view_at name now))
has_seen_all meld alone name asked own new now of fits in_use below full is =
    let ranks : own.limits.ranks ≡ name.limits.ranks = ap (λ l. l.ranks) fits.same_limits in
    let all = full_seen meld name own now of fits full in
    let enough : name.limits.ranks ≤ length (failures now.seen) = omega (arith, ap length all, full, ranks) in
    let declared = full_has meld name.limits now.seen own.number of.legal (omega (arith, below, ranks)) enough in
    calls_declared meld alone name now now (omega arith) asked own new of fits in_use (did_none alone now.seen) declared
    (is ∙ ap (λ s. record own { seen = s; refused = true }) all)

-- one that hasn't has a place left to load
pub has_place_left : {P : Type 0} (meld : P → P → P) (name : Over P) (own : Record) (now : Sight P) → IsView meld (view_at name now) → Fits meld name.limits now.seen own
    → (length own.seen == own.limits.ranks) ≡ false → length own.seen < name.limits.ranks
has_place_left meld name own now of fits e =
    let ranks : own.limits.ranks ≡ name.limits.ranks = ap (λ l. l.ranks) fits.same_limits in
    omega (
      arith,
      eqb-false (length own.seen) own.limits.ranks e,
      length_prefix own.seen (failures now.seen) fits.seen,
      failures_le meld name.limits now.seen
          of.legal,
      ranks,
    )

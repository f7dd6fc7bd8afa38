-- The poll of an agreement, and of an agree.
use Rattle.std.proofs.Common.{◌≡◌, ℕ, ◌<◌, ◌≤◌, Bool, true, false, not, List, [], ◌∷◌, length, filter, min, take, Some, None, is_some, nat_eq, nat_lt, refl, ap}
use Rattle.std.proofs.Common.{ap₂, sym, ◌∙◌, subst, append-nil, arith, inl, inr, IsTrue, IsFalse}
use Rattle.std.specs.Int.{bit_at}
use mathlib.Core.List.{IsPrefix}
use Rattle.std.specs.List.{AllByRecursion, list_all}
use Rattle.std.proofs.lemmas.List.{length-take}
use Rattle.std.proofs.lemmas.Bool.{ne_eqb}
use Rattle.ulfm_laws.specs.declared.{summary.Body.{Body}, summary.Body.TheVariants.{Unit as NoBody, Flag as OfFlags, Ctx as OfIds, Clash}}
use Rattle.ulfm_laws.specs.declared.{summary.CtxMask.{CtxMask}, summary.Summary.{Summary}}
use Rattle.ulfm_model.specs.declared.call.Call.TheVariants as call
use Rattle.ulfm_model.specs.declared.{call.Call.{Call}, call.Request.{Request}, call.Request.TheVariants.{Agree, Shrink}}
use Rattle.ulfm_model.specs.declared.{contribution.Contribution.{Contribution}, contribution.Slot.TheVariants.{Given}, event.Caller.TheVariants.{Rank}}
use Rattle.ulfm_model.specs.declared.{event.Event.{Event}, event.Event.TheVariants.{Fail, Settle, Mark, Arrive, Revoke, Spawn}, limits.Limits.{Limits}}
use Rattle.ulfm_model.specs.declared.{refusal.Refusal.TheVariants.{Idle, Mismatch}, reply.Reply.{Reply}, reply.Reply.TheVariants.{Agreed, Pending, Refused}}
use Rattle.ulfm_model.specs.Answers.{AgreeReplies, IsPending, MarksDeclared, PollAdds, PollReplies, Sees, AtPoint, closed, first_refusal, left_by, polled_by}
use Rattle.ulfm_model.specs.Answers.{refusal_of, refusal_on}
use Rattle.ulfm_model.specs.History.{Decision, History, IsLegal, body_of, decision, entries_by, failed, failures, has, is_decided, known_of, members, round}
use Rattle.ulfm_model.specs.History.{round_among, slot}
use Rattle.ulfm_model.specs.{Laws.{all_of}, Records.{Fits, FitsRequest, Held, Record, held_at, is_shrink}, Runs.{Did, IsRun, unsettled_of}}
use Rattle.ulfm_model.specs.Terms.{IsOwn, contexts_of, request_of, settled_by}
use Rattle.ulfm_model.proofs.{Decisions.{slot_stands}, Histories.{slot_stays}, LeftIds.{free_at_each}}
use Rattle.ulfm_model.proofs.{Lists.{at_member, each_filter_map, each_from, has_filter, has_kept, has_passes, has_prefix, is_some_of}, Melds.{known_fits}}
use Rattle.ulfm_model.proofs.{Stable.{decision_is, fits_stays}, StepsRounds.{IsFlagged, IsMasked, IsSort, given_stands, offered}}
use Rattle.ulfm_words.proofs.Trails.{did_prefix, did_quiet, did_wait}
use Rattle.ulfm_model.specs.Blocks.{IsSummed}
use Rattle.ulfm_model.specs.Records.{moment}
use Rattle.ulfm_steps.specs.{Marks.{IsMarkOf}, Rounds.{IsRoundOf}}
use Rattle.ulfm_comm.specs.{Ends.{IsEndRun}, Polls.{PollHasMarked}, Requests.{agreement}}
use Rattle.ulfm_comm.proofs.{Holding.{comm_is, exists_is, failed_is, group_is, holds}, WholeCall.{held_before, replied}}
use Rattle.ulfm_comm.specs.Local.{frame}
use Rattle.ulfm_comm.specs.Requests.{polled_round}

-- a body that is a flag or a clash, and no flag
pub clash_is : {P : Type 0} (body : Body P) → IsFlagged body → ((flag : P) → body ≡ OfFlags flag → ⊥) → body ≡ Clash
clash_is NoBody flagged other = absurd flagged
clash_is (OfFlags flag) flagged other = absurd (other flag refl)
clash_is (OfIds mask) flagged other = absurd (cc flagged)
clash_is Clash flagged other = refl

-- a mark of a member that the look found declared
marks_declared : {P : Type 0} (look : List ℕ) (x : Held) (c k : ℕ) → x.comm ≡ c → (event : Event P) → IsMarkOf c k (filter (has x.group) look) event
    → MarksDeclared look x k event
marks_declared look x c k at (Mark comm round rank mark) is =
    let same : comm ≡ x.comm = is.0 ∙ sym at in
    (rank, mark, ap₂ (λ v w. Mark v w rank mark) same is.1, has_filter (has x.group) look rank is.2, has_passes (has x.group) look rank is.2)
marks_declared look x c k at (Fail rank) is = absurd is
marks_declared look x c k at (Settle comm round rank given) is = absurd is
marks_declared look x c k at (Arrive comm round rank) is = absurd is
marks_declared look x c k at (Revoke comm) is = absurd is
marks_declared look x c k at (Spawn comm parent round) is = absurd is

-- no more failures are known in a round than the communicator has
known_few : {P : Type 0} (meld : P → P → P) (limits : Limits) (h : History P) (c k : ℕ) → IsLegal meld limits h
    → (all_of meld (round limits.ranks h c k)).known.count ≤ length (failed limits.ranks h c)
known_few {P} meld limits h c k legal =
    let group = failed limits.ranks h c in
    known_fits meld group (round limits.ranks h c k) (each_filter_map (slot h c k) (λ s. known_of s ≤ length group)
    (λ r s is. (slot_stands meld limits h legal c k r s is).fits) (members limits.ranks h c))

-- the count of a round's failed group is the greatest that is known
failed_count : {P : Type 0} (meld : P → P → P) (limits : Limits) (h : History P) (c k : ℕ) → IsLegal meld limits h
    → length (decision meld limits.ranks h c k).failed ≡ (all_of meld (round limits.ranks h c k)).known.count
failed_count {P} meld limits h c k legal =
    let group = failed limits.ranks h c in
    let all = all_of meld (round limits.ranks h c k) in
    let most = known_few meld limits h c k legal in
    let least : min all.known.count (length group) ≡ all.known.count = omega (arith, most) in
    ap (λ (d : Decision P). length d.failed) (decision_is meld limits h c k legal) ∙ (length-take all.known.count group ∙ least)

-- an open agree or shrink has the rank's contribution
open_given : {P : Type 0} (h : History P) (r c k : ℕ) (ids : List ℕ) (shrinks : Bool) → FitsRequest h r ids c (Some (agreement shrinks k))
    → (given : Contribution P) × IsOwn h r (Settle c k r given)
open_given h r c k ids false fits = (fits.0, fits.2)
open_given h r c k ids true fits = (fits.0, fits.2)

-- so it has a round
pub open_round : {P : Type 0} (meld : P → P → P) (limits : Limits) (h : History P) (own : Record) (c k : ℕ) (shrinks : Bool) (x : Held) → IsLegal meld limits h
    → Fits meld limits h own → held_at own c ≡ Some x → x.request ≡ Some (agreement shrinks k) → k < limits.rounds
open_round meld limits h own c k shrinks x legal fits held open_is =
    let mine = open_given h own.number x.comm k (contexts_of own.held) shrinks (subst (FitsRequest h own.number (contexts_of own.held) x.comm) open_is
    (holds meld limits h own c x fits held).request) in
    let stands = given_stands meld limits h legal x.comm k own.number mine.0 mine.1 in
    (slot_stands meld limits h legal x.comm k own.number (Given mine.0) stands).place.in_rounds

-- that is one of the members' of its communicator
pub open_members : {P : Type 0} (meld : P → P → P) (limits : Limits) (h : History P) (own : Record) (c k : ℕ) (shrinks : Bool) (x : Held) → IsLegal meld limits h
    → Fits meld limits h own → held_at own c ≡ Some x → x.request ≡ Some (agreement shrinks k) → IsRoundOf limits h c k x.group
open_members meld limits h own c k shrinks x legal fits held open_is =
    record {
      exists = exists_is meld limits h own c x fits held;
      group_is = group_is meld limits h own c x fits held;
      in_rounds = open_round meld limits h own c k shrinks x legal fits held open_is;
    }

-- what was read of all members of a round is its decision
module _ {P : Type 0} (meld : P → P → P) (limits : Limits) (h : History P) (own : Record) (c k : ℕ) (x : Held) (legal : IsLegal meld limits h)
    (fits : Fits meld limits h own) (held : held_at own c ≡ Some x)
    (all : Summary P) (read : IsSummed meld h c k x.group all) where
  pub read_decided : IsTrue (is_decided limits.ranks h c k)
  read_decided = ap (list_all (λ r. is_some (slot h c k r))) (sym (group_is meld limits h own c x fits held)) ∙ read.each

  summed : all_of meld (round limits.ranks h c k) ≡ all
  summed = sym (read.is ∙ ap (λ group. all_of meld (round_among group h c k)) (group_is meld limits h own c x fits held))

  pub body_read : (decision meld limits.ranks h c k).body ≡ all.body
  body_read = ap (λ (d : Decision P). d.body) (decision_is meld limits h c k legal) ∙ ap (λ (a : Summary P). a.body) summed

  pub count_read : all.known.count ≡ length (decision meld limits.ranks h c k).failed
  count_read = sym (failed_count meld limits h c k legal ∙ ap (λ (a : Summary P). a.known.count) summed)

  -- the decision's failed group is the first so many of the communicator's
  pub group_read : (decision meld limits.ranks h c k).failed ≡ take all.known.count (failed limits.ranks h c)
  group_read = ap (λ (d : Decision P). d.failed) (decision_is meld limits h c k legal) ∙ ap (λ (a : Summary P). take a.known.count (failed limits.ranks h c))
      summed

  -- there are so many
  pub enough_read : all.known.count ≤ length (failed limits.ranks h c)
  enough_read = subst (λ (a : Summary P). a.known.count ≤ length (failed limits.ranks h c)) summed (known_few meld limits h c k legal)

  raised_read : nat_lt all.acked.count all.known.count ≡ (decision meld limits.ranks h c k).raised
  raised_read = sym (ap (λ (d : Decision P). d.raised) (decision_is meld limits h c k legal) ∙ ap (λ (a : Summary P). nat_lt a.acked.count a.known.count)
      summed)

  -- the decision is of the sort that the rank has offered
  read_sort : (masks : Bool) (given : Contribution P) → IsOwn h own.number (Settle c k own.number given) → IsSort masks (body_of given.offer)
      → IsSort masks all.body
  read_sort masks given did offer =
      let stands = given_stands meld limits h legal c k own.number given did in
      let member : has (members limits.ranks h c) own.number ≡ true = ap (λ group. has group own.number) (sym (group_is meld limits h own c x fits held)) ∙
      (holds meld limits h own c x fits held).member in
      subst (IsSort masks) body_read (offered meld masks h c k own.number given stands offer (members limits.ranks h c) member)

  requested : (request : Request) → x.request ≡ Some request → FitsRequest h own.number (contexts_of own.held) c (Some request)
  requested request open_is =
      subst (λ w. FitsRequest h own.number (contexts_of own.held) w (Some request)) (comm_is meld limits h own c x fits held)
      (subst (FitsRequest h own.number (contexts_of own.held) x.comm) open_is (holds meld limits h own c x fits held).request)

  -- a round in which the rank has an open agree decides on a flag, or on a clash
  pub read_flagged : x.request ≡ Some (Agree k) → IsFlagged all.body
  read_flagged open_is =
      let mine = requested (Agree k) open_is in
      let flag : IsFlagged (OfFlags mine.1) = refl in
      read_sort false mine.0 mine.2 (subst IsFlagged (sym (ap body_of mine.3)) flag)

  -- and one with an open shrink on a mask, or on a clash
  pub read_masked : x.request ≡ Some (Shrink k) → IsMasked all.body
  read_masked open_is =
      let mine = requested (Shrink k) open_is in
      let mask : IsMasked {P = P} (OfIds mine.1) = refl in
      read_sort true mine.0 mine.2 (subst IsMasked (sym (ap body_of mine.3)) mask)

  -- an id that the mask has is none that the rank holds
  pub read_fresh : x.request ≡ Some (Shrink k) → (mask : CtxMask) (id : ℕ) → all.body ≡ OfIds mask → bit_at mask.bits id ≡ 1
      → AllByRecursion (λ i. nat_eq i id ≡ false) (contexts_of own.held)
  read_fresh open_is mask id body is =
      let mine = requested (Shrink k) open_is in
      let stands = given_stands meld limits h legal c k own.number mine.0 mine.2 in
      let member : has (members limits.ranks h c) own.number ≡ true = ap (λ group. has group own.number) (sym (group_is meld limits h own c x fits held)) ∙
      (holds meld limits h own c x fits held).member in
      let free = free_at_each meld limits.ranks h c k own.number mask mine.1 mine.0 id (body_read ∙ body) is member stands mine.3 in
      each_from (λ i. bit_at mine.1.bits i ≡ 0) (λ i. nat_eq i id ≡ false)
      (λ i held. ne_eqb i id (λ same. let here : bit_at mine.1.bits id ≡ 0 = subst (λ n. bit_at mine.1.bits n ≡ 0) same
      held in absurd (omega (arith, here, free)))) (contexts_of own.held) mine.4

-- a mark of a declared member may be added by the poll of an agree, and of a shrink
marks_added : {P : Type 0} (look : List ℕ) (x : Held) (k : ℕ) (shrinks : Bool) (event : Event P) → MarksDeclared look x k event
    → PollAdds look x (Some (agreement shrinks k)) event
marks_added look x k false event marks = marks
marks_added look x k true event marks = inl marks

-- both are pending alike
pending_replies : {P : Type 0} (meld : P → P → P) (limits : Limits) (view : AtPoint P) (r : ℕ) (x : Held) (k : ℕ) (shrinks : Bool) → IsPending view x k
    → PollReplies meld limits view r x (Some (agreement shrinks k)) Pending
pending_replies meld limits view r x k false pending = inl (pending, refl)
pending_replies meld limits view r x k true pending = inl (pending, refl)

-- both mark alike
unsettled_is : {P : Type 0} (ranks : ℕ) (h : History P) (c k : ℕ) (shrinks : Bool)
    → unsettled_of ranks h c (Some (agreement shrinks k)) ≡ filter (λ r. not (is_some (slot h c k r))) (failed ranks h c)
unsettled_is ranks h c k false = refl
unsettled_is ranks h c k true = refl

-- what was seen begins with what the look found
sees_begin : {P : Type 0} (look : List ℕ) (after : History P) (seen : List ℕ) (shrinks : Bool) (k : ℕ)
    → Sees (is_shrink (Some (agreement shrinks k))) look after seen → IsPrefix look seen
sees_begin look after seen false k is = ([], append-nil look ∙ sym is)
sees_begin look after seen true k is = is.0

module _ {P : Type 0} (meld : P → P → P) (limits : Limits) (alone : Bool) (before : History P) (old mid : Record) (c : ℕ) (shrinks : Bool) (k : ℕ) (x : Held)
    (after : History P) (p : PollHasMarked (frame meld limits alone) c (polled_round shrinks k) x (moment old before) (moment mid after)) where
  abbrev pub asked : Call P
  asked = call.Poll old.number c

  -- what happened since the look
  pub whole : Did alone (entries_by (Rank old.number) p.marks.own) p.since.look after
  whole = did_wait alone (entries_by (Rank old.number) p.marks.own) p.since.look p.marked after p.marks.did p.waited

  pub later : Fits meld limits after mid
  later = fits_stays meld limits p.since.look after mid (did_prefix alone (entries_by (Rank old.number) p.marks.own) p.since.look after whole) p.legal p.since.fits

  pub held_first : held_at old c ≡ Some x
  held_first = held_before meld limits alone before p.since.look old mid p.since.looked c (Some x) p.since.held

  pub polls_it : polled_by old asked ≡ Some (agreement shrinks k)
  polls_it = ap request_of held_first ∙ p.open_is

  pub not_refused : refusal_of old asked ≡ None
  not_refused = ap (λ w. refusal_on {P = P} old w asked) held_first ∙ ap (λ request. first_refusal ((not (is_some request), Idle) ∷ [])) p.open_is

  -- where nobody else steps the marks are those that were due
  pub due : IsTrue alone → settled_by p.marks.own ≡ unsettled_of limits.ranks before c (polled_by old asked)
  due here =
      let same : p.since.look ≡ before = did_quiet alone before p.since.look p.since.looked.did here in
      p.marks.exact here ∙ (ap (filter (λ r. not (is_some (slot p.since.look c k r)))) (failed_is meld limits p.since.look mid c x p.since.fits p.since.held)
      ∙ (ap (λ h. filter (λ r. not (is_some (slot h c k r))) (failed limits.ranks h c)) same
      ∙ (sym (unsettled_is limits.ranks before c k shrinks) ∙ ap (unsettled_of limits.ranks before c) (sym polls_it))))

  -- each is of a member that the look found declared
  pub declared : AllByRecursion (PollAdds (failures p.since.look) x (Some (agreement shrinks k))) p.marks.own
  declared =
      each_from (IsMarkOf c k (filter (has x.group) (failures p.since.look))) (PollAdds (failures p.since.look) x (Some (agreement shrinks k)))
      (λ event is. marks_added (failures p.since.look) x k shrinks event (marks_declared (failures p.since.look) x c k (comm_is meld limits p.since.look mid c x p.since.fits p.since.held)
      event is)) p.marks.own p.marks.marks

  pub answered : (reply : Reply P) (new : Record) → PollReplies meld limits (record { look = failures p.since.look; history = after; own = p.marks.own; spread = false }) old.number x
      (Some (agreement shrinks k)) reply
      → new ≡ left_by limits.ranks after mid asked reply → IsEndRun meld limits alone (moment old before) asked reply (moment new after)
  answered reply new replies left =
      let view : AtPoint P = record { look = failures p.since.look; history = after; own = p.marks.own; spread = false } in
      replied meld limits alone before p.since.look old mid p.since.looked after p.marks.own asked reply new x whole p.legal held_first not_refused
      (subst (λ request. AllByRecursion (PollAdds (failures p.since.look) x request) p.marks.own) (sym p.open_is) declared)
      (subst (λ request. PollReplies meld limits view old.number x request reply) (sym p.open_is) replies) left
      (λ here polls not_declared. due here)

  -- a member that is unsettled after the marks isn't known to have failed
  pub not_marked : (member : ℕ) → IsTrue (has x.group member) → slot after c k member ≡ None → IsFalse (has (failures p.since.look) member)
  not_marked member in_group unsettled = by_look (has (failures p.since.look) member) refl
    where
      by_look : (b : Bool) → has (failures p.since.look) member ≡ b → has (failures p.since.look) member ≡ false
      by_look false is = is
      by_look true is =
          let some = is_some_of (slot p.marked c k member) (at_member (λ r. IsTrue (is_some (slot p.marked c k r)))
          (filter (has x.group) (failures p.since.look)) member p.marks.settled (has_kept (has x.group) (failures p.since.look) member is in_group)) in
          let stood = slot_stays p.marked after c k member some.0 (did_prefix alone [] p.marked after p.waited) some.1 in absurd (cc (stood, unsettled))

  -- nor did the look of such a run find it
  pub not_found : (member : ℕ) (reply : Reply P) (new : Record) → IsFalse (has (failures p.since.look) member) → new ≡ mid
      → (run : IsRun meld limits alone (moment old before) asked reply (moment new after)) → IsFalse (has (failures run.span.look) member)
  not_found member reply new alive is run = by_look (has (failures run.span.look) member) refl
    where
      by_look : (b : Bool) → has (failures run.span.look) member ≡ b → has (failures run.span.look) member ≡ false
      by_look false none = none
      by_look true found =
          let begins = sees_begin (failures run.span.look) after new.seen shrinks k
          (subst (λ request. Sees (is_shrink request) (failures run.span.look) after new.seen) polls_it run.answer.leaves.seen) in
          let seen : new.seen ≡ failures p.since.look = ap (λ (w : Record). w.seen) is ∙ ap (λ (w : Record). w.seen) p.since.looked.record_is in
          let there = has_prefix (failures run.span.look) new.seen member begins found in
          let clash : has (failures p.since.look) member ≡ true = ap (λ fs. has fs member) (sym seen) ∙ there in absurd (cc (clash, alive))

  -- somebody who isn't known to have failed is missing
  pub poll_pending : (member : ℕ) (new : Record) → IsTrue (has x.group member) → slot after c k member ≡ None → new ≡ mid
      → IsEndRun meld limits alone (moment old before) asked Pending (moment new after)
  poll_pending member new in_group unsettled is =
      let view : AtPoint P = record { look = failures p.since.look; history = after; own = p.marks.own; spread = false } in
      answered Pending new
      (pending_replies meld limits view old.number x k shrinks
      (record {
        member = member;
        in_group = in_group;
        not_declared = not_marked member in_group unsettled;
        unsettled = ap (λ w. slot after w k member) (comm_is meld limits p.since.look mid c x p.since.fits p.since.held) ∙ unsettled;
      }))
      is

module _ {P : Type 0} (meld : P → P → P) (limits : Limits) (alone : Bool) (before : History P) (old mid : Record) (c k : ℕ) (x : Held) (after : History P)
    (p : PollHasMarked (frame meld limits alone) c (polled_round false k) x (moment old before) (moment mid after))
    (all : Summary P) (new : Record) (read : IsSummed meld after c k x.group all) where
  still : Fits meld limits after mid
  still = later meld limits alone before old mid c false k x after p

  decides : (reply : Reply P) → AgreeReplies (decision meld limits.ranks after c k) reply → new ≡ left_by limits.ranks after mid (call.Poll old.number c) reply
      → IsEndRun meld limits alone (moment old before) (call.Poll old.number c) reply (moment new after)
  decides reply replies left =
      let at = sym (comm_is meld limits p.since.look mid c x p.since.fits p.since.held) in
      answered meld limits alone before old mid c false k x after p reply new
      (inr (
        subst (λ w. IsTrue (is_decided limits.ranks after w k)) at (read_decided meld limits after mid c k x p.legal still p.since.held all read),
        subst (λ w. AgreeReplies (decision meld limits.ranks after w k) reply) at replies,
      ))
      left

  -- the round is decided on a flag
  pub poll_agreed : (value : P) → all.body ≡ OfFlags value → new ≡ closed mid c → IsEndRun meld limits alone (moment old before) (call.Poll old.number c) (Agreed (nat_lt all.acked.count all.known.count) all.known.count value) (moment new after)
  poll_agreed value body is =
      let count = count_read meld limits after mid c k x p.legal still p.since.held all read in
      let raised = raised_read meld limits after mid c k x p.legal still p.since.held all read in
      decides (Agreed (nat_lt all.acked.count all.known.count) all.known.count value)
      (inl (value, body_read meld limits after mid c k x p.legal still p.since.held all read ∙ body, ap₂ (λ n e. Agreed e n value) count raised)) is

  -- it is decided, and some shrank
  pub poll_mismatch : ((flag : P) → all.body ≡ OfFlags flag → ⊥) → new ≡ closed mid c
      → IsEndRun meld limits alone (moment old before) (call.Poll old.number c) (Refused Mismatch) (moment new after)
  poll_mismatch other is =
      let clash = clash_is all.body (read_flagged meld limits after mid c k x p.legal still p.since.held all read p.open_is) other in
      decides (Refused Mismatch) (inr (body_read meld limits after mid c k x p.legal still p.since.held all read ∙ clash, refl)) is

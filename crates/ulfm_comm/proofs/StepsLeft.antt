-- How many steps a call makes at most.
use Rattle.std.proofs.Common.{◌≡◌, ℕ, ◌+◌, ◌-◌, ◌*◌, ◌<◌, ◌≤◌, Bool, true, false, List, length, filter, take, max, min, Option, Some, None, is_some}
use Rattle.std.proofs.Common.{if◌then◌else◌, refl, ap, sym, ◌∙◌, subst, length-append, arith}
use Rattle.std.proofs.lemmas.List.{length-take}
use mathlib.Core.List.{IsPrefix}
use Rattle.ulfm_model.specs.declared.call.Call.TheVariants as call
use Rattle.ulfm_model.specs.declared.{call.Call.{Call}, call.Request.{Request}, call.Request.TheVariants.{Agree, Shrink, Barrier}, limits.Limits.{Limits}}
use Rattle.ulfm_model.specs.declared.refusal.Refusal.{Refusal}
use Rattle.ulfm_model.specs.{Answers.{first_refusal, refusal_of, refusal_on}, History.{History, IsLegal, failures, has, without}}
use Rattle.ulfm_model.specs.Records.{Held, Record, held_at}
use Rattle.ulfm_model.specs.Terms.{comm_of, request_of}
use Rattle.ulfm_steps.specs.{Arriving.{arrivals_left, in_order}, Blocks.{blocks_cost, blocks_left, is_whole, peeks_left, starts_at, unread_cost}}
use Rattle.ulfm_steps.specs.Marks.{marks_left}
use Rattle.ulfm_steps.specs.declared.{arrivals.{Arrivals.{Arrivals}}, blocks.MarkAll.{MarkAll}, blocks.Peek.{Peek}, blocks.ReadBlocks.{ReadBlocks}}
use Rattle.ulfm_steps.specs.declared.blocks.RoundBlocks.{RoundBlocks}
use Rattle.ulfm_steps.proofs.{Arriving.{in_order_few}, InBlocks.{peek_most, peek_some, starts_left, unread_most}}
use Rattle.ulfm_comm.proofs.Look.{tests_same}
use Rattle.ulfm_words.specs.Steps.{Sight}
use Rattle.ulfm_comm.specs.{Bound.{call_bound, poll_bound, step_bound}, Look.{Passes}, Phase.{NextBelow}, Requests.{agreement}}
use Rattle.ulfm_comm.specs.StepsLeft.{FewerLeft, Spends, after_look, after_peek, after_round, behind_look, group_of, polling, reads_first, steps_left, with_look}
use Rattle.ulfm_comm.specs.declared.{phases.phase.Next.{Next}, phases.phase.Next.TheVariants.{Goes, Ends}, phases.phase.Phase.{Phase}}
use Rattle.ulfm_comm.specs.declared.phases.phase.Phase.TheVariants.{Over, Begun, Looking, Marking, Peeking, Reading, Waiting}

-- what was seen makes no difference to what the record refuses
pub refusal_same : {P : Type 0} (own : Record) (seen : List ℕ) (asked : Call P) → refusal_of (record own { seen = seen }) asked ≡ refusal_of own asked
refusal_same own seen asked = go (held_at own (comm_of asked))
  where
    go : (held : Option Held) → refusal_on (record own { seen = seen }) held asked ≡ refusal_on own held asked
    go None = refl
    go (Some x) = ap first_refusal (tests_same own seen x asked)

-- nor to what may follow a look
pub after_look_same : {P : Type 0} (limits : Limits) (own : Record) (seen : List ℕ) (asked : Call P)
    → after_look limits (record own { seen = seen }) asked ≡ after_look limits own asked
after_look_same limits own seen asked = ap (λ (r : Option Refusal). if is_some r then 0 else behind_look limits own asked) (refusal_same own seen asked)

-- what is fewer than some is fewer than more
pub fewer_more : {P : Type 0} (limits : Limits) (own : Record) (asked : Call P) (few more : ℕ) → few ≤ more → (next : Next P)
    → FewerLeft few limits own asked next → FewerLeft more limits own asked next
fewer_more limits own asked few more le (Goes phase) fewer = omega (arith, le, fewer)
fewer_more limits own asked few more le (Ends reply) fewer = tt

module _ {P : Type 0} (limits : Limits) (own : Record) (asked : Call P) where
  -- a call that the record doesn't refuse
  pub after_passed : refusal_of own asked ≡ None → after_look limits own asked ≡ behind_look limits own asked
  after_passed passed = ap (λ (r : Option Refusal). if is_some r then 0 else behind_look limits own asked) passed

  -- the poll of a request
  look_poll : refusal_of own asked ≡ None → (rank c : ℕ) (x : Held) (request : Option Request) → asked ≡ call.Poll rank c → held_at own (comm_of asked) ≡ Some x
      → x.request ≡ request → after_look limits own asked ≡ polling limits (length x.group) request
  look_poll passed rank c x request is held is_open =
      after_passed passed
      ∙ subst (λ (a : Call P). held_at own (comm_of a) ≡ Some x → behind_look limits own a ≡ polling limits (length x.group) request) (sym is)
      (λ at. ap (λ h. polling limits (length (group_of h)) (request_of h)) at ∙ ap (polling limits (length x.group)) is_open) held

  -- what comes right after a look
  module _ (meld : P → P → P) (h : History P) (legal : IsLegal meld limits h) (begins : IsPrefix own.seen (failures h)) (some : 0 < limits.comms)
      (passed : refusal_of own asked ≡ None) (rank c : ℕ) (x : Held) (is : asked ≡ call.Poll rank c) (held : held_at own (comm_of asked) ≡ Some x) where
    abbrev most : ℕ
    most = after_look limits own asked + max 1 (limits.ranks - length own.seen)

    few : length (in_order x.group own.seen) ≤ length x.group
    few = in_order_few meld limits h x.group own.seen legal begins

    pub waiting_after : (k : ℕ) (arrivals : Arrivals) → x.request ≡ Some (Barrier k) → steps_left limits own asked (Waiting arrivals) < most
    waiting_after k arrivals is_open =
        let all = look_poll passed rank c x (Some (Barrier k)) is held is_open in
        subst (λ g. arrivals_left g own.seen arrivals + 1 < most) (sym (ap group_of held)) (omega (arith, all, few))

    pub peeking_after : (k : ℕ) (shrinks : Bool) (peek : Peek P) → x.request ≡ Some (agreement shrinks k) → 0 < length x.group
        → steps_left limits own asked (Peeking peek shrinks) < most
    peeking_after k shrinks peek is_open any =
        subst (λ g. peeks_left (length g) peek + (max 1 (length (filter (has g) own.seen)) + blocks_cost (length g) + after_round limits own shrinks) < most)
        (sym (ap group_of held)) (by_kind shrinks is_open)
      where
        cost : peeks_left (length x.group) peek + blocks_cost (length x.group) ≤ 4 * length x.group + 4
        cost = peek_most (length x.group) peek any

        by_kind : (b : Bool) → x.request ≡ Some (agreement b k) → peeks_left (length x.group) peek +
            (max 1 (length (filter (has x.group) own.seen)) + blocks_cost (length x.group) + after_round limits own b) < most
        by_kind false is_open =
            let all = look_poll passed rank c x (Some (Agree k)) is held is_open in
            omega (arith, all, any, few, cost, length-append (filter (has x.group) own.seen) (without x.group own.seen))
        by_kind true is_open =
            let all = look_poll passed rank c x (Some (Shrink k)) is held is_open in
            omega (arith, all, any, few, cost, some, length-append (filter (has x.group) own.seen) (without x.group own.seen))

-- a poll that has loaded its round's blocks has no more left than its marks, its readings, and what comes after them
module _ {P : Type 0} (limits : Limits) (own : Record) (asked : Call P) (x : Held) (held : held_at own (comm_of asked) ≡ Some x) (shrinks : Bool)
    (blocks : RoundBlocks P) where
  abbrev group_now : group_of (held_at own (comm_of asked)) ≡ x.group
  group_now = ap group_of held

  pub unread_marks : (marks : MarkAll) → steps_left limits own asked (Marking marks blocks shrinks) + reads_first (Marking marks blocks shrinks) ≤ after_peek limits own asked shrinks
  unread_marks marks =
      let group = group_of (held_at own (comm_of asked)) in
      let cost : unread_cost blocks (length group) ≤ blocks_cost (length group) = unread_most blocks (length group) in
      omega (arith, cost)

  -- the reading of the blocks that aren't known begins
  reads_unread : (reading : ReadBlocks P) (comm round size : ℕ) → reading ≡ starts_at comm round blocks size → size ≡ length x.group
      → is_whole blocks (length x.group) ≡ false
      → blocks_left (length (group_of (held_at own (comm_of asked)))) reading ≤ unread_cost blocks (length (group_of (held_at own (comm_of asked))))
  reads_unread reading comm round size is size_is unknown =
      let left : blocks_left (length x.group) (starts_at comm round blocks (length x.group)) ≤ unread_cost blocks (length x.group) = starts_left comm round
      (length x.group) blocks unknown in
      subst (λ g. blocks_left (length g) reading ≤ unread_cost blocks (length g)) (sym group_now)
      (subst (λ (r : ReadBlocks P). blocks_left (length x.group) r ≤ unread_cost blocks (length x.group))
      (sym (is ∙ ap (starts_at comm round blocks) size_is)) left)

  pub unread_reads : (reading : ReadBlocks P) (comm round size : ℕ) → reading ≡ starts_at comm round blocks size → size ≡ length x.group
      → is_whole blocks (length x.group) ≡ false
      → steps_left limits own asked (Reading reading shrinks) + reads_first (Reading reading shrinks) ≤ after_peek limits own asked shrinks
  unread_reads reading comm round size is size_is unknown =
      let group = group_of (held_at own (comm_of asked)) in
      let cost : unread_cost blocks (length group) ≤ blocks_cost (length group) = unread_most blocks (length group) in
      let left = reads_unread reading comm round size is size_is unknown in
      omega (arith, cost, left)

  -- after the last mark
  pub marks_read : (members declared : List ℕ) → members ≡ x.group → declared ≡ own.seen → (marks : MarkAll) (reading : ReadBlocks P) (comm round size : ℕ)
      → reading ≡ starts_at comm round blocks size → size ≡ length members
      → is_whole blocks (length members) ≡ false → (now after left : ℕ) → after + left ≤ now + marks_left members declared marks.next
      → after + steps_left limits own asked (Reading reading shrinks) ≤ now + steps_left limits own asked (Marking marks blocks shrinks)
  marks_read members declared members_are declared_are marks reading comm round size is size_is unknown now after rest few =
      let group = group_of (held_at own (comm_of asked)) in
      let left : blocks_left (length group) reading ≤ unread_cost blocks (length group) = reads_unread reading comm round size is
      (size_is ∙ ap length members_are) (subst (λ g. is_whole blocks (length g) ≡ false) members_are unknown) in
      let few_now : after + rest ≤ now + marks_left group own.seen marks.next =
      subst (λ g. after + rest ≤ now + marks_left g own.seen marks.next) (members_are ∙ sym group_now)
      (subst (λ s. after + rest ≤ now + marks_left members s marks.next) declared_are few) in
      omega (arith, left, few_now)

-- at least one step is left of a reading
blocks_some : {P : Type 0} (n : ℕ) (reading : ReadBlocks P) → 0 < blocks_left n reading
blocks_some n reading = let some = one reading.winged in omega (arith, some)
  where
    one : (b : Bool) → 0 < (if b then 1 else 2)
    one true = omega arith
    one false = omega arith

-- the steps of a peek and of a reading, and what comes after them
module _ {P : Type 0} (limits : Limits) (own : Record) (asked : Call P) (x : Held) (held : held_at own (comm_of asked) ≡ Some x) (shrinks : Bool)
    (members : List ℕ) (members_are : members ≡ x.group) where
  same_length : length members ≡ length (group_of (held_at own (comm_of asked)))
  same_length = ap length (members_are ∙ sym (ap group_of held))

  -- a peek that goes on
  pub peeks_on : (peek next : Peek P) (now after : ℕ) → after + peeks_left (length members) next ≤ now + peeks_left (length members) peek
      → after + steps_left limits own asked (Peeking next shrinks) ≤ now + steps_left limits own asked (Peeking peek shrinks)
  peeks_on peek next now after few =
      let few_now = subst (λ n. after + peeks_left n next ≤ now + peeks_left n peek) same_length few in omega (arith, few_now)

  -- one that has ended, with what comes next, before which another load may have been made
  pub peeks_past : (peek : Peek P) (new : Record) (next : Next P) (now after : Sight P) → after.steps ≡ now.steps
      → Spends (after_peek limits own asked shrinks) limits new asked next now after → FewerLeft (steps_left limits own asked (Peeking peek shrinks)) limits new asked next
  peeks_past peek new (Goes phase) now after same spends =
      let some = peek_some (length (group_of (held_at own (comm_of asked)))) peek in omega (arith, same, spends, some)
  peeks_past peek new (Ends reply) now after same spends = tt

  pub peeks_over : (peek : Peek P) (new : Record) (next : Next P) (now mid after : Sight P) → mid.steps ≤ now.steps + peeks_left (length members) peek
      → Spends (after_peek limits own asked shrinks) limits new asked next mid after → Spends (steps_left limits own asked (Peeking peek shrinks)) limits new asked next now after
  peeks_over peek new next now mid after few spends =
      let few_now = subst (λ n. mid.steps ≤ now.steps + peeks_left n peek) same_length few in omega (arith, few_now, spends)

  -- .. or whose round is decided
  pub peeks_fewer : (peek : Peek P) (new : Record) (next : Next P) → FewerLeft (after_round limits own shrinks + 1) limits new asked next
      → FewerLeft (steps_left limits own asked (Peeking peek shrinks)) limits new asked next
  peeks_fewer peek new next fewer =
      let some = peek_some (length (group_of (held_at own (comm_of asked)))) peek in
      fewer_more limits new asked (after_round limits own shrinks + 1) (steps_left limits own asked (Peeking peek shrinks)) (omega (arith, some)) next fewer

  -- no more steps are spent than are left, where what comes behind the round is left too
  rest_spends : (most used : ℕ) (new : Record) (next : Next P) (now after : Sight P) → used + after_round limits own shrinks ≤ most
      → after.steps ≤ now.steps + used → FewerLeft (after_round limits own shrinks + 1) limits new asked next → Spends most limits new asked next now after
  rest_spends most used new (Goes phase) now after within few fewer = omega (arith, within, few, fewer)
  rest_spends most used new (Ends reply) now after within few fewer = omega (arith, within, few)

  pub peeks_spend : (peek : Peek P) (new : Record) (next : Next P) (now after : Sight P) → after.steps ≤ now.steps + peeks_left (length members) peek
      → FewerLeft (after_round limits own shrinks + 1) limits new asked next
      → Spends (steps_left limits own asked (Peeking peek shrinks)) limits new asked next now after
  peeks_spend peek new next now after few fewer =
      rest_spends (steps_left limits own asked (Peeking peek shrinks)) (peeks_left (length (group_of (held_at own (comm_of asked)))) peek) new next now after
      (omega arith) (subst (λ n. after.steps ≤ now.steps + peeks_left n peek) same_length few) fewer

  -- a reading that goes on
  pub reads_on : (reading next : ReadBlocks P) (now after : ℕ) → after + blocks_left (length members) next ≤ now + blocks_left (length members) reading
      → after + steps_left limits own asked (Reading next shrinks) ≤ now + steps_left limits own asked (Reading reading shrinks)
  reads_on reading next now after few =
      let n = length (group_of (held_at own (comm_of asked))) in
      let few_now : after + blocks_left n next ≤ now + blocks_left n reading = subst (λ n. after + blocks_left n next ≤ now + blocks_left n reading) same_length
      few in omega (arith, few_now)

  -- one whose round is decided, or in which a member is missing
  pub reads_fewer : (reading : ReadBlocks P) (new : Record) (next : Next P) → FewerLeft (after_round limits own shrinks + 1) limits new asked next
      → FewerLeft (steps_left limits own asked (Reading reading shrinks)) limits new asked next
  reads_fewer reading new next fewer =
      let some = blocks_some (length (group_of (held_at own (comm_of asked)))) reading in
      fewer_more limits new asked (after_round limits own shrinks + 1) (steps_left limits own asked (Reading reading shrinks)) (omega (arith, some)) next fewer

  pub reads_spend : (reading : ReadBlocks P) (new : Record) (next : Next P) (now after : Sight P)
      → after.steps ≤ now.steps + blocks_left (length members) reading → FewerLeft (after_round limits own shrinks + 1) limits new asked next
      → Spends (steps_left limits own asked (Reading reading shrinks)) limits new asked next now after
  reads_spend reading new next now after few fewer =
      rest_spends (steps_left limits own asked (Reading reading shrinks)) (blocks_left (length (group_of (held_at own (comm_of asked)))) reading) new next now after
      (omega arith) (subst (λ n. after.steps ≤ now.steps + blocks_left n reading) same_length few) fewer

-- before a reading one load may be made, else none
pub reads_few : {P : Type 0} (phase : Phase P) → reads_first phase ≤ 1
reads_few (Reading reading shrinks) = omega arith
reads_few _ = omega arith

-- what comes nearer than some comes nearer than more
pub below_more : {P : Type 0} (few more : ℕ) → few ≤ more → (next : Next P) → NextBelow few next → NextBelow more next
below_more few more le (Goes phase) lt = omega (arith, le, lt)
below_more few more le (Ends reply) lt = tt

-- once a look has ended, fewer steps are left than before its last load
pub looks_up : {P : Type 0} (limits : Limits) (own new : Record) (asked : Call P) → new ≡ record own { seen = new.seen } → length own.seen < limits.ranks
    → length own.seen ≤ length new.seen
    → after_look limits new asked + max 1 (limits.ranks - length new.seen) ≤ steps_left limits own asked Looking
looks_up limits own new asked kept more longer =
    let same = ap (λ (w : Record). after_look limits w asked) kept ∙ after_look_same limits own new.seen asked in
    omega (arith, more, longer, same)

module _ {P : Type 0} (limits : Limits) (own new : Record) (asked : Call P) (kept : new ≡ record own { seen = new.seen }) where
  -- what comes after the look is no longer for what it has found
  same_after : after_look limits new asked ≡ after_look limits own asked
  same_after = ap (λ (w : Record). after_look limits w asked) kept ∙ after_look_same limits own new.seen asked

  -- a look that goes on spends no more loads than it had left
  pub looks_on : (now after : ℕ) → after + (limits.ranks - length new.seen) ≤ now + (limits.ranks - length own.seen)
      → after + (limits.ranks - length new.seen + after_look limits new asked) ≤ now + (limits.ranks - length own.seen + after_look limits own asked)
  looks_on now after few = omega (arith, few, same_after)

  -- nor does one that has ended, with what comes next
  pub looks_over : (now after : Sight P) → after.steps + (limits.ranks - length new.seen - 1) ≤ now.steps + (limits.ranks - length own.seen)
      → (left : Record) (next : Next P) → FewerLeft (with_look limits new asked) limits left asked next
      → Spends (steps_left limits own asked Looking) limits left asked next now after
  looks_over now after few left (Goes phase) fewer = omega (arith, few, fewer, same_after)
  looks_over now after few left (Ends reply) fewer = omega (arith, few)

-- a call that begins its look, behind what was seen or at the last of all ranks, has as many steps left as it had before
pub resumed_left : {P : Type 0} (limits : Limits) (own resumed : Record) (asked : Call P) → own.limits.ranks ≡ limits.ranks → 0 < limits.ranks
    → resumed ≡ record own { seen = take (own.limits.ranks - 1) own.seen }
    → steps_left limits resumed asked Looking ≤ steps_left limits own asked Begun
resumed_left limits own resumed asked ranks some is =
    let same = ap (λ (w : Record). after_look limits w asked) is ∙ after_look_same limits own (take (own.limits.ranks - 1) own.seen) asked in
    let size : length resumed.seen ≡ min (own.limits.ranks - 1) (length own.seen) = ap (λ (w : Record). length w.seen) is ∙ length-take
    (own.limits.ranks - 1) own.seen in
    omega (arith, same, size, ranks, some)

-- a call that begins may make as many steps as its bound says
pub begun_bound : {P : Type 0} (limits : Limits) (own : Record) (asked : Call P) → own.refused ≡ false → length own.seen < limits.ranks
    → steps_left limits own asked Begun ≤ step_bound limits own asked
begun_bound {P} limits own asked in_use more =
    let n = length (group_of (held_at own (comm_of asked))) in
    let request = request_of (held_at own (comm_of asked)) in
    subst (λ b. steps_left limits own asked Begun ≤ (if b then 0 else (if is_some (refusal_of own asked) then limits.ranks - length own.seen else call_bound
    limits.ranks (length own.seen) n limits.comms request asked)))
    (sym in_use) (by_refusal (is_some (refusal_of own asked)))
  where
    by_request : (n : ℕ) (request : Option Request) → max 1 (limits.ranks - length own.seen) + polling limits n request ≤ poll_bound limits.ranks
        (length own.seen) n limits.comms request
    by_request n None = omega (arith, more)
    by_request n (Some (Agree k)) = omega (arith, more)
    by_request n (Some (Shrink k)) = omega (arith, more)
    by_request n (Some (Barrier k)) = omega (arith, more)

    by_call : (asked : Call P) → max 1 (limits.ranks - length own.seen) + behind_look limits own asked ≤ call_bound limits.ranks (length own.seen)
        (length (group_of (held_at own (comm_of asked)))) limits.comms (request_of (held_at own (comm_of asked))) asked
    by_call (call.Poll rank c) = by_request (length (group_of (held_at own c))) (request_of (held_at own c))
    by_call _ = omega (arith, more)

    by_refusal : (b : Bool) → max 1 (limits.ranks - length own.seen) + (if b then 0 else behind_look limits own asked)
        ≤ (if b then limits.ranks - length own.seen else call_bound limits.ranks (length own.seen) (length (group_of (held_at own (comm_of asked))))
        limits.comms (request_of (held_at own (comm_of asked))) asked)
    by_refusal true = omega (arith, more)
    by_refusal false = by_call asked

-- what the record passes, it doesn't refuse
pub passes_none : {P : Type 0} (own : Record) (asked : Call P) → Passes own asked → refusal_of own asked ≡ None
passes_none own asked p = ap (λ (h : Option Held). refusal_on own h asked) p.held ∙ p.passed

-- a call that makes so many steps behind its look has them left
pub behind_left : {P : Type 0} (limits : Limits) (own : Record) (asked : Call P) (left : ℕ) → Passes own asked → behind_look limits own asked ≡ left
    → left < with_look limits own asked
behind_left limits own asked left p is = omega (arith, after_passed limits own asked (passes_none own asked p), is)

-- whatever a call does first
pub first_bound : {P : Type 0} (limits : Limits) (own : Record) (asked : Call P) → length own.seen < limits.ranks
    → steps_left limits own asked (if own.refused then Over else Begun) ≤ step_bound limits own asked
first_bound {P} limits own asked more = go own.refused refl
  where
    go : (b : Bool) → own.refused ≡ b → steps_left limits own asked (if own.refused then Over else Begun) ≤ step_bound limits own asked
    go true e = subst (λ b. steps_left {P = P} limits own asked (if b then Over else Begun) ≤ step_bound limits own asked) (sym e) (omega arith)
    go false e = subst (λ b. steps_left {P = P} limits own asked (if b then Over else Begun) ≤ step_bound limits own asked) (sym e)
        (begun_bound limits own asked e more)

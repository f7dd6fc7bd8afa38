-- A call under way stands as it stood, after others' events.
use Rattle.std.proofs.Common.{◌≡◌, ℕ, ◌<◌, Bool, true, List, [], Option, Some, None, IfSome, IsTrue, ap, refl, sym, append-nil, ◌∙◌, arith}
use mathlib.Core.List.{IsPrefix}
use Rattle.ulfm_laws.specs.declared.summary.CtxMask.{CtxMask}
use Rattle.ulfm_model.specs.declared.call.Call.TheVariants as call
use Rattle.ulfm_model.specs.declared.{call.Call.{Call}, limits.Limits.{Limits}}
use Rattle.ulfm_model.specs.{Answers.{polled_by}, History.{History, IsLegal, failures}, Records.{Held, Record, is_shrink}, Runs.{Did}}
use Rattle.ulfm_model.specs.{Blocks.{has_block}, History.{slot}, declared.{block.Block.{Block}, block.Wing.{Wing}, contribution.Slot.{Slot}}}
use Rattle.ulfm_model.proofs.{Blocks.{block_stays, has_block_stays, has_wing_stays}, Histories.{failures_begin, slot_stays}, Lists.{prefix_trans}}
use Rattle.ulfm_words.specs.{Blocks.{IsBlockIn, IsFirstOf}, Slots.{offer_wing}}
use Rattle.ulfm_steps.specs.{Blocks.{BothTell, HoldsFirst, HoldsHalf, block_at, next_in_block}, Appends.{Passed, room}, Marks.{IsAt, Marks, members_in}, ReadsOn.{ReadsOn}}
use Rattle.ulfm_steps.proofs.KnownBlocks.{spread_later}
use Rattle.ulfm_model.specs.Terms.{comm_of}
use Rattle.ulfm_model.specs.Records.{moment}
use Rattle.ulfm_words.specs.Steps.{IsView, Over as Named, Sight, view_at}
use Rattle.ulfm_words.proofs.Trails.{did_prefix, did_wait}
use Rattle.ulfm_steps.specs.declared.{append.Append.{Append}, blocks.MarkAll.{MarkAll}, blocks.Peek.{Peek}, blocks.ReadBlocks.{ReadBlocks}}
use Rattle.ulfm_steps.specs.declared.blocks.RoundBlocks.{RoundBlocks}
use Rattle.ulfm_steps.proofs.{InBlocks.{are_later, at_block_later}, Appending.{passed_stays}, Arriving.{at_arrival_stays}}
use Rattle.ulfm_comm.specs.Polls.{PollHasMarked}
use Rattle.ulfm_comm.specs.{Look.{HasLooked, Looked}, Spawning.{HasReadMask, IsSpawning}, Agreement.{IsMarking, IsPeeking, IsReading}, Barrier.{IsWaiting}}
use Rattle.ulfm_comm.proofs.{Barrier.{waiting_on}, Known.{reads_on}, Polls.{polls_it}}
use Rattle.ulfm_comm.specs.Phase.{Stands, StandsAt, UnderWay, Waits}
use Rattle.ulfm_comm.specs.declared.phases.phase.Phase.{Phase}
use Rattle.ulfm_comm.specs.declared.phases.phase.Phase.TheVariants.{Over, Begun, Looking, Spreading, Settling, Arriving, Revoking, Asking, Peeking, Marking, Reading}
use Rattle.ulfm_comm.specs.declared.phases.phase.Phase.TheVariants.{ReadingOn, Spawning, Waiting, Checking}
use Rattle.ulfm_comm.specs.Local.{frame, local}
use Rattle.ulfm_comm.specs.Requests.{agreement, polled_round}
use Rattle.ulfm_comm.specs.Spawning.{decided_as, sought}
use Rattle.ulfm_comm.specs.Prepared.{Prepared}

-- a decision's failed group is read as far as before, while the list of failures grows
pub reads_stay : (group : List ℕ) (count : ℕ) (old new whole longer : List ℕ) (reach : ℕ) → ReadsOn group count old new whole reach → IsPrefix whole longer
    → ReadsOn group count old new longer reach
reads_stay group count old new whole longer reach reads more =
    record { goes_on = reads.goes_on; begins = prefix_trans new whole longer reads.begins more; within = reads.within; counted = reads.counted }

-- A shrink's round is decided: so it stays when others' events come, and a longer beginning of the list of failures is seen.
module _ {P : Type 0} (meld : P → P → P) (limits : Limits) (alone : Bool) (c k : ℕ) (mask : CtxMask) (x : Held) (count : ℕ) (old : Record) (before : History P)
    (own : Record) (now : History P)
    (d : HasReadMask (frame meld limits alone) c (decided_as k mask count) x (moment old before) (moment own now)) where
  abbrev pub decided_on : (new : Record) (after : History P) → Did alone [] now after → new ≡ record own { seen = new.seen } → IsPrefix own.seen new.seen
      → IsPrefix new.seen (failures after)
      → HasReadMask (frame meld limits alone) c (decided_as k mask count) x (moment old before) (moment new after)
  decided_on new after did is goes begins =
      record {
        mid = d.mid;
        decided = d.decided;
        said = d.said;
        waited = did_wait alone [] d.decided now after d.waited did;
        own_is = is ∙ ap (λ (w : Record). record w { seen = new.seen }) d.own_is;
        goes_on = prefix_trans d.mid.seen own.seen new.seen d.goes_on goes;
        begins = begins;
      }

module _ {P : Type 0} (meld : P → P → P) (limits : Limits) (alone : Bool) (old : Record) (before : History P) (own : Record) (now later : History P) where
  -- a peek goes on, after others' events
  abbrev pub peeking_then : Did alone [] now later → (c : ℕ) (shrinks : Bool) (peek : Peek P)
      → (p : IsPeeking (frame meld limits alone) c shrinks peek (moment old before) (moment own now)) → (next : Peek P) → next.comm ≡ peek.comm
      → next.round ≡ peek.round → BothTell meld later next.comm next.round p.x.group next.blocks
      → IsPeeking (frame meld limits alone) c shrinks next (moment old before) (moment own later)
  peeking_then did c shrinks peek p next comm round are = record {
    x = p.x;
    since = p.since;
    legal = p.legal;
    open_is = p.open_is ∙ ap (λ k. Some (agreement shrinks k)) (sym round);
    there = comm ∙ p.there;
    are = are;
    waited = did_wait alone [] p.since.look now later p.waited did;
  }

  -- a marking goes on, by what it has marked since the look
  abbrev pub marking_then : (c : ℕ) (shrinks : Bool) (marks : MarkAll) (blocks : RoundBlocks P)
      → (p : IsMarking (frame meld limits alone) c shrinks marks blocks (moment old before) (moment own now)) → (next : MarkAll) → next.rank ≡ marks.rank
      → next.comm ≡ marks.comm → next.round ≡ marks.round → IsAt p.x.group (failures p.since.look) next.next next.known → (marked : History P)
      → Marks alone old.number c next.round (members_in p.x.group (failures p.since.look) next.next) p.since.look marked → Did alone [] marked later
      → BothTell meld later next.comm next.round p.x.group blocks → IsMarking (frame meld limits alone) c shrinks next blocks (moment old before) (moment own later)
  marking_then c shrinks marks blocks p next rank comm round at marked has_marked waited are = record {
    x = p.x;
    since = p.since;
    legal = p.legal;
    open_is = p.open_is ∙ ap (λ k. Some (agreement shrinks k)) (sym round);
    mine = rank ∙ p.mine;
    there = comm ∙ p.there;
    at = at;
    marked = marked;
    has_marked = has_marked;
    waited = waited;
    are = are;
    unknown = p.unknown;
  }

module _ {P : Type 0} (meld : P → P → P) (limits : Limits) (alone : Bool) (old : Record) (before : History P) (own : Record) (now later : History P)
    (did : Did alone [] now later) (legal : IsLegal meld limits later) where
  pub grows : IsPrefix now later
  grows = did_prefix alone [] now later did

  pub more_failures : IsPrefix (failures now) (failures later)
  more_failures = failures_begin now later grows

  abbrev pub looked_lasts : (asked : Call P) → HasLooked (frame meld limits alone) asked (moment old before) (moment own now) → HasLooked (frame meld limits alone) asked (moment old before) (moment own later)
  looked_lasts asked p = record {
    look = p.look;
    looked = p.looked;
    legal = p.legal;
    fits = p.fits;
    x = p.x;
    held = p.held;
    passed = p.passed;
    waited = did_wait alone [] p.look now later p.waited did;
  }

  abbrev pub peeking_lasts : (c : ℕ) (shrinks : Bool) (peek : Peek P) → IsPeeking (frame meld limits alone) c shrinks peek (moment old before) (moment own now)
      → IsPeeking (frame meld limits alone) c shrinks peek (moment old before) (moment own later)
  peeking_lasts c shrinks peek p = peeking_then meld limits alone old before own now later did c shrinks peek p peek refl refl
      (are_later meld now later peek.comm peek.round p.x.group peek.blocks grows p.are)

  abbrev pub marking_lasts : (c : ℕ) (shrinks : Bool) (marks : MarkAll) (blocks : RoundBlocks P)
      → IsMarking (frame meld limits alone) c shrinks marks blocks (moment old before) (moment own now)
      → IsMarking (frame meld limits alone) c shrinks marks blocks (moment old before) (moment own later)
  marking_lasts c shrinks marks blocks p = marking_then meld limits alone old before own now later c shrinks marks blocks p marks refl refl refl p.at p.marked
      p.has_marked (did_wait alone [] p.marked now later p.waited did) (are_later meld now later marks.comm marks.round p.x.group blocks grows p.are)

  pub marked_lasts : (c : ℕ) (shrinks : Bool) (k : ℕ) (x : Held) → PollHasMarked (frame meld limits alone) c (polled_round shrinks k) x (moment old before) (moment own now)
      → PollHasMarked (frame meld limits alone) c (polled_round shrinks k) x (moment old before) (moment own later)
  marked_lasts c shrinks k x p =
      record {
        since = p.since;
        open_is = p.open_is;
        marked = p.marked;
        marks = p.marks;
        waited = did_wait alone [] p.marked now later p.waited did;
        legal = legal;
      }

  abbrev pub reading_lasts : (c : ℕ) (shrinks : Bool) (reading : ReadBlocks P) → IsReading (frame meld limits alone) c shrinks reading (moment old before) (moment own now)
      → IsReading (frame meld limits alone) c shrinks reading (moment old before) (moment own later)
  reading_lasts c shrinks reading p =
      record {
        x = p.x;
        marked = marked_lasts c shrinks reading.round p.x p.marked;
        there = p.there;
        at = at_block_later meld now later p.x.group reading grows p.at;
      }

  abbrev pub decided_lasts : (c k : ℕ) (mask : CtxMask) (x : Held) (count : ℕ) → HasReadMask (frame meld limits alone) c (decided_as k mask count) x (moment old before) (moment own now)
      → HasReadMask (frame meld limits alone) c (decided_as k mask count) x (moment old before) (moment own later)
  decided_lasts c k mask x count p = decided_on meld limits alone c k mask x count old before own now p own later did refl ([], append-nil own.seen)
      (prefix_trans own.seen (failures now) (failures later) p.begins more_failures)

  -- the communicator is looked for on, from the place that is tried next
  pub spawning_then : (c : ℕ) (append : Append) (context reach : ℕ) (group : List ℕ)
      → IsSpawning (frame meld limits alone) c append (sought context reach group) (moment old before) (moment own now)
      → (next : Append) → next.item ≡ append.item → next.by ≡ append.by → Passed later next.item next.index → next.index < room next.item limits
      → IsSpawning (frame meld limits alone) c next (sought context reach group) (moment old before) (moment own later)
  spawning_then c append context reach group p next item mine passed more =
      record {
        x = p.x;
        round = p.round;
        mask = p.mask;
        count = p.count;
        decided = decided_lasts c p.round p.mask p.x p.count p.decided;
        lowest = p.lowest;
        reads = reads_stay p.x.group p.count p.decided.mid.seen own.seen (failures now) (failures later) reach p.reads more_failures;
        stays = p.stays;
        left = p.left;
        item = item ∙ p.item;
        mine = mine ∙ p.mine;
        passed = passed;
        more = more;
      }

  pub spawning_lasts : (c : ℕ) (append : Append) (context reach : ℕ) (group : List ℕ)
      → IsSpawning (frame meld limits alone) c append (sought context reach group) (moment old before) (moment own now)
      → IsSpawning (frame meld limits alone) c append (sought context reach group) (moment old before) (moment own later)
  spawning_lasts c append context reach group p =
      spawning_then c append context reach group p append refl refl (passed_stays append.item append.index now later grows p.passed) p.more

  pub waiting_lasts : (c k : ℕ) (x : Held) → IsWaiting (frame meld limits alone) c k x (moment old before) (moment own now) → IsWaiting (frame meld limits alone) c k x (moment old before) (moment own later)
  waiting_lasts c k x p = waiting_on meld limits alone c k x old before own now p alone (λ same. same) later did

-- what is held of one of two words stays so
module _ {P : Type 0} (name : Named P) (now later : Sight P) (begins : IsPrefix now.seen later.seen) (keeps : IsPrefix now.cached later.cached) where
  first_lasts : (meld : P → P → P) (peek : Peek P) → HoldsFirst meld (view_at name now) peek → HoldsFirst meld (view_at name later) peek
  first_lasts meld peek = go peek.first
    where
      b : Block
      b = block_at peek.comm peek.round peek.side

      go : (o : Option ℕ) → IfSome o (λ w. IsBlockIn meld name.pack (view_at name now) b w × (has_block now.cached b ≡ true)) → IfSome o (λ w. IsBlockIn meld name.pack (view_at name later) b w × (has_block later.cached b ≡ true))
      go None is = tt
      go (Some w) is = (block_stays meld name.pack name.limits.ranks now.seen later.seen b w begins is.0, has_block_stays now.cached later.cached b keeps is.1)

  half_lasts : (group : List ℕ) (reading : ReadBlocks P) → HoldsHalf (view_at name now) group reading → HoldsHalf (view_at name later) group reading
  half_lasts group reading half = record {
    first = go reading.first half.first;
    more = half.more;
    winged = λ set. spread_later (view_at name now) (view_at name later) (block_at reading.comm reading.round reading.side) keeps (half.winged set);
  }
    where
      go : (o : Option ℕ) → IfSome o (IsFirstOf name.pack (slot now.seen reading.comm reading.round (next_in_block group reading))) → IfSome o (IsFirstOf name.pack (slot later.seen reading.comm reading.round (next_in_block group reading)))
      go None is = tt
      go (Some w) is = (is.0, slot_stays now.seen later.seen reading.comm reading.round (next_in_block group reading) (Slot.Given is.0) begins is.1, is.2)

module _ {P : Type 0} (meld : P → P → P) (alone : Bool) (name : Named P) (asked : Call P) (old : Record) (before : Sight P) (prepared : Prepared) (own : Record)
    (now later : Sight P) (did : Did alone [] now.seen later.seen) (keeps : IsPrefix now.cached later.cached) (of : IsView meld (view_at name later)) where
  at_lasts : (phase : Phase P) → StandsAt meld alone asked (local old (view_at name before)) phase prepared (local own (view_at name now)) → StandsAt meld alone asked (local old (view_at name before)) phase prepared (local own (view_at name later))
  at_lasts Over p = (p.0, p.1, did_wait alone [] before.seen now.seen later.seen p.2 did)
  at_lasts Begun p = (p.0, p.1, did_wait alone [] before.seen now.seen later.seen p.2 did)
  at_lasts Looking p =
      let more = failures_begin now.seen later.seen (did_prefix alone [] now.seen later.seen did) in
      (p.0, p.1, did_wait alone [] before.seen now.seen later.seen p.2 did, (prefix_trans own.seen (failures now.seen) (failures later.seen) p.3.0 more, p.3.1))
  at_lasts (Spreading request offer) p = (looked_lasts meld name.limits alone old before.seen own now.seen later.seen did of.legal asked p.0, p.1)
  at_lasts (Settling request offer) p =
      let wing = Wing.Slot p.0.x.comm p.0.x.next_agreement own.number in
      (looked_lasts meld name.limits alone old before.seen own now.seen later.seen did of.legal asked p.0, p.1, has_wing_stays now.cached later.cached wing (offer_wing name.pack offer) keeps p.2)
  at_lasts (Arriving round) p = (looked_lasts meld name.limits alone old before.seen own now.seen later.seen did of.legal asked p.0, p.1, p.2)
  at_lasts Revoking p = (looked_lasts meld name.limits alone old before.seen own now.seen later.seen did of.legal asked p.0, p.1)
  at_lasts Asking p = (looked_lasts meld name.limits alone old before.seen own now.seen later.seen did of.legal asked p.0, p.1)
  at_lasts (Peeking peek shrinks) p = (
    p.0,
    peeking_lasts meld name.limits alone old before.seen own now.seen later.seen did of.legal
        (comm_of asked) shrinks peek p.1,
    p.2,
    first_lasts name now later (did_prefix alone [] now.seen later.seen did) keeps meld peek p.3,
  )
  at_lasts (Marking marks blocks shrinks) p = (
    p.0,
    marking_lasts meld name.limits alone old before.seen own now.seen later.seen did of.legal
        (comm_of asked) shrinks marks blocks p.1,
    p.2,
  )
  at_lasts (Reading reading shrinks) p = (
    p.0,
    reading_lasts meld name.limits alone old before.seen own now.seen later.seen did of.legal
        (comm_of asked) shrinks reading p.1,
    half_lasts name now later (did_prefix alone [] now.seen later.seen did) keeps p.1.x.group reading p.2,
  )
  at_lasts (ReadingOn on made) p = (
    p.0,
    p.1,
    decided_lasts meld name.limits alone old before.seen own now.seen later.seen did of.legal
        (comm_of asked) made.round made.mask p.1 made.count p.2,
    p.3,
    p.4,
  )
  at_lasts (Spawning append context reach) p = (
    p.0,
    spawning_lasts meld name.limits alone old before.seen own now.seen later.seen did of.legal
        (comm_of asked) append context reach prepared.members p.1,
    p.2,
  )
  at_lasts (Waiting arrivals) p = (
    p.0,
    p.1,
    p.2,
    waiting_lasts meld name.limits alone old before.seen own now.seen later.seen did of.legal (comm_of asked) arrivals.round p.2 p.3,
    at_arrival_stays p.2.group own.seen arrivals now.seen later.seen (did_prefix alone [] now.seen later.seen did) p.4,
  )
  at_lasts (Checking missing) p =
      let i = p.2 in
      (p.0, p.1, record { x = i.x; k = i.k; waits = i.waits; are = i.are; legal = i.legal; waited = did_wait alone [] p.1 now.seen later.seen i.waited did })

-- the call stands
pub stands_lasts : {P : Type 0} (meld : P → P → P) (alone : Bool) (name : Named P) (old : Record) (before : Sight P) (doing : UnderWay P) (own : Record)
    (now later : Sight P) → Stands meld alone (local old (view_at name before)) doing (local own (view_at name now)) → Waits alone now later
    → IsView meld (view_at name later) → Stands meld alone (local old (view_at name before)) doing (local own (view_at name later))
stands_lasts meld alone name old before doing own now later u waits of =
    record {
      fits = u.fits;
      mine = u.mine;
      onward = omega (arith, u.onward, waits.onward);
      at = at_lasts meld alone name doing.asked old before doing.prepared own now later waits.did waits.cached of doing.phase u.at;
    }

-- a call that is under way has changed nothing of its rank's record but what it has seen
module _ {P : Type 0} (meld : P → P → P) (alone : Bool) (name : Named P) (asked : Call P) (old : Record) (before : Sight P) (prepared : Prepared) (own : Record)
    (now : Sight P) where
  by_same : own ≡ old → own ≡ record old { seen = own.seen }
  by_same is = is ∙ ap (λ (w : Record). record old { seen = w.seen }) (sym is)

  by_seen : (seen : List ℕ) → own ≡ record old { seen = seen } → own ≡ record old { seen = own.seen }
  by_seen seen is = is ∙ ap (λ s. record old { seen = s }) (sym (ap (λ (w : Record). w.seen) is))

  by_looked : (mid : Record) (look : History P) → Looked alone before.seen look old mid → own ≡ record mid { seen = own.seen }
      → own ≡ record old { seen = own.seen }
  by_looked mid look looked is = is ∙ ap (λ (w : Record). record w { seen = own.seen }) looked.record_is

  pub stands_own : (phase : Phase P) → StandsAt meld alone asked (local old (view_at name before)) phase prepared (local own (view_at name now)) → own ≡ record old { seen = own.seen }
  stands_own Over p = by_same p.1
  stands_own Begun p = by_same p.1
  stands_own Looking p = p.1
  stands_own (Spreading request offer) p = by_seen _ p.0.looked.record_is
  stands_own (Settling request offer) p = by_seen _ p.0.looked.record_is
  stands_own (Arriving round) p = by_seen _ p.0.looked.record_is
  stands_own Revoking p = by_seen _ p.0.looked.record_is
  stands_own Asking p = by_seen _ p.0.looked.record_is
  stands_own (Peeking peek shrinks) p = by_seen _ p.1.since.looked.record_is
  stands_own (Marking marks blocks shrinks) p = by_seen _ p.1.since.looked.record_is
  stands_own (Reading reading shrinks) p = by_seen _ p.1.marked.since.looked.record_is
  stands_own (ReadingOn on made) p = let d = p.2 in by_looked d.mid d.said.marked.since.look d.said.marked.since.looked d.own_is
  stands_own (Spawning append context reach) p = let d = p.1.decided in by_looked d.mid d.said.marked.since.look d.said.marked.since.looked d.own_is
  stands_own (Waiting arrivals) p = by_seen _ p.3.since.looked.record_is
  stands_own (Checking missing) p = by_seen _ p.2.waits.since.looked.record_is

  -- one that reads on polls a shrink
  pub stands_shrinks : (phase : Phase P) → reads_on phase ≡ true → StandsAt meld alone asked (local old (view_at name before)) phase prepared (local own (view_at name now))
      → IsTrue (is_shrink (polled_by own asked))
  stands_shrinks (ReadingOn on made) reads p =
      let d = p.2 in
      let shrinking : IsTrue (is_shrink (polled_by {P = P} old (call.Poll old.number (comm_of asked)))) = ap is_shrink
      (polls_it meld name.limits alone before.seen old d.mid (comm_of asked) true made.round p.1 d.decided d.said.marked) in
      let same : polled_by {P = P} own asked ≡ polled_by {P = P} old (call.Poll old.number (comm_of asked)) = ap (λ (w : Record). polled_by {P = P} w asked)
      (by_looked d.mid d.said.marked.since.look d.said.marked.since.looked d.own_is) ∙ ap (λ (a : Call P). polled_by {P = P} old a) p.0 in
      ap is_shrink same ∙ shrinking
  stands_shrinks _ reads p = absurd (cc reads)

-- The end of a shrink's poll, step by step.
use Rattle.std.proofs.Common.{◌≡◌, ℕ, ◌<◌, ◌≤◌, ◌==◌, ◌&&◌, Bool, true, false, not, List, [], ◌∷◌, ◌++◌, length, take, nat_eq, nat_lt, Some, refl, ap, ap₂, sym}
use Rattle.std.proofs.Common.{◌∙◌, subst, append-nil, arith, inl, inr, IsTrue, Option, ◌⊎◌}
use Rattle.std.specs.List.{AllByRecursion, list_any}
use Rattle.std.specs.List.Sorted.{IsStrictlyIncreasing}
use Rattle.std.proofs.lemmas.Bool.Decides.{nat_tests}
use Rattle.std.proofs.lemmas.Nat.Bits.{bit_at_above}
use mathlib.Core.List.{IsPrefix}
use Rattle.ulfm_laws.specs.declared.{summary.Body.TheVariants.{Ctx as OfIds}, summary.CtxMask.{CtxMask}, summary.Summary.{Summary}}
use Rattle.ulfm_model.specs.declared.call.Call.TheVariants as call
use Rattle.ulfm_model.specs.declared.{call.Call.{Call}, event.Caller.TheVariants.{Rank}, event.Event.{Event}, event.Event.TheVariants.{Spawn}}
use Rattle.ulfm_model.specs.declared.{limits.Limits.{Limits}, refusal.Refusal.TheVariants.{Mismatch, NoContext, NoRoom, OutOfMemory, SelfFailed, Twice}}
use Rattle.ulfm_model.specs.declared.{reply.Reply.{Reply}, reply.Reply.TheVariants.{Pending, Refused, Shrunk}}
use Rattle.ulfm_model.specs.{Answers.{CallAdds, PollAdds, closed, polled_by, traits_of}, History.{History, IsLegal, entries_by, failures, has, spawns, without}}
use Rattle.ulfm_model.specs.{Records.{Fits, Held, IsLowestId, Record, held_at, is_shrink}, Runs.{Did}}
use Rattle.ulfm_model.specs.Terms.{comm_of, contexts_of, new_held}
use Rattle.ulfm_model.proofs.{RankGroups.{members_few}, Histories.{failures_begin}, LeftFits.{fits_seen}, Lists.{length-filter-le, prefix_trans}}
use Rattle.ulfm_model.proofs.Stable.{fits_stays}
use Rattle.ulfm_model.specs.Records.{moment}
use Rattle.ulfm_words.specs.Steps.{IsView, Over, Sight, view_at}
use Rattle.ulfm_words.proofs.{Ranks.{spawns_below}, Trails.{did_none, did_prefix}}
use Rattle.ulfm_steps.proofs.{Appending.{append_stays}, Spawning.{may_spawn}}
use Rattle.ulfm_steps.specs.Appends.{MayAppend, Passed, room}
use Rattle.ulfm_steps.specs.declared.{append.Append.{Append}, item.Item.{Item}, item.Item.TheVariants.{Comm as OfComm}}
use Rattle.ulfm_comm.specs.declared.{phases.phase.Made.{Made}, phases.phase.Phase.TheVariants.{ReadingOn, Spawning}, phases.spawning.Spawned.{Spawned}}
use Rattle.ulfm_comm.specs.declared.phases.spawning.Spawned.TheVariants as spawned
use Rattle.ulfm_steps.specs.declared.read_on.ReadOn.{ReadOn}
use Rattle.ulfm_steps.specs.ReadsOn.{AtFailure, MayReadOn, ReadsOn}
use Rattle.ulfm_comm.specs.{Calls.{FindsTwice, RepliedAs, HadCome, RanOut, wants_memory}, Ends.{IsEndRun}}
use Rattle.ulfm_comm.specs.{Spawning.{Holds, IsFullBy, IsMadeBy, MayHold, MayGoSpawning, SpawnIs, HasReached, HasReadMask}, Step.{Adds, Makes, Walks}}
use Rattle.ulfm_comm.specs.{Phase.{Answered, Stands}, Agreement.{HasReadAll}}
use Rattle.ulfm_steps.proofs.ReadingOn.{passing_grow}
use Rattle.ulfm_steps.specs.Rounds.{round_on}
use Rattle.ulfm_comm.proofs.{StepAdds.{adds_none}, Stands.{decided_on, spawning_then}}
use Rattle.ulfm_comm.proofs.{CallRuns.{calls_is, runs_out_after}, Children.{passed_parent}, Holding.{comm_is, exists_is, failed_is, group_is, group_rises}, AmongOthers.{did_loosely}}
use Rattle.ulfm_comm.proofs.{Polls.{body_read, enough_read, later, not_refused, open_round, read_decided, read_fresh, polls_it}}
use Rattle.ulfm_comm.proofs.Shrinks.{all_did, marks_make_none, may_own, sees_on, shrink_decided, shrink_mismatch, shrink_no_context, shrink_no_room}
use Rattle.ulfm_comm.proofs.Shrinks.{shrink_self_failed, shrink_shrunk}
use Rattle.ulfm_comm.proofs.WholeCall.{span_ends}
use Rattle.ulfm_comm.specs.Local.{frame, local}
use Rattle.ulfm_comm.specs.Requests.{polled_round}
use Rattle.ulfm_comm.specs.Spawning.{decided_as, seeking, target}
use Rattle.ulfm_comm.specs.Prepared.{Prepared}

-- so many failures were gone through as have the decision's failed group
pub reads_of : (group : List ℕ) (count : ℕ) (on : ReadOn) (old new whole : List ℕ) → AtFailure group count on new → count ≤ on.found → IsPrefix old new
    → IsPrefix new whole → ReadsOn group count old new whole on.reach
reads_of group count on old new whole at enough goes begins =
    let few = at.few in
    let same : on.found ≡ count = omega (arith, few, enough) in
    record { goes_on = goes; begins = begins; within = at.within; counted = sym at.counted ∙ same }

-- the poll of a shrink is answered, with its point at its end
pub answered_with : {P : Type 0} (meld : P → P → P) (alone : Bool) (name : Over P) (asked : Call P) (old : Record) (before : Sight P) (reply : Reply P)
    (new : Record) (after : Sight P) → IsView meld (view_at name after) → before.steps ≤ after.steps → Fits meld name.limits before.seen old
    → asked ≡ call.Poll old.number (comm_of asked) → IsEndRun meld name.limits alone (moment old before.seen) (call.Poll old.number (comm_of asked)) reply (moment new after.seen)
    → wants_memory reply ≡ false → (reply ≡ Pending → ⊥)
    → Answered meld alone asked (local old (view_at name before)) reply (local new (view_at name after))
answered_with meld alone name asked old before reply new after of onward fits polls ended answers decides =
    let mine = subst (λ (a : Call _). IsEndRun meld name.limits alone (moment old before.seen) a reply (moment new after.seen)) (sym polls) ended in
    let twice = λ (is : reply ≡ Refused Twice). subst (λ (a : Call _). FindsTwice a old (view_at name after)) (sym polls) (λ no. absurd (cc no)) in
    let called = calls_is meld alone name before after onward asked old reply new of fits twice mine in
    record {
      ends = inr (subst (λ b. RepliedAs meld alone asked (local old (view_at name before)) reply b (local new (view_at name after))) (sym answers) called);
      pending = λ waits. absurd (decides waits);
    }

-- no communicator was made
none_made : (xs : List (ℕ × ℕ)) (c k : ℕ) → length xs ≡ 0 → list_any (λ made. (made.0 == c) && (made.1 == k)) xs ≡ false
none_made [] c k none = refl
none_made (x ∷ xs) c k none = absurd (omega (arith, none))

-- where there may be the world's communicator alone, none can be made
pub full_alone : {P : Type 0} (meld : P → P → P) (alone : Bool) (name : Over P) (c k : ℕ) (now : Sight P) → IsView meld (view_at name now) → name.limits.comms ≡ 1
    → IsFullBy meld alone (round_on c k) (view_at name now) (view_at name now)
full_alone meld alone name c k now of one =
    let below = spawns_below meld name.limits now.seen of.legal of.may_open.in_range.some_comms in
    let none : length (spawns now.seen) ≡ 0 = omega (arith, below, one) in
    record {
      of = of;
      did = did_none alone now.seen;
      full = omega (arith, none, one);
      unmade = none_made (spawns now.seen) c k none;
      onward = omega arith;
      cached = ([], append-nil now.cached);
      caches = refl;
    }

-- the ids of a mask are below 64
id_below : (mask : CtxMask) (i : ℕ) → IsLowestId mask.bits i → i < 64
id_below mask i lowest = go (nat_lt i 64) refl
  where
    go : (b : Bool) → nat_lt i 64 ≡ b → i < 64
    go true below = grind (arith, nat_tests)
    go false above =
        let from : 64 ≤ i = grind (arith, nat_tests) in
        let none = bit_at_above mask.bits 64 i mask.fits from in
        let one = lowest.in_it in absurd (cc (none, one))

module _ {P : Type 0} (meld : P → P → P) (limits : Limits) (alone : Bool) (c k : ℕ) (mask : CtxMask) (x : Held) (count : ℕ) (old : Record) (before : History P)
    (own : Record) (now : History P)
    (d : HasReadMask (frame meld limits alone) c (decided_as k mask count) x (moment old before) (moment own now)) where
  pub goes_here : IsPrefix d.decided now
  goes_here = did_prefix alone [] d.decided now d.waited

  pub number_is : own.number ≡ old.number
  number_is = ap (λ (w : Record). w.number) d.own_is ∙ ap (λ (w : Record). w.number) d.said.marked.since.looked.record_is

  pub held_is : held_at own c ≡ Some x
  held_is = ap (λ (w : Record). held_at w c) d.own_is ∙ d.said.marked.since.held

  fits_decided : Fits meld limits d.decided d.mid
  fits_decided = later meld limits alone before old d.mid c true k x d.decided d.said.marked

  pub fits_now : IsLegal meld limits now → Fits meld limits now own
  fits_now legal =
      subst (Fits meld limits now) (sym d.own_is) (fits_seen meld limits now d.mid own.seen
      (fits_stays meld limits d.decided now d.mid goes_here legal fits_decided) d.begins)

  -- the list of failures has as many of the group as the decision knows
  pub may_read_on : MayReadOn x.group count own.seen (failures now)
  may_read_on =
      let enough = enough_read meld limits d.decided d.mid c k x d.said.marked.legal fits_decided d.said.marked.since.held d.said.all d.said.read in
      let failed = ap length (failed_is meld limits d.decided d.mid c x fits_decided d.said.marked.since.held) in
      let more = passing_grow (has x.group) (failures d.decided) (failures now) (failures_begin d.decided now goes_here) in
      let counted = d.said.count_is in
      record {
        rises = group_rises meld limits d.decided d.mid c x fits_decided d.said.marked.since.held;
        begins = d.begins;
        enough = omega (arith, counted, enough, failed, more);
      }

  pub in_rounds : k < limits.rounds
  in_rounds = open_round meld limits d.decided d.mid c k true x d.said.marked.legal fits_decided d.said.marked.since.held d.said.marked.open_is

  -- the round's communicator may be made
  pub may_make : MayAppend meld limits now (OfComm c k)
  may_make =
      append_stays meld limits d.decided now (OfComm c k) goes_here
      (may_spawn meld limits d.decided c k (exists_is meld limits d.decided d.mid c x fits_decided d.said.marked.since.held) in_rounds
      (read_decided meld limits d.decided d.mid c k x d.said.marked.legal fits_decided d.said.marked.since.held d.said.all d.said.read) mask
      (body_read meld limits d.decided d.mid c k x d.said.marked.legal fits_decided d.said.marked.since.held d.said.all d.said.read ∙ d.said.body) d.said.some)

  -- the communicators up to the parent were made of others
  pub passes_parent : IsLegal meld limits now → (n : ℕ) → n ≤ c → Passed now (OfComm c k) n
  passes_parent legal n few = passed_parent meld limits now c k n legal (exists_is meld limits now own c x (fits_now legal) held_is) few

  -- and the rank may hold it, with some of the group as its members
  pub may_hold : (context reach : ℕ) (group : List ℕ) → IsLowestId mask.bits context → group ≡ without x.group (take reach own.seen) → limits.ranks ≤ 1024
      → MayHold own c context (length group)
  may_hold context reach group lowest left ranks =
      let least = length-filter-le (λ r. not (has (take reach own.seen) r)) x.group in
      let same = ap length left in
      let members = ap length (group_is meld limits d.decided d.mid c x fits_decided d.said.marked.since.held) in
      let few = members_few limits.ranks d.decided c in
      record {
        x = x;
        held = held_is;
        few = omega (arith, least, same, members, few, ranks);
        id = id_below mask context lowest;
        fresh =
            subst (λ (w : Record). AllByRecursion (λ i. nat_eq i context ≡ false) (contexts_of w.held)) (sym d.own_is)
            (read_fresh meld limits d.decided d.mid c k x d.said.marked.legal fits_decided d.said.marked.since.held d.said.all d.said.read d.said.marked.open_is mask context d.said.body
            lowest.in_it);
      }

module _ {P : Type 0} (meld : P → P → P) (alone : Bool) (name : Over P) (asked : Call P) (k : ℕ) (mask : CtxMask) (x : Held) (count reach : ℕ) (old : Record)
    (before : Sight P) (own : Record) (now : Sight P) (of : IsView meld (view_at name now)) (onward : before.steps ≤ now.steps)
    (fits : Fits meld name.limits before.seen old) (polls : asked ≡ call.Poll old.number (comm_of asked))
    (d : HasReadMask (frame meld name.limits alone) (comm_of asked) (decided_as k mask count) x (moment old before.seen) (moment own now.seen))
    (reads : ReadsOn x.group count d.mid.seen own.seen (failures now.seen) reach) where
  abbrev c : ℕ
  c = comm_of asked

  -- the same, by what was read of the round
  counted : ReadsOn x.group d.said.all.known.count d.mid.seen own.seen (failures now.seen) reach
  counted = subst (λ n. ReadsOn x.group n d.mid.seen own.seen (failures now.seen) reach) d.said.count_is reads

  begins_now : IsPrefix d.decided now.seen
  begins_now = goes_here meld name.limits alone c k mask x count old before.seen own now.seen d

  -- whether the rank is left out, by its number
  mine : (b : Bool) → has (take reach own.seen) own.number ≡ b → has (take reach own.seen) old.number ≡ b
  mine b is = ap (has (take reach own.seen)) (sym (number_is meld name.limits alone c k mask x count old before.seen own now.seen d)) ∙ is

  -- the rank is in the decision's failed group
  pub ends_self_failed : (new : Record) → has (take reach own.seen) own.number ≡ true → new ≡ record own { refused = true }
      → Answered meld alone asked (local old (view_at name before)) (Refused SelfFailed) (local new (view_at name now))
  ends_self_failed new among is =
      answered_with meld alone name asked old before (Refused SelfFailed) new now of onward fits polls
      (shrink_self_failed meld name.limits alone before.seen old d.mid c k x d.decided d.said.marked d.said.all d.said.read now.seen begins_now of.legal own.seen reach counted
      [] now.seen (did_none alone now.seen) d.waited tt refl of.legal new (mine true among) (is ∙ ap (λ (w : Record). record w { refused = true }) d.own_is))
      refl (λ waits. absurd (cc waits))

  -- no communicator is left
  pub ends_full : (quiet : Bool) → (IsTrue alone → IsTrue quiet) → (new : Record) (after : Sight P) → IsFullBy meld quiet (round_on c k) (view_at name now) (view_at name after) → has (take reach own.seen) own.number ≡ false → new ≡ closed own c
      → Answered meld alone asked (local old (view_at name before)) (Refused NoRoom) (local new (view_at name after))
  ends_full quiet only new after full out is =
      answered_with meld alone name asked old before (Refused NoRoom) new after full.of (omega (arith, onward, full.onward)) fits polls
      (shrink_no_room meld name.limits alone before.seen old d.mid c k x d.decided d.said.marked d.said.all d.said.read now.seen begins_now of.legal own.seen reach counted
      [] after.seen (did_loosely alone quiet only [] now.seen after.seen full.did) d.waited tt refl full.of.legal mask d.said.body d.said.some (mine false out) new full.full full.unmade
      (is ∙ ap (λ (w : Record). closed w c) d.own_is)) refl (λ waits. absurd (cc waits))

  -- it is made, and the rank holds it
  pub ends_made : (j context size : ℕ) (group : List ℕ) (new : Record) (after : Sight P) → IsMadeBy meld alone (Rank old.number) (round_on c k) (view_at name now) j (view_at name after)
      → Holds c context group own j size new → IsLowestId mask.bits context
      → group ≡ without x.group (take reach own.seen) → has (take reach own.seen) own.number ≡ false
      → Answered meld alone asked (local old (view_at name before)) (Shrunk j context size) (local new (view_at name after))
  ends_made j context size group new after made holds lowest left out =
      answered_with meld alone name asked old before (Shrunk j context size) new after made.of (omega (arith, onward, made.onward)) fits polls
      (shrink_shrunk meld name.limits alone before.seen old d.mid c k x d.decided d.said.marked d.said.all d.said.read now.seen begins_now of.legal own.seen reach counted
      made.own after.seen made.did d.waited made.makes made.settles_none made.of.legal mask d.said.body d.said.some (mine false out) j context size new made.some
      made.made lowest (holds.size_is ∙ ap length left)
      (holds.record_is ∙ ap₂ (λ (w : Record) ms. let rest = closed w c in record rest { held = rest.held ++ new_held j context ms ∷ [] }) d.own_is left)) refl
      (λ waits. absurd (cc waits))

  -- memory for it was refused, before the list of communicators was changed
  pub ends_out : has (take reach own.seen) own.number ≡ false → Answered meld alone asked (local old (view_at name before)) (Refused OutOfMemory) (local own (view_at name now))
  ends_out out_of_it =
      let poll = call.Poll old.number c in
      let quiet = did_none alone now.seen in
      let m = d.said.marked in
      let out : RanOut meld alone poll (local old (view_at name before)) (local own (view_at name now)) =
      runs_out_after meld alone name before now onward poll old own of fits d.begins
      (record {
        in_use = m.since.looked.in_use;
        span = span_ends (Rank old.number) (m.marks.own ++ []) false m.since.looked.did
            (all_did meld name.limits alone before.seen old d.mid c k x d.decided m d.said.all d.said.read now.seen begins_now of.legal own.seen reach
            counted [] now.seen quiet d.waited tt refl of.legal) of.legal;
        not_declared = m.since.looked.not_declared;
        not_refused = not_refused meld name.limits alone before.seen old d.mid c true k x d.decided m;
        own = may_own meld name.limits alone before.seen old d.mid c k x d.decided m d.said.all d.said.read now.seen begins_now of.legal own.seen reach
            counted [] now.seen quiet d.waited tt refl of.legal;
        makes_none = subst (λ (events : List (Event P)). spawns (entries_by (Rank old.number) events) ≡ []) (sym (append-nil m.marks.own))
            (marks_make_none (Rank old.number) c k _ m.marks.own m.marks.marks);
        had_come = subst (HadCome meld name.limits now.seen old.number c) (sym (polls_it meld name.limits alone before.seen old d.mid c true k x d.decided m))
            (shrink_decided meld name.limits alone before.seen old d.mid c k x d.decided m d.said.all d.said.read now.seen begins_now of.legal own.seen
            reach counted [] now.seen quiet d.waited tt refl of.legal mask d.said.body d.said.some (mine false out_of_it));
        sees = sees_on meld name.limits alone before.seen old d.mid c k x d.decided m d.said.all d.said.read now.seen begins_now of.legal own.seen reach
            counted [] now.seen quiet d.waited tt refl of.legal;
        record_is = d.own_is ∙ ap (λ (w : Record). record w { seen = own.seen }) m.since.looked.record_is;
      }) in
      let shrinking : IsTrue (is_shrink (polled_by {P = P} old poll)) = ap is_shrink
      (polls_it meld name.limits alone before.seen old d.mid c true k x d.decided d.said.marked) in
      record {
        ends = inr (subst (λ (a : Call P). RanOut meld alone a (local old (view_at name before)) (local own (view_at name now)) × IsTrue (is_shrink (polled_by old a))) (sym polls) (out, shrinking));
        pending = λ waits. absurd (cc waits);
      }

module _ {P : Type 0} (meld : P → P → P) (alone : Bool) (name : Over P) (asked : Call P) (k : ℕ) (all : Summary P) (old : Record) (before : Sight P)
    (mid : Record) (now : Sight P) (of : IsView meld (view_at name now))
    (r : HasReadAll meld alone asked (polled_round true k) all (local old (view_at name before)) (local mid (view_at name now))) where
  fits_read : Fits meld name.limits now.seen mid
  fits_read = later meld name.limits alone before.seen old mid (comm_of asked) true k r.x now.seen r.marked

  pub group_goes_up : IsStrictlyIncreasing r.x.group
  group_goes_up = group_rises meld name.limits now.seen mid (comm_of asked) r.x fits_read r.marked.since.held

  -- some have offered no mask
  pub ends_mismatch : (new : Record) → ((mask : CtxMask) → all.body ≡ OfIds mask → ⊥) → new ≡ closed mid (comm_of asked)
      → Answered meld alone asked (local old (view_at name before)) (Refused Mismatch) (local new (view_at name now))
  ends_mismatch new other is =
      answered_with meld alone name asked old before (Refused Mismatch) new now of r.on.onward r.on.fits r.on.polls
      (shrink_mismatch meld name.limits alone before.seen old mid (comm_of asked) k r.x now.seen r.marked all r.read new other is) refl
      (λ waits. absurd (cc waits))

  -- no context id is free
  pub ends_no_context : (mask : CtxMask) (new : Record) → all.body ≡ OfIds mask → mask.bits ≡ 0 → new ≡ closed mid (comm_of asked)
      → Answered meld alone asked (local old (view_at name before)) (Refused NoContext) (local new (view_at name now))
  ends_no_context mask new body none is =
      answered_with meld alone name asked old before (Refused NoContext) new now of r.on.onward r.on.fits r.on.polls
      (shrink_no_context meld name.limits alone before.seen old mid (comm_of asked) k r.x now.seen r.marked all r.read mask new body none is) refl
      (λ waits. absurd (cc waits))

  -- the round is decided on this mask
  pub decided_first : (mask : CtxMask) → all.body ≡ OfIds mask → 0 < mask.bits → HasReadMask (frame meld name.limits alone) (comm_of asked) (decided_as k mask all.known.count) r.x (moment old before.seen) (moment mid now.seen)
  decided_first mask body some =
      record {
        mid = mid;
        decided = now.seen;
        said = record { marked = r.marked; all = all; read = r.read; body = body; some = some; count_is = refl };
        waited = did_none alone now.seen;
        own_is = refl;
        goes_on = ([], append-nil mid.seen);
        begins = fits_read.seen;
      }

  -- and so many failures that were seen reach as far as its failed group
  pub reached_first : (mask : CtxMask) (on : ReadOn) → all.body ≡ OfIds mask → 0 < mask.bits → AtFailure r.x.group all.known.count on mid.seen
      → all.known.count ≤ on.found
      → HasReached meld alone asked (record { round = k; mask = mask; count = all.known.count }) on.reach (local old (view_at name before)) (local mid (view_at name now))
  unfolding decided_first
  reached_first mask on body some at enough =
      record {
        on = r.on;
        x = r.x;
        decided = decided_first mask body some;
        reads = reads_of r.x.group all.known.count on mid.seen mid.seen (failures now.seen) at enough ([], append-nil mid.seen) fits_read.seen;
      }

-- the list of failures was read on: others' events came, and a longer beginning of it is seen
module _ {P : Type 0} (meld : P → P → P) (alone : Bool) (name : Over P) (asked : Call P) (on : ReadOn) (made : Made) (prepared : Prepared) (old : Record)
    (before : Sight P) (own : Record) (now : Sight P)
    (s : Stands meld alone (local old (view_at name before)) (record { asked = asked; phase = ReadingOn on made; prepared = prepared }) (local own (view_at name now))) (new : Record) (after : Sight P)
    (did : Did alone [] now.seen after.seen) (onward : now.steps ≤ after.steps)
    (is : new ≡ record own { seen = new.seen }) (goes : IsPrefix own.seen new.seen) (begins : IsPrefix new.seen (failures after.seen)) where
  -- as far as that the decision's failed group isn't known yet
  pub reads_further : (next : ReadOn) (others : Prepared) → AtFailure s.at.1.group made.count next new.seen → next.found < made.count
      → Stands meld alone (local old (view_at name before)) (record { asked = asked; phase = ReadingOn next made; prepared = others }) (local new (view_at name after))
  reads_further next others at more =
      let before_that = s.onward in
      record {
        fits = s.fits;
        mine = s.mine;
        onward = omega (arith, before_that, onward);
        at = (
          s.at.0,
          s.at.1,
          decided_on meld name.limits alone (comm_of asked) made.round made.mask s.at.1 made.count old before.seen own now.seen s.at.2 new after.seen did is
              goes begins,
          at,
          more,
        );
      }

  -- or that it is
  pub has_reached : (next : ReadOn) → AtFailure s.at.1.group made.count next new.seen → made.count ≤ next.found
      → HasReached meld alone asked made next.reach (local old (view_at name before)) (local new (view_at name after))
  has_reached next at enough =
      let before_that = s.onward in
      record {
        on = record { fits = s.fits; polls = s.at.0; onward = omega (arith, before_that, onward) };
        x = s.at.1;
        decided = decided_on meld name.limits alone (comm_of asked) made.round made.mask s.at.1 made.count old before.seen own now.seen s.at.2 new after.seen
            did is goes begins;
        reads = reads_of s.at.1.group made.count next s.at.2.mid.seen new.seen (failures after.seen) at enough
            (prefix_trans s.at.2.mid.seen own.seen new.seen s.at.2.goes_on goes) begins;
      }

-- the communicator is looked for: a step in the list of communicators, or all that were left, led to this
module _ {P : Type 0} (meld : P → P → P) (alone quiet : Bool) (only : IsTrue alone → IsTrue quiet) (name : Over P) (asked : Call P) (append : Append)
    (context reach : ℕ) (prepared : Prepared) (old : Record) (before : Sight P) (own : Record) (now : Sight P)
    (of : IsView meld (view_at name now)) (s : Stands meld alone (local old (view_at name before)) (record {
      asked = asked;
      phase = Spawning append context reach;
      prepared = prepared;
    }) (local own (view_at name now))) (comm : ℕ) (there : comm ≡ comm_of asked) where
  pub item_is : append.item ≡ OfComm comm s.at.1.round
  item_is = s.at.1.item ∙ ap (λ n. OfComm n s.at.1.round) (sym there)

  -- the step may be made
  pub may_step : MayGoSpawning meld name.limits now.seen comm s.at.1.round append
  may_step =
      let i = s.at.1 in
      subst (λ n. MayGoSpawning meld name.limits now.seen n i.round append) (sym there) (record {
        item = i.item;
        may = may_make meld name.limits alone (comm_of asked) i.round i.mask i.x i.count old before.seen own now.seen i.decided;
        in_rounds = in_rounds meld name.limits alone (comm_of asked) i.round i.mask i.x i.count old before.seen own now.seen i.decided;
        passed = subst (λ (item : Item). Passed now.seen item append.index) i.item i.passed;
        more = subst (λ (item : Item). append.index < room item name.limits) i.item i.more;
      })

  -- and the rank may hold what is made
  pub may_take : MayHold own comm context (length prepared.members)
  may_take =
      let i = s.at.1 in
      subst (λ n. MayHold own n context (length prepared.members)) (sym there)
      (may_hold meld name.limits alone (comm_of asked) i.round i.mask i.x i.count old before.seen own now.seen i.decided context reach prepared.members i.lowest i.left
      of.may_open.in_range.ranks)

  pub rank_is : append.by ≡ Rank own.number
  rank_is = let i = s.at.1 in i.mine ∙ ap Rank (sym (number_is meld name.limits alone (comm_of asked) i.round i.mask i.x i.count old before.seen own now.seen
      i.decided))

  module _ (next : Append) (new : Record) (after : Sight P) where
    -- these are steps of the rank's own
    pub spawn_walks : (result : Spawned) → SpawnIs meld quiet (target comm s.at.1.round context prepared.members) (seeking append (local own (view_at name now))) result (seeking next (local new (view_at name after)))
        → Walks meld quiet own.number (view_at name now) (view_at name after)
    spawn_walks spawned.Unknown is = record { of = is.0.of; own = []; did = is.0.did; onward = is.0.onward; cached = is.0.cached }
    spawn_walks (spawned.Made j size) is =
        record {
          of = is.0.of;
          own = is.0.own;
          did = subst (λ by. Did quiet (entries_by by is.0.own) now.seen after.seen) rank_is is.0.did;
          onward = is.0.onward;
          cached = is.0.cached;
        }
    spawn_walks spawned.Full is = record { of = is.0.of; own = []; did = is.0.did; onward = is.0.onward; cached = is.0.cached }

    -- no block is cached
    pub spawn_caches : (result : Spawned) → SpawnIs meld quiet (target comm s.at.1.round context prepared.members) (seeking append (local own (view_at name now))) result (seeking next (local new (view_at name after)))
        → after.caches ≡ now.caches
    spawn_caches spawned.Unknown is = is.0.caches
    spawn_caches (spawned.Made j size) is = is.0.caches
    spawn_caches spawned.Full is = is.0.caches

    -- and add nothing, or the communicator
    pub spawn_adds : (reply : Option (Reply P)) (result : Spawned) → SpawnIs meld quiet (target comm s.at.1.round context prepared.members) (seeking append (local own (view_at name now))) result (seeking next (local new (view_at name after))) → Adds quiet [] own asked reply now.seen after.seen
    spawn_adds reply spawned.Unknown is = adds_none quiet [] own asked reply now.seen after.seen is.0.did
    spawn_adds reply (spawned.Made j size) is =
        record { events = is.0.own; did = subst (λ by. Did quiet (entries_by by is.0.own) now.seen after.seen) rank_is is.0.did; few = by_few is.0.few }
      where
        by_few : (is.0.own ≡ []) ⊎ ((i : ℕ) × (is.0.own ≡ Spawn i comm s.at.1.round ∷ []))
            → (is.0.own ≡ []) ⊎ ((event : Event P) × (is.0.own ≡ event ∷ []) × Makes [] own asked reply event)
        by_few (inl none) = inl none
        by_few (inr (i, one)) =
            let at = s.at.1 in
            let fits = fits_now meld name.limits alone (comm_of asked) at.round at.mask at.x at.count old before.seen own now.seen at.decided of.legal in
            let held = held_is meld name.limits alone (comm_of asked) at.round at.mask at.x at.count old before.seen own now.seen at.decided in
            let named = comm_is meld name.limits now.seen own (comm_of asked) at.x fits held in
            inr (
              Spawn i comm at.round,
              one,
              record {
                x = at.x;
                held = held;
                adds = subst (λ (a : Call P). CallAdds [] own.number at.x a (Spawn i comm at.round)) (sym s.at.0)
                    (subst (λ request. PollAdds {P = P} [] at.x request (Spawn i comm at.round)) (sym at.decided.said.marked.open_is)
                    (inr (i, ap (λ n. Spawn i n at.round) (there ∙ sym named))));
                wins = λ no_poll. absurd (cc (no_poll, ap (λ (a : Call P). (traits_of a).polls) s.at.0));
              },
            )
    spawn_adds reply spawned.Full is = adds_none quiet [] own asked reply now.seen after.seen is.0.did

    -- it isn't found yet
    pub spawn_goes_on : (others : Prepared) → others ≡ prepared
        → ((k : ℕ) → append.item ≡ OfComm comm k → SpawnIs meld quiet (target comm k context prepared.members) (seeking append (local own (view_at name now))) spawned.Unknown (seeking next (local new (view_at name after))))
        → Stands meld alone (local old (view_at name before)) (record { asked = asked; phase = Spawning next context reach; prepared = others }) (local new (view_at name after))
    spawn_goes_on others kept spawns =
        let i = s.at.1 in
        let is = spawns i.round item_is in
        let sought = is.0 in
        let later = sought.of in
        let did = did_loosely alone quiet only [] now.seen after.seen sought.did in
        let here : next.item ≡ OfComm comm i.round = sought.item ∙ item_is in
        let earlier = s.onward in
        let onward = sought.onward in
        subst (λ others. Stands meld alone (local old (view_at name before)) (record { asked = asked; phase = Spawning next context reach; prepared = others }) (local new (view_at name after))) (sym kept)
        (subst (λ (w : Record). Stands meld alone (local old (view_at name before)) (record {
          asked = asked;
          phase = Spawning next context reach;
          prepared = prepared;
        }) (local w (view_at name after))) (sym is.1) (record {
          fits = s.fits;
          mine = s.mine;
          onward = omega (arith, earlier, onward);
          at = (
            s.at.0,
            spawning_then meld name.limits alone old before.seen own now.seen after.seen did later.legal (comm_of asked) append context reach prepared.members i next
                sought.item sought.mine (subst (λ (item : Item). Passed after.seen item next.index) (sym here) sought.passed)
                (subst (λ (item : Item). next.index < room item name.limits) (sym here) sought.more),
            s.at.2,
          );
        }))

    -- it is made, and held
    pub spawn_makes : (j size : ℕ)
        → ((k : ℕ) → append.item ≡ OfComm comm k → SpawnIs meld quiet (target comm k context prepared.members) (seeking append (local own (view_at name now))) (spawned.Made j size) (seeking next (local new (view_at name after))))
        → Answered meld alone asked (local old (view_at name before)) (Shrunk j context size) (local new (view_at name after))
    spawn_makes j size spawns =
        let i = s.at.1 in
        let is = spawns i.round item_is in
        let made = is.0 in
        let mine : IsMadeBy meld alone (Rank old.number) (round_on (comm_of asked) i.round) (view_at name now) j (view_at name after) =
        subst (λ n. IsMadeBy meld alone (Rank old.number) (round_on n i.round) (view_at name now) j (view_at name after)) there (record {
          of = made.of;
          own = made.own;
          makes = made.makes;
          few = made.few;
          settles_none = made.settles_none;
          did = subst (λ by. Did alone (entries_by by made.own) now.seen after.seen) i.mine
              (did_loosely alone quiet only (entries_by append.by made.own) now.seen after.seen made.did);
          some = made.some;
          made = made.made;
          onward = made.onward;
          cached = made.cached;
          caches = made.caches;
        }) in
        ends_made meld alone name asked i.round i.mask i.x i.count reach old before own now of s.onward s.fits s.at.0 i.decided i.reads j context size prepared.members new
        after mine
        (subst (λ n. Holds n context prepared.members own j size new) there is.1) i.lowest i.left i.stays

    -- there is no room for it
    pub spawn_full : (ended : Record)
        → ((k : ℕ) → append.item ≡ OfComm comm k → SpawnIs meld quiet (target comm k context prepared.members) (seeking append (local own (view_at name now))) spawned.Full (seeking next (local new (view_at name after))))
        → ended ≡ closed new comm → Answered meld alone asked (local old (view_at name before)) (Refused NoRoom) (local ended (view_at name after))
    spawn_full ended spawns closes =
        let i = s.at.1 in
        let is = spawns i.round item_is in
        let full = subst (λ n. IsFullBy meld quiet (round_on n i.round) (view_at name now) (view_at name after)) there is.0 in
        ends_full meld alone name asked i.round i.mask i.x i.count reach old before own now of s.onward s.fits s.at.0 i.decided i.reads quiet only ended after full
        i.stays (closes ∙ ap₂ closed is.1 there)

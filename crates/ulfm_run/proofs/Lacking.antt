-- Want of memory in a job: what it leaves, and of which calls it comes.
use Rattle.std.proofs.Common.{◌≡◌, ◌<◌, ℕ, Bool, List, get_or, set, length, Some, refl, ap, sym, ◌∙◌, subst, IsTrue}
use Rattle.std.proofs.Math.Seq.{map-set_same}
use Rattle.std.proofs.lemmas.Simd.{map-map}
use Rattle.std.specs.{Prelude.{Vec}, Vec.{with_items}}
use Rattle.std.proofs.lemmas.List.{with_items_is}
use Rattle.ulfm_model.specs.declared.{call.Call.{Call}}
use Rattle.ulfm_model.specs.declared.call.Call.TheVariants as call
use Rattle.ulfm_model.specs.{Answers.{polled_by, rank_of}, Records.{Record, is_shrink}, Runs.{State}}
use Rattle.ulfm_words.specs.Steps.{Over, Sight, view_at}
use Rattle.ulfm_comm.specs.Counts.{Ranked, records_of}
use Rattle.ulfm_comm.proofs.InOrder.{rank_found}
use Rattle.ulfm_run.specs.Jobs.{IsJob, IsOther, KeepsRecords, MayLack, PollsShrink, queried, state_seen, unseen}
use Rattle.ulfm_run.proofs.Jobs.{ranked_below, ranked_own}

-- a rank of which only what was seen is new
pub keeps_set : (ranks : List Ranked) (i : ℕ) (d new : Ranked) → new.own ≡ record (get_or ranks i d).own { seen = new.own.seen }
    → KeepsRecords (records_of ranks) (records_of (set ranks i new))
keeps_set ranks i d new is =
    let own : Ranked → Record = λ r. r.own in
    map-map unseen own (set ranks i new) ∙ (map-set_same (λ (r : Ranked). unseen r.own) ranks i new d (ap unseen is) ∙ sym (map-map unseen own ranks))

-- nothing has changed
pub keeps_same : (ranks : List Ranked) (i : ℕ) (d : Ranked) → KeepsRecords (records_of ranks) (records_of (set ranks i (get_or ranks i d)))
keeps_same ranks i d = keeps_set ranks i d (get_or ranks i d) refl

-- the elements that the call was given are the vector's, and those that it left fill the vector
pub applied_keeps : {P Z : Type 0} (name : Over P) (before : Sight P) (old : State P) (v : Vec Ranked Z) (given new : List Ranked) → given ≡ v.items
    → length new ≡ v.len → state_seen (view_at name before) (records_of v.items) ≡ old
    → KeepsRecords (records_of given) (records_of new) → KeepsRecords old.records (records_of (with_items v new).items)
applied_keeps name before old v given new same fills was keeps =
    subst (λ (s : State _). KeepsRecords s.records (records_of (with_items v new).items)) was
    (subst (λ rs. KeepsRecords (records_of v.items) (records_of rs)) (sym (with_items_is v new fills))
    (subst (λ rs. KeepsRecords (records_of rs) (records_of new)) same keeps))

pub applied_polls : {P Z : Type 0} (name : Over P) (before : Sight P) (old : State P) (v : Vec Ranked Z) (given : List Ranked) → given ≡ v.items
    → state_seen (view_at name before) (records_of v.items) ≡ old → (rank : ℕ) (asked : Call P)
    → PollsShrink (records_of given) rank asked → PollsShrink old.records rank asked
applied_polls name before old v given same was rank asked polls =
    subst (λ (s : State _). PollsShrink s.records rank asked) was (subst (λ rs. PollsShrink (records_of rs) rank asked) same polls)

pub applied_lacks : {P Z : Type 0} (some : Bool) (name : Over P) (before : Sight P) (old : State P) (v : Vec Ranked Z) (given : List Ranked) → given ≡ v.items
    → state_seen (view_at name before) (records_of v.items) ≡ old → (rank c capacity : ℕ) (group : List ℕ)
    → capacity < length (queried some (records_of given) rank c group) → capacity < length (queried some old.records rank c group)
applied_lacks some name before old v given same was rank c capacity group less =
    subst (λ (s : State _). capacity < length (queried some s.records rank c group)) was
    (subst (λ rs. capacity < length (queried some (records_of rs) rank c group)) same less)

-- the record of the rank that polls a shrink is found by its number
pub polls_shrink : {P : Type 0} (meld : P → P → P) (alone : Bool) (name : Over P) (before : Sight P) (ranks : List Ranked)
    (job : IsJob meld alone (view_at name before) (records_of ranks)) (asked : Call P) (i : ℕ) (d : Ranked) → i ≡ rank_of asked → i < length ranks
    → IsTrue (is_shrink (polled_by (get_or ranks i d).own asked)) → PollsShrink (records_of ranks) (rank_of asked) asked
polls_shrink meld alone name before ranks job asked i d is below shrinks =
    let found = rank_found name.limits.ranks (records_of ranks) job.sound.numbers i d.own (ranked_below meld alone name before ranks job i d below) in
    subst (λ r. PollsShrink (records_of ranks) r asked) is (
      (get_or ranks i d).own,
      found ∙ ap Some (ranked_own meld alone name before ranks job i d below),
      shrinks,
    )

-- only a poll lacks memory, if no query of the failed group does
pub lacks_poll : {P : Type 0} (capacity : ℕ) (old new : State P) (asked : Call P) → IsOther asked → PollsShrink old.records (rank_of asked) asked
    → MayLack capacity old asked new
lacks_poll capacity old new (call.Fail rank) other polls = absurd other
lacks_poll capacity old new (call.GetFailed rank c) other polls = absurd other
lacks_poll capacity old new (call.FailureGetAcked rank c) other polls = absurd other
lacks_poll capacity old new (call.Ack rank c count) other polls = absurd (cc (polls.2))
lacks_poll capacity old new (call.FailureAck rank c) other polls = absurd (cc (polls.2))
lacks_poll capacity old new (call.Agree rank c value) other polls = absurd (cc (polls.2))
lacks_poll capacity old new (call.Shrink rank c) other polls = absurd (cc (polls.2))
lacks_poll capacity old new (call.Barrier rank c) other polls = absurd (cc (polls.2))
lacks_poll capacity old new (call.Poll rank c) other polls = polls
lacks_poll capacity old new (call.Revoke rank c) other polls = absurd (cc (polls.2))
lacks_poll capacity old new (call.IsRevoked rank c) other polls = absurd (cc (polls.2))
lacks_poll capacity old new (call.Free rank c) other polls = absurd (cc (polls.2))

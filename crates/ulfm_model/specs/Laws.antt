-- The laws of the object, as statements: each is what a function of src/laws.rt ensures.
use Rattle.std.specs.Prelude.{◌≡◌, ◌≢◌, ◌↔◌, ℕ, ◌+◌, ◌<◌, ◌==◌, nat_eq, Bool, ◌&&◌, IsTrue, IsFalse}
use Rattle.std.specs.{Prelude.{List, [], ◌∷◌, ◌++◌, filter_map, map, take, slice_get, Some}, Int.{bit_at}, List.{IsDistinct}}
use mathlib.Core.List.{IsPrefix}
use Rattle.ulfm_laws.specs.{declared.summary.Summary.{Summary}, Bodies.{body_unit}, Combined.{combined}, Counts.{acked_unit}, Ranges.{payload_bits}}
use Rattle.ulfm_laws.specs.Summaries.{summary_unit, summary_meld}
use Rattle.ulfm_model.specs.declared.{call.Call.{Call}, contribution.Slot.{Slot}, event.Entry.{Entry}, limits.Limits.{Limits}}
use Rattle.ulfm_model.specs.declared.{place.Place.{Place}, reply.Reply.{Reply}}
use Rattle.ulfm_model.specs.Answers.{traits_of}
use Rattle.ulfm_model.specs.History.{Decision, Exists, History, IsLegal, MayFollow, body_of, decision, failed, failures, has, is_decided, members}
use Rattle.ulfm_model.specs.History.{round, same_place, says, spawns, without}
use Rattle.ulfm_model.specs.{Records.{Fits, Held, IsContext, Record, free_ids, held_at}, Runs.{IsCall, IsSound, IsStep, State, new_state}}
use Rattle.ulfm_model.specs.Words.{MayOpen, place_of, word_at, word_of}
use Rattle.ulfm_model.specs.Records.{moment}

-- a record that fits a history fits every longer legal one
abbrev pub RecordsStay : {P : Type 0} → (P → P → P) → Type 0
RecordsStay {P} meld =
    (limits : Limits) (h longer : History P) (own : Record) → IsPrefix h longer → IsLegal meld limits longer
    → Fits meld limits h own → Fits meld limits longer own

-- a decided round stays decided, and its decision is the same in every longer legal history
abbrev pub DecisionsStay : {P : Type 0} → (P → P → P) → Type 0
DecisionsStay {P} meld =
    (limits : Limits) (h longer : History P) (c k : ℕ) → IsPrefix h longer → IsLegal meld limits longer
    → Exists h c → IsTrue (is_decided limits.ranks h c k)
    → IsTrue (is_decided limits.ranks longer c k) × (decision meld limits.ranks longer c k ≡ decision meld limits.ranks h c k)

-- a communicator that exists stays, with its members and its context id
abbrev pub CommunicatorsStay : {P : Type 0} → (P → P → P) → Type 0
CommunicatorsStay {P} meld =
    (limits : Limits) (h longer : History P) (c : ℕ) → IsPrefix h longer → IsLegal meld limits longer → Exists h c
    → Exists longer c × (members limits.ranks longer c ≡ members limits.ranks h c)
    × ((context : ℕ) → IsContext meld limits.ranks h c context → IsContext meld limits.ranks longer c context)

-- a communicator has one context id, and it is one of those that there are
pub record HasOneContext {P : Type 0} (meld : P → P → P) (ranks : ℕ) (h : History P) (c : ℕ) : Type 0 where
  pub context : ℕ
  pub is : IsContext meld ranks h c context
  pub below : context < payload_bits
  pub only : (other : ℕ) → IsContext meld ranks h c other → other ≡ context

-- so has each that exists in a legal history
abbrev pub ContextsAreIds : {P : Type 0} → (P → P → P) → Type 0
ContextsAreIds {P} meld = (limits : Limits) (h : History P) (c : ℕ) → IsLegal meld limits h → Exists h c → HasOneContext meld limits.ranks h c

-- communicator j + 1 was made of a decided round: its members are its parent's, in their order, without the decision's failed group
abbrev pub SurvivorsAreSpawned : {P : Type 0} → (P → P → P) → Type 0
SurvivorsAreSpawned {P} meld =
    (limits : Limits) (h : History P) (j parent k : ℕ) → IsLegal meld limits h → slice_get (spawns h) j ≡ Some (parent, k)
    → IsTrue (is_decided limits.ranks h parent k)
    × (members limits.ranks h (j + 1) ≡ without (members limits.ranks h parent) (decision meld limits.ranks h parent k).failed)

-- what a mark or a contribution says, as a summary: a mark has no body, and acknowledges everyone
abbrev pub summary_of : {P : Type 0} → Slot P → Summary P
summary_of (Slot.Mark mark) = record { body = body_unit; known = mark.known; acked = acked_unit }
summary_of (Slot.Given given) = record { body = body_of given.offer; known = given.known; acked = given.acked }

-- what all of them say together
abbrev pub all_of : {P : Type 0} → (P → P → P) → List (Slot P) → Summary P
all_of meld settled = combined summary_unit (summary_meld meld) (map summary_of settled)

-- a decision is read off a summary: the body; the failed group's beginning up to the greatest known; an error where acked is
-- below it
pub record IsReadOff {P : Type 0} (failed : List ℕ) (all : Summary P) (made : Decision P) : Type 0 where
  pub body : made.body ≡ all.body
  pub failed_is : made.failed ≡ take all.known.count failed
  pub raised : IsTrue made.raised ↔ (all.acked.count < all.known.count)

-- a round's decision is read off all that is settled in it, combined
abbrev pub DecisionsAreCombined : {P : Type 0} → (P → P → P) → Type 0
DecisionsAreCombined {P} meld =
    (limits : Limits) (h : History P) (c k : ℕ) → IsLegal meld limits h
    → IsReadOff (failed limits.ranks h c) (all_of meld (round limits.ranks h c k)) (decision meld limits.ranks h c k)

-- no rank is declared twice, no place is settled twice, no rank arrives twice in a round, no communicator is revoked twice, and
-- no two communicators are made of one round
pub record HappensOnce {P : Type 0} (h : History P) : Type 0 where
  pub declared : IsDistinct nat_eq (failures h)
  pub settled : IsDistinct (λ x y. same_place x.0 y.0) (filter_map (λ e. (says e.event).settles) h)
  pub arrived : IsDistinct same_place (filter_map (λ e. (says e.event).arrives) h)
  pub revoked : IsDistinct nat_eq (filter_map (λ e. (says e.event).revokes) h)
  pub made : IsDistinct (λ x y. (x.0 == y.0) && (x.1 == y.1)) (spawns h)

-- so it is in every legal history
abbrev pub EventsHappenOnce : {P : Type 0} → (P → P → P) → Type 0
EventsHappenOnce {P} meld = (limits : Limits) (h : History P) → IsLegal meld limits h → HappensOnce h

-- the mask that a shrink offers has exactly the context ids that its rank doesn't hold
abbrev pub UnheldIdsAreOffered : {P : Type 0} → (P → P → P) → Type 0
UnheldIdsAreOffered {P} meld =
    (limits : Limits) (h : History P) (own : Record) → Fits meld limits h own → (id : ℕ) → id < payload_bits
    → (bit_at (free_ids own.held).bits id ≡ 1) ↔ IsFalse (has (map (λ x. x.context) own.held) id)

-- an event of a history that sets the word at a place
pub record SetsWord {P : Type 0} (h : History P) (place : Place) (e : Entry P) : Type 0 where
  pub before : History P
  pub rest : History P
  pub stands : before ++ e ∷ rest ≡ h
  pub place_is : place_of before e.event ≡ place

-- an allowed event finds its word 0 and sets it to the event's own, which isn't 0; each other word stays as it is
pub record SetsOneWord {P : Type 0} (pack : P → ℕ) (h : History P) (e : Entry P) : Type 0 where
  pub not_zero : 0 < word_of pack e.event
  pub was_zero : word_at pack h (place_of h e.event) ≡ 0
  pub is_set : word_at pack (h ++ e ∷ []) (place_of h e.event) ≡ word_of pack e.event
  pub others_stay : (place : Place) → place_of h e.event ≢ place → word_at pack (h ++ e ∷ []) place ≡ word_at pack h place

-- after a history a word is that of the event that sets it, and 0 exactly where no event does
pub record HasWords {P : Type 0} (pack : P → ℕ) (h : History P) : Type 0 where
  pub set : (place : Place) (e : Entry P) → SetsWord h place e → word_at pack h place ≡ word_of pack e.event
  pub unset : (place : Place) → (word_at pack h place ≡ 0) ↔ ((e : Entry P) → ¬ SetsWord h place e)

-- both hold of every legal history, however contributions are packed
abbrev pub WordsTellEvents : {P : Type 0} → (P → P → P) → Type 0
WordsTellEvents {P} meld =
    (pack : P → ℕ) (limits : Limits) (h : History P) → IsLegal meld limits h
    → HasWords pack h × ((e : Entry P) → MayFollow meld limits h e.event → SetsOneWord pack h e)

-- calls lead from a new object to sound states alone
abbrev pub StatesStaySound : {P : Type 0} → (P → P → P) → Type 0
StatesStaySound {P} meld =
    ((limits : Limits) → IsSound meld (new_state limits))
    × ((state new : State P) (asked : Call P) (reply : Reply P) → IsSound meld state
    → IsStep meld state (traits_of asked).by asked reply new → IsSound meld new)

-- in a sound state each call has one reply and one next state
pub record HasOneStep {P : Type 0} (meld : P → P → P) (state : State P) (asked : Call P) : Type 0 where
  pub reply : Reply P
  pub next : State P
  pub is_step : IsStep meld state (traits_of asked).by asked reply next
  pub only : (other : Reply P) (new : State P) → IsStep meld state (traits_of asked).by asked other new → (other ≡ reply) × (new ≡ next)

-- so it is where a world of the state's limits may be opened
abbrev pub CallsHaveOneStep : {P : Type 0} → (P → P → P) → Type 0
CallsHaveOneStep {P} meld = (state : State P) → IsSound meld state → MayOpen state.limits → (asked : Call P) → HasOneStep meld state asked

-- a record that fits what was seen before a call fits what is seen after it, whatever others do in between
abbrev pub CallsKeepRecords : {P : Type 0} → (P → P → P) → Type 0
CallsKeepRecords {P} meld =
    (limits : Limits) (alone : Bool) (before after : History P) (own new : Record) (asked : Call P) (reply : Reply P)
    → Fits meld limits before own → IsCall meld limits alone (moment own before) asked reply (moment new after) → Fits meld limits after new

-- whoever holds a communicator is a member of it, and all who hold it have one group and one context id
abbrev pub HoldersAgree : {P : Type 0} → (P → P → P) → Type 0
HoldersAgree {P} meld =
    (limits : Limits) (h : History P) (one other : Record) (c : ℕ) (x y : Held) → Fits meld limits h one → Fits meld limits h other
    → held_at one c ≡ Some x → held_at other c ≡ Some y
    → IsTrue (has x.group one.number) × (x.group ≡ y.group) × (x.context ≡ y.context)

-- a rank is left out of a round: it is in the decision's failed group, and a member of nothing that is made of the round
pub record IsLeftOut {P : Type 0} (meld : P → P → P) (ranks : ℕ) (h : History P) (c k r : ℕ) : Type 0 where
  pub decided_failed : IsTrue (has (decision meld ranks h c k).failed r)
  pub no_member : (j : ℕ) → slice_get (spawns h) j ≡ Some (c, k) → IsFalse (has (members ranks h (j + 1)) r)

-- the round of a shrink that starts leaves out all who were failed on its communicator in what its caller had seen before, in every longer
-- legal history, whether the round is decided there already or not
abbrev pub ShrinksExcludeFailures : {P : Type 0} → (P → P → P) → Type 0
ShrinksExcludeFailures {P} meld =
    (limits : Limits) (alone : Bool) (before after longer : History P) (own new : Record) (rank c : ℕ) (x : Held)
    → Fits meld limits before own → IsCall meld limits alone (moment own before) (Call.Shrink rank c) Reply.Started (moment new after) → held_at own c ≡ Some x
    → IsPrefix after longer → IsLegal meld limits longer
    → (r : ℕ) → IsTrue (has (failed limits.ranks before c) r) → IsLeftOut meld limits.ranks longer c x.next_agreement r

-- Short names for terms of the definitions, for clauses and for the statements of lemmas.
use Rattle.std.specs.Prelude.{ℕ, zero, suc, ◌==◌, Bool, if◌then◌else◌, List, Option, None, find, map, slice_get}
use Rattle.std.specs.Option.{option_and_then, option_map_or}
use Rattle.ulfm_model.specs.declared.{call.Call.{Call}, call.Request.{Request}, refusal.Refusal.{Refusal}}
pub use Rattle.ulfm_model.specs.{Answers.{comm_of}, History.{group_among, lacks_one, put_at}, Records.{IsOwn, new_held}, Runs.{settled_by, rests_on}}
use Rattle.ulfm_model.specs.{Answers.{traits_of}, History.{History, spawns}, Records.{Held, Record}, Runs.{State}}

-- the word of what stands, and 0 where nothing stands
abbrev pub word_or_zero : {X : Type 0} → (X → ℕ) → Option X → ℕ
word_or_zero word x = option_map_or word x 0

-- the parent and the round of communicator j, if it was made
abbrev pub made_at : {P : Type 0} → History P → ℕ → Option (ℕ × ℕ)
made_at h zero = None
made_at h (suc j) = slice_get (spawns h) j

-- the tests of a call on a communicator that the rank holds
abbrev pub tests_of : {P : Type 0} → Record → Held → Call P → List (Bool × Refusal)
tests_of old x asked = (traits_of asked).tests old x

-- the request that is open on a communicator, if the rank holds it
abbrev pub request_of : Option Held → Option Request
request_of held = option_and_then (λ x. x.request) held

-- the context ids of some communicators
abbrev pub contexts_of : List Held → List ℕ
contexts_of held = map (λ x. x.context) held

-- the record of rank r
abbrev pub record_at : {P : Type 0} → State P → ℕ → Option Record
record_at state r = find (λ x. x.number == r) state.records

-- the state with a new record of rank r, after this history
abbrev pub after_call : {P : Type 0} → State P → ℕ → History P → Record → State P
after_call old r after new = record old { history = after; records = map (λ x. if x.number == r then new else x) old.records }

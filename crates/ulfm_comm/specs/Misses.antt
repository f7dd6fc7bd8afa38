-- Who is missing in the round of a rank's open request, as loads of the members' places tell.
use Rattle.std.specs.Prelude.{◌≡◌, ◌⊎◌, ℕ, ◌+◌, Bool, true, false, List, [], ◌∷◌, length, is_some, Option, Some, None, Result, Ok, Err, ⊤}
use mathlib.Core.List.{IsPrefix}
use Rattle.ulfm_model.specs.declared.{call.Request.{Request}, call.Request.TheVariants.{Agree, Shrink, Barrier}}
use Rattle.ulfm_model.specs.declared.{refusal.Refusal.{Refusal}, refusal.Refusal.TheVariants.{Idle, NoSuchComm, OutOfMemory}}
use Rattle.ulfm_model.specs.{History.{History, has_arrived, slot}, Records.{Held, Record, held_at}}
use Rattle.ulfm_words.specs.Steps.{Goes, View}

-- the round that a request is in
abbrev pub round_in : Request → ℕ
round_in (Agree k) = k
round_in (Shrink k) = k
round_in (Barrier k) = k

-- whether rank r has come into the round of a request on communicator c: of an agree or a shrink it is settled (it has contributed, or was
-- marked as left out), of a barrier it has arrived
abbrev pub has_come : {P : Type 0} → History P → ℕ → Request → ℕ → Bool
has_come h c (Agree k) r = is_some (slot h c k r)
has_come h c (Shrink k) r = is_some (slot h c k r)
has_come h c (Barrier k) r = has_arrived h c k r

-- rank r hadn't come into the round at some moment of a call, from its start to its end
pub record WasMissing {P : Type 0} (c : ℕ) (request : Request) (start end : History P) (r : ℕ) : Type 0 where
  pub moment : History P
  pub begins : IsPrefix start moment
  pub ends : IsPrefix moment end
  pub empty : has_come moment c request r ≡ false

-- A group falls into those that are listed, in the group's order, of each of whom `Listed` holds, and the others, of each of whom `Other` holds.
abbrev pub Divides : (ℕ → Type 0) → (ℕ → Type 0) → List ℕ → List ℕ → Type 0
Divides Listed Other [] listed = listed ≡ []
Divides Listed Other (r ∷ group) listed =
    (Other r × Divides Listed Other group listed) ⊎ ((rest : List ℕ) × (listed ≡ r ∷ rest) × Listed r × Divides Listed Other group rest)

-- Of a group, in its order, these are listed as missing in the round of a request on communicator c: each of them was missing at some moment from
-- the start to the end, and each other has come by the end.
abbrev pub AreMissing : {P : Type 0} → ℕ → Request → List ℕ → History P → History P → List ℕ → Type 0
AreMissing c request group start end missing =
    Divides (WasMissing c request start end) (λ r. has_come end c request r ≡ true) group missing

-- A rank of this record tells who is missing in the round of its open request on communicator c: it makes one load for each member, and no event.
pub record TellsMissing {P : Type 0} (meld : P → P → P) (alone : Bool) (own : Record) (c : ℕ) (old new : View P) (missing : List ℕ) : Type 0 where
  pub x : Held
  pub held : held_at own c ≡ Some x
  pub request : Request
  pub open_is : x.request ≡ Some request
  pub goes : Goes meld alone false (length x.group) old new
  pub steps : new.pass.steps ≡ old.pass.steps + length x.group
  pub are : AreMissing c request x.group old.pass.seen new.pass.seen missing

-- how that question may end where a request is open, and where none is
abbrev pub EndsOpen : Option Request → Result (Unit {0}) Refusal → Type 0
EndsOpen None result = result ≡ Err Idle
EndsOpen (Some request) (Ok _) = ⊤
EndsOpen (Some request) (Err refusal) = refusal ≡ OutOfMemory

-- .. by what the rank holds of the communicator: where it holds nothing it is refused as no such communicator, and else by its request
abbrev pub EndsHeld : Option Held → Result (Unit {0}) Refusal → Type 0
EndsHeld None result = result ≡ Err NoSuchComm
EndsHeld (Some x) result = EndsOpen x.request result

-- how many members what a rank holds of a communicator has
abbrev pub size_held : Option Held → ℕ
size_held None = 0
size_held (Some x) = length x.group

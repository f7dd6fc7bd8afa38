-- Tables of when things happened: by the numbers of events, each counted from 0.
use Rattle.std.specs.Prelude.{◌≡◌, ℕ, ◌+◌, ◌==◌, nat_lt, nat_eq, Bool, false, if◌then◌else◌}
use Rattle.std.specs.Prelude.{List, [], ◌∷◌, ◌++◌, length, filter, Option, Some, None, is_some, OnOk, Result}
use Rattle.std.specs.{HashMap.{HashMap, get}, List.{cons_option}, Option.{option_and_then, option_map}}
use Rattle.ulfm_model.specs.declared.{event.Entry.{Entry}}
use Rattle.ulfm_numbers.specs.{declared.cells.Cell.{Cell}, declared.grids.Grid.{Grid}, Cells.{number_at, told_at}}
use Rattle.ulfm_model.specs.{History.{History, failures, same_place, says, spawns}, Terms.{put_at}}

-- an event's number and what it gives, or what later events give
abbrev pub first_or : {Y : Type 0} → Option Y → ℕ → Option (ℕ × Y) → Option (ℕ × Y)
first_or (Some y) n later = Some (n, y)
first_or None n later = later

-- the number of the first entry that gives something, and what it gives; numbers count from n
abbrev pub first_from : {X Y : Type 0} → (X → Option Y) → ℕ → List X → Option (ℕ × Y)
first_from f n [] = None
first_from f n (x ∷ xs) = first_or (f x) n (first_from f (n + 1) xs)

-- what was given by then, before so many events
abbrev pub by_then : {Y : Type 0} → ℕ → Option (ℕ × Y) → Option Y
by_then point (Some at) = if nat_lt at.0 point then Some at.1 else None
by_then point None = None

-- the numbers of the entries that give something, counted from n
abbrev pub numbers_from : {X Y : Type 0} → (X → Option Y) → ℕ → List X → List ℕ
numbers_from f n [] = []
numbers_from f n (x ∷ xs) = cons_option (option_map (λ y. n) (f x)) (numbers_from f (n + 1) xs)

-- how many of these numbers there were by then
abbrev pub count_by : ℕ → List ℕ → ℕ
count_by point numbers = length (filter (λ n. nat_lt n point) numbers)

-- each of these numbers is below a point
abbrev pub AreBefore : ℕ → List ℕ → Type 0
AreBefore point numbers = count_by point numbers ≡ length numbers

-- whether something had happened by then, by its number
abbrev pub before_then : ℕ → Option ℕ → Bool
before_then point (Some n) = nat_lt n point
before_then point None = false

-- what passes a test, if it is there and does
abbrev pub passing : {Y : Type 0} → (Y → Bool) → Option Y → Option Y
passing test o = option_and_then (λ y. if test y then Some y else None) o

-- the number alone
abbrev pub number_of : {Y : Type 0} → Option (ℕ × Y) → Option ℕ
number_of None = None
number_of (Some at) = Some at.0

-- the numbers by key, with one more at a key that is given and had none
abbrev pub first_noted : {K : Type 0} → (K → K → Bool) → (K → Option ℕ) → ℕ → Option K → K → Option ℕ
first_noted eq old n None q = old q
first_noted eq old n (Some k) q = if is_some (old k) then old q else (if eq k q then Some n else old q)

-- where a call that notes an event of this number goes well, what told a history tells the one that has this event too
abbrev pub Notes : {P T X E : Type 0} → (T → History P → Type 0) → T → T → ℕ → Entry P → Result X E → Type 0
Notes {P} TellsIt old new n entry result = (h : History P) → TellsIt old h → n ≡ length h → OnOk result (TellsIt new (h ++ entry ∷ []))

-- what two lists tell together, said of them as a pair
abbrev pub OfLists : {A B C : Type 0} → (A → B → C → Type 0) → A × B → C → Type 0
OfLists TellsIt lists = TellsIt lists.0 lists.1

-- the grid has, for each place, when it was settled first, and what settled it
abbrev pub TellsSlots : {P A : Type 0} → Grid (Cell P) A → History P → Type 0
TellsSlots slots h = (place : ℕ × ℕ × ℕ) → told_at slots place ≡ first_from (λ e. put_at place (says e.event).settles) 0 h

-- the grid has, for each place, when its rank arrived
abbrev pub TellsArrivals : {P A : Type 0} → Grid ℕ A → History P → Type 0
TellsArrivals arrivals h =
    (place : ℕ × ℕ × ℕ)
    → number_at arrivals place ≡ number_of (first_from (λ e. passing (λ x. same_place x place) (says e.event).arrives) 0 h)

-- the map has, for each communicator, when it was revoked
abbrev pub TellsRevocations : {P S : Type 0} → HashMap ℕ ℕ S → History P → Type 0
TellsRevocations revocations h = (c : ℕ) → get nat_eq revocations c ≡ number_of (first_from (λ e. passing (λ x. x == c) (says e.event).revokes) 0 h)

-- the map has, for each rank, when it was declared
abbrev pub TellsDeclared : {P S : Type 0} → HashMap ℕ ℕ S → History P → Type 0
TellsDeclared declared h = (r : ℕ) → get nat_eq declared r ≡ number_of (first_from (λ e. passing (λ x. x == r) (says e.event).declares) 0 h)

-- the lists have the declared failures, and the numbers of their events
abbrev pub TellsFailures : {P : Type 0} → List ℕ → List ℕ → History P → Type 0
TellsFailures ranks numbers h = (ranks ≡ failures h) × (numbers ≡ numbers_from (λ e. (says e.event).declares) 0 h)

-- the lists have the parents and rounds that communicators were made of, and the numbers of their events
abbrev pub TellsSpawns : {P : Type 0} → List (ℕ × ℕ) → List ℕ → History P → Type 0
TellsSpawns made numbers h = (made ≡ spawns h) × (numbers ≡ numbers_from (λ e. (says e.event).makes) 0 h)

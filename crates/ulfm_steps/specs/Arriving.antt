-- In which order the members of a barrier round are asked about, how far that has come, and what it ends with.
use Rattle.std.specs.Prelude.{◌≡◌, ℕ, ◌+◌, ◌-◌, ◌<◌, ◌≤◌, Bool, true, false, not, List, ◌++◌, Option, filter, length, take, slice_index, IsTrue}
use Rattle.std.specs.List.{list_all}
use Rattle.ulfm_model.specs.{History.{History, has, has_arrived, without}, declared.place.Place.TheVariants.{Arrival as ArrivalAt}}
use Rattle.ulfm_words.specs.Steps.{View}
use Rattle.ulfm_steps.specs.{Among.{Among}, Turns.{TakesFirst, left_without}}
use Rattle.ulfm_steps.specs.declared.arrivals.{Arrivals.{Arrivals}, Missing.{Missing}, Missing.TheVariants.{Nobody, Others, Declared}}

-- first the members among the declared ranks, in the order of these, and then the others, in the group's order
abbrev pub in_order : List ℕ → List ℕ → List ℕ
in_order group declared = filter (has group) declared ++ without group declared

-- those of them who stand before a place: one among the declared ranks, or, once the others are asked about, one in the group
abbrev pub asked_before : List ℕ → List ℕ → Bool → ℕ → List ℕ
asked_before group declared false at = filter (has group) (take at declared)
asked_before group declared true at = filter (has group) declared ++ without (take at group) declared

-- all of them, of the declared ranks, and with the others
abbrev pub asked_members : List ℕ → List ℕ → Bool → List ℕ
asked_members group declared false = filter (has group) declared
asked_members group declared true = in_order group declared

-- the ranks that are gone through
abbrev pub ranks_of : List ℕ → List ℕ → Bool → List ℕ
ranks_of group declared false = declared
ranks_of group declared true = group

-- whether a rank is asked about, where it is one of the declared ranks or one of the group
abbrev pub asks : List ℕ → List ℕ → Bool → ℕ → Bool
asks group declared false rank = has group rank
asks group declared true rank = not (has declared rank)

-- the rank that stands there
abbrev pub rank_at : List ℕ → List ℕ → Bool → ℕ → ℕ
rank_at group declared false at = slice_index declared at
rank_at group declared true at = slice_index group at

-- there is such a place, or it is the one past the last rank
abbrev pub IsPosition : List ℕ → List ℕ → Bool → ℕ → Type 0
IsPosition group declared false at = at ≤ length declared
IsPosition group declared true at = at ≤ length group

-- a rank stands there that is asked about: a declared member, or a member who isn't declared
abbrev pub IsAsked : List ℕ → List ℕ → Bool → ℕ → Type 0
IsAsked group declared false at = (at < length declared) × IsTrue (has group (slice_index declared at))
IsAsked group declared true at = (at < length group) × IsTrue (not (has declared (slice_index group at)))

-- the next member of the group who isn't among the declared ranks, from one place on; the place past the last member where there is none
pub record IsNextOther (group declared : List ℕ) (start at : ℕ) : Type 0 where
  pub onward : start ≤ at
  pub within : at ≤ length group
  pub none_between : without (take at group) declared ≡ without (take start group) declared
  pub other : at < length group → IsTrue (not (has declared (slice_index group at)))

-- the machine stands at a member who is asked about next, and all before it have arrived
pub record AtArrival {P : Type 0} (group declared : List ℕ) (a : Arrivals) (h : History P) : Type 0 where
  pub asked : IsAsked group declared a.others a.next
  pub arrived : list_all (has_arrived h a.comm a.round) (asked_before group declared a.others a.next) ≡ true

-- nobody of the group is missing; or somebody is, and of these ranks nobody; or one of these
abbrev pub MissingAre : {P : Type 0} → History P → ℕ → ℕ → List ℕ → List ℕ → Missing → Type 0
MissingAre h c k group declared Nobody = list_all (has_arrived h c k) group ≡ true
MissingAre h c k group declared Others = (list_all (has_arrived h c k) group ≡ false) × (list_all (has_arrived h c k) (filter (has group) declared) ≡ true)
MissingAre h c k group declared Declared = (list_all (has_arrived h c k) group ≡ false) × (list_all (has_arrived h c k) (filter (has group) declared) ≡ false)

-- how many members a reading of arrivals may still load
abbrev pub arrivals_left : List ℕ → List ℕ → Arrivals → ℕ
arrivals_left group declared a = length (in_order group declared) - length (asked_before group declared a.others a.next)

-- the loads of a reading of arrivals, the first of them of the next member's place
abbrev pub ArrivalsTake : {P : Type 0} → Bool → Among → Arrivals → Option Missing → Arrivals → View P → View P → Type 0
ArrivalsTake whole ranks old found new before after =
    TakesFirst whole (ArrivalAt old.comm old.round (rank_at ranks.group ranks.declared old.others old.next)) true
    (arrivals_left ranks.group ranks.declared old) (left_without found (arrivals_left ranks.group ranks.declared new)) before.pass after.pass

-- one member more stands before the next one than did before
abbrev pub IsFurther : List ℕ → List ℕ → Arrivals → Arrivals → Type 0
IsFurther group declared old new = length (asked_before group declared new.others new.next) ≡ length (asked_before group declared old.others old.next) + 1

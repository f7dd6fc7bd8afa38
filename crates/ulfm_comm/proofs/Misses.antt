-- Who is missing in an open round, as it is told place by place.
use Rattle.std.proofs.Common.{◌≡◌, ◌<◌, inl, inr, ℕ, true, false, List, [], ◌∷◌, ◌++◌, Some, is_some, refl, ap, sym, subst, append-nil}
use mathlib.Core.List.{IsPrefix}
use Rattle.ulfm_model.specs.declared.{call.Request.{Request}, call.Request.TheVariants.{Agree, Shrink, Barrier}, limits.Limits.{Limits}}
use Rattle.ulfm_model.specs.{History.{History, IsLegal, slot}, Records.{Fits, Held, Record, held_at}}
use Rattle.ulfm_model.proofs.{Lists.{prefix_trans}, Marking.{some_stays}}
use Rattle.ulfm_words.proofs.Growing.{arrival_stays}
use Rattle.ulfm_steps.specs.Rounds.{IsRoundOf}
use Rattle.ulfm_comm.specs.Misses.{AreMissing, Divides, WasMissing, has_come, round_in}
use Rattle.ulfm_comm.proofs.{BarrierPolls.{awaited_round}, Holding.{exists_is, group_is}, Polls.{open_round}}

-- whoever is settled stays so
settled_stays : {P : Type 0} (h longer : History P) (c k r : ℕ) → IsPrefix h longer → is_some (slot h c k r) ≡ true → is_some (slot longer c k r) ≡ true
settled_stays h longer c k r begins is =
    subst (λ w. is_some (slot w c k r) ≡ true) begins.1 (some_stays h begins.0 c k r (slot h c k r) refl is)

-- whoever has come stays there
pub come_stays : {P : Type 0} (h longer : History P) (c : ℕ) (request : Request) (r : ℕ) → IsPrefix h longer → has_come h c request r ≡ true
    → has_come longer c request r ≡ true
come_stays h longer c (Agree k) r begins is = settled_stays h longer c k r begins is
come_stays h longer c (Shrink k) r begins is = settled_stays h longer c k r begins is
come_stays h longer c (Barrier k) r begins is = arrival_stays h longer c k r begins is

-- what holds of those who are listed and of the others may be weakened
divides_from : (Listed More Other Rest : ℕ → Type 0) → ((r : ℕ) → Listed r → More r) → ((r : ℕ) → Other r → Rest r) → (group listed : List ℕ)
    → Divides Listed Other group listed → Divides More Rest group listed
divides_from Listed More Other Rest one two [] listed none = none
divides_from Listed More Other Rest one two (r ∷ group) listed (inl d) = inl (two r d.0, divides_from Listed More Other Rest one two group listed d.1)
divides_from Listed More Other Rest one two (r ∷ group) listed (inr d) =
    inr (d.0, d.1, one r d.2, divides_from Listed More Other Rest one two group d.0 d.3)

-- one member more, who is listed
divides_listed : (Listed Other : ℕ → Type 0) (group listed : List ℕ) (r : ℕ) → Divides Listed Other group listed → Listed r
    → Divides Listed Other (group ++ r ∷ []) (listed ++ r ∷ [])
divides_listed Listed Other [] listed r none here =
    subst (λ w. Divides Listed Other (r ∷ []) (w ++ r ∷ [])) (sym none) (inr ([], refl, here, refl))
divides_listed Listed Other (x ∷ group) listed r (inl d) here = inl (d.0, divides_listed Listed Other group listed r d.1 here)
divides_listed Listed Other (x ∷ group) listed r (inr d) here =
    inr (d.0 ++ r ∷ [], ap (λ w. w ++ r ∷ []) d.1, d.2, divides_listed Listed Other group d.0 r d.3 here)

-- one member more, who isn't
divides_other : (Listed Other : ℕ → Type 0) (group listed : List ℕ) (r : ℕ) → Divides Listed Other group listed → Other r
    → Divides Listed Other (group ++ r ∷ []) listed
divides_other Listed Other [] listed r none here = inl (here, none)
divides_other Listed Other (x ∷ group) listed r (inl d) here = inl (d.0, divides_other Listed Other group listed r d.1 here)
divides_other Listed Other (x ∷ group) listed r (inr d) here = inr (d.0, d.1, d.2, divides_other Listed Other group d.0 r d.3 here)

module _ {P : Type 0} (c : ℕ) (request : Request) (group : List ℕ) (start now later : History P) (missing : List ℕ) (before : IsPrefix start now)
    (begins : IsPrefix now later)
    (are : AreMissing c request group start now missing) where
  abbrev Was : ℕ → Type 0
  Was = WasMissing c request start later

  abbrev Came : ℕ → Type 0
  Came = λ r. has_come later c request r ≡ true

  -- what was told so far holds when more has happened
  stays : Divides Was Came group missing
  stays =
      divides_from (WasMissing c request start now) Was (λ r. has_come now c request r ≡ true) Came
      (λ r was. record { moment = was.moment; begins = was.begins; ends = prefix_trans was.moment now later was.ends begins; empty = was.empty })
      (λ r is. come_stays now later c request r begins is) group missing are

  -- one member more, whose place is empty
  pub missing_more : (r : ℕ) → has_come later c request r ≡ false → AreMissing c request (group ++ r ∷ []) start later (missing ++ r ∷ [])
  missing_more r empty =
      divides_listed Was Came group missing r stays
      (record { moment = later; begins = prefix_trans start now later before begins; ends = ([], append-nil later); empty = empty })

  -- one member more, who has come
  pub missing_no_more : (r : ℕ) → has_come later c request r ≡ true → AreMissing c request (group ++ r ∷ []) start later missing
  missing_no_more r is = divides_other Was Came group missing r stays is

-- an open request has a round
open_in : {P : Type 0} (meld : P → P → P) (limits : Limits) (h : History P) (own : Record) (c : ℕ) (request : Request) (x : Held) → IsLegal meld limits h
    → Fits meld limits h own → held_at own c ≡ Some x → x.request ≡ Some request → round_in request < limits.rounds
open_in meld limits h own c (Agree k) x legal fits held open_is = open_round meld limits h own c k false x legal fits held open_is
open_in meld limits h own c (Shrink k) x legal fits held open_is = open_round meld limits h own c k true x legal fits held open_is
open_in meld limits h own c (Barrier k) x legal fits held open_is =
    (awaited_round meld limits h c k own legal (record { fits = fits; x = x; held = held; open_is = open_is })).in_rounds

-- so it is a round of the communicator, with its members
pub round_open : {P : Type 0} (meld : P → P → P) (limits : Limits) (h : History P) (own : Record) (c : ℕ) (request : Request) (x : Held) → IsLegal meld limits h
    → Fits meld limits h own → held_at own c ≡ Some x → x.request ≡ Some request → IsRoundOf limits h c (round_in request) x.group
round_open meld limits h own c request x legal fits held open_is =
    record {
      exists = exists_is meld limits h own c x fits held;
      group_is = group_is meld limits h own c x fits held;
      in_rounds = open_in meld limits h own c request x legal fits held open_is;
    }

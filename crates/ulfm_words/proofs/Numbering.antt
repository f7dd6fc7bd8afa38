-- Places may be numbered in two orders of their cells. In either, two places have two numbers, all below the size of the row.
use Rattle.std.proofs.Common.{◌≡◌, ℕ, ◌+◌, ◌*◌, ◌/◌, ◌<◌, refl, ap, sym, ◌∙◌, arith}
use Rattle.std.proofs.lemmas.Nat.{div-mul-add}
use Rattle.ulfm_model.specs.declared.{limits.Limits.{Limits}, place.Place.{Place}, place.Place.TheVariants.{List as ListAt, Comm as CommAt, Revoked as RevokedAt, Slot as SlotAt, Arrival as ArrivalAt}}
use Rattle.ulfm_model.specs.Words.{size_of}
use Rattle.ulfm_words.specs.Places.{IsCell, IsWithin}

-- two numbers of two digits are one only where both digits are
pub digits : (n a r b s : ℕ) → r < n → s < n → a * n + r ≡ b * n + s → (a ≡ b) × (r ≡ s)
digits n a r b s r_lt s_lt e =
    let same : a ≡ b = sym (div-mul-add a n r r_lt) ∙ (ap (λ m. m / n) e ∙ div-mul-add b n s s_lt) in
    let rest : b * n + r ≡ b * n + s = ap (λ m. m * n + r) (sym same) ∙ e in
    (same, omega (arith, rest))

-- how many ranks all rounds of all communicators have
abbrev pub cells : Limits → ℕ
cells limits = limits.comms * limits.rounds * limits.ranks

-- the size, counted cell by cell
pub size_is : (limits : Limits) → size_of limits ≡ limits.ranks + 2 * limits.comms + 2 * cells limits
size_is limits = omega arith

-- what stands before two equal sums may be left out
cancel : (n x y : ℕ) → n + x ≡ n + y → x ≡ y
cancel n x y e = omega arith

-- the lists come first, then the communicators and the revocations, then the slots and arrivals by these numbers
abbrev pub number_in : Limits → (ℕ → ℕ → ℕ → ℕ) → (ℕ → ℕ → ℕ → ℕ) → Place → ℕ
number_in limits slots arrivals (ListAt i) = i
number_in limits slots arrivals (CommAt j) = limits.ranks + j
number_in limits slots arrivals (RevokedAt c) = limits.ranks + limits.comms + c
number_in limits slots arrivals (SlotAt c k r) = limits.ranks + 2 * limits.comms + slots c k r
number_in limits slots arrivals (ArrivalAt c k r) = limits.ranks + 2 * limits.comms + arrivals c k r

-- numbers of slots and of arrivals, all below so many; no number is that of two
pub record IsNumbering (limits : Limits) (count : ℕ) (slots arrivals : ℕ → ℕ → ℕ → ℕ) : Type 0 where
  pub slots_lt : (c k r : ℕ) → IsCell limits c k r → slots c k r < count
  pub arrivals_lt : (c k r : ℕ) → IsCell limits c k r → arrivals c k r < count
  pub slots_same : (c k r d l q : ℕ) → IsCell limits c k r → IsCell limits d l q → slots c k r ≡ slots d l q → (c ≡ d) × (k ≡ l) × (r ≡ q)
  pub arrivals_same : (c k r d l q : ℕ) → IsCell limits c k r → IsCell limits d l q → arrivals c k r ≡ arrivals d l q → (c ≡ d) × (k ≡ l) × (r ≡ q)
  pub apart : (c k r d l q : ℕ) → IsCell limits c k r → IsCell limits d l q → slots c k r ≡ arrivals d l q → ⊥

module _ (limits : Limits) (count : ℕ) (slots arrivals : ℕ → ℕ → ℕ → ℕ) (n : IsNumbering limits count slots arrivals) where
  abbrev pub number : Place → ℕ
  number = number_in limits slots arrivals

  -- each number is below the size of the row
  pub number_lt : (p : Place) → IsWithin limits p → number p < limits.ranks + 2 * limits.comms + count
  number_lt (ListAt i) lt = omega arith
  number_lt (CommAt j) lt = omega (arith, lt.1)
  number_lt (RevokedAt c) lt = omega arith
  number_lt (SlotAt c k r) cell = omega (arith, n.slots_lt c k r cell)
  number_lt (ArrivalAt c k r) cell = omega (arith, n.arrivals_lt c k r cell)

  -- places with one number are one
  pub one_number : (p q : Place) → IsWithin limits p → IsWithin limits q → number_in limits slots arrivals p ≡ number_in limits slots arrivals q → p ≡ q
  one_number (ListAt i) (ListAt j) a b e = ap ListAt e
  one_number (ListAt i) (CommAt j) a b e = absurd (omega arith)
  one_number (ListAt i) (RevokedAt c) a b e = absurd (omega arith)
  one_number (ListAt i) (SlotAt c k r) a b e = absurd (omega arith)
  one_number (ListAt i) (ArrivalAt c k r) a b e = absurd (omega arith)
  one_number (CommAt i) (ListAt j) a b e = absurd (omega arith)
  one_number (CommAt i) (CommAt j) a b e = ap CommAt (cancel limits.ranks i j e)
  one_number (CommAt i) (RevokedAt c) a b e = absurd (omega (arith, a.1))
  one_number (CommAt i) (SlotAt c k r) a b e = absurd (omega (arith, a.1))
  one_number (CommAt i) (ArrivalAt c k r) a b e = absurd (omega (arith, a.1))
  one_number (RevokedAt i) (ListAt j) a b e = absurd (omega arith)
  one_number (RevokedAt i) (CommAt j) a b e = absurd (omega (arith, b.1))
  one_number (RevokedAt i) (RevokedAt c) a b e = ap RevokedAt (cancel (limits.ranks + limits.comms) i c e)
  one_number (RevokedAt i) (SlotAt c k r) a b e = absurd (omega arith)
  one_number (RevokedAt i) (ArrivalAt c k r) a b e = absurd (omega arith)
  one_number (SlotAt c k r) (ListAt j) a b e = absurd (omega arith)
  one_number (SlotAt c k r) (CommAt j) a b e = absurd (omega (arith, b.1))
  one_number (SlotAt c k r) (RevokedAt d) a b e = absurd (omega arith)
  one_number (SlotAt c k r) (SlotAt d l q) a b e =
      let same = n.slots_same c k r d l q a b (cancel (limits.ranks + 2 * limits.comms) _ _ e) in rw (same.0, same.1, same.2) refl
  one_number (SlotAt c k r) (ArrivalAt d l q) a b e = absurd (n.apart c k r d l q a b (cancel (limits.ranks + 2 * limits.comms) _ _ e))
  one_number (ArrivalAt c k r) (ListAt j) a b e = absurd (omega arith)
  one_number (ArrivalAt c k r) (CommAt j) a b e = absurd (omega (arith, b.1))
  one_number (ArrivalAt c k r) (RevokedAt d) a b e = absurd (omega arith)
  one_number (ArrivalAt c k r) (SlotAt d l q) a b e = absurd (n.apart d l q c k r b a (cancel (limits.ranks + 2 * limits.comms) _ _ (sym e)))
  one_number (ArrivalAt c k r) (ArrivalAt d l q) a b e =
      let same = n.arrivals_same c k r d l q a b (cancel (limits.ranks + 2 * limits.comms) _ _ e) in rw (same.0, same.1, same.2) refl

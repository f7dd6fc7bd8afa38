-- The tests that compute decide what the definitions say: which event may come next.
use Rattle.std.proofs.Common.{◌≡◌, ◌≤◌, ◌<◌, ◌+◌, ◌-◌, ◌==◌, ◌&&◌, ℕ, Bool, true, false, not, List, length, Option, Some, None, is_some, nat_le, nat_lt, slice_get, refl, sym, ap, IsTrue, IsFalse}
use Rattle.std.specs.Bool.{Decides}
use Rattle.std.proofs.lemmas.Bool.{leb-true, le-leb, ltb-true, lt-ltb, eqb-true, eq-eqb}
use Rattle.std.proofs.lemmas.Bool.Decides.{Decides-and, Decides-like, Decides-eqb}
use Rattle.std.proofs.lemmas.Slice.Eq.{slice_eq-Decides}
use Rattle.ulfm_laws.specs.declared.{summary.Body.{Body}, summary.CtxMask.{CtxMask}}
use Rattle.ulfm_model.specs.declared.{event.Event.{Event}, limits.Limits.{Limits}}
use Rattle.ulfm_model.specs.History.{History, IsPlace, MayFollow, MaySpawn, decision, failed, failures, has, has_arrived, is_decided, is_made, is_revoked, members, slot, spawns}
use Rattle.ulfm_numbers.specs.{Groups.{same_ranks}, Seen.{seen_of}}
use Rattle.ulfm_numbers.specs.Tests.{at_test, follow_test, ids_test, place_test, spawn_test}

pub le_decides : (a b : ℕ) → Decides (nat_le a b) (a ≤ b)
le_decides a b = (leb-true a b, le-leb a b)

pub lt_decides : (a b : ℕ) → Decides (nat_lt a b) (a < b)
lt_decides a b = (ltb-true a b, lt-ltb a b)

pub eq_decides : (a b : ℕ) → Decides (a == b) (a ≡ b)
eq_decides a b = (eqb-true a b, eq-eqb a b)

pub true_decides : (b : Bool) → Decides b (IsTrue b)
true_decides b = (λ e. e, λ e. e)

pub false_decides : (b : Bool) → Decides (not b) (IsFalse b)
false_decides true = (λ e. cc e, λ e. cc e)
false_decides false = (λ e. refl, λ e. refl)

pub none_decides : {X : Type 0} (o : Option X) → Decides (not (is_some o)) (o ≡ None)
none_decides None = (λ e. refl, λ e. refl)
none_decides (Some x) = (λ e. absurd (cc e), λ e. absurd (cc e))

pub never_decides : {X : Type 0} → (X → ⊥) → Decides false X
never_decides never = (λ e. absurd (cc e), λ x. absurd (never x))

pub at_decides : (o : Option ℕ) (r : ℕ) → Decides (at_test o r) (o ≡ Some r)
at_decides None r = never_decides (λ e. cc e)
at_decides (Some x) r = Decides-like (x == r) (λ e. ap Some e) (λ e. cc e) (eq_decides x r)

pub place_decides : {P : Type 0} (limits : Limits) (h : History P) (c k r : ℕ) → Decides (place_test limits (seen_of limits.ranks h) c k r) (IsPlace limits h c k r)
place_decides limits h c k r =
    Decides-like _ (λ p. record { exists = p.0; member = p.1.0; in_rounds = p.1.1 }) (λ q. (q.exists, (q.member, q.in_rounds)))
    (Decides-and _ _ (le_decides c (length (spawns h))) (Decides-and _ _ (true_decides (has (members limits.ranks h c) r)) (lt_decides k limits.rounds)))

pub ids_decides : {P : Type 0} (body : Body P) → Decides (ids_test body) ((mask : CtxMask) × (body ≡ Body.Ctx mask) × (0 < mask.bits))
ids_decides Body.Unit = never_decides (λ m. cc (m.1))
ids_decides (Body.Flag flag) = never_decides (λ m. cc (m.1))
ids_decides {P} (Body.Ctx mask) =
    Decides-like (nat_lt 0 mask.bits) (λ some. (mask, refl, some)) (λ m. let same : m.0.bits ≡ mask.bits = ap ids_of (sym m.1) in rw (← same) m.2) (lt_decides 0 mask.bits)
  where
    ids_of : Body P → ℕ
    ids_of Body.Unit = 0
    ids_of (Body.Flag flag) = 0
    ids_of (Body.Ctx m) = m.bits
    ids_of Body.Clash = 0
ids_decides Body.Clash = never_decides (λ m. cc (m.1))

module _ {P : Type 0} (meld : P → P → P) (limits : Limits) (h : History P) where
  pub spawn_decides : (j c k : ℕ) → Decides (spawn_test meld limits (seen_of limits.ranks h) j c k) (MaySpawn meld limits h j c k)
  spawn_decides j c k =
      Decides-like _ (λ p. record { next = p.0; room = p.1.0; exists = p.1.1.0; in_rounds = p.1.1.1.0; decided = p.1.1.1.1.0; ids = p.1.1.1.1.1.0; first = p.1.1.1.1.1.1 })
      (λ q. (q.next, (q.room, (q.exists, (q.in_rounds, (q.decided, (q.ids, q.first)))))))
      (Decides-and _ _ (eq_decides j (length (spawns h) + 1)) (Decides-and _ _ (lt_decides j limits.comms) (Decides-and _ _ (le_decides c (length (spawns h))) (Decides-and _ _ (lt_decides k limits.rounds)
      (Decides-and _ _ (true_decides (is_decided limits.ranks h c k)) (Decides-and _ _ (ids_decides (decision meld limits.ranks h c k).body) (false_decides (is_made h c k))))))))

  pub follow_decides : (event : Event P) → Decides (follow_test meld limits (seen_of limits.ranks h) event) (MayFollow meld limits h event)
  follow_decides (Event.Fail r) = Decides-and _ _ (lt_decides r limits.ranks) (false_decides (has (failures h) r))
  follow_decides (Event.Settle c k r given) =
      Decides-like _ (λ p. (p.0, p.1.0, p.1.1)) (λ q. (q.0, (q.1, q.2)))
      (Decides-and _ _ (place_decides limits h c k r) (Decides-and _ _ (none_decides (slot h c k r)) (le_decides given.known.count (length (failed limits.ranks h c)))))
  follow_decides (Event.Mark c k r mark) =
      Decides-like _ (λ p. (p.0, p.1.0, p.1.1)) (λ q. (q.0, (q.1, q.2)))
      (Decides-and _ _ (place_decides limits h c k r) (Decides-and _ _ (none_decides (slot h c k r)) (at_decides (slice_get (failed limits.ranks h c) (mark.known.count - 1)) r)))
  follow_decides (Event.Arrive c k r) = Decides-and _ _ (place_decides limits h c k r) (false_decides (has_arrived h c k r))
  follow_decides (Event.Revoke c) = Decides-and _ _ (le_decides c (length (spawns h))) (false_decides (is_revoked h c))
  follow_decides (Event.Spawn j c k) = spawn_decides j c k

-- whether two lists of ranks are one
pub ranks_decide : (xs ys : List ℕ) → Decides (same_ranks xs ys) (xs ≡ ys)
ranks_decide xs ys = slice_eq-Decides Decides-eqb xs ys (same_ranks xs ys) refl

-- a test that holds leaves the other
pub true_and : (a b : Bool) → a ≡ true → b ≡ (a && b)
true_and a b is = ap (λ x. x && b) (sym is)

-- and one that fails leaves none
pub first_fails : (a b : Bool) → a ≡ false → false ≡ (a && b)
first_fails a b fails = sym (ap (λ x. x && b) fails)

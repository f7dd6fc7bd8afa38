-- A decided round's communicator may be appended to the list of communicators.
use Rattle.std.proofs.Common.{◌≡◌, ℕ, suc, ◌+◌, ◌<◌, ◌==◌, ◌&&◌, Bool, true, false, ◌||◌, List, [], ◌∷◌, length, map, Some, slice_get, refl, ap, ◌∙◌, arith, IsTrue}
use Rattle.std.specs.List.{list_any}
use Rattle.std.proofs.lemmas.Bool.{and_parts, eqb-true}
use Rattle.ulfm_laws.specs.{declared.summary.Body.TheVariants.{Ctx}, declared.summary.CtxMask.{CtxMask}}
use Rattle.ulfm_model.specs.declared.limits.Limits.{Limits}
use Rattle.ulfm_model.specs.{History.{Decision, Exists, History, decision, is_decided, is_made, spawns}}
use Rattle.ulfm_model.proofs.{Decisions.{decision_stays}, Histories.{members_stay}}
use Rattle.ulfm_steps.specs.Appends.{MayAppend}
use Rattle.ulfm_steps.specs.declared.item.Item.TheVariants.{Comm}

made_in : (xs : List (ℕ × ℕ)) (c k : ℕ) → list_any (λ made. (made.0 == c) && (made.1 == k)) xs ≡ true → (j : ℕ) × (slice_get (map (λ made. Comm made.0 made.1) xs) j ≡ Some (Comm c k))
made_in [] c k e = absurd (cc e)
made_in (x ∷ xs) c k e = go (made_in xs c k) ((x.0 == c) && (x.1 == k)) refl e
  where
    go : (list_any (λ made. (made.0 == c) && (made.1 == k)) xs ≡ true → (j : ℕ) × (slice_get (map (λ made. Comm made.0 made.1) xs) j ≡ Some (Comm c k))) → (b : Bool) → ((x.0 == c) && (x.1 == k)) ≡ b → (b || list_any (λ made. (made.0 == c) && (made.1 == k)) xs) ≡ true
        → (j : ℕ) × (slice_get (map (λ made. Comm made.0 made.1) (x ∷ xs)) j ≡ Some (Comm c k))
    go more true is e =
        let both = and_parts (x.0 == c) (x.1 == k) is in
        let first : x.0 ≡ c = eqb-true x.0 c both.0 in
        let second : x.1 ≡ k = eqb-true x.1 k both.1 in
        (0, rw (first, second) refl)
    go more false is e = let rest = more e in (suc rest.0, rest.1)

length-map : {X Y : Type 0} (f : X → Y) (xs : List X) → length (map f xs) ≡ length xs
length-map f [] = refl
length-map f (x ∷ xs) = ap suc (length-map f xs)

-- the premise of a spawn: the round was decided with free ids in what was seen
pub may_spawn : {P : Type 0} (meld : P → P → P) (limits : Limits) (seen : History P) (c k : ℕ) → Exists seen c → k < limits.rounds → IsTrue (is_decided limits.ranks seen c k)
    → (mask : CtxMask) → (decision meld limits.ranks seen c k).body ≡ Ctx mask → 0 < mask.bits → MayAppend meld limits seen (Comm c k)
may_spawn {P} meld limits seen c k here k_lt decided mask ids some more begins legal none room =
    let still = decision_stays meld limits seen more c k begins legal here decided in
    let count = length-map (λ made. Comm made.0 made.1) (spawns more) in
    record {
      next = ap (λ n. n + 1) count;
      room = omega (arith, room);
      exists = (members_stay limits.ranks seen more c begins here).0;
      in_rounds = k_lt;
      decided = still.0;
      ids = (mask, ap (λ (d : Decision P). d.body) still.1 ∙ ids, some);
      first = go (is_made more c k) refl;
    }
  where
    go : (b : Bool) → is_made more c k ≡ b → b ≡ false
    go false e = refl
    go true e = let found = made_in (spawns more) c k e in absurd (none found.0 found.1)

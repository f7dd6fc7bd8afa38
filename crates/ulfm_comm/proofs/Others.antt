-- What a rank has seen that are others.
use Rattle.std.proofs.Common.{◌≡◌, ◌<◌, ◌≤◌, ◌-◌, ◌==◌, ◌||◌, ℕ, false, List, drop, length, take, arith, ap, refl, sym, ◌∙◌}
use Rattle.std.proofs.lemmas.List.{length-drop, take_all, take-append-drop}
use Rattle.std.proofs.lemmas.List.Folds.{list_any-append}
use mathlib.Core.List.{IsPrefix}
use Rattle.ulfm_model.specs.declared.limits.Limits.{Limits}
use Rattle.ulfm_model.specs.{History.{has}, Records.{Held, Record}}
use Rattle.ulfm_model.proofs.Lists.{length_prefix}
use Rattle.ulfm_steps.proofs.ReadingOn.{take_begins}
use Rattle.ulfm_comm.specs.Ranks.{AreOthers, HasRoom}

-- the room that a rank has, where what it has seen has another
pub room_in : {limits : Limits} {capacity places : ℕ} {held : List Held} (other : ℕ) → limits.ranks ≤ other → HasRoom limits capacity places held
    → HasRoom limits other places held
room_in other enough was =
    record { may_open = was.may_open; room = enough; few = was.few; more = was.more; ids = was.ids; contexts = was.contexts }

-- none of them
pub others_none : (number : ℕ) (seen : List ℕ) → AreOthers number seen 0
others_none number seen = record { within = omega arith; none = refl }

-- all
pub others_all : (number : ℕ) (seen : List ℕ) (count : ℕ) → count ≡ length seen → has seen number ≡ false → AreOthers number seen count
others_all number seen count is none = record {
  within = omega (arith, is);
  none = ap (λ xs. has xs number) (take_all count seen (omega (arith, is))) ∙ none;
}

-- those stay so while more is seen
pub others_stay : (number : ℕ) (seen more : List ℕ) (count : ℕ) → IsPrefix seen more → AreOthers number seen count → AreOthers number more count
others_stay number seen more count begins are = record {
  within = omega (arith, are.within, length_prefix seen more begins);
  none = ap (λ xs. has xs number) (take_begins count seen more begins are.within) ∙ are.none;
}

-- so the rank is among all where it is among the rest
pub others_found : (number : ℕ) (seen : List ℕ) (count : ℕ) → AreOthers number seen count
    → has seen number ≡ has (take (length seen - count) (drop count seen)) number
others_found number seen count are =
    let rest = take_all (length seen - count) (drop count seen) (omega (arith, length-drop count seen)) in
    ap (λ xs. has xs number) (sym (take-append-drop count seen))
    ∙ (list_any-append (λ x. x == number) (take count seen) (drop count seen) ∙ (ap (λ b. b || has (drop count seen) number) are.none
    ∙ ap (λ xs. has xs number) (sym rest)))

-- a rank that hasn't seen all resumes its look where it is
pub not_resumed : (own : Record) (ranks : ℕ) → own.limits.ranks ≡ ranks → length own.seen < ranks → own ≡ record own { seen = take (own.limits.ranks - 1) own.seen }
not_resumed own ranks same some = ap (λ xs. record own { seen = xs }) (sym (take_all (own.limits.ranks - 1) own.seen (omega (arith, same, some))))

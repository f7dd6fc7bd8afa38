use Rattle.std.proofs.Common.{◌≡◌, ℕ, ◌+◌, ◌-◌, List, [], ◌∷◌, Some, length, slice_get, refl, ap, arith}
use Rattle.ulfm_model.specs.declared.{event.Caller.TheVariants.{Outside}, event.Event.TheVariants.{Fail}, place.Place.TheVariants.{List as ListAt}}
use Rattle.ulfm_model.specs.History.{failures, has}
use Rattle.ulfm_model.specs.Terms.{word_or_zero}
use Rattle.ulfm_book_tests.proofs.tests.words.declare.Goals as goal

-- where the first entry isn't set nobody is declared
nobody : (xs : List ℕ) → word_or_zero (λ r. r + 1) (slice_get xs 0) ≡ 0 → xs ≡ []
nobody [] e = refl
nobody (x ∷ xs) e = absurd (omega (arith, e))

pub set_once-requires-clause-may : goal.set_once-requires-clause-may
set_once-requires-clause-may g c =
    let same : c.from.result + 1 - 1 ≡ c.args.rank = omega (arith, c.from.ensures) in
    record {
      entry = record { by = Outside; event = Fail c.args.rank };
      is_entry = ap (λ r. Some (record { by = Outside; event = Fail r })) same;
      word = omega (arith, c.from.ensures);
      half = refl;
      legal = λ more begins legal zero.
          let none = nobody (failures more) zero in
          ((c.requires.rank, ap (λ xs. has xs c.args.rank) none), ap (λ xs. ListAt (length xs)) none);
    }

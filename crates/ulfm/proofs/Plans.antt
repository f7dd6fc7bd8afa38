-- The options of a race as its plan.
use Rattle.std.proofs.Common.{◌≡◌, ◌≤◌, ◌<◌, ◌&&◌, ℕ, Bool, true, false, Option, Some, None, refl}
use Rattle.std.specs.Prelude.{IfSome}
use Rattle.std.proofs.lemmas.Bool.{leb-true, ltb-true}
use Rattle.ulfm_command.specs.CommandLines.{fail_is_in, is_in_range}
use Rattle.ulfm_command.specs.declared.asked.RaceOptions.{RaceOptions}
use Rattle.ulfm_race.specs.Races.{IsPlan}
use Rattle.ulfm.specs.Races.{plan_of}

both : (a b : Bool) → (a && b) ≡ true → (a ≡ true) × (b ≡ true)
both true b e = (refl, e)
both false b e =
    let bad : false ≡ true = e in
    cc

fail_is : (ranks : ℕ) (fail : Option ℕ) → fail_is_in ranks fail ≡ true → IfSome fail (λ r. r < ranks)
fail_is ranks None e = tt
fail_is ranks (Some r) e = ltb-true r ranks e

-- options in their ranges make a plan in its ranges
pub plan_is : (options : RaceOptions) → is_in_range options ≡ true → IsPlan (plan_of options)
plan_is options e =
    let one = both _ _ e in
    let two = both _ _ one.1 in
    let three = both _ _ two.1 in
    let four = both _ _ three.1 in
    let least : 1 ≤ options.ranks = leb-true 1 options.ranks one.0 in
    let first : 1 ≤ options.rounds = leb-true 1 options.rounds three.0 in
    record {
      some_rank = least;
      ranks = leb-true options.ranks 64 two.0;
      some_round = first;
      rounds = leb-true options.rounds 1000 four.0;
      fail = fail_is options.ranks options.fail four.1;
    }

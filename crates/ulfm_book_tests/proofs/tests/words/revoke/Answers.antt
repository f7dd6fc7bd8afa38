use Rattle.std.proofs.Common.{◌≡◌, ℕ, Bool, true, false, refl, arith, if◌then◌else◌}
use Rattle.ulfm_model.specs.declared.event.Event.TheVariants.{Revoke}
use Rattle.ulfm_model.specs.History.{is_revoked}
use Rattle.ulfm_book_tests.proofs.tests.words.revoke.Goals as goal

-- a word of 0 says no
says_no : (b : Bool) → (let n : ℕ = if b then 1 else 0 in n) ≡ 0 → b ≡ false
says_no true e = absurd (omega (arith, e))
says_no false e = refl

pub set_once-requires-clause-may : goal.set_once-requires-clause-may
set_once-requires-clause-may g c = record {
  entry = record { by = _; event = Revoke 0 };
  is_entry = refl;
  word = refl;
  half = refl;
  legal = λ more begins legal zero. ((omega arith, says_no (is_revoked more 0) zero), refl);
}

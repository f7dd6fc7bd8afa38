-- Values of the kinds that keep a range, of any number. What is too great is cut off, so that each has its proof here, once.
use Rattle.std.specs.Prelude.{ℕ, ◌<◌, ◌≤◌, ◌-◌, ◌^◌, ◌==◌, ◌||◌, min, max, IsTrue}
use Rattle.std.proofs.Common.{ap, le_trans, lit<, lit≤, lt_of_le_of_lt}
use Rattle.std.proofs.Math.Nat.{le-max_left, max-le, min-le_right, sub-le}
use Rattle.std.proofs.lemmas.Bool.{le-leb}
use Rattle.ulfm_laws.specs.Ranges.{is_acked_count}
use Rattle.ulfm_laws.specs.Ranges.{all_ones}
use Rattle.ulfm_laws.specs.declared.{summary.Acked.{Acked}, summary.CtxMask.{CtxMask}, summary.Known.{Known}}

-- all context ids but i, which is one of them: all bits but bit i
abbrev pub all_but : ℕ → CtxMask
all_but i = record { bits = all_ones - 2 ^ i; fits = lt_of_le_of_lt (sub-le all_ones (2 ^ i)) (lit< tt) }

-- n known failures, and at most 1024
abbrev pub known_at : ℕ → Known
known_at n = record { count = min n 1024; in_range = min-le_right n 1024 }

-- the same, and at least 1
abbrev pub known_from_one : ℕ → Known
known_from_one n = record { count = max 1 (min n 1024); in_range = max-le (lit≤ tt) (min-le_right n 1024) }

-- there is one of these
pub some_known : (n : ℕ) → 0 < max 1 (min n 1024)
some_known n = le-max_left 1 (min n 1024)

-- either way the count is in range
pub acked_within : (m n : ℕ) → IsTrue (is_acked_count (min m (min n 1024)))
acked_within m n =
    let few : min m (min n 1024) ≤ 1024 = le_trans (min-le_right m (min n 1024)) (min-le_right n 1024) in
    ap (λ b. b || (min m (min n 1024) == 2047)) (le-leb (min m (min n 1024)) 1024 few)

-- m acknowledged ones, and at most the n that are known
abbrev pub acked_at : ℕ → ℕ → Acked
acked_at m n = record { count = min m (min n 1024); in_range = acked_within m n }

-- they are among those
pub acked_known : (m n : ℕ) → min m (min n 1024) ≤ min n 1024
acked_known m n = min-le_right m (min n 1024)

-- A rank's program goes on, move by move.
use Rattle.std.proofs.Common.{◌≡◌, ◌∙◌, ℕ, ◌+◌, true, false, if◌then◌else◌, refl, sym, ap, add-one}
use Rattle.ulfm_schedules.specs.Programs.{move_at}
use Rattle.ulfm_schedules.specs.declared.moves.Move.{Move}
use Rattle.ulfm_schedules.specs.declared.program.Program.{Program}
use Rattle.ulfm_explore.specs.Readings.{Reached, goes_on, is_on, moved}

goes_next : {A : Type 0} (program : Program A) (rank left : ℕ) (it : Reached) (next : Move) → next ≡ move_at program rank it.at it.last
    → goes_on program rank (left + 1) it ≡ (if is_on next then goes_on program rank left (moved program next it) else moved program next it)
goes_next program rank left it next is = rw (add-one, is) refl

-- it goes on behind this move
pub goes_further : {A : Type 0} (program : Program A) (rank m left : ℕ) (it new all : Reached) (next : Move) → m ≡ left + 1 → next ≡ move_at program rank it.at it.last → is_on next ≡ true
    → new ≡ moved program next it → goes_on program rank m it ≡ all → goes_on program rank left new ≡ all
goes_further program rank m left it new all next more is holds made inv =
    let e : goes_on program rank (left + 1) it ≡ goes_on program rank left (moved program next it) = rw holds at (goes_next program rank left it next is) in
    ap (goes_on program rank left) made ∙ (sym e ∙ (sym (ap (λ k. goes_on program rank k it) more) ∙ inv))

-- it stops behind this move
pub goes_no_further : {A : Type 0} (program : Program A) (rank m left : ℕ) (it new all : Reached) (next : Move) → m ≡ left + 1 → next ≡ move_at program rank it.at it.last → is_on next ≡ false
    → new ≡ moved program next it → goes_on program rank m it ≡ all → new ≡ all
goes_no_further program rank m left it new all next more is fails made inv =
    let e : goes_on program rank (left + 1) it ≡ moved program next it = rw fails at (goes_next program rank left it next is) in
    made ∙ (sym e ∙ (sym (ap (λ k. goes_on program rank k it) more) ∙ inv))

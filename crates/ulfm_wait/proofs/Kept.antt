-- A member whose pass has seen more is one still.
use Rattle.std.proofs.Common.{◌≡◌, ℕ, subst, sym}
use Rattle.ulfm_model.specs.{History.{History}, Records.{Fits, Record}}
use Rattle.ulfm_words.specs.Steps.{IsView, Name, Sight, view_of}
use Rattle.ulfm_wait.specs.Members.{IsMember, viewing}

-- a call over the words that a member was lent keeps what fits them
pub member_after : {P : Type 0} (meld : P → P → P) (pack : P → ℕ) (lent words : Name) (own : Record) (last : ℕ) (before : History P) (after : Sight P) → lent ≡ words → Fits meld words.limits before own
    → (Fits meld lent.limits before own → Fits meld lent.limits after.seen own) → IsView meld (view_of pack lent after) → IsMember meld pack (record { own = own; last = last; view = viewing words after })
member_after meld pack lent words own last before after same fits stays of =
    let later = stays (subst (λ world. Fits meld world.limits before own) (sym same) fits) in
    subst (λ world. IsMember meld pack (record { own = own; last = last; view = viewing world after })) same (record { of = of; fits = later })

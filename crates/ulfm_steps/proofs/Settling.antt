-- A rank may settle its own place while that is empty.
use Rattle.std.proofs.Common.{◌≡◌, ℕ, Option, Some, None, refl, sym, ◌∙◌}
use mathlib.Core.List.{IsPrefix}
use Rattle.ulfm_model.specs.declared.{contribution.Contribution.{Contribution}, contribution.Slot.{Slot}, contribution.Slot.TheVariants.{Given}, event.Event.TheVariants.{Settle}, limits.Limits.{Limits}}
use Rattle.ulfm_model.specs.History.{History, MayFollow, slot}
use Rattle.ulfm_model.proofs.{Histories.{slot_stays}, Stable.{settle_stays}}
use Rattle.ulfm_words.specs.Tries.{MayPut}
use Rattle.ulfm_steps.specs.Settles.{MayGive}

-- a place that is empty was so before
pub empty_before : {P : Type 0} (h longer : History P) (c k r : ℕ) → IsPrefix h longer → slot longer c k r ≡ None → slot h c k r ≡ None
empty_before {P} h longer c k r begins none = go (slot h c k r) refl
  where
    go : (o : Option (Slot P)) → slot h c k r ≡ o → o ≡ None
    go None e = refl
    go (Some s) e = let clash : Some s ≡ None = sym (slot_stays h longer c k r s begins e) ∙ none in absurd (cc clash)

pub may_give : {P : Type 0} (meld : P → P → P) (limits : Limits) (h : History P) (c k r : ℕ) (given : Contribution P) → MayGive limits h c k r given → MayPut meld limits h c k r (Given given)
may_give meld limits h c k r given may more begins legal none =
    let first : MayFollow meld limits h (Settle c k r given) = (may.place, empty_before h more c k r begins none, may.known) in
    settle_stays meld limits h more c k r given begins legal first none

-- How the telling of a stored log ends.
use Rattle.std.proofs.Common.{◌≡◌, ◌⊎◌, inl, inr, ℕ, List, subst}
use Rattle.ulfm_script.specs.Ends.{KnownText}
use Rattle.ulfm_filters.specs.Statuses.{PrintsWhole, status_of}
use Rattle.ulfm_audit.specs.Audits.{AuditsText}
use Rattle.ulfm.specs.Replayed.{ReplayedWith}

-- a history that was printed, or not all of it
pub replayed : (known old new : KnownText) (shown text : List ℕ) (status : ℕ) → AuditsText known shown → text ≡ shown → PrintsWhole text old new status
    → ReplayedWith known old new status
replayed known old new shown text status is same printed =
    inl (record { shown = shown; audited = is; printed = subst (λ (t : List ℕ). PrintsWhole t old new status) same printed })

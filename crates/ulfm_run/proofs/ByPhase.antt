-- What holds in whatever phase a call is, by the few phases that matter.
use Rattle.std.proofs.Common.{◌≡◌, ℕ, true}
use Rattle.ulfm_model.specs.declared.limits.Limits.{Limits}
use Rattle.ulfm_model.specs.{History.{History}, Records.{Record}}
use Rattle.ulfm_model.specs.Records.{moment}
use Rattle.ulfm_steps.specs.declared.arrivals.Missing.{Missing}
use Rattle.ulfm_comm.specs.Phase.{is_looking}
use Rattle.ulfm_comm.specs.declared.phases.phase.{Phase.{Phase}, Phase.TheVariants.{Begun, Looking, Checking}}
use Rattle.ulfm_run.specs.Stepping.{FoundAt}

-- what holds when a call has begun and when it looks holds all through its look
pub in_look : {P : Type 0} (Holds : Phase P → Type 0) → Holds Begun → Holds Looking → (phase : Phase P) → is_looking phase ≡ true → Holds phase
in_look Holds begun looks Begun looking = begun
in_look Holds begun looks Looking looking = looks
in_look Holds begun looks _ looking = absurd (cc looking)

-- who is missing is found where a barrier's poll makes its last load next, and nothing is asked in other phases
module _ {P : Type 0} (Given : Phase P → Type 0) (meld : P → P → P) (limits : Limits) (c : ℕ) (old : Record) (before : History P) (own : Record) (now : History P) (found : ℕ)
    (checking : (missing : Missing) → Given (Checking missing) → FoundAt meld limits c (moment old before) (moment own now) found (Checking missing)) where
  pub found_by_check : (phase : Phase P) → Given phase → FoundAt meld limits c (moment old before) (moment own now) found phase
  found_by_check (Checking missing) given = checking missing given
  found_by_check _ given = tt

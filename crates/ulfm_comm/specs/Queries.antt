-- Queries of a communicator's failed group, and of those in it that a rank has acknowledged.
use Rattle.std.specs.Prelude.{ℕ, Bool, false, true, List, Option, None, Some, take}
use Rattle.ulfm_model.specs.declared.{call.Call.{Call}, call.Call.TheVariants.{FailureGetAcked, GetFailed}}
use Rattle.ulfm_model.specs.Records.{Held, held_at}
use Rattle.ulfm_comm.specs.{Excludes.{failed_in}, Local.{Local}}

-- a query of the failed group, or of the acknowledged alone
abbrev pub query : {P : Type 0} → Bool → ℕ → ℕ → Call P
query false rank c = GetFailed rank c
query true rank c = FailureGetAcked rank c

-- how many failures of a communicator are acknowledged, by what is held of it
abbrev pub acked_of : Option Held → ℕ
acked_of None = 0
acked_of (Some x) = x.acked

-- the ranks of a communicator's failed group that a rank has acknowledged: its first ones
abbrev pub acked_in : {P : Type 0} → Local P → ℕ → List ℕ
acked_in now c = take (acked_of (held_at now.own c)) (failed_in now.view c)

-- what a query lists
abbrev pub listed_in : {P : Type 0} → Bool → Local P → ℕ → List ℕ
listed_in false now c = failed_in now.view c
listed_in true now c = acked_in now c

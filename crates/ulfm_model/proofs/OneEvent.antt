-- What a single event says, asked one question at a time.
use Rattle.std.proofs.Common.{ℕ, Bool, Option}
use Rattle.std.specs.List.{cons_option, list_any}
use Rattle.std.proofs.Common.{[]}
use Rattle.ulfm_model.specs.declared.contribution.Slot.{Slot}
use Rattle.ulfm_model.specs.declared.event.Event.{Event}
use Rattle.ulfm_model.specs.History.{has, same_place, says}
use Rattle.ulfm_model.specs.Terms.{put_at}

-- whom it declares failed
abbrev pub declared_by : {P : Type 0} → Event P → Option ℕ
declared_by e = (says e).declares

-- of which parent and round it makes a communicator
abbrev pub made_by : {P : Type 0} → Event P → Option (ℕ × ℕ)
made_by e = (says e).makes

-- what it puts at a place of a round
abbrev pub put_by : {P : Type 0} → ℕ → ℕ → ℕ → Event P → Option (Slot P)
put_by c k r e = put_at (c, k, r) (says e).settles

-- whether a rank arrives by it at a place of a barrier
abbrev pub arrives_at : {P : Type 0} → ℕ → ℕ → ℕ → Event P → Bool
arrives_at c k r e = list_any (λ place. same_place place (c, k, r)) (cons_option (says e).arrives [])

-- whether it revokes the communicator
abbrev pub revokes : {P : Type 0} → ℕ → Event P → Bool
revokes c e = has (cons_option (says e).revokes []) c

-- What one step of a call comes to, in lines.
use Rattle.std.specs.Prelude.{◌≡◌, ◌⊎◌, ℕ, [], ◌∷◌, ◌++◌, length, take, Option, Some, None}
use Rattle.ulfm_model.specs.declared.{event.Caller.TheVariants.{Rank}, event.Event.{Event}, reply.Reply.{Reply}}
use Rattle.ulfm_model.specs.{History.{History}, Records.{Record}}
use Rattle.ulfm_words.specs.Steps.{Sight, Over}
use Rattle.ulfm_comm.specs.Phase.{UnderWay}
use Rattle.ulfm_model.specs.declared.line.Line.TheVariants.{Happened, Looked, Replied}
use Rattle.ulfm_model.specs.Traces.{MayCome, Traced, after, listed}
use Rattle.ulfm_run.specs.{Seats.{MayList}, Stepping.{HasBegun, HasCalled, IsIdle}}

-- the line of a reply may come, with this point, and then the rank is idle
pub record EndsSo {P : Type 0} (meld : P → P → P) (name : Over P) (t : Traced P) (later : Sight P) (r c point : ℕ) (reply : Reply P) (new : Record) : Type 0 where
  pub may : MayCome meld t (listed name.limits.ranks (take point later.seen) c reply) (Replied (Rank r) point (Some reply))
  pub number : new.number ≡ r
  pub list : MayList name.limits.ranks (take point later.seen) c reply new
  pub idle : IsIdle meld name (after t (Replied (Rank r) point (Some reply))) later new

-- nothing is told; or one event, which may come; and then so much holds
abbrev pub SaysStep : {P : Type 0} → (P → P → P) → Traced P → ℕ → History P → History P → (Traced P → Type 0) → Type 0
SaysStep {P} meld now r old new Then =
    ((old ≡ new) × Then now)
    ⊎ ((event : Event P) × (old ++ record { by = Rank r; event = event } ∷ [] ≡ new) × MayCome meld now [] (Happened (Rank r) (Some event))
    × Then (after now (Happened (Rank r) (Some event))))

-- the call goes on, or ends
abbrev pub NextAt : {P : Type 0} → (P → P → P) → Over P → ℕ → ℕ → ℕ → ℕ → Option (Reply P) → Sight P → Record → UnderWay P → Traced P → Type 0
NextAt meld name r c point found None later new doing t = (new.number ≡ r) × HasCalled meld name t later new found doing
NextAt meld name r c point found (Some reply) later new doing t = EndsSo meld name t later r c point reply new

-- the look goes on; or it has ended, which may be told, and then the call goes on, or ends
abbrev pub LooksOn : {P : Type 0} → (P → P → P) → Over P → ℕ → ℕ → ℕ → ℕ → Traced P → Option (Reply P) → Sight P → Record → UnderWay P → Type 0
LooksOn meld name r c point found now result later new doing =
    ((result ≡ None) × (new.number ≡ r) × HasBegun meld name now later new doing)
    ⊎ (MayCome meld now [] (Looked r (length new.seen)) × NextAt meld name r c point found result later new doing (after now (Looked r (length new.seen))))

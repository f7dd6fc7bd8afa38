-- The words that no event sets, as calls try to set them: blocks' words, and wings, which are set before their contributions.
use Rattle.std.specs.Prelude.{◌≡◌, ◌⊎◌, ℕ, true, Some}
use Rattle.ulfm_model.specs.declared.{block.Wing.{Wing}, call.Call.{Call}, contribution.Slot.{Slot}}
use Rattle.ulfm_model.specs.{Answers.{polled_by}, History.{slot}, Records.{Held, Record, held_at}, Terms.{comm_of}}
use Rattle.ulfm_words.specs.{Steps.{View}, declared.step.Site.{Site}}
use Rattle.ulfm_steps.specs.Settles.{WasTried}
use Rattle.ulfm_comm.specs.Requests.{contributes, is_agreement}
use Rattle.ulfm_comm.specs.declared.phases.phase.{Next.{Next}, Next.TheVariants.{Ends, Goes}, Phase.{Phase}, Phase.TheVariants.{Settling}}

-- the place at which a call contributes: its rank's, in the next agreement round of the call's communicator
pub record IsOwnPlace {P : Type 0} (own : Record) (asked : Call P) (c k r : ℕ) : Type 0 where
  pub contributes : contributes asked ≡ true
  pub x : Held
  pub held : held_at own (comm_of asked) ≡ Some x
  pub comm : c ≡ x.comm
  pub round : k ≡ x.next_agreement
  pub rank : r ≡ own.number

-- the words that no event sets and that a call may try to set: its own wing where it contributes, blocks' where it is the poll of an open agree or shrink
abbrev pub MayTry : {P : Type 0} → Record → Call P → Site → Type 0
MayTry own asked (Site.Place place) = ⊥
MayTry own asked (Site.Block block) = is_agreement (polled_by own asked) ≡ true
MayTry own asked (Site.Wing (Wing.Slot c k r)) = IsOwnPlace own asked c k r
MayTry own asked (Site.Wing (Wing.Block block)) = is_agreement (polled_by own asked) ≡ true

-- as a view's pass has seen it, a rank's place is set
abbrev pub IsPlaceSet : {P : Type 0} → View P → ℕ → ℕ → ℕ → Type 0
IsPlaceSet {P} view c k r = (put : Slot P) × (slot view.pass.seen c k r ≡ Some put)

-- each place whose wing the pass tried to set is set itself
abbrev pub WingsSettled : {P : Type 0} → View P → Type 0
WingsSettled view = (c k r : ℕ) → WasTried view c k r → IsPlaceSet view c k r

-- in a phase no wing stands without its place, but between the two words of a contribution, where the call's own may
abbrev pub WingsIn : {P : Type 0} → Record → Call P → Phase P → View P → Type 0
WingsIn own asked (Settling request offer) view = (c k r : ℕ) → WasTried view c k r → IsPlaceSet view c k r ⊎ IsOwnPlace own asked c k r
WingsIn own asked _ view = WingsSettled view

-- .. in what comes next
abbrev pub WingsNext : {P : Type 0} → Record → Call P → Next P → View P → Type 0
WingsNext own asked (Goes phase) view = WingsIn own asked phase view
WingsNext own asked (Ends reply) view = WingsSettled view

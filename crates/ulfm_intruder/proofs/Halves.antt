-- Where a reading's next load is.
use Rattle.std.proofs.Common.{◌≡◌, ℕ, ◌+◌, ◌≤◌, Bool, true, false, if◌then◌else◌, List, Some, None, is_some, ap, refl, sym, subst, arith}
use Rattle.ulfm_model.specs.declared.{block.Wing.{Wing}, place.Place.TheVariants.{Slot as SlotAt}}
use Rattle.ulfm_words.specs.{Steps.{Sight}, declared.step.Site.{Site}}
use Rattle.ulfm_steps.specs.Turns.{IsStepAt, TakesAt}
use Rattle.ulfm_intruder.specs.Readings.{next_of, read_site}
use Rattle.ulfm_intruder.specs.declared.read_round.ReadRound.{ReadRound}

module _ {P : Type 0} (group : List ℕ) (r : ReadRound P) where
  abbrev at_place : Site
  at_place = Site.Place (SlotAt r.comm r.round (next_of group r))

  abbrev at_wing : Site
  at_wing = Site.Wing (Wing.Slot r.comm r.round (next_of group r))

  -- of the member's place, where nothing of it was loaded
  pub takes_first : (before after : ℕ) (old new : Sight P) → r.first ≡ None → TakesAt false at_place true before after old new → TakesAt false (read_site group r) true before after old new
  takes_first before after old new none takes = subst (λ s. TakesAt false s true before after old new) (sym (ap (λ o. if is_some o then at_wing else at_place) none)) takes

  -- of its wing, where its first word was
  pub takes_rest : (w before after : ℕ) (old new : Sight P) → r.first ≡ Some w → TakesAt false at_wing true before after old new → TakesAt false (read_site group r) true before after old new
  takes_rest w before after old new some takes = subst (λ s. TakesAt false s true before after old new) (sym (ap (λ o. if is_some o then at_wing else at_place) some)) takes

-- loads that a reading had made before, unless it makes one alone
pub takes_behind : {P : Type 0} (whole : Bool) (site at : Site) (before between after : ℕ) (x y z : Sight P) → (whole ≡ false → (x.steps ≡ y.steps) × (at ≡ site)) → x.steps ≤ y.steps → y.steps + between ≤ x.steps + before
    → TakesAt false at true between after y z → TakesAt whole site true before after x z
takes_behind {P} whole site at before between after x y z same onward fewer takes =
    record { one = λ single. alone (same single) (takes.one refl); some = omega (arith, onward, takes.some); turns = omega (arith, fewer, takes.turns) }
  where
    alone : (x.steps ≡ y.steps) × (at ≡ site) → IsStepAt at true y z → IsStepAt site true x z
    alone is one = subst (λ s. IsStepAt s true x z) is.1 (record { steps = omega (arith, is.0, one.steps); word = one.word; last = one.last })

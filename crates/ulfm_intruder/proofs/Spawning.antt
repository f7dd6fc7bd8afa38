-- A round of the world's own communicator, as it was read.
use Rattle.std.proofs.Common.{◌≡◌, ℕ, ◌<◌, is_some, ap, sym, ◌∙◌}
use Rattle.std.specs.List.{list_all}
use Rattle.ulfm_laws.specs.{declared.summary.Body.TheVariants.{Ctx}, declared.summary.CtxMask.{CtxMask}, declared.summary.Summary.{Summary}}
use Rattle.ulfm_model.specs.declared.limits.Limits.{Limits}
use Rattle.ulfm_model.specs.{Blocks.{IsSummed}, History.{Decision, History, IsLegal, first_ranks, round_among, slot}, Laws.{all_of}}
use Rattle.ulfm_model.proofs.Stable.{decision_is}
use Rattle.ulfm_steps.specs.Appends.{MayAppend}
use Rattle.ulfm_steps.specs.declared.item.Item.TheVariants.{Comm}
use Rattle.ulfm_steps.proofs.{Reading.{world_round}, Spawning.{may_spawn}}

-- a round of the world's own communicator that was read through, and says that some ids are free
pub world_spawns : {P : Type 0} (meld : P → P → P) (limits : Limits) (h : History P) (k : ℕ) (all : Summary P) → IsLegal meld limits h → k < limits.rounds → IsSummed meld h 0 k (first_ranks limits.ranks) all → (mask : CtxMask) → all.body ≡ Ctx mask → 0 < mask.bits
    → MayAppend meld limits h (Comm 0 k)
world_spawns {P} meld limits h k all legal k_lt read mask ids some =
    let world = world_round limits h k k_lt in
    let said = ap (λ group. all_of meld (round_among group h 0 k)) (sym world.group_is) ∙ sym read.is in
    may_spawn meld limits h 0 k world.exists k_lt (ap (list_all (λ r. is_some (slot h 0 k r))) (sym world.group_is) ∙ read.each) mask
    (ap (λ (d : Decision P). d.body) (decision_is meld limits h 0 k legal) ∙ (ap (λ (a : Summary P). a.body) said ∙ ids)) some

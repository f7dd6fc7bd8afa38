use Rattle.std.proofs.Common.{◌≡◌, ℕ, List, filter, length, map, sym, ap, ap₂, ◌∙◌, take}
use Rattle.ulfm_model.specs.History.{has}
use Rattle.ulfm_numbers.specs.{Failed.{members_of}, Groups.{group_at}, declared.groups.Group.{Group}}
use Rattle.ulfm_numbers.proofs.Deciding.{ranks_decide}
use Rattle.ulfm_numbers.proofs.numbers.Numbers.known_of.Goals as goal

pub returns : goal.returns
returns g c =
    let kept = c.args.self.now in
    let look = c.args.look.now in
    let members = λ (groups : List (Group g.row.A.Denot)). group_at (map members_of groups) c.args.comm in
    let group : c.args.group.now ≡ members kept.groups.items =
    (ranks_decide c.args.group.now c.group_at.result.now).0 (sym c.same_ranks.ensures ∙ c.if-not-same_ranks.false) ∙ (c.group_at.ensures ∙ ap members c.deref.ensures.value) in
    let found : look ≡ take (length look) kept.failures.items =
    (ranks_decide look c.first_so_many.result.now).0 (sym c.same_ranks-2.ensures ∙ c.if-not-same_ranks-2.false) ∙ (c.first_so_many.ensures ∙ ap (take (length look)) c.deref-2.ensures.value) in
    c.failed_of.ensures
    ∙ (ap₂ (λ (groups : List (Group g.row.A.Denot)) (failures : List ℕ). filter (has (members groups)) (take (length look) failures)) c.deref-3.ensures.value c.deref-4.ensures.value
    ∙ ap₂ (λ (ranks all : List ℕ). filter (has ranks) all) (sym group) (sym found))

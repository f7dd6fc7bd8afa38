use Rattle.std.proofs.Common.{◌≡◌, Bool, map, List, ℕ, [], filter, if◌then◌else◌, sym, ap, ◌∙◌, arith}
use Rattle.std.proofs.lemmas.Bool.{lt-leb}
use Rattle.ulfm_model.specs.History.{has}
use Rattle.ulfm_numbers.specs.{Failed.{members_of}, Groups.{group_at}, Telling.{seen_at}}
use Rattle.ulfm_numbers.proofs.Counting.{in_nobody}
use Rattle.ulfm_numbers.proofs.numbers.Numbers.failed_at_point.Goals as goal

pub returns-else-count_made_at-from : goal.returns-else-count_made_at-from
returns-else-count_made_at-from g c =
    let seen = seen_at c.args.self.now c.args.point in
    let nobody : seen.members c.args.comm ≡ [] =
    ap (λ (b : Bool). if b then group_at (map members_of c.args.self.now.groups.items) c.args.comm else []) (lt-leb _ _ (omega (arith, c.if-count_made_at-from.false, c.from.ensures, c.count_made_at.ensures))) in
    sym (ap (λ (ms : List ℕ). filter (has ms) seen.failures) nobody ∙ in_nobody seen.failures)

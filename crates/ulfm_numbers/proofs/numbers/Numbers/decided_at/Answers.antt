use Rattle.std.proofs.Common.{◌≡◌, Bool, false, drop, List, Some, [], ℕ, map, filter, filter_map, take, is_some, if◌then◌else◌, sym, ap, ap₂, ◌∙◌, arith}
use Rattle.std.specs.List.{list_all, list_any}
use Rattle.std.specs.HashMap.{get}
use Rattle.std.proofs.lemmas.Bool.{le-leb}
use Rattle.ulfm_model.specs.History.{decided_by, has, same_place}
use Rattle.ulfm_numbers.specs.{Failed.{members_of}, Groups.{group_at}, Numbers.{count_by}, Telling.{seen_at}}
use Rattle.ulfm_numbers.proofs.Lasting.{done_holds, rest_taken}
use Rattle.ulfm_numbers.proofs.numbers.Numbers.decided_at.Goals as goal

pub returns : goal.returns
returns g c =
    let old = c.args.self.now in
    let seen = seen_at old c.args.point in
    let groups = map members_of old.groups.items in
    let done = c.in_ok-done.done.now in
    let members : seen.members c.args.comm ≡ group_at groups c.args.comm = ap (λ (b : Bool). if b then group_at groups c.args.comm else []) (le-leb _ _ (omega (arith, c.if-count_made_at-from.false, c.from.ensures, c.count_made_at.ensures))) in
    let failed = c.failed_at_point-failed.result.now in
    let failed_are = c.failed_at_point-failed.ensures ∙ ap (λ (ms : List ℕ). filter (has ms) seen.failures) members in
    let kept : get same_place old.rounds (c.args.comm, c.args.round, 0) ≡ Some done = sym c.in_ok-done.ensures.value in
    let apart : list_any (has (take done.failed failed)) (drop done.failed failed) ≡ false =
    ap (list_any (has (take done.failed failed))) (sym (rest_taken done.failed failed)) ∙ (sym c.have_common.ensures ∙ c.if-have_common.false) in
    let is = old.rounds_done c.args.comm c.args.round done kept in
    let holds = done_holds g.P.Meld.meld old.slots old.failures.items groups c.args.comm c.args.round c.args.point (count_by c.args.point old.failed_at.items) done failed is
    (omega (arith, c.if-point-done.false)) failed_are (omega (arith, c.if-failed-done.false)) apart in (
      ap (λ (ms : List ℕ). list_all (λ r. is_some (seen.slots (c.args.comm, c.args.round, r))) ms) members ∙ holds.0,
      holds.1 ∙ ap₂ (λ (ms fs : List ℕ). decided_by g.P.Meld.meld fs (filter_map (λ r. seen.slots (c.args.comm, c.args.round, r)) ms)) (sym members) c.failed_at_point-failed.ensures,
    )

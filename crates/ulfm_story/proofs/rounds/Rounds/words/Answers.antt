use Rattle.std.proofs.Common.{◌≡◌, false, is_some, map, ap, sym, rules, ◌∙◌}
use Rattle.std.specs.{HashMap.{get}, List.{list_all}}
use Rattle.ulfm_model.specs.History.{same_place}
use Rattle.ulfm_story.specs.Rounds.{ranks_of}
use Rattle.ulfm_story.proofs.Rounding.{undecided}
use Rattle.ulfm_story.proofs.rounds.Rounds.words.Goals as goal

pub returns-then-not-are_settled : goal.returns-then-not-are_settled
returns-then-not-are_settled g c = λ ranks h tells.
    let shut : c.are_settled.result ≡ false = search rules in
    let in_table = list_all (λ r. is_some (get same_place c.args.self.now.settled (c.args.comm, c.args.round, r))) in
    undecided ranks (map ranks_of c.args.self.now.groups.items) h (get same_place c.args.self.now.settled) c.args.comm c.args.round tells.groups tells.settled
    (ap in_table (sym c.group.ensures) ∙ (sym c.are_settled.ensures ∙ shut))

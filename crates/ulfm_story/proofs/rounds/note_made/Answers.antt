use Rattle.std.proofs.Common.{◌≡◌, ◌∷◌, ◌++◌, [], arith, length, map, ap, sym, subst, ◌∙◌}
use Rattle.std.proofs.lemmas.List.{length-map, map-append}
use Rattle.ulfm_model.specs.History.{members, says}
use Rattle.ulfm_story.specs.Rounds.{AreMembers, ranks_of}
use Rattle.ulfm_story.proofs.Rounding.{members_grow, members_kept}
use Rattle.ulfm_story.proofs.rounds.note_made.Goals as goal

pub returns-in_default : goal.returns-in_default
returns-in_default g c = λ h is are.
    subst (AreMembers c.args.ranks (map ranks_of c.args.groups.now.items)) (sym is)
    (members_kept c.args.ranks (map ranks_of c.args.groups.now.items) h c.args.entry.now are)

pub returns-in_default-number_of : goal.returns-in_default-number_of
returns-in_default-number_of g c = λ h is are.
    subst (AreMembers c.args.ranks (map ranks_of c.args.groups.now.items)) (sym is)
    (members_kept c.args.ranks (map ranks_of c.args.groups.now.items) h c.args.entry.now are)

pub returns : goal.returns
returns g c = λ h is are.
    let old = map ranks_of c.args.groups.now.items in
    let new = c.in_ok-group.group.items in
    let grown : map ranks_of c.push.new.self.items ≡ old ++ new ∷ [] = ap (map ranks_of) c.in_ok-push.ensures.items ∙ map-append ranks_of c.args.groups.now.items (c.in_ok-group.group ∷ []) in
    let number : c.in-Some.comm ≡ length old = omega (arith, c.in-Some.ensures, c.len.ensures, c.args.groups.now.ok.0, length-map c.args.groups.now.items ranks_of) in
    let made = members_grow c.args.ranks old h c.args.entry.now are (c.in-Spawn.parent, c.in-Spawn.round) new (ap (λ event. (says event).makes) c.in-Spawn.is)
    (c.in_ok-group.ensures ∙ ap (λ w. members c.args.ranks w c.in-Some.comm) is ∙ ap (members c.args.ranks (h ++ c.args.entry.now ∷ [])) number) in
    subst (AreMembers c.args.ranks (map ranks_of c.push.new.self.items)) (sym is) (subst (λ groups. AreMembers c.args.ranks groups (h ++ c.args.entry.now ∷ [])) (sym grown) made)

use Rattle.std.proofs.Common.{◌≡◌, ◌∷◌, ◌++◌, [], ℕ, Bool, true, false, List, ap, sym, subst, ◌∙◌, append-nil}
use Rattle.ulfm_laws.specs.Flags.{flag_meld}
use Rattle.ulfm_model.specs.declared.limits.Limits.{Limits}
use Rattle.ulfm_laws.specs.declared.flag_and.FlagAnd.{FlagAnd}
use Rattle.ulfm_numbers.specs.{Seen.{Seen}, Telling.{seen_at}}
use Rattle.ulfm_numbers.proofs.Seeing.{seen_now}
use Rattle.ulfm_replica.specs.Replays.{Feeds}
use Rattle.ulfm_audit.specs.Audits.{Takes}
use Rattle.ulfm_audit.specs.Texts.{entry_line, settled_lines}
use Rattle.ulfm_audit.proofs.Telling.{joined, takes_one}
use Rattle.ulfm_audit.proofs.auditing.Auditing.take_entry.Goals as goal

pub returns-then-not-branch-clause-takes : goal.returns-then-not-branch-clause-takes
returns-then-not-branch-clause-takes g c =
    let old = c.args.self.now.pass in
    let new = c.feed.new.pass in
    let e = c.args.entry.now in
    let text = c.args.self.now.text.items in
    let feeds = subst (λ (taken : Bool). Feeds flag_meld old.name.limits e taken old.seen new.seen) c.if-not-branch.true c.in_ok-feed.ensures.0.feeds in
    subst (λ (l : Limits). Takes l (e ∷ []) old.seen new.seen text text) (sym c.requires.limits_are)
    (takes_one old.name.limits e false old.seen new.seen text text feeds (sym (append-nil text)))

pub returns-clause-takes : goal.returns-clause-takes
returns-clause-takes g c =
    let old = c.args.self.now.pass in
    let new = c.feed.new.pass in
    let e = c.args.entry.now in
    let text = c.args.self.now.text.items in
    let last = c.print_settled.new.text.items in
    let feeds = subst (λ (taken : Bool). Feeds flag_meld old.name.limits e taken old.seen new.seen) c.if-not-branch.false c.in_ok-feed.ensures.0.feeds in
    let tells = c.in_ok-feed.ensures.1.tells in
    let seen = seen_now old.name.limits.ranks c.feed.new.numbers new.seen tells in
    let numbers = c.feed.new.numbers in
    let told = settled_lines (seen_at numbers numbers.count) e.event in
    let is : last ≡ text ++ (entry_line e ++ told) =
    c.in_ok-print_settled.ensures ∙ (ap (λ (t : List ℕ). t ++ told) c.in_ok-print_entry.ensures ∙ joined text (entry_line e) (told)) in
    subst (λ (l : Limits). Takes l (e ∷ []) old.seen new.seen text last) (sym c.requires.limits_are)
    (takes_one old.name.limits e true old.seen new.seen text last feeds (is ∙ ap (λ (s : Seen FlagAnd). text ++ (entry_line e ++ settled_lines s e.event)) seen))

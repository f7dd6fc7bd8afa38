use Rattle.std.proofs.Common.{rules, ◌≡◌, ◌∙◌, ap, ap₂, sym, Some, None}
use Rattle.std.specs.Prelude.{slice_get}
use Rattle.ulfm_filters.specs.RaceLines.{standing}
use Rattle.ulfm_filters.proofs.RaceLines.{get_is, one_more}
use Rattle.ulfm_filters.proofs.race_text.reply_at.Goals as goal

pub returns-in-Some : goal.returns-in-Some
returns-in-Some c =
    let list : c.deref.result.now ≡ c.said-item.result.items = search rules in
    let at : c.from.result ≡ c.args.place = search rules in
    let got = get_is c.deref.result.now c.from.result c.get.result c.get.ensures.lookup ∙ ap₂ slice_get list at in
    let stands : standing (slice_get c.said-item.result.items c.args.place) ≡ Some c.in-Some.reply = ap standing (sym got) ∙ (sym c.standing.ensures ∙ c.in-Some.is) in
    sym (one_more c.args.place c.args.replies.now c.loop-said.said-index c.said-item.result c.said-item.result (Some c.in-Some.reply) (search rules) (search rules) stands)
    ∙ c.loop-said.invariant

pub loop-said-preserved : goal.loop-said-preserved
loop-said-preserved c =
    let list : c.deref.result.now ≡ c.said-item.result.items = search rules in
    let at : c.from.result ≡ c.args.place = search rules in
    let got = get_is c.deref.result.now c.from.result c.get.result c.get.ensures.lookup ∙ ap₂ slice_get list at in
    let none : c.standing.result ≡ None = search rules in
    let stands : standing (slice_get c.said-item.result.items c.args.place) ≡ None = ap standing (sym got) ∙ (sym c.standing.ensures ∙ none) in
    sym (one_more c.args.place c.args.replies.now c.loop-said.said-index c.said-item.result c.said-item.result None (search rules) (search rules) stands)
    ∙ c.loop-said.invariant

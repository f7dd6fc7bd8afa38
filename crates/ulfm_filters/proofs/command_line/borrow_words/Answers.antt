use Rattle.std.proofs.Common.{◌≡◌, List, Option, Vec, map, Result, Ok, Err, IfOk, rules, string_bytes, ap, ◌∙◌}
use Rattle.std.proofs.lemmas.Iterator.{IsCollectResult, YieldsList, YieldsList-from_map_by, YieldsList-from_slice, items_from_drains}
use Rattle.ulfm_filters.proofs.command_line.borrow_words.Goals as goal

-- what the items of a chain show, where it is collected
shown_in : {S A B Z E : Type 0} {steps : S → Option A → S → Type 0} {v : A → B} {s : S} {all : List B} (r : Result (Vec A Z) E) → IsCollectResult steps s r → YieldsList steps v s all
    → IfOk r (λ w. map v w.items ≡ all)
shown_in {v = v} (Ok w) (xs, drains, is) road = ap (map v) is.0 ∙ items_from_drains xs drains road
shown_in (Err e) ran road = tt

pub returns : goal.returns
returns c =
    shown_in c.collect.result c.collect.ensures.ran (YieldsList-from_map_by _ (λ word. word.now) string_bytes (YieldsList-from_slice c.args.owned.now.items cc) (cc) (λ x r q k. search rules))

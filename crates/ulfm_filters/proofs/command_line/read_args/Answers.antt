use Rattle.std.proofs.Common.{rules, ◌≡◌, refl, length}
use Rattle.std.specs.Prelude.{vec_len}
use Rattle.std.specs.Vec.Iter.{into_iter_items, into_iter_len}
use Rattle.std.proofs.lemmas.Iterator.Adapters.{YieldsList-from_vec, fact_from_collect}
use Rattle.ulfm_filters.proofs.command_line.read_args.Goals as goal

pub returns-in-Ok-collect-clause-words : goal.returns-in-Ok-collect-clause-words
returns-in-Ok-collect-clause-words c =
    let size : into_iter_len c.in-Ok.args ≡ length (into_iter_items c.in-Ok.args) = search rules in
    let all = fact_from_collect (λ xs v. (v.items ≡ xs) × (vec_len v ≡ length xs)) c.collect.result c.collect.ensures.ran (YieldsList-from_vec {s = c.in-Ok.args} _ refl size) in
    let here = rw c.in-Ok-collect.is at all in
    rw c.in-Ok.is here.0

use Rattle.std.proofs.Common.{rules}
use Rattle.std.proofs.lemmas.Iterator.{YieldsList-from_map, YieldsList-from_slice}
use Rattle.std.proofs.lemmas.Iterator.Adapters.{items_from_extend}
use Rattle.ulfm_draw.specs.Markup.{plain_of}
use Rattle.ulfm_draw.proofs.filling.put_words.Goals as goal

pub returns : goal.returns
returns g c =
    let words = YieldsList-from_map _ plain_of (YieldsList-from_slice c.args.words.now cc) (cc) (λ x r q k. search rules) in
    let ran = items_from_extend c.extend.result c.extend.ensures.ran words in
    search rules

use Rattle.std.proofs.Common.{rules}
use Rattle.std.proofs.lemmas.Iterator.{YieldsList-from_map, YieldsList-from_slice}
use Rattle.std.proofs.lemmas.Iterator.Adapters.{items_from_extend}
use Rattle.ulfm_draw.specs.Columns.{column_of}
use Rattle.ulfm_draw.proofs.sheet.put_columns.Goals as goal

pub returns : goal.returns
returns g c =
    let columns = YieldsList-from_map _ column_of (YieldsList-from_slice c.args.columns.now cc) (cc) (λ x r q k. search rules) in
    let ran = items_from_extend c.extend.result c.extend.ensures.ran columns in
    search rules

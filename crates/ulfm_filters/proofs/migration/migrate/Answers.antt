use Rattle.ulfm_filters.proofs.Migrating.{migrates_ended}
use Rattle.ulfm_filters.proofs.migration.migrate.Goals as goal

pub returns-clause-migrates : goal.returns-clause-migrates
returns-clause-migrates g c =
    let k = g.R.Read.remaining in
    let w = g.W.Write.contents in
    migrates_ended (k c.args.reader.now) (w c.args.writer.now) (w c.run_text.new.writer) c.run_text.result c.end_of.result c.end_of.ensures c.run_text.ensures.all

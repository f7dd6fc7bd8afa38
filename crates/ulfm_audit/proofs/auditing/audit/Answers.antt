use Rattle.ulfm_audit.proofs.Telling.{text_cut}
use Rattle.ulfm_audit.proofs.auditing.audit.Goals as goal

pub returns-in-Ok-clause-audits : goal.returns-in-Ok-clause-audits
returns-in-Ok-clause-audits g c =
    let head = c.in-Some.head.now in
    let entries = c.in-Some.entries.now in
    record {
      limits = c.in-Some-read_head.limits;
      head = head;
      entries = entries;
      whole =
          text_cut (g.R.Read.remaining c.args.reader.now) c.in_ok-log.log.items c.as_slice.result.now head entries c.in_ok-log.ensures.whole c.as_slice.ensures.value
          c.in-Some.ensures.cases.0 c.in-Some.ensures.cases.1;
      is_head = c.in-Some-read_head.ensures;
      audits = c.in-Ok.ensures;
    }

use Rattle.std.proofs.Common.{IsTrue, subst, sym}
use Rattle.ulfm_observed.specs.declared.log.Seen.{Seen}
use Rattle.ulfm_observed.specs.Explains.{IsSeen}
use Rattle.ulfm_script.proofs.Same.{same_reply}
use Rattle.ulfm_observed.proofs.shows.is_seen.Goals as goal

pub returns-in-Whole : goal.returns-in-Whole
returns-in-Whole c = λ t.
    subst (λ (seen : Seen). IsSeen seen c.args.given.now) (sym c.in-Whole.is) (same_reply c.in-Whole.told c.args.given.now (subst IsTrue c.eq.ensures t))

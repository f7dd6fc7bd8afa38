use Rattle.std.proofs.Common.{IsTrue, subst, sym}
use Rattle.ulfm_laws.specs.declared.flag_and.FlagAnd.{FlagAnd}
use Rattle.ulfm_model.specs.declared.line.Line.{Line}
use Rattle.ulfm_observed.specs.declared.log.{Item.{Item}, Item.TheVariants.{Called}}
use Rattle.ulfm_observed.specs.Explains.{IsHeard}
use Rattle.ulfm_observed.proofs.Same.{same_call}
use Rattle.ulfm_observed.proofs.shows.is_heard.Goals as goal

pub returns-in-Called-line : goal.returns-in-Called-line
returns-in-Called-line c = λ t.
    subst (λ (item : Item). IsHeard item c.args.line.now) (sym c.in-Called.is)
    (subst (λ (line : Line FlagAnd). IsHeard (Called c.in-Called.call c.in-Called.padded) line) (sym c.in-Called-line.is)
    (same_call c.in-Called.call c.in-Called-line.other (subst IsTrue c.eq.ensures t)))

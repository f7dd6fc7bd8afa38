use Rattle.ulfm_laws.specs.Bodies.{body_lawful}
use Rattle.ulfm_laws.specs.Summaries.{summary_lawful}
use Rattle.ulfm_laws.proofs.meanings.bodies_and_summaries_are_lawful.Goals as goal

pub returns-clause-body : goal.returns-clause-body
returns-clause-body g c = body_lawful g.met.P.Meld.lawful

pub returns-clause-summary : goal.returns-clause-summary
returns-clause-summary g c = summary_lawful g.met.P.Meld.lawful

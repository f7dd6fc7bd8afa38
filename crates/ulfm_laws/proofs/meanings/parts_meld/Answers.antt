use Rattle.ulfm_laws.specs.Combined.{combined-append}
use Rattle.ulfm_laws.proofs.Several.{same_members}
use Rattle.ulfm_laws.proofs.meanings.parts_meld.Goals as goal

pub returns-clause-append : goal.returns-clause-append
returns-clause-append g c = combined-append g.met.P.Meld.lawful

pub returns-clause-members : goal.returns-clause-members
returns-clause-members g c = same_members g.met.P.Meld.lawful

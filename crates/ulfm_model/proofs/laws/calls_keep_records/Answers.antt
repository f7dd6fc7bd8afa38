use Rattle.ulfm_model.proofs.LeftRuns.{call_fits}
use Rattle.ulfm_model.proofs.laws.calls_keep_records.Goals as goal

pub returns : goal.returns
returns g c = λ limits alone before after own new asked reply. call_fits g.P.Meld.meld limits alone before after own asked reply new

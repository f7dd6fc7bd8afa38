use Rattle.ulfm_model.proofs.LeftSound.{new_sound, step_sound}
use Rattle.ulfm_model.specs.Answers.{traits_of}
use Rattle.ulfm_model.proofs.laws.states_stay_sound.Goals as goal

pub returns : goal.returns
returns g c = (new_sound g.P.Meld.meld, λ state new asked reply. step_sound g.P.Meld.meld state (traits_of asked).by asked reply new)

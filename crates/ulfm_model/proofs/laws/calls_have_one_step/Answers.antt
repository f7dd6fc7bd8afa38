use Rattle.ulfm_model.specs.Computed.{next}
use Rattle.ulfm_model.proofs.OnlyStep.{step_is_next}
use Rattle.ulfm_model.proofs.StepsNext.{next_is_step}
use Rattle.ulfm_model.proofs.laws.calls_have_one_step.Goals as goal

pub returns : goal.returns
returns g c = λ state sound may asked. let next = next g.P.Meld.meld state asked in record {
  reply = next.reply;
  next = next.state;
  is_step = next_is_step g.P.Meld.meld state sound may.in_range.ranks may.in_range.some_comms asked;
  only = step_is_next g.P.Meld.meld state sound asked;
}

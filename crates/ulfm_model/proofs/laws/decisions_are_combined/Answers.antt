use Rattle.std.proofs.lemmas.Bool.{lt-ltb, ltb-true}
use Rattle.std.proofs.Common.{ap, sym, ◌∙◌}
use Rattle.ulfm_model.specs.{History.{round}, Laws.{all_of}}
use Rattle.ulfm_model.proofs.Stable.{decision_is}
use Rattle.ulfm_model.proofs.laws.decisions_are_combined.Goals as goal

pub returns : goal.returns
returns g c = λ limits h comm k legal.
    let meld = g.P.Meld.meld in
    let is = decision_is meld limits h comm k legal in
    let all = all_of meld (round limits.ranks h comm k) in
    record {
      body = ap (λ d. d.body) is;
      failed_is = ap (λ d. d.failed) is;
      raised = (
        λ raised. ltb-true all.acked.count all.known.count (sym (ap (λ d. d.raised) is) ∙ raised),
        λ less. ap (λ d. d.raised) is ∙ lt-ltb all.acked.count all.known.count less,
      );
    }

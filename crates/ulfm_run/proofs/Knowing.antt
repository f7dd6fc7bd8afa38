-- What the lines say of a call, said of its rank as it is behind a step.
use Rattle.std.proofs.Common.{◌≡◌, Some, ◌∙◌, subst}
use Rattle.ulfm_model.specs.declared.{call.Call.{Call}, event.Caller.TheVariants.{Rank}}
use Rattle.ulfm_model.specs.{Records.{Record}, Traces.{Traced, Under, call_by, record_in}}
use Rattle.ulfm_words.specs.Steps.{Over, Sight}
use Rattle.ulfm_run.specs.Stepping.{KnowsCall}
use Rattle.ulfm_run.proofs.Reseen.{reseen}

-- of a rank with its number, whose call asks the same, where nothing more was seen
pub known_then : {P : Type 0} {name : Over P} {now : Traced P} {pass later : Sight P} {own new : Record} {asked other : Call P} {u : Under P} {old : Record}
    → KnowsCall name now pass own asked u old → own.number ≡ new.number → asked ≡ other → pass.seen ≡ later.seen → KnowsCall name now later new other u old
known_then {now = now} {u = u} {old = old} k number asks still =
    record {
      said = record {
        limits = k.said.limits;
        history = k.said.history ∙ still;
        call_is = subst (λ n. call_by now (Rank n) ≡ Some u) number k.said.call_is;
        seen = k.said.seen;
        record_is = subst (λ n. record_in now n ≡ Some (reseen old k.said.seen)) number k.said.record_is;
      };
      asked_is = k.asked_is ∙ asks;
      in_use = k.in_use;
    }

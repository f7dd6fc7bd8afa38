use Rattle.std.proofs.Common.{◌∙◌, Bool, Ok, Option, sym, ap}
use Rattle.clap.specs.Words.{found_of}
use Rattle.clap.proofs.WalkLemmas.{one_text-rows}
use Rattle.ulfm_command.proofs.Flags.{flag_is, is_true}
use Rattle.ulfm_command.proofs.reading.is_given.Goals as goal

pub returns-in-Ok-Some : goal.returns-in-Ok-Some
returns-in-Ok-Some c =
    let same = one_text-rows (found_of c.args.matches.now) c.args.name.now in
    sym (ap is_true (c.in-Ok-Some.is ∙ ap (λ (x : Option Bool). Ok x) c.in-Ok-Some.field-0-is)) ∙ flag_is _ _ c.try_get_one.result (λ e. c.try_get_one.ensures.none (same ∙ e)) (λ t e. c.try_get_one.ensures.value t (same ∙ e))

pub returns-in-Ok-None : goal.returns-in-Ok-None
returns-in-Ok-None c =
    let same = one_text-rows (found_of c.args.matches.now) c.args.name.now in
    sym (ap is_true (c.in-Ok-None.is ∙ ap (λ (x : Option Bool). Ok x) c.in-Ok-None.field-0-is)) ∙ flag_is _ _ c.try_get_one.result (λ e. c.try_get_one.ensures.none (same ∙ e)) (λ t e. c.try_get_one.ensures.value t (same ∙ e))

pub returns-in-Err : goal.returns-in-Err
returns-in-Err c =
    let same = one_text-rows (found_of c.args.matches.now) c.args.name.now in
    sym (ap is_true c.in-Err.is) ∙ flag_is _ _ c.try_get_one.result (λ e. c.try_get_one.ensures.none (same ∙ e)) (λ t e. c.try_get_one.ensures.value t (same ∙ e))

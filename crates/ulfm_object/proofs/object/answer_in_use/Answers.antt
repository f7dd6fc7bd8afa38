use Rattle.std.proofs.Common.{sym, ◌∙◌}
use Rattle.ulfm_model.specs.Kept.{record_of}
use Rattle.ulfm_object.proofs.ObjectSteps.{started_fits}
use Rattle.ulfm_object.proofs.object.answer_in_use.Goals as goal

-- what has started has a round whose next number fits
pub leave-requires : goal.leave-requires
leave-requires g c = λ x starts holds.
    started_fits g.P.Meld.meld c.args.limits c.args.log.now.items (record_of c.args.limits c.args.own.now) c.args.asked.now c.requires.may.in_range.rounds
    (sym (rw c.deref-2.ensures.value at c.in_ok-outcome.ensures.reply) ∙ starts) x holds

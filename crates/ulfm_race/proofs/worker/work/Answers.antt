use Rattle.std.proofs.Common.{◌≡◌, ◌<◌, ◌∙◌, Bool, IsTrue, sym, subst, refl}
use Rattle.std.specs.List.{list_any}
use Rattle.ulfm_laws.specs.Flags.{flag_meld}
use Rattle.ulfm_model.specs.{History.{IsLegal, failures, has}, Records.{Fits, new_record}}
use Rattle.ulfm_wait.specs.Turns.{member_of}
use Rattle.ulfm_race.specs.Races.{IsAnswered, WasLet, is_refused}
use Rattle.ulfm_race.specs.Worked.{Declares}
use Rattle.ulfm_race.proofs.Stopping.{fault_stops, given_holds, given_stops, if_err, if_ok, new_below, ok_anyhow, refused_stops, whole_goes_on}
use Rattle.ulfm_race.proofs.Turns.{answered_lasts}
use Rattle.ulfm_race.proofs.worker.work.Goals as goal

pub returns-clause-reports : goal.returns-clause-reports
returns-clause-reports g c =
    let plan = c.args.plan in
    let limits = c.args.world.now.limits in
    let number = c.args.rank.own.number in
    let may_say = g.G.Gate.may_say c.args.gate.now number in
    let rank = c.take_turns-ended.new.worker.rank.own in
    let replies = c.take_turns-ended.new.worker.replies.items in
    let ended = c.take_turns-ended.result in
    let said = c.give-said.result in
    let given = c.give-said.ensures.given in
    let seen = c.declare.new.pass.seen in
    let here = (c.told-told.ensures.all refl).0 in
    let below = new_below limits c.args.pass.seen c.args.rank.own number (subst (λ l. c.args.rank.own ≡ new_record l number) (sym c.requires.limits) c.requires.new) c.requires.own.fits in
    let same = c.number-number.ensures in
    let at_last : IsTrue c.is_stopped.result → IsTrue (has (failures c.told-told.result.seen) number) = λ stopped. subst (λ h. IsTrue (has (failures h) number)) (sym here)
    (subst (λ n. IsTrue (has (failures seen) n)) same (c.declare.ensures.declared stopped (subst (λ n. n < limits.ranks) (sym same) below))) in
    let legal = subst (λ l. IsLegal flag_meld l seen) c.requires.limits c.declare.ensures.own.of.legal in
    let lasts : (whole : Bool) → IsAnswered plan c.take_turns-ended.new.worker.pass.seen number rank replies → IsAnswered plan c.told-told.result.seen number rank replies = λ whole is.
    subst (λ h. IsAnswered plan h number rank replies) (sym here) (answered_lasts plan c.take_turns-ended.new.worker.pass.seen seen c.declare.ensures.seen legal number rank replies is) in
    record {
      name_is = c.told-told.ensures.name_is;
      legal = subst (IsLegal flag_meld limits) (sym here) c.declare.ensures.own.of.legal;
      fits = subst (λ h. Fits flag_meld limits h rank) (sym here) c.declare.ensures.own.fits;
      shown = c.give-said.ensures.shown;
      answered = given_holds (IsAnswered plan c.told-told.result.seen number rank) ended replies said given (if_ok ended lasts c.take_turns-ended.ensures.answered);
      asked = given_holds (WasLet may_say) ended replies said given c.take_turns-ended.ensures.asks;
      refused = given_holds (λ xs. IsTrue (list_any is_refused xs) → IsTrue (has (failures c.told-told.result.seen) number)) ended replies said given
          (ok_anyhow ended (λ refused. at_last (c.is_stopped.ensures ∙ refused_stops ended said (list_any is_refused replies) c.take_turns-ended.ensures.whole refused)));
      declared = if_err said (λ _ stopped. at_last (c.is_stopped.ensures ∙ stopped)) (fault_stops ended said);
      stops = given_stops may_say ended replies said given c.take_turns-ended.ensures.stops;
    }

pub returns-clause-works : goal.returns-clause-works
returns-clause-works g c =
    let name = c.args.world.now in
    let number = c.args.rank.own.number in
    let replies = c.take_turns-ended.new.worker.replies.items in
    let result = c.take_turns-ended.result in
    let said = c.give-said.result in
    let ended = member_of name c.take_turns-ended.new.worker.rank c.take_turns-ended.new.worker.pass in
    let stops = c.is_stopped.ensures in
    let declares : IsTrue c.is_stopped.result → Declares name number ended.view.pass c.declare.new.pass = λ stopped. subst (λ n. Declares name n ended.view.pass c.declare.new.pass) c.number-number.ensures (c.declare.ensures.once stopped) in
    record {
      end = result;
      said = replies;
      ended = ended;
      turns = c.take_turns-ended.ensures.turns;
      given = c.give-said.ensures.given;
      own_is = refl;
      after = c.declare.new.pass;
      refused = λ refused. declares (stops ∙ refused_stops result said (list_any is_refused replies) c.take_turns-ended.ensures.whole refused);
      faulted = if_err said (λ _ stopped. declares (stops ∙ stopped)) (fault_stops result said);
      alone = if_ok said (λ _ goes whole. c.declare.ensures.alone (stops ∙ goes whole)) (whole_goes_on result replies said (list_any is_refused replies) c.give-said.ensures.given c.take_turns-ended.ensures.whole);
      told_is = (c.told-told.ensures.all refl).0;
    }

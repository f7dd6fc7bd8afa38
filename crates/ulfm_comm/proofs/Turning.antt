-- A call's turn behind its look.
use Rattle.std.proofs.Common.{◌≡◌, Bool, true, false}
use Rattle.ulfm_model.specs.Terms.{comm_of}
use Rattle.ulfm_comm.specs.{Known.{KnowsIn, KnowsNext}, StepsLeft.{FewerLeft, MakesStep, Spends, steps_left}}
use Rattle.ulfm_comm.specs.{AlsoLeft.{AlsoTurns}, Local.{Local, stance_of}, Prepared.{Prepared}, declared.phases.phase.Next.{Next}}
use Rattle.ulfm_comm.specs.Phase.{IsFurther, LeadsTo, Turns, UnderWay, is_looking, next_step, reply_in}
use Rattle.ulfm_comm.specs.Step.{StepAdds, StepSees, TakesTurn, TriesTurn, Walks, coming}

-- a turn in a phase that isn't of the look, and whose steps add nothing
pub turn_past : {P : Type 0} {meld : P → P → P} {quiet whole : Bool} {was : UnderWay P} {old : Local P} {next : Next P} {left : Prepared} {new : Local P}
    → is_looking was.phase ≡ false → Walks meld quiet old.own.number old.view new.view → TriesTurn quiet was old next new
    → (whole ≡ false → MakesStep (next_step was.phase) old.own.number (comm_of was.asked) old.view.pass new.view.pass
    × FewerLeft (steps_left new.view.words.limits old.own was.asked was.phase) new.view.words.limits new.own was.asked next)
    → Spends (steps_left new.view.words.limits old.own was.asked was.phase) new.view.words.limits new.own was.asked next old.view.pass new.view.pass
    → AlsoTurns new.view.words.limits was.asked was.phase (stance_of old) next (stance_of new) → (whole ≡ true → IsFurther was.phase next)
    → StepAdds quiet old.own was.asked was.phase (reply_in next) old.view.pass.seen new.view.pass.seen
    → StepSees was.phase old.own.seen new.own.seen
    → (KnowsIn old.own was.asked old.view.pass.cached was.phase → KnowsNext old.own was.asked new.view.pass.cached next) → LeadsTo was.phase next
    → Turns meld quiet was old next left new → TakesTurn meld quiet whole was old (coming next left) new
turn_past behind walks beside single spends also further adds sees knows leads turns =
    record {
      walks = walks;
      beside = beside;
      named = λ one. (single one).0;
      nearer = λ one. (single one).1;
      spends = spends;
      also = also;
      further = further;
      adds = λ one. adds;
      sees = sees;
      looks = λ looking. absurd (cc (looking, behind));
      knows = knows;
      leads = leads;
      turns = turns;
    }

-- What running on came to, behind some steps.
use Rattle.std.proofs.Common.{◌≡◌, Option, None, Some, refl, sym, ◌∙◌, ap, subst}
use Rattle.ulfm_model.specs.declared.{reply.Reply.{Reply}}
use Rattle.ulfm_comm.specs.Phase.{UnderWay}
use Rattle.ulfm_replica.specs.Replicas.{Calling, ComesTo, IsCalling, KeepsCall, Rules, Since, SinceIn, StandsIn}
use Rattle.ulfm_replica.specs.declared.answers.Ran.{Ran}
use Rattle.ulfm_replica.specs.declared.answers.Ran.TheVariants as ran

module _ {P : Type 0} (by : Rules P) (old mid : Calling P) (keeps : KeepsCall by old mid) (same : old.call ≡ None → mid ≡ old) where
  -- a call's keeping, then another's
  pub keeps_then : (new : Calling P) → KeepsCall by mid new → KeepsCall by old new
  keeps_then new second =
      record {
        words = second.words ∙ keeps.words;
        idle = λ none. second.idle (ap (λ (r : Calling P). r.call) (same none) ∙ none) ∙ keeps.idle none;
        since = λ began before asked u. second.since began before asked (keeps.since began before asked u);
      }

  -- a call that is under way doesn't vanish
  stays : IsCalling by old → (doing : UnderWay P) → old.call ≡ Some doing → mid.call ≡ None → mid.reply ≡ None → {X : Type 0} → X
  stays is doing under none no_reply =
      let may = (subst (λ (o : Option (UnderWay P)). StandsIn by old o old.reply) under is.stands).1 in
      let since : Since by may.0 may.1 doing.asked old = subst (λ (o : Option (UnderWay P)). SinceIn by may.0 may.1 doing.asked old o old.reply) (sym under) (refl, may.2, may.3, may.4) in
      let after = keeps.since may.0 may.1 doing.asked since in
      absurd (subst (λ (r : Option (Reply P)). SinceIn by may.0 may.1 doing.asked mid None r) no_reply (subst (λ (o : Option (UnderWay P)). SinceIn by may.0 may.1 doing.asked mid o mid.reply) none after))

  pub comes_then : IsCalling by old → (what : Ran P) (new : Calling P) → ComesTo by mid what new → ComesTo by old what new
  comes_then is ran.Idle new p = by_call old.call refl
    where
      by_call : (o : Option (UnderWay P)) → old.call ≡ o → ComesTo by old ran.Idle new
      by_call None none =
          let here = same none in
          (none, ap (λ (r : Calling P). r.reply) (sym here) ∙ p.1, p.2 ∙ here)
      by_call (Some doing) under = stays is doing under p.0 p.1
  comes_then is (ran.Wants entry) new p = (p.0, keeps_then new p.1)
  comes_then is (ran.Answered reply) new p = (p.0, p.1, λ began before asked u. p.2 began before asked (keeps.since began before asked u))

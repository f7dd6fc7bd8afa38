-- What a round decides matters to a reply only where that doesn't say that the request stays open, and whether it is pending only there.
use Rattle.std.proofs.Common.{◌≡◌, ℕ, Bool, true, false, Some, if◌then◌else◌, refl, ap, ap₂, ◌∙◌}
use Rattle.ulfm_model.specs.declared.reply.Reply.{Reply}
use Rattle.ulfm_model.specs.{History.{Decision}, Records.{Held}, declared.call.Request.{Request}}
use Rattle.ulfm_judge.specs.CallsAt.{CallAt}
use Rattle.ulfm_judge.specs.ReplyTests.{agree_test, pending_said, pending_test, polled_test, shrink_test}
use Rattle.ulfm_numbers.specs.Seen.{decision_in, is_decided_in}

-- such a reply is the one that says so
pub said_pending : {P : Type 0} (reply : Reply P) → pending_said reply ≡ true → reply ≡ Reply.Pending
said_pending Reply.Pending said = refl
said_pending _ said = absurd (cc said)

pub late_agree : {P : Type 0} (pack : P → ℕ) (late other decided : Bool) (made : Decision P) (reply : Reply P) → pending_said reply ≡ false
    → agree_test pack late decided made reply ≡ agree_test pack other decided made reply
late_agree pack late other decided made Reply.Pending said = absurd (cc said)
late_agree pack late other decided made _ said = refl

pub late_shrink : {P : Type 0} (call : CallAt P) (c k : ℕ) (late other decided : Bool) (made : Decision P) (reply : Reply P) → pending_said reply ≡ false
    → shrink_test call c k late decided made reply ≡ shrink_test call c k other decided made reply
late_shrink call c k late other decided made Reply.Pending said = absurd (cc said)
late_shrink call c k late other decided made _ said = refl

-- the poll of a round that agrees, or that shrinks
module _ {P : Type 0} (meld : P → P → P) (pack : P → ℕ) (call : CallAt P) (x : Held) (k : ℕ) where
  abbrev pub polled : Bool → Reply P → Bool
  polled shrinks = polled_test meld pack call x (Some (if shrinks then Request.Shrink k else Request.Agree k))

  pub polled_pending : (shrinks : Bool) (reply : Reply P) → reply ≡ Reply.Pending → polled shrinks reply ≡ pending_test call.look call.seen x k
  polled_pending true reply is = ap (polled true) is
  polled_pending false reply is = ap (polled false) is

  pub polled_made : (shrinks decided : Bool) (made : Decision P) (reply : Reply P) → pending_said reply ≡ false
      → decided ≡ is_decided_in call.seen x.comm k → made ≡ decision_in meld call.seen x.comm k
      → (if shrinks then shrink_test call x.comm k false decided made reply else agree_test pack false decided made reply) ≡ polled shrinks reply
  polled_made true decided made reply said is same =
      let late = pending_test call.look call.seen x k in
      late_shrink call x.comm k false late decided made reply said ∙ ap₂ (λ (d : Bool) (m : Decision P). shrink_test call x.comm k late d m reply) is same
  polled_made false decided made reply said is same =
      let late = pending_test call.look call.seen x k in
      late_agree pack false late decided made reply said ∙ ap₂ (λ (d : Bool) (m : Decision P). agree_test pack late d m reply) is same

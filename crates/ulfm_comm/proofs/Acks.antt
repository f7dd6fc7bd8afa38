-- Queries of the failed group, and acknowledgements: calls that look and do nothing else.
use Rattle.std.proofs.Common.{◌≡◌, ℕ, Bool, false, [], length, filter, max, min, take, Some, refl, ap, ◌∙◌}
use Rattle.ulfm_model.specs.declared.call.Call.TheVariants as call
use Rattle.ulfm_model.specs.declared.{call.Call.{Call}, limits.Limits.{Limits}, reply.Reply.{Reply}, reply.Reply.TheVariants.{Acked, FailedGroup}}
use Rattle.ulfm_model.specs.Answers.{Replies, Traits, first_refusal, left_by, most_failures, plain, refusal_on, traits_of}
use Rattle.ulfm_model.specs.{History.{History, IsLegal, failed, failures, has}, Records.{Fits, Held, Record, held_at, with_held}}
use Rattle.ulfm_model.specs.{Records.{moment}, Terms.{comm_of}}
use Rattle.ulfm_words.proofs.Trails.{did_none}
use Rattle.ulfm_comm.specs.{Ends.{IsEndRun}, Look.{Looked}}
use Rattle.ulfm_comm.proofs.{Holding.{failed_is}, WholeCall.{held_before, replied}}

module _ {P : Type 0} (meld : P → P → P) (limits : Limits) (alone : Bool) (before look : History P) (old mid : Record)
    (looked : Looked alone before look old mid) (legal : IsLegal meld limits look) (fits : Fits meld limits look mid)
    (rank c : ℕ) (x : Held) (held : held_at mid c ≡ Some x) where
  -- a call that only looks, with a reply to what its look found
  looks_is : (asked : Call P) → traits_of asked ≡ plain rank c → (reply : Reply P) (new : Record)
      → Replies meld limits (record { look = failures look; history = look; own = []; spread = false }) old x asked reply
      → new ≡ left_by limits.ranks look mid asked reply → IsEndRun meld limits alone (moment old before) asked reply (moment new look)
  looks_is asked is reply new replies left =
      let at : held_at old (comm_of asked) ≡ Some x = ap (λ (t : Traits). held_at old t.comm) is
      ∙ held_before meld limits alone before look old mid looked c (Some x) held in
      replied meld limits alone before look old mid looked look [] asked reply new x (did_none alone look) legal at
      (ap (λ w. refusal_on {P = P} old w asked) at ∙ ap (λ (t : Traits). first_refusal (t.tests old x)) is) tt replies left
      (λ here polls. let none = ap (λ (t : Traits). t.polls) is in absurd (cc (polls, none)))

  -- the failed group that it found
  group_is : filter (has x.group) (failures look) ≡ failed limits.ranks look c
  group_is = failed_is meld limits look mid c x fits held

  -- it has so many ranks
  pub get_failed_is : (n : ℕ) → n ≡ length (filter (has x.group) (failures look))
      → IsEndRun meld limits alone (moment old before) (call.GetFailed rank c) (FailedGroup n) (moment mid look)
  get_failed_is n counted = looks_is (call.GetFailed rank c) refl (FailedGroup n) mid (refl, ap FailedGroup (counted ∙ ap length group_is)) refl

  -- so many of them are acknowledged
  pub get_acked_is : (n : ℕ) → n ≡ length (take x.acked (filter (has x.group) (failures look)))
      → IsEndRun meld limits alone (moment old before) (call.FailureGetAcked rank c) (FailedGroup n) (moment mid look)
  get_acked_is n counted =
      looks_is (call.FailureGetAcked rank c) refl (FailedGroup n) mid
      (refl, ap FailedGroup (counted ∙ ap (λ group. length (take x.acked group)) group_is)) refl

  -- so many failures are acknowledged: those asked for that are known, and no fewer than before
  pub ack_failed_is : (asked n : ℕ) (new : Record) → n ≡ max x.acked (min asked (length (filter (has x.group) (failures look))))
      → new ≡ with_held mid c (λ y. record y { acked = n })
      → IsEndRun meld limits alone (moment old before) (call.Ack rank c asked) (Acked n) (moment new look)
  ack_failed_is asked n new counted is =
      looks_is (call.Ack rank c asked) refl (Acked n) new
      (refl, ap Acked (counted ∙ ap (λ group. max x.acked (min asked (length group))) group_is)) is

  -- .. where all are asked for
  pub failure_ack_is : (n : ℕ) (new : Record) → n ≡ max x.acked (min most_failures (length (filter (has x.group) (failures look))))
      → new ≡ with_held mid c (λ y. record y { acked = n })
      → IsEndRun meld limits alone (moment old before) (call.FailureAck rank c) (Acked n) (moment new look)
  failure_ack_is n new counted is =
      looks_is (call.FailureAck rank c) refl (Acked n) new
      (refl, ap Acked (counted ∙ ap (λ group. max x.acked (min most_failures (length group))) group_is)) is

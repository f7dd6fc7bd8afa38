-- A poll after another member's poll of the same round was answered.
use Rattle.std.proofs.Common.{◌≡◌, ℕ, ◌+◌, ◌-◌, ◌≤◌, Bool, true, false, length, Some, IsTrue, is_some, if◌then◌else◌, refl, ap, sym, ◌∙◌, subst, arith}
use Rattle.std.specs.Prelude.{Option, Result}
use mathlib.Core.List.{IsPrefix}
use Rattle.ulfm_model.specs.declared.call.Call.TheVariants as call
use Rattle.ulfm_model.specs.declared.{call.Call.{Call}, call.Request.{Request}, call.Request.TheVariants.{Agree}, limits.Limits.{Limits}, refusal.Refusal.{Refusal}}
use Rattle.ulfm_model.specs.{Answers.{refusal_of}, History.{members}, Records.{Held, Record, held_at}, Terms.{request_of}}
use Rattle.ulfm_model.proofs.{Histories.{members_stay}, Lists.{prefix_trans}}
use Rattle.ulfm_words.specs.Steps.{Heard, Tells}
use Rattle.ulfm_steps.specs.Blocks.{AllSet}
use Rattle.ulfm_steps.proofs.KnownBlocks.{all_later}
use Rattle.ulfm_comm.specs.{Bound.{also_bound, also_call_bound}, Requests.{BlocksStand}, StepsLeft.{group_of}}
use Rattle.ulfm_comm.specs.declared.calls.polled.Polled.{Polled}
use Rattle.ulfm_comm.proofs.{Holding.{exists_is, group_is}, Known.{round_known}}
use Rattle.ulfm_wait.specs.{InTurn.{IsShort}, Members.{IsMember, MemberLearns, MemberPolls, Membership, view_in, setting_of}}

-- the second column's bound on the poll of an agree
bound_is : (P : Type 0) (limits : Limits) (own : Record) (rank c k f : ℕ) (x : Held) → held_at own c ≡ Some x → x.request ≡ Some (Agree k) → also_bound {P = P} limits own (call.Poll rank c) f ≤ f + 5
bound_is P limits own rank c k f x held open_is = go own.refused (is_some (refusal_of {P = P} own (call.Poll rank c))) (request_of (held_at own c)) (ap request_of held ∙ open_is)
  where
    go : (a b : Bool) (request : Option Request) → request ≡ Some (Agree k) → (if a then 0 else (if b then f + 1 else also_call_bound {P = P} f (length (group_of (held_at own c))) limits.comms request (call.Poll rank c))) ≤ f + 5
    go true b request is = omega arith
    go false true request is = omega arith
    go false false request is = rw is (omega arith)

module _ {P : Type 0} (meld : P → P → P) (pack : P → ℕ) (alone tells : Bool) (c : ℕ) (first by : Membership P) (result : Result (Polled P) Refusal) (second mid new : Membership P) (answer : Result (Polled P) Refusal) (told : Heard P)
    (fit : IsMember meld pack first) (polls : MemberPolls (setting_of meld pack alone) c first result by) (telling : Tells tells (view_in pack by.view) told) (learns : MemberLearns (setting_of meld pack alone) told second mid) (still : IsMember meld pack mid)
    (second_polls : MemberPolls (setting_of meld pack alone) c mid answer new) (names : first.view.words ≡ second.view.words) where
  -- what the first had seen the second has seen
  begins : IsTrue tells → IsPrefix first.view.pass.seen mid.view.pass.seen
  begins all =
      let look = polls.steps.made.look in
      let whole = prefix_trans first.view.pass.seen polls.steps.made.looked.seen by.view.pass.seen look.begins.0 look.goes_on.0 in
      prefix_trans first.view.pass.seen by.view.pass.seen mid.view.pass.seen whole (subst (λ h. IsPrefix h mid.view.pass.seen) (telling.all all).0 learns.learns.hears)

  knows : IsTrue tells → IsPrefix by.view.pass.cached mid.view.pass.cached
  knows all = subst (λ bs. IsPrefix bs mid.view.pass.cached) (telling.all all).1 learns.learns.hears_cached

  pub is_short : IsTrue tells → IsShort c first result second new
  is_short all k opens also_opens answered =
      let limits = mid.view.words.limits in
      let same_name : first.view.words ≡ mid.view.words = names ∙ sym learns.words in
      let own : mid.own ≡ second.own = learns.own in
      let x = opens.x in
      let y = also_opens.x in
      let held : held_at mid.own c ≡ Some y = ap (λ (w : Record). held_at w c) own ∙ also_opens.held in
      let ranks = ap (λ n. n.limits.ranks) same_name in
      let exists = exists_is meld first.view.words.limits first.view.pass.seen first.own c x fit.fits opens.held in
      let stay = members_stay limits.ranks first.view.pass.seen mid.view.pass.seen c (begins all) exists in
      let made = second_polls.steps.made in
      let set : AllSet by.view.pass.cached c k x.group = polls.polls.blocks.knows answered x false k opens.held opens.open_is in
      let first_group = group_is meld first.view.words.limits first.view.pass.seen first.own c x fit.fits opens.held in
      let group_now = group_is meld limits mid.view.pass.seen mid.own c y still.fits held in
      let group : x.group ≡ y.group = first_group ∙ (ap (λ n. members n first.view.pass.seen c) ranks ∙ (sym stay.1 ∙ sym group_now)) in
      let looked = made.looked.cached in
      let longer = prefix_trans by.view.pass.cached mid.view.pass.cached looked (knows all) made.look.begins.1 in
      let asked : Call P = call.Poll mid.own.number c in
      let is : asked ≡ call.Poll mid.own.number c = refl in
      let here : c ≡ c = refl in
      let stand : BlocksStand mid.own asked looked = round_known {P = P} mid.own asked mid.own.number is y held false k also_opens.open_is c here x.group group looked (all_later by.view.pass.cached looked c k x.group longer set) in
      let also = made.also stand in
      let last = second_polls.steps.last in
      let bound = bound_is P limits mid.own mid.own.number c k (length new.own.seen - length mid.own.seen) y held also_opens.open_is in
      omega (arith, also, last, bound, ap (λ (w : Record). length w.seen) own)

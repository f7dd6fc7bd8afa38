-- What turns of calls leave of the words that no event sets.
use Rattle.std.proofs.Common.{◌≡◌, ◌⊎◌, inl, inr, ℕ, Bool, true, List, [], ◌∷◌, ◌++◌, Some, ap, sym, ◌∙◌, subst, IsTrue}
use Rattle.std.specs.List.{Contains}
use Rattle.std.specs.Prelude.{Result, Ok, Err}
use mathlib.Core.List.{IsPrefix}
use Rattle.ulfm_model.specs.declared.{block.Wing.{Wing}, call.Call.{Call}, contribution.Offer.{Offer}, contribution.Slot.TheVariants.{Given, Mark as Marking}}
use Rattle.ulfm_model.specs.{Answers.{polled_by}, History.{History}, Records.{Held, Record, held_at}, Terms.{comm_of}}
use Rattle.ulfm_model.proofs.Histories.{slot_stays}
use Rattle.ulfm_words.specs.declared.{accesses.Settled.{Settled}, accesses.Settled.TheVariants.{Contributed, Marked}, step.Site.{Site}}
use Rattle.ulfm_words.specs.Steps.{IsOfBlock, TriesFurther, View}
use Rattle.ulfm_words.proofs.Trails.{did_prefix}
use Rattle.ulfm_words.proofs.Tried.{tried_or, tries_as, tries_none, tries_one, tries_then}
use Rattle.ulfm_steps.specs.Settles.{WasTried}
use Rattle.ulfm_comm.specs.{Exchange.{Settles}, Local.{Local}, Phase.{UnderWay, under_way}, Requests.{is_agreement}, Step.{TriesTurn}, Wings.{IsOwnPlace, IsPlaceSet, MayTry, WingsIn, WingsNext, WingsSettled}}
use Rattle.ulfm_comm.specs.declared.{phases.phase.Next.{Next}, phases.phase.Next.TheVariants.{Ends, Goes}, phases.phase.Phase.{Phase}, phases.phase.Phase.TheVariants.{Settling}}
use Rattle.ulfm_comm.specs.Prepared.{Prepared}

-- what a call may try rests on nothing of its record that a look changes
pub may_try_seen : {P : Type 0} (own : Record) (seen : List ℕ) (asked : Call P) (s : Site) → MayTry (record own { seen = seen }) asked s → MayTry own asked s
may_try_seen own seen asked (Site.Place place) may = may
may_try_seen own seen asked (Site.Block block) may = may
may_try_seen own seen asked (Site.Wing (Wing.Slot c k r)) may = record { contributes = may.contributes; x = may.x; held = may.held; comm = may.comm; round = may.round; rank = may.rank }
may_try_seen own seen asked (Site.Wing (Wing.Block block)) may = may

pub try_seen : {P : Type 0} (own mid : Record) (seen : List ℕ) (asked : Call P) (a b : List Site) → mid ≡ record own { seen = seen } → TriesFurther (MayTry mid asked) a b → TriesFurther (MayTry own asked) a b
try_seen own mid seen asked a b same tries = tries_as a b (may_try_seen own seen asked) (subst (λ (w : Record). TriesFurther (MayTry w asked) a b) same tries)

module _ {P : Type 0} (now after : View P) (begins : IsPrefix now.pass.seen after.pass.seen) where
  -- a place that is set stays so
  pub set_stays : (c k r : ℕ) → IsPlaceSet now c k r → IsPlaceSet after c k r
  set_stays c k r set = (set.0, slot_stays now.pass.seen after.pass.seen c k r set.0 begins set.1)

  -- where no rank's wing was tried, wings stand as they stood
  pub wings_stay : (May : Site → Type 0) → ((c k r : ℕ) → May (Site.Wing (Wing.Slot c k r)) → ⊥) → TriesFurther May now.pass.caches after.pass.caches → WingsSettled now → WingsSettled after
  wings_stay May never tries settled c k r tried = by (tried_or now.pass.caches after.pass.caches (Site.Wing (Wing.Slot c k r)) tries tried)
    where
      by : Contains now.pass.caches (Site.Wing (Wing.Slot c k r)) ⊎ May (Site.Wing (Wing.Slot c k r)) → IsPlaceSet after c k r
      by (inl before) = set_stays c k r (settled c k r before)
      by (inr may) = absurd (never c k r may)

-- where each wing has its place, so it is in whatever comes next
pub wings_next : {P : Type 0} (own : Record) (asked : Call P) (next : Next P) (view : View P) → WingsSettled view → WingsNext own asked next view
wings_next own asked (Ends reply) view settled = settled
wings_next own asked (Goes (Settling request offer)) view settled = λ c k r tried. inl (settled c k r tried)
wings_next own asked (Goes _) view settled = settled

module _ {P : Type 0} (quiet : Bool) (was : UnderWay P) (old : Local P) (next : Next P) (new : Local P) (simple : WingsIn old.own was.asked was.phase old.view → WingsSettled old.view)
    (begins : IsPrefix old.view.pass.seen new.view.pass.seen) where
  -- a turn that tries none
  pub turn_same : new.view.pass.caches ≡ old.view.pass.caches → TriesTurn quiet was old next new
  turn_same same = record {
    caches = tries_none old.view.pass.caches new.view.pass.caches same;
    wings = λ here wings. wings_next new.own was.asked next new.view
        (wings_stay old.view new.view begins (λ _. ⊥) (λ c k r never. never) (tries_none old.view.pass.caches new.view.pass.caches same) (simple wings));
  }

  -- .. blocks' words alone
  pub turn_blocks : is_agreement (polled_by old.own was.asked) ≡ true → TriesFurther IsOfBlock old.view.pass.caches new.view.pass.caches → TriesTurn quiet was old next new
  turn_blocks polls tries = record {
    caches = tries_as old.view.pass.caches new.view.pass.caches may tries;
    wings = λ here wings. wings_next new.own was.asked next new.view (wings_stay old.view new.view begins IsOfBlock (λ c k r never. never) tries (simple wings));
  }
    where
      may : (s : Site) → IsOfBlock s → MayTry old.own was.asked s
      may (Site.Place place) of = of
      may (Site.Block block) of = polls
      may (Site.Wing (Wing.Slot c k r)) of = absurd of
      may (Site.Wing (Wing.Block block)) of = polls

-- the exchange of a call's own wing: it is the only one without its place
module _ {P : Type 0} (quiet : Bool) (was : UnderWay P) (old new : Local P) (simple : WingsIn old.own was.asked was.phase old.view → WingsSettled old.view) (begins : IsPrefix old.view.pass.seen new.view.pass.seen)
    (c k r : ℕ) (own_place : IsOwnPlace old.own was.asked c k r) (is : new.view.pass.caches ≡ old.view.pass.caches ++ Site.Wing (Wing.Slot c k r) ∷ []) where
  tries : TriesFurther (MayTry old.own was.asked) old.view.pass.caches new.view.pass.caches
  tries = tries_one old.view.pass.caches new.view.pass.caches (Site.Wing (Wing.Slot c k r)) is own_place

  -- where it was set by this step, the call goes on to its place
  pub turn_spreads : new.own ≡ old.own → (request : _) (offer : Offer P) → TriesTurn quiet was old (Goes (Settling request offer)) new
  turn_spreads same request offer = record { caches = tries; wings = λ here wings d l s tried. by d l s wings (tried_or old.view.pass.caches new.view.pass.caches (Site.Wing (Wing.Slot d l s)) tries tried) }
    where
      by : (d l s : ℕ) → WingsIn old.own was.asked was.phase old.view → Contains old.view.pass.caches (Site.Wing (Wing.Slot d l s)) ⊎ IsOwnPlace old.own was.asked d l s → IsPlaceSet new.view d l s ⊎ IsOwnPlace new.own was.asked d l s
      by d l s wings (inl before) = inl (set_stays old.view new.view begins d l s (simple wings d l s before))
      by d l s wings (inr own) = inr (subst (λ (w : Record). IsOwnPlace w was.asked d l s) (sym same) own)

  -- where it stood, it was tried before, so that its place is set
  pub turn_stood : (reply : _) → (IsTrue quiet → WasTried old.view c k r) → TriesTurn quiet was old (Ends reply) new
  turn_stood reply before = record { caches = tries; wings = λ here wings d l s tried. by here d l s wings (tried_or old.view.pass.caches new.view.pass.caches (Site.Wing (Wing.Slot d l s)) (only here) tried) }
    where
      -- (the one that is tried once more was tried before)
      only : IsTrue quiet → TriesFurther (λ s. Contains old.view.pass.caches s) old.view.pass.caches new.view.pass.caches
      only here = tries_one old.view.pass.caches new.view.pass.caches (Site.Wing (Wing.Slot c k r)) is (before here)

      by : IsTrue quiet → (d l s : ℕ) → WingsIn old.own was.asked was.phase old.view → Contains old.view.pass.caches (Site.Wing (Wing.Slot d l s)) ⊎ Contains old.view.pass.caches (Site.Wing (Wing.Slot d l s)) → IsPlaceSet new.view d l s
      by here d l s wings (inl tried) = set_stays old.view new.view begins d l s (simple wings d l s tried)
      by here d l s wings (inr tried) = set_stays old.view new.view begins d l s (simple wings d l s tried)

-- what settled a place has set it
pub settles_set : {P : Type 0} (alone : Bool) (now : History P) (view : View P) (own : Record) (x : Held) (offer : Offer P) (result : Result (Unit {0}) Settled)
    → Settles alone now view.pass.seen own x offer result → IsPlaceSet view x.comm x.next_agreement own.number
settles_set alone now view own x offer (Ok _) given = (Given given.given, given.stands)
settles_set alone now view own x offer (Err Marked) was = (Marking was.stands.0, was.stands.1)
settles_set alone now view own x offer (Err Contributed) was = (Given was.stands.0, was.stands.1)

-- the exchange of the place behind it
pub turn_settles : {P : Type 0} (quiet : Bool) (was : UnderWay P) (request : _) (offer : Offer P) (old : Local P) (reply : _) (new : Local P) → was.phase ≡ Settling request offer → IsPrefix old.view.pass.seen new.view.pass.seen
    → new.view.pass.caches ≡ old.view.pass.caches → (x : Held) → held_at old.own (comm_of was.asked) ≡ Some x → IsPlaceSet new.view x.comm x.next_agreement old.own.number → TriesTurn quiet was old (Ends reply) new
turn_settles {P} quiet was request offer old reply new at begins same x held set = record {
  caches = tries_none old.view.pass.caches new.view.pass.caches same;
  wings = λ here wings c k r tried. by c k r (subst (λ p. WingsIn old.own was.asked p old.view) at wings c k r (subst (λ l. Contains l (Site.Wing (Wing.Slot c k r))) same tried));
}
  where
    one : (y : Held) → held_at old.own (comm_of was.asked) ≡ Some y → x ≡ y
    one y is = let both : Some x ≡ Some y = sym held ∙ is in cc both

    by : (c k r : ℕ) → IsPlaceSet old.view c k r ⊎ IsOwnPlace old.own was.asked c k r → IsPlaceSet new.view c k r
    by c k r (inl before) = set_stays old.view new.view begins c k r before
    by c k r (inr own) =
        let it = one own.x own.held in
        let comm : x.comm ≡ c = ap (λ (y : Held). y.comm) it ∙ sym own.comm in
        let round : x.next_agreement ≡ k = ap (λ (y : Held). y.next_agreement) it ∙ sym own.round in
        subst (λ n. IsPlaceSet new.view c k n) (sym own.rank) (subst (λ n. IsPlaceSet new.view c n old.own.number) round (subst (λ n. IsPlaceSet new.view n x.next_agreement old.own.number) comm set))

-- turns after one another
pub turns_then : {P : Type 0} (quiet : Bool) (asked : Call P) (first middle : Phase P) (begun left : Prepared) (old mid : Local P) (next : Next P) (new : Local P) → mid.own ≡ record old.own { seen = mid.own.seen }
    → TriesTurn quiet (under_way asked first begun) old (Goes middle) mid → TriesTurn quiet (under_way asked middle left) mid next new → TriesTurn quiet (under_way asked first begun) old next new
turns_then quiet asked first middle begun left old mid next new kept one two = record {
  caches = tries_then old.view.pass.caches mid.view.pass.caches new.view.pass.caches one.caches (try_seen old.own mid.own mid.own.seen asked mid.view.pass.caches new.view.pass.caches kept two.caches);
  wings = λ here wings. two.wings here (one.wings here wings);
}

-- what a contribution's exchange has seen begins with what was seen before
pub settles_begins : {P : Type 0} (alone : Bool) (now after : History P) (own : Record) (x : Held) (offer : Offer P) (result : Result (Unit {0}) Settled) → Settles alone now after own x offer result → IsPrefix now after
settles_begins alone now after own x offer (Ok _) given = did_prefix alone _ now after given.did
settles_begins alone now after own x offer (Err by) was = did_prefix alone _ now after was.did

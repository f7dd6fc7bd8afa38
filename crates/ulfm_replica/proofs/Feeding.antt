-- What comes of an entry that may come next: the wing of a contribution, and then the word.
use Rattle.std.proofs.Common.{◌≡◌, ◌⊎◌, inl, inr, ℕ, ◌<◌, ◌^◌, true, [], ◌∷◌, ◌++◌, Option, Some, None, refl, ap, sym, subst, ◌∙◌, arith, append-nil}
use Rattle.std.specs.Prelude.{Result, Ok, Err, MatchResult}
use Rattle.std.specs.List.{Contains}
use Rattle.std.proofs.lemmas.List.Elements.{Contains-push_cases}
use Rattle.ulfm_laws.specs.Ranges.{payload_bits}
use Rattle.ulfm_model.specs.declared.{block.Wing.{Wing}, contribution.Contribution.{Contribution}, contribution.Slot.{Slot}, contribution.Slot.TheVariants.{Given}, event.Entry.{Entry}, event.Event.{Event}, event.Event.TheVariants.{Fail, Settle, Mark, Arrive, Revoke, Spawn}}
use Rattle.ulfm_model.specs.{Blocks.{has_wing}, History.{MayFollow, slot}, Words.{place_of, slot_wing}}
use Rattle.ulfm_model.proofs.{Histories.{slot_stays}, Lists.{prefix_trans}}
use Rattle.ulfm_words.specs.{Blocks.{SetsWing, standing}, Places.{IsWithin}, Steps.{IsView, IsWinged, IsWingedIn, Loses, MaySet, MaySetIn, Name, Sets, Sight, Wins, coding, limits_in, view_of}, declared.{step.Site.{Site}}}
use Rattle.ulfm_words.specs.declared.step.Step.{Step}
use Rattle.ulfm_words.proofs.Setting.{added_stands, same_entry}
use Rattle.ulfm_replica.specs.Replays.{IsFed, SpreadsFor, WingsSettled, step_after, wings_of}
use Rattle.ulfm_replica.proofs.Following.{comes, entry_is, may_set, place_in}

-- a wing that was tried has its place, so an empty place's wing is set by the exchange
pub spreads : {P : Type 0} (meld : P → P → P) (pack : P → ℕ) (x y : Sight P) (c k r : ℕ) (given : Contribution P) (word : ℕ) (result : Result (Unit {0}) ℕ) → IsView meld (view_of pack x.name x) → WingsSettled (view_of pack x.name x)
    → slot x.seen c k r ≡ None → word ≡ slot_wing pack (Given given) → SetsWing meld true (Wing.Slot c k r) word (view_of pack x.name x) result (view_of pack x.name y) → SpreadsFor meld (Settle c k r given) (view_of pack x.name x) (view_of pack x.name y)
spreads meld pack x y c k r given word result of settled free is sets =
    record {
      of = sets.of;
      seen = sym sets.did.goes_on ∙ (ap (λ w. x.seen ++ w) (sets.did.quiet refl) ∙ append-nil x.seen);
      winged = subst (λ w. has_wing y.cached (Wing.Slot c k r) w ≡ true) is (by result sets.stands.set (sets.stands.before refl));
      cached = sets.cached;
      caches = sets.caches;
      onward = omega (arith, sets.steps);
    }
  where
    by : (result : Result (Unit {0}) ℕ) → has_wing y.cached (Wing.Slot c k r) (standing word result) ≡ true → MatchResult result (λ _. Unit {0}) (λ w. Contains x.caches (Site.Wing (Wing.Slot c k r))) → has_wing y.cached (Wing.Slot c k r) word ≡ true
    by (Ok u) set before = set
    by (Err w) set before = let put = settled c k r before in let clash : None ≡ Some put.0 = sym free ∙ put.1 in absurd (cc clash)

-- A step that may be tried: its place is there, it is that of an event that may come next, and its wing is known to be set where it has one, whatever it is read as.
pub record IsTried {P : Type 0} (meld : P → P → P) (pack : P → ℕ) (unpack : ℕ → Option P) (y : Sight P) (step : Step) : Type 0 where
  pub within : IsWithin (limits_in (view_of pack y.name y)) step.place
  pub may : MaySetIn meld (coding pack unpack) (view_of pack y.name y) step
  pub winged : IsWingedIn (coding pack unpack) (view_of pack y.name y) step

module _ {P : Type 0} (meld : P → P → P) (pack : P → ℕ) (unpack : ℕ → Option P) (back : (x : P) → unpack (pack x) ≡ Some x) (fits : (x : P) → pack x < 2 ^ payload_bits) (x y z : Sight P) (e : Entry P)
    (of : IsView meld (view_of pack x.name x)) (may : MayFollow meld x.name.limits x.seen e.event) (spread : SpreadsFor meld e.event (view_of pack x.name x) (view_of pack x.name y)) where
  -- the step of an entry that may come next may be tried
  pub tried : (step : Step) → step ≡ step_after pack x.seen e → IsTried meld pack unpack y step
  tried step is =
      subst (λ (s : Step). IsTried meld pack unpack y s) (sym is) (record {
        within = subst (λ (n : Name). IsWithin n.limits (place_of x.seen e.event)) (sym spread.of.name_is) (place_in meld pack unpack x.name.limits x.seen e.by of.may_open back fits of.legal e.event may);
        may =
            subst (λ (n : Name). MaySet meld pack unpack n.limits y.seen (step_after pack x.seen e)) (sym spread.of.name_is)
            (subst (λ h. MaySet meld pack unpack x.name.limits h (step_after pack x.seen e)) (sym spread.seen) (may_set meld pack unpack x.name.limits x.seen e.by of.may_open back fits e.event may));
        winged = λ entry read.
            subst (λ (v : Entry P). IsWinged pack y.cached v.event) (same_entry e entry (sym (entry_is meld pack unpack x.name.limits x.seen e.by of.may_open back fits e.event may) ∙ read)) spread.winged;
      })

  module _ (result : Result (Unit {0}) ℕ) (sets : Sets meld (coding pack unpack) true (step_after pack x.seen e) (view_of pack y.name y) result (view_of pack y.name z)) where
    at_name : Sets meld (coding pack unpack) true (step_after pack x.seen e) (view_of pack x.name y) result (view_of pack x.name z)
    at_name = subst (λ n. Sets meld (coding pack unpack) true (step_after pack x.seen e) (view_of pack n y) result (view_of pack n z)) spread.of.name_is sets

    pub is_view : IsView meld (view_of pack x.name z)
    is_view = at_name.of

    pub came : z.seen ≡ x.seen ++ e ∷ []
    came =
        comes meld pack unpack x.name.limits x.seen e.by of.may_open back fits e.event may z.seen result
        (subst (λ h. MatchResult result (λ _. Wins pack unpack true (step_after pack x.seen e) h z.seen) (λ w. Loses pack true (place_of x.seen e.event) w h z.seen)) spread.seen sets.outcome)

    pub is_fed : IsFed meld e true (view_of pack x.name x) (view_of pack x.name z)
    is_fed = record {
      feeds = (may, came);
      cached = prefix_trans x.cached y.cached z.cached spread.cached sets.cached;
      caches = sets.caches ∙ spread.caches;
      onward = omega (arith, spread.onward, sets.steps);
    }

    -- and the wing has its place
    pub settled : WingsSettled (view_of pack x.name x) → WingsSettled (view_of pack x.name z)
    settled were c k r tried = by e.event refl (subst (λ sites. Contains sites (Site.Wing (Wing.Slot c k r))) (sets.caches ∙ spread.caches) tried)
      where
        Has : Type 0
        Has = (put : Slot P) × (slot z.seen c k r ≡ Some put)

        before : Contains x.caches (Site.Wing (Wing.Slot c k r)) → Has
        before had = let put = were c k r had in (put.0, slot_stays x.seen z.seen c k r put.0 (e ∷ [], sym came) put.1)

        none : Contains (x.caches ++ []) (Site.Wing (Wing.Slot c k r)) → Has
        none had = before (subst (λ sites. Contains sites (Site.Wing (Wing.Slot c k r))) (append-nil x.caches) had)

        by : (event : Event P) → e.event ≡ event → Contains (x.caches ++ wings_of event) (Site.Wing (Wing.Slot c k r)) → Has
        by (Fail s) is had = none had
        by (Settle d l s given) is had = one (Contains-push_cases x.caches (Site.Wing (Wing.Slot d l s)) (Site.Wing (Wing.Slot c k r)) had)
          where
            one : Contains x.caches (Site.Wing (Wing.Slot c k r)) ⊎ (Site.Wing (Wing.Slot d l s) ≡ Site.Wing (Wing.Slot c k r)) → Has
            one (inl had) = before had
            one (inr same) =
                let comm : d ≡ c = cc same in
                let round : l ≡ k = cc same in
                let rank : s ≡ r = cc same in
                let entry : e ≡ record { by = e.by; event = Settle c k r given } = ap (λ v. let x : Entry P = record { by = e.by; event = v } in x) (is ∙ cc (comm, round, rank)) in (
                  Given given,
                  added_stands meld x.name.limits true x.seen z.seen e.by c k r (Given given) at_name.of.legal
                      (record { before = x.seen; did = record { since = []; goes_on = append-nil x.seen; stands = tt; quiet = λ here. refl }; is = came ∙ ap (λ v. x.seen ++ v ∷ []) entry }),
                )
        by (Mark d l s mark) is had = none had
        by (Arrive d l s) is had = none had
        by (Revoke d) is had = none had
        by (Spawn j d l) is had = none had

use Rattle.std.proofs.Common.{sym, arith, List, [], ◌∷◌, ◌++◌, ◌≡◌, true, false, refl, subst, ap, ◌∙◌, ℕ}
use Rattle.std.specs.Prelude.{Result, Ok, Err, MatchResult, is_ok, ⊤}
use Rattle.std.specs.List.{Contains}
use Rattle.ulfm_words.specs.declared.step.Site.{Site}
use Rattle.std.proofs.lemmas.List.Elements.{Contains-append_right}
use Rattle.ulfm_model.specs.{Blocks.{has_wing}, declared.block.Wing.{Wing}}
use Rattle.ulfm_words.specs.Blocks.{standing}
use Rattle.ulfm_model.specs.declared.contribution.Slot.TheVariants.{Given}
use Rattle.ulfm_words.specs.Slots.{is_wing_word}
use Rattle.ulfm_words.proofs.{Pairs.{given_wing, half_lt, wing_is}, Ranks.{place_within}}
use Rattle.ulfm_steps.proofs.settle.Settle.spread.Goals as goal

pub set_wing-requires-clause-within : goal.set_wing-requires-clause-within
set_wing-requires-clause-within g c =
    place_within g.P.Meld.meld (g.W.Words.name c.args.words.now).limits (g.W.Words.sight c.args.pass.now).seen c.args.self.now.comm c.args.self.now.round c.args.self.now.rank c.requires.of.legal c.requires.of.may_open c.requires.may.place

pub set_wing-requires-clause-may : goal.set_wing-requires-clause-may
set_wing-requires-clause-may g c =
    (c.requires.may.place, subst (λ w. is_wing_word w ≡ true) (sym c.slot_wing-word.ensures) (wing_is _ (half_lt g.P.Packed.unpack g.P.Packed.pack g.met.P.Packed.unpack_pack g.met.P.Packed.pack_fits (Given c.args.self.now.given))))

-- the word that was offered stands, where it was set
set_by : {w : ℕ} {offer : ℕ} (result : Result (Unit {0}) ℕ) → is_ok result ≡ true → (Has : ℕ → Type 0) → w ≡ offer → Has (standing w result) → Has offer
set_by (Ok _) won Has is has = subst Has is has
set_by (Err _) won Has is has = absurd (cc won)

-- what is tried last was tried
tried_now : (old new : List Site) (s : Site) → new ≡ old ++ s ∷ [] → Contains new s
tried_now old new s is = subst (λ l. Contains l s) (sym is) (Contains-append_right old (s ∷ []) s (0, omega arith, refl))

-- what is said of an exchange that was lost
stood_before : (result : Result (Unit {0}) ℕ) → is_ok result ≡ false → (Was : Type 0) → MatchResult result (λ _. ⊤) (λ w. Was) → Was
stood_before (Ok _) lost Was said = absurd (cc lost)
stood_before (Err _) lost Was said = said

pub returns : goal.returns
returns g c =
    let s = c.set_wing.ensures in
    record {
      of = s.of;
      did = s.did;
      cached = s.cached;
      caches = s.caches;
      step = record { steps = s.steps; word = _; last = s.last };
      set = λ won.
          let offer = c.slot_wing-word.ensures ∙ given_wing g.P.Packed.pack c.args.self.now.given in
          set_by c.set_wing.result (sym c.is_ok.ensures.value ∙ won) (λ w. has_wing (g.W.Words.sight c.set_wing.new.pass).cached (Wing.Slot c.args.self.now.comm c.args.self.now.round c.args.self.now.rank) w ≡ true) offer s.stands.set;
      stood = λ lost. (_, s.stands.set, tried_now _ _ _ s.caches);
      before = λ here lost. stood_before c.set_wing.result (sym c.is_ok.ensures.value ∙ lost) _ (s.stands.before here);
    }

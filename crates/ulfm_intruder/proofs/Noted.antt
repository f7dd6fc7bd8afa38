-- A step of a pass's own, as its trail has it.
use Rattle.std.proofs.Common.{◌≡◌, ℕ, ◌+◌, Bool, true, false, List, [], ◌∷◌, ◌++◌, Some, length, ap, ◌∙◌, length-append}
use Rattle.ulfm_model.specs.declared.{block.Block.{Block}, block.Wing.{Wing}, place.Place.{Place}}
use Rattle.ulfm_words.specs.{Pass.{caches_in, last_of}, declared.{step.Last.{Last}, step.Site.{Site}}}
use Rattle.ulfm_words.proofs.{Standing.{caches_loaded, caches_place, caches_set, caches_wing_load, caches_wing_set}, Telling.{last_of-push}}

-- a step there, which found this word
abbrev pub noted : Site → ℕ → Bool → Last × Bool
noted at word load = (record { at = at; word = word; load = load }, load)

module _ (old new : List (Last × Bool)) (at : Site) (word : ℕ) (load : Bool) (is : new ≡ old ++ noted at word load ∷ []) where
  -- one more
  pub noted_count : length new ≡ length old + 1
  noted_count = ap length is ∙ length-append old (noted at word load ∷ [])

  -- and the last
  pub noted_last : last_of new ≡ Some (noted at word load).0
  noted_last = ap last_of is ∙ last_of-push old (noted at word load)

module _ (old new : List (Last × Bool)) (word : ℕ) where
  -- a step at a place tries to set no word that no event sets, nor does a load
  pub noted_place : (place : Place) (load : Bool) → new ≡ old ++ noted (Site.Place place) word load ∷ [] → caches_in new ≡ caches_in old
  noted_place place load is = ap caches_in is ∙ caches_place old place word load

  pub noted_block : (block : Block) → new ≡ old ++ noted (Site.Block block) word true ∷ [] → caches_in new ≡ caches_in old
  noted_block block is = ap caches_in is ∙ caches_loaded old block word

  pub noted_wing : (wing : Wing) → new ≡ old ++ noted (Site.Wing wing) word true ∷ [] → caches_in new ≡ caches_in old
  noted_wing wing is = ap caches_in is ∙ caches_wing_load old wing word

  -- an exchange of such a word does
  pub noted_cache : (block : Block) → new ≡ old ++ noted (Site.Block block) word false ∷ [] → caches_in new ≡ caches_in old ++ Site.Block block ∷ []
  noted_cache block is = ap caches_in is ∙ caches_set old block word

  pub noted_spread : (wing : Wing) → new ≡ old ++ noted (Site.Wing wing) word false ∷ [] → caches_in new ≡ caches_in old ++ Site.Wing wing ∷ []
  noted_spread wing is = ap caches_in is ∙ caches_wing_set old wing word

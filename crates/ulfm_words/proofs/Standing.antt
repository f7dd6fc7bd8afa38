-- What a trail knows of the words that no event sets, and where it tried to set such.
use Rattle.std.proofs.Common.{◌≡◌, ◌≢◌, ℕ, ◌==◌, ◌||◌, Bool, true, false, List, [], ◌∷◌, ◌++◌, refl, ◌∙◌, append-nil}
use Rattle.std.proofs.lemmas.Bool.{eqb-true}
use Rattle.std.proofs.lemmas.List.Elements.{filter_map-append}
use Rattle.ulfm_model.specs.declared.{block.Beside.{Beside}, block.Block.{Block}, block.Wing.{Wing}, place.Place.{Place}}
use Rattle.ulfm_model.specs.Blocks.{has_block, same_block}
use Rattle.ulfm_model.proofs.Blocks.{block_self, has_block_push}
use Rattle.ulfm_words.specs.declared.{step.Last.{Last}, step.Site.{Site}}
use Rattle.ulfm_words.specs.Pass.{cached_at, cached_by, caches_in, tried_at}

-- a step at a place knows of no block
pub cached_place : (ts : List (Last × Bool)) (p : Place) (w : ℕ) (load : Bool) → cached_by (ts ++ (record { at = Site.Place p; word = w; load = load }, load) ∷ []) ≡ cached_by ts
cached_place ts p w load = filter_map-append (λ step. cached_at step.0.at step.0.word step.0.load) ts _ ∙ append-nil (cached_by ts)

abbrev pub at_block : Block → ℕ → Bool → Last × Bool
at_block b w load = (record { at = Site.Block b; word = w; load = load }, load)

-- a load that found nothing knows of no block; any other step at a block knows of it
pub cached_nothing : (ts : List (Last × Bool)) (b : Block) → cached_by (ts ++ at_block b 0 true ∷ []) ≡ cached_by ts
cached_nothing ts b = filter_map-append (λ step. cached_at step.0.at step.0.word step.0.load) ts _ ∙ append-nil (cached_by ts)

pub cached_found : (ts : List (Last × Bool)) (b : Block) (w : ℕ) → w ≢ 0 → cached_by (ts ++ at_block b w true ∷ []) ≡ cached_by ts ++ Beside.Block b ∷ []
cached_found ts b w some = filter_map-append (λ step. cached_at step.0.at step.0.word step.0.load) ts _ ∙ (go (w == 0) refl)
  where
    go : (t : Bool) → (w == 0) ≡ t → cached_by ts ++ cached_by (at_block b w true ∷ []) ≡ cached_by ts ++ Beside.Block b ∷ []
    go true none = absurd (some (eqb-true w 0 none))
    go false other = rw other refl

pub cached_set : (ts : List (Last × Bool)) (b : Block) (w : ℕ) → cached_by (ts ++ at_block b w false ∷ []) ≡ cached_by ts ++ Beside.Block b ∷ []
cached_set ts b w = filter_map-append (λ step. cached_at step.0.at step.0.word step.0.load) ts _

abbrev pub at_wing : Wing → ℕ → Bool → Last × Bool
at_wing x w load = (record { at = Site.Wing x; word = w; load = load }, load)

-- a load of a wing knows nothing more; an exchange knows of the word that stands then
pub cached_wing_load : (ts : List (Last × Bool)) (x : Wing) (w : ℕ) → cached_by (ts ++ at_wing x w true ∷ []) ≡ cached_by ts
cached_wing_load ts x w = filter_map-append (λ step. cached_at step.0.at step.0.word step.0.load) ts _ ∙ append-nil (cached_by ts)

pub cached_wing_set : (ts : List (Last × Bool)) (x : Wing) (w : ℕ) → cached_by (ts ++ at_wing x w false ∷ []) ≡ cached_by ts ++ Beside.Wing x w ∷ []
cached_wing_set ts x w = filter_map-append (λ step. cached_at step.0.at step.0.word step.0.load) ts _

-- a step at a place, and a load, try to set no such word
pub caches_place : (ts : List (Last × Bool)) (p : Place) (w : ℕ) (load : Bool) → caches_in (ts ++ (record { at = Site.Place p; word = w; load = load }, load) ∷ []) ≡ caches_in ts
caches_place ts p w load = filter_map-append (λ step. tried_at step.0.at step.0.load) ts _ ∙ append-nil (caches_in ts)

pub caches_loaded : (ts : List (Last × Bool)) (b : Block) (w : ℕ) → caches_in (ts ++ at_block b w true ∷ []) ≡ caches_in ts
caches_loaded ts b w = filter_map-append (λ step. tried_at step.0.at step.0.load) ts _ ∙ append-nil (caches_in ts)

pub caches_wing_load : (ts : List (Last × Bool)) (x : Wing) (w : ℕ) → caches_in (ts ++ at_wing x w true ∷ []) ≡ caches_in ts
caches_wing_load ts x w = filter_map-append (λ step. tried_at step.0.at step.0.load) ts _ ∙ append-nil (caches_in ts)

-- an exchange does
pub caches_set : (ts : List (Last × Bool)) (b : Block) (w : ℕ) → caches_in (ts ++ at_block b w false ∷ []) ≡ caches_in ts ++ Site.Block b ∷ []
caches_set ts b w = filter_map-append (λ step. tried_at step.0.at step.0.load) ts _

pub caches_wing_set : (ts : List (Last × Bool)) (x : Wing) (w : ℕ) → caches_in (ts ++ at_wing x w false ∷ []) ≡ caches_in ts ++ Site.Wing x ∷ []
caches_wing_set ts x w = filter_map-append (λ step. tried_at step.0.at step.0.load) ts _

pub now_has : (bs : List Beside) (b : Block) → has_block (bs ++ Beside.Block b ∷ []) b ≡ true
now_has bs b = has_block_push bs (Beside.Block b) b ∙ elim (has_block bs b) as (λ t. (t || same_block b b) ≡ true) [ true ↦ refl | false ↦ block_self b ]

-- A step of an intruder's pass: what came before it, what the plain words beneath did, and its note.
use Rattle.std.proofs.Common.{◌≡◌, ℕ, ◌+◌, ◌++◌, ◌∷◌, [], Bool, true, false, Some, Ok, Err, Option, Result, length, ap, subst, ◌∙◌}
use Rattle.std.specs.Prelude.{MatchResult}
use mathlib.Core.List.{IsPrefix}
use Rattle.ulfm_model.specs.{Blocks.{IsCached, IsWing, has_block}, History.{IsLegal}, Runs.{Did}, Words.{word_at}}
use Rattle.ulfm_model.specs.declared.{block.Block.{Block}, block.Wing.{Wing}, place.Place.{Place}}
use Rattle.ulfm_model.proofs.{Blocks.{has_block_not}, Lists.{prefix_trans}}
use Rattle.ulfm_words.specs.{Blocks.{Caches, LoadsBeside, LoadsBlock, LoadsWing, SetsWing, standing}, Pass.{caches_in, last_of}}
use Rattle.ulfm_words.specs.Steps.{IsView, Loads, Loses, Name, Sets, Sight, Wins, coding, found, view_of}
use Rattle.ulfm_words.specs.declared.{plain.Trail.{Trail}, step.Site.{Site}, step.Step.{Step}}
use Rattle.ulfm_words.proofs.Trails.{did_wait}
use Rattle.ulfm_intruder.proofs.{Noted.{noted, noted_block, noted_cache, noted_count, noted_last, noted_place, noted_spread, noted_wing}, Welcome.{loses_before, unalone, wins_before}}

-- what is seen of such a pass: what its plain pass has seen and knows, and its own steps
abbrev pub passing : {P : Type 0} → Sight P → Trail → Sight P
passing plain trail =
    record { name = plain.name; seen = plain.seen; cached = plain.cached; caches = caches_in trail.log.items; steps = length trail.log.items; last = last_of trail.log.items }

-- what came in before a step, by others
pub record Comes {P : Type 0} (meld : P → P → P) (pack : P → ℕ) (name : Name) (old mid : Sight P) (was trail : Trail) : Type 0 where
  pub of : IsView meld (view_of pack name mid)
  pub did : Did false [] old.seen mid.seen
  pub cached : IsPrefix old.cached mid.cached
  pub same : trail ≡ was

module _ {P : Type 0} (meld : P → P → P) (pack : P → ℕ) (name : Name) (old mid new : Sight P) (was trail is : Trail) (first : Comes meld pack name old mid was trail) where
  view : IsView meld (view_of pack mid.name new) → IsView meld (view_of pack name (passing new is))
  view of =
      record { name_is = of.name_is ∙ first.of.name_is; may_open = first.of.may_open; legal = subst (λ n. IsLegal meld n.limits new.seen) first.of.name_is of.legal }

  among : Did true [] mid.seen new.seen → Did false [] old.seen new.seen
  among did = did_wait false [] old.seen mid.seen new.seen first.did (unalone true [] mid.seen new.seen did)

  knows : IsPrefix mid.cached new.cached → IsPrefix old.cached new.cached
  knows more = prefix_trans old.cached mid.cached new.cached first.cached more

  module _ (at : Site) (word : ℕ) (load : Bool) (more : is.log.items ≡ trail.log.items ++ noted at word load ∷ []) where
    noted_since : is.log.items ≡ was.log.items ++ noted at word load ∷ []
    noted_since = more ∙ ap (λ t. t.log.items ++ noted at word load ∷ []) first.same

    count : length is.log.items ≡ length was.log.items + 1
    count = noted_count was.log.items is.log.items at word load noted_since

    ends : last_of is.log.items ≡ Some (noted at word load).0
    ends = noted_last was.log.items is.log.items at word load noted_since

  -- a load of a place
  pub loads_after : (place : Place) (word : ℕ) → is.log.items ≡ trail.log.items ++ noted (Site.Place place) word true ∷ [] → word ≡ word_at pack new.seen place
      → Loads meld pack true place (view_of pack mid.name mid) (view_of pack mid.name new)
      → Loads meld pack false place (view_of pack name (passing old was)) (view_of pack name (passing new is))
  loads_after place word more here e =
      let last = ends _ _ _ more ∙ ap (λ n. Some (noted (Site.Place place) n true).0) here in
      let none = noted_place was.log.items is.log.items word place true (noted_since _ _ _ more) in
      record { of = view e.of; did = among e.did; cached = knows e.cached; caches = none; steps = count _ _ _ more; last = last }

  -- .. of a word that no event sets
  loads_beside_after : (at : Site) (word : ℕ) (Is Still : Type 0) → is.log.items ≡ trail.log.items ++ noted at word true ∷ [] → caches_in is.log.items ≡ caches_in was.log.items → (Is → Still)
      → LoadsBeside meld true at word Is (view_of pack mid.name mid) (view_of pack mid.name new)
      → LoadsBeside meld false at word Still (view_of pack name (passing old was)) (view_of pack name (passing new is))
  loads_beside_after at word Is Still more none still e =
      record { of = view e.of; did = among e.did; cached = knows e.cached; caches = none; steps = count _ _ _ more; last = ends _ _ _ more; stands = still e.stands }

  -- .. of a block
  pub loads_block_after : (block : Block) (word : ℕ) → is.log.items ≡ trail.log.items ++ noted (Site.Block block) word true ∷ []
      → LoadsBlock meld pack true block word (view_of pack mid.name mid) (view_of pack mid.name new)
      → LoadsBlock meld pack false block word (view_of pack name (passing old was)) (view_of pack name (passing new is))
  loads_block_after block word more =
      let none = noted_block was.log.items is.log.items word block (noted_since _ _ _ more) in
      loads_beside_after (Site.Block block) word _ _ more none (λ is. record { cached = subst (λ n. IsCached meld pack n.limits.ranks new.seen block word) first.of.name_is is.cached; unset = is.unset; set = is.set })

  -- .. of a wing
  pub loads_wing_after : (wing : Wing) (word : ℕ) → is.log.items ≡ trail.log.items ++ noted (Site.Wing wing) word true ∷ []
      → LoadsWing meld pack true wing word (view_of pack mid.name mid) (view_of pack mid.name new)
      → LoadsWing meld pack false wing word (view_of pack name (passing old was)) (view_of pack name (passing new is))
  loads_wing_after wing word more =
      let none = noted_wing was.log.items is.log.items word wing (noted_since _ _ _ more) in
      loads_beside_after (Site.Wing wing) word _ _ more none (λ is. subst (λ n. IsWing meld pack n.limits.ranks new.seen wing word) first.of.name_is is)

  outcome : (unpack : ℕ → Option P) (s : Step) (result : Result (Unit {0}) ℕ)
      → MatchResult result (λ _. Wins pack unpack true s mid.seen new.seen) (λ w. Loses pack true s.place w mid.seen new.seen)
      → MatchResult result (λ _. Wins pack unpack false s old.seen new.seen) (λ w. Loses pack false s.place w old.seen new.seen)
  outcome unpack s (Ok _) wins = wins_before pack unpack true s old.seen mid.seen new.seen first.did wins
  outcome unpack s (Err w) loses = loses_before pack true s.place w old.seen mid.seen new.seen first.did loses

  -- what is noted of an exchange that sets no wing is what it found
  noted_found : (at : Site) (result : Result (Unit {0}) ℕ) → is.log.items ≡ trail.log.items ++ noted at (standing 0 result) false ∷ []
      → is.log.items ≡ trail.log.items ++ noted at (found result) false ∷ []
  noted_found at (Ok _) more = more
  noted_found at (Err _) more = more

  -- an exchange of an event's word
  pub sets_after : (unpack : ℕ → Option P) (s : Step) (result : Result (Unit {0}) ℕ) → is.log.items ≡ trail.log.items ++ noted (Site.Place s.place) (standing 0 result) false ∷ []
      → Sets meld (coding pack unpack) true s (view_of pack mid.name mid) result (view_of pack mid.name new)
      → Sets meld (coding pack unpack) false s (view_of pack name (passing old was)) result (view_of pack name (passing new is))
  sets_after unpack s result stood e =
      let more = noted_found (Site.Place s.place) result stood in
      let none = noted_place was.log.items is.log.items (found result) s.place false (noted_since _ _ _ more) in
      record { of = view e.of; outcome = outcome unpack s result e.outcome; cached = knows e.cached; caches = none; steps = count _ _ _ more; last = ends _ _ _ more }

  stood_before : (block : Block) (word : ℕ) (result : Result (Unit {0}) ℕ) → MatchResult result (λ _. has_block mid.cached block ≡ false) (λ w. w ≡ word)
      → MatchResult result (λ _. has_block old.cached block ≡ false) (λ w. w ≡ word)
  stood_before block word (Ok _) stood = has_block_not old.cached mid.cached block first.cached stood
  stood_before block word (Err w) stood = stood

  -- .. of a block's
  pub caches_after : (block : Block) (word : ℕ) (result : Result (Unit {0}) ℕ) → is.log.items ≡ trail.log.items ++ noted (Site.Block block) (standing 0 result) false ∷ []
      → Caches meld true block word (view_of pack mid.name mid) result (view_of pack mid.name new)
      → Caches meld false block word (view_of pack name (passing old was)) result (view_of pack name (passing new is))
  caches_after block word result met e =
      let more = noted_found (Site.Block block) result met in
      let tried = noted_cache was.log.items is.log.items (found result) block (noted_since _ _ _ more) in
      let stood = stood_before block word result e.stands.stood in
      record { of = view e.of; did = among e.did; cached = knows e.cached; caches = tried; steps = count _ _ _ more; last = ends _ _ _ more; stands = record { set = e.stands.set; stood = stood } }

  -- .. of a wing
  pub sets_wing_after : (wing : Wing) (word : ℕ) (result : Result (Unit {0}) ℕ) → is.log.items ≡ trail.log.items ++ noted (Site.Wing wing) (standing word result) false ∷ []
      → SetsWing meld true wing word (view_of pack mid.name mid) result (view_of pack mid.name new)
      → SetsWing meld false wing word (view_of pack name (passing old was)) result (view_of pack name (passing new is))
  sets_wing_after wing word result more e =
      let tried = noted_spread was.log.items is.log.items (standing word result) wing (noted_since _ _ _ more) in
      record {
        of = view e.of;
        did = among e.did;
        cached = knows e.cached;
        caches = tried;
        steps = count _ _ _ more;
        last = ends _ _ _ more;
        stands = record { set = e.stands.set; some = e.stands.some; was = e.stands.was; before = λ here. absurd (cc here) };
      }

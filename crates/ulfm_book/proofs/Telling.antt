-- What each step tells a pass.
use Rattle.std.proofs.Common.{◌≡◌, ◌≢◌, ℕ, ◌+◌, ◌<◌, ◌==◌, MatchBool, MatchResult, Bool, true, false, List, [], ◌∷◌, ◌++◌, length, Option, Some, Result, Ok, Err, refl, ap, ap₂, sym, ◌∙◌, subst, arith, length-append}
use Rattle.std.specs.Prelude.{⊤}
use Rattle.std.proofs.lemmas.Bool.{eq-eqb, ne_eqb}
use mathlib.Core.List.{IsPrefix}
use Rattle.logbook.specs.Pages.{Book}
use Rattle.ulfm_model.specs.declared.{block.Block.{Block}, block.Wing.{Wing}, contribution.Slot.{Slot}, event.Entry.{Entry}, limits.Limits.{Limits}, place.Place.{Place}}
use Rattle.ulfm_model.specs.{Blocks.{IsBlockWithin, IsCached, IsWing, has_block, has_wing}, History.{History, IsLegal}, Runs.{Did}, Words.{MayOpen, word_at}}
use Rattle.ulfm_model.proofs.{Blocks.{has_block_stays}, Histories.{slot_stays}}
use Rattle.ulfm_words.specs.declared.{step.Last.{Last}, step.Site.{Site}, step.Step.{Step}}
use Rattle.ulfm_words.specs.{Blocks.{Caches, IsSpread, LoadsBeside, LoadsBlock, LoadsWing, SetsWing, WasWing, standing}, Entries.{entry_of}, Pass.{caches_in, last_of}, Places.{IsWingWithin, IsWithin}, Steps.{Heard, IsView, Learns, Loads, Loses, Sets, Sight, Wins}}
use Rattle.ulfm_words.proofs.{Standing.{caches_loaded, caches_place, caches_set, caches_wing_load, caches_wing_set}, Telling.{last_of-push}}
use Rattle.ulfm_words.specs.Steps.{coding, found as found_by, view_of}
use Rattle.ulfm_book.specs.declared.{line.Line.{Line}, line.Line.TheVariants.{Made}}
use Rattle.ulfm_book.specs.{Logs.{IsLog, cached_in, history_in, limits_in}, Rules.{IsAddedBlock, IsAddedWing, IsBlockAdded, IsBlockFound, IsFound, IsLast, IsOfBlock, IsSpreadIn, IsWingAdded, IsWingFound, Extends, heard_of, name_of, sight_of}, Layout.{block_offset, place_offset, wing_offset}}
use Rattle.ulfm_book.proofs.Growing.{cached_in-append, history_in-append, sees}

-- others' events may have come
others : {P : Type 0} (old new : History P) → IsPrefix old new → Did false [] old new
others old new begins = record { since = begins.0; goes_on = begins.1; stands = tt; quiet = λ no. absurd cc }

module _ {P : Type 0} (meld : P → P → P) (pack : P → ℕ) where
  -- a step, as a pass keeps it
  abbrev made : Site → ℕ → Bool → Last × Bool
  made at found load = (record { at = at; word = found; load = load }, load)

  -- what is so of all places, blocks or wings with this key is so of this one
  of_one : {X : Type 0} (Within : Limits → X → Type 0) (offset : Limits → X → ℕ) (old new : List (Line P)) (x : X) (k : ℕ) (Saw : X → Type 0) → Extends meld old new → Within (limits_in old) x → k ≡ offset (limits_in old) x
      → ((y : X) → Within (limits_in new) y → k ≡ offset (limits_in new) y → Saw y) → Saw x
  of_one Within offset old new x k Saw s within key all = all x (subst (λ n. Within n x) (sym s.limits) within) (key ∙ ap (λ n. offset n x) (sym s.limits))

  -- what was found under a place's key is the place's word
  found_at : (old new : List (Line P)) (p : Place) (k found : ℕ) → Extends meld old new → IsWithin (limits_in old) p → k ≡ place_offset (limits_in old) p → IsFound pack k found new → word_at pack (history_in new) p ≡ found
  found_at old new p k found = of_one IsWithin place_offset old new p k (λ q. word_at pack (history_in new) q ≡ found)

  module _ (b b' : Book) (old new : List (Line P)) (trail trail' : List (Last × Bool)) where
    -- the pass is still of these words
    still : b' ≡ b → MayOpen (limits_in old) → Extends meld old new → IsView meld (view_of pack (name_of b (limits_in old)) (sight_of b' new trail'))
    still same may s = record {
      name_is = ap₂ (λ book n. name_of book n) same s.limits;
      may_open = may;
      legal = subst (λ n. IsLegal meld n (history_in new)) s.limits s.is_log.legal;
    }

    one_more : (step : Last × Bool) → trail' ≡ trail ++ step ∷ [] → length trail' ≡ length trail + 1
    one_more step is = ap length is ∙ length-append trail (step ∷ [])

    last_is : (step : Last × Bool) → trail' ≡ trail ++ step ∷ [] → last_of trail' ≡ Some step.0
    last_is step is = ap last_of is ∙ last_of-push trail step

    -- where a place, a block or a wing was looked at under this key, by this step
    abbrev StepTells : {X : Type 0} → (Limits → X → Type 0) → (Limits → X → ℕ) → X → ℕ → Last × Bool → Type 0 → Sight P → Type 0 → Type 0
    StepTells Within offset x k step Saw pass Told =
        IsView meld (view_of pack pass.name pass) → Within pass.name.limits x → k ≡ offset pass.name.limits x → b' ≡ b → Saw → trail' ≡ trail ++ step ∷ [] → Told

    abbrev LoadTells : Place → ℕ → ℕ → Sight P → Type 0
    LoadTells p k found pass =
        StepTells IsWithin place_offset p k (made (Site.Place p) found true) (Extends meld old new × IsFound pack k found new) pass (Loads meld pack false p (view_of pack pass.name pass) (view_of pack pass.name (sight_of b' new trail')))

    -- a load
    pub load_tells : (p : Place) (k found : ℕ) (pass : Sight P) → sight_of b old trail ≡ pass → LoadTells p k found pass
    load_tells p k found pass e =
        subst (LoadTells p k found) e (λ of within key same looks is.
        let s = looks.0 in
        let word : found ≡ word_at pack (history_in new) p = sym (found_at old new p k found s within key looks.1) in
        record {
          of = still same of.may_open s;
          did = others (history_in old) (history_in new) s.history;
          cached = s.cached;
          caches = ap caches_in is ∙ caches_place trail p found true;
          steps = one_more (made (Site.Place p) found true) is;
          last = last_is (made (Site.Place p) found true) is ∙ ap (λ n. Some (made (Site.Place p) n true).0) word;
        })

    -- what an exchange of this step sees and finds, where it asked for this line
    abbrev Finds : Step → ℕ → ℕ → Line P → Type 0
    Finds s k found ask = Extends meld old new × MatchBool (found == 0) (IsLast meld ask old new × IsFound pack k s.word new) (IsFound pack k found new)

    abbrev SetTells : (ℕ → Option P) → Step → ℕ → ℕ → Line P → Result (Unit {0}) ℕ → Sight P → Type 0
    SetTells unpack s k found ask result pass =
        StepTells IsWithin place_offset s.place k (made (Site.Place s.place) found false) (Finds s k found ask) pass (Sets meld (coding pack unpack) false s (view_of pack pass.name pass) result (view_of pack pass.name (sight_of b' new trail')))

    -- what an exchange did to the history
    abbrev Outcome : (ℕ → Option P) → Step → Result (Unit {0}) ℕ → Type 0
    Outcome unpack s result = MatchResult result (λ _. Wins pack unpack false s (history_in old) (history_in new)) (λ w. Loses pack false s.place w (history_in old) (history_in new))

    -- an exchange, by what it did
    set_tells : (unpack : ℕ → Option P) (s : Step) (k found : ℕ) (ask : Line P) (result : Result (Unit {0}) ℕ) (pass : Sight P) → sight_of b old trail ≡ pass → found ≡ found_by result
        → (IsWithin (limits_in old) s.place → k ≡ place_offset (limits_in old) s.place → Finds s k found ask → Outcome unpack s result) → SetTells unpack s k found ask result pass
    set_tells unpack s k found ask result pass e told outcome =
        subst (SetTells unpack s k found ask result) e (λ of within key same finds is.
        record {
          of = still same of.may_open finds.0;
          outcome = outcome within key finds;
          cached = finds.0.cached;
          caches = ap caches_in is ∙ caches_place trail s.place found false;
          steps = one_more (made (Site.Place s.place) found false) is;
          last = last_is (made (Site.Place s.place) found false) is ∙ ap (λ n. Some (made (Site.Place s.place) n false).0) told;
        })

    -- one that was won
    pub won_tells : (unpack : ℕ → Option P) (s : Step) (k found : ℕ) (ask : Line P) (entry : Entry P) (pass : Sight P) → sight_of b old trail ≡ pass → entry_of unpack s ≡ Some entry → ask ≡ Made entry → found ≡ 0
        → SetTells unpack s k found ask (Ok tt) pass
    won_tells unpack s k found ask entry pass e is_entry asks zero =
        set_tells unpack s k found ask (Ok tt) pass e zero (λ within key finds.
        let won : IsLast meld ask old new × IsFound pack k s.word new = rw (eq-eqb found 0 zero) at finds.1 in
        record {
          entry = entry;
          is_entry = is_entry;
          added = record {
            before = history_in won.0.before;
            did = others (history_in old) (history_in won.0.before) won.0.sees.history;
            is = ap history_in won.0.is ∙ (ap (λ (line : Line P). history_in (won.0.before ++ line ∷ [])) asks ∙ history_in-append won.0.before (Made entry ∷ []));
          };
          stands = found_at old new s.place k s.word finds.0 within key won.1;
        })

    -- .. and that was lost
    pub lost_tells : (unpack : ℕ → Option P) (s : Step) (k found : ℕ) (ask : Line P) (pass : Sight P) → sight_of b old trail ≡ pass → found ≢ 0 → SetTells unpack s k found ask (Err found) pass
    lost_tells unpack s k found ask pass e some =
        set_tells unpack s k found ask (Err found) pass e refl (λ within key finds.
        let stands : IsFound pack k found new = rw (ne_eqb found 0 some) at finds.1 in
        record { some = omega (arith, some); stands = found_at old new s.place k found finds.0 within key stands; did = others (history_in old) (history_in new) finds.0.history })

    -- a load of a word that no event sets, by what this word is
    loads_beside : (at : Site) (found : ℕ) (Is : Type 0) → b' ≡ b → MayOpen (limits_in old) → Extends meld old new → trail' ≡ trail ++ made at found true ∷ [] → caches_in trail' ≡ caches_in trail → Is
        → LoadsBeside meld false at found Is (view_of pack (name_of b (limits_in old)) (sight_of b old trail)) (view_of pack (name_of b (limits_in old)) (sight_of b' new trail'))
    loads_beside at found Is same may s is quiet stands =
        record { of = still same may s; did = others (history_in old) (history_in new) s.history; cached = s.cached; caches = quiet; steps = one_more (made at found true) is; last = last_is (made at found true) is; stands = stands }

    abbrev LoadBlockTells : Block → ℕ → ℕ → Sight P → Type 0
    LoadBlockTells block k found pass =
        StepTells IsBlockWithin block_offset block k (made (Site.Block block) found true) (Extends meld old new × IsBlockFound meld pack k found new) pass (LoadsBlock meld pack false block found (view_of pack pass.name pass) (view_of pack pass.name (sight_of b' new trail')))

    -- a load of a block's word
    pub load_block_tells : (block : Block) (k found : ℕ) (pass : Sight P) → sight_of b old trail ≡ pass → LoadBlockTells block k found pass
    load_block_tells block k found pass e =
        subst (LoadBlockTells block k found) e (λ of within key same looks is.
        let s = looks.0 in
        let stands = of_one IsBlockWithin block_offset old new block k (λ x. IsOfBlock meld pack new x found) s within key looks.1 in
        let cached = subst (λ n. IsCached meld pack n.ranks (history_in new) block found) s.limits stands.stands in
        loads_beside (Site.Block block) found _ same of.may_open s is (ap caches_in is ∙ caches_loaded trail block found) (record { cached = cached; unset = stands.unset; set = stands.set }))

    abbrev CacheTells : Block → ℕ → ℕ → ℕ → Result (Unit {0}) ℕ → Sight P → Type 0
    CacheTells block k word found result pass =
        StepTells IsBlockWithin block_offset block k (made (Site.Block block) found false) (Extends meld old new × IsBlockAdded k word found old new) pass (Caches meld false block word (view_of pack pass.name pass) result (view_of pack pass.name (sight_of b' new trail')))

    -- an exchange of a block's word
    pub cache_tells : (block : Block) (k word found : ℕ) (result : Result (Unit {0}) ℕ) (pass : Sight P) → sight_of b old trail ≡ pass → found ≡ found_by result
        → (IsAddedBlock word found block old new → MatchResult result (λ _. has_block (cached_in old) block ≡ false) (λ w. w ≡ word)) → CacheTells block k word found result pass
    cache_tells block k word found result pass e told stood =
        subst (CacheTells block k word found result) e (λ of within key same looks is.
        let s = looks.0 in
        let added = of_one IsBlockWithin block_offset old new block k (λ x. IsAddedBlock word found x old new) s within key looks.1 in
        record {
          of = still same of.may_open s;
          did = others (history_in old) (history_in new) s.history;
          cached = s.cached;
          caches = ap caches_in is ∙ caches_set trail block found;
          steps = one_more (made (Site.Block block) found false) is;
          last = last_is (made (Site.Block block) found false) is ∙ ap (λ n. Some (made (Site.Block block) n false).0) told;
          stands = record { set = added.set; stood = stood added };
        })

    -- what it stands beside still stands
    still_spread : (x : Wing) → Extends meld old new → IsSpread (view_of pack (name_of b (limits_in old)) (sight_of b old trail)) x → IsSpreadIn new x
    still_spread (Wing.Slot c k r) s given = (given.0, slot_stays (history_in old) (history_in new) c k r (Slot.Given given.0) s.history given.1)
    still_spread (Wing.Block a) s has = has_block_stays (cached_in old) (cached_in new) a s.cached has

    abbrev LoadWingTells : Wing → ℕ → ℕ → Sight P → Type 0
    LoadWingTells x k found pass =
        StepTells IsWingWithin wing_offset x k (made (Site.Wing x) found true) (Extends meld old new × IsWingFound meld pack k found new) pass (IsSpread (view_of pack pass.name pass) x → LoadsWing meld pack false x found (view_of pack pass.name pass) (view_of pack pass.name (sight_of b' new trail')))

    -- a load of a wing
    pub load_wing_tells : (x : Wing) (k found : ℕ) (pass : Sight P) → sight_of b old trail ≡ pass → LoadWingTells x k found pass
    load_wing_tells x k found pass e =
        subst (LoadWingTells x k found) e (λ of within key same looks is spread.
        let s = looks.0 in
        let stands = of_one IsWingWithin wing_offset old new x k (λ y. IsSpreadIn new y → IsWing meld pack (limits_in new).ranks (history_in new) y found) s within key looks.1 in
        loads_beside (Site.Wing x) found _ same of.may_open s is (ap caches_in is ∙ caches_wing_load trail x found) (subst (λ n. IsWing meld pack n.ranks (history_in new) x found) s.limits (stands (still_spread x s spread))))

    abbrev SetWingTells : Wing → ℕ → ℕ → ℕ → Result (Unit {0}) ℕ → Sight P → Type 0
    SetWingTells x k word found result pass =
        StepTells IsWingWithin wing_offset x k (made (Site.Wing x) (standing word result) false) (Extends meld old new × IsWingAdded k word found new) pass (SetsWing meld false x word (view_of pack pass.name pass) result (view_of pack pass.name (sight_of b' new trail')))

    -- an exchange of a wing, which has this word afterwards
    pub set_wing_tells : (x : Wing) (k word found : ℕ) (result : Result (Unit {0}) ℕ) (pass : Sight P) → sight_of b old trail ≡ pass
        → (IsAddedWing word found x new → (has_wing (cached_in new) x (standing word result) ≡ true) × (0 < standing word result) × MatchResult result (λ _. ⊤) (WasWing x word)) → SetWingTells x k word found result pass
    set_wing_tells x k word found result pass e adds =
        subst (SetWingTells x k word found result) e (λ of within key same looks is.
        let s = looks.0 in
        let added = adds (of_one IsWingWithin wing_offset old new x k (λ y. IsAddedWing word found y new) s within key looks.1) in
        record {
          of = still same of.may_open s;
          did = others (history_in old) (history_in new) s.history;
          cached = s.cached;
          caches = ap caches_in is ∙ caches_wing_set trail x (standing word result);
          steps = one_more (made (Site.Wing x) (standing word result) false) is;
          last = last_is (made (Site.Wing x) (standing word result) false) is;
          stands = record { set = added.0; some = added.1; was = added.2; before = λ here. absurd (cc here) };
        })

  module _ (b b' t : Book) (old told new : List (Line P)) (trail : List (Last × Bool)) where
    abbrev LearnTells : Heard P → Sight P → Type 0
    LearnTells heard pass = IsView meld (view_of pack pass.name pass) → b' ≡ b → IsLog meld old → IsPrefix old new → IsPrefix told new → IsLog meld new → Learns meld false heard (view_of pack pass.name pass) (view_of pack pass.name (sight_of b' new trail))

    -- what was told is seen
    pub learn_tells : (heard : Heard P) (pass : Sight P) → heard_of t told ≡ heard → sight_of b old trail ≡ pass → LearnTells heard pass
    learn_tells heard pass f e =
        subst (LearnTells heard) e (λ of same is begins from after.
        let s = sees meld old new is after begins in
        record {
          of = still b b' old new trail trail same of.may_open s;
          did = others (history_in old) (history_in new) s.history;
          hears = subst (λ (h : Heard P). IsPrefix h.seen (history_in new)) f (sees_told from);
          cached = s.cached;
          caches = refl;
          hears_cached = subst (λ (h : Heard P). IsPrefix h.cached (cached_in new)) f (cached_told from);
          steps = refl;
          last = refl;
        })
      where
        sees_told : IsPrefix told new → IsPrefix (history_in told) (history_in new)
        sees_told from = (history_in from.0, sym (history_in-append told from.0) ∙ ap history_in from.1)

        cached_told : IsPrefix told new → IsPrefix (cached_in told) (cached_in new)
        cached_told from = (cached_in from.0, sym (cached_in-append told from.0) ∙ ap cached_in from.1)

-- Which of the words that no event sets a pass has tried to set, step by step.
use Rattle.std.proofs.Common.{◌≡◌, ◌≢◌, ◌⊎◌, inl, inr, ℕ, zero, suc, Bool, true, false, List, [], ◌∷◌, ◌++◌, Option, Some, None, refl, ap, sym, ◌∙◌, subst, arith, append-nil, append_assoc}
use Rattle.std.specs.List.{All, Contains}
use Rattle.std.proofs.lemmas.List.Elements.{All-append, All-contains, Contains-append_cases, Contains-append_left, Contains-append_right, filter_map-append}
use Rattle.ulfm_model.specs.declared.{block.Wing.{Wing}}
use Rattle.ulfm_words.specs.declared.{step.Last.{Last}, step.Site.{Site}}
use Rattle.ulfm_words.specs.{Pass.{AreTried, caches_in, tried_at}, Places.{IsWingWithin}, Rows.{SideWords, wing_in}, Steps.{TriesBlocks, TriesFurther}}
use Rattle.ulfm_words.proofs.Besides.{wing_or_not}

-- what holds of one holds of a list of it alone
pub all_one : {X : Type 0} (Q : X → Type 0) (x : X) → Q x → All Q (x ∷ [])
all_one Q x holds zero d lt = holds
all_one Q x holds (suc k) d lt = absurd (omega (arith, lt))

module _ {May : Site → Type 0} where
  -- nothing was tried
  pub tries_none : (old new : List Site) → new ≡ old → TriesFurther May old new
  tries_none old new same = record { more = []; is = same ∙ sym (append-nil old); each = λ k d lt. absurd (omega (arith, lt)) }

  -- one word was
  pub tries_one : (old new : List Site) (s : Site) → new ≡ old ++ s ∷ [] → May s → TriesFurther May old new
  tries_one old new s is may = record { more = s ∷ []; is = is; each = all_one May s may }

  -- some, and then others
  pub tries_then : (a b c : List Site) → TriesFurther May a b → TriesFurther May b c → TriesFurther May a c
  tries_then a b c first then = record {
    more = first.more ++ then.more;
    is = then.is ∙ (ap (λ l. l ++ then.more) first.is ∙ append_assoc a first.more then.more);
    each = All-append May first.more then.more first.each then.each;
  }

  -- each that was tried was tried before, or may be
  pub tried_or : (old new : List Site) (s : Site) → TriesFurther May old new → Contains new s → Contains old s ⊎ May s
  tried_or old new s tries has = by (Contains-append_cases old tries.more s (subst (λ l. Contains l s) tries.is has))
    where
      by : Contains old s ⊎ Contains tries.more s → Contains old s ⊎ May s
      by (inl before) = inl before
      by (inr now) = inr (All-contains May tries.more s tries.each now)

  -- where none may be, none was
  pub tries_no : (old new : List Site) → ((s : Site) → May s → ⊥) → TriesFurther May old new → new ≡ old
  tries_no old new never tries = by tries.more tries.each tries.is
    where
      by : (more : List Site) → All May more → new ≡ old ++ more → new ≡ old
      by [] each is = is ∙ append-nil old
      by (s ∷ more) each is = absurd (never s (each zero s (omega arith)))

-- what may be tried may be tried by others
pub tries_as : {May Other : Site → Type 0} (old new : List Site) → ((s : Site) → May s → Other s) → TriesFurther May old new → TriesFurther Other old new
tries_as old new other tries = record { more = tries.more; is = tries.is; each = λ k d lt. other _ (tries.each k d lt) }

-- blocks' words alone, and then more of them
pub blocks_then : (b : Bool) (x y z : List Site) → TriesBlocks b x y → TriesBlocks b y z → TriesBlocks b x z
blocks_then true x y z first then = tries_then x y z first then
blocks_then false x y z first then = then ∙ first

-- what a step set is among what was tried then
pub tried_after : (sides sides' : SideWords) (ts ts' : List (Last × Bool)) (step : Last × Bool) → sides'.limits ≡ sides.limits → ts' ≡ ts ++ step ∷ []
    → ((x : Wing) → IsWingWithin sides.limits x → wing_in sides' x ≢ 0 → (wing_in sides x ≢ 0) ⊎ (tried_at step.0.at step.0.load ≡ Some (Site.Wing x))) → AreTried sides ts → AreTried sides' ts'
tried_after sides sides' ts ts' step limits is which were x within some = subst (λ l. Contains l (Site.Wing x)) (sym all) (by (which x there some))
  where
    there : IsWingWithin sides.limits x
    there = subst (λ l. IsWingWithin l x) limits within

    all : caches_in ts' ≡ caches_in ts ++ caches_in (step ∷ [])
    all = ap caches_in is ∙ filter_map-append (λ one. tried_at one.0.at one.0.load) ts (step ∷ [])

    now : (o : Option Site) → tried_at step.0.at step.0.load ≡ o → o ≡ Some (Site.Wing x) → Contains (caches_in (step ∷ [])) (Site.Wing x)
    now None at same = absurd (cc same)
    now (Some s) at same = let one : s ≡ Site.Wing x = cc same in rw at (0, omega arith, one)

    by : (wing_in sides x ≢ 0) ⊎ (tried_at step.0.at step.0.load ≡ Some (Site.Wing x)) → Contains (caches_in ts ++ caches_in (step ∷ [])) (Site.Wing x)
    by (inl before) = Contains-append_left (caches_in ts) (caches_in (step ∷ [])) (Site.Wing x) (were x there before)
    by (inr at) = Contains-append_right (caches_in ts) (caches_in (step ∷ [])) (Site.Wing x) (now (tried_at step.0.at step.0.load) refl at)

-- .. of a step that sets no wing
pub tried_same : (sides : SideWords) (ts ts' : List (Last × Bool)) (step : Last × Bool) → ts' ≡ ts ++ step ∷ [] → AreTried sides ts → AreTried sides ts'
tried_same sides ts ts' step is were = tried_after sides sides ts ts' step refl is (λ x within some. inl some) were

-- .. of one that sets another word beside
pub tried_block : (sides sides' : SideWords) (ts ts' : List (Last × Bool)) (step : Last × Bool) → sides'.limits ≡ sides.limits → ((x : Wing) → IsWingWithin sides.limits x → wing_in sides' x ≡ wing_in sides x) → ts' ≡ ts ++ step ∷ []
    → AreTried sides ts → AreTried sides' ts'
tried_block sides sides' ts ts' step limits wings is were = tried_after sides sides' ts ts' step limits is (λ x within some. inl (λ none. some (wings x within ∙ none))) were

-- .. of one that sets a wing
pub tried_wing : (sides sides' : SideWords) (ts ts' : List (Last × Bool)) (x : Wing) (w : ℕ) → sides'.limits ≡ sides.limits → ((y : Wing) → IsWingWithin sides.limits y → y ≢ x → wing_in sides' y ≡ wing_in sides y)
    → ts' ≡ ts ++ (record { at = Site.Wing x; word = w; load = false }, false) ∷ [] → AreTried sides ts → AreTried sides' ts'
tried_wing sides sides' ts ts' x w limits others is were = tried_after sides sides' ts ts' _ limits is by were
  where
    by : (y : Wing) → IsWingWithin sides.limits y → wing_in sides' y ≢ 0 → (wing_in sides y ≢ 0) ⊎ (Some (Site.Wing x) ≡ Some (Site.Wing y))
    by y within some = one (wing_or_not y x)
      where
        one : (y ≡ x) ⊎ (y ≢ x) → (wing_in sides y ≢ 0) ⊎ (Some (Site.Wing x) ≡ Some (Site.Wing y))
        one (inl same) = inr (ap (λ z. Some (Site.Wing z)) (sym same))
        one (inr other) = inl (λ none. some (others y within other ∙ none))

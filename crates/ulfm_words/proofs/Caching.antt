-- What each step on a word that no event sets tells of a plain pass.
use Rattle.std.proofs.Common.{◌≡◌, ◌≢◌, ◌⊎◌, inl, inr, ℕ, zero, suc, ◌<◌, Bool, true, false, List, [], ◌∷◌, ◌++◌, length, Option, Some, Ok, Err, IsTrue, refl, ap, sym, ◌∙◌, subst, arith, append-nil, length-append}
use Rattle.std.specs.List.{Contains}
use Rattle.std.specs.Prelude.{MatchResult, Result, ⊤}
use mathlib.Core.List.{IsPrefix}
use Rattle.ulfm_model.specs.declared.{block.Beside.{Beside}, block.Block.{Block}, block.Wing.{Wing}, limits.Limits.{Limits}}
use Rattle.ulfm_model.specs.{Blocks.{IsBlock, IsBlockWithin, IsCached, IsWing, has_block, has_wing}, History.{History}}
use Rattle.ulfm_model.proofs.Blocks.{now_has_wing, one_block, one_wing, wing_some}
use Rattle.ulfm_words.specs.declared.{plain.Setting.{Setting}, step.Last.{Last}, step.Site.{Site}}
use Rattle.ulfm_words.specs.{Besides.{AreBeside, written}, Blocks.{Caches, IsSpread, IsSpreadBlock, LoadsBlock, LoadsWing, MaySetWing, SetsWing, WasWing, standing}, Pass.{AreStood, AreTried, IsTied, cached_by, caches_in, entries, last_of, sight_of}, Places.{IsWingWithin}, Rows.{SideWords, block_in, wing_in}, Steps.{Sight, found as found_by, view_of}}
use Rattle.ulfm_words.proofs.{Besides.{beside_block, beside_found, beside_stood, beside_wing}, Pairs.{wing_small}, Standing.{at_block, at_wing, cached_found, cached_nothing, cached_set, cached_wing_load, cached_wing_set, caches_loaded, caches_set, caches_wing_load, caches_wing_set, now_has}, Telling.{last_of-push}, Trails.{did_none}, Tried.{tried_same}}

pub nothing_more : (xs : List Beside) → IsPrefix xs xs
nothing_more xs = ([], append-nil xs)

not_has : (t : Bool) → (t ≡ true → ⊥) → t ≡ false
not_has true never = absurd (never refl)
not_has false never = refl

either : (n : ℕ) → (n ≡ 0) ⊎ (n ≢ 0)
either zero = inl refl
either (suc n) = inr (λ e. absurd (omega (arith, e)))

module _ {P : Type 0} (meld : P → P → P) (pack : P → ℕ) where
  -- what is known changes nothing of what stands
  pub knows_as : (seen : History P) (sides : SideWords) (ts ts' : List (Last × Bool)) → cached_by ts' ≡ cached_by ts → AreStood meld pack seen sides ts → AreStood meld pack seen sides ts'
  knows_as seen sides ts ts' same are = subst (λ c. AreBeside meld pack (written seen sides.limits c) (block_in sides) (wing_in sides)) (sym same) are

  -- what holds of a pass holds after a step that sets nothing, where what stands beside the words still does
  pub still_holds : {Tied Same : Type 0} (seen : History P) (sides : SideWords) (ts ts' : List (Last × Bool)) (step : Last × Bool) → ts' ≡ ts ++ step ∷ [] → Tied × Same × AreStood meld pack seen sides ts × AreTried sides ts → AreStood meld pack seen sides ts'
      → Tied × Same × AreStood meld pack seen sides ts' × AreTried sides ts'
  still_holds seen sides ts ts' step is holds stood = (holds.0, holds.1, stood, tried_same sides ts ts' step is holds.3)

module _ {P : Type 0} (meld : P → P → P) (pack : P → ℕ) (unpack : ℕ → Option P) (limits : Limits) (old : Sight P) (ws : List ℕ) (sides : SideWords) (ms : List Setting) (cap : ℕ) (ts ts' : List (Last × Bool))
    (shown : sight_of unpack limits ws ms ts ≡ old) (tied : IsTied meld pack unpack limits ws ms cap) (same : sides.limits ≡ limits) (stood : AreStood meld pack (entries unpack limits ws ms) sides ts) where
  abbrev seen : History P
  seen = entries unpack limits ws ms

  module _ (b : Block) (v : ℕ) (within : IsBlockWithin old.name.limits b) (found : v ≡ block_in sides b) where
    here : IsBlockWithin sides.limits b
    here = subst (λ l. IsBlockWithin l b) (sym same) (subst (λ (o : Sight P). IsBlockWithin o.name.limits b) (sym shown) within)

    stands : IsCached meld pack limits.ranks seen b v
    stands = subst (λ (l : Limits). IsCached meld pack l.ranks seen b v) same (subst (IsCached meld pack sides.limits.ranks seen b) (sym found) (stood.word b here))

    -- a load
    module _ (is : ts' ≡ ts ++ at_block b v true ∷ []) where
      known : (v ≡ 0) ⊎ (v ≢ 0) → IsPrefix (cached_by ts) (cached_by ts') × (v ≡ 0 → has_block (cached_by ts') b ≡ false) × (v ≢ 0 → has_block (cached_by ts') b ≡ true) × AreStood meld pack seen sides ts'
      known (inl none) =
          let knows : cached_by ts' ≡ cached_by ts = ap cached_by is ∙ (ap (λ n. cached_by (ts ++ at_block b n true ∷ [])) none ∙ cached_nothing ts b) in (
            subst (IsPrefix (cached_by ts)) (sym knows) (nothing_more (cached_by ts)),
            λ _. not_has (has_block (cached_by ts') b) (λ has. stood.told b here (subst (λ xs. has_block xs b ≡ true) knows has) (sym found ∙ none)),
            λ some. absurd (some none),
            knows_as meld pack seen sides ts ts' knows stood,
          )
      known (inr some) =
          let more : cached_by ts' ≡ cached_by ts ++ Beside.Block b ∷ [] = ap cached_by is ∙ cached_found ts b v some in (
            (Beside.Block b ∷ [], sym more),
            λ none. absurd (some none),
            λ _. subst (λ xs. has_block xs b ≡ true) (sym more) (now_has (cached_by ts) b),
            subst (λ c. AreBeside meld pack (written seen sides.limits c) (block_in sides) (wing_in sides)) (sym more) (beside_found meld pack sides.limits (block_in sides) (wing_in sides) seen (cached_by ts) b here (λ zero. some (found ∙ zero)) stood),
          )

      pub peek_stood : AreStood meld pack seen sides ts'
      peek_stood = (known (either v)).3

      pub peek_tells : LoadsBlock meld pack true b v (view_of pack old.name old) (view_of pack old.name (sight_of unpack limits ws ms ts'))
      peek_tells =
          subst (λ (o : Sight P). LoadsBlock meld pack true b v (view_of pack o.name o) (view_of pack o.name (sight_of unpack limits ws ms ts'))) shown (record {
            of = record { name_is = refl; may_open = tied.may_open; legal = tied.legal };
            did = did_none true seen;
            cached = (known (either v)).0;
            caches = ap caches_in is ∙ caches_loaded ts b v;
            steps = ap length is ∙ length-append ts (at_block b v true ∷ []);
            last = ap last_of is ∙ last_of-push ts (at_block b v true);
            stands = record { cached = stands; unset = (known (either v)).1; set = (known (either v)).2 };
          })

    -- an exchange
    module _ (w : ℕ) (may : IsBlock meld pack old.name.limits.ranks old.seen b w) (is : ts' ≡ ts ++ at_block b v false ∷ []) where
      block : IsBlock meld pack limits.ranks seen b w
      block = subst (λ (o : Sight P). IsBlock meld pack o.name.limits.ranks o.seen b w) (sym shown) may

      more : cached_by ts' ≡ cached_by ts ++ Beside.Block b ∷ []
      more = ap cached_by is ∙ cached_set ts b v

      set : has_block (cached_by ts') b ≡ true
      set = subst (λ xs. has_block xs b ≡ true) (sym more) (now_has (cached_by ts) b)

      pub lost_stood : v ≢ 0 → AreStood meld pack seen sides ts'
      lost_stood some =
          subst (λ c. AreBeside meld pack (written seen sides.limits c) (block_in sides) (wing_in sides)) (sym more) (beside_found meld pack sides.limits (block_in sides) (wing_in sides) seen (cached_by ts) b here (λ zero. some (found ∙ zero)) stood)

      same_word : (v ≡ 0) ⊎ IsBlock meld pack limits.ranks seen b v → v ≢ 0 → v ≡ w
      same_word (inl none) some = absurd (some none)
      same_word (inr one) some = one_block meld pack limits.ranks seen b v w one block

      -- what it tells, whether it was lost or not
      exchange_tells : (r : Result (Unit {0}) ℕ) → v ≡ found_by r → MatchResult r (λ _. has_block (cached_by ts) b ≡ false) (λ n. n ≡ w) → Caches meld true b w (view_of pack old.name old) r (view_of pack old.name (sight_of unpack limits ws ms ts'))
      exchange_tells r is_found stood_there =
          subst (λ (o : Sight P). Caches meld true b w (view_of pack o.name o) r (view_of pack o.name (sight_of unpack limits ws ms ts'))) shown (record {
            of = record { name_is = refl; may_open = tied.may_open; legal = tied.legal };
            did = did_none true seen;
            cached = (Beside.Block b ∷ [], sym more);
            caches = ap caches_in is ∙ caches_set ts b v;
            steps = ap length is ∙ length-append ts (at_block b v false ∷ []);
            last = ap last_of is ∙ (last_of-push ts (at_block b v false) ∙ ap (λ n. Some (at_block b n false).0) is_found);
            stands = record { set = set; stood = stood_there };
          })

      pub lost_tells : v ≢ 0 → Caches meld true b w (view_of pack old.name old) (Err v) (view_of pack old.name (sight_of unpack limits ws ms ts'))
      lost_tells some = exchange_tells (Err v) refl (same_word stands some)

      pub won_stood : (winged : IsSpreadBlock (view_of pack old.name old) b) (sides' : SideWords) → sides'.limits ≡ sides.limits → block_in sides' b ≡ w → ((x : Block) → IsBlockWithin sides.limits x → x ≢ b → block_in sides' x ≡ block_in sides x)
          → ((x : Wing) → IsWingWithin sides.limits x → wing_in sides' x ≡ wing_in sides x) → AreStood meld pack seen sides' ts'
      won_stood winged sides' kept now others wings =
          let spread : IsSpreadBlock (view_of pack old.name (sight_of unpack limits ws ms ts)) b = subst (λ (o : Sight P). IsSpreadBlock (view_of pack old.name o) b) (sym shown) winged in
          let wing = stood.known (Wing.Block b) here spread.0 spread.2 in
          let there : IsBlock meld pack sides.limits.ranks seen b w = subst (λ (l : Limits). IsBlock meld pack l.ranks seen b w) (sym same) block in
          let are = beside_block meld pack sides.limits (block_in sides) (wing_in sides) seen (cached_by ts) b w (block_in sides') (wing_in sides') here there (λ zero. absurd (omega (arith, wing.0, wing.1, zero))) now others wings stood in
          subst (λ l. AreBeside meld pack (written seen l (cached_by ts')) (block_in sides') (wing_in sides')) (sym kept)
          (subst (λ c. AreBeside meld pack (written seen sides.limits c) (block_in sides') (wing_in sides')) (sym more) are)

      pub won_tells : v ≡ 0 → Caches meld true b w (view_of pack old.name old) (Ok tt) (view_of pack old.name (sight_of unpack limits ws ms ts'))
      won_tells none = exchange_tells (Ok tt) none (not_has (has_block (cached_by ts) b) (λ has. stood.told b here has (sym found ∙ none)))

  module _ (x : Wing) (v : ℕ) (within : IsWingWithin old.name.limits x) (found : v ≡ wing_in sides x) where
    there : IsWingWithin sides.limits x
    there = subst (λ l. IsWingWithin l x) (sym same) (subst (λ (o : Sight P). IsWingWithin o.name.limits x) (sym shown) within)

    -- a load
    module _ (is : ts' ≡ ts ++ at_wing x v true ∷ []) where
      knows : cached_by ts' ≡ cached_by ts
      knows = ap cached_by is ∙ cached_wing_load ts x v

      pub wing_stood : AreStood meld pack seen sides ts'
      wing_stood = knows_as meld pack seen sides ts ts' knows stood

      pub wing_tells : IsSpread (view_of pack old.name old) x → LoadsWing meld pack true x v (view_of pack old.name old) (view_of pack old.name (sight_of unpack limits ws ms ts'))
      wing_tells spread =
          subst (λ (o : Sight P). LoadsWing meld pack true x v (view_of pack o.name o) (view_of pack o.name (sight_of unpack limits ws ms ts'))) shown (record {
            of = record { name_is = refl; may_open = tied.may_open; legal = tied.legal };
            did = did_none true seen;
            cached = subst (IsPrefix (cached_by ts)) (sym knows) (nothing_more (cached_by ts));
            caches = ap caches_in is ∙ caches_wing_load ts x v;
            steps = ap length is ∙ length-append ts (at_wing x v true ∷ []);
            last = ap last_of is ∙ last_of-push ts (at_wing x v true);
            stands = subst (λ (l : Limits). IsWing meld pack l.ranks seen x v) same (subst (IsWing meld pack sides.limits.ranks seen x) (sym found) (of_it x there (subst (λ (o : Sight P). IsSpread (view_of pack old.name o) x) (sym shown) spread)));
          })
        where
          of_it : (x : Wing) → IsWingWithin sides.limits x → IsSpread (view_of pack old.name (sight_of unpack limits ws ms ts)) x → IsWing meld pack sides.limits.ranks seen x (wing_in sides x)
          of_it (Wing.Slot c k r) at given = (given.0, given.1, stood.given c k r at given.0 given.1)
          of_it (Wing.Block b) at has = by (stood.said b at)
            where
              by : (wing_in sides (Wing.Block b) ≡ 0) ⊎ IsWing meld pack sides.limits.ranks seen (Wing.Block b) (wing_in sides (Wing.Block b)) → IsWing meld pack sides.limits.ranks seen (Wing.Block b) (wing_in sides (Wing.Block b))
              by (inl none) = absurd (stood.first b at (stood.told b at has) none)
              by (inr is) = is

    -- an exchange: the word that stands then
    module _ (w : ℕ) (may : MaySetWing meld pack (view_of pack old.name old) x w) where
      may_in : MaySetWing meld pack (view_of pack (sight_of unpack limits ws ms ts).name (sight_of unpack limits ws ms ts)) x w
      may_in = subst (λ (o : Sight P). MaySetWing meld pack (view_of pack o.name o) x w) (sym shown) may

      some_wing : (x : Wing) → MaySetWing meld pack (view_of pack (sight_of unpack limits ws ms ts).name (sight_of unpack limits ws ms ts)) x w → 0 < w
      some_wing (Wing.Slot c k r) it = let parts = wing_small w it.1 in omega (arith, parts.0)
      some_wing (Wing.Block b) it = wing_some meld pack limits.ranks seen (Wing.Block b) w it

      -- what it tells, whether it was lost or not
      wing_exchange_tells : (r : Result (Unit {0}) ℕ) → ts' ≡ ts ++ at_wing x (standing w r) false ∷ [] → 0 < standing w r → MatchResult r (λ _. ⊤) (WasWing x w)
          → (IsTrue true → MatchResult r (λ _. ⊤) (λ n. Contains (caches_in ts) (Site.Wing x))) → SetsWing meld true x w (view_of pack old.name old) r (view_of pack old.name (sight_of unpack limits ws ms ts'))
      wing_exchange_tells r is some was before =
          let n = standing w r in
          let more : cached_by ts' ≡ cached_by ts ++ Beside.Wing x n ∷ [] = ap cached_by is ∙ cached_wing_set ts x n in
          subst (λ (o : Sight P). SetsWing meld true x w (view_of pack o.name o) r (view_of pack o.name (sight_of unpack limits ws ms ts'))) shown (record {
            of = record { name_is = refl; may_open = tied.may_open; legal = tied.legal };
            did = did_none true seen;
            cached = (Beside.Wing x n ∷ [], sym more);
            caches = ap caches_in is ∙ caches_wing_set ts x n;
            steps = ap length is ∙ length-append ts (at_wing x n false ∷ []);
            last = ap last_of is ∙ last_of-push ts (at_wing x n false);
            stands = record { set = subst (λ xs. has_wing xs x n ≡ true) (sym more) (now_has_wing (cached_by ts) x n); some = some; was = was; before = before };
          })

      pub lost_wing_stood : v ≢ 0 → ts' ≡ ts ++ at_wing x v false ∷ [] → AreStood meld pack seen sides ts'
      lost_wing_stood some is =
          let more : cached_by ts' ≡ cached_by ts ++ Beside.Wing x (wing_in sides x) ∷ [] = ap cached_by is ∙ (cached_wing_set ts x v ∙ ap (λ n. cached_by ts ++ Beside.Wing x n ∷ []) found) in
          subst (λ c. AreBeside meld pack (written seen sides.limits c) (block_in sides) (wing_in sides)) (sym more) (beside_stood meld pack sides.limits (block_in sides) (wing_in sides) seen (cached_by ts) x (λ zero. some (found ∙ zero)) stood)

      pub lost_wing_tells : v ≢ 0 → AreTried sides ts → ts' ≡ ts ++ at_wing x v false ∷ [] → SetsWing meld true x w (view_of pack old.name old) (Err v) (view_of pack old.name (sight_of unpack limits ws ms ts'))
      lost_wing_tells some tried is = wing_exchange_tells (Err v) is (omega (arith, some)) (was_it x there found may_in) (λ here. tried x there (λ zero. some (found ∙ zero)))
        where
          was_it : (x : Wing) → IsWingWithin sides.limits x → v ≡ wing_in sides x → MaySetWing meld pack (view_of pack (sight_of unpack limits ws ms ts).name (sight_of unpack limits ws ms ts)) x w → WasWing x w v
          was_it (Wing.Slot c k r) at here it = tt
          was_it (Wing.Block b) at here it = by (stood.said b at)
            where
              by : (wing_in sides (Wing.Block b) ≡ 0) ⊎ IsWing meld pack sides.limits.ranks seen (Wing.Block b) (wing_in sides (Wing.Block b)) → v ≡ w
              by (inl none) = absurd (some (here ∙ none))
              by (inr is) = here ∙ one_wing meld pack limits.ranks seen (Wing.Block b) (wing_in sides (Wing.Block b)) w (subst (λ (l : Limits). IsWing meld pack l.ranks seen (Wing.Block b) (wing_in sides (Wing.Block b))) same is) it

      pub won_wing_stood : v ≡ 0 → ts' ≡ ts ++ at_wing x w false ∷ [] → (sides' : SideWords) → sides'.limits ≡ sides.limits → wing_in sides' x ≡ w → ((y : Wing) → IsWingWithin sides.limits y → y ≢ x → wing_in sides' y ≡ wing_in sides y)
          → ((b : Block) → IsBlockWithin sides.limits b → block_in sides' b ≡ block_in sides b) → AreStood meld pack seen sides' ts'
      won_wing_stood none is sides' kept now others blocks =
          let more : cached_by ts' ≡ cached_by ts ++ Beside.Wing x w ∷ [] = ap cached_by is ∙ cached_wing_set ts x w in
          let own : (b : Block) → x ≡ Wing.Block b → IsWing meld pack sides.limits.ranks seen (Wing.Block b) w = λ b e. subst (λ (l : Limits). IsWing meld pack l.ranks seen (Wing.Block b) w) (sym same) (subst (λ y. MaySetWing meld pack (view_of pack (sight_of unpack limits ws ms ts).name (sight_of unpack limits ws ms ts)) y w) e may_in) in
          let are = beside_wing meld pack sides.limits (block_in sides) (wing_in sides) seen (cached_by ts) x w (block_in sides') (wing_in sides') (some_wing x may_in) own (sym found ∙ none) now others blocks stood in
          subst (λ l. AreBeside meld pack (written seen l (cached_by ts')) (block_in sides') (wing_in sides')) (sym kept)
          (subst (λ c. AreBeside meld pack (written seen sides.limits c) (block_in sides') (wing_in sides')) (sym more) are)

      pub won_wing_tells : ts' ≡ ts ++ at_wing x w false ∷ [] → SetsWing meld true x w (view_of pack old.name old) (Ok tt) (view_of pack old.name (sight_of unpack limits ws ms ts'))
      won_wing_tells is = wing_exchange_tells (Ok tt) is (some_wing x may_in) tt (λ here. tt)

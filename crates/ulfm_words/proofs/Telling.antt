-- What each step tells of a plain pass.
use Rattle.std.proofs.Common.{◌≡◌, ◌≢◌, ℕ, Bool, true, false, List, [], ◌∷◌, ◌++◌, length, Option, Some, Ok, Err, refl, ap, sym, ◌∙◌, subst, arith, append-nil, length-append}
use Rattle.std.specs.List.{slice_index}
use Rattle.ulfm_model.specs.declared.{event.Entry.{Entry}, limits.Limits.{Limits}, place.Place.{Place}}
use Rattle.ulfm_model.specs.{Words.{word_at}}
use Rattle.ulfm_words.specs.declared.{plain.Setting.{Setting}, step.Last.{Last}, step.Site.{Site}, step.Step.{Step}}
use Rattle.ulfm_words.specs.{Entries.{entry_of}, Pass.{cached_by, caches_in, entries, last_of, sight_of, IsTied}, Places.{IsWithin, key_in}, Steps.{Sight, Loads, Sets}}
use mathlib.Core.List.{IsPrefix}
use Rattle.ulfm_words.proofs.{Standing.{cached_place, caches_place}, Trails.{did_none}}
use Rattle.ulfm_words.specs.Steps.{coding, view_of}

pub last_of-push : (xs : List (Last × Bool)) (x : Last × Bool) → last_of (xs ++ x ∷ []) ≡ Some x.0
last_of-push [] x = refl
last_of-push (y ∷ []) x = refl
last_of-push (y ∷ z ∷ xs) x = last_of-push (z ∷ xs) x

module _ {P : Type 0} (meld : P → P → P) (pack : P → ℕ) (unpack : ℕ → Option P) (limits : Limits) where
  abbrev made : Place → ℕ → Bool → Last × Bool
  made p w load = (record { at = Site.Place p; word = w; load = load }, load)

  cached_same : (ts ts' : List (Last × Bool)) (p : Place) (w : ℕ) (load : Bool) → ts' ≡ ts ++ made p w load ∷ [] → IsPrefix (cached_by ts) (cached_by ts')
  cached_same ts ts' p w load is = ([], append-nil (cached_by ts) ∙ (sym (cached_place ts p w load) ∙ ap cached_by (sym is)))

  caches_same : (ts ts' : List (Last × Bool)) (p : Place) (w : ℕ) (load : Bool) → ts' ≡ ts ++ made p w load ∷ [] → caches_in ts' ≡ caches_in ts
  caches_same ts ts' p w load is = ap caches_in is ∙ caches_place ts p w load

  -- the limits that the pass shows are its own
  pub within_is : (old : Sight P) (ws : List ℕ) (ms : List Setting) (ts : List (Last × Bool)) (p : Place) → sight_of unpack limits ws ms ts ≡ old → IsWithin old.name.limits p → IsWithin limits p
  within_is old ws ms ts p e within = subst (λ (o : Sight P). IsWithin o.name.limits p) (sym e) within

  pub loads_from : (old : Sight P) (ws : List ℕ) (ms : List Setting) (cap : ℕ) (ts ts' : List (Last × Bool)) (p : Place) (w : ℕ) → sight_of unpack limits ws ms ts ≡ old → IsTied meld pack unpack limits ws ms cap
      → IsWithin old.name.limits p → w ≡ slice_index ws (key_in limits p) → ts' ≡ ts ++ made p w true ∷ []
      → Loads meld pack true p (view_of pack old.name old) (view_of pack old.name (sight_of unpack limits ws ms ts')) × (w ≡ word_at pack (entries unpack limits ws ms) p)
  loads_from old ws ms cap ts ts' p w e tied within at is =
      let h = entries unpack limits ws ms in
      let word : w ≡ word_at pack h p = at ∙ tied.same p (within_is old ws ms ts p e within) in (
        subst (λ (o : Sight P). Loads meld pack true p (view_of pack o.name o) (view_of pack o.name (sight_of unpack limits ws ms ts'))) e (record {
          of = record { name_is = refl; may_open = tied.may_open; legal = tied.legal };
          did = did_none true h;
          cached = cached_same ts ts' p w true is;
          caches = caches_same ts ts' p w true is;
          steps = ap length is ∙ length-append ts (made p w true ∷ []);
          last = ap last_of is ∙ (last_of-push ts (made p w true) ∙ ap (λ n. Some (made p n true).0) word);
        }),
        word,
      )

  pub sets_lost : (old : Sight P) (ws : List ℕ) (ms : List Setting) (cap : ℕ) (ts ts' : List (Last × Bool)) (s : Step) (w : ℕ) → sight_of unpack limits ws ms ts ≡ old → IsTied meld pack unpack limits ws ms cap
      → IsWithin old.name.limits s.place → w ≡ slice_index ws (key_in limits s.place) → w ≢ 0 → ts' ≡ ts ++ made s.place w false ∷ [] → Sets meld (coding pack unpack) true s (view_of pack old.name old) (Err w) (view_of pack old.name (sight_of unpack limits ws ms ts'))
  sets_lost old ws ms cap ts ts' s w e tied within at some is =
      let h = entries unpack limits ws ms in
      subst (λ (o : Sight P). Sets meld (coding pack unpack) true s (view_of pack o.name o) (Err w) (view_of pack o.name (sight_of unpack limits ws ms ts'))) e (record {
        of = record { name_is = refl; may_open = tied.may_open; legal = tied.legal };
        outcome = record { some = omega (arith, some); stands = sym (at ∙ tied.same s.place (within_is old ws ms ts s.place e within)); did = did_none true h };
        cached = cached_same ts ts' s.place w false is;
        caches = caches_same ts ts' s.place w false is;
        steps = ap length is ∙ length-append ts (made s.place w false ∷ []);
        last = ap last_of is ∙ last_of-push ts (made s.place w false);
      })

  pub sets_won : (old : Sight P) (ws ws' : List ℕ) (ms ms' : List Setting) (cap' : ℕ) (ts ts' : List (Last × Bool)) (s : Step) (w : ℕ) → sight_of unpack limits ws ms ts ≡ old → IsTied meld pack unpack limits ws' ms' cap'
      → IsWithin old.name.limits s.place → (entry : Entry P) → entry_of unpack s ≡ Some entry → entries unpack limits ws' ms' ≡ entries unpack limits ws ms ++ entry ∷ []
      → slice_index ws' (key_in limits s.place) ≡ s.word → w ≡ 0 → ts' ≡ ts ++ made s.place w false ∷ [] → Sets meld (coding pack unpack) true s (view_of pack old.name old) (Ok tt) (view_of pack old.name (sight_of unpack limits ws' ms' ts'))
  sets_won old ws ws' ms ms' cap' ts ts' s w e tied within entry is_entry added set none is =
      let h = entries unpack limits ws ms in
      let stamped : ts' ≡ ts ++ made s.place 0 false ∷ [] = is ∙ ap (λ n. ts ++ made s.place n false ∷ []) none in
      subst (λ (o : Sight P). Sets meld (coding pack unpack) true s (view_of pack o.name o) (Ok tt) (view_of pack o.name (sight_of unpack limits ws' ms' ts'))) e (record {
        of = record { name_is = refl; may_open = tied.may_open; legal = tied.legal };
        outcome = record {
          entry = entry;
          is_entry = is_entry;
          added = record { before = h; did = did_none true h; is = added };
          stands = sym (tied.same s.place (within_is old ws ms ts s.place e within)) ∙ set;
        };
        cached = cached_same ts ts' s.place 0 false stamped;
        caches = caches_same ts ts' s.place 0 false stamped;
        steps = ap length stamped ∙ length-append ts (made s.place 0 false ∷ []);
        last = ap last_of stamped ∙ last_of-push ts (made s.place 0 false);
      })

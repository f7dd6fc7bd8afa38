-- What setting a word does to a journal's history.
use Rattle.std.proofs.Common.{◌≡◌, ◌≢◌, ◌⊎◌, inl, inr, ℕ, zero, suc, ◌+◌, ◌≤◌, ◌<◌, ◌==◌, cond, Option, Some, List, [], ◌∷◌, ◌++◌, length, get_or, replicate, refl, sym, ◌∙◌, ap, ap₂, arith, get_or-set_other, get_or-set_same, length-append}
use Rattle.std.specs.Prelude.{slice_index, slice_set, count_by}
use Rattle.std.specs.List.{slice_get, cons_option, AllByRecursion}
use Rattle.std.proofs.Math.ListN.{length-set}
use Rattle.std.proofs.lemmas.Grind.{common_steps}
use Rattle.std.proofs.lemmas.List.{length-replicate}
use Rattle.std.proofs.lemmas.List.Sums.{count_by-le-length, sum_by-set}
use Rattle.std.proofs.lemmas.Option.{slice_get_read}
use Rattle.ulfm_model.specs.declared.{event.Entry.{Entry}, limits.Limits.{Limits}, place.Place.{Place}, place.Place.TheVariants.{List as ListAt, Comm as CommAt, Revoked as RevokedAt, Slot as SlotAt, Arrival as ArrivalAt}}
use Rattle.ulfm_model.specs.{History.{History, MayFollow}, Words.{MayOpen, place_of, size_of, word_at, word_of}}
use Rattle.ulfm_model.proofs.{Histories.{legal_push}, WordRules.{word_set, word_kept, word_some}}
use Rattle.ulfm_words.specs.declared.{plain.Setting.{Setting}, step.Step.{Step}}
use Rattle.ulfm_words.specs.{Entries.{entry_of}, Pass.{entry_at, entries, IsMade, is_zero, IsTied}, Places.{IsWithin, key_in}}
use Rattle.ulfm_words.proofs.Keys.{key_lt, one_key}

-- where nothing has happened each word is 0
pub zero_at : {P : Type 0} (pack : P → ℕ) (p : Place) → word_at pack [] p ≡ 0
zero_at pack (ListAt i) = refl
zero_at pack (CommAt zero) = refl
zero_at pack (CommAt (suc j)) = refl
zero_at pack (RevokedAt c) = refl
zero_at pack (SlotAt c k r) = refl
zero_at pack (ArrivalAt c k r) = refl

-- the setting that a read gave
pub setting_found : (xs ms : List Setting) (i : ℕ) (m : Setting) → xs ≡ ms → i < length xs → m ≡ get_or xs i m → slice_get ms i ≡ Some m
setting_found xs ms i m e lt is = rw (← e) (slice_get_read xs (length xs) i m refl lt is)

one_less : (a b x w : ℕ) → a + cond (x == 0) 1 0 ≡ b + cond (w == 0) 1 0 → x ≡ 0 → w ≢ 0 → a + 1 ≡ b
one_less a b x w e z n = grind (arith, common_steps)

-- one word less is 0
pub count-set : (ws : List ℕ) (i w : ℕ) → slice_index ws i ≡ 0 → i < length ws → w ≢ 0 → count_by is_zero (slice_set ws i w) + 1 ≡ count_by is_zero ws
count-set ws i w z lt n = one_less _ _ (get_or ws i 0) w (sum_by-set (λ x. cond (is_zero x) 1 0) ws i w 0 lt) z n

same_or_not : (a b : ℕ) → (a ≡ b) ⊎ (a ≢ b)
same_or_not a b = grind arith

module _ {P : Type 0} (unpack : ℕ → Option P) (limits : Limits) where
  abbrev AreMade : List ℕ → List Setting → Type 0
  AreMade ws ms = AllByRecursion (IsMade unpack limits ws) ms

  pub made-get : (ws : List ℕ) (ms : List Setting) (i : ℕ) (m : Setting) → AreMade ws ms → slice_get ms i ≡ Some m → IsMade unpack limits ws m
  made-get ws [] i m s e = absurd cc
  made-get ws (x ∷ ms) zero m s e = let same : x ≡ m = cc in rw (← same) s.0
  made-get ws (x ∷ ms) (suc i) m s e = made-get ws ms i m s.1 e

  pub entries-get : (ws : List ℕ) (ms : List Setting) (i : ℕ) (m : Setting) → AreMade ws ms → slice_get ms i ≡ Some m → slice_get (entries unpack limits ws ms) i ≡ entry_at unpack limits ws m
  entries-get ws [] i m s e = absurd cc
  entries-get ws (x ∷ ms) zero m s e =
      let same : x ≡ m = cc in
      ap (λ (o : Option (Entry P)). slice_get (cons_option o (entries unpack limits ws ms)) 0) s.0.is_entry ∙ (sym s.0.is_entry ∙ ap (entry_at unpack limits ws) same)
  entries-get ws (x ∷ ms) (suc i) m s e =
      ap (λ (o : Option (Entry P)). slice_get (cons_option o (entries unpack limits ws ms)) (suc i)) s.0.is_entry ∙ entries-get ws ms i m s.1 e

  pub entries-length : (ws : List ℕ) (ms : List Setting) → AreMade ws ms → length (entries unpack limits ws ms) ≡ length ms
  entries-length ws [] s = refl
  entries-length ws (x ∷ ms) s =
      ap (λ (o : Option (Entry P)). length (cons_option o (entries unpack limits ws ms))) s.0.is_entry ∙ ap suc (entries-length ws ms s.1)

  module _ (ws : List ℕ) (i w : ℕ) (m : Setting) (e : Entry P) (z : slice_index ws i ≡ 0) (lt : i < length ws) (at : key_in limits m.place ≡ i) (is : entry_of unpack (record { place = m.place; word = w; half = m.half; by = m.by }) ≡ Some e) where
    own : slice_index (slice_set ws i w) (key_in limits m.place) ≡ w
    own = rw at (get_or-set_same ws i w 0 lt)

    own_entry : entry_at unpack limits (slice_set ws i w) m ≡ Some e
    own_entry = ap (λ n. entry_of unpack (record { place = m.place; word = n; half = m.half; by = m.by })) own ∙ is

    kept : (x : Setting) → IsMade unpack limits ws x → slice_index (slice_set ws i w) (key_in limits x.place) ≡ slice_index ws (key_in limits x.place)
    kept x s = get_or-set_other ws i (key_in limits x.place) w 0 (λ k. s.set (ap (slice_index ws) k ∙ z))

    kept_entry : (x : Setting) (s : IsMade unpack limits ws x) → entry_at unpack limits (slice_set ws i w) x ≡ Some s.entry
    kept_entry x s = ap (λ n. entry_of unpack (record { place = x.place; word = n; half = x.half; by = x.by })) (kept x s) ∙ s.is_entry

    -- a word that was 0 is set, and its event comes last
    pub entries-set : (ms : List Setting) → AreMade ws ms → entries unpack limits (slice_set ws i w) (ms ++ m ∷ []) ≡ entries unpack limits ws ms ++ e ∷ []
    entries-set [] s = ap (λ (o : Option (Entry P)). cons_option o []) own_entry
    entries-set (x ∷ ms) s =
        ap₂ (λ (o : Option (Entry P)) (es : List (Entry P)). cons_option o es) (kept_entry x s.0) (entries-set ms s.1)
        ∙ sym (ap (λ (o : Option (Entry P)). cons_option o (entries unpack limits ws ms) ++ e ∷ []) s.0.is_entry)

    pub made-set : w ≢ 0 → IsWithin limits m.place → (ms : List Setting) → AreMade ws ms → AreMade (slice_set ws i w) (ms ++ m ∷ [])
    made-set n within [] s = (record { within = within; set = λ q. n (sym own ∙ q); entry = e; is_entry = own_entry }, tt)
    made-set n within (x ∷ ms) s =
        (record { within = s.0.within; set = λ q. s.0.set (sym (kept x s.0) ∙ q); entry = s.0.entry; is_entry = kept_entry x s.0 }, made-set n within ms s.1)

module _ {P : Type 0} (meld : P → P → P) (pack : P → ℕ) (unpack : ℕ → Option P) (limits : Limits) where
  same-set : (ws : List ℕ) (h : History P) (s : Step) (i : ℕ) (e : Entry P) → ((p : Place) → IsWithin limits p → slice_index ws (key_in limits p) ≡ word_at pack h p) → IsWithin limits s.place → key_in limits s.place ≡ i
      → i < length ws → word_of pack e.event ≡ s.word → MayFollow meld limits h e.event → place_of h e.event ≡ s.place
      → (p : Place) → IsWithin limits p → (key_in limits p ≡ i) ⊎ (key_in limits p ≢ i) → slice_index (slice_set ws i s.word) (key_in limits p) ≡ word_at pack (h ++ e ∷ []) p
  same-set ws h s i e tied within at lt word may place p q (inl same) =
      let one : place_of h e.event ≡ p = place ∙ sym (one_key limits p s.place q within (same ∙ sym at)) in
      let set_there : slice_index (slice_set ws i s.word) (key_in limits p) ≡ s.word = rw same (get_or-set_same ws i s.word 0 lt) in
      set_there ∙ (sym word ∙ (sym (word_set pack meld limits h e.by e.event may).1 ∙ ap (word_at pack (h ++ e ∷ [])) one))
  same-set ws h s i e tied within at lt word may place p q (inr n) =
      let apart : place_of h e.event ≢ p = λ x. n (ap (key_in limits) (sym x ∙ place) ∙ at) in
      get_or-set_other ws i (key_in limits p) s.word 0 n ∙ (tied p q ∙ sym (word_kept pack meld limits h e.by e.event p may apart))

  -- the words and the journal stay tied where a word that was 0 is set
  pub tied_set : (ws : List ℕ) (ms ms' : List Setting) (cap cap' : ℕ) (s : Step) (i : ℕ) (e : Entry P) → IsTied meld pack unpack limits ws ms cap → IsWithin limits s.place → key_in limits s.place ≡ i → slice_index ws i ≡ 0
      → entry_of unpack s ≡ Some e → word_of pack e.event ≡ s.word → MayFollow meld limits (entries unpack limits ws ms) e.event → place_of (entries unpack limits ws ms) e.event ≡ s.place
      → (let m : Setting = record { place = s.place; half = s.half; by = s.by } in ms' ≡ ms ++ m ∷ []) → cap ≤ cap' → IsTied meld pack unpack limits (slice_set ws i s.word) ms' cap'
  tied_set ws ms ms' cap cap' s i e tied within at z is word may there pushed more =
      let m : Setting = record { place = s.place; half = s.half; by = s.by } in
      let lt : i < length ws = omega (arith, key_lt limits s.place within, tied.size, at) in
      let n : s.word ≢ 0 = let some = word_some pack e.event in omega (arith, word, some) in
      let history : entries unpack limits (slice_set ws i s.word) (ms ++ m ∷ []) ≡ entries unpack limits ws ms ++ e ∷ [] = entries-set unpack limits ws i s.word m e z lt at is ms tied.made in
      let fewer = count-set ws i s.word z lt n in
      rw pushed (record {
        may_open = tied.may_open;
        size = omega (arith, length-set ws i s.word, tied.size);
        made = made-set unpack limits ws i s.word m e z lt at is n within ms tied.made;
        same = λ p q. same-set ws (entries unpack limits ws ms) s i e tied.same within at lt word may there p q (same_or_not (key_in limits p) i) ∙ ap (λ (h : History P). word_at pack h p) (sym history);
        legal = rw history (legal_push meld limits (entries unpack limits ws ms) e tied.legal may);
        free = omega (arith, fewer, length-append ms (m ∷ []), tied.free);
        room = omega (arith, tied.room, more);
      })

-- words that are all 0, and nothing that was set
zeros : (n i : ℕ) → slice_index (replicate n 0) i ≡ 0
zeros zero i = refl
zeros (suc n) zero = refl
zeros (suc n) (suc i) = zeros n i

none_set : (n : ℕ) (xs : List ℕ) → xs ≡ replicate n 0 → (length xs ≡ n) × (count_by is_zero xs ≤ n)
none_set n xs same =
    let long : length xs ≡ n = ap length same ∙ length-replicate n 0 in
    let fewer = count_by-le-length is_zero xs in
    (long, omega (arith, long, fewer))

pub tied_new : {P : Type 0} (meld : P → P → P) (pack : P → ℕ) (unpack : ℕ → Option P) (limits : Limits) (words : List ℕ) (journal : List Setting) (cap : ℕ) → MayOpen limits → words ≡ replicate (size_of limits) 0 → journal ≡ [] → size_of limits ≤ cap
    → IsTied meld pack unpack limits words journal cap
tied_new meld pack unpack limits words journal cap may same none room =
    let all = none_set (size_of limits) words same in
    rw none (record {
      may_open = may;
      size = omega (arith, all.0);
      made = tt;
      same = λ p within. ap (λ ws. slice_index ws (key_in limits p)) same ∙ (zeros (size_of limits) (key_in limits p) ∙ sym (zero_at pack p));
      legal = tt;
      free = omega (arith, all.1);
      room = room;
    })

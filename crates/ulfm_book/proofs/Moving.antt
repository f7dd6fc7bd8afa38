-- Each step on a place's word keeps the rule.
use Rattle.std.proofs.Common.{◌≡◌, ◌≢◌, ◌⊎◌, ℕ, ◌<◌, ◌==◌, true, List, [], ◌∷◌, ◌++◌, slice_set, None, refl, ap, sym, ◌∙◌, subst, arith, inl, inr}
use Rattle.std.proofs.lemmas.Bool.{ne_eqb}
use mathlib.Core.List.{IsPrefix}
use prog.Atomic.{either}
use Rattle.logbook.specs.Pages.{Cell, Moves, no_nib, step}
use Rattle.ulfm_model.specs.declared.{event.Entry.{Entry}, limits.Limits.{Limits}, place.Place.{Place}}
use Rattle.ulfm_model.specs.{History.{History, IsLegal, MayFollow}, Words.{place_of, word_at, word_of}}
use Rattle.ulfm_model.proofs.WordRules.{word_kept, word_set}
use Rattle.ulfm_words.specs.{Besides.{written}, Places.{IsWithin}, Steps.{IsWinged}}
use Rattle.ulfm_book.specs.declared.{line.Line.{Line}, line.Line.TheVariants.{Made}}
use Rattle.ulfm_book.specs.{Logs.{IsLog, cached_in, history_in, limits_in}, Rules.{AreWords, Exchanges, Extends, IsExchanged, IsFound, Represents, Looks, number_at}, Layout.{block_offset, row_length, place_offset, wing_offset}}
use Rattle.ulfm_book.proofs.{Growing.{log_push, written_made}, Listing.{listed_as, listed_event, winged_stays}, Seating.{one_seat, seat_in_row, seats_apart, wing_apart}, Stepping.{exchange, look, moved, others_stay, same_or_not, set_same, shown, words_set}}

module _ {P : Type 0} (meld : P → P → P) (pack : P → ℕ) where
  -- the caller's premise: whatever others did in between, the event may come while the word is 0, and sets this word
  abbrev pub MayAdd : Place → List (Line P) → Entry P → Type 0
  MayAdd p old e = (more : History P) → IsPrefix (history_in old) more → IsLegal meld (limits_in old) more → word_at pack more p ≡ 0
      → MayFollow meld (limits_in old) more e.event × (place_of more e.event ≡ p)

  -- the number in a cell is the word of each place that has its key
  is_found : (k : ℕ) (cells : List Cell) (log : List (Line P)) → Represents meld pack cells log → IsFound pack k (number_at cells k) log
  is_found k cells log kept p within is = sym (kept.words.places p within) ∙ ap (number_at cells) (sym is)

  -- the words after an event at the end of the log
  module _ (p : Place) (e : Entry P) (w : ℕ) (cells : List Cell) (log : List (Line P)) (kept : Represents meld pack cells log) (within : IsWithin (limits_in log) p) (word : word_of pack e.event ≡ w)
      (winged : IsWinged pack (cached_in log) e.event) (may : MayFollow meld (limits_in log) (history_in log) e.event) (at : place_of (history_in log) e.event ≡ p) where
    abbrev limits : Limits
    limits = limits_in log

    abbrev h : History P
    h = history_in log

    abbrev key : ℕ
    key = place_offset limits p

    abbrev after : List Cell
    after = slice_set cells key (w, true)

    others : (k : ℕ) → k ≢ key → number_at after k ≡ number_at cells k
    others k other = others_stay meld pack (written h limits (cached_in log)) cells key w kept.words (seat_in_row limits p within) k other

    place_after : (q : Place) → IsWithin limits q → (place_offset limits q ≡ key) ⊎ (place_offset limits q ≢ key) → number_at after (place_offset limits q) ≡ word_at pack (h ++ e ∷ []) q
    place_after q there (inl same) =
        let one : place_of h e.event ≡ q = at ∙ one_seat limits p q within there (sym same) in
        ap (number_at after) same ∙ (set_same cells (row_length limits) key w kept.words.size (seat_in_row limits p within)
        ∙ (sym word ∙ (sym (word_set pack meld limits h e.by e.event may).1 ∙ ap (word_at pack (h ++ e ∷ [])) one)))
    place_after q there (inr other) =
        let apart : place_of h e.event ≢ q = λ same. other (ap (place_offset limits) (sym same ∙ at)) in
        others (place_offset limits q) other ∙ (kept.words.places q there ∙ sym (word_kept pack meld limits h e.by e.event q may apart))

    words_after : AreWords meld pack (written (h ++ e ∷ []) limits (cached_in log)) after
    words_after =
        words_set meld pack (written h limits (cached_in log)) cells key w kept.words (seat_in_row limits p within) (h ++ e ∷ []) (cached_in log)
        (λ q there. place_after q there (same_or_not (place_offset limits q) key))
        (listed_as meld pack limits (h ++ e ∷ []) (cached_in log) (λ b. number_at cells (block_offset limits b)) (λ x. number_at cells (wing_offset limits x))
        (λ b. number_at after (block_offset limits b)) (λ x. number_at after (wing_offset limits x))
        (λ b there. others (block_offset limits b) (seats_apart limits p b within)) (λ x there. others (wing_offset limits x) (wing_apart limits x p there within))
        (listed_event meld pack limits h (cached_in log) (λ b. number_at cells (block_offset limits b)) (λ x. number_at cells (wing_offset limits x)) e winged kept.words.listed))

    after_event : Represents meld pack after (log ++ Made e ∷ [])
    after_event = record {
      is_log = log_push meld log e kept.is_log may;
      words = subst (λ of. AreWords meld pack of after) (sym (written_made meld log e kept.is_log)) words_after;
    }

  module _ (p : Place) (old : List (Line P)) (k : ℕ) (is : IsLog meld old) (within : IsWithin (limits_in old) p) (key : k ≡ place_offset (limits_in old) p) where
    lt : k < row_length (limits_in old)
    lt = omega (arith, key, seat_in_row (limits_in old) p within)

    -- a load keeps the rule, and finds the word
    pub look_moves : (ask : Line P) → Moves (Represents meld pack) shown moved k (old, (no_nib, None)) (λ n. n) (Looks meld pack (step k 0 0 ask) (old, (no_nib, None)))
    look_moves ask = look meld pack old k is lt (IsFound pack k) (is_found k)

    -- an exchange keeps the rule: it adds the event where the word was 0, and otherwise finds the word that stands
    pub add_moves : (w : ℕ) (e : Entry P) → word_of pack e.event ≡ w → MayAdd p old e → IsWinged pack (cached_in old) e.event
        → Moves (Represents meld pack) shown moved k (old, (no_nib, None)) (λ n. either (n == 0) w n) (Exchanges meld pack (step k 0 w (Made e)) (old, (no_nib, None)))
    add_moves w e word may winged = exchange meld pack old k is lt (Made e) w (IsExchanged meld pack (step k 0 w (Made e)) old) won lost
      where
        won : (cells : List Cell) (log : List (Line P)) → Represents meld pack cells log → Extends meld old log → number_at cells k ≡ 0
            → Represents meld pack (slice_set cells k (w, true)) (log ++ Made e ∷ []) × IsExchanged meld pack (step k 0 w (Made e)) old 0 (log ++ Made e ∷ [])
        won cells log kept s zero =
            let limits = limits_in log in
            let there : IsWithin limits p = subst (λ n. IsWithin n p) (sym s.limits) within in
            let here : k ≡ place_offset limits p = key ∙ ap (λ n. place_offset n p) (sym s.limits) in
            let none : word_at pack (history_in log) p ≡ 0 = is_found k cells log kept p there here ∙ zero in
            let ok = may (history_in log) s.history (subst (λ n. IsLegal meld n (history_in log)) s.limits kept.is_log.legal) none in
            let follows : MayFollow meld limits (history_in log) e.event = subst (λ n. MayFollow meld n (history_in log) e.event) (sym s.limits) ok.0 in
            let known = winged_stays pack (cached_in old) (cached_in log) e.event s.cached winged in
            let after : Represents meld pack (slice_set cells k (w, true)) (log ++ Made e ∷ []) = rw here (after_event p e w cells log kept there word known follows ok.1) in
            let now : number_at (slice_set cells k (w, true)) k ≡ w = rw here (set_same cells (row_length limits) (place_offset limits p) w kept.words.size (seat_in_row limits p there)) in
            (after, (record { before = log; sees = s; is = refl }, subst (λ n. IsFound pack k n (log ++ Made e ∷ [])) now (is_found k (slice_set cells k (w, true)) (log ++ Made e ∷ []) after)))

        lost : (cells : List Cell) (log : List (Line P)) → Represents meld pack cells log → Extends meld old log → number_at cells k ≢ 0 → IsExchanged meld pack (step k 0 w (Made e)) old (number_at cells k) log
        lost cells log kept s some = rw (ne_eqb (number_at cells k) 0 some) (is_found k cells log kept)

-- What the steps of all kinds share: a load changes nothing, and an exchange adds its line where it finds 0.
use Rattle.std.proofs.Common.{◌≡◌, ◌≢◌, ◌⊎◌, ℕ, ◌<◌, ◌==◌, Bool, true, false, List, [], ◌∷◌, ◌++◌, length, slice_set, None, refl, ap, ap₂, sym, ◌∙◌, subst, arith, inl, inr, get_or-set_other, get_or-set_same, append-nil}
use Rattle.std.proofs.lemmas.List.{set-get_or}
use Rattle.std.proofs.lemmas.Bool.{eqb-true, eq-eqb}
use Rattle.std.proofs.Math.ListN.{length-set}
use mathlib.Core.List.{IsPrefix}
use prog.Atomic.{either}
use Rattle.logbook.specs.Pages.{Cell, Goes, Moves, View, cell, keeps, no_nib}
use Rattle.ulfm_model.specs.declared.{block.Beside.{Beside}, limits.Limits.{Limits}, place.Place.{Place}}
use Rattle.ulfm_model.specs.{History.{History}, Words.{word_at}}
use Rattle.ulfm_words.specs.{Besides.{Written, written}, Places.{IsWithin}}
use Rattle.ulfm_words.proofs.Growing.{prefix_push}
use Rattle.ulfm_book.specs.declared.line.Line.{Line}
use Rattle.ulfm_book.specs.{Logs.{IsLog, limits_in}, Rules.{AreListed, AreWords, Extends, Represents, number_at}, Layout.{block_offset, place_offset, row_length, wing_offset}}
use Rattle.ulfm_book.proofs.Growing.{sees}

-- clients see nothing of the log
abbrev pub shown : {P : Type 0} → List (Line P) → List (Line P)
shown log = []

abbrev pub moved : {P : Type 0} → List (Line P) → List (Line P) → ℕ → Type 0
moved before after answer = Unit {0}

pub same_or_not : (a b : ℕ) → (a ≡ b) ⊎ (a ≢ b)
same_or_not a b = grind arith

-- the cells of a row after a word is set
module _ (cells : List Cell) (size key w : ℕ) (long : length cells ≡ size) (lt : key < size) where
  abbrev pub set_at : List Cell
  set_at = slice_set cells key (w, true)

  pub set_long : length set_at ≡ size
  set_long = length-set cells key (w, true) ∙ long

  pub set_same : number_at set_at key ≡ w
  set_same = ap (λ (c : Cell). c.0) (get_or-set_same cells key (w, true) (0, false) (omega (arith, long, lt)))

  pub set_other : (k : ℕ) → k ≢ key → number_at set_at k ≡ number_at cells k
  set_other k other = ap (λ (c : Cell). c.0) (get_or-set_other cells key k (w, true) (0, false) other)

  pub set_home : ((k : ℕ) → k < size → (cell cells k).1 ≡ true) → (k : ℕ) → k < size → (cell set_at k).1 ≡ true
  set_home home k below = by (same_or_not k key)
    where
      by : (k ≡ key) ⊎ (k ≢ key) → (cell set_at k).1 ≡ true
      by (inl same) = ap (λ n. (cell set_at n).1) same ∙ ap (λ (c : Cell). c.1) (get_or-set_same cells key (w, true) (0, false) (omega (arith, long, lt)))
      by (inr other) = ap (λ (c : Cell). c.1) (get_or-set_other cells key k (w, true) (0, false) other) ∙ home k below

-- what the words stand for after one is set: the others are as they were
module _ {P : Type 0} (meld : P → P → P) (pack : P → ℕ) (of : Written P) (cells : List Cell) (key w : ℕ) (words : AreWords meld pack of cells) (lt : key < row_length of.limits) where
  abbrev after_it : List Cell
  after_it = slice_set cells key (w, true)

  pub others_stay : (k : ℕ) → k ≢ key → number_at after_it k ≡ number_at cells k
  others_stay k other = set_other cells (row_length of.limits) key w words.size lt k other

  pub words_set : (seen : History P) (cached : List Beside) → ((p : Place) → IsWithin of.limits p → number_at after_it (place_offset of.limits p) ≡ word_at pack seen p)
      → AreListed meld pack (written seen of.limits cached) (λ b. number_at after_it (block_offset of.limits b)) (λ x. number_at after_it (wing_offset of.limits x))
      → AreWords meld pack (written seen of.limits cached) after_it
  words_set seen cached places listed = record {
    size = set_long cells (row_length of.limits) key w words.size lt;
    home = set_home cells (row_length of.limits) key w words.size lt words.home;
    places = places;
    listed = listed;
  }

module _ {P : Type 0} (meld : P → P → P) (pack : P → ℕ) (old : List (Line P)) (key : ℕ) (is : IsLog meld old) (lt : key < row_length (limits_in old)) where
  -- a step that leaves its word as it is adds nothing
  stays : (f : ℕ → ℕ) (then : ℕ → View (Line P) ℕ → Type 0) (cells : List Cell) (log : List (Line P)) → Represents meld pack cells log → (cell cells key).1 ≡ true
      → f (cell cells key).0 ≡ (cell cells key).0 → then (cell cells key).0 (log, (no_nib, None)) → Goes (Represents meld pack) shown moved key (old, (no_nib, None)) f then cells log
  stays f then cells log kept home same told =
      let one : (let c : Cell = (f (cell cells key).0, true) in c) ≡ cell cells key = ap₂ (λ n b. let c : Cell = (n, b) in c) same (sym home) in
      let as_was : slice_set cells key (f (cell cells key).0, true) ≡ cells = ap (slice_set cells key) one ∙ set-get_or cells key (0, false) in
      let more : log ≡ log ++ [] = sym (append-nil log) in (
        keeps,
        [],
        None,
        tt,
        subst (λ (l : List (Line P)). Represents meld pack (slice_set cells key (f (cell cells key).0, true)) l) more (subst (λ (cs : List Cell). Represents meld pack cs log) (sym as_was) kept),
        inl (refl, refl),
        subst (λ (l : List (Line P)). then (cell cells key).0 (l, (no_nib, None))) more told,
      )

  -- the word under the key, in a log that goes on from what was seen
  below : (cells : List Cell) (log : List (Line P)) → Represents meld pack cells log → IsPrefix old log → key < row_length (limits_in log)
  below cells log kept begins = subst (λ (n : Limits). key < row_length n) (sym (sees meld old log is kept.is_log begins).limits) lt

  within : (cells : List Cell) (log : List (Line P)) → Represents meld pack cells log → IsPrefix old log → key < length cells
  within cells log kept begins = omega (arith, kept.words.size, below cells log kept begins)

  at_home : (cells : List Cell) (log : List (Line P)) → Represents meld pack cells log → IsPrefix old log → (cell cells key).1 ≡ true
  at_home cells log kept begins = kept.words.home key (below cells log kept begins)

  -- a load keeps the rule, and tells what the rule says of the word
  pub look : (Saw : ℕ → List (Line P) → Type 0) → ((cells : List Cell) (log : List (Line P)) → Represents meld pack cells log → Saw (number_at cells key) log)
      → Moves (Represents meld pack) shown moved key (old, (no_nib, None)) (λ n. n) (λ n new. Extends meld old new.0 × Saw n new.0)
  look Saw saw cells log kept begins away = (
    within cells log kept begins,
    at_home cells log kept begins,
    stays (λ n. n) (λ n new. Extends meld old new.0 × Saw n new.0) cells log kept (at_home cells log kept begins) refl (sees meld old log is kept.is_log begins, saw cells log kept),
  )

  -- an exchange keeps the rule: it adds a line where the word is 0, and otherwise nothing
  module _ (line : Line P) (w : ℕ) (Saw : ℕ → List (Line P) → Type 0) where
    abbrev Told : ℕ → View (Line P) ℕ → Type 0
    Told n new = Extends meld old new.0 × Saw n new.0

    module _ (won : (cells : List Cell) (log : List (Line P)) → Represents meld pack cells log → Extends meld old log → number_at cells key ≡ 0 → Represents meld pack (slice_set cells key (w, true)) (log ++ line ∷ []) × Saw 0 (log ++ line ∷ []))
        (lost : (cells : List Cell) (log : List (Line P)) → Represents meld pack cells log → Extends meld old log → number_at cells key ≢ 0 → Saw (number_at cells key) log) where
      adds_or_stays : (cells : List Cell) (log : List (Line P)) → Represents meld pack cells log → IsPrefix old log → (b : Bool) → ((cell cells key).0 == 0) ≡ b
          → Goes (Represents meld pack) shown moved key (old, (no_nib, None)) (λ n. either (n == 0) w n) Told cells log
      adds_or_stays cells log kept begins true is_zero =
          let zero : number_at cells key ≡ 0 = eqb-true (number_at cells key) 0 is_zero in
          let after = won cells log kept (sees meld old log is kept.is_log begins) zero in
          let told : Told 0 (log ++ line ∷ [], (no_nib, None)) = (sees meld old (log ++ line ∷ []) is after.0.is_log (prefix_push old log line begins), after.1) in
          (keeps, line ∷ [], None, tt, rw is_zero after.0, inl (refl, refl), subst (λ n. Told n (log ++ line ∷ [], (no_nib, None))) (sym zero) told)
      adds_or_stays cells log kept begins false is_some =
          let some : number_at cells key ≢ 0 = λ zero. let yes = eq-eqb (number_at cells key) 0 zero in absurd (cc (is_some, yes)) in
          let now = sees meld old log is kept.is_log begins in
          stays (λ n. either (n == 0) w n) Told cells log kept (at_home cells log kept begins) (rw is_some refl) (now, lost cells log kept now some)

      pub exchange : Moves (Represents meld pack) shown moved key (old, (no_nib, None)) (λ n. either (n == 0) w n) (λ n new. Extends meld old new.0 × Saw n new.0)
      exchange cells log kept begins away = (within cells log kept begins, at_home cells log kept begins, adds_or_stays cells log kept begins ((cell cells key).0 == 0) refl)

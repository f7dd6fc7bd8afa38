-- Each step on a wing keeps the rule.
use Rattle.std.proofs.Common.{◌≡◌, ◌≢◌, ℕ, ◌<◌, ◌==◌, true, List, [], ◌∷◌, ◌++◌, slice_set, None, refl, ap, sym, ◌∙◌, subst, arith, inl, inr}
use prog.Atomic.{either}
use Rattle.logbook.specs.Pages.{Cell, Moves, no_nib, step}
use Rattle.ulfm_model.specs.declared.{block.Beside.{Beside}, block.Block.{Block}, block.Wing.{Wing}, limits.Limits.{Limits}}
use Rattle.ulfm_model.specs.Blocks.{IsWing, has_wing}
use Rattle.ulfm_model.proofs.Blocks.{now_has_wing, one_wing, wing_some, wing_stays}
use Rattle.ulfm_words.specs.{Besides.{written}, Blocks.{MaySetWing, WasWing}, Places.{IsWingWithin}, Steps.{View}}
use Rattle.ulfm_words.proofs.Pairs.{wing_small}
use Rattle.ulfm_book.specs.declared.{line.Line.{Line}, line.Line.TheVariants.{Kept}}
use Rattle.ulfm_book.specs.{Logs.{IsLog, cached_in, history_in, limits_in}, Rules.{AddsWing, AreWords, Extends, IsAddedWing, IsSpreadIn, IsWingAdded, IsWingFound, LooksWing, Represents, number_at}, Layout.{block_offset, row_length, place_offset, wing_offset}}
use Rattle.ulfm_book.proofs.{Growing.{cached_in-append, log_kept, written_kept}, Listing.{listed_wing}, Seating.{one_wing_seat, wing_apart, wing_block_apart, wing_seat_lt}, Stepping.{exchange, look, moved, others_stay, set_same, shown, words_set}}

module _ {P : Type 0} (meld : P → P → P) (pack : P → ℕ) where
  -- what may be set isn't 0, and a block's is that of its members
  pub may_some : (view : View P) (x : Wing) (w : ℕ) → MaySetWing meld pack view x w → 0 < w
  may_some view (Wing.Slot c k r) w may = let parts = wing_small w may.1 in omega (arith, parts.0)
  may_some view (Wing.Block b) w may = wing_some meld pack view.words.limits.ranks view.pass.seen (Wing.Block b) w may

  pub may_own : (view : View P) (x : Wing) (w : ℕ) → MaySetWing meld pack view x w → (b : Block) → x ≡ Wing.Block b → IsWing meld pack view.words.limits.ranks view.pass.seen (Wing.Block b) w
  may_own view x w may b same = subst (λ y. MaySetWing meld pack view y w) same may

  -- the number in a cell is the wing of what stands beside it
  wing_found : (k : ℕ) (cells : List Cell) (log : List (Line P)) → Represents meld pack cells log → IsWingFound meld pack k (number_at cells k) log
  wing_found k cells log kept x within is spread =
      subst (λ n. IsWing meld pack (limits_in log).ranks (history_in log) x (number_at cells n)) (sym is) (of_it x within spread)
    where
      of_it : (x : Wing) → IsWingWithin (limits_in log) x → IsSpreadIn log x → IsWing meld pack (limits_in log).ranks (history_in log) x (number_at cells (wing_offset (limits_in log) x))
      of_it (Wing.Slot c k r) cell given = (given.0, given.1, kept.words.listed.beside.given c k r cell given.0 given.1)
      of_it (Wing.Block b) there has = elim (kept.words.listed.beside.said b there) [
        | inl none ↦ absurd (kept.words.listed.beside.first b there (kept.words.listed.beside.told b there has) none)
        | inr said ↦ said
      ]

  -- the words after this wing's at the end of the log
  module _ (a : Wing) (w : ℕ) (cells : List Cell) (log : List (Line P)) (kept : Represents meld pack cells log) (within : IsWingWithin (limits_in log) a) (pos : 0 < w)
      (is : (b : Block) → a ≡ Wing.Block b → IsWing meld pack (limits_in log).ranks (history_in log) (Wing.Block b) w) (zero : number_at cells (wing_offset (limits_in log) a) ≡ 0) where
    abbrev after : List Cell
    after = slice_set cells (wing_offset (limits_in log) a) (w, true)

    others : (k : ℕ) → k ≢ (wing_offset (limits_in log) a) → number_at after k ≡ number_at cells k
    others k other = others_stay meld pack (written (history_in log) (limits_in log) (cached_in log)) cells (wing_offset (limits_in log) a) w kept.words (wing_seat_lt (limits_in log) a within) k other

    words_after : AreWords meld pack (written (history_in log) (limits_in log) (cached_in log ++ Beside.Wing a w ∷ [])) after
    words_after =
        words_set meld pack (written (history_in log) (limits_in log) (cached_in log)) cells (wing_offset (limits_in log) a) w kept.words (wing_seat_lt (limits_in log) a within) (history_in log) (cached_in log ++ Beside.Wing a w ∷ [])
        (λ p there. others (place_offset (limits_in log) p) (λ same. wing_apart (limits_in log) a p within there (sym same)) ∙ kept.words.places p there)
        (listed_wing meld pack (limits_in log) (history_in log) (cached_in log) (λ b. number_at cells (block_offset (limits_in log) b)) (λ x. number_at cells (wing_offset (limits_in log) x)) a w
        (λ b. number_at after (block_offset (limits_in log) b)) (λ x. number_at after (wing_offset (limits_in log) x)) pos is zero
        (set_same cells (row_length (limits_in log)) (wing_offset (limits_in log) a) w kept.words.size (wing_seat_lt (limits_in log) a within))
        (λ x there other. others (wing_offset (limits_in log) x) (λ same. other (one_wing_seat (limits_in log) x a there within same))) (λ b there. others (block_offset (limits_in log) b) (λ same. wing_block_apart (limits_in log) a b within (sym same)))
        kept.words.listed)

    after_wing : Represents meld pack after (log ++ Kept (Beside.Wing a w) ∷ [])
    after_wing = record {
      is_log = log_kept meld log (Beside.Wing a w) kept.is_log;
      words = subst (λ of. AreWords meld pack of after) (sym (written_kept meld log (Beside.Wing a w) kept.is_log)) words_after;
    }

  module _ (a : Wing) (old : List (Line P)) (k : ℕ) (is : IsLog meld old) (within : IsWingWithin (limits_in old) a) (key : k ≡ wing_offset (limits_in old) a) where
    lt : k < row_length (limits_in old)
    lt = omega (arith, key, wing_seat_lt (limits_in old) a within)

    -- a load keeps the rule, and finds the wing of what stands beside it
    pub look_wing_moves : (ask : Line P) → Moves (Represents meld pack) shown moved k (old, (no_nib, None)) (λ n. n) (LooksWing meld pack (step k 0 0 ask) (old, (no_nib, None)))
    look_wing_moves ask = look meld pack old k is lt (IsWingFound meld pack k) (wing_found k)

    -- what is told of the only wing with this key
    told : (new : List (Line P)) (w n : ℕ) → limits_in new ≡ limits_in old → IsAddedWing w n a new → IsWingAdded k w n new
    told new w n limits added x there at =
        let x_there : IsWingWithin (limits_in old) x = subst (λ m. IsWingWithin m x) limits there in
        let x_at : k ≡ wing_offset (limits_in old) x = at ∙ ap (λ m. wing_offset m x) limits in
        subst (λ y. IsAddedWing w n y new) (one_wing_seat (limits_in old) a x within x_there (sym key ∙ x_at)) added

    -- an exchange keeps the rule: it adds the wing where the word was 0, and otherwise finds the one that stands
    pub add_wing_moves : (w : ℕ) (ask : Line P) → 0 < w → ((b : Block) → a ≡ Wing.Block b → IsWing meld pack (limits_in old).ranks (history_in old) (Wing.Block b) w)
        → Moves (Represents meld pack) shown moved k (old, (no_nib, None)) (λ n. either (n == 0) w n) (AddsWing meld (step k 0 w ask) (old, (no_nib, None)))
    add_wing_moves w ask pos own = exchange meld pack old k is lt (Kept (Beside.Wing a w)) w (IsWingAdded k w) won lost
      where
        there : (log : List (Line P)) → Extends meld old log → IsWingWithin (limits_in log) a
        there log s = subst (λ n. IsWingWithin n a) (sym s.limits) within

        here : (log : List (Line P)) → Extends meld old log → k ≡ wing_offset (limits_in log) a
        here log s = key ∙ ap (λ n. wing_offset n a) (sym s.limits)

        now : (log : List (Line P)) → Extends meld old log → (b : Block) → a ≡ Wing.Block b → IsWing meld pack (limits_in log).ranks (history_in log) (Wing.Block b) w
        now log s b same =
            subst (λ (n : Limits). IsWing meld pack n.ranks (history_in log) (Wing.Block b) w) (sym s.limits) (wing_stays meld pack (limits_in old).ranks (history_in old) (history_in log) (Wing.Block b) w s.history (own b same))

        won : (cells : List Cell) (log : List (Line P)) → Represents meld pack cells log → Extends meld old log → number_at cells k ≡ 0
            → Represents meld pack (slice_set cells k (w, true)) (log ++ Kept (Beside.Wing a w) ∷ []) × IsWingAdded k w 0 (log ++ Kept (Beside.Wing a w) ∷ [])
        won cells log kept s zero =
            let none : number_at cells (wing_offset (limits_in log) a) ≡ 0 = ap (number_at cells) (sym (here log s)) ∙ zero in
            let after : Represents meld pack (slice_set cells k (w, true)) (log ++ Kept (Beside.Wing a w) ∷ []) = rw (here log s) (after_wing a w cells log kept (there log s) pos (now log s) none) in
            let has : has_wing (cached_in (log ++ Kept (Beside.Wing a w) ∷ [])) a w ≡ true =
            subst (λ xs. has_wing xs a w ≡ true) (sym (cached_in-append log (Kept (Beside.Wing a w) ∷ []))) (now_has_wing (cached_in log) a w) in
            let added : IsAddedWing w 0 a (log ++ Kept (Beside.Wing a w) ∷ []) = record { won = λ _. (has, pos); lost = λ some. absurd (some refl) } in
            (after, told (log ++ Kept (Beside.Wing a w) ∷ []) w 0 (ap (λ of. of.limits) (written_kept meld log (Beside.Wing a w) kept.is_log) ∙ s.limits) added)

        -- a block's wing was the same
        was : (cells : List Cell) (log : List (Line P)) → Represents meld pack cells log → (x : Wing) → IsWingWithin (limits_in log) x → k ≡ wing_offset (limits_in log) x
            → ((b : Block) → x ≡ Wing.Block b → IsWing meld pack (limits_in log).ranks (history_in log) (Wing.Block b) w) → number_at cells k ≢ 0 → WasWing x w (number_at cells k)
        was cells log kept (Wing.Slot c l r) within at own some = tt
        was cells log kept (Wing.Block b) within at own some = elim (kept.words.listed.beside.said b within) [
          | inl none ↦ absurd (some (ap (number_at cells) at ∙ none))
          | inr said ↦ ap (number_at cells) at ∙ one_wing meld pack (limits_in log).ranks (history_in log) (Wing.Block b) _ w said (own b refl)
        ]

        lost : (cells : List Cell) (log : List (Line P)) → Represents meld pack cells log → Extends meld old log → number_at cells k ≢ 0 → IsWingAdded k w (number_at cells k) log
        lost cells log kept s some =
            let at = here log s in
            let has : has_wing (cached_in log) a (number_at cells k) ≡ true =
            subst (λ n. has_wing (cached_in log) a (number_at cells n) ≡ true) (sym at) (kept.words.listed.wings a (there log s) (λ none. some (ap (number_at cells) at ∙ none))) in
            told log w (number_at cells k) s.limits (record { won = λ none. absurd (some none); lost = λ _. (has, was cells log kept a (there log s) at (now log s) some) })

-- Each step on a block's word keeps the rule.
use Rattle.std.proofs.Common.{◌≡◌, ◌≢◌, ℕ, ◌<◌, ◌==◌, Bool, true, false, List, [], ◌∷◌, ◌++◌, slice_set, None, refl, ap, sym, ◌∙◌, subst, arith, inl, inr}
use prog.Atomic.{either}
use Rattle.logbook.specs.Pages.{Cell, Moves, no_nib, step}
use Rattle.ulfm_model.specs.declared.{block.Beside.{Beside}, block.Block.{Block}, block.Wing.{Wing}, limits.Limits.{Limits}}
use Rattle.ulfm_model.specs.Blocks.{IsBlock, IsBlockWithin, has_block, has_wing}
use Rattle.ulfm_model.proofs.Blocks.{block_stays, has_block_not, has_wing_stays, one_block}
use Rattle.ulfm_words.specs.{Besides.{written}}
use Rattle.ulfm_words.proofs.Standing.{now_has}
use Rattle.ulfm_book.specs.declared.{line.Line.{Line}, line.Line.TheVariants.{Kept}}
use Rattle.ulfm_book.specs.{Logs.{IsLog, cached_in, history_in, limits_in}, Rules.{AddsBlock, AreWords, Extends, IsAddedBlock, IsBlockAdded, IsBlockFound, IsOfBlock, LooksBlock, Represents, number_at}, Layout.{block_offset, row_length, place_offset, wing_offset}}
use Rattle.ulfm_book.proofs.{Growing.{cached_in-append, log_kept, written_kept}, Listing.{listed_block}, Seating.{block_seat_lt, one_block_seat, seats_apart, wing_block_apart}, Stepping.{exchange, look, moved, others_stay, set_same, shown, words_set}}

not_true : (t : Bool) → (t ≡ true → ⊥) → t ≡ false
not_true true never = absurd (never refl)
not_true false never = refl

module _ {P : Type 0} (meld : P → P → P) (pack : P → ℕ) where
  -- the number in a cell is the word of the block that has its key
  block_found : (k : ℕ) (cells : List Cell) (log : List (Line P)) → Represents meld pack cells log → IsBlockFound meld pack k (number_at cells k) log
  block_found k cells log kept b within is =
      let listed = kept.words.listed in
      subst (λ n. IsOfBlock meld pack log b (number_at cells n)) (sym is) (record {
        stands = listed.beside.word b within;
        unset = λ none. not_true (has_block (cached_in log) b) (λ has. listed.beside.told b within has none);
        set = listed.blocks b within;
      })

  -- the words after this block's at the end of the log
  module _ (a : Block) (w : ℕ) (cells : List Cell) (log : List (Line P)) (kept : Represents meld pack cells log) (within : IsBlockWithin (limits_in log) a)
      (is : IsBlock meld pack (limits_in log).ranks (history_in log) a w) (spread : number_at cells (wing_offset (limits_in log) (Wing.Block a)) ≢ 0) where
    abbrev after : List Cell
    after = slice_set cells (block_offset (limits_in log) a) (w, true)

    others : (k : ℕ) → k ≢ (block_offset (limits_in log) a) → number_at after k ≡ number_at cells k
    others k other = others_stay meld pack (written (history_in log) (limits_in log) (cached_in log)) cells (block_offset (limits_in log) a) w kept.words (block_seat_lt (limits_in log) a within) k other

    words_after : AreWords meld pack (written (history_in log) (limits_in log) (cached_in log ++ Beside.Block a ∷ [])) after
    words_after =
        words_set meld pack (written (history_in log) (limits_in log) (cached_in log)) cells (block_offset (limits_in log) a) w kept.words (block_seat_lt (limits_in log) a within) (history_in log) (cached_in log ++ Beside.Block a ∷ [])
        (λ p there. others (place_offset (limits_in log) p) (λ same. seats_apart (limits_in log) p a there (sym same)) ∙ kept.words.places p there)
        (listed_block meld pack (limits_in log) (history_in log) (cached_in log) (λ b. number_at cells (block_offset (limits_in log) b)) (λ x. number_at cells (wing_offset (limits_in log) x)) a w
        (λ b. number_at after (block_offset (limits_in log) b)) (λ x. number_at after (wing_offset (limits_in log) x)) within is spread
        (set_same cells (row_length (limits_in log)) (block_offset (limits_in log) a) w kept.words.size (block_seat_lt (limits_in log) a within))
        (λ b there other. others (block_offset (limits_in log) b) (λ same. other (one_block_seat (limits_in log) b a there within same))) (λ x there. others (wing_offset (limits_in log) x) (wing_block_apart (limits_in log) x a there)) kept.words.listed)

    after_block : Represents meld pack after (log ++ Kept (Beside.Block a) ∷ [])
    after_block = record {
      is_log = log_kept meld log (Beside.Block a) kept.is_log;
      words = subst (λ of. AreWords meld pack of after) (sym (written_kept meld log (Beside.Block a) kept.is_log)) words_after;
    }

  module _ (a : Block) (old : List (Line P)) (k : ℕ) (is : IsLog meld old) (within : IsBlockWithin (limits_in old) a) (key : k ≡ block_offset (limits_in old) a) where
    lt : k < row_length (limits_in old)
    lt = omega (arith, key, block_seat_lt (limits_in old) a within)

    -- a load keeps the rule, and finds what stands at the block
    pub look_block_moves : (ask : Line P) → Moves (Represents meld pack) shown moved k (old, (no_nib, None)) (λ n. n) (LooksBlock meld pack (step k 0 0 ask) (old, (no_nib, None)))
    look_block_moves ask = look meld pack old k is lt (IsBlockFound meld pack k) (block_found k)

    -- what is told of the only block with this key
    told : (new : List (Line P)) (w n : ℕ) → limits_in new ≡ limits_in old → IsAddedBlock w n a old new → IsBlockAdded k w n old new
    told new w n limits added b there at =
        let b_there : IsBlockWithin (limits_in old) b = subst (λ m. IsBlockWithin m b) limits there in
        let b_at : k ≡ block_offset (limits_in old) b = at ∙ ap (λ m. block_offset m b) limits in
        subst (λ x. IsAddedBlock w n x old new) (one_block_seat (limits_in old) a b within b_there (sym key ∙ b_at)) added

    -- an exchange keeps the rule: it adds the block where the word was 0, and otherwise finds the same word
    pub add_block_moves : (w v : ℕ) (ask : Line P) → IsBlock meld pack (limits_in old).ranks (history_in old) a w → has_wing (cached_in old) (Wing.Block a) v ≡ true
        → Moves (Represents meld pack) shown moved k (old, (no_nib, None)) (λ n. either (n == 0) w n) (AddsBlock meld (step k 0 w ask) (old, (no_nib, None)))
    add_block_moves w v ask block winged = exchange meld pack old k is lt (Kept (Beside.Block a)) w (λ n new. IsBlockAdded k w n old new) won lost
      where
        there : (log : List (Line P)) → Extends meld old log → IsBlockWithin (limits_in log) a
        there log s = subst (λ n. IsBlockWithin n a) (sym s.limits) within

        here : (log : List (Line P)) → Extends meld old log → k ≡ block_offset (limits_in log) a
        here log s = key ∙ ap (λ n. block_offset n a) (sym s.limits)

        now : (log : List (Line P)) → Extends meld old log → IsBlock meld pack (limits_in log).ranks (history_in log) a w
        now log s = subst (λ (n : Limits). IsBlock meld pack n.ranks (history_in log) a w) (sym s.limits) (block_stays meld pack (limits_in old).ranks (history_in old) (history_in log) a w s.history block)

        won : (cells : List Cell) (log : List (Line P)) → Represents meld pack cells log → Extends meld old log → number_at cells k ≡ 0
            → Represents meld pack (slice_set cells k (w, true)) (log ++ Kept (Beside.Block a) ∷ []) × IsBlockAdded k w 0 old (log ++ Kept (Beside.Block a) ∷ [])
        won cells log kept s zero =
            let known = kept.words.listed.beside.known (Wing.Block a) (there log s) v (has_wing_stays (cached_in old) (cached_in log) (Wing.Block a) v s.cached winged) in
            let after : Represents meld pack (slice_set cells k (w, true)) (log ++ Kept (Beside.Block a) ∷ []) =
            rw (here log s) (after_block a w cells log kept (there log s) (now log s) (λ none. absurd (omega (arith, known.0, known.1, none)))) in
            let stood = block_found k cells log kept a (there log s) (here log s) in
            let set : has_block (cached_in (log ++ Kept (Beside.Block a) ∷ [])) a ≡ true = subst (λ xs. has_block xs a ≡ true) (sym (cached_in-append log (Kept (Beside.Block a) ∷ []))) (now_has (cached_in log) a) in
            let added : IsAddedBlock w 0 a old (log ++ Kept (Beside.Block a) ∷ []) = record {
              set = set;
              won = λ _. has_block_not (cached_in old) (cached_in log) a s.cached (stood.unset zero);
              lost = λ some. absurd (some refl);
            } in
            (after, told (log ++ Kept (Beside.Block a) ∷ []) w 0 (ap (λ of. of.limits) (written_kept meld log (Beside.Block a) kept.is_log) ∙ s.limits) added)

        lost : (cells : List Cell) (log : List (Line P)) → Represents meld pack cells log → Extends meld old log → number_at cells k ≢ 0 → IsBlockAdded k w (number_at cells k) old log
        lost cells log kept s some =
            let stood = block_found k cells log kept a (there log s) (here log s) in
            let same : number_at cells k ≡ w = elim stood.stands [
              | inl none ↦ absurd (some none)
              | inr before ↦ one_block meld pack (limits_in log).ranks (history_in log) a (number_at cells k) w before (now log s)
            ] in
            told log w (number_at cells k) s.limits (record { set = stood.set some; won = λ none. absurd (some none); lost = λ _. same })

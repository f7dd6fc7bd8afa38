-- Words that are made line by line read as all words.
use Rattle.std.proofs.Common.{◌≡◌, ◌≢◌, ◌⊎◌, inl, inr, ℕ, zero, suc, ◌+◌, ◌*◌, ◌-◌, ◌/◌, ◌%◌, ◌<◌, ◌≤◌, ◌==◌, cond, not, List, [], ◌++◌, length, get_or, slice_index_or, refl, ap, ap₂, sym, ◌∙◌, arith, length-append, get_or-set_other, get_or-set_same}
use Rattle.std.specs.Prelude.{count_by, replicate, slice_index, slice_set, take, Result, Ok, Err, is_ok, IsOk, if◌then◌else◌}
use Rattle.std.specs.declared.alloc.AllocError.{AllocError}
use Rattle.std.proofs.Math.ListN.{length-set}
use Rattle.std.proofs.Math.Nat.{div-add-mod, mod-lt, mul-le-mul_right}
use Rattle.std.proofs.lemmas.Grind.{common_steps}
use Rattle.std.proofs.lemmas.List.{ext_get_or, get_or_append_left, get_or_default, get_or-append-add, get_or-replicate, length-replicate, replicate-append-replicate, set-append_left, set-append_right, take_all}
use Rattle.std.proofs.lemmas.List.Folds.{sum_by-replicate}
use Rattle.std.proofs.lemmas.List.FromFn.{get_or-map-range_with_len, length-map-range_with_len}
use Rattle.std.proofs.lemmas.List.Sums.{count_by-le-length, sum_by-set}
use Rattle.std.proofs.lemmas.Nat.{div-mul-add, mod-mul-add, mul-add-lt}
use Rattle.ulfm_model.specs.declared.{limits.Limits.{Limits}, place.Place.{Place}}
use Rattle.ulfm_model.specs.Words.{MayOpen, size_of}
use Rattle.ulfm_words.specs.declared.plain.Seat.TheVariants.{Cell, Head}
use Rattle.ulfm_words.specs.{Places.{key_in}, Rows.{AreLines, HasSeat, IsRow, cells_of, heads_of, is_made_line, lines_of, row_of, word_in}}
use Rattle.ulfm_words.proofs.Keys.{row_size}

split : (ranks cell : ℕ) → cell ≡ cell / ranks * ranks + cell % ranks
split ranks cell = omega (arith, div-add-mod cell ranks)

rest : (ranks cell : ℕ) → 0 < ranks → cell % ranks < ranks
rest ranks cell some = mod-lt cell some

same_or_not : (a b : ℕ) → (a ≡ b) ⊎ (a ≢ b)
same_or_not a b = grind arith

pub zeros : (n i : ℕ) → slice_index (replicate n 0) i ≡ 0
zeros zero i = refl
zeros (suc n) zero = refl
zeros (suc n) (suc i) = zeros n i

-- a word for each rank of each line
pub cells_length : (ranks : ℕ) (starts words : List ℕ) → length (cells_of ranks starts words) ≡ length starts * ranks
cells_length ranks starts words = length-map-range_with_len (word_in ranks starts words) 0 (length starts * ranks)

-- the word of a cell
cell_at : (ranks : ℕ) (starts words : List ℕ) (cell : ℕ) → cell < length starts * ranks → slice_index (cells_of ranks starts words) cell ≡ word_in ranks starts words cell
cell_at ranks starts words cell lt = get_or-map-range_with_len (word_in ranks starts words) 0 (length starts * ranks) cell cell 0 lt (omega arith)

-- the words of all lines, one by one
cells_are : (ranks : ℕ) (starts words row : List ℕ) → length row ≡ length starts * ranks → ((cell : ℕ) → cell < length starts * ranks → word_in ranks starts words cell ≡ slice_index row cell) → cells_of ranks starts words ≡ row
cells_are ranks starts words row long same =
    ext_get_or 0 (cells_of ranks starts words) row (cells_length ranks starts words ∙ sym long) (λ cell lt.
    let inside : cell < length starts * ranks = omega (arith, lt, cells_length ranks starts words) in
    cell_at ranks starts words cell inside ∙ same cell inside)

-- a rank of a line is a cell
pub cell_inside : (ranks line rank : ℕ) (starts : List ℕ) → line < length starts → rank < ranks → line * ranks + rank < length starts * ranks
cell_inside ranks line rank starts line_lt rank_lt = omega (arith, mul-add-lt line ranks rank (length starts) line_lt rank_lt)

-- the word that was read by where its line begins
pub read_cell : (ranks : ℕ) (starts words : List ℕ) (line rank : ℕ) → line < length starts → rank < ranks → slice_index (cells_of ranks starts words) (line * ranks + rank) ≡ slice_index words (slice_index starts line + rank)
read_cell ranks starts words line rank line_lt rank_lt =
    cell_at ranks starts words (line * ranks + rank) (cell_inside ranks line rank starts line_lt rank_lt)
    ∙ ap₂ (λ i j. slice_index words (slice_index starts i + j)) (div-mul-add line ranks rank rank_lt) (mod-mul-add line ranks rank rank_lt)

-- lines of which none was made
pub lines_new : (ranks n room : ℕ) → 0 < ranks → (n + 1) * ranks ≤ room → (n + 1) * ranks < 4294967296 → AreLines ranks (replicate n 0) (replicate ranks 0) room
lines_new ranks n room some fits few =
    let none : count_by is_made_line (replicate n 0) ≡ 0 = omega (arith, sum_by-replicate (λ x. cond (is_made_line x) 1 0) n 0) in
    let long : length (replicate {A = ℕ} n 0) ≡ n = length-replicate {A = ℕ} n 0 in
    record {
      some = some;
      zeros = λ i lt. zeros ranks i;
      made = length-replicate {A = ℕ} ranks 0 ∙ sym (ap (λ k. (k + 1) * ranks) none ∙ omega arith);
      below = λ i. omega (arith, zeros n i, length-replicate {A = ℕ} ranks 0);
      own = λ i j r t r_lt t_lt same some. absurd (some (zeros n i));
      past = λ i some. absurd (some (zeros n i));
      room = rw long fits;
      few = rw long few;
    }

cells_new : (ranks n : ℕ) → cells_of ranks (replicate n 0) (replicate ranks 0) ≡ replicate (n * ranks) 0
cells_new ranks n =
    cells_are ranks (replicate n 0) (replicate ranks 0) (replicate (n * ranks) 0) (length-replicate {A = ℕ} (n * ranks) 0 ∙ ap (λ k. k * ranks) (sym (length-replicate {A = ℕ} n 0))) (λ cell lt.
    zeros ranks (slice_index (replicate n 0) (cell / ranks) + cell % ranks) ∙ sym (zeros (n * ranks) cell))

count_more : (starts : List ℕ) (i n : ℕ) → i < length starts → slice_index starts i ≡ 0 → n ≢ 0 → count_by is_made_line (slice_set starts i n) ≡ count_by is_made_line starts + 1
count_more starts i n lt none some = go (count_by is_made_line (slice_set starts i n)) (count_by is_made_line starts) (get_or starts i 0) (sum_by-set (λ x. cond (is_made_line x) 1 0) starts i n 0 lt) none
  where
    go : (a b x : ℕ) → a + cond (not (x == 0)) 1 0 ≡ b + cond (not (n == 0)) 1 0 → x ≡ 0 → a ≡ b + 1
    go a b x e z = grind (arith, common_steps)

-- memory that holds more
pub more_room : (ranks : ℕ) (starts words : List ℕ) (a b : ℕ) → AreLines ranks starts words a → a ≤ b → AreLines ranks starts words b
more_room ranks starts words a b are more =
    record { some = are.some; zeros = are.zeros; made = are.made; below = are.below; own = are.own; past = are.past; room = omega (arith, are.room, more); few = are.few }

-- where a line isn't made, there is room for it, and its places are small
pub room_left : (ranks : ℕ) (starts words : List ℕ) (room i : ℕ) → AreLines ranks starts words room → i < length starts → slice_index starts i ≡ 0 → (length words + ranks ≤ room) × (length words + ranks < 4294967296)
room_left ranks starts words room i are lt none =
    let one_more = count_more starts i 1 lt none (λ e. absurd (omega (arith, e))) in
    let most = count_by-le-length is_made_line (slice_set starts i 1) in
    let fewer : count_by is_made_line starts + 1 ≤ length starts = omega (arith, one_more, most, length-set starts i 1) in
    let filled : (count_by is_made_line starts + 1) * ranks ≤ length starts * ranks = mul-le-mul_right ranks fewer in
    (omega (arith, filled, are.made, are.room), omega (arith, filled, are.made, are.few))

-- words that were filled up with a line of words that are 0
pub grown : (old new : List ℕ) (ranks n m : ℕ) (r : Result (Unit {0}) AllocError) → new ≡ (if is_ok r then take n old ++ replicate m 0 else old) → IsOk r → n ≡ length old + ranks → m ≡ ranks → new ≡ old ++ replicate ranks 0
grown old new ranks n m (Ok done) is ok long more = is ∙ ap₂ (λ (xs : List ℕ) (k : ℕ). xs ++ replicate k 0) (take_all n old (omega (arith, long))) more
grown old new ranks n m (Err fault) is ok long more = absurd (cc ok)

take_none : (k : ℕ) → take {A = ℕ} k [] ≡ []
take_none zero = refl
take_none (suc k) = refl

-- words that were filled up from nothing
pub filled : (old new : List ℕ) (n m : ℕ) → new ≡ take n old ++ replicate m 0 → old ≡ [] → m ≡ n → new ≡ replicate n 0
filled old new n m is none same = is ∙ (ap (λ xs. take n xs ++ replicate m 0) none ∙ (ap (λ xs. xs ++ replicate m 0) (take_none n) ∙ ap (λ k. replicate k 0) same))

-- a line more, of words that are 0
module _ (ranks : ℕ) (starts words : List ℕ) (room : ℕ) (are : AreLines ranks starts words room) (i : ℕ) (lt : i < length starts) (none : slice_index starts i ≡ 0) where
  some : 0 < length words
  some = omega (arith, are.below i, are.some)

  first : ranks ≤ length words
  first = omega (arith, are.below i)

  made_there : slice_index (slice_set starts i (length words)) i ≡ length words
  made_there = get_or-set_same starts i (length words) 0 lt

  same_line : (j : ℕ) → j ≢ i → slice_index (slice_set starts i (length words)) j ≡ slice_index starts j
  same_line j other = get_or-set_other starts i j (length words) 0 other

  kept : (k : ℕ) → k < length words → slice_index (words ++ replicate ranks 0) k ≡ slice_index words k
  kept k inside = get_or_append_left words (replicate ranks 0) 0 k inside

  added : (k : ℕ) → k < ranks → slice_index (words ++ replicate ranks 0) (length words + k) ≡ 0
  added k small = get_or-append-add words (replicate ranks 0) k 0 ∙ get_or-replicate ranks k 0 0 small

  same_word : (cell : ℕ) → (cell / ranks ≡ i) ⊎ (cell / ranks ≢ i) → word_in ranks (slice_set starts i (length words)) (words ++ replicate ranks 0) cell ≡ word_in ranks starts words cell
  same_word cell (inl here) =
      let begins : 0 + cell % ranks ≡ cell % ranks = omega arith in
      ap (λ p. slice_index (words ++ replicate ranks 0) (p + cell % ranks)) (ap (slice_index (slice_set starts i (length words))) here ∙ made_there)
      ∙ (added (cell % ranks) (rest ranks cell are.some)
      ∙ sym (ap (λ p. slice_index words (p + cell % ranks)) (ap (slice_index starts) here ∙ none) ∙ (ap (slice_index words) begins ∙ are.zeros (cell % ranks) (rest ranks cell are.some))))
  same_word cell (inr other) =
      ap (λ p. slice_index (words ++ replicate ranks 0) (p + cell % ranks)) (same_line (cell / ranks) other)
      ∙ kept (slice_index starts (cell / ranks) + cell % ranks) (omega (arith, are.below (cell / ranks), rest ranks cell are.some))

  pub cells_kept : cells_of ranks (slice_set starts i (length words)) (words ++ replicate ranks 0) ≡ cells_of ranks starts words
  cells_kept =
      let lines : length (slice_set starts i (length words)) ≡ length starts = length-set starts i (length words) in
      cells_are ranks (slice_set starts i (length words)) (words ++ replicate ranks 0) (cells_of ranks starts words) (cells_length ranks starts words ∙ ap (λ m. m * ranks) (sym lines)) (λ cell inside.
      same_word cell (same_or_not (cell / ranks) i) ∙ sym (cell_at ranks starts words cell (rw (← lines) inside)))

  long : length (words ++ replicate ranks 0) ≡ length words + ranks
  long = length-append words (replicate ranks 0) ∙ ap (λ m. length words + m) (length-replicate {A = ℕ} ranks 0)

  there : (j : ℕ) → j ≡ i → slice_index (slice_set starts i (length words)) j ≡ length words
  there j here = ap (slice_index (slice_set starts i (length words))) here ∙ made_there

  below_more : (j : ℕ) → (j ≡ i) ⊎ (j ≢ i) → slice_index (slice_set starts i (length words)) j + ranks ≤ length (words ++ replicate ranks 0)
  below_more j (inl here) = omega (arith, there j here, long)
  below_more j (inr other) = omega (arith, same_line j other, are.below j, long)

  own_more : (j k r s : ℕ) → (j ≡ i) ⊎ (j ≢ i) → (k ≡ i) ⊎ (k ≢ i) → r < ranks → s < ranks → slice_index (slice_set starts i (length words)) j + r ≡ slice_index (slice_set starts i (length words)) k + s → slice_index (slice_set starts i (length words)) j ≢ 0 → j ≡ k
  own_more j k r s (inl a) (inl b) r_lt s_lt same set = a ∙ sym b
  own_more j k r s (inl a) (inr b) r_lt s_lt same set = absurd (omega (arith, there j a, same, same_line k b, are.below k, s_lt))
  own_more j k r s (inr a) (inl b) r_lt s_lt same set = absurd (omega (arith, there k b, same, same_line j a, are.below j, r_lt))
  own_more j k r s (inr a) (inr b) r_lt s_lt same set =
      are.own j k r s r_lt s_lt (ap (λ n. n + r) (sym (same_line j a)) ∙ (same ∙ ap (λ n. n + s) (same_line k b))) (λ z. set (same_line j a ∙ z))

  past_more : (j : ℕ) → (j ≡ i) ⊎ (j ≢ i) → slice_index (slice_set starts i (length words)) j ≢ 0 → ranks ≤ slice_index (slice_set starts i (length words)) j
  past_more j (inl here) set = omega (arith, there j here, first)
  past_more j (inr other) set = omega (arith, same_line j other, are.past j (λ z. set (same_line j other ∙ z)))

  -- where it begins isn't 0
  pub made_some : slice_index (slice_set starts i (length words)) i ≢ 0
  made_some none = absurd (omega (arith, none, made_there, some))

  pub lines_more : AreLines ranks (slice_set starts i (length words)) (words ++ replicate ranks 0) room
  lines_more =
      let lines : length (slice_set starts i (length words)) ≡ length starts = length-set starts i (length words) in
      let count : count_by is_made_line (slice_set starts i (length words)) ≡ count_by is_made_line starts + 1 = count_more starts i (length words) lt none (λ z. absurd (omega (arith, z, some))) in
      record {
        some = are.some;
        zeros = λ k small. kept k (omega (arith, small, first)) ∙ are.zeros k small;
        made = long ∙ (ap (λ m. m + ranks) are.made ∙ sym (ap (λ m. (m + 1) * ranks) count ∙ omega arith));
        below = λ j. below_more j (same_or_not j i);
        own = λ j k r s r_lt s_lt. own_more j k r s (same_or_not j i) (same_or_not k i) r_lt s_lt;
        past = λ j. past_more j (same_or_not j i);
        room = rw lines are.room;
        few = rw lines are.few;
      }

-- a word is set in a line that was made
module _ (ranks : ℕ) (starts words : List ℕ) (room : ℕ) (are : AreLines ranks starts words room) (line rank w : ℕ) (line_lt : line < length starts) (rank_lt : rank < ranks) (set : slice_index starts line ≢ 0) where
  abbrev at : ℕ → ℕ
  at k = slice_index starts (k / ranks) + k % ranks

  abbrev here : ℕ
  here = slice_index starts line + rank

  past : ranks ≤ here
  past = omega (arith, are.past line set)

  apart : (k : ℕ) → k ≢ line * ranks + rank → at k ≢ here
  apart k other same =
      let one_line : line ≡ k / ranks = are.own line (k / ranks) rank (k % ranks) rank_lt (rest ranks k are.some) (sym same) set in
      let digit : k % ranks ≡ rank = omega (arith, same, ap (slice_index starts) one_line) in
      other (split ranks k ∙ (ap (λ p. p * ranks + k % ranks) (sym one_line) ∙ ap (λ r. line * ranks + r) digit))

  read : (k : ℕ) → k < length starts * ranks → (k ≡ line * ranks + rank) ⊎ (k ≢ line * ranks + rank) → word_in ranks starts (slice_set words here w) k ≡ slice_index (slice_set (cells_of ranks starts words) (line * ranks + rank) w) k
  read k k_lt (inl same) =
      ap (word_in ranks starts (slice_set words here w)) same
      ∙ (ap₂ (λ i j. slice_index (slice_set words here w) (slice_index starts i + j)) (div-mul-add line ranks rank rank_lt) (mod-mul-add line ranks rank rank_lt)
      ∙ (get_or-set_same words here w 0 (omega (arith, are.below line, rank_lt))
      ∙ sym (ap (slice_index (slice_set (cells_of ranks starts words) (line * ranks + rank) w)) same
      ∙ get_or-set_same (cells_of ranks starts words) (line * ranks + rank) w 0 (rw (cells_length ranks starts words) (cell_inside ranks line rank starts line_lt rank_lt)))))
  read k k_lt (inr other) =
      get_or-set_other words here (at k) w 0 (apart k other) ∙ (sym (cell_at ranks starts words k k_lt) ∙ sym (get_or-set_other (cells_of ranks starts words) (line * ranks + rank) k w 0 other))

  pub cells_set : cells_of ranks starts (slice_set words here w) ≡ slice_set (cells_of ranks starts words) (line * ranks + rank) w
  cells_set =
      cells_are ranks starts (slice_set words here w) (slice_set (cells_of ranks starts words) (line * ranks + rank) w) (length-set (cells_of ranks starts words) (line * ranks + rank) w ∙ cells_length ranks starts words) (λ k k_lt.
      read k k_lt (same_or_not k (line * ranks + rank)))

  -- .. and no line begins elsewhere by it
  pub lines_set : AreLines ranks starts (slice_set words here w) room
  lines_set =
      record {
        some = are.some;
        zeros = λ i small. get_or-set_other words here i w 0 (λ same. absurd (omega (arith, same, past, small))) ∙ are.zeros i small;
        made = length-set words here w ∙ are.made;
        below = λ i. omega (arith, are.below i, length-set words here w);
        own = are.own;
        past = are.past;
        room = are.room;
        few = are.few;
      }

-- the first words and the lines together are the row
module _ (limits : Limits) (heads starts words : List ℕ) (room : ℕ) (is : IsRow limits heads starts words room) where
  row_cell : (line rank : ℕ) → line < length starts → rank < limits.ranks → slice_index (row_of limits.ranks heads starts words) (heads_of limits + (line * limits.ranks + rank)) ≡ slice_index words (slice_index starts line + rank)
  row_cell line rank line_lt rank_lt =
      ap (λ n. slice_index (row_of limits.ranks heads starts words) (n + (line * limits.ranks + rank))) (sym is.first)
      ∙ (get_or-append-add heads (cells_of limits.ranks starts words) (line * limits.ranks + rank) 0 ∙ read_cell limits.ranks starts words line rank line_lt rank_lt)

  -- the word that was read in a line is that of the place
  pub cell_read : (p : Place) (line rank start w : ℕ) → HasSeat limits p (Cell line rank) → start ≡ slice_index_or starts line start → w ≡ slice_index_or words (start + rank) w → w ≡ slice_index (row_of limits.ranks heads starts words) (key_in limits p)
  cell_read p line rank start w seat at read =
      let line_lt : line < length starts = rw is.lines seat.1 in
      let start_is : start ≡ slice_index starts line = at ∙ sym (get_or_default starts line 0 start line_lt) in
      let here : start + rank < length words = omega (arith, start_is, is.made.below line, seat.2) in
      read ∙ (sym (get_or_default words (start + rank) 0 w here) ∙ (ap (λ n. slice_index words (n + rank)) start_is ∙ sym (ap (slice_index (row_of limits.ranks heads starts words)) seat.0 ∙ row_cell line rank line_lt seat.2)))

  set_after : (cells : List ℕ) (cell w : ℕ) → slice_set (heads ++ cells) (heads_of limits + cell) w ≡ heads ++ slice_set cells cell w
  set_after cells cell w =
      let later : heads_of limits + cell - heads_of limits ≡ cell = omega arith in
      set-append_right heads cells (heads_of limits) (heads_of limits + cell) w is.first (omega arith) ∙ ap (λ i. heads ++ slice_set cells i w) later

  -- the word that was read where no line is, is that of the place
  pub head_read : (p : Place) (i w : ℕ) → HasSeat limits p (Head i) → w ≡ slice_index_or heads i w → w ≡ slice_index (row_of limits.ranks heads starts words) (key_in limits p)
  head_read p i w seat read =
      let here : i < length heads = omega (arith, seat.1, is.first) in
      read
      ∙ (sym (get_or_default heads i 0 w here) ∙ (sym (get_or_append_left heads (cells_of limits.ranks starts words) 0 i here) ∙ ap (slice_index (row_of limits.ranks heads starts words)) seat.0))

  -- a word is set there
  pub head_put : (p : Place) (i w : ℕ) → HasSeat limits p (Head i) → row_of limits.ranks (slice_set heads i w) starts words ≡ slice_set (row_of limits.ranks heads starts words) (key_in limits p) w
  head_put p i w seat =
      let here : i < length heads = omega (arith, seat.1, is.first) in
      sym (set-append_left heads (cells_of limits.ranks starts words) i w here) ∙ ap (λ k. slice_set (row_of limits.ranks heads starts words) k w) seat.0

  pub head_stays : (i w : ℕ) → IsRow limits (slice_set heads i w) starts words room
  head_stays i w = record { first = length-set heads i w ∙ is.first; lines = is.lines; made = is.made }

  -- the row is one still, with a word set in a line that was made
  pub cell_stays : (made filled : List ℕ) (cap : ℕ) (p : Place) (line rank start w : ℕ) → AreLines limits.ranks made filled cap → length made ≡ length starts → slice_index made line ≢ 0
      → HasSeat limits p (Cell line rank) → start ≡ slice_index made line → IsRow limits heads made (slice_set filled (start + rank) w) cap
  cell_stays made filled cap p line rank start w are lines some seat start_is =
      let line_lt : line < length made = rw (lines, is.lines) seat.1 in
      record { first = is.first; lines = lines ∙ is.lines; made = rw start_is (lines_set limits.ranks made filled cap are line rank w line_lt seat.2 some) }

  -- a word is set in a line of the row that was made
  pub cell_put : (made filled : List ℕ) (cap : ℕ) (p : Place) (line rank start w : ℕ) → AreLines limits.ranks made filled cap → cells_of limits.ranks made filled ≡ cells_of limits.ranks starts words → length made ≡ length starts → slice_index made line ≢ 0
      → HasSeat limits p (Cell line rank) → start ≡ slice_index made line → row_of limits.ranks heads made (slice_set filled (start + rank) w) ≡ slice_set (row_of limits.ranks heads starts words) (key_in limits p) w
  cell_put made filled cap p line rank start w are same lines some seat start_is =
      let line_lt : line < length made = rw (lines, is.lines) seat.1 in
      ap (λ n. row_of limits.ranks heads made (slice_set filled (n + rank) w)) start_is
      ∙ (ap (λ cs. heads ++ cs) (cells_set limits.ranks made filled cap are line rank w line_lt seat.2 some ∙ ap (λ cs. slice_set cs (line * limits.ranks + rank) w) same)
      ∙ sym (ap (λ k. slice_set (row_of limits.ranks heads starts words) k w) seat.0 ∙ set_after (cells_of limits.ranks starts words) (line * limits.ranks + rank) w))

-- at first all words are 0
pub row_new : (limits : Limits) → row_of limits.ranks (replicate (heads_of limits) 0) (replicate (lines_of limits) 0) (replicate limits.ranks 0) ≡ replicate (size_of limits) 0
row_new limits =
    let cells : replicate (heads_of limits) 0 ++ replicate (lines_of limits * limits.ranks) 0 ≡ replicate (heads_of limits + lines_of limits * limits.ranks) 0 = replicate-append-replicate (heads_of limits) (lines_of limits * limits.ranks) 0 in
    let all : replicate (heads_of limits + lines_of limits * limits.ranks) 0 ≡ replicate (size_of limits) 0 = ap (λ n. replicate n 0) (row_size limits) in
    rw (cells_new limits.ranks (lines_of limits)) (cells ∙ all)

-- a world's lines are few
pub few_lines : (limits : Limits) → MayOpen limits → (lines_of limits + 1) * limits.ranks < 4294967296
few_lines limits may = omega (arith, row_size limits, may.small, may.in_range.ranks)

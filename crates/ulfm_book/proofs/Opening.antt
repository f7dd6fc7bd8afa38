-- The words as they are opened.
use Rattle.std.proofs.Common.{◌≡◌, ℕ, zero, suc, ◌<◌, true, false, List, [], ◌∷◌, get_or, replicate, slice_get, Some, ap, sym, ◌∙◌, subst, arith}
use Rattle.std.proofs.lemmas.List.{get_or-replicate, length-replicate}
use Rattle.logbook.specs.Pages.{Book, Cell, Named, cell}
use Rattle.ulfm_model.specs.declared.limits.Limits.{Limits}
use Rattle.ulfm_words.specs.Steps.{Name}
use Rattle.ulfm_words.proofs.Tied.{zero_at}
use Rattle.ulfm_book.specs.{Logs.{log_of}, Rules.{Represents, book_of, name_of, number_at, word_named}, Layout.{block_offset, row_length, place_offset, wing_offset}}
use Rattle.ulfm_book.proofs.{Listing.{listed_new}, Seating.{block_seat_lt, seat_in_row, wing_seat_lt}}

-- zeros are the words of the log that has no event
pub opened_kept : {P : Type 0} (meld : P → P → P) (pack : P → ℕ) (limits : Limits) (size : ℕ) → size ≡ row_length limits → Represents meld pack (replicate size (0, true)) (log_of limits)
opened_kept {P} meld pack limits size is = record {
  is_log = record { limits_first = tt; legal = tt };
  words = record {
    size = length-replicate size (0, true) ∙ is;
    home = λ key lt. ap (λ (c : Cell). c.1) (at key lt);
    places = λ p within. zero (place_offset limits p) (seat_in_row limits p within) ∙ sym (zero_at pack p);
    listed = listed_new meld pack limits (λ b. number_at (replicate size (0, true)) (block_offset limits b)) (λ x. number_at (replicate size (0, true)) (wing_offset limits x))
        (λ b within. zero (block_offset limits b) (block_seat_lt limits b within)) (λ x within. zero (wing_offset limits x) (wing_seat_lt limits x within));
  };
}
  where
    at : (key : ℕ) → key < row_length limits → cell (replicate size (0, true)) key ≡ (0, true)
    at key lt = get_or-replicate size key (0, true) (0, false) (omega (arith, is, lt))

    zero : (key : ℕ) → key < row_length limits → number_at (replicate size (0, true)) key ≡ 0
    zero key lt = ap (λ (c : Cell). c.0) (at key lt)

-- the word under a key of the row is the book's
pub word_in : (words : List Named) (book : Book) (size key : ℕ) (word : Named) → ((k : ℕ) → k < size → slice_get words k ≡ Some (word_named book k)) → key < size → get_or words key word ≡ word_named book key
word_in words book size key word all lt = got words key word (word_named book key) (all key lt)
  where
    got : {X : Type 0} (xs : List X) (k : ℕ) (d x : X) → slice_get xs k ≡ Some x → get_or xs k d ≡ x
    got [] k d x e = absurd cc
    got (y ∷ xs) zero d x e = cc
    got (y ∷ xs) (suc k) d x e = got xs k d x e

-- .. and of a name: the word under an offset within its limits
pub word_of : (words : List Named) (book : Book) (limits : Limits) (name : Name) (Within : Limits → Type 0) (offset : Limits → ℕ) (key : ℕ) (word : Named) → name_of book limits ≡ name → Within name.limits
    → ((n : Limits) → Within n → offset n < row_length n) → ((k : ℕ) → k < row_length limits → slice_get words k ≡ Some (word_named book k)) → key ≡ offset limits → word ≡ get_or words key word
    → word ≡ word_named (book_of name) (offset name.limits)
word_of words book limits name Within offset key word is within below all at got =
    let there : Within limits = subst (λ (n : Name). Within n.limits) (sym is) within in
    let lt : key < row_length limits = omega (arith, at, below limits there) in
    subst (λ (n : Name). word ≡ word_named (book_of n) (offset n.limits)) is (got ∙ (word_in words book (row_length limits) key word all lt ∙ ap (word_named book) at))

use Rattle.std.proofs.Common.{◌≡◌, ◌<◌, ◌+◌, ℕ, Some, slice_get, vec_capacity, vec_len}
use Rattle.ulfm_book.specs.Rules.{word_named}
use Rattle.ulfm_book.proofs.words.BookWords.in_row.Given as goal

abbrev pub invariant-loop-i : goal.invariant-loop-i
invariant-loop-i g l =
    (l.pens.book ≡ l.start.book) × (l.pens.next ≡ l._i) × (l.pens.left + l._i ≡ l.size) × (vec_len l.words ≡ l._i) × (vec_capacity l.words ≡ l.size)
    × ((key : ℕ) → key < l._i → slice_get l.words.items key ≡ Some (word_named l.start.book key))

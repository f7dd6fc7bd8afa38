-- The word that a pass steps on, as its log has it.
use Rattle.std.proofs.Common.{◌≡◌, ℕ, Bool, true, List, ap, sym, subst}
use Rattle.logbook.specs.Pages.{Book, Named}
use Rattle.ulfm_model.specs.declared.limits.Limits.{Limits}
use Rattle.ulfm_words.specs.{Steps.{Sight}, declared.step.Last.{Last}}
use Rattle.ulfm_book.specs.{declared.line.Line.{Line}, Logs.{limits_in}, Rules.{book_of, sight_of, word_named}}

-- it is tracked and of the pass's own book, and its key is what the limits say
pub record IsOwn {P : Type 0} (old : List (Line P)) (of : Book) (Within : Limits → Type 0) (offset : Limits → ℕ) (word : Named) : Type 0 where
  pub within : Within (limits_in old)
  pub tracked : word.tracked ≡ true
  pub book : of ≡ word.book
  pub key : word.key ≡ offset (limits_in old)

pub own_word : {P : Type 0} (old : List (Line P)) (of : Book) (trail : List (Last × Bool)) (pass : Sight P) (Within : Limits → Type 0) (offset : Limits → ℕ) (word : Named)
    → sight_of of old trail ≡ pass → Within pass.name.limits → word ≡ word_named (book_of pass.name) (offset pass.name.limits) → IsOwn old of Within offset word
own_word {P} old of trail pass Within offset word e within is =
    let named : word ≡ word_named of (offset (limits_in old)) = subst (λ (s : Sight P). word ≡ word_named (book_of s.name) (offset s.name.limits)) (sym e) is in
    record {
      within = subst (λ (s : Sight P). Within s.name.limits) (sym e) within;
      tracked = ap (λ w. w.tracked) named;
      book = sym (ap (λ w. w.book) named);
      key = ap (λ w. w.key) named;
    }

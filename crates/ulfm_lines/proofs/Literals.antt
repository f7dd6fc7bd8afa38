-- Texts that are written out, as words.
use Rattle.std.proofs.Common.{◌≡◌, ◌≢◌, ℕ, List, [], ◌∷◌, Bool, true, false, ◌&&◌, refl, subst, arith}
use Rattle.std.specs.{Prelude.{◌==◌, not}, List.{AllByRecursion}}
use Rattle.ulfm_script.proofs.WordLemmas.{IsWord}
use Rattle.ulfm_lines.specs.Fields.{has_no_space, is_word_text}

-- both tests hold
pub and_true : (a b : Bool) → (a && b) ≡ true → (a ≡ true) × (b ≡ true)
and_true true b e = (refl, e)
and_true false b e = absurd cc

no_space : (x : ℕ) → not (x == 32) ≡ true → x ≢ 32
no_space x e k = let wrong : not (32 == 32) ≡ true = subst (λ (n : ℕ). not (n == 32) ≡ true) k e in cc

free_text : (text : List ℕ) → has_no_space text ≡ true → AllByRecursion (λ x. x ≢ 32) text
free_text [] e = tt
free_text (x ∷ xs) e = let t = and_true (not (x == 32)) (has_no_space xs) e in (no_space x t.0, free_text xs t.1)

-- a text that the test finds to be a word
pub literal : (text : List ℕ) → is_word_text text ≡ true → IsWord text
literal [] e = absurd cc
literal (x ∷ xs) e = record { free = free_text (x ∷ xs) e; some = omega arith }

-- Fields that are read in one pass are those that are read word by word.
use Rattle.std.proofs.Common.{◌≡◌, ℕ, ◌<◌, ◌≤◌, List, length, get_or, Option, Some, None, Ok, refl, ap, ◌∙◌, arith}
use Rattle.std.proofs.lemmas.Bool.{ne_eqb, le-ltb}
use Rattle.ulfm_laws.specs.declared.flag_and.FlagAnd.{FlagAnd}
use Rattle.ulfm_model.specs.declared.call.Call.TheVariants.{Ack, Agree}
use Rattle.ulfm_script.specs.declared.version.Version.{Version}
use Rattle.ulfm_script.specs.declared.line_kind.LineKind.TheVariants.{Number}
use Rattle.ulfm_script.specs.{Calls.{StandAhead, ack_of, agree_of, read_rank_comm}, Digits.{number_in, number_to, read_flag_in}}
use Rattle.ulfm_script.specs.Words.{first_word, leading_number, next_word, one_of, two_of, three_of}
use Rattle.ulfm_script.proofs.{Hexadecimal.{flag_in_found}, Leading.{after}, Numerals.{is_bad, not_empty, number_found, passed}, WordLemmas.{done, one_again, same_done, spelled_is_word, step_found}}

-- a word that is a number isn't empty
some_digits : (most : ℕ) (w : List ℕ) (n : ℕ) → number_in most w ≡ Ok n → 0 < length w
unfolding number_in
some_digits most w n e = not_empty most (length w) (get_or w 0 0) (passed (is_bad most (length w) (get_or w 0 0)) Number (after 0 w) n e).0

-- a number at the head of a text is its next word
pub record IsNext (most : ℕ) (text : List ℕ) (n : ℕ) (rest : Option (List ℕ)) : Type 0 where
  pub word : List ℕ
  pub next : next_word (Some text) ≡ Ok (word, rest)
  pub number : number_in most word ≡ Ok n

pub leads : (most : ℕ) (text : List ℕ) (n : ℕ) (rest : Option (List ℕ)) → leading_number most text ≡ Ok (n, rest) → IsNext most text n rest
unfolding leading_number next_word
leads most text n rest e =
    let first = first_word text in
    let found = step_found (number_in most first.0) (λ m. done (m, first.1)) (n, rest) e in
    let same = same_done (found.0, first.1) (n, rest) found.2 in
    let some = some_digits most first.0 found.0 found.1 in
    record {
      word = first.0;
      next = rw (ne_eqb (length first.0) 0 (λ none. omega (arith, some, none))) (ap (λ (x : ℕ × Option (List ℕ)). done (first.0, x.1)) same);
      number = found.1 ∙ ap (λ (x : ℕ × Option (List ℕ)). done x.0) same;
    }

-- up to a greatest number
number_within : (most n : ℕ) (w : List ℕ) → number_in 4 w ≡ Ok n → n ≤ most → number_to most w ≡ Ok n
unfolding number_to
number_within most n w e few = rw (e, le-ltb most n few) refl

pub stands : (text between : List ℕ) (rank comm : ℕ) (behind : Option (List ℕ)) → leading_number 4 text ≡ Ok (rank, Some between) → leading_number 4 between ≡ Ok (comm, behind)
    → rank ≤ 1023 → comm ≤ 255 → StandAhead (Some text) rank comm behind
stands text between rank comm behind one two low small =
    let first = leads 4 text rank (Some between) one in
    let second = leads 4 between comm behind two in
    record {
      one = first.word;
      two = second.word;
      between = Some between;
      first = first.next;
      second = second.next;
      rank_is = number_within 1023 rank first.word first.number low;
      comm_is = number_within 255 comm second.word second.number small;
    }

-- nothing else
pub place_ahead : (fields : Option (List ℕ)) (rank comm : ℕ) → StandAhead fields rank comm None → read_rank_comm fields ≡ Ok (rank, comm)
unfolding read_rank_comm two_of one_of
place_ahead fields rank comm h = rw (h.first, h.second, h.rank_is, h.comm_is) refl

-- a count behind them
pub count_ahead : (fields : Option (List ℕ)) (text : List ℕ) (rank comm count : ℕ) → StandAhead fields rank comm (Some text) → leading_number 4 text ≡ Ok (count, None)
    → ack_of fields ≡ Ok (Ack rank comm count)
unfolding ack_of three_of two_of one_of
count_ahead fields text rank comm count h last =
    let third = leads 4 text count None last in
    rw (h.first, h.second, third.next, h.rank_is, h.comm_is, third.number) refl

-- .. which has four digits at most
pub count_fits : (text : List ℕ) (count : ℕ) (rest : Option (List ℕ)) → leading_number 4 text ≡ Ok (count, rest) → count < 10000
count_fits text count rest e = let h = leads 4 text count rest e in (number_found h.word count h.number).0

-- a flag behind them
pub flag_ahead : (version : Version) (fields : Option (List ℕ)) (text : List ℕ) (rank comm : ℕ) (flag : FlagAnd) → StandAhead fields rank comm (Some text) → read_flag_in version text ≡ Ok flag
    → agree_of version fields ≡ Ok (Agree rank comm flag)
unfolding agree_of three_of two_of
flag_ahead version fields text rank comm flag h last =
    let f = flag_in_found version text flag last in
    let alone : one_of (Some text) ≡ Ok text = rw f.word_is (one_again _ (spelled_is_word f.padded flag)) in
    rw (h.first, h.second, alone, h.rank_is, h.comm_is, last) refl

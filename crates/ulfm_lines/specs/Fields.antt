-- Fields of a trace's line, read one after another. What is wrong with a line that is none of a trace is never told, so any fault stands for all.
use denote.Ref.{Bor}
use Rattle.std.specs.Prelude.{ℕ, ◌==◌, ◌&&◌, not, List, [], ◌∷◌, codes, Bool, true, false, Option, Some, None, Result, Ok, Err, if◌then◌else◌}
use Rattle.std.specs.Str.{bytes_eq}
use Rattle.ulfm_laws.specs.declared.{summary.CtxMask.{CtxMask}, flag_and.FlagAnd.{FlagAnd}}
use Rattle.ulfm_model.specs.declared.{contribution.Offer.{Offer}, contribution.Offer.TheVariants.{Flag, Ctx}, event.Caller.{Caller}}
use Rattle.ulfm_model.specs.declared.event.Caller.TheVariants.{Outside, Rank}
use Rattle.ulfm_script.specs.declared.line_kind.LineKind.{LineKind}
use Rattle.ulfm_script.specs.declared.line_kind.LineKind.TheVariants.{Words}
use Rattle.ulfm_script.specs.{Digits.{read_comm, read_number, read_printed_flag, read_point, read_rank}, Steps.{◌>>=◌}, Words.{next_word, rest_at}}

-- what is read of a field, and the text behind it
abbrev pub Field : Type 0 → Type 0
Field A = Result (A × Option (List ℕ)) LineKind

-- what slices of a field's rest point to
abbrev pub at_field : {A : Type 0} → A × Option (Bor (List ℕ)) → A × Option (List ℕ)
at_field x = (x.0, rest_at x.1)

-- the next word, as it is read
abbrev pub field_by : {A : Type 0} → (List ℕ → Result A LineKind) → Option (List ℕ) → Field A
field_by read text = next_word text >>= λ word. read word.0 >>= λ x. Ok (x, word.1)

-- two fields
abbrev pub both : {A B : Type 0} → (Option (List ℕ) → Field A) → (Option (List ℕ) → Field B) → Option (List ℕ) → Field (A × B)
both one other text = one text >>= λ a. other a.1 >>= λ b. Ok ((a.0, b.0), b.1)

-- nothing more
unfoldable pub over : Option (List ℕ) → Result (Unit {0}) LineKind
over None = Ok tt
over (Some text) = Err Words

-- what was read, where nothing stands behind it
abbrev pub last : {A : Type 0} → Field A → Result A LineKind
last read = read >>= λ a. over a.1 >>= λ none. Ok a.0

-- a last field
abbrev pub whole : {A : Type 0} → (Option (List ℕ) → Field A) → Option (List ℕ) → Result A LineKind
whole one text = last (one text)

-- fields of one word
unfoldable pub rank_field : Option (List ℕ) → Field ℕ
rank_field text = field_by read_rank text

unfoldable pub comm_field : Option (List ℕ) → Field ℕ
comm_field text = field_by read_comm text

unfoldable pub number_field : Option (List ℕ) → Field ℕ
number_field text = field_by read_number text

unfoldable pub point_field : Option (List ℕ) → Field ℕ
point_field text = field_by read_point text

unfoldable pub flag_field : Option (List ℕ) → Field FlagAnd
flag_field text = field_by read_printed_flag text

-- a caller, as a line names it
unfoldable pub read_caller : List ℕ → Result Caller LineKind
read_caller word = if bytes_eq word (codes "-") then Ok Outside else (read_rank word >>= λ r. Ok (Rank r))

unfoldable pub caller_field : Option (List ℕ) → Field Caller
caller_field text = field_by read_caller text

-- whether a text is a word: it isn't empty, and has no space
abbrev pub has_no_space : List ℕ → Bool
has_no_space [] = true
has_no_space (x ∷ xs) = not (x == 32) && has_no_space xs

abbrev pub is_word_text : List ℕ → Bool
is_word_text [] = false
is_word_text (x ∷ xs) = has_no_space (x ∷ xs)

-- this word
abbrev pub is_word : List ℕ → List ℕ → Result (Unit {0}) LineKind
is_word label word = if bytes_eq word label then Ok tt else Err Words

unfoldable pub label_field : List ℕ → Option (List ℕ) → Field (Unit {0})
label_field label text = field_by (is_word label) text

-- a number behind its label
unfoldable pub labelled : List ℕ → Option (List ℕ) → Field ℕ
labelled label text = label_field label text >>= λ a. number_field a.1

-- a communicator, a round and a rank
unfoldable pub place_field : Option (List ℕ) → Field (ℕ × (ℕ × ℕ))
place_field text = both comm_field (both number_field rank_field) text

-- a set of context ids, of a flag's digits
abbrev pub flag_mask : FlagAnd → CtxMask
flag_mask flag = record { bits = flag.bits; fits = flag.fits }

-- what is offered, of its label and its digits
abbrev pub offer_of : List ℕ → FlagAnd → Result (Offer FlagAnd) LineKind
offer_of label flag =
    if bytes_eq label (codes "flag") then Ok (Flag flag) else (if bytes_eq label (codes "ctx") then Ok (Ctx (flag_mask flag)) else Err Words)

unfoldable pub offer_field : Option (List ℕ) → Field (Offer FlagAnd)
offer_field text = next_word text >>= λ label. flag_field label.1 >>= λ flag. offer_of label.0 flag.0 >>= λ offer. Ok (offer, flag.1)

-- whether an agree raises an error
unfoldable pub error_of : List ℕ → Result Bool LineKind
error_of word = if bytes_eq word (codes "raised") then Ok true else (if bytes_eq word (codes "clean") then Ok false else Err Words)

unfoldable pub error_field : Option (List ℕ) → Field Bool
error_field text = field_by error_of text

-- Numbers and flags in words.
use Rattle.std.specs.Prelude.{ℕ, zero, suc, ◌+◌, ◌*◌, ◌-◌, ◌/◌, ◌%◌, ◌^◌, ◌<◌, Bool, true, false, not, ⊤, ◌&&◌, ◌||◌, ◌==◌, ◌≡◌, nat_lt, nat_le, if◌then◌else◌}
use Rattle.std.specs.Prelude.{List, [], ◌∷◌, ◌++◌, length, slice_index, Option, Some, None, Result, Ok, Err}
use Rattle.ulfm_laws.specs.declared.flag_and.FlagAnd.{FlagAnd}
use Rattle.ulfm_laws.specs.{Flags.{flag_unpack}, Ranges.{payload_bits}}
use Rattle.ulfm_script.specs.declared.version.Version.{Version}
use Rattle.ulfm_script.specs.declared.version.Version.TheVariants.{First, Second}
use Rattle.ulfm_script.specs.declared.line_kind.LineKind.{LineKind}
use Rattle.ulfm_script.specs.declared.line_kind.LineKind.TheVariants.{Number, Flag}
use Rattle.ulfm_script.specs.Steps.{◌>>=◌, or_fault}

-- the value of a decimal digit
abbrev pub digit_of : ℕ → Option ℕ
digit_of x = if nat_le 48 x && nat_le x 57 then Some (x - 48) else None

-- the value of a lower case hexadecimal digit
abbrev pub hex_of : ℕ → Option ℕ
hex_of x = if nat_le 48 x && nat_le x 57 then Some (x - 48) else (if nat_le 97 x && nat_le x 102 then Some (x - 97 + 10) else None)

-- the value of digits in a base, behind others of this value
abbrev pub digits_after : LineKind → ℕ → (ℕ → Option ℕ) → ℕ → List ℕ → Result ℕ LineKind
digits_after kind base digit value [] = Ok value
digits_after kind base digit value (x ∷ xs) = or_fault kind (digit x) >>= λ d. digits_after kind base digit (value * base + d) xs

-- there are digits, and no zero stands before others
abbrev pub are_plain : List ℕ → Bool
are_plain digits = not (length digits == 0) && ((length digits == 1) || not (slice_index digits 0 == 48))

-- a number has one to so many decimal digits, and no zero before others
unfoldable pub number_in : ℕ → List ℕ → Result ℕ LineKind
number_in most word =
    if (length word == 0) || nat_lt most (length word) || (nat_lt 1 (length word) && (slice_index word 0 == 48)) then Err Number
    else digits_after Number 10 digit_of 0 word

-- most numbers have at most four digits
abbrev pub read_number : List ℕ → Result ℕ LineKind
read_number word = number_in 4 word

-- a count of events has at most seven
abbrev pub read_point : List ℕ → Result ℕ LineKind
read_point word = number_in 7 word

-- a number up to a greatest one
unfoldable pub number_to : ℕ → List ℕ → Result ℕ LineKind
number_to most word = read_number word >>= λ n. if nat_lt most n then Err Number else Ok n

-- a rank
abbrev pub read_rank : List ℕ → Result ℕ LineKind
read_rank word = number_to 1023 word

-- a communicator
abbrev pub read_comm : List ℕ → Result ℕ LineKind
read_comm word = number_to 255 word

-- how many hexadecimal digits half of a flag has
abbrev pub half_digits : ℕ
half_digits = payload_bits / 8

-- how many a whole flag has
abbrev pub whole_digits : ℕ
whole_digits = payload_bits / 4

-- whether so many digits spell a flag
abbrev pub spells_flag : ℕ → Bool
spells_flag count = (count == half_digits) || (count == whole_digits)

-- a flag has eight or sixteen hexadecimal digits, whose value is its word
unfoldable pub read_flag : List ℕ → Result FlagAnd LineKind
read_flag word =
    if spells_flag (length word) then (digits_after Flag 16 hex_of 0 word >>= λ n. or_fault Flag (flag_unpack n)) else Err Flag

-- a flag in a script of this version: in the second it has all its digits
unfoldable pub read_flag_in : Version → List ℕ → Result FlagAnd LineKind
read_flag_in First word = read_flag word
read_flag_in Second word = if length word == whole_digits then read_flag word else Err Flag

-- the digit of a value below 16
abbrev pub hex_digit : ℕ → ℕ
hex_digit n = if nat_lt n 10 then 48 + n else 87 + n

-- the last so many hexadecimal digits of a number
abbrev pub hex_digits : ℕ → ℕ → List ℕ
hex_digits zero n = []
hex_digits (suc count) n = hex_digits count (n / 16) ++ hex_digit (n % 16) ∷ []

-- how many digits of a flag are printed: half of them where its upper half is 0
abbrev pub printed_digits : FlagAnd → ℕ
printed_digits flag = if nat_lt flag.bits (16 ^ half_digits) then half_digits else whole_digits

-- a flag as it is printed
unfoldable pub flag_text : FlagAnd → List ℕ
flag_text flag = hex_digits (printed_digits flag) flag.bits

-- a flag with all its digits
unfoldable pub padded_text : FlagAnd → List ℕ
padded_text flag = hex_digits whole_digits flag.bits

-- a flag that has as many digits as are printed
unfoldable pub read_printed_flag : List ℕ → Result FlagAnd LineKind
read_printed_flag word = read_flag word >>= λ flag. if length word == printed_digits flag then Ok flag else Err Flag

-- a flag as a line spells it: as it is printed, or with all its digits
abbrev pub spelled_flag : Bool → FlagAnd → List ℕ
spelled_flag false flag = flag_text flag
spelled_flag true flag = padded_text flag

-- only a flag whose upper half is 0 is spelled with more digits than are printed
abbrev pub MayPad : Bool → FlagAnd → Type 0
MayPad false flag = ⊤
MayPad true flag = flag.bits < 16 ^ half_digits

-- .. in a script of this version
abbrev pub MayPadIn : Version → Bool → FlagAnd → Type 0
MayPadIn First padded flag = MayPad padded flag
MayPadIn Second padded flag = padded ≡ true

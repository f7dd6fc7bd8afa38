-- The digest of a log: FNV-1a of 64 bits.
use Rattle.std.specs.Prelude.{ℕ, ◌*◌, ◌%◌, ◌^◌, List, fold, bit_xor}
use Rattle.ulfm_script.specs.Digits.{hex_digits, whole_digits}

-- the digest with one byte more
abbrev pub digest_step : ℕ → ℕ → ℕ
digest_step digest byte = (bit_xor digest byte * 1099511628211) % 2 ^ 64

-- the digest of bytes
abbrev pub digest_of : List ℕ → ℕ
digest_of bytes = fold digest_step 14695981039346656037 bytes

-- its sixteen hexadecimal digits
unfoldable pub digest_text : ℕ → List ℕ
digest_text digest = hex_digits whole_digits digest

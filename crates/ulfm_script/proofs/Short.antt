-- Lines that spell calls, and headers, are short and have no newline in them.
use Rattle.std.proofs.Common.{◌≡◌, ◌≢◌, ℕ, zero, suc, ◌+◌, ◌/◌, ◌%◌, ◌<◌, ◌≤◌, ◌==◌, Bool, true, false, not, List, [], ◌∷◌, ◌++◌, length, length-append, refl, sym, subst, arith, inl, inr}
use Rattle.std.specs.{Prelude.{codes}, Fmt.{decimal}, List.{list_all}}
use Rattle.std.proofs.lemmas.{Bool.{and_parts, cases_lt, eq-eqb, le-ltb, lt-ltb}, Fmt.{digits_decimal, length-decimal-le}}
use Rattle.ulfm_laws.specs.declared.flag_and.FlagAnd.{FlagAnd}
use Rattle.ulfm_model.specs.declared.limits.Limits.{Limits}
use Rattle.ulfm_model.specs.declared.call.Call.TheVariants.{Fail, GetFailed, Ack, FailureAck, FailureGetAcked, Agree, Shrink, Barrier, Poll, Revoke, IsRevoked, Free}
use Rattle.ulfm_model.specs.Words.{MayOpen}
use Rattle.ulfm_model.proofs.Lists.{each_append}
use Rattle.ulfm_script.specs.declared.{header_kind.HeaderKind.{HeaderKind}, version.Version.{Version}}
use Rattle.ulfm_script.specs.declared.{header_kind.HeaderKind.TheVariants.{Calls, Steps, Trace}, version.Version.TheVariants.{First, Second}}
use Rattle.ulfm_script.specs.{Buffers.{HasNoNewline}, Calls.{ScriptCall}, Digits.{flag_text, hex_digit, hex_digits, padded_text, printed_digits, spelled_flag, whole_digits}, Headers.{header_text, kind_text, version_text}}
use Rattle.ulfm_script.specs.Spelling.{IsOnComm, SpellsIn, on_comm_text, verb_text}
use Rattle.ulfm_script.proofs.{Hexadecimal.{spelled_few}, Numerals.{AreDigits, own}}

-- at most so many bytes, none of them a newline
pub record Short (most : ℕ) (text : List ℕ) : Type 0 where
  pub few : length text ≤ most
  pub free : HasNoNewline text

pub joins : {m n : ℕ} {a b : List ℕ} → Short m a → Short n b → Short (m + n) (a ++ b)
joins {a = a} {b = b} x y = record { few = omega (arith, x.few, y.few, length-append a b); free = each_append (λ z. z ≢ 10) a b x.free y.free }

-- behind a space
pub spaced : {n : ℕ} {b : List ℕ} → Short n b → Short (suc n) (32 ∷ b)
spaced y = record { few = omega (arith, y.few); free = ((λ e. cc e), y.free) }

pub wider : {m n : ℕ} {a : List ℕ} → Short m a → m ≤ n → Short n a
wider x le = record { few = omega (arith, x.few, le); free = x.free }

pub none : Short 0 []
none = record { few = omega arith; free = tt }

-- a text that is written out
not_both : (b : Bool) → not b ≡ true → b ≡ true → ⊥
not_both true m n = cc m
not_both false m n = cc n

not_ten : (x : ℕ) → not (x == 10) ≡ true → x ≢ 10
not_ten x m = λ e. not_both (x == 10) m (eq-eqb x 10 e)

pub lit : (xs : List ℕ) → list_all (λ x. not (x == 10)) xs ≡ true → Short (length xs) xs
lit xs is = record { few = omega arith; free = go xs is }
  where
    go : (ys : List ℕ) → list_all (λ x. not (x == 10)) ys ≡ true → HasNoNewline ys
    go [] is = tt
    go (y ∷ ys) is = let both = and_parts (not (y == 10)) (list_all (λ x. not (x == 10)) ys) is in (not_ten y both.0, go ys both.1)

-- digits
pub digits_free : (ds : List ℕ) → AreDigits ds → HasNoNewline ds
digits_free [] h = tt
digits_free (c ∷ cs) h = ((λ e. omega (arith, h.0, e)), digits_free cs h.1)

pub num : (n : ℕ) → n < 10000 → Short 4 (decimal n)
num n lt = record { few = length-decimal-le 4 n (omega arith) (omega (arith, lt)) (omega (arith, lt)); free = digits_free (decimal n) (digits_decimal own n (omega (arith, lt))) }

hex_free : (d : ℕ) → hex_digit d ≢ 10
hex_free d e = elim (cases_lt d 10) [
  | inl low ↦ (let k : 48 + d ≡ 10 = rw (lt-ltb d 10 low) at e in omega (arith, k))
  | inr high ↦ (let k : 87 + d ≡ 10 = rw (le-ltb d 10 high) at e in omega (arith, k))
]

hexes_free : (count n : ℕ) → HasNoNewline (hex_digits count n)
hexes_free zero n = tt
hexes_free (suc count) n = each_append (λ x. x ≢ 10) (hex_digits count (n / 16)) (hex_digit (n % 16) ∷ []) (hexes_free count (n / 16)) (hex_free (n % 16), tt)

flag_is_free : (padded : Bool) (flag : FlagAnd) → HasNoNewline (spelled_flag padded flag)
unfolding flag_text padded_text
flag_is_free false flag = hexes_free (printed_digits flag) flag.bits
flag_is_free true flag = hexes_free whole_digits flag.bits

pub spelled_short : (padded : Bool) (flag : FlagAnd) → Short 16 (spelled_flag padded flag)
spelled_short padded flag = record { few = (spelled_few padded flag).1; free = flag_is_free padded flag }

-- a rank and a communicator, and what follows them
pub on_short : (rank comm : ℕ) (behind : List ℕ) → rank < 1024 → comm < 256 → Short 17 behind → Short 26 (on_comm_text rank comm behind)
on_short rank comm behind x y b = joins (num rank (omega (arith, x))) (spaced (joins (num comm (omega (arith, y))) b))

-- a call
verb_short : (call : ScriptCall) → Short 18 (verb_text call)
verb_short (Fail rank) = wider (lit (codes "fail ") refl) (omega arith)
verb_short (GetFailed rank comm) = wider (lit (codes "get ") refl) (omega arith)
verb_short (Ack rank comm count) = wider (lit (codes "ack ") refl) (omega arith)
verb_short (FailureAck rank comm) = wider (lit (codes "failure_ack ") refl) (omega arith)
verb_short (FailureGetAcked rank comm) = wider (lit (codes "failure_get_acked ") refl) (omega arith)
verb_short (Agree rank comm flag) = wider (lit (codes "agree ") refl) (omega arith)
verb_short (Shrink rank comm) = wider (lit (codes "shrink ") refl) (omega arith)
verb_short (Barrier rank comm) = wider (lit (codes "barrier ") refl) (omega arith)
verb_short (Poll rank comm) = wider (lit (codes "poll ") refl) (omega arith)
verb_short (Revoke rank comm) = wider (lit (codes "revoke ") refl) (omega arith)
verb_short (IsRevoked rank comm) = wider (lit (codes "isrevoked ") refl) (omega arith)
verb_short (Free rank comm) = wider (lit (codes "free ") refl) (omega arith)

on_line : (line verb : List ℕ) (rank comm : ℕ) (behind : List ℕ) → Short 18 verb → Short 17 behind → IsOnComm line verb rank comm behind → Short 44 line
on_line line verb rank comm behind v b h = subst (Short 44) (sym h.line_is) (joins v (on_short rank comm behind h.rank_fits h.comm_fits b))

nothing_behind : Short 17 []
nothing_behind = wider none (omega arith)

-- whatever line spells a call
pub line_short : (version : Version) (line : List ℕ) (call : ScriptCall) → SpellsIn version line call → Short 44 line
line_short version line (Fail rank) h =
    subst (Short 44) (sym h.1) (wider (joins (verb_short (Fail rank)) (num rank (let lt = h.0 in omega (arith, lt)))) (omega arith))
line_short version line (GetFailed rank comm) h = on_line line (codes "get ") rank comm [] (verb_short (GetFailed rank comm)) nothing_behind h
line_short version line (Ack rank comm count) h =
    on_line line (codes "ack ") rank comm (32 ∷ decimal count) (verb_short (Ack rank comm count)) (wider (spaced (num count h.0)) (omega arith)) h.1
line_short version line (FailureAck rank comm) h = on_line line (codes "failure_ack ") rank comm [] (verb_short (FailureAck rank comm)) nothing_behind h.1
line_short version line (FailureGetAcked rank comm) h =
    on_line line (codes "failure_get_acked ") rank comm [] (verb_short (FailureGetAcked rank comm)) nothing_behind h.1
line_short version line (Agree rank comm flag) h =
    on_line line (codes "agree ") rank comm (32 ∷ spelled_flag h.0 flag) (verb_short (Agree rank comm flag)) (spaced (spelled_short h.0 flag)) h.2
line_short version line (Shrink rank comm) h = on_line line (codes "shrink ") rank comm [] (verb_short (Shrink rank comm)) nothing_behind h
line_short version line (Barrier rank comm) h = on_line line (codes "barrier ") rank comm [] (verb_short (Barrier rank comm)) nothing_behind h
line_short version line (Poll rank comm) h = on_line line (codes "poll ") rank comm [] (verb_short (Poll rank comm)) nothing_behind h
line_short version line (Revoke rank comm) h = on_line line (codes "revoke ") rank comm [] (verb_short (Revoke rank comm)) nothing_behind h
line_short version line (IsRevoked rank comm) h = on_line line (codes "isrevoked ") rank comm [] (verb_short (IsRevoked rank comm)) nothing_behind h
line_short version line (Free rank comm) h = on_line line (codes "free ") rank comm [] (verb_short (Free rank comm)) nothing_behind h

-- a header
kind_short : (kind : HeaderKind) → Short 10 (kind_text kind)
kind_short (Calls version) = wider (lit (codes "ulfm") refl) (omega arith)
kind_short Steps = lit (codes "ulfm-steps") refl
kind_short Trace = lit (codes "ulfm-trace") refl

version_short : (kind : HeaderKind) → Short 1 (version_text kind)
version_short (Calls First) = lit (codes "1") refl
version_short (Calls Second) = lit (codes "2") refl
version_short Steps = lit (codes "1") refl
version_short Trace = lit (codes "1") refl

pub header_short : (kind : HeaderKind) (limits : Limits) → MayOpen limits → Short 27 (header_text kind limits)
header_short kind limits h =
    let range = h.in_range in
    let a : limits.ranks < 10000 = omega (arith, range.ranks) in
    let b : limits.comms < 10000 = omega (arith, range.comms) in
    let c : limits.rounds < 10000 = omega (arith, range.rounds) in
    joins (kind_short kind) (spaced (joins (version_short kind) (spaced (joins (num limits.ranks a) (spaced (joins (num limits.comms b) (spaced (num limits.rounds c))))))))

-- What each kind of contribution stands for: a set of numbers, as a list of which only membership counts.
use Rattle.std.specs.Prelude.{◌≡◌, ◌↔◌, ◌⊎◌, ℕ, ◌==◌, List, [], take, filter, All, Any, Contains, if◌then◌else◌}
use Rattle.std.specs.Int.{bit_at}
use Rattle.std.specs.List.{range_with_len}
use Rattle.ulfm_laws.specs.Combined.{combined}
use Rattle.ulfm_laws.specs.Ranges.{payload_bits}
use Rattle.ulfm_laws.specs.declared.summary.Acked.{Acked}
use Rattle.ulfm_laws.specs.declared.summary.CtxMask.{CtxMask}
use Rattle.ulfm_laws.specs.declared.flag_and.FlagAnd.{FlagAnd}
use Rattle.ulfm_laws.specs.declared.summary.Known.{Known}

-- the places of the bits of a payload, from 0 on, and the context ids
unfoldable pub places : List ℕ
places = range_with_len 0 payload_bits

-- the places at which a word has a bit
unfoldable pub bits_of : ℕ → List ℕ
bits_of word = filter (λ place. bit_at word place == 1) places

-- a flag stands for the places of its bits
abbrev pub flag_stands_for : FlagAnd → List ℕ
flag_stands_for x = bits_of x.bits

-- a mask stands for context ids
abbrev pub mask_stands_for : CtxMask → List ℕ
mask_stands_for x = bits_of x.bits

-- a count of known failures stands for the first ranks of the failed group
abbrev pub known_stands_for : List ℕ → Known → List ℕ
known_stands_for failed x = take x.count failed

-- a count of acknowledged failures stands for the first ranks of the failed group, and 2047 for everyone in it
abbrev pub acked_stands_for : List ℕ → Acked → List ℕ
acked_stands_for failed x = if x.count == 2047 then failed else take x.count failed

-- What is combined has what some value has: of none, of two, and of a list.
pub record MeldsToUnion {P : Type 0} (unit : P) (meld : P → P → P) (stands_for : P → List ℕ) : Type 0 where
  pub nothing : stands_for unit ≡ []
  pub either : (x y : P) (n : ℕ) → Contains (stands_for (meld x y)) n ↔ (Contains (stands_for x) n ⊎ Contains (stands_for y) n)
  pub some : (xs : List P) (n : ℕ) → Contains (stands_for (combined unit meld xs)) n ↔ Any (λ x. Contains (stands_for x) n) xs

-- What is combined has what each value has, out of a whole: of none, of two, and of a list.
pub record MeldsToIntersection {P : Type 0} (whole : List ℕ) (unit : P) (meld : P → P → P) (stands_for : P → List ℕ) : Type 0 where
  pub everything : stands_for unit ≡ whole
  pub both : (x y : P) (n : ℕ) → Contains (stands_for (meld x y)) n ↔ (Contains (stands_for x) n × Contains (stands_for y) n)
  pub each : (xs : List P) (n : ℕ) → Contains whole n → (Contains (stands_for (combined unit meld xs)) n ↔ All (λ x. Contains (stands_for x) n) xs)

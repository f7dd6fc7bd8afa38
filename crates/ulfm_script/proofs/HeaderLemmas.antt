-- A header is read just where it is printed.
use Rattle.std.proofs.Common.{◌≡◌, ℕ, ◌<◌, List, [], ◌∷◌, ◌++◌, Option, Some, Result, Ok, Err, Bool, true, false, cond, refl, sym, ap, subst, ◌∙◌, inl, inr, arith}
use Rattle.std.specs.{Prelude.{IfOk, codes}, Fmt.{decimal}, Str.{bytes_eq}}
use Rattle.std.proofs.lemmas.{Bool.Decides.{nat_tests}, Slice.Eq.{bytes_eq-Decides}}
use Rattle.ulfm_model.specs.declared.limits.Limits.{Limits}
use Rattle.ulfm_model.specs.Words.{MayOpen}
use Rattle.ulfm_script.specs.declared.header_kind.HeaderKind.{HeaderKind}
use Rattle.ulfm_script.specs.declared.header_kind.HeaderKind.TheVariants.{Calls, Steps, Trace}
use Rattle.ulfm_script.specs.declared.version.Version.TheVariants.{First, Second}
use Rattle.ulfm_script.specs.declared.line_kind.LineKind.{LineKind}
use Rattle.ulfm_script.specs.declared.line_kind.LineKind.TheVariants.{Header, Limits as BadLimits}
use Rattle.ulfm_script.specs.{Digits.{read_number}, Headers.{form_from, header_of, header_text, kind_text, read_limits, may_open, numbers_of, version_text}, Steps.{◌>>=◌, with_fault}, Words.{first_word, four_of}}
use Rattle.ulfm_script.proofs.{Numerals.{number_again, number_found}, Spelled.{chosen, number_is_word}, WordLemmas.{IsWord, done, four_again, four_found, joined, joined_word, same_done, step_found}}

-- the version's word and those of the limits
abbrev limits_text : HeaderKind → Limits → List ℕ
limits_text kind limits = version_text kind ++ 32 ∷ (decimal limits.ranks ++ 32 ∷ (decimal limits.comms ++ 32 ∷ decimal limits.rounds))

numbers_found : (a b c : List ℕ) (limits : Limits) → numbers_of (a, b, c) ≡ Ok limits
    → (a ≡ decimal limits.ranks) × (b ≡ decimal limits.comms) × (c ≡ decimal limits.rounds)
numbers_found a b c limits e =
    let put : ℕ → ℕ → ℕ → Result Limits LineKind = λ x y z. Ok (record { ranks = x; comms = y; rounds = z }) in
    let x = step_found (read_number a) (λ x. read_number b >>= λ y. read_number c >>= λ z. put x y z) limits e in
    let y = step_found (read_number b) (λ y. read_number c >>= λ z. put x.0 y z) limits x.2 in
    let z = step_found (read_number c) (λ z. put x.0 y.0 z) limits y.2 in
    let is : record { ranks = x.0; comms = y.0; rounds = z.0 } ≡ limits = same_done (record { ranks = x.0; comms = y.0; rounds = z.0 }) limits z.2 in (
      (number_found a x.0 x.1).1 ∙ ap (λ (l : Limits). decimal l.ranks) is,
      (number_found b y.0 y.1).1 ∙ ap (λ (l : Limits). decimal l.comms) is,
      (number_found c z.0 z.1).1 ∙ ap (λ (l : Limits). decimal l.rounds) is,
    )

limits_found : (kind : HeaderKind) (fields : Option (List ℕ)) (limits : Limits) → read_limits kind fields ≡ Ok limits → fields ≡ Some (limits_text kind limits)
unfolding read_limits
limits_found kind fields limits e =
    let w = step_found (four_of fields) (λ w. if_version w) limits e in
    let stands = four_found fields w.0 w.1 in
    elim (chosen (bytes_eq w.0.0 (version_text kind)) (numbers_of (w.0.1, w.0.2, w.0.3)) (Err Header) (Ok limits) w.2) [
      | inl this ↦ (
          let version = (bytes_eq-Decides w.0.0 (version_text kind)).0 this.0 in
          let n = numbers_found w.0.1 w.0.2 w.0.3 limits this.1 in
          rw (stands, version, n.0, n.1, n.2) refl
          )
      | inr that ↦ absurd (let k : (let r : Result Limits LineKind = Err Header in r) ≡ Ok limits = that.1 in cc)
    ]
  where
    if_version : List ℕ × List ℕ × List ℕ × List ℕ → Result Limits LineKind
    if_version w = cond (bytes_eq w.0 (version_text kind)) (numbers_of (w.1, w.2, w.3)) (Err Header)

opened : (b : Bool) (x y : Limits) → cond b (done x) (Err BadLimits) ≡ Ok y → x ≡ y
opened true x y e = same_done x y e
opened false x y e = absurd cc

kept_found : (r : Result Limits LineKind) (limits : Limits) → with_fault Header r ≡ Ok limits → r ≡ Ok limits
kept_found (Ok x) limits e = e
kept_found (Err kind) limits e = absurd cc

form_found : (kind : HeaderKind) (line : List ℕ) (limits : Limits) → form_from kind (first_word line) ≡ Ok limits → line ≡ header_text kind limits
form_found kind line limits e =
    let name = (first_word line).0 in
    let fields = (first_word line).1 in
    elim (chosen (bytes_eq name (kind_text kind)) (with_fault Header (read_limits kind fields)) (Err Header) (Ok limits) e) [
      | inl this ↦ (
          let is = (bytes_eq-Decides name (kind_text kind)).0 this.0 in
          let behind = limits_found kind fields limits (kept_found (read_limits kind fields) limits this.1) in
          sym (joined_word line) ∙ ap (λ (w : List ℕ). joined w fields) is ∙ ap (joined (kind_text kind)) behind
          )
      | inr that ↦ absurd (let k : (let r : Result Limits LineKind = Err Header in r) ≡ Ok limits = that.1 in cc)
    ]

-- what was read is printed so
pub header_found : (kind : HeaderKind) (line : List ℕ) (limits : Limits) → header_of kind line ≡ Ok limits → line ≡ header_text kind limits
unfolding header_of
header_found kind line limits e =
    let a = step_found (form_from kind (first_word line)) (λ l. cond (may_open l) (Ok l) (Err BadLimits)) limits e in
    form_found kind line a.0 a.1 ∙ ap (header_text kind) (opened (may_open a.0) a.0 limits a.2)

-- the same at a result
pub headers_found : (kind : HeaderKind) (line : List ℕ) (r : Result Limits LineKind) → r ≡ header_of kind line → IfOk r (λ limits. line ≡ header_text kind limits)
headers_found kind line (Ok limits) e = header_found kind line limits (sym e)
headers_found kind line (Err fault) e = tt

one_is_word : IsWord (49 ∷ [])
one_is_word = record { free = ((λ e. cc), tt); some = omega arith }

two_is_word : IsWord (50 ∷ [])
two_is_word = record { free = ((λ e. cc), tt); some = omega arith }

version_is_word : (kind : HeaderKind) → IsWord (version_text kind)
version_is_word (Calls First) = one_is_word
version_is_word (Calls Second) = two_is_word
version_is_word Steps = one_is_word
version_is_word Trace = one_is_word

-- a text is itself
same_bytes : (text : List ℕ) → bytes_eq text text ≡ true
same_bytes text = (bytes_eq-Decides text text).1 refl

limits_again : (kind : HeaderKind) (limits : Limits) → MayOpen limits → read_limits kind (Some (limits_text kind limits)) ≡ Ok limits
unfolding read_limits
limits_again kind limits h =
    let a : limits.ranks < 10000 = (let k = h.in_range in omega arith) in
    let b : limits.comms < 10000 = (let k = h.in_range in omega arith) in
    let c : limits.rounds < 10000 = (let k = h.in_range in omega arith) in
    rw (
      four_again (version_text kind) (decimal limits.ranks) (decimal limits.comms) (decimal limits.rounds) (version_is_word kind) (number_is_word limits.ranks a) (number_is_word limits.comms b) (number_is_word limits.rounds c),
      same_bytes (version_text kind),
      number_again limits.ranks a,
      number_again limits.comms b,
      number_again limits.rounds c,
    ) refl

may_open_again : (limits : Limits) → MayOpen limits → may_open limits ≡ true
may_open_again limits h = let k = h.in_range in let s = h.small in grind (arith, nat_tests)

form_again : (kind : HeaderKind) (limits : Limits) → MayOpen limits → form_from kind (first_word (header_text kind limits)) ≡ Ok limits
form_again (Calls version) limits h = rw (limits_again (Calls version) limits h) refl
form_again Steps limits h = rw (limits_again Steps limits h) refl
form_again Trace limits h = rw (limits_again Trace limits h) refl

-- what is printed so is read
pub header_again : (kind : HeaderKind) (line : List ℕ) (limits : Limits) → MayOpen limits → line ≡ header_text kind limits → header_of kind line ≡ Ok limits
unfolding header_of
header_again kind line limits h e = rw (e, form_again kind limits h, may_open_again limits h) refl

may_open_found : (limits : Limits) → may_open limits ≡ true → MayOpen limits
may_open_found limits h = record {
  in_range = record {
    some_ranks = grind (arith, nat_tests);
    ranks = grind (arith, nat_tests);
    some_comms = grind (arith, nat_tests);
    comms = grind (arith, nat_tests);
    some_rounds = grind (arith, nat_tests);
    rounds = grind (arith, nat_tests);
  };
  small = grind (arith, nat_tests);
}

kept_open : (b : Bool) (x y : Limits) → cond b (done x) (Err BadLimits) ≡ Ok y → b ≡ true
kept_open true x y e = refl
kept_open false x y e = absurd cc

-- a world of the limits of a header may be opened
pub header_opens : (kind : HeaderKind) (line : List ℕ) (limits : Limits) → header_of kind line ≡ Ok limits → MayOpen limits
unfolding header_of
header_opens kind line limits e =
    let a = step_found (form_from kind (first_word line)) (λ l. cond (may_open l) (Ok l) (Err BadLimits)) limits e in
    let same = opened (may_open a.0) a.0 limits a.2 in
    may_open_found limits (subst (λ l. may_open l ≡ true) same (kept_open (may_open a.0) a.0 limits a.2))

-- the header of the other version is no header of this one
other_limits : (limits : Limits) → MayOpen limits → read_limits (Calls Second) (Some (limits_text (Calls First) limits)) ≡ Err Header
unfolding read_limits
other_limits limits h =
    let a : limits.ranks < 10000 = (let k = h.in_range in omega arith) in
    let b : limits.comms < 10000 = (let k = h.in_range in omega arith) in
    let c : limits.rounds < 10000 = (let k = h.in_range in omega arith) in
    rw (four_again (codes "1") (decimal limits.ranks) (decimal limits.comms) (decimal limits.rounds) one_is_word (number_is_word limits.ranks a) (number_is_word limits.comms b) (number_is_word limits.rounds c)) refl

other_form : (limits : Limits) → MayOpen limits → form_from (Calls Second) (first_word (header_text (Calls First) limits)) ≡ Err Header
other_form limits h = rw (other_limits limits h) refl

pub first_is_not_second : (line : List ℕ) (limits : Limits) → header_of (Calls First) line ≡ Ok limits → header_of (Calls Second) line ≡ Err Header
unfolding header_of
first_is_not_second line limits e =
    let is = header_found (Calls First) line limits e in
    let h = header_opens (Calls First) line limits e in
    rw (is, other_form limits h) refl

-- Who is left out of a communicator that a shrink makes.
use Rattle.std.proofs.Common.{◌≡◌, ◌⊎◌, ℕ, ◌<◌, ◌≤◌, Bool, true, false, not, List, length, filter, drop, take, refl, ap, sym, ◌∙◌, arith, inl, inr, IsTrue}
use Rattle.std.proofs.lemmas.{Bool.{cases_lt}, List.{take-append-drop, take-append-le}}
use Rattle.std.proofs.lemmas.List.Elements.{filter-append}
use Rattle.std.proofs.Math.Seq.{take-length}
use mathlib.Core.List.{IsPrefix}
use Rattle.ulfm_model.specs.History.{has, without}
use Rattle.ulfm_model.proofs.Lists.{all_has, each_from, filter_same, has_kept, length_prefix, not_in_filter, not_in_take, prefix_trans}
use Rattle.ulfm_steps.specs.{ReadsOn.{AtFailure, ReadsOn}, declared.read_on.ReadOn.{ReadOn}}

-- a beginning of a list is its first elements, so many
pub first_ones : {X : Type 0} (a whole : List X) (n : ℕ) → IsPrefix a whole → length a ≡ n → take n whole ≡ a
first_ones a whole n begins counted = ap (λ m. take m whole) (sym counted) ∙ (ap (take (length a)) (sym begins.1) ∙
    (take-append-le (length a) a begins.0 (omega arith) ∙ take-length a))

pub take_prefix : {X : Type 0} (n : ℕ) (xs : List X) → IsPrefix (take n xs) xs
take_prefix n xs = (drop n xs, take-append-drop n xs)

-- what passes of a beginning of a list begins what passes of it
pub filter_begins : (p : ℕ → Bool) (a b : List ℕ) → IsPrefix a b → IsPrefix (filter p a) (filter p b)
filter_begins p a b begins = (filter p begins.0, sym (filter-append p a begins.0) ∙ ap (filter p) begins.1)

-- those of a group that are among the failures that reach so far are its first failures, so many
pub reached_first : (group : List ℕ) (count : ℕ) (old new whole : List ℕ) (reach : ℕ) → ReadsOn group count old new whole reach
    → take count (filter (has group) whole) ≡ filter (has group) (take reach new)
reached_first group count old new whole reach reads =
    first_ones (filter (has group) (take reach new)) (filter (has group) whole) count
    (filter_begins (has group) (take reach new) whole (prefix_trans (take reach new) new whole (take_prefix reach new) reads.begins)) reads.counted

-- those that reach as far as it was read on are the first ones, where as many of them were looked for
pub first_reached : (group : List ℕ) (count first : ℕ) (at : ReadOn) (seen : List ℕ) → AtFailure group count at seen
    → count ≡ length (take first (filter (has group) seen)) → filter (has group) (take at.reach seen) ≡ take first (filter (has group) seen)
first_reached group count first at seen reads is =
    let whole = filter (has group) seen in
    let reached = filter (has group) (take at.reach seen) in
    let begins = filter_begins (has group) (take at.reach seen) seen (take_prefix at.reach seen) in
    let all : at.found ≡ count = by_found (cases_lt at.found count) in
    sym (first_ones reached whole count begins (sym reads.counted ∙ all))
    ∙ (ap (λ n. take n whole) is ∙ first_ones (take first whole) whole (length (take first whole)) (take_prefix first whole) refl)
  where
    -- where fewer were found, there are no more
    by_found : (at.found < count) ⊎ (count ≤ at.found) → at.found ≡ count
    by_found (inl less) =
        let all = reads.counted ∙ ap (λ xs. length (filter (has group) xs)) (ap (λ n. take n seen) (reads.all less) ∙ take-length seen) in
        let few = length_prefix (take first (filter (has group) seen)) (filter (has group) seen) (take_prefix first (filter (has group) seen)) in
        omega (arith, few, less, all, is)
    by_found (inr enough) = omega (arith, enough, reads.few)

-- the others of a group are left out as well as all others
pub without_among : (group others : List ℕ) → without group (filter (has group) others) ≡ without group others
without_among group others =
    filter_same (λ r. not (has others r)) (λ r. not (has (filter (has group) others) r)) group
    (each_from (λ r. has group r ≡ true) (λ r. not (has (filter (has group) others) r) ≡ not (has others r))
    (λ r member. ap not (among r member (has others r) refl)) group (all_has group))
  where
    among : (r : ℕ) → has group r ≡ true → (b : Bool) → has others r ≡ b → has (filter (has group) others) r ≡ has others r
    among r member true is = has_kept (has group) others r is member ∙ sym is
    among r member false is = not_in_filter (has group) others r is ∙ sym is

-- who is among the first ones is among all
pub has_first : (n : ℕ) (xs : List ℕ) (r : ℕ) → IsTrue (has (take n xs) r) → IsTrue (has xs r)
has_first n xs r first = by_list (has xs r) refl
  where
    by_list : (b : Bool) → has xs r ≡ b → has xs r ≡ true
    by_list true is = is
    by_list false is = let none = not_in_take n xs r is in absurd (cc (none, first))

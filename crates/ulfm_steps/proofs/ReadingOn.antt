-- Reading on in the list of failures.
use Rattle.std.proofs.Common.{◌≡◌, ◌⊎◌, inl, inr, ℕ, ◌+◌, ◌<◌, ◌≤◌, ◌==◌, Bool, true, false, cond, List, [], ◌∷◌, ◌++◌, length, filter, take, Some, None, slice_get, refl, ap, ap₂, sym, ◌∙◌, arith, length-append}
use Rattle.std.specs.Prelude.{Result, Ok, Err, is_ok, IsOk, if◌then◌else◌}
use Rattle.std.proofs.lemmas.Bool.{eqb-false}
use Rattle.std.proofs.lemmas.List.{take-append-le}
use Rattle.std.proofs.lemmas.List.Elements.{filter-append}
use Rattle.std.proofs.lemmas.List.Filters.{length-filter_more}
use Rattle.std.proofs.lemmas.Option.{get_or_from_slice_get}
use Rattle.std.proofs.Math.Seq.{take-length}
use mathlib.Core.List.{IsPrefix}
use Rattle.ulfm_model.specs.History.{History, failures, has}
use Rattle.ulfm_model.proofs.{Histories.{failures_begin}, Lists.{in_list, length_prefix, prefix_trans}}
use Rattle.ulfm_steps.specs.ReadsOn.{AtFailure, MayReadOn, ReadsOn}
use Rattle.ulfm_steps.specs.declared.read_on.ReadOn.{ReadOn}
use Rattle.ulfm_steps.proofs.Looking.{whole_found}

-- a push that succeeds
pub put_behind : {X E : Type 0} (old new : List X) (x : X) (r : Result (Unit {0}) E) → new ≡ (if is_ok r then old ++ x ∷ [] else old) → IsOk r → new ≡ old ++ x ∷ []
put_behind old new x (Ok done) is ok = is
put_behind old new x (Err fault) is ok = absurd (cc ok)

-- the first elements of a longer list
pub take_begins : {X : Type 0} (n : ℕ) (a b : List X) → IsPrefix a b → n ≤ length a → take n b ≡ take n a
take_begins n a b begins le = ap (take n) (sym begins.1) ∙ take-append-le n a begins.0 le

-- in a longer list no fewer pass
pub passing_grow : (p : ℕ → Bool) (a b : List ℕ) → IsPrefix a b → length (filter p a) ≤ length (filter p b)
passing_grow p a b begins =
    let both = filter-append p a begins.0 ∙ refl in
    let whole = ap (λ w. length (filter p w)) begins.1 in
    let parts = ap length both ∙ length-append (filter p a) (filter p begins.0) in
    omega (arith, whole, parts)

-- where fewer pass among the first ones than in the whole list, it goes on
pub goes_further : (p : ℕ → Bool) (count n : ℕ) (seen whole : List ℕ) → IsPrefix seen whole → n ≤ length seen → length (filter p (take n seen)) < count → count ≤ length (filter p whole) → n < length whole
goes_further p count n seen whole begins within fewer enough = by_size (either n (length whole))
  where
    either : (a b : ℕ) → (a < b) ⊎ (b ≤ a)
    either a b = grind arith

    by_size : (n < length whole) ⊎ (length whole ≤ n) → n < length whole
    by_size (inl below) = below
    by_size (inr past) =
        let long = length_prefix seen whole begins in
        let same : n ≡ length whole = omega (arith, past, within, long) in
        let all : take n seen ≡ whole = sym (take_begins n seen whole begins within) ∙ (ap (λ m. take m whole) same ∙ take-length whole) in
        let counted = ap (λ w. length (filter p w)) all in
        absurd (omega (arith, counted, fewer, enough))

-- one failure more is reached
pub reached : (p : ℕ → Bool) (seen new : List ℕ) (n r : ℕ) → IsPrefix seen new → n ≤ length seen → slice_get new n ≡ Some r → length (filter p (take (n + 1) new)) ≡ length (filter p (take n seen)) + cond (p r) 1 0
reached p seen new n r begins within at =
    length-filter_more p new n 0 (in_list new n r at)
    ∙ ap₂ (λ xs b. length (filter p xs) + cond b 1 0) (take_begins n seen new begins within) (ap p (get_or_from_slice_get new n r 0 at))

-- whoever may read on may when more has happened
pub may_read_on_stays : {P : Type 0} (h longer : History P) (group : List ℕ) (count : ℕ) (seen : List ℕ) → IsPrefix h longer → MayReadOn group count seen (failures h) → MayReadOn group count seen (failures longer)
may_read_on_stays h longer group count seen begins may =
    let grown = failures_begin h longer begins in
    let more = passing_grow (has group) (failures h) (failures longer) grown in
    record { rises = may.rises; begins = prefix_trans seen (failures h) (failures longer) may.begins grown; enough = omega (arith, may.enough, more) }

-- .. and when more of the list was seen
pub may_read_on_after : {P : Type 0} (h longer : History P) (group : List ℕ) (count : ℕ) (seen new : List ℕ) → IsPrefix h longer → IsPrefix new (failures longer) → MayReadOn group count seen (failures h) → MayReadOn group count new (failures longer)
may_read_on_after h longer group count seen new begins seen_begins may =
    record { rises = may.rises; begins = seen_begins; enough = (may_read_on_stays h longer group count seen begins may).enough }

-- what reading on comes to, once so many members were found
pub reads_on : (group : List ℕ) (count : ℕ) (at : ReadOn) (old new whole : List ℕ) → AtFailure group count at new → at.found ≡ count → IsPrefix old new → IsPrefix new whole → ReadsOn group count old new whole at.reach
reads_on group count at old new whole stands done goes_on begins = record { goes_on = goes_on; begins = begins; within = stands.within; counted = sym stands.counted ∙ done }

-- fewer members were found than are looked for
pub fewer_found : (r : Bool) (found count : ℕ) → r ≡ (found == count) → r ≡ false → found ≤ count → found < count
fewer_found r found count is out few = let apart = eqb-false found count (sym is ∙ out) in omega (arith, apart, few)

-- the load of the place past a beginning of a longer list gives an element
pub no_end : (seen whole later : List ℕ) → IsPrefix seen whole → length seen < length whole → IsPrefix whole later → slice_get later (length seen) ≡ None → ⊥
no_end seen whole later begins more grown none =
    let all = whole_found seen later (prefix_trans seen whole later begins grown) none in
    absurd (omega (arith, more, length_prefix whole later grown, ap length all))

module _ (group : List ℕ) (count : ℕ) (at : ReadOn) (seen whole : List ℕ) (may : MayReadOn group count seen whole) (stands : AtFailure group count at seen) (more : at.found < count) where
  -- the list goes on past what was seen
  pub list_goes_on : length seen < length whole
  list_goes_on =
      let last = stands.all more in
      let fewer : length (filter (has group) (take at.reach seen)) < count = omega (arith, stands.counted, more) in
      let below = goes_further (has group) count at.reach seen whole may.begins stands.within fewer may.enough in
      omega (arith, below, last)

  -- with that rank one failure more is gone through
  pub rank_further : (r : ℕ) (next : ReadOn) → next.reach ≡ at.reach + 1 → next.found ≡ at.found + cond (has group r) 1 0 → AtFailure group count next (seen ++ r ∷ [])
  rank_further r next reach found =
      let new = seen ++ r ∷ [] in
      let longer = length-append seen (r ∷ []) in
      let last = stands.all more in
      let here = ap (slice_get new) last ∙ at_end seen in
      let one = reached (has group) seen new at.reach r (r ∷ [], refl) stands.within here in
      let next_is = ap (λ n. length (filter (has group) (take n new))) reach in
      let few : cond (has group r) 1 0 ≤ 1 = elim (has group r) as (λ b. cond b 1 0 ≤ 1) [ true ↦ omega arith | false ↦ omega arith ] in
      record {
        within = omega (arith, reach, last, longer);
        counted = omega (arith, found, stands.counted, one, next_is);
        few = omega (arith, found, few, more);
        all = λ fewer. omega (arith, reach, last, longer);
      }
    where
      at_end : (xs : List ℕ) → slice_get (xs ++ r ∷ []) (length xs) ≡ Some r
      at_end [] = refl
      at_end (x ∷ xs) = at_end xs

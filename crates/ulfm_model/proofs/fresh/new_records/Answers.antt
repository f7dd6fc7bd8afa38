use Rattle.std.proofs.Common.{◌≡◌, ℕ, List, ◌++◌, ◌∷◌, [], map, ap, ap₂, sym, ◌∙◌}
use Rattle.std.proofs.lemmas.List.{map-append}
use native.Mathlib.Numerals.{unary_clauses}
use Rattle.ulfm_model.specs.{History.{first_ranks}, Records.{Record, new_record}}
use Rattle.ulfm_model.specs.Kept.{record_of}
use Rattle.ulfm_model.proofs.fresh.new_records.Goals as goal

-- one more record keeps pace with one more rank
one_more : {R : Type 0} (f : R → Record) (made : ℕ → Record) (rows longer : List R) (row : R) (ns : List ℕ) (n : ℕ) → longer ≡ rows ++ row ∷ [] → map f rows ≡ map made ns → f row ≡ made n → map f longer ≡ map made (ns ++ n ∷ [])
one_more f made rows longer row ns n longer_is rows_are row_is =
    ap (map f) longer_is ∙ (map-append f rows (row ∷ []) ∙ (ap₂ (λ done own. done ++ own ∷ []) rows_are row_is ∙ sym (map-append made ns (n ∷ []))))

pub loop-number-preserved : goal.loop-number-preserved
loop-number-preserved g c =
    let limits = c.args.limits in
    let rows = c.loop-number.records.items in
    let n = c.loop-number.number in
    simp unary_clauses
    (one_more (record_of limits) (new_record limits) rows c.push.new.self.items c.in_ok-record.record (first_ranks n) n c.in_ok-push.ensures.items c.loop-number.invariant (c.in_ok-record.ensures limits (c.in_ok-ranks.ensures ∙ c.in_ok-first_ranks.ensures)))

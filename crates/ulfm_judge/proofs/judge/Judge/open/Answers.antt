use Rattle.std.proofs.Common.{◌≡◌, ℕ, List, [], ◌∷◌, map, refl, sym, ap, ◌∙◌}
use Rattle.std.proofs.lemmas.Simd.{map-map}
use Rattle.ulfm_model.specs.{History.{first_ranks}, Records.{Record, new_record}}
use Rattle.ulfm_model.specs.{Kept.{record_of}}
use Rattle.ulfm_model.specs.Traces.{Traced}
use Rattle.ulfm_judge.specs.{declared.calls.OpenCall.{OpenCall}, Kept.{kept_by}}
use Rattle.ulfm_judge.proofs.judge.Judge.open.Goals as goal

map_same : (xs : List ℕ) → map (λ x. x) xs ≡ xs
map_same [] = refl
map_same (x ∷ xs) = ap (λ ys. x ∷ ys) (map_same xs)

pub invariant_of-result-clause-numbered : goal.invariant_of-result-clause-numbered
invariant_of-result-clause-numbered g c =
    let limits = c.args.limits in
    let records = c.in_ok-records.records.items in
    sym (map-map (λ (x : Record). x.number) (record_of limits) records)
    ∙ (ap (map (λ (x : Record). x.number)) c.in_ok-records.ensures ∙ (map-map (λ (x : Record). x.number) (new_record limits) (first_ranks limits.ranks) ∙ map_same (first_ranks limits.ranks)))

pub returns-clause-stands : goal.returns-clause-stands
returns-clause-stands g c =
    let limits = c.args.limits in
    let begun : List Record → Traced g.row.P.Denot = λ (records : List Record). record { limits = limits; history = []; records = records; calls = [] } in (
      c.in_ok-numbers.ensures,
      λ by. sym (ap (λ (calls : List (OpenCall g.row.P.Denot g.row.A.Denot)). kept_by calls by) c.new-2.ensures.items),
      ap begun (sym c.in_ok-records.ensures),
    )

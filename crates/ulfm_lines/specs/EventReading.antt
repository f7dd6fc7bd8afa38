-- What the text of an event tells.
use Rattle.std.specs.Prelude.{ℕ, nat_le, nat_lt, ◌&&◌, List, [], ◌∷◌, codes, Option, Some, None, Result, Ok, Err, if◌then◌else◌}
use Rattle.ulfm_laws.specs.declared.flag_and.FlagAnd.{FlagAnd}
use Rattle.ulfm_model.specs.declared.{contribution.Offer.{Offer}, event.Event.TheVariants.{Fail, Settle, Mark, Arrive, Revoke, Spawn}}
use Rattle.ulfm_model.specs.Computed.{given_at, mark_at}
use Rattle.ulfm_script.specs.declared.line_kind.LineKind.{LineKind}
use Rattle.ulfm_script.specs.declared.line_kind.LineKind.TheVariants.{Words}
use Rattle.ulfm_script.specs.{Steps.{◌>>=◌}, Words.{by_verb, next_word}}
use Rattle.ulfm_lines.specs.{Fields.{both, comm_field, labelled, number_field, offer_field, place_field, rank_field, whole}, LineTexts.{TraceEvent}}

-- what is read of an event; none where no contribution and no mark has its counts
abbrev pub ReadEvent : Type 0
ReadEvent = Result (Option TraceEvent) LineKind

-- a settlement with these counts, where a contribution has them
abbrev pub settled : ℕ × (ℕ × ℕ) → Offer FlagAnd → ℕ → ℕ → Option TraceEvent
settled place offer known acked =
    if nat_le acked known && nat_le known 1024 then Some (Settle place.0 place.1.0 place.1.1 (given_at offer known acked)) else None

-- a mark with this count, where a mark has it
abbrev pub marked : ℕ × (ℕ × ℕ) → ℕ → Option TraceEvent
marked place known = if nat_lt 0 known && nat_le known 1024 then Some (Mark place.0 place.1.0 place.1.1 (mark_at known)) else None

-- an event that is made of what was read
abbrev pub told : {A : Type 0} → (A → TraceEvent) → Result A LineKind → ReadEvent
told make read = read >>= λ x. Ok (Some (make x))

-- the text behind each verb
unfoldable pub read_fail : Option (List ℕ) → ReadEvent
read_fail text = told Fail (whole rank_field text)

unfoldable pub settle_event : Option (List ℕ) → ReadEvent
settle_event text =
    whole (both place_field (both offer_field (both (labelled (codes "known")) (labelled (codes "acked"))))) text
    >>= λ x. Ok (settled x.0 x.1.0 x.1.1.0 x.1.1.1)

unfoldable pub mark_event : Option (List ℕ) → ReadEvent
mark_event text = whole (both place_field (labelled (codes "known"))) text >>= λ x. Ok (marked x.0 x.1)

unfoldable pub arrive_event : Option (List ℕ) → ReadEvent
arrive_event text = told (λ x. Arrive x.0 x.1.0 x.1.1) (whole place_field text)

unfoldable pub revoke_event : Option (List ℕ) → ReadEvent
revoke_event text = told Revoke (whole comm_field text)

unfoldable pub spawn_event : Option (List ℕ) → ReadEvent
spawn_event text = told (λ x. Spawn x.0 x.1.0 x.1.1) (whole (both comm_field (both comm_field number_field)) text)

-- a verb, and the text behind it
abbrev pub event_from : List ℕ × Option (List ℕ) → ReadEvent
event_from first =
    by_verb ((codes "fail", read_fail) ∷ (codes "settle", settle_event) ∷ (codes "mark", mark_event)
    ∷ (codes "arrive", arrive_event) ∷ (codes "revoke", revoke_event) ∷ (codes "spawn", spawn_event) ∷ []) (Err Words) first

-- an event
unfoldable pub event_of : Option (List ℕ) → ReadEvent
event_of text = next_word text >>= event_from

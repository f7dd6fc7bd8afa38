-- An event that a line tells is read from it, and one that is read is told by it.
use Rattle.std.proofs.Common.{◌≡◌, ℕ, ◌<◌, ◌≤◌, List, ◌∷◌, ◌++◌, Option, Some, None, Result, Ok, Err, refl, sym, ap, subst, ◌∙◌, inl, inr, arith}
use Rattle.std.specs.{Prelude.{⊤, codes, min}, Coded.{le_prop}, Fmt.{decimal}}
use Rattle.std.proofs.lemmas.Bool.{cases_lt, lt-leb, le-leb, lt-ltb, le-ltb}
use Rattle.ulfm_laws.specs.{Counts.{same_acked, same_known}, declared.{summary.Acked.{Acked}, flag_and.FlagAnd.{FlagAnd}, summary.Known.{Known}}}
use Rattle.ulfm_model.specs.declared.{contribution.Contribution.{Contribution}, contribution.MarkCount.{MarkCount}, contribution.Offer.{Offer}, event.Event.TheVariants.{Fail, Settle, Mark, Arrive, Revoke, Spawn}}
use Rattle.ulfm_model.specs.Computed.{given_at, mark_at}
use Rattle.ulfm_model.proofs.OnlyMarks.{same_mark}
use Rattle.ulfm_script.specs.declared.line_kind.LineKind.{LineKind}
use Rattle.ulfm_script.specs.declared.line_kind.LineKind.TheVariants.{Words}
use Rattle.ulfm_script.specs.{Steps.{◌>>=◌}, Words.{next_word}}
use Rattle.ulfm_script.proofs.{Spelled.{verb_found}, WordLemmas.{IsWord, done, joined, next_before, next_found, same_done, step_found}}
use Rattle.ulfm_lines.specs.{EventReading.{ReadEvent, arrive_event, event_from, event_of, read_fail, mark_event, marked, revoke_event, settle_event, settled, spawn_event}, Fields.{Field, both, comm_field, labelled, number_field, offer_field, place_field, rank_field, whole}, LineTexts.{TraceEvent, mark_text, offer_text, place_text, settle_text}, Telling.{IsForgedMark, IsForgedSettlement, PlaceFits, TellsEvent}}
use Rattle.ulfm_lines.proofs.FieldLemmas.{IsField, both_fields, is_comm, is_labelled, is_number, is_offer, is_place, is_rank, whole_again, whole_found}
use Rattle.ulfm_lines.proofs.Literals.{literal}

-- contributions with equal offers and counts are one
same_given : (x y : Contribution FlagAnd) → x.offer ≡ y.offer → x.known ≡ y.known → x.acked ≡ y.acked → x ≡ y
same_given x y offers known acked =
    let Q : Offer FlagAnd → Known → Acked → Type 0 = λ o m n. (within : n.count ≤ m.count) → x ≡ record { offer = o; known = m; acked = n; within = within } in
    let make : (x.acked.count ≤ x.known.count) → Contribution FlagAnd = λ w. record { offer = x.offer; known = x.known; acked = x.acked; within = w } in
    subst (λ o. Q o y.known y.acked) offers (subst (λ m. Q x.offer m y.acked) known (subst (λ n. Q x.offer x.known n) acked (λ w. ap make (le_prop x.within w)))) y.within

-- a contribution is the one with its counts
given_is : (given : Contribution FlagAnd) (offer : Offer FlagAnd) (known acked : ℕ) → given.offer ≡ offer → given.known.count ≡ known → given.acked.count ≡ acked → given_at offer known acked ≡ given
given_is given offer known acked same knows acks =
    let made = given_at offer known acked in
    sym (same_given given made same
    (same_known given.known made.known (omega (arith, knows, given.known.in_range)))
    (same_acked given.acked made.acked (omega (arith, knows, acks, given.known.in_range, given.within))))

-- so is a mark
mark_is : (mark : MarkCount) (known : ℕ) → mark.known.count ≡ known → mark_at known ≡ mark
mark_is mark known e = sym (same_mark mark (mark_at known) (omega (arith, e, mark.known.in_range, mark.counted)))

-- counts of a contribution make one
pub settled_is : (place : ℕ × (ℕ × ℕ)) (given : Contribution FlagAnd) (offer : Offer FlagAnd) (known acked : ℕ) → given.offer ≡ offer → given.known.count ≡ known → given.acked.count ≡ acked
    → settled place offer known acked ≡ Some (Settle place.0 place.1.0 place.1.1 given)
settled_is place given offer known acked same knows acks =
    let within : acked ≤ known = (let h = given.within in omega (arith, knows, acks)) in
    let few : known ≤ 1024 = (let h = given.known.in_range in omega (arith, knows)) in
    rw (le-leb acked known within, le-leb known 1024 few) (ap (λ (g : Contribution FlagAnd). Some (Settle place.0 place.1.0 place.1.1 g)) (given_is given offer known acked same knows acks))

-- the count of a mark makes one
pub marked_is : (place : ℕ × (ℕ × ℕ)) (mark : MarkCount) (known : ℕ) → mark.known.count ≡ known → marked place known ≡ Some (Mark place.0 place.1.0 place.1.1 mark)
marked_is place mark known e =
    let some : 0 < known = (let h = mark.counted in omega (arith, e)) in
    let few : known ≤ 1024 = (let h = mark.known.in_range in omega (arith, e)) in
    rw (lt-ltb 0 known some, le-leb known 1024 few) (ap (λ (m : MarkCount). Some (Mark place.0 place.1.0 place.1.1 m)) (mark_is mark known e))

-- other counts make none
not_settled : (place : ℕ × (ℕ × ℕ)) (offer : Offer FlagAnd) (known acked : ℕ) → ¬ ((acked ≤ known) × (known ≤ 1024)) → settled place offer known acked ≡ None
not_settled place offer known acked forged = elim (cases_lt known acked) [
  | inl past ↦ rw (lt-leb acked known past) refl
  | inr within ↦ elim (cases_lt 1024 known) [
    | inl many ↦ rw (le-leb acked known within, lt-leb known 1024 many) refl
    | inr few ↦ absurd (forged (within, few))
  ]
]

not_marked : (place : ℕ × (ℕ × ℕ)) (known : ℕ) → ¬ ((0 < known) × (known ≤ 1024)) → marked place known ≡ None
not_marked place known forged = elim (cases_lt 0 known) [
  | inl some ↦ elim (cases_lt 1024 known) [
    | inl many ↦ rw (lt-ltb 0 known some, lt-leb known 1024 many) refl
    | inr few ↦ absurd (forged (some, few))
  ]
  | inr none ↦ rw (le-ltb 0 known none) refl
]

-- the text of a settlement tells what its counts make
settled_tells : (text : List ℕ) (place : ℕ × (ℕ × ℕ)) (offer : Offer FlagAnd) (known acked : ℕ) → PlaceFits place.0 place.1.0 place.1.1 → known < 10000 → acked < 10000
    → text ≡ settle_text place.0 place.1.0 place.1.1 offer known acked → TellsEvent text (settled place offer known acked)
settled_tells text place offer known acked fits k a e = elim (cases_lt known acked) [
  | inl past ↦ rw (lt-leb acked known past) (inl (forged (λ h. omega (arith, h.0, past))))
  | inr within ↦ elim (cases_lt 1024 known) [
    | inl many ↦ rw (le-leb acked known within, lt-leb known 1024 many) (inl (forged (λ h. omega (arith, h.1, many))))
    | inr few ↦ (
        let knows : known ≡ min known 1024 = omega arith in
        let acks : acked ≡ min acked (min known 1024) = omega arith in
        rw (le-leb acked known within, le-leb known 1024 few)
        (fits, e ∙ ap (λ (n : ℕ). settle_text place.0 place.1.0 place.1.1 offer n acked) knows ∙ ap (λ (n : ℕ). settle_text place.0 place.1.0 place.1.1 offer (min known 1024) n) acks)
        )
  ]
]
  where
    forged : ¬ ((acked ≤ known) × (known ≤ 1024)) → IsForgedSettlement text
    forged h = record { comm = place.0; round = place.1.0; rank = place.1.1; offer = offer; known = known; acked = acked; place_fits = fits; known_fits = k; acked_fits = a; forged = h; text_is = e }

-- the text of a mark tells what its count makes
marked_tells : (text : List ℕ) (place : ℕ × (ℕ × ℕ)) (known : ℕ) → PlaceFits place.0 place.1.0 place.1.1 → known < 10000
    → text ≡ mark_text place.0 place.1.0 place.1.1 known → TellsEvent text (marked place known)
marked_tells text place known fits k e = elim (cases_lt 0 known) [
  | inl some ↦ elim (cases_lt 1024 known) [
    | inl many ↦ rw (lt-ltb 0 known some, lt-leb known 1024 many) (inr (forged (λ h. omega (arith, h.1, many))))
    | inr few ↦ (
        let knows : known ≡ (mark_at known).known.count = omega arith in
        rw (lt-ltb 0 known some, le-leb known 1024 few) (fits, e ∙ ap (mark_text place.0 place.1.0 place.1.1) knows)
        )
  ]
  | inr none ↦ rw (le-ltb 0 known none) (inr (forged (λ h. omega (arith, h.0, none))))
]
  where
    forged : ¬ ((0 < known) × (known ≤ 1024)) → IsForgedMark text
    forged h = record { comm = place.0; round = place.1.0; rank = place.1.1; known = known; place_fits = fits; known_fits = k; forged = h; text_is = e }

known_word : IsWord (codes "known")
known_word = literal _ refl

acked_word : IsWord (codes "acked")
acked_word = literal _ refl

abbrev Place : Type 0
Place = ℕ × (ℕ × ℕ)

abbrev at_place : Place → List ℕ
at_place x = place_text x.0 x.1.0 x.1.1

abbrev place_fits : Place → Type 0
place_fits x = PlaceFits x.0 x.1.0 x.1.1

abbrev label_text : List ℕ → ℕ → List ℕ
label_text label n = label ++ 32 ∷ decimal n

abbrev small : ℕ → Type 0
small n = n < 10000

abbrev two_labels : ℕ × ℕ → List ℕ
two_labels x = label_text (codes "known") x.0 ++ 32 ∷ label_text (codes "acked") x.1

abbrev offer_labels : Offer FlagAnd × (ℕ × ℕ) → List ℕ
offer_labels x = offer_text x.0 ++ 32 ∷ two_labels x.1

abbrev settle_fields : Option (List ℕ) → Field (Place × (Offer FlagAnd × (ℕ × ℕ)))
settle_fields text = both place_field (both offer_field (both (labelled (codes "known")) (labelled (codes "acked")))) text

abbrev settle_fits : Place × (Offer FlagAnd × (ℕ × ℕ)) → Type 0
settle_fits x = place_fits x.0 × (⊤ × (small x.1.1.0 × small x.1.1.1))

abbrev settle_behind : Place × (Offer FlagAnd × (ℕ × ℕ)) → List ℕ
settle_behind x = at_place x.0 ++ 32 ∷ offer_labels x.1

is_settlement : IsField settle_fields settle_behind settle_fits
is_settlement = both_fields place_field (both offer_field (both (labelled (codes "known")) (labelled (codes "acked")))) at_place offer_labels place_fits (λ x. ⊤ × (small x.1.0 × small x.1.1)) is_place
    (both_fields offer_field (both (labelled (codes "known")) (labelled (codes "acked"))) offer_text two_labels (λ offer. ⊤) (λ x. small x.0 × small x.1) is_offer
    (both_fields (labelled (codes "known")) (labelled (codes "acked")) (label_text (codes "known")) (label_text (codes "acked")) small small (is_labelled (codes "known") known_word) (is_labelled (codes "acked") acked_word)))

abbrev mark_fields : Option (List ℕ) → Field (Place × ℕ)
mark_fields text = both place_field (labelled (codes "known")) text

abbrev mark_behind : Place × ℕ → List ℕ
mark_behind x = at_place x.0 ++ 32 ∷ label_text (codes "known") x.1

is_marking : IsField mark_fields mark_behind (λ x. place_fits x.0 × small x.1)
is_marking = both_fields place_field (labelled (codes "known")) at_place (label_text (codes "known")) place_fits small is_place (is_labelled (codes "known") known_word)

abbrev spawn_fits : Place → Type 0
spawn_fits x = (x.0 < 256) × ((x.1.0 < 256) × (x.1.1 < 10000))

is_spawning : IsField (both comm_field (both comm_field number_field)) at_place spawn_fits
is_spawning = both_fields comm_field (both comm_field number_field) decimal (λ x. decimal x.0 ++ 32 ∷ decimal x.1) (λ c. c < 256) (λ x. (x.0 < 256) × (x.1 < 10000)) is_comm
    (both_fields comm_field number_field decimal decimal (λ c. c < 256) small is_comm is_number)

-- what is read is told

abbrev Reads : (verb : List ℕ) → (Option (List ℕ) → ReadEvent) → Type 0
Reads verb event_at = (fields : Option (List ℕ)) (event : Option TraceEvent) → event_at fields ≡ Ok event → TellsEvent (joined verb fields) event

-- an event of its fields, which stand behind its verb
fields_found : {X : Type 0} (verb : List ℕ) (fields_at : Option (List ℕ) → Field X) (text_of : X → List ℕ) (Fits : X → Type 0) (make : X → Option TraceEvent) → IsField fields_at text_of Fits
    → ((x : X) → Fits x → TellsEvent (verb ++ 32 ∷ text_of x) (make x)) → Reads verb (λ text. whole fields_at text >>= λ x. Ok (make x))
fields_found verb fields_at text_of Fits make is tells fields event e =
    let x = step_found (whole fields_at fields) (λ x. Ok (make x)) event e in
    let f = whole_found fields_at text_of Fits is fields x.0 x.1 in
    let told : TellsEvent (joined verb fields) (make x.0) = subst (λ (t : Option (List ℕ)). TellsEvent (joined verb t) (make x.0)) (sym f.1) (tells x.0 f.0) in
    subst (TellsEvent (joined verb fields)) (same_done (make x.0) event x.2) told

fail_found : Reads (codes "fail") read_fail
unfolding read_fail
fail_found = fields_found (codes "fail") rank_field decimal (λ r. r < 1024) (λ r. Some (Fail r)) is_rank (λ r h. (h, refl))

settle_found : Reads (codes "settle") settle_event
unfolding settle_event
settle_found = fields_found (codes "settle") settle_fields settle_behind settle_fits (λ x. settled x.0 x.1.0 x.1.1.0 x.1.1.1) is_settlement
    (λ x h. settled_tells (codes "settle" ++ 32 ∷ settle_behind x) x.0 x.1.0 x.1.1.0 x.1.1.1 h.0 h.1.1.0 h.1.1.1 refl)

mark_found : Reads (codes "mark") mark_event
unfolding mark_event
mark_found = fields_found (codes "mark") mark_fields mark_behind (λ x. place_fits x.0 × small x.1) (λ x. marked x.0 x.1) is_marking
    (λ x h. marked_tells (codes "mark" ++ 32 ∷ mark_behind x) x.0 x.1 h.0 h.1 refl)

arrive_found : Reads (codes "arrive") arrive_event
unfolding arrive_event
arrive_found = fields_found (codes "arrive") place_field at_place place_fits (λ x. Some (Arrive x.0 x.1.0 x.1.1)) is_place (λ x h. (h, refl))

revoke_found : Reads (codes "revoke") revoke_event
unfolding revoke_event
revoke_found = fields_found (codes "revoke") comm_field decimal (λ c. c < 256) (λ c. Some (Revoke c)) is_comm (λ c h. (h, refl))

spawn_found : Reads (codes "spawn") spawn_event
unfolding spawn_event
spawn_found = fields_found (codes "spawn") (both comm_field (both comm_field number_field)) at_place spawn_fits (λ x. Some (Spawn x.0 x.1.0 x.1.1)) is_spawning (λ x h. (h, refl))

no_verb : (text : List ℕ) (event : Option TraceEvent) → (let r : ReadEvent = Err Words in r) ≡ Ok event → TellsEvent text event
no_verb text event e = absurd cc

read_from : (word : List ℕ) (fields : Option (List ℕ)) (event : Option TraceEvent) → event_from (word, fields) ≡ Ok event → TellsEvent (joined word fields) event
read_from word fields event e = verb_found TellsEvent word (codes "fail") fields read_fail _ event fail_found
    (verb_found TellsEvent word (codes "settle") fields settle_event _ event settle_found
    (verb_found TellsEvent word (codes "mark") fields mark_event _ event mark_found
    (verb_found TellsEvent word (codes "arrive") fields arrive_event _ event arrive_found
    (verb_found TellsEvent word (codes "revoke") fields revoke_event _ event revoke_found
    (verb_found TellsEvent word (codes "spawn") fields spawn_event _ event spawn_found (no_verb (joined word fields) event)))))) e

-- an event that was read is told by the text
pub event_found : (text : Option (List ℕ)) (event : Option TraceEvent) → event_of text ≡ Ok event → (t : List ℕ) × (text ≡ Some t) × TellsEvent t event
unfolding event_of
event_found text event e =
    let w = step_found (next_word text) event_from event e in
    (joined w.0.0 w.0.1, next_found text w.0 w.1, read_from w.0.0 w.0.1 event w.2)

-- what is told is read

abbrev starts : Option (List ℕ) → ReadEvent
starts text = next_word text >>= event_from

-- fields behind their verb
fields_again : {X : Type 0} (verb : List ℕ) (fields_at : Option (List ℕ) → Field X) (text_of : X → List ℕ) (Fits : X → Type 0) (make : X → Option TraceEvent) → IsWord verb → IsField fields_at text_of Fits
    → ((fields : Option (List ℕ)) → event_from (verb, fields) ≡ (whole fields_at fields >>= λ x. Ok (make x))) → (x : X) → Fits x
    → starts (Some (verb ++ 32 ∷ text_of x)) ≡ Ok (make x)
fields_again {X} verb fields_at text_of Fits make word is at x fits =
    ap (λ (w : Result (List ℕ × Option (List ℕ)) LineKind). w >>= event_from) (next_before verb (text_of x) word) ∙ at (Some (text_of x))
    ∙ ap (λ (r : Result X LineKind). r >>= λ x. Ok (make x)) (whole_again fields_at text_of Fits is x fits)

fail_again : (r : ℕ) → r < 1024 → starts (Some (codes "fail " ++ decimal r)) ≡ Ok (Some (Fail r))
unfolding read_fail
fail_again = fields_again (codes "fail") rank_field decimal (λ r. r < 1024) (λ r. Some (Fail r)) (literal _ refl) is_rank (λ fields. refl)

settle_again : (x : Place × (Offer FlagAnd × (ℕ × ℕ))) → settle_fits x → starts (Some (codes "settle " ++ settle_behind x)) ≡ Ok (settled x.0 x.1.0 x.1.1.0 x.1.1.1)
unfolding settle_event
settle_again = fields_again (codes "settle") settle_fields settle_behind settle_fits (λ x. settled x.0 x.1.0 x.1.1.0 x.1.1.1) (literal _ refl) is_settlement (λ fields. refl)

mark_again : (x : Place × ℕ) → place_fits x.0 × small x.1 → starts (Some (codes "mark " ++ mark_behind x)) ≡ Ok (marked x.0 x.1)
unfolding mark_event
mark_again = fields_again (codes "mark") mark_fields mark_behind (λ x. place_fits x.0 × small x.1) (λ x. marked x.0 x.1) (literal _ refl) is_marking (λ fields. refl)

arrive_again : (x : Place) → place_fits x → starts (Some (codes "arrive " ++ at_place x)) ≡ Ok (Some (Arrive x.0 x.1.0 x.1.1))
unfolding arrive_event
arrive_again = fields_again (codes "arrive") place_field at_place place_fits (λ x. Some (Arrive x.0 x.1.0 x.1.1)) (literal _ refl) is_place (λ fields. refl)

revoke_again : (c : ℕ) → c < 256 → starts (Some (codes "revoke " ++ decimal c)) ≡ Ok (Some (Revoke c))
unfolding revoke_event
revoke_again = fields_again (codes "revoke") comm_field decimal (λ c. c < 256) (λ c. Some (Revoke c)) (literal _ refl) is_comm (λ fields. refl)

spawn_again : (x : Place) → spawn_fits x → starts (Some (codes "spawn " ++ at_place x)) ≡ Ok (Some (Spawn x.0 x.1.0 x.1.1))
unfolding spawn_event
spawn_again = fields_again (codes "spawn") (both comm_field (both comm_field number_field)) at_place spawn_fits (λ x. Some (Spawn x.0 x.1.0 x.1.1)) (literal _ refl) is_spawning (λ fields. refl)

abbrev begins : List ℕ → ReadEvent
begins text = starts (Some text)

told_again : (text : List ℕ) (event : Option TraceEvent) → TellsEvent text event → begins text ≡ Ok event
told_again text None (inl h) =
    ap begins h.text_is ∙ settle_again ((h.comm, (h.round, h.rank)), (h.offer, (h.known, h.acked))) (h.place_fits, (tt, (h.known_fits, h.acked_fits)))
    ∙ ap done (not_settled (h.comm, (h.round, h.rank)) h.offer h.known h.acked h.forged)
told_again text None (inr h) =
    ap begins h.text_is ∙ mark_again ((h.comm, (h.round, h.rank)), h.known) (h.place_fits, h.known_fits) ∙ ap done (not_marked (h.comm, (h.round, h.rank)) h.known h.forged)
told_again text (Some (Fail r)) h = ap begins h.1 ∙ fail_again r h.0
told_again text (Some (Settle c k r given)) h =
    let known : given.known.count < 10000 = (let i = given.known.in_range in omega arith) in
    let acked : given.acked.count < 10000 = (let i = given.known.in_range in let j = given.within in omega arith) in
    ap begins h.1 ∙ settle_again ((c, (k, r)), (given.offer, (given.known.count, given.acked.count))) (h.0, (tt, (known, acked)))
    ∙ ap done (settled_is (c, (k, r)) given given.offer given.known.count given.acked.count refl refl refl)
told_again text (Some (Mark c k r mark)) h =
    let known : mark.known.count < 10000 = (let i = mark.known.in_range in omega arith) in
    ap begins h.1 ∙ mark_again ((c, (k, r)), mark.known.count) (h.0, known) ∙ ap done (marked_is (c, (k, r)) mark mark.known.count refl)
told_again text (Some (Arrive c k r)) h = ap begins h.1 ∙ arrive_again (c, (k, r)) h.0
told_again text (Some (Revoke c)) h = ap begins h.1 ∙ revoke_again c h.0
told_again text (Some (Spawn j c k)) h = ap begins h.1 ∙ spawn_again (j, (c, k)) h.0

-- an event that is told is read
pub event_again : (text : List ℕ) (event : Option TraceEvent) → TellsEvent text event → event_of (Some text) ≡ Ok event
unfolding event_of
event_again text event h = told_again text event h

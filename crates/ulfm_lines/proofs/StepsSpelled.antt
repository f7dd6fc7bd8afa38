-- What is read of a line of a step script is spelled so, and what is spelled so is read.
use Rattle.std.proofs.Common.{◌≡◌, ℕ, ◌<◌, List, [], ◌∷◌, ◌++◌, length, Option, Some, None, Result, Ok, Err, Bool, true, false, cond, if◌then◌else◌, refl, sym, ap, subst, ◌∙◌, inl, inr, arith}
use Rattle.std.specs.{Prelude.{◌==◌, ⊤, codes, IfOk}, Fmt.{decimal}, Str.{bytes_eq}}
use Rattle.std.proofs.lemmas.{Bool.{eqb-false, ne_eqb}, Slice.Eq.{bytes_eq-Decides}}
use Rattle.ulfm_model.specs.declared.call.Call.TheVariants.{Fail, GetFailed, Ack, FailureAck, FailureGetAcked, Agree, Shrink, Barrier, Poll, Revoke, IsRevoked, Free}
use Rattle.ulfm_model.specs.declared.step_name.StepName.{StepName}
use Rattle.ulfm_model.specs.declared.step_name.StepName.TheVariants as name
use Rattle.ulfm_model.specs.declared.step_line.StepLine.TheVariants.{Called, Stepped, Before, Finished, Failed}
use Rattle.ulfm_script.specs.declared.line_kind.LineKind.{LineKind}
use Rattle.ulfm_script.specs.declared.line_kind.LineKind.TheVariants.{Number, Step, Verb, Words}
use Rattle.ulfm_script.specs.{Calls.{ScriptCall, call_of, rank_alone}, Digits.{read_number, read_rank}, Spelling.{Spells, SpellsAs, is_padded}, Steps.{◌>>=◌}, Words.{two_of, first_word}}
use Rattle.ulfm_script.proofs.{Numerals.{number_again, number_found, number_to_found}, Spelled.{chosen, number_is_word, rank_again, rank_alone_again, rank_found, read_is_spelled, spelled_again, verb_found}, WordLemmas.{IsWord, joined, joined_word, same_done, step_found, two_again, two_found}}
use Rattle.ulfm_lines.specs.{StepLines.{IsByRank, ScriptStep, SpellsStep, read_asked, before_of, read_failed, finished_of, step_from, step_line_of, stepped_of}, StepNames.{name_beside, read_step_name, step_text, step_words}}
use Rattle.ulfm_lines.proofs.Literals.{literal}

-- names

-- the words of a table beside their steps
abbrev AreTheirs : List (StepName × List ℕ) → Type 0
AreTheirs [] = ⊤
AreTheirs (x ∷ words) = (x.1 ≡ step_text x.0) × AreTheirs words

-- a step that was found beside a word has that word
beside : (word : List ℕ) (found : StepName) (words : List (StepName × List ℕ)) → AreTheirs words → name_beside word words ≡ Ok found → word ≡ step_text found
beside word found [] theirs e = absurd (cc e)
beside word found (x ∷ words) theirs e = elim (chosen (bytes_eq word x.1) (Ok x.0) (name_beside word words) (Ok found) e) [
  | inl this ↦ (bytes_eq-Decides word x.1).0 this.0 ∙ (theirs.0 ∙ ap step_text (same_done x.0 found this.1))
  | inr that ↦ beside word found words theirs.1 that.1
]

-- a name that was read stands there
pub name_found : (word : List ℕ) (found : StepName) → read_step_name word ≡ Ok found → word ≡ step_text found
unfolding read_step_name
name_found word found e = beside word found step_words (refl, (refl, (refl, (refl, (refl, (refl, (refl, (refl, (refl, (refl, (refl, (refl, (refl, tt))))))))))))) e

-- the same at a result
pub names_found : (word : List ℕ) (r : Result StepName LineKind) → r ≡ read_step_name word → IfOk r (λ name. word ≡ step_text name)
names_found word (Ok found) e = name_found word found (sym e)
names_found word (Err kind) e = tt

-- a name that stands there is read
pub name_again : (found : StepName) → read_step_name (step_text found) ≡ Ok found
unfolding read_step_name
name_again name.List = refl
name_again _ = refl

name_is_word : (found : StepName) → IsWord (step_text found)
name_is_word name.List = literal _ refl
name_is_word _ = literal _ refl

-- lines

-- the first word of a call's line is there, and is not the outside's verb
by_rank : (line : List ℕ) (asked : ScriptCall) → Spells line asked → IsByRank asked
    → ((length (first_word line).0 == 0) ≡ false) × (bytes_eq (first_word line).0 (codes "fail") ≡ false)
by_rank line (Fail rank) h k = absurd (k rank refl)
by_rank line (GetFailed rank comm) h k = rw h.line_is (refl, refl)
by_rank line (FailureGetAcked rank comm) h k = rw h.1.line_is (refl, refl)
by_rank line (Ack rank comm count) h k = rw h.1.line_is (refl, refl)
by_rank line (FailureAck rank comm) h k = rw h.1.line_is (refl, refl)
by_rank line (Agree rank comm flag) h k = rw h.2.line_is (refl, refl)
by_rank line (Shrink rank comm) h k = rw h.line_is (refl, refl)
by_rank line (Barrier rank comm) h k = rw h.line_is (refl, refl)
by_rank line (Poll rank comm) h k = rw h.line_is (refl, refl)
by_rank line (Revoke rank comm) h k = rw h.line_is (refl, refl)
by_rank line (IsRevoked rank comm) h k = rw h.line_is (refl, refl)
by_rank line (Free rank comm) h k = rw h.line_is (refl, refl)

asked_again : (line : List ℕ) (asked : ScriptCall) (padded : Bool) → SpellsAs padded line asked → IsByRank asked → read_asked (Some line) ≡ Ok (Called asked padded)
unfolding read_asked
asked_again line asked padded h k =
    let w = by_rank line asked h.spells k in
    rw (w.0, w.1, spelled_again line asked h.spells) (ap (λ (p : Bool). Ok (Called asked p)) (sym h.padded_is))

nonzero : (n : ℕ) → 0 < n → (n == 0) ≡ false
nonzero n h = ne_eqb n 0 (λ e. omega (arith, h, e))

stepped_again : (rank count : ℕ) → rank < 1024 → 0 < count → count < 10000 → stepped_of (Some (decimal rank ++ 32 ∷ decimal count)) ≡ Ok (Stepped rank count)
unfolding stepped_of
stepped_again rank count h some k =
    rw (two_again (decimal rank) (decimal count) (number_is_word rank (omega (arith, h))) (number_is_word count k), rank_again rank h, number_again count k, nonzero count some) refl

before_again : (rank : ℕ) (name : StepName) → rank < 1024 → before_of (Some (decimal rank ++ 32 ∷ step_text name)) ≡ Ok (Before rank name)
unfolding before_of
before_again rank name h =
    rw (two_again (decimal rank) (step_text name) (number_is_word rank (omega (arith, h))) (name_is_word name), rank_again rank h, name_again name) refl

finished_again : (rank : ℕ) → rank < 1024 → finished_of (Some (decimal rank)) ≡ Ok (Finished rank)
finished_again rank h = rank_alone_again Finished rank h

failed_again : (rank : ℕ) → rank < 1024 → read_failed (Some (decimal rank)) ≡ Ok (Failed rank)
failed_again rank h = rank_alone_again Failed rank h

-- what is spelled so is read
pub step_again : (line : List ℕ) (step : ScriptStep) → SpellsStep line step → step_line_of line ≡ Ok step
unfolding step_line_of
step_again line (Called asked padded) h = ap step_line_of h.3 ∙ asked_again h.0 asked padded h.1 h.2
step_again line (Stepped rank count) h = ap step_line_of h.3 ∙ stepped_again rank count h.0 h.1 h.2
step_again line (Before rank name) h = ap step_line_of h.1 ∙ before_again rank name h.0
step_again line (Finished rank) h = ap step_line_of h.1 ∙ finished_again rank h.0
step_again line (Failed rank) h = ap step_line_of h.1 ∙ failed_again rank h.0

-- a verb whose fields were read stands at the line's beginning
abbrev Reads : (verb : List ℕ) → (Option (List ℕ) → Result ScriptStep LineKind) → Type 0
Reads verb fields_of = (fields : Option (List ℕ)) (step : ScriptStep) → fields_of fields ≡ Ok step → SpellsStep (joined verb fields) step

not_fail : (text : List ℕ) (asked : ScriptCall) → bytes_eq (first_word text).0 (codes "fail") ≡ false → Spells text asked → IsByRank asked
not_fail text asked e h rank is =
    let spelled = subst (λ (x : ScriptCall). Spells text x) is h in
    let first : bytes_eq (first_word text).0 (codes "fail") ≡ true = rw spelled.1 refl in
    let wrong : true ≡ false = sym first ∙ e in
    cc

asked_found : Reads (codes "call") read_asked
unfolding read_asked
asked_found None step e = absurd cc
asked_found (Some text) step e =
    elim (chosen (length (first_word text).0 == 0) (Err Words) (cond (bytes_eq (first_word text).0 (codes "fail")) (Err Verb) (call_of text >>= λ asked. Ok (Called asked (is_padded text asked)))) (Ok step) e) [
      | inl none ↦ absurd (let k : (let r : Result ScriptStep LineKind = Err Words in r) ≡ Ok step = none.1 in cc)
      | inr some ↦ elim (chosen (bytes_eq (first_word text).0 (codes "fail")) (Err Verb) (call_of text >>= λ asked. Ok (Called asked (is_padded text asked))) (Ok step) some.1) [
        | inl fail ↦ absurd (let k : (let r : Result ScriptStep LineKind = Err Verb in r) ≡ Ok step = fail.1 in cc)
        | inr rank ↦ (
            let x = step_found (call_of text) (λ asked. Ok (Called asked (is_padded text asked))) step rank.1 in
            let spelled = read_is_spelled text x.0 x.1 in
            subst (SpellsStep (joined (codes "call") (Some text))) (same_done (Called x.0 (is_padded text x.0)) step x.2) (text, record { spells = spelled; padded_is = refl }, not_fail text x.0 rank.0 spelled, refl)
            )
      ]
    ]

count_found : (count : ℕ) (made step : ScriptStep) → (if count == 0 then Err Number else Ok made) ≡ Ok step → (0 < count) × (made ≡ step)
count_found count made step e = elim (chosen (count == 0) (Err Number) (Ok made) (Ok step) e) [
  | inl none ↦ absurd (let k : (let r : Result ScriptStep LineKind = Err Number in r) ≡ Ok step = none.1 in cc)
  | inr some ↦ (omega (arith, eqb-false count 0 some.0), same_done made step some.1)
]

stepped_found : Reads (codes "step") stepped_of
unfolding stepped_of
stepped_found fields step e =
    let w = step_found (two_of fields) (λ w. read_rank w.0 >>= λ rank. read_number w.1 >>= λ count. if count == 0 then Err Number else Ok (Stepped rank count)) step e in
    let r = step_found (read_rank w.0.0) (λ rank. read_number w.0.1 >>= λ count. if count == 0 then Err Number else Ok (Stepped rank count)) step w.2 in
    let n = step_found (read_number w.0.1) (λ count. if count == 0 then Err Number else Ok (Stepped r.0 count)) step r.2 in
    let some = count_found n.0 (Stepped r.0 n.0) step n.2 in
    let rank = number_to_found 1023 r.0 w.0.0 r.1 in
    let count = number_found w.0.1 n.0 n.1 in
    subst (SpellsStep (joined (codes "step") fields)) some.1 (
      omega (arith, rank.0),
      some.0,
      count.0,
      ap (joined (codes "step")) (two_found fields w.0 w.1) ∙ ap (λ (t : List ℕ). codes "step" ++ 32 ∷ (t ++ 32 ∷ w.0.1)) rank.1
          ∙ ap (λ (t : List ℕ). codes "step" ++ 32 ∷ (decimal r.0 ++ 32 ∷ t)) count.1,
    )

before_found : Reads (codes "before") before_of
unfolding before_of
before_found fields step e =
    let w = step_found (two_of fields) (λ w. read_rank w.0 >>= λ rank. read_step_name w.1 >>= λ name. Ok (Before rank name)) step e in
    let r = step_found (read_rank w.0.0) (λ rank. read_step_name w.0.1 >>= λ name. Ok (Before rank name)) step w.2 in
    let n = step_found (read_step_name w.0.1) (λ name. Ok (Before r.0 name)) step r.2 in
    let rank = number_to_found 1023 r.0 w.0.0 r.1 in
    subst (SpellsStep (joined (codes "before") fields)) (same_done (Before r.0 n.0) step n.2) (
      omega (arith, rank.0),
      ap (joined (codes "before")) (two_found fields w.0 w.1) ∙ ap (λ (t : List ℕ). codes "before" ++ 32 ∷ (t ++ 32 ∷ w.0.1)) rank.1
          ∙ ap (λ (t : List ℕ). codes "before" ++ 32 ∷ (decimal r.0 ++ 32 ∷ t)) (name_found w.0.1 n.0 n.1),
    )

-- a verb with a rank alone behind it
alone_found : (verb : List ℕ) (made : ℕ → ScriptStep) → ((rank : ℕ) → rank < 1024 → SpellsStep (verb ++ 32 ∷ decimal rank) (made rank)) → Reads verb (rank_alone made)
alone_found verb made spells fields step e =
    let r = rank_found made fields step e in rw r.3 (subst (SpellsStep (verb ++ 32 ∷ decimal r.0)) r.1 (spells r.0 r.2))

finished_found : Reads (codes "finish") finished_of
finished_found = alone_found (codes "finish") Finished (λ rank h. (h, refl))

failed_found : Reads (codes "fail") read_failed
failed_found = alone_found (codes "fail") Failed (λ rank h. (h, refl))

no_verb : (line : List ℕ) (step : ScriptStep) → (let r : Result ScriptStep LineKind = Err Verb in r) ≡ Ok step → SpellsStep line step
no_verb line step e = absurd cc

read_from : (word : List ℕ) (fields : Option (List ℕ)) (step : ScriptStep) → step_from (word, fields) ≡ Ok step → SpellsStep (joined word fields) step
read_from word fields step e = verb_found SpellsStep word (codes "call") fields read_asked _ step asked_found
    (verb_found SpellsStep word (codes "step") fields stepped_of _ step stepped_found
    (verb_found SpellsStep word (codes "before") fields before_of _ step before_found
    (verb_found SpellsStep word (codes "finish") fields finished_of _ step finished_found
    (verb_found SpellsStep word (codes "fail") fields read_failed _ step failed_found (no_verb (joined word fields) step))))) e

read_is_step : (line : List ℕ) (step : ScriptStep) → step_line_of line ≡ Ok step → SpellsStep line step
unfolding step_line_of
read_is_step line step e = subst (λ (t : List ℕ). SpellsStep t step) (joined_word line) (read_from (first_word line).0 (first_word line).1 step e)

-- what is read is spelled so
pub steps_found : (line : List ℕ) (r : Result ScriptStep LineKind) → r ≡ step_line_of line → IfOk r (λ step. SpellsStep line step)
steps_found line (Ok step) e = read_is_step line step (sym e)
steps_found line (Err kind) e = tt

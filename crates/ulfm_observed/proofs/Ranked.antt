-- Tables of what is kept of each rank, as lines are taken.
use Rattle.std.proofs.Common.{◌≡◌, ◌<◌, ◌≤◌, ◌+◌, ℕ, Bool, false, List, [], ◌∷◌, drop, length, map, sym, ap, subst, ◌∙◌, arith, inl, inr}
use Rattle.std.proofs.Common.{replicate, zero, suc}
use Rattle.std.specs.Prelude.{filter, get_or}
use Rattle.std.proofs.lemmas.Bool.{cases_Bool, cases_lt}
use Rattle.std.proofs.lemmas.List.{get_or-replicate, get_or_past, length-replicate}
use Rattle.ulfm_model.specs.declared.event.Caller.TheVariants.{Rank}
use Rattle.ulfm_observed.specs.declared.{log.LogLine.{LogLine}, shows.Whose.TheVariants.{Of}}
use Rattle.ulfm_observed.specs.declared.{stages.Stage.{Stage}, stages.Stage.TheVariants.{Idle}, step.Step.{Step}}
use Rattle.ulfm_observed.specs.{Explains.{is_heard_by}, LogTexts.{Heard, heard_of}}
use Rattle.ulfm_observed.specs.Stages.{shown_of, stage_after}
use Rattle.ulfm_observed.specs.Walked.{StagesGoOn, left_of, of_callers}
use Rattle.ulfm_observed.proofs.Showing.{heard_passed}
use Rattle.ulfm_observed.proofs.Walks.{kept_first, left_from, passed_first}

-- A list with an element isn't empty.
nonempty : {X : Type 0} (x : X) (xs : List X) → x ∷ xs ≡ [] → ⊥
nonempty x xs e = cc

-- Where nothing of a list passes a test, nothing behind its first element does.
none_next : {X : Type 0} (p : X → Bool) (x : X) (xs : List X) → filter p (x ∷ xs) ≡ [] → filter p xs ≡ []
none_next p x xs none = elim (cases_Bool (p x)) [
  | inl passes ↦ absurd (nonempty x (filter p xs) (sym (kept_first p x xs passes) ∙ none))
  | inr fails ↦ sym (passed_first p x xs fails) ∙ none
]

-- Where nothing of a list passes a test, nothing of its end does.
pub none_behind : {X : Type 0} (p : X → Bool) (n : ℕ) (xs : List X) → filter p xs ≡ [] → filter p (drop n xs) ≡ []
none_behind p zero xs none = none
none_behind p (suc n) [] none = none
none_behind p (suc n) (x ∷ xs) none = none_behind p n xs (none_next p x xs none)

-- Nothing is left of any rank where nothing is of those below a bound, and the others have no line.
pub nothing_left : (log : List Heard) (places : List ℕ) (bound : ℕ) → ((r : ℕ) → bound ≤ r → of_callers (Of (Rank r)) log ≡ [])
    → ((r : ℕ) → r < bound → left_of (Of (Rank r)) log (get_or places r 0) ≡ []) → (r : ℕ) → left_of (Of (Rank r)) log (get_or places r 0) ≡ []
nothing_left log places bound above below r = elim (cases_lt r bound) [
  | inl lt ↦ below r lt
  | inr le ↦ none_behind (λ (h : Heard). is_heard_by (Of (Rank r)) h.item) (get_or places r 0) log (above r le)
]

-- A bound stays one where it is above the rank of the next line too.
pub bound_stays : {A : Type 0} (lines : List (LogLine A)) (i bound next : ℕ) (x : LogLine A) → i < length lines → x ≡ get_or lines i x → bound ≤ next
    → ((r : ℕ) → next ≤ r → is_heard_by (Of (Rank r)) x.item ≡ false)
    → ((r : ℕ) → bound ≤ r → of_callers (Of (Rank r)) (map heard_of lines) ≡ left_of (Of (Rank r)) (map heard_of lines) i)
    → (r : ℕ) → next ≤ r → of_callers (Of (Rank r)) (map heard_of lines) ≡ left_of (Of (Rank r)) (map heard_of lines) (i + 1)
bound_stays lines i bound next x lt is grows above before r le =
    before r (omega arith) ∙ heard_passed (Of (Rank r)) lines i x lt is (above r le)

-- What is left of an explanation takes a rank on from the stage behind a line as from the stage before it.
pub stages_go_on : {B : Type 0} (steps : List (Step B)) (i : ℕ) (step : Step B) (lost : List Bool) (stages now : List Stage) (r : ℕ)
    → i < length steps → step ≡ get_or steps i step → StagesGoOn lost (shown_of step) stages now
    → stage_after r (get_or lost r false) (get_or now r Idle) (map shown_of (drop (i + 1) steps))
    ≡ stage_after r (get_or lost r false) (get_or stages r Idle) (map shown_of (drop i steps))
stages_go_on {B} steps i step lost stages now r lt is goes =
    ap (λ (s : Stage). stage_after r (get_or lost r false) s (map shown_of (drop (i + 1) steps))) (goes r)
    ∙ sym (ap (λ (ys : List (Step B)). stage_after r (get_or lost r false) (get_or stages r Idle) (map shown_of ys)) (left_from steps i step lt is))

-- A table that has one value everywhere has it for every rank.
pub one_everywhere : {X : Type 0} (n : ℕ) (x : X) (r : ℕ) → get_or (replicate n x) r x ≡ x
one_everywhere n x r = elim (cases_lt r n) [
  | inl within ↦ get_or-replicate n r x x within
  | inr past ↦ get_or_past (replicate n x) r x (subst (λ (m : ℕ). m ≤ r) (sym (length-replicate n x)) past)
]

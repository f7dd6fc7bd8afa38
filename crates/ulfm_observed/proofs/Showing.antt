-- What is left of a log and of an explanation, as both are walked.
use Rattle.std.proofs.Common.{◌≡◌, ◌<◌, ◌≤◌, ◌+◌, ℕ, Bool, true, false, List, [], ◌∷◌, drop, length, map, sym, ap, subst, ◌∙◌}
use Rattle.std.specs.Prelude.{Some, filter, get_or}
use Rattle.std.proofs.lemmas.List.{drop_all}
use Rattle.ulfm_observed.specs.declared.{log.LogLine.{LogLine}, shows.Whose.{Whose}, step.Step.{Step}}
use Rattle.ulfm_observed.specs.{Explains.{AreHeard, IsHeard, is_heard_by, is_shown_by}, LogTexts.{Heard, heard_of}, Stages.{Shown, shown_of}}
use Rattle.ulfm_observed.specs.Walked.{GoesOn, NextIs, left_of, of_callers}
use Rattle.ulfm_observed.proofs.Walks.{kept_first, left_from, mapped_from, passed_first}

-- what is left of an explanation, as these callers see it
abbrev pub shown_left : {B : Type 0} → Whose → List (Step B) → ℕ → List Shown
shown_left whose steps i = filter (is_shown_by whose) (map shown_of (drop i steps))

-- Whether a line is one of theirs, where it was read from a log.
pub heard_there : {A : Type 0} (whose : Whose) (x y : LogLine A) (b : Bool) → x ≡ y → is_heard_by whose y.item ≡ b → is_heard_by whose x.item ≡ b
heard_there {A} whose x y b same there = ap (λ (z : LogLine A). is_heard_by whose z.item) same ∙ there

-- A line of others changes nothing of what is left of theirs.
pub heard_passed : {A : Type 0} (whose : Whose) (lines : List (LogLine A)) (i : ℕ) (x : LogLine A) → i < length lines → x ≡ get_or lines i x
    → is_heard_by whose x.item ≡ false → left_of whose (map heard_of lines) i ≡ left_of whose (map heard_of lines) (i + 1)
heard_passed whose lines i x lt is others =
    ap (of_callers whose) (mapped_from heard_of lines i x lt is)
    ∙ passed_first (λ (h : Heard). is_heard_by whose h.item) (heard_of x) (drop (i + 1) (map heard_of lines)) others

-- a first line, with those behind it that these callers see
abbrev first_of : Whose → List Heard → List Heard
first_of whose [] = []
first_of whose (heard ∷ rest) = heard ∷ of_callers whose rest

-- What is left of theirs in a log begins with their next line.
pub heard_next : {A : Type 0} (whose : Whose) (lines : List (LogLine A)) (at next : ℕ) (x : LogLine A) → next < length lines → x ≡ get_or lines next x
    → NextIs whose (map heard_of lines) at (Some next)
    → left_of whose (map heard_of lines) at ≡ heard_of x ∷ left_of whose (map heard_of lines) (next + 1)
heard_next whose lines at next x lt is n =
    n.3 ∙ sym (ap (first_of whose) n.2) ∙ ap (first_of whose) (mapped_from heard_of lines next x lt is)

-- Their next line leads them behind it.
pub goes_behind : {A : Type 0} (whose : Whose) (lines : List (LogLine A)) (shown : Shown) (at next : ℕ) (x : LogLine A)
    → next < length lines → x ≡ get_or lines next x → NextIs whose (map heard_of lines) at (Some next) → is_shown_by whose shown ≡ true
    → IsHeard x.item shown.told.line → x.group.items ≡ shown.told.group → GoesOn whose (map heard_of lines) shown at (next + 1)
goes_behind whose lines shown at next x lt is found theirs same group = λ ts rest.
    subst (λ (hs : List Heard). AreHeard hs (filter (is_shown_by whose) (shown ∷ ts))) (sym (heard_next whose lines at next x lt is found))
    (subst (λ (ys : List Shown). AreHeard (heard_of x ∷ left_of whose (map heard_of lines) (next + 1)) ys)
    (sym (kept_first (is_shown_by whose) shown ts theirs)) (same, (group, rest)))

-- Where nothing is left of theirs in both, what is left agrees.
pub both_end : {B : Type 0} (whose : Whose) (log : List Heard) (steps : List (Step B)) (at i : ℕ) → length steps ≤ i → left_of whose log at ≡ []
    → AreHeard (left_of whose log at) (shown_left whose steps i)
both_end {B} whose log steps at i few none =
    subst (λ (hs : List Heard). AreHeard hs (shown_left whose steps i)) (sym none)
    (subst (λ (ys : List (Step B)). AreHeard [] (filter (is_shown_by whose) (map shown_of ys))) (sym (drop_all i steps few)) tt)

-- Where a line leads them on, what is left of both has only to agree behind it.
pub steps_on : {B : Type 0} (whose : Whose) (log : List Heard) (steps : List (Step B)) (i at now : ℕ) (step : Step B)
    → i < length steps → step ≡ get_or steps i step → GoesOn whose log (shown_of step) at now
    → AreHeard (left_of whose log now) (shown_left whose steps (i + 1)) → AreHeard (left_of whose log at) (shown_left whose steps i)
steps_on {B} whose log steps i at now step lt is goes rest =
    subst (λ (ys : List (Step B)). AreHeard (left_of whose log at) (filter (is_shown_by whose) (map shown_of ys)))
    (sym (left_from steps i step lt is)) (goes (map shown_of (drop (i + 1) steps)) rest)

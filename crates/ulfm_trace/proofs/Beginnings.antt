-- The first lines of a text, and what they say of the whole.
use Rattle.std.proofs.Common.{◌≡◌, ◌⊎◌, ℕ, zero, suc, ◌-◌, ◌<◌, ◌≤◌, ◌==◌, Bool, true, false, if◌then◌else◌, List, [], ◌∷◌, ◌++◌, length, take, drop, refl, sym, ap, subst, ◌∙◌, arith, inl, inr, length-append}
use Rattle.std.proofs.lemmas.{Bool.{cases_lt}, List.{length-take, take-append-drop}}
use Rattle.std.proofs.Math.Seq.{take-append_seam}
use Rattle.ulfm_laws.specs.{Flags.{flag_meld}}
use Rattle.ulfm_model.specs.declared.limits.Limits.{Limits}
use Rattle.ulfm_script.specs.Scripts.{lines_from, rest_from}
use Rattle.ulfm_model.specs.declared.line.{Why.{Why}, Why.TheVariants.{Text}}
use Rattle.ulfm_model.specs.Traces.{IsLegalTrace, nothing, said_by}
use Rattle.ulfm_model.proofs.Parts.{legal_parts}
use Rattle.ulfm_trace.specs.Texts.{AreTold, BreaksOff, IsBadNext, IsFirstBad, IsLegalText, LacksHeader, Tell, TraceLines, first_lines}
use Rattle.ulfm_trace.specs.Laws.{TextsHaveOneVerdict}
use Rattle.ulfm_trace.proofs.Verdicts.{has_header, legal_stays, never_text, one_verdict, some_bad}

-- one byte, by whether it is a newline
lines_by : (ends : Bool) (n : ℕ) (front xs : List ℕ) (x : ℕ) → lines_from [] (first_lines n xs) ≡ take n (lines_from [] xs)
    → lines_from (front ++ x ∷ []) (first_lines (suc n) xs) ≡ take (suc n) (lines_from (front ++ x ∷ []) xs)
    → (if ends then front ∷ lines_from [] (if ends then first_lines n xs else first_lines (suc n) xs) else lines_from (front ++ x ∷ []) (if ends then first_lines n xs else first_lines (suc n) xs))
    ≡ take (suc n) (if ends then front ∷ lines_from [] xs else lines_from (front ++ x ∷ []) xs)
lines_by true n front xs x h k = ap (λ (t : List (List ℕ)). front ∷ t) h
lines_by false n front xs x h k = k

-- the first lines of a text have the first of its lines
lines_first : (n : ℕ) (front xs : List ℕ) → lines_from front (first_lines n xs) ≡ take n (lines_from front xs)
lines_first zero front xs = refl
lines_first (suc n) front [] = refl
lines_first (suc n) front (x ∷ xs) = lines_by (x == 10) n front xs x (lines_first n [] xs) (lines_first (suc n) (front ++ x ∷ []) xs)

rest_by : (ends : Bool) (n : ℕ) (front xs : List ℕ) (x : ℕ) → (n ≤ length (lines_from [] xs) → rest_from [] (first_lines n xs) ≡ [])
    → (suc n ≤ length (lines_from (front ++ x ∷ []) xs) → rest_from (front ++ x ∷ []) (first_lines (suc n) xs) ≡ [])
    → suc n ≤ length (if ends then front ∷ lines_from [] xs else lines_from (front ++ x ∷ []) xs)
    → (if ends then rest_from [] (if ends then first_lines n xs else first_lines (suc n) xs) else rest_from (front ++ x ∷ []) (if ends then first_lines n xs else first_lines (suc n) xs)) ≡ []
rest_by true n front xs x h k few = h (omega (arith, few))
rest_by false n front xs x h k few = k few

-- nothing stands behind them
rest_first : (n : ℕ) (front xs : List ℕ) → (n ≡ 0 → front ≡ []) → n ≤ length (lines_from front xs) → rest_from front (first_lines n xs) ≡ []
rest_first zero front xs none few = none refl
rest_first (suc n) front [] none few = absurd (omega (arith, few))
rest_first (suc n) front (x ∷ xs) none few =
    rest_by (x == 10) n front xs x (rest_first n [] xs (λ e. refl)) (rest_first (suc n) (front ++ x ∷ []) xs (λ e. absurd (omega (arith, e)))) few

whole_by : (ends : Bool) (n : ℕ) (front xs : List ℕ) (x : ℕ) → (length (lines_from [] xs) < n → first_lines n xs ≡ xs)
    → (length (lines_from (front ++ x ∷ []) xs) < suc n → first_lines (suc n) xs ≡ xs)
    → length (if ends then front ∷ lines_from [] xs else lines_from (front ++ x ∷ []) xs) < suc n
    → (if ends then first_lines n xs else first_lines (suc n) xs) ≡ xs
whole_by true n front xs x h k few = h (omega (arith, few))
whole_by false n front xs x h k few = k few

-- a text with fewer lines is all of them
whole_first : (n : ℕ) (front xs : List ℕ) → length (lines_from front xs) < n → first_lines n xs ≡ xs
whole_first zero front xs few = absurd (omega (arith, few))
whole_first (suc n) front [] few = refl
whole_first (suc n) front (x ∷ xs) few =
    ap (λ (t : List ℕ). x ∷ t) (whole_by (x == 10) n front xs x (whole_first n [] xs) (whole_first (suc n) (front ++ x ∷ []) xs) few)

told_first : (n : ℕ) (texts : List (List ℕ)) (trace : TraceLines) → AreTold texts trace → AreTold (take n texts) (take n trace)
told_first zero texts trace told = tt
told_first (suc n) [] [] told = tt
told_first (suc n) [] (first ∷ trace) told = absurd told
told_first (suc n) (text ∷ texts) [] told = absurd told
told_first (suc n) (text ∷ texts) (first ∷ trace) told = (told.0, told_first n texts trace told.1)

legal_first : (n : ℕ) (limits : Limits) (trace : TraceLines) → IsLegalTrace flag_meld limits trace → IsLegalTrace flag_meld limits (take n trace)
legal_first n limits trace legal =
    (legal_parts flag_meld (nothing limits) (take n trace) (drop n trace) (subst (λ (t : TraceLines). IsLegalTrace flag_meld limits t) (sym (take-append-drop n trace)) legal)).0

-- the first of a legal trace's lines are one
tell_first : (n : ℕ) (lines : List (List ℕ)) (limits : Limits) (trace : TraceLines) → Tell lines limits trace → Tell (take (suc n) lines) limits (take n trace)
tell_first n lines limits trace t = record {
  header = t.header;
  texts = take n t.texts;
  lines_are = ap (λ (ls : List (List ℕ)). take (suc n) ls) t.lines_are;
  few = omega (arith, t.few, length-take (suc n) lines);
  is_header = t.is_header;
  told = told_first n t.texts trace t.told;
  legal = legal_first n limits trace t.legal;
}

-- a text's first lines, which it has
legal_lines : (n : ℕ) (text : List ℕ) (limits : Limits) (trace : TraceLines) → n ≤ length (lines_from [] text) → Tell (take n (lines_from [] text)) limits trace → IsLegalText (first_lines n text)
legal_lines n text limits trace few t = (
  limits,
  trace,
  subst (λ (ls : List (List ℕ)). Tell ls limits trace) (sym (lines_first n [] text)) t,
  rest_first n [] text (λ e. refl) few,
)

-- whole first lines of a legal text are one
legal_beginnings : (text : List ℕ) (n : ℕ) → 0 < n → IsLegalText text → IsLegalText (first_lines n text)
legal_beginnings text zero some legal = absurd (omega (arith, some))
legal_beginnings text (suc n) some legal = elim (cases_lt (length (lines_from [] text)) (suc n)) [
  | inl fewer ↦ subst IsLegalText (sym (whole_first (suc n) [] text fewer)) legal
  | inr few ↦ legal_lines (suc n) text legal.0 (take n legal.1) (omega (arith, few)) (tell_first n (lines_from [] text) legal.0 legal.1 legal.2)
]

-- a legal text is no text that breaks off
legal_breaks : (text : List ℕ) (cut : List ℕ) (n : ℕ) (why : Why) (lines : List (List ℕ)) → IsLegalText text → lines_from [] text ≡ lines → BreaksOff lines cut n why → cut ≡ [] → ⊥
legal_breaks text cut n why lines legal e b none =
    legal_stays lines cut n why legal.0 legal.1 (subst (λ (ls : List (List ℕ)). Tell ls legal.0 legal.1) e legal.2) none b

-- the lines before a line
before_first : (before behind : List (List ℕ)) → take (length before) (before ++ behind) ≡ before
before_first before behind = take-append_seam before behind

one_more : (before behind : List (List ℕ)) (text : List ℕ) → take (suc (length before)) (before ++ text ∷ behind) ≡ before ++ text ∷ []
one_more [] behind text = refl
one_more (x ∷ before) behind text = ap (λ (ts : List (List ℕ)). x ∷ ts) (one_more before behind text)

-- with the bad line they aren't legal
after_break : (text : List ℕ) (n : ℕ) (why : Why) (before behind : List (List ℕ)) (limits : Limits) (trace : TraceLines) → lines_from [] text ≡ before ++ behind → Tell before limits trace → n ≡ suc (length before)
    → IsBadNext (said_by (nothing limits) trace) n behind (rest_from [] text) why → IsLegalText (first_lines n text) → ⊥
after_break text n why before [] limits trace e t k bad legal =
    let fewer : length (lines_from [] text) < n = omega (arith, ap length e, length-append before [], k) in
    let whole = subst IsLegalText (whole_first n [] text fewer) legal in bad.1 whole.3
after_break text n why before (x ∷ behind) limits trace e t k bad legal =
    let f = first_lines n text in
    let lines_are : lines_from [] f ≡ before ++ x ∷ [] =
    lines_first n [] text ∙ ap (λ m. take m (lines_from [] text)) k ∙ ap (λ (ls : List (List ℕ)). take (suc (length before)) ls) e ∙ one_more before behind x in
    legal_breaks f (rest_from [] f) n why (before ++ x ∷ []) legal lines_are
    (record { before = before; behind = x ∷ []; lines_are = refl; limits = limits; trace = trace; tell = t; number_is = omega (arith, k); bad = bad }) legal.3

-- the lines before it are
before_break : (text : List ℕ) (n : ℕ) (before behind : List (List ℕ)) (limits : Limits) (trace : TraceLines) → lines_from [] text ≡ before ++ behind → Tell before limits trace → n - 1 ≡ length before
    → IsLegalText (first_lines (n - 1) text)
before_break text n before behind limits trace e t k =
    let m = length before in
    let few : m ≤ length (lines_from [] text) = omega (arith, ap length e, length-append before behind) in
    let same : take m (lines_from [] text) ≡ before = ap (λ (ls : List (List ℕ)). take m ls) e ∙ before_first before behind in
    subst (λ i. IsLegalText (first_lines i text)) (sym k)
    (legal_lines m text limits trace few (subst (λ (ls : List (List ℕ)). Tell ls limits trace) (sym same) t))

lacks_one : (lines : List (List ℕ)) → LacksHeader lines → LacksHeader (take 1 lines)
lacks_one [] lacks = tt
lacks_one (text ∷ lines) lacks = lacks

no_legal_line : (text : List ℕ) (n : ℕ) → n ≡ 1 → LacksHeader (lines_from [] text) → IsLegalText (first_lines n text) → ⊥
no_legal_line text n one lacks legal =
    let first = subst (λ i. IsLegalText (first_lines i text)) one legal in
    let t = first.2 in
    has_header (lines_from [] (first_lines 1 text)) t.header t.texts first.0 t.lines_are t.is_header
    (subst LacksHeader (sym (lines_first 1 [] text)) (lacks_one (lines_from [] text) lacks))

exact_line : (text : List ℕ) (n : ℕ) (why : Why) → IsFirstBad text n why → ((n ≡ 1) ⊎ IsLegalText (first_lines (n - 1) text)) × ¬ IsLegalText (first_lines n text)
exact_line text n why (inl first) = (inl first.0, no_legal_line text n first.0 first.2)
exact_line text n why (inr b) =
    let before_is : n - 1 ≡ length b.before = omega (arith, b.number_is) in
    let number_is : n ≡ suc (length b.before) = omega (arith, b.number_is) in (
      inr (before_break text n b.before b.behind b.limits b.trace b.lines_are b.tell before_is),
      after_break text n why b.before b.behind b.limits b.trace b.lines_are b.tell number_is b.bad,
    )

legal_apart : (text : List ℕ) (number : ℕ) (why : Why) → IsFirstBad text number why → IsLegalText text → ⊥
legal_apart text number why (inl first) legal =
    has_header (lines_from [] text) legal.2.header legal.2.texts legal.0 legal.2.lines_are legal.2.is_header first.2
legal_apart text number why (inr b) legal = legal_breaks text (rest_from [] text) number why (lines_from [] text) legal refl b legal.3

bad_somewhere : (text : List ℕ) → ¬ IsLegalText text → ((number : ℕ) (why : Why) → ¬ IsFirstBad text number why) → ⊥
bad_somewhere text not_legal none =
    some_bad (lines_from [] text) (rest_from [] text) (λ limits trace t e. not_legal (limits, trace, t, e)) (λ lacks. none 1 Text (inl (refl, refl, lacks)))
    (λ number why b. none number why (inr b))

pub one_law : TextsHaveOneVerdict
one_law = record {
  once = λ text. record {
    apart = legal_apart text;
    some = bad_somewhere text;
    one = one_verdict text;
    exact = exact_line text;
    beginnings = legal_beginnings text;
  };
  of_grammar = never_text;
}

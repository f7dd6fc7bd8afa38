-- What a text asks for, line after line.
use Rattle.std.proofs.Common.{◌≡◌, ◌⊎◌, ℕ, Bool, true, false, ◌==◌, if◌then◌else◌, ◌+◌, ◌<◌, ◌≤◌, List, [], ◌∷◌, ◌++◌, length, take, Some, None, Result, Ok, Err, refl, sym, ap, ◌∙◌, append_assoc, arith, inl, inr, length-append}
use Rattle.std.proofs.lemmas.{Bool.{ne_eqb, lt-ltb, le-ltb, cases_lt}, List.{append-nil, take_all, length-take}}
use Rattle.ulfm_script.specs.declared.{heading.Heading.{Heading}, version.Version.{Version}}
use Rattle.ulfm_script.specs.declared.line_kind.LineKind.{LineKind}
use Rattle.ulfm_script.specs.declared.line_kind.LineKind.TheVariants.{Cut, Header}
use Rattle.ulfm_script.specs.{Buffers.{HasNoNewline}, Scripts.{Parsed, Language, Script, asked_by, asked_last, asked_then, header_at, item_at, lines_from, no_lines, rest_from, script_by, script_of, stopped, with_header, without_header}, Written.{IsBeginning}}

-- what a text asks for whose first line has this number, in a script of this version
abbrev pub asked_from : (lang : Language) → Version → ℕ → List ℕ → Parsed lang.Item
asked_from lang version number text = asked_by lang version number (lines_from [] text) (rest_from [] text)

-- a line up to its newline is the first of the lines behind it
pub lines_step : (front line rest : List ℕ) → HasNoNewline line → lines_from front (line ++ 10 ∷ rest) ≡ (front ++ line) ∷ lines_from [] rest
lines_step front [] rest h = rw append-nil refl
lines_step front (x ∷ xs) rest h = rw (ne_eqb x 10 h.0) (lines_step (front ++ x ∷ []) xs rest h.1 ∙ ap (λ (t : List ℕ). t ∷ lines_from [] rest) (append_assoc front (x ∷ []) xs))

-- what is left behind the last newline is left behind a line too
pub rest_step : (front line rest : List ℕ) → HasNoNewline line → rest_from front (line ++ 10 ∷ rest) ≡ rest_from [] rest
rest_step front [] rest h = refl
rest_step front (x ∷ xs) rest h = rw (ne_eqb x 10 h.0) (rest_step (front ++ x ∷ []) xs rest h.1)

-- a text without a newline has no whole line
pub lines_none : (front line : List ℕ) → HasNoNewline line → lines_from front line ≡ []
lines_none front [] h = refl
lines_none front (x ∷ xs) h = rw (ne_eqb x 10 h.0) (lines_none (front ++ x ∷ []) xs h.1)

-- and is left whole
pub rest_all : (front line : List ℕ) → HasNoNewline line → rest_from front line ≡ front ++ line
rest_all front [] h = sym (append-nil front)
rest_all front (x ∷ xs) h = rw (ne_eqb x 10 h.0) (rest_all (front ++ x ∷ []) xs h.1 ∙ append_assoc front (x ∷ []) xs)

-- a line may be told with what stands before it, or with what comes behind
pub regroup : (done line rest : List ℕ) → (done ++ (line ++ 10 ∷ [])) ++ rest ≡ done ++ (line ++ 10 ∷ rest)
regroup done line rest = append_assoc done (line ++ 10 ∷ []) rest ∙ ap (λ (t : List ℕ). done ++ t) (append_assoc line (10 ∷ []) rest)

-- the first 65 bytes of a line tell its item
pub kept_item : (lang : Language) (version : Version) (number : ℕ) (line : List ℕ) → item_at lang version number (take 65 line) ≡ item_at lang version number line
kept_item lang version number line = elim (cases_lt 64 (length line)) [
  | inl long ↦ rw (lt-ltb 64 (length line) long, lt-ltb 64 (length (take 65 line)) (omega (arith, length-take 65 line))) refl
  | inr short ↦ ap (item_at lang version number) (take_all 65 line (omega arith))
]

-- and what it gives as the first
pub kept_header : (lang : Language) (line : List ℕ) → header_at lang (take 65 line) ≡ header_at lang line
kept_header lang line = elim (cases_lt 64 (length line)) [
  | inl long ↦ rw (lt-ltb 64 (length line) long, lt-ltb 64 (length (take 65 line)) (omega (arith, length-take 65 line))) refl
  | inr short ↦ ap (header_at lang) (take_all 65 line (omega arith))
]

-- a line that is not too long, within the lines that a script may have, gives what its words give
pub plain_item : (lang : Language) (version : Version) (number : ℕ) (line : List ℕ) → length line ≤ 64 → number ≤ 100000 → item_at lang version number line ≡ lang.read version line
plain_item lang version number line h k = rw (le-ltb 64 (length line) h, le-ltb 100000 number k) refl

-- line 100,001 has no item
past_last : (lang : Language) (version : Version) (number : ℕ) (line : List ℕ) (item : lang.Item) → 100000 < number → item_at lang version number line ≡ Ok item → ⊥
past_last lang version number line item past = elim (cases_lt 64 (length line)) as (λ _. item_at lang version number line ≡ Ok item → ⊥) [
  | inl long ↦ rw (lt-ltb 64 (length line) long) (λ e. cc)
  | inr short ↦ rw (le-ltb 64 (length line) short, lt-ltb 100000 number past) (λ e. cc)
]

-- a line with an item stands within these lines
pub before_last : (lang : Language) (version : Version) (number : ℕ) (line : List ℕ) (item : lang.Item) → item_at lang version number line ≡ Ok item → number ≤ 100000
before_last lang version number line item e = elim (cases_lt 100000 number) [
  | inl past ↦ absurd (past_last lang version number line item past e)
  | inr fits ↦ fits
]

-- a script with these items so far
abbrev pub going : {X : Type 0} → Heading → List X → Parsed X → Script X
going heading items asked = record { heading = Some heading; items = items ++ asked.items; fault = asked.fault }

-- the script of every text that begins with done has this first line and these items, and goes on with the line of this number
abbrev pub Comes : (lang : Language) → List ℕ → Heading → List lang.Item → ℕ → Type 0
Comes lang done heading items number = (rest : List ℕ) → script_of lang (done ++ rest) ≡ going heading items (asked_from lang heading.version number rest)

line_next : (lang : Language) (version : Version) (number : ℕ) (line rest : List ℕ) → HasNoNewline line
    → asked_from lang version number (line ++ 10 ∷ rest) ≡ asked_then number (item_at lang version number line) (asked_from lang version (number + 1) rest)
line_next lang version number line rest h = rw (lines_step [] line rest h, rest_step [] line rest h) refl

-- a line more
pub line_comes : (lang : Language) (done line rest : List ℕ) (heading : Heading) (items : List lang.Item) (number : ℕ) (read : Result lang.Item LineKind)
    → Comes lang done heading items number → HasNoNewline line → item_at lang heading.version number (take 65 line) ≡ read
    → script_of lang ((done ++ (line ++ 10 ∷ [])) ++ rest) ≡ going heading items (asked_then number read (asked_from lang heading.version (number + 1) rest))
line_comes lang done line rest heading items number read so_far free e =
    ap (script_of lang) (regroup done line rest) ∙ so_far (line ++ 10 ∷ rest)
    ∙ ap (going heading items) (line_next lang heading.version number line rest free ∙ ap (λ (r : Result lang.Item LineKind). asked_then number r (asked_from lang heading.version (number + 1) rest)) (sym (kept_item lang heading.version number line) ∙ e))

-- a line with an item
pub comes_on : (lang : Language) (done line : List ℕ) (heading : Heading) (items : List lang.Item) (number : ℕ) (item : lang.Item)
    → Comes lang done heading items number → HasNoNewline line → item_at lang heading.version number (take 65 line) ≡ Ok item
    → Comes lang (done ++ (line ++ 10 ∷ [])) heading (items ++ item ∷ []) (number + 1)
comes_on lang done line heading items number item so_far free e rest =
    let asked = asked_from lang heading.version (number + 1) rest in
    let put : List lang.Item → Script lang.Item = λ all. record { heading = Some heading; items = all; fault = asked.fault } in
    line_comes lang done line rest heading items number (Ok item) so_far free e ∙ ap put (sym (append_assoc items (item ∷ []) asked.items))

-- a script that ends here
abbrev pub ended_script : {X : Type 0} → Heading → List X → Parsed X → Script X
ended_script heading items asked = record { heading = Some heading; items = items; fault = asked.fault }

last_items : {X : Type 0} (heading : Heading) (items : List X) (asked : Parsed X) → asked.items ≡ [] → going heading items asked ≡ ended_script heading items asked
last_items {X} heading items asked none =
    let put : List X → Script X = λ all. record { heading = Some heading; items = all; fault = asked.fault } in
    ap put (ap (λ (cs : List X). items ++ cs) none ∙ append-nil items)

-- the line of this number has a fault
pub comes_fault : (lang : Language) (done line rest : List ℕ) (heading : Heading) (items : List lang.Item) (number : ℕ) (kind : LineKind)
    → Comes lang done heading items number → HasNoNewline line → item_at lang heading.version number (take 65 line) ≡ Err kind
    → script_of lang ((done ++ (line ++ 10 ∷ [])) ++ rest) ≡ ended_script heading items (stopped number kind)
comes_fault lang done line rest heading items number kind so_far free e =
    line_comes lang done line rest heading items number (Err kind) so_far free e ∙ last_items heading items (stopped number kind) refl

-- the text ends
pub comes_end : (lang : Language) (done : List ℕ) (heading : Heading) (items : List lang.Item) (number : ℕ) → Comes lang done heading items number
    → script_of lang done ≡ ended_script heading items (asked_last number [])
comes_end lang done heading items number so_far =
    ap (script_of lang) (sym (append-nil done)) ∙ so_far [] ∙ last_items heading items (asked_last number []) refl

last_cut : (X : Type 0) (number : ℕ) (line : List ℕ) → 0 < length line → asked_last {X = X} number line ≡ stopped number Cut
last_cut X number [] h = absurd (omega arith)
last_cut X number (x ∷ xs) h = refl

cut_next : (lang : Language) (version : Version) (number : ℕ) (line : List ℕ) → HasNoNewline line → 0 < length line → asked_from lang version number line ≡ stopped number Cut
cut_next lang version number line free some = rw (lines_none [] line free, rest_all [] line free) (last_cut lang.Item number line some)

-- the text ends inside the line of this number
pub comes_cut : (lang : Language) (done line : List ℕ) (heading : Heading) (items : List lang.Item) (number : ℕ) → Comes lang done heading items number
    → HasNoNewline line → 0 < length line → script_of lang (done ++ line) ≡ ended_script heading items (stopped number Cut)
comes_cut lang done line heading items number so_far free some =
    so_far line ∙ ap (going heading items) (cut_next lang heading.version number line free some) ∙ last_items heading items (stopped number Cut) refl

first_next : (lang : Language) (line rest : List ℕ) → HasNoNewline line
    → script_of lang ((line ++ 10 ∷ []) ++ rest) ≡ with_header (header_at lang line) (λ version. asked_from lang version 2 rest)
unfolding script_of
first_next lang line rest h = rw (append_assoc line (10 ∷ []) rest, lines_step [] line rest h, rest_step [] line rest h) refl

-- behind a header
pub comes_first : (lang : Language) (line : List ℕ) (heading : Heading) → HasNoNewline line → header_at lang line ≡ Ok heading
    → Comes lang (line ++ 10 ∷ []) heading [] 2
comes_first lang line heading free e rest =
    first_next lang line rest free ∙ ap (λ (r : Result Heading LineKind). with_header r (λ version. asked_from lang version 2 rest)) e

-- a first line that is no header
pub comes_unopened : (lang : Language) (line rest : List ℕ) (kind : LineKind) → HasNoNewline line → header_at lang line ≡ Err kind
    → script_of lang ((line ++ 10 ∷ []) ++ rest) ≡ without_header kind
comes_unopened lang line rest kind free e =
    first_next lang line rest free ∙ ap (λ (r : Result Heading LineKind). with_header r (λ version. asked_from lang version 2 rest)) e

-- an empty text
pub no_header : (lang : Language) → script_of lang [] ≡ without_header Header
unfolding script_of
no_header lang = refl

first_cut : (X : Type 0) (line : List ℕ) → 0 < length line → no_lines {X = X} line ≡ without_header Cut
first_cut X [] h = absurd (omega arith)
first_cut X (x ∷ xs) h = refl

-- a text that ends inside its first line
pub header_cut : (lang : Language) (line : List ℕ) → HasNoNewline line → 0 < length line → script_of lang line ≡ without_header Cut
unfolding script_of
header_cut lang line free some = rw (lines_none [] line free, rest_all [] line free) (first_cut lang.Item line some)

-- the lines of a text, by those of its beginning
lines_at : (ends : Bool) (front xs rest : List ℕ) (x : ℕ) → lines_from [] (xs ++ rest) ≡ lines_from [] xs ++ lines_from (rest_from [] xs) rest → lines_from (front ++ x ∷ []) (xs ++ rest) ≡ lines_from (front ++ x ∷ []) xs ++ lines_from (rest_from (front ++ x ∷ []) xs) rest
    → (if ends then front ∷ lines_from [] (xs ++ rest) else lines_from (front ++ x ∷ []) (xs ++ rest))
    ≡ (if ends then front ∷ lines_from [] xs else lines_from (front ++ x ∷ []) xs) ++ lines_from (if ends then rest_from [] xs else rest_from (front ++ x ∷ []) xs) rest
lines_at true front xs rest x h k = ap (λ (t : List (List ℕ)). front ∷ t) h
lines_at false front xs rest x h k = k

lines_more : (front text rest : List ℕ) → lines_from front (text ++ rest) ≡ lines_from front text ++ lines_from (rest_from front text) rest
lines_more front [] rest = refl
lines_more front (x ∷ xs) rest = lines_at (x == 10) front xs rest x (lines_more [] xs rest) (lines_more (front ++ x ∷ []) xs rest)

-- what stands behind the last newline, by that of a text's beginning
rest_at_next : (ends : Bool) (front xs rest : List ℕ) (x : ℕ) → rest_from [] (xs ++ rest) ≡ rest_from (rest_from [] xs) rest
    → rest_from (front ++ x ∷ []) (xs ++ rest) ≡ rest_from (rest_from (front ++ x ∷ []) xs) rest
    → (if ends then rest_from [] (xs ++ rest) else rest_from (front ++ x ∷ []) (xs ++ rest))
    ≡ rest_from (if ends then rest_from [] xs else rest_from (front ++ x ∷ []) xs) rest
rest_at_next true front xs rest x h k = h
rest_at_next false front xs rest x h k = k

rest_more : (front text rest : List ℕ) → rest_from front (text ++ rest) ≡ rest_from (rest_from front text) rest
rest_more front [] rest = refl
rest_more front (x ∷ xs) rest = rest_at_next (x == 10) front xs rest x (rest_more [] xs rest) (rest_more (front ++ x ∷ []) xs rest)

-- one line
pub one_line : (line : List ℕ) → HasNoNewline line → lines_from [] (line ++ 10 ∷ []) ≡ line ∷ []
one_line line free = lines_step [] line [] free

pub one_line_whole : (line : List ℕ) → HasNoNewline line → rest_from [] (line ++ 10 ∷ []) ≡ []
one_line_whole line free = rest_step [] line [] free

-- a line behind whole lines
pub whole_on : (done line : List ℕ) → rest_from [] done ≡ [] → HasNoNewline line → rest_from [] (done ++ (line ++ 10 ∷ [])) ≡ []
whole_on done line whole free =
    rest_more [] done (line ++ 10 ∷ []) ∙ ap (λ (front : List ℕ). rest_from front (line ++ 10 ∷ [])) whole ∙ one_line_whole line free

pub count_on : (done line : List ℕ) (n : ℕ) → rest_from [] done ≡ [] → HasNoNewline line → length (lines_from [] done) + 1 ≡ n
    → length (lines_from [] (done ++ (line ++ 10 ∷ []))) + 1 ≡ n + 1
count_on done line n whole free count =
    let more : lines_from [] (done ++ (line ++ 10 ∷ [])) ≡ lines_from [] done ++ line ∷ [] =
    lines_more [] done (line ++ 10 ∷ [])
    ∙ ap (λ (front : List ℕ). lines_from [] done ++ lines_from front (line ++ 10 ∷ [])) whole
    ∙ ap (λ (ls : List (List ℕ)). lines_from [] done ++ ls) (one_line line free) in
    omega (arith, count, ap length more, length-append (lines_from [] done) (line ∷ []))

asked_last_items : (X : Type 0) (number : ℕ) (last : List ℕ) → (asked_last {X = X} number last).items ≡ []
asked_last_items X number [] = refl
asked_last_items X number (x ∷ last) = refl

none_begins : {X : Type 0} (front items : List X) → front ≡ [] → IsBeginning front items
none_begins {X} front items e = (items, ap (λ (t : List X). t ++ items) e)

then_begins : {X : Type 0} (number : ℕ) (read : Result X LineKind) (front all : Parsed X) → IsBeginning front.items all.items
    → IsBeginning (asked_then number read front).items (asked_then number read all).items
then_begins number (Err kind) front all h = ([], refl)
then_begins {X} number (Ok item) front all h = (h.0, ap (λ (t : List X). item ∷ t) h.1)

-- what lines ask for are the first items of these and more lines
asked_begins : (lang : Language) (version : Version) (number : ℕ) (lines more : List (List ℕ)) (last rest : List ℕ)
    → IsBeginning (asked_by lang version number lines last).items (asked_by lang version number (lines ++ more) rest).items
asked_begins lang version number [] more last rest =
    none_begins (asked_last {X = lang.Item} number last).items (asked_by lang version number more rest).items (asked_last_items lang.Item number last)
asked_begins lang version number (line ∷ lines) more last rest =
    then_begins number (item_at lang version number line) (asked_by lang version (number + 1) lines last) (asked_by lang version (number + 1) (lines ++ more) rest)
    (asked_begins lang version (number + 1) lines more last rest)

-- the script is that of a text with more behind it: without a header, or with the same one and the same first items
abbrev pub BeginsWith : {X : Type 0} → Script X → Script X → Type 0
BeginsWith front script = (front.heading ≡ None) ⊎ ((front.heading ≡ script.heading) × IsBeginning front.items script.items)

headers_begin : (lang : Language) (header : Result Heading LineKind) (lines more : List (List ℕ)) (last rest : List ℕ)
    → BeginsWith (with_header header (λ version. asked_by lang version 2 lines last)) (with_header header (λ version. asked_by lang version 2 (lines ++ more) rest))
headers_begin lang (Err kind) lines more last rest = inl refl
headers_begin lang (Ok heading) lines more last rest = inr (refl, asked_begins lang heading.version 2 lines more last rest)

no_lines_heading : (X : Type 0) (last : List ℕ) → (no_lines {X = X} last).heading ≡ None
no_lines_heading X [] = refl
no_lines_heading X (x ∷ last) = refl

scripts_begin : (lang : Language) (lines more : List (List ℕ)) (last rest : List ℕ)
    → BeginsWith (script_by lang lines last) (script_by lang (lines ++ more) rest)
scripts_begin lang [] more last rest = inl (no_lines_heading lang.Item last)
scripts_begin lang (line ∷ lines) more last rest = headers_begin lang (header_at lang line) lines more last rest

pub script_begins : (lang : Language) (text rest : List ℕ) → BeginsWith (script_of lang text) (script_of lang (text ++ rest))
unfolding script_of
script_begins lang text rest =
    rw (lines_more [] text rest)
    (scripts_begin lang (lines_from [] text) (lines_from (rest_from [] text) rest) (rest_from [] text) (rest_from [] (text ++ rest)))

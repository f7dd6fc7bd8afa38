-- Runs, line after line, of any kind of script.
use Rattle.std.proofs.Common.{◌≡◌, ℕ, ◌+◌, ◌<◌, ◌≤◌, List, [], ◌∷◌, ◌++◌, length, length-append, take, Option, Some, None, Result, Ok, Err, refl, sym, ap, subst, ◌∙◌, append_assoc, arith, inl, inr}
use Rattle.std.specs.{Prelude.{◌⊎◌, IfOk, IsErrAnd}, Io.KnownBytes.{Appends, Consumes, IsAtEnd, Keeps, prepend_known}}
use Rattle.std.proofs.KnownBytes.{prepend_known-nil}
use Rattle.std.proofs.lemmas.List.{append-nil}
use Rattle.ulfm_script.specs.declared.{heading.Heading.{Heading}}
use Rattle.ulfm_script.specs.declared.line_kind.LineKind.{LineKind}
use Rattle.ulfm_script.specs.declared.line_kind.LineKind.TheVariants.{Cut, Header}
use Rattle.ulfm_script.specs.declared.fault.RunFault.{RunFault}
use Rattle.ulfm_script.specs.declared.fault.RunFault.TheVariants.{Line, Memory, Read, Write}
use Rattle.ulfm_script.specs.{Buffers.{Drains, HasNoNewline, IsOfLine, Puts, TakesLine}, Written.{IsBeginning, IsBuffered, Outgoing, WritesPart}}
use Rattle.ulfm_script.specs.Ends.{Claim, EndsAlone, EndsThrough, EndsUpTo, FaultyRun, FindsFault, HasFault, HasRunAll, IsOpened, IsTextOf, KnownText, Opens, PrintsAll, PrintsFrom, PrintsSome, RunEnd, RunSoFar, RunsAll, RunsLine, Stage, StoppedRun, StopsInLine, StopsInOutput, TakesItem, TakesUpTo, WholeRun, line_at}
use Rattle.ulfm_script.specs.Scripts.{Parsed, Language, Script, asked_last, asked_then, header_at, item_at, lines_from, rest_from, script_of, stopped, without_header}
use Rattle.ulfm_script.proofs.ByteLemmas.{appends_start, appends_then, consumes_keeps, consumes_start, consumes_then, end_behind, taken_of_reader}
use Rattle.ulfm_script.proofs.ScriptLemmas.{BeginsWith, Comes, asked_from, before_last, comes_cut, comes_end, comes_fault, comes_first, comes_on, comes_unopened, count_on, ended_script, going, kept_header, line_comes, no_header, one_line, one_line_whole, plain_item, script_begins, whole_on}

-- a text that begins with what was taken
text_of : (a b : Option (List ℕ)) (done : List ℕ) → Consumes a b done → (rest : List ℕ) × IsTextOf a (done ++ rest)
text_of None b done h = ([], tt)
text_of (Some xs) None done h = absurd h
text_of (Some xs) (Some ys) done h = (ys, sym h)

-- all of it was taken
pub whole_text : (a b : Option (List ℕ)) (done : List ℕ) → Consumes a b done → IsAtEnd b → IsTextOf a done
whole_text None b done h e = tt
whole_text (Some xs) None done h e = absurd h
whole_text (Some xs) (Some ys) done h e = sym (h ∙ ap (λ (t : List ℕ). done ++ t) e ∙ append-nil done)

-- an output whose writer has this, where this waits
abbrev to : KnownText → List ℕ → Outgoing
to has waits = record { written = has; waiting = waits }

holds_nothing : (a : Option (List ℕ)) (waiting : List ℕ) → waiting ≡ [] → IsBuffered a (to a waiting) []
holds_nothing a waiting e = ([], appends_start a, e)

holds_then : (a b c : Option (List ℕ)) (v w out more : List ℕ) → IsBuffered a (to b v) out → IsBuffered b (to c w) (v ++ more) → IsBuffered a (to c w) (out ++ more)
holds_then a b c v w out more h k =
    (h.0 ++ k.0, appends_then a b c h.0 k.0 h.1 k.1, append_assoc h.0 k.0 w ∙ ap (λ (t : List ℕ). h.0 ++ t) k.2 ∙ sym (append_assoc h.0 v more) ∙ ap (λ (t : List ℕ). t ++ more) h.2)

holds_still : (a : Option (List ℕ)) (v : List ℕ) → IsBuffered a (to a v) v
holds_still a v = ([], appends_start a, refl)

holds_same : (a b c : Option (List ℕ)) (v w out : List ℕ) → IsBuffered a (to b v) out → IsBuffered b (to c w) v → IsBuffered a (to c w) out
holds_same a b c v w out h k = (h.0 ++ k.0, appends_then a b c h.0 k.0 h.1 k.1, append_assoc h.0 k.0 w ∙ ap (λ (t : List ℕ). h.0 ++ t) k.2 ∙ h.2)

holds_drained : (a b c : Option (List ℕ)) (w out : List ℕ) → IsBuffered a (to b w) out → Appends b c w → Appends a c out
holds_drained a b c w out h k = subst (λ (t : List ℕ). Appends a c t) h.2 (appends_then a b c h.0 w h.1 k)

holds_part : (a b c : Option (List ℕ)) (v out : List ℕ) → IsBuffered a (to b v) out → WritesPart b c v → WritesPart a c out
holds_part a b c v out h k =
    (h.0 ++ k.0, (k.1.0, append_assoc h.0 k.0 k.1.0 ∙ ap (λ (t : List ℕ). h.0 ++ t) k.1.1 ∙ h.2), appends_then a b c h.0 k.0 h.1 k.2)

-- bytes without a newline are of one line
of_line : (bytes : List ℕ) → HasNoNewline bytes → IsOfLine bytes
of_line bytes free = (bytes, free, (10 ∷ [], refl))

-- and so are those of a whole line
of_whole_line : (line : List ℕ) → HasNoNewline line → IsOfLine (line ++ 10 ∷ [])
of_whole_line line free = (line, free, ([], append-nil (line ++ 10 ∷ [])))

-- a text that begins with another one prints first what that one prints
from_beginning : (lang : Language) (front text out : List ℕ) → BeginsWith (script_of lang front) (script_of lang text) → PrintsAll lang front out
    → PrintsSome lang text out
from_beginning lang front text out (inl none) h =
    inl (subst (λ (heading : Option Heading). PrintsFrom lang heading (script_of lang front).items out) none h)
from_beginning lang front text out (inr more) h =
    let first = (script_of lang front).items in
    inr (first, more.1, subst (λ (heading : Option Heading). PrintsFrom lang heading first out) more.0 h)

-- what it has run prints what it has printed
abbrev pub Prints : (lang : Language) → Stage lang → Type 0
Prints lang HasRun = (heading : Heading) (items : List lang.Item) (out : List ℕ) → HasRun heading items out → lang.Prints heading.limits items out

-- a run that goes on: what was taken of the text asks for these items, what they print is written or waits, and the machine has run them
pub record Going (lang : Language) (HasRun : Stage lang) (known b old mid : KnownText) (v : List ℕ) (number : ℕ) : Type 0 where
  pub done : List ℕ
  pub ran : RunSoFar lang
  pub taken : Consumes known b done
  pub held : IsBuffered old (to mid v) ran.out
  pub comes : Comes lang done ran.heading ran.items number
  pub has_run : HasRun ran.heading ran.items ran.out
  pub prints : lang.Prints ran.heading.limits ran.items ran.out
  pub counted : number ≡ length ran.items + 2
  pub whole : rest_from [] done ≡ []
  pub lines : length (lines_from [] done) + 1 ≡ number

-- nothing behind the next line was taken
takes_next : (lang : Language) (HasRun : Stage lang) (known b c old mid : KnownText) (v part : List ℕ) (n m : ℕ) → Going lang HasRun known b old mid v n
    → m ≡ n → Consumes b c part → IsOfLine part → TakesUpTo m known c
takes_next lang HasRun known b c old mid v part n m i same q p = record {
  lines = i.done;
  part = part;
  taken = consumes_then known b c i.done part i.taken q;
  whole = i.whole;
  counted = i.lines ∙ sym same;
  partly = p;
}

-- nothing behind the first line was taken
pub takes_first : (a b : KnownText) (part : List ℕ) → Consumes a b part → IsOfLine part → TakesUpTo 1 a b
takes_first a b part q p = record { lines = []; part = part; taken = q; whole = refl; counted = refl; partly = p }

-- the items so far are the first ones of the script
some_printed : (lang : Language) (text out : List ℕ) (heading : Heading) (items : List lang.Item) (asked : Parsed lang.Item)
    → script_of lang text ≡ going heading items asked → lang.Prints heading.limits items out → PrintsSome lang text out
some_printed lang text out heading items asked e prints =
    let Printed : Script lang.Item → Type 0 = λ s. (out ≡ []) ⊎ ((first : List lang.Item) × IsBeginning first s.items × PrintsFrom lang s.heading first out) in
    let all : Printed (going heading items asked) = inr (items, (asked.items, refl), prints) in
    subst Printed (sym e) all

-- the items so far are all of the script
all_printed : (lang : Language) (text out : List ℕ) (heading : Heading) (items : List lang.Item) (asked : Parsed lang.Item)
    → script_of lang text ≡ ended_script heading items asked → lang.Prints heading.limits items out → PrintsAll lang text out
all_printed lang text out heading items asked e prints =
    let Printed : Script lang.Item → Type 0 = λ s. PrintsFrom lang s.heading s.items out in
    let all : Printed (ended_script heading items asked) = prints in
    subst Printed (sym e) all

-- the run stops inside the next line
stops_inside : (lang : Language) (HasRun : Stage lang) (known b c old mid new : KnownText) (v w part : List ℕ) (n : ℕ) (IsPart : Claim)
    → Going lang HasRun known b old mid v n → Consumes b c part → IsPart part → IsBuffered mid (to new w) v
    → StopsInLine lang known c IsPart (IsBuffered old (to new w))
stops_inside lang HasRun known b c old mid new v w part n IsPart i q p k =
    let e = comes_end lang i.done i.ran.heading i.ran.items n i.comes in
    let run : StoppedRun lang known c IsPart =
    record {
      lines = i.done;
      part = part;
      out = i.ran.out;
      taken = consumes_then known b c i.done part i.taken q;
      right = inr (ap (λ (s : Script lang.Item). s.fault) e);
      partly = p;
      printed = all_printed lang i.done i.ran.out i.ran.heading i.ran.items (asked_last n []) e i.prints;
    } in
    (run, holds_same old mid new v w i.ran.out i.held k)

-- the writer failed when this was to be written, which some first items of the text print
to_writer : (lang : Language) (known old mid new : KnownText) (w text out : List ℕ) → IsTextOf known text → PrintsSome lang text out
    → IsBuffered old (to mid w) out → WritesPart mid new w → StopsInOutput lang known (WritesPart old new)
to_writer lang known old mid new w text out whole printed held k =
    record { text = text; out = out; whole = whole; printed = printed; told = holds_part old mid new w out held k }

-- the writer failed
ended_by_writer : (lang : Language) (HasRun : Stage lang) (known b left old mid : KnownText) (v ahead : List ℕ) (n : ℕ)
    → Going lang HasRun known b old mid v n → (new : KnownText) (w : List ℕ) → WritesPart mid new v → EndsUpTo lang known left ahead old (to new w) (Err Write)
ended_by_writer lang HasRun known b left old mid v ahead n i new w k =
    let x = text_of known b i.done i.taken in
    let text = i.done ++ x.0 in
    to_writer lang known old mid new v text i.ran.out x.1
    (some_printed lang text i.ran.out i.ran.heading i.ran.items (asked_from lang i.ran.heading.version n x.0) (i.comes x.0) i.prints) i.held k

-- a line couldn't be read
pub ended_by_read : (lang : Language) (HasRun : Stage lang) (known b left old mid : KnownText) (v ahead kept : List ℕ) (n : ℕ) (fault : RunFault)
    → Going lang HasRun known b old mid v n → TakesLine 65 b (prepend_known ahead left) ahead kept (Err fault)
    → EndsUpTo lang known left ahead old (to mid v) (Err fault)
ended_by_read lang HasRun known b left old mid v ahead kept n Read i k =
    (stops_inside lang HasRun known b left old mid mid v v k.0 n HasNoNewline i (taken_of_reader b left ahead k.0 k.2 k.3) k.1 (holds_still mid v), k.2)
ended_by_read lang HasRun known b left old mid v ahead kept n Memory i k =
    stops_inside lang HasRun known b (prepend_known ahead left) old mid mid v v k.0 n IsOfLine i k.2 (of_line k.0 k.1) (holds_still mid v)
ended_by_read lang HasRun known b left old mid v ahead kept n Write i k = absurd k
ended_by_read lang HasRun known b left old mid v ahead kept n (Line m kind) i k = absurd k

-- there is no further line: the machine has run all of the text
pub ended_done : (lang : Language) (HasRun : Stage lang) (known b left old mid : KnownText) (v ahead : List ℕ) (n : ℕ)
    → Going lang HasRun known b old mid v n → Keeps b (prepend_known ahead left) → IsAtEnd (prepend_known ahead left)
    → EndsUpTo lang known left ahead old (to mid v) (Ok tt) × HasRunAll lang HasRun known (IsBuffered old (to mid v))
ended_done lang HasRun known b left old mid v ahead n i k z =
    let e = comes_end lang i.done i.ran.heading i.ran.items n i.comes in
    let c = prepend_known ahead left in
    let whole = whole_text known c i.done (consumes_keeps known b c i.done i.taken k) z in
    let run : WholeRun lang known None =
    record {
      text = i.done;
      out = i.ran.out;
      whole = whole;
      faults = ap (λ (s : Script lang.Item). s.fault) e;
      printed = all_printed lang i.done i.ran.out i.ran.heading i.ran.items (asked_last n []) e i.prints;
    } in (
      ((run, i.held), end_behind ahead left z),
      record {
        text = i.done;
        heading = i.ran.heading;
        items = i.ran.items;
        out = i.ran.out;
        whole = whole;
        script_is = e;
        has_run = i.has_run;
        told = i.held;
      },
    )

-- a fault that all texts with this beginning have
fault_told : (lang : Language) (known : KnownText) (text : List ℕ) (old new : KnownText) (w out : List ℕ) (heading : Heading) (items : List lang.Item)
    (n m : ℕ) (kind : LineKind) → IsTextOf known text → m ≡ n → script_of lang text ≡ ended_script heading items (stopped n kind)
    → lang.Prints heading.limits items out → IsBuffered old (to new w) out → RunsAll lang known (Some (m, kind)) (IsBuffered old (to new w))
fault_told lang known text old new w out heading items n m kind whole same e prints held =
    let run : WholeRun lang known (Some (m, kind)) =
    record {
      text = text;
      out = out;
      whole = whole;
      faults = ap (λ (s : Script lang.Item). s.fault) e ∙ ap (λ (k : ℕ). Some (k, kind)) (sym same);
      printed = all_printed lang text out heading items (stopped n kind) e prints;
    } in
    (run, held)

-- the text ends inside a line
pub ended_cut : (lang : Language) (HasRun : Stage lang) (known b left old mid : KnownText) (v ahead line : List ℕ) (n : ℕ)
    → Going lang HasRun known b old mid v n → HasNoNewline line → 0 < length line → Consumes b (prepend_known ahead left) line
    → IsAtEnd (prepend_known ahead left) → EndsUpTo lang known left ahead old (to mid v) (Err (Line n Cut))
ended_cut lang HasRun known b left old mid v ahead line n i free some q z =
    let c = prepend_known ahead left in
    let e = comes_cut lang i.done line i.ran.heading i.ran.items n i.comes free some in
    let whole = whole_text known c (i.done ++ line) (consumes_then known b c i.done line i.taken q) z in (
      inl (fault_told lang known (i.done ++ line) old mid v i.ran.out i.ran.heading i.ran.items n n Cut whole refl e i.prints i.held),
      takes_next lang HasRun known b c old mid v line n n i refl q (of_line line free),
    )

-- a fault that no line alone shows
fault_found : (lang : Language) (known : KnownText) (done line behind : List ℕ) (old new : KnownText) (w out : List ℕ) (heading : Heading)
    (items : List lang.Item) (n m : ℕ) (kind : LineKind) (item : lang.Item) → IsTextOf known ((done ++ (line ++ 10 ∷ [])) ++ behind)
    → Comes lang done heading items n → HasNoNewline line → item_at lang heading.version n (take 65 line) ≡ Ok item → m ≡ length items + 2
    → ((more : List lang.Item) → lang.Finds heading.limits (items ++ item ∷ more) (length items + 2) kind out) → lang.Prints heading.limits items out → IsBuffered old (to new w) out
    → FindsFault lang known m kind (IsBuffered old (to new w))
fault_found lang known done line behind old new w out heading items n m kind item whole comes free e same finds prints held =
    let text = (done ++ (line ++ 10 ∷ [])) ++ behind in
    let more = asked_from lang heading.version (n + 1) behind in
    let is : script_of lang text ≡ going heading items (asked_then n (Ok item) more) = line_comes lang done line behind heading items n (Ok item) comes free e in
    let found : lang.Finds heading.limits (items ++ item ∷ more.items) m kind out =
    subst (λ (k : ℕ). lang.Finds heading.limits (items ++ item ∷ more.items) k kind out) (sym same) (finds more.items) in
    let Found : Script lang.Item → Type 0 = λ s. lang.Finds heading.limits s.items m kind out in
    let there : Found (going heading items (asked_then n (Ok item) more)) = found in
    let run : FaultyRun lang known m kind =
    record {
      text = text;
      heading = heading;
      out = out;
      whole = whole;
      opened = ap (λ (s : Script lang.Item). s.heading) is;
      finds = subst Found (sym is) there;
      printed = some_printed lang text out heading items (asked_then n (Ok item) more) is prints;
    } in
    (run, held)

-- a line couldn't be run
pub ended_line : (lang : Language) (Before After : Stage lang) (known b left old mid new : KnownText) (v w ahead line shown kept : List ℕ) (n : ℕ)
    (fault : RunFault) (i : Going lang Before known b old mid v n) → HasNoNewline line → Consumes b (prepend_known ahead left) (line ++ 10 ∷ [])
    → shown ≡ kept → kept ≡ take 65 line
    → RunsLine lang After i.ran (line_at lang i.ran.heading.version n shown) (to mid v) (to new w) (Err fault) → EndsUpTo lang known left ahead old (to new w) (Err fault)
ended_line lang Before After known b left old mid new v w ahead line shown kept n Read i free q same e r = absurd r
ended_line lang Before After known b left old mid new v w ahead line shown kept n Memory i free q same e r =
    stops_inside lang Before known b (prepend_known ahead left) old mid new v w (line ++ 10 ∷ []) n IsOfLine i q (of_whole_line line free) r
ended_line lang Before After known b left old mid new v w ahead line shown kept n Write i free q same e r =
    ended_by_writer lang Before known b left old mid v ahead n i new w r
ended_line lang Before After known b left old mid new v w ahead line shown kept n (Line m kind) i free q same e r =
    let c = prepend_known ahead left in
    let x = text_of known c (i.done ++ (line ++ 10 ∷ [])) (consumes_then known b c i.done (line ++ 10 ∷ []) i.taken q) in
    let text = (i.done ++ (line ++ 10 ∷ [])) ++ x.0 in
    let seen : item_at lang i.ran.heading.version n (take 65 line) ≡ item_at lang i.ran.heading.version n shown = ap (item_at lang i.ran.heading.version n) (sym e) ∙ ap (item_at lang i.ran.heading.version n) (sym same) in
    let held = holds_same old mid new v w i.ran.out i.held r.2 in
    let fault : RunsAll lang known (Some (m, kind)) (IsBuffered old (to new w)) ⊎ FindsFault lang known m kind (IsBuffered old (to new w)) =
    elim r.1 [
      | inl own ↦
          (let o = comes_fault lang i.done line x.0 i.ran.heading i.ran.items n kind i.comes free (seen ∙ own) in
          inl (fault_told lang known text old new w i.ran.out i.ran.heading i.ran.items n m kind x.1 r.0 o i.prints held))
      | inr found ↦
          inr (fault_found lang known i.done line x.0 old new w i.ran.out i.ran.heading i.ran.items n m kind found.0 x.1 i.comes free (seen ∙ found.1)
          (r.0 ∙ i.counted) found.2 i.prints held)
    ] in
    (fault, takes_next lang Before known b c old mid v (line ++ 10 ∷ []) n m i r.0 q (of_whole_line line free))

-- a line was run
pub goes_on : (lang : Language) (Before After : Stage lang) (known b c old mid new : KnownText) (v w line shown kept : List ℕ) (n : ℕ)
    (i : Going lang Before known b old mid v n) → Prints lang After → HasNoNewline line → Consumes b c (line ++ 10 ∷ []) → shown ≡ kept
    → kept ≡ take 65 line → RunsLine lang After i.ran (line_at lang i.ran.heading.version n shown) (to mid v) (to new w) (Ok tt)
    → (n + 1 ≤ 100001) × Going lang After known c old new w (n + 1)
goes_on lang Before After known b c old mid new v w line shown kept n i told free q same e r =
    let item = r.1.0 in
    let few : n ≤ 100000 = before_last lang i.ran.heading.version n shown item r.1.1 in (
      omega (arith, few),
      record {
        done = i.done ++ (line ++ 10 ∷ []);
        ran = record { heading = i.ran.heading; items = i.ran.items ++ item ∷ []; out = i.ran.out ++ r.0 };
        taken = consumes_then known b c i.done (line ++ 10 ∷ []) i.taken q;
        held = holds_then old mid new v w i.ran.out r.0 i.held r.2;
        comes = comes_on lang i.done line i.ran.heading i.ran.items n item i.comes free (ap (item_at lang i.ran.heading.version n) (sym e) ∙ ap (item_at lang i.ran.heading.version n) (sym same) ∙ r.1.1);
        has_run = r.1.2;
        prints = told i.ran.heading (i.ran.items ++ item ∷ []) (i.ran.out ++ r.0) r.1.2;
        counted = omega (arith, i.counted, length-append i.ran.items (item ∷ []));
        whole = whole_on i.done line i.whole free;
        lines = count_on i.done line n i.whole free i.lines;
      },
    )

-- a line's item was run, and what it prints was put behind what waits
pub line_put : (lang : Language) (HasRun : Stage lang) (before : RunSoFar lang) (number : ℕ) (line text : List ℕ) (old new : Outgoing) (result : RunEnd)
    → length line ≤ 64 → number ≤ 100000 → TakesItem lang HasRun before (lang.read before.heading.version line) text (Ok tt)
    → Puts old.waiting old.written text new.waiting new.written result → RunsLine lang HasRun before (line_at lang before.heading.version number line) old new result
line_put lang HasRun before number line text old new (Ok done) short few took p =
    (text, (took.0, plain_item lang before.heading.version number line short few ∙ took.1, took.2), (p.0, p.2, sym p.1))
line_put lang HasRun before number line text old new (Err Memory) short few took p = (p.0, p.2, sym p.1)
line_put lang HasRun before number line text old new (Err Write) short few took p = p
line_put lang HasRun before number line text old new (Err Read) short few took p = absurd p
line_put lang HasRun before number line text old new (Err (Line m kind)) short few took p = absurd p

-- a line can't be run, and nothing was put
pub line_faulty : (lang : Language) (before : RunSoFar lang) (number : ℕ) (line : List ℕ) (kind : LineKind)
    → length line ≤ 64 → number ≤ 100000 → HasFault lang before (lang.read before.heading.version line) kind → HasFault lang before (item_at lang before.heading.version number line) kind
line_faulty lang before number line kind short few h =
    subst (λ (read : Result lang.Item LineKind). HasFault lang before read kind) (sym (plain_item lang before.heading.version number line short few)) h

-- a script without a header prints nothing
nothing_to_print : (lang : Language) (text : List ℕ) (kind : LineKind) → script_of lang text ≡ without_header kind → PrintsAll lang text []
nothing_to_print lang text kind e =
    let Printed : Script lang.Item → Type 0 = λ s. PrintsFrom lang s.heading s.items [] in
    let none : Printed (without_header kind) = refl in subst Printed (sym e) none

-- a run that stopped inside the first line
abbrev stopped_first : (lang : Language) (known left : KnownText) (part : List ℕ) (IsPart : Claim) → Consumes known left part → IsPart part → StoppedRun lang known left IsPart
stopped_first lang known left part IsPart q p = record {
  lines = [];
  part = part;
  out = [];
  taken = q;
  right = inl refl;
  partly = p;
  printed = nothing_to_print lang [] Header (no_header lang);
}

-- the run stops inside the first line
stops_first : (lang : Language) (known left old new : KnownText) (w part : List ℕ) (IsPart : Claim) → Consumes known left part → IsPart part
    → IsBuffered old (to new w) [] → StopsInLine lang known left IsPart (IsBuffered old (to new w))
stops_first lang known left old new w part IsPart q p held = (stopped_first lang known left part IsPart q p, held)

-- memory was refused before the first line
pub ended_at_once : (lang : Language) (left old : KnownText) (ahead w : List ℕ) → w ≡ []
    → EndsUpTo lang (prepend_known ahead left) left ahead old (to old w) (Err Memory)
ended_at_once lang left old ahead w none =
    let known = prepend_known ahead left in
    stops_first lang known known old old w [] IsOfLine (consumes_start known) (of_line [] tt) (holds_nothing old w none)

-- there is no machine
pub ended_unopened : {M : Type 0} (lang : Language) (HasRun : M → Stage lang) (text : M → List ℕ) (ahead : List ℕ) (known left old : KnownText)
    (w : List ℕ) (fault : RunFault) → w ≡ [] → Opens lang HasRun text known (prepend_known ahead left) ahead (Err fault)
    → EndsUpTo lang known left ahead old (to old w) (Err fault)
ended_unopened lang HasRun text ahead known left old w Memory e k =
    stops_first lang known (prepend_known ahead left) old old w k.0 IsOfLine k.2 k.1 (holds_nothing old w e)
ended_unopened lang HasRun text ahead known left old w Read e k =
    (stops_first lang known left old old w k.0 HasNoNewline (taken_of_reader known left ahead k.0 k.2 k.3) k.1 (holds_nothing old w e), k.2)
ended_unopened lang HasRun text ahead known left old w Write e k = absurd k
ended_unopened lang HasRun text ahead known left old w (Line m kind) e k =
    let run : WholeRun lang known (Some (m, kind)) =
    record {
      text = k.0;
      out = [];
      whole = k.1;
      faults = ap (λ (s : Script lang.Item). s.fault) k.3 ∙ ap (λ (n : ℕ). Some (n, kind)) (sym k.2);
      printed = nothing_to_print lang k.0 kind k.3;
    } in
    (inl (run, holds_nothing old w e), subst (λ (n : ℕ). TakesUpTo n known (prepend_known ahead left)) (sym k.2) k.4)

-- what a new machine prints couldn't be put
pub ended_first : (lang : Language) (HasRun : Stage lang) (known left old new : KnownText) (ahead text shown w rest : List ℕ) (fault : RunFault) → w ≡ []
    → IsOpened lang HasRun known (prepend_known ahead left) text → Puts w old shown rest new (Err fault)
    → EndsUpTo lang known left ahead old (to new rest) (Err fault)
ended_first lang HasRun known left old new ahead text shown w rest Memory e k p =
    stops_first lang known (prepend_known ahead left) old new rest (k.line ++ 10 ∷ []) IsOfLine k.taken (of_whole_line k.line k.free)
    (p.0, p.2, sym p.1 ∙ e)
ended_first lang HasRun known left old new ahead text shown w rest Write e k p =
    let x = text_of known (prepend_known ahead left) (k.line ++ 10 ∷ []) k.taken in
    record {
      text = (k.line ++ 10 ∷ []) ++ x.0;
      out = [];
      whole = x.1;
      printed = inl refl;
      told = subst (λ (bytes : List ℕ). WritesPart old new bytes) e p;
    }
ended_first lang HasRun known left old new ahead text shown w rest Read e k p = absurd p
ended_first lang HasRun known left old new ahead text shown w rest (Line m kind) e k p = absurd p

-- the first line couldn't be read
pub unopened_read : {M : Type 0} (lang : Language) (HasRun : M → Stage lang) (text : M → List ℕ) (old new : KnownText) (bytes kept : List ℕ) (fault : RunFault)
    → TakesLine 65 old new bytes kept (Err fault) → Opens lang HasRun text old new bytes (Err fault)
unopened_read lang HasRun text old new bytes kept Memory h = (h.0, of_line h.0 h.1, h.2)
unopened_read lang HasRun text old new bytes kept Read h = h
unopened_read lang HasRun text old new bytes kept Write h = h
unopened_read lang HasRun text old new bytes kept (Line m kind) h = absurd h

-- no machine could be opened, for want of memory
pub unopened_machine : {M : Type 0} (lang : Language) (HasRun : M → Stage lang) (text : M → List ℕ) (old new : KnownText) (bytes line : List ℕ)
    → HasNoNewline line → Consumes old new (line ++ 10 ∷ []) → Opens lang HasRun text old new bytes (Err Memory)
unopened_machine lang HasRun text old new bytes line free q = (line ++ 10 ∷ [], of_whole_line line free, q)

-- a machine was opened, and what it prints was put
pub goes_first : {lang : Language} {HasRun : Stage lang} {a b old new : KnownText} {text w rest : List ℕ} → Prints lang HasRun → w ≡ []
    → IsOpened lang HasRun a b text → Puts w old text rest new (Ok tt) → Going lang HasRun a b old new rest 2
goes_first {lang} {text = text} told e k p = record {
  done = k.line ++ 10 ∷ [];
  ran = record { heading = k.heading; items = []; out = text };
  taken = k.taken;
  held = (p.0, p.2, sym p.1 ∙ ap (λ (t : List ℕ). t ++ text) e);
  comes = comes_first lang k.line k.heading k.free k.header;
  has_run = k.new_one;
  prints = told k.heading [] text k.new_one;
  counted = refl;
  whole = one_line_whole k.line k.free;
  lines = ap (λ (ls : List (List ℕ)). length ls + 1) (one_line k.line k.free);
}

-- the first line has a fault
pub unopened_line : (lang : Language) (a b : KnownText) (line : List ℕ) (kind : LineKind) → HasNoNewline line → Consumes a b (line ++ 10 ∷ [])
    → header_at lang line ≡ Err kind → (text : List ℕ) × IsTextOf a text × (script_of lang text ≡ without_header kind) × TakesUpTo 1 a b
unopened_line lang a b line kind free q h =
    let x = text_of a b (line ++ 10 ∷ []) q in
    ((line ++ 10 ∷ []) ++ x.0, x.1, comes_unopened lang line x.0 kind free h, takes_first a b (line ++ 10 ∷ []) q (of_whole_line line free))

-- nothing was taken of a text without a byte
pub takes_none : (a b : KnownText) → Consumes a b [] → TakesUpTo 1 a b
takes_none a b q = takes_first a b [] q (of_line [] tt)

-- a text that ends inside its first line was taken whole
pub takes_cut : (a b : KnownText) (line : List ℕ) → HasNoNewline line → Consumes a b line → TakesUpTo 1 a b
takes_cut a b line free q = takes_first a b line q (of_line line free)

-- what the first line gives, by what is kept of it
pub header_given : (lang : Language) (line kept shown : List ℕ) (read : Result Heading LineKind) → kept ≡ take 65 line → shown ≡ kept
    → read ≡ header_at lang shown → header_at lang line ≡ read
header_given lang line kept shown read e same h =
    sym (kept_header lang line) ∙ ap (header_at lang) (sym e) ∙ ap (header_at lang) (sym same) ∙ sym h

-- a fault that is handed on
pub handed_on : {T : Type 0} (r : Result T RunFault) (fault : RunFault) → IsErrAnd r (λ e. e ≡ fault) → r ≡ Err fault
handed_on (Ok done) fault h = absurd h
handed_on {T} (Err e) fault h = ap (λ (f : RunFault). let x : Result T RunFault = Err f in x) h

-- memory was refused before anything was read
pub ran_nothing : (lang : Language) (left old : KnownText) (ahead : List ℕ) → EndsThrough lang (prepend_known ahead left) left ahead old old (Err Memory)
ran_nothing lang left old ahead =
    let known = prepend_known ahead left in (stopped_first lang known known [] IsOfLine (consumes_start known) (of_line [] tt), appends_start old)

-- what all items print is what the first items print
all_first : (lang : Language) (text out : List ℕ) → PrintsAll lang text out → PrintsSome lang text out
all_first lang text out h = let items = (script_of lang text).items in inr (items, ([], append-nil items), h)

-- what a beginning of a text prints, the text prints first
printed_first : (lang : Language) (text rest out : List ℕ) → PrintsAll lang text out → PrintsSome lang (text ++ rest) out
printed_first lang text rest out h = from_beginning lang text (text ++ rest) out (script_begins lang text rest) h

-- a whole text was run, and then the writer failed
all_to_writer : (lang : Language) (known old mid new : KnownText) (w : List ℕ) (fault : Option (ℕ × LineKind)) → RunsAll lang known fault (IsBuffered old (to mid w))
    → WritesPart mid new w → StopsInOutput lang known (WritesPart old new)
all_to_writer lang known old mid new w fault h k =
    to_writer lang known old mid new w h.0.text h.0.out h.0.whole (all_first lang h.0.text h.0.out h.0.printed) h.1 k

-- the same of a run that stopped inside a line
stopped_to_writer : (lang : Language) (known left old mid new : KnownText) (w : List ℕ) (IsPart : Claim)
    → StopsInLine lang known left IsPart (IsBuffered old (to mid w)) → WritesPart mid new w → StopsInOutput lang known (WritesPart old new)
stopped_to_writer lang known left old mid new w IsPart h k =
    let run = h.0 in
    let x = text_of known left (run.lines ++ run.part) run.taken in
    let e = append_assoc run.lines run.part x.0 in
    to_writer lang known old mid new w (run.lines ++ (run.part ++ x.0)) run.out (subst (λ (t : List ℕ). IsTextOf known t) e x.1)
    (printed_first lang run.lines (run.part ++ x.0) run.out run.printed) h.1 k

-- the same of a run that found a fault
found_to_writer : (lang : Language) (known old mid new : KnownText) (w : List ℕ) (n : ℕ) (kind : LineKind) → FindsFault lang known n kind (IsBuffered old (to mid w))
    → WritesPart mid new w → StopsInOutput lang known (WritesPart old new)
found_to_writer lang known old mid new w n kind h k = to_writer lang known old mid new w h.0.text h.0.out h.0.whole h.0.printed h.1 k

-- what waited was written after a run, whatever it was
drained : {Run : Type 0} (out : Run → List ℕ) (old mid new : KnownText) (w : List ℕ) → ((run : Run) × IsBuffered old (to mid w) (out run)) → Appends mid new w
    → ((run : Run) × Appends old new (out run))
drained out old mid new w h k = (h.0, holds_drained old mid new w (out h.0) h.1 k)

-- what a machine has run of the whole text, by what else is said of that run and of its output
pub ran_all_as : {lang : Language} {HasRun Other : Stage lang} {known : KnownText} {Told Then : Claim} → HasRunAll lang HasRun known Told
    → ((heading : Heading) (items : List lang.Item) (out : List ℕ) → HasRun heading items out → Other heading items out) → ((out : List ℕ) → Told out → Then out)
    → HasRunAll lang Other known Then
ran_all_as h has_run told = record {
  text = h.text;
  heading = h.heading;
  items = h.items;
  out = h.out;
  whole = h.whole;
  script_is = h.script_is;
  has_run = has_run h.heading h.items h.out h.has_run;
  told = told h.out h.told;
}

-- what waited was written after a run of the whole text by a machine
pub ran_all_drained : (lang : Language) (HasRun : Stage lang) (known old mid new : KnownText) (w : List ℕ) → HasRunAll lang HasRun known (IsBuffered old (to mid w))
    → Appends mid new w → HasRunAll lang HasRun known (Appends old new)
ran_all_drained lang HasRun known old mid new w h k = ran_all_as h (λ heading items out has. has) (λ out held. holds_drained old mid new w out held k)

-- a script that was run to its end, and then what waits was written
pub ran_to_end : (lang : Language) (known left old mid new : KnownText) (ahead w rest : List ℕ) (result : RunEnd)
    → EndsUpTo lang known left ahead old (to mid w) (Ok tt) → Drains w mid rest new result → EndsThrough lang known left ahead old new result
ran_to_end lang known left old mid new ahead w rest (Ok done) h k = (drained (λ (run : WholeRun lang known None). run.out) old mid new w h.0 k.1, h.1)
ran_to_end lang known left old mid new ahead w rest (Err fault) h k =
    let part : EndsThrough lang known left ahead old new (Err Write) = all_to_writer lang known old mid new w None h.0 k.1 in
    rw k.0 part

-- what waited was written after a run to the fault of a line
line_drained : (lang : Language) (known old mid new : KnownText) (w : List ℕ) (n : ℕ) (kind : LineKind)
    → RunsAll lang known (Some (n, kind)) (IsBuffered old (to mid w)) ⊎ FindsFault lang known n kind (IsBuffered old (to mid w)) → Appends mid new w
    → RunsAll lang known (Some (n, kind)) (Appends old new) ⊎ FindsFault lang known n kind (Appends old new)
line_drained lang known old mid new w n kind (inl h) k = inl (drained (λ (run : WholeRun lang known (Some (n, kind))). run.out) old mid new w h k)
line_drained lang known old mid new w n kind (inr h) k = inr (drained (λ (run : FaultyRun lang known n kind). run.out) old mid new w h k)

-- the writer failed then
line_to_writer : (lang : Language) (known old mid new : KnownText) (w : List ℕ) (n : ℕ) (kind : LineKind)
    → RunsAll lang known (Some (n, kind)) (IsBuffered old (to mid w)) ⊎ FindsFault lang known n kind (IsBuffered old (to mid w)) → WritesPart mid new w
    → StopsInOutput lang known (WritesPart old new)
line_to_writer lang known old mid new w n kind (inl h) k = all_to_writer lang known old mid new w (Some (n, kind)) h k
line_to_writer lang known old mid new w n kind (inr h) k = found_to_writer lang known old mid new w n kind h k

-- a script that was run to another fault than the writer's, and then what waits was written
pub ran_to_fault : (lang : Language) (known left old mid new : KnownText) (ahead w : List ℕ) (fault : RunFault) → (fault ≡ Write → ⊥)
    → EndsUpTo lang known left ahead old (to mid w) (Err fault) → Appends mid new w → EndsThrough lang known left ahead old new (Err fault)
ran_to_fault lang known left old mid new ahead w Write other h k = absurd (other refl)
ran_to_fault lang known left old mid new ahead w (Line n kind) other h k = (line_drained lang known old mid new w n kind h.0 k, h.1)
ran_to_fault lang known left old mid new ahead w Memory other h k =
    drained (λ (run : StoppedRun lang known (prepend_known ahead left) IsOfLine). run.out) old mid new w h k
ran_to_fault lang known left old mid new ahead w Read other h k = (drained (λ (run : StoppedRun lang known left HasNoNewline). run.out) old mid new w h.0 k, h.1)

-- the same, and then the writer failed
pub ran_to_writer : (lang : Language) (known left old mid new : KnownText) (ahead w : List ℕ) (fault : RunFault) → (fault ≡ Write → ⊥)
    → EndsUpTo lang known left ahead old (to mid w) (Err fault) → WritesPart mid new w → EndsThrough lang known left ahead old new (Err Write)
ran_to_writer lang known left old mid new ahead w Write other h k = absurd (other refl)
ran_to_writer lang known left old mid new ahead w (Line n kind) other h k = line_to_writer lang known old mid new w n kind h.0 k
ran_to_writer lang known left old mid new ahead w Memory other h k =
    stopped_to_writer lang known (prepend_known ahead left) old mid new w IsOfLine h k
ran_to_writer lang known left old mid new ahead w Read other h k = stopped_to_writer lang known left old mid new w HasNoNewline h.0 k

-- a run through a buffer that was empty
pub ran_alone : (lang : Language) (known left old new : KnownText) (pending ahead : List ℕ) (result : RunEnd) → pending ≡ [] → length ahead ≤ 8192
    → EndsThrough lang (prepend_known pending known) left ahead old new result → EndsAlone lang known left old new result
ran_alone lang known left old new pending ahead result e few h =
    let same : prepend_known pending known ≡ known = rw e (prepend_known-nil known) in
    (ahead, few, subst (λ (k : KnownText). EndsThrough lang k left ahead old new result) same h)

-- the same of a run of the whole text
pub ran_all_alone : {M : Type 0} (lang : Language) (HasRun : M → Stage lang) (known : KnownText) (pending : List ℕ) (Told : Claim) (result : Result M RunFault)
    → pending ≡ [] → IfOk result (λ machine. HasRunAll lang (HasRun machine) (prepend_known pending known) Told)
    → IfOk result (λ machine. HasRunAll lang (HasRun machine) known Told)
ran_all_alone lang HasRun known pending Told result e h =
    let same : prepend_known pending known ≡ known = rw e (prepend_known-nil known) in
    subst (λ (k : KnownText). IfOk result (λ machine. HasRunAll lang (HasRun machine) k Told)) same h

-- the buffer itself was refused
pub ran_none : (lang : Language) (left old : KnownText) → EndsAlone lang left left old old (Err Memory)
ran_none lang left old = ran_alone lang left left old old [] [] (Err Memory) refl (omega arith) (ran_nothing lang left old [])

-- Checks, line after line.
use Rattle.std.proofs.Common.{◌≡◌, ◌≢◌, ℕ, ◌+◌, ◌<◌, ◌≤◌, List, [], ◌∷◌, ◌++◌, length, take, Option, Some, None, Result, Ok, Err, refl, sym, ap, subst, ◌∙◌, arith, inl, inr, append-nil, length-append, IfOk}
use Rattle.std.specs.{Prelude.{IsErrAnd}, Io.KnownBytes.{Consumes, IsAtEnd, Keeps, prepend_known}}
use Rattle.std.specs.declared.alloc.AllocError.{AllocError}
use Rattle.std.proofs.KnownBytes.{prepend_known-nil}
use Rattle.std.proofs.lemmas.List.{take_all, length-take}
use Rattle.ulfm_laws.specs.{Flags.{flag_meld}, declared.flag_and.FlagAnd.{FlagAnd}}
use Rattle.ulfm_model.specs.{Words.{MayOpen}, declared.limits.Limits.{Limits}}
use Rattle.ulfm_script.specs.declared.header_kind.HeaderKind.TheVariants.{Trace}
use Rattle.ulfm_script.specs.declared.line_kind.LineKind.{LineKind}
use Rattle.ulfm_script.specs.{Buffers.{HasNoNewline, IsOfLine}, Headers.{header_text}, Ends.{Claim, IsTextOf, KnownText, TakesUpTo}, Scripts.{lines_from, rest_from}}
use Rattle.ulfm_script.proofs.{ByteLemmas.{consumes_keeps, consumes_start, consumes_then, end_behind, taken_of_reader}, RunLemmas.{takes_first, whole_text}}
use Rattle.ulfm_lines.specs.{LineTexts.{TraceLine}, Stepped.{TraceState}, Telling.{TextTells}}
use Rattle.ulfm_model.specs.declared.line.{Why.{Why}, Why.TheVariants.{Text}}
use Rattle.ulfm_model.specs.Traces.{IsLegalTrace, Takes, Told, nothing, said_by}
use Rattle.ulfm_model.proofs.Parts.{legal_append, said_append}
use Rattle.ulfm_trace.specs.declared.verdict.{CheckFault.{CheckFault}, CheckFault.TheVariants.{Memory, Read}, Verdict.TheVariants.{Legal, Illegal}}
use Rattle.ulfm_trace.specs.Texts.{AreTold, BreaksOff, IsBadLine, IsBadNext, IsHeader, IsLegalText, IsLine, LacksHeader, Tell, TellsTold, TraceLines}
use Rattle.ulfm_trace.specs.Checks.{Checks, CheckEnd, ChecksThrough, IsJudgeOpened, JudgesLine, OpensJudge, StopsInTrace, TakesText}
use Rattle.ulfm_trace.proofs.TextLines.{Comes, comes_first, comes_on, first_then, lines_cut, lines_end, lines_then, no_line, rest_cut, rest_end}

-- bytes without a newline are of one line, and so are those of a whole line
of_line : (bytes : List ℕ) → HasNoNewline bytes → IsOfLine bytes
of_line bytes free = (bytes, free, (10 ∷ [], refl))

of_whole_line : (line : List ℕ) → HasNoNewline line → IsOfLine (line ++ 10 ∷ [])
of_whole_line line free = (line, free, ([], append-nil (line ++ 10 ∷ [])))

-- a text that begins with what was taken
text_of : (a b : KnownText) (done : List ℕ) → Consumes a b done → (rest : List ℕ) × IsTextOf a (done ++ rest)
text_of None b done h = ([], tt)
text_of (Some xs) None done h = absurd h
text_of (Some xs) (Some ys) done h = (ys, sym h)

-- a fault that is handed on
pub handed_on : {T : Type 0} (r : Result T CheckFault) (fault : CheckFault) → IsErrAnd r (λ e. e ≡ fault) → r ≡ Err fault
handed_on (Ok done) fault h = absurd h
handed_on {T} (Err e) fault h = ap (λ (f : CheckFault). let x : Result T CheckFault = Err f in x) h

-- a line that is not too long is kept whole
kept_whole : (line kept : List ℕ) → kept ≡ take 8193 line → length kept ≤ 8192 → kept ≡ line
kept_whole line kept e short =
    let few : length line ≤ 8193 = omega (arith, ap length e, length-take 8193 line) in e ∙ take_all 8193 line few

whole_kept : (line kept : List ℕ) → kept ≡ take 8193 line → length line ≤ 8192 → kept ≡ line
whole_kept line kept e short = let few : length line ≤ 8193 = omega (arith, short) in e ∙ take_all 8193 line few

-- what the kept bytes tell, the line tells
kept_tells : (number : ℕ) (line kept : List ℕ) (told : Told FlagAnd) → kept ≡ take 8193 line → IsLine number kept told → IsLine number line told
kept_tells number line kept told e is =
    (is.0, subst (λ (t : List ℕ). TellsTold t told) (kept_whole line kept e is.1.0) is.1)

tells_kept : (number : ℕ) (line kept : List ℕ) (told : Told FlagAnd) → kept ≡ take 8193 line → IsLine number line told → IsLine number kept told
tells_kept number line kept told e is =
    (is.0, subst (λ (t : List ℕ). TellsTold t told) (sym (whole_kept line kept e is.1.0)) is.1)

-- what is bad in the kept bytes is bad in the line
kept_bad : (now : TraceState) (number : ℕ) (line kept : List ℕ) (why : Why) → kept ≡ take 8193 line → IsBadLine now number kept why → IsBadLine now number line why
kept_bad now number line kept why e (inl bad) = inl (bad.0, λ told. bad.1 (told.0, tells_kept number line kept told.0 e told.1))
kept_bad now number line kept why e (inr bad) = inr (bad.0, kept_tells number line kept bad.0 e bad.1, bad.2)

-- what is said of the next state of a judge
abbrev pub Judged : TraceState → ℕ → List ℕ → (TraceState → Type 0) → Option Why → Type 0
Judged now number text Stands why = (next : TraceState) × JudgesLine now number text next why × Stands next

took : (now : TraceState) (number : ℕ) (text group : List ℕ) (line : TraceLine) (Stands : TraceState → Type 0) (why : Option Why) → number ≤ 5000000 → TextTells text group line
    → (next : TraceState) × Takes flag_meld now group line next why × Stands next → Judged now number text Stands why
took now number text group line Stands None few tells t = (t.0, (record { line = line; group = group }, (few, tells), t.1.0, t.1.1), t.2)
took now number text group line Stands (Some why) few tells t = (t.0, inr (record { line = line; group = group }, (few, tells), t.1.0), t.2)

-- a line that was read was taken by a judge
pub judged : (now : TraceState) (number : ℕ) (text group shown : List ℕ) (line : TraceLine) (Stands : TraceState → Type 0) (result : Result (Option Why) AllocError) → number ≤ 5000000 → TextTells text group line → shown ≡ group
    → IfOk result (λ why. (next : TraceState) × Takes flag_meld now shown line next why × Stands next) → IfOk result (Judged now number text Stands)
judged now number text group shown line Stands (Ok why) few tells same t =
    took now number text group line Stands why few tells
    (subst (λ (g : List ℕ). (next : TraceState) × Takes flag_meld now g line next why × Stands next) same t)
judged now number text group shown line Stands (Err e) few tells same t = tt

-- a text without a header, of which nothing behind the first line was taken
abbrev pub Lacks : KnownText → KnownText → Type 0
Lacks known left = (text : List ℕ) × IsTextOf known text × LacksHeader (lines_from [] text) × TakesUpTo 1 known left

-- a first line that is no header
lacks_first : (a b : KnownText) (line : List ℕ) → HasNoNewline line → Consumes a b (line ++ 10 ∷ []) → ((limits : Limits) → ¬ IsHeader line limits) → Lacks a b
lacks_first a b line free q none =
    let x = text_of a b (line ++ 10 ∷ []) q in
    let lacks : LacksHeader (line ∷ lines_from [] x.0) = λ found. none found.0 found.1 in (
      (line ++ 10 ∷ []) ++ x.0,
      x.1,
      subst LacksHeader (sym (first_then line x.0 free)) lacks,
      takes_first a b (line ++ 10 ∷ []) q (of_whole_line line free),
    )

-- a first line that is too long
pub lacks_long : (a b : KnownText) (line kept : List ℕ) → HasNoNewline line → Consumes a b (line ++ 10 ∷ []) → kept ≡ take 8193 line → 8192 < length kept → Lacks a b
lacks_long a b line kept free q e long =
    lacks_first a b line free q (λ limits is. absurd (omega (arith, is.short, long, ap length e, length-take 8193 line)))

-- what a header's reader says of a line
abbrev pub ReadsOnly : List ℕ → Result Limits LineKind → Type 0
ReadsOnly shown read = (limits : Limits) → MayOpen limits → shown ≡ header_text Trace limits → read ≡ Ok limits

unread_header : (shown : List ℕ) (read : Result Limits LineKind) (kind : LineKind) (limits : Limits) → read ≡ Err kind → ReadsOnly shown read → MayOpen limits → shown ≡ header_text Trace limits → ⊥
unread_header shown read kind limits none only may e = let is : read ≡ Ok limits = only limits may e in cc

-- a first line that was not read as a header
pub lacks_read : (a b : KnownText) (line kept shown : List ℕ) (read : Result Limits LineKind) (kind : LineKind) → HasNoNewline line → Consumes a b (line ++ 10 ∷ []) → kept ≡ take 8193 line → length kept ≤ 8192 → shown ≡ kept
    → read ≡ Err kind → ReadsOnly shown read → Lacks a b
lacks_read a b line kept shown read kind free q e short same none only =
    lacks_first a b line free q
    (λ limits is. unread_header shown read kind limits none only is.may_open (same ∙ kept_whole line kept e short ∙ is.text_is))

-- a text that ends inside its first line
pub lacks_cut : (a b : KnownText) (line : List ℕ) → HasNoNewline line → Consumes a b line → IsAtEnd b → Lacks a b
lacks_cut a b line free q z =
    (line, whole_text a b line q z, subst LacksHeader (sym (no_line line free)) tt, takes_first a b line q (of_line line free))

-- a text without a byte
pub lacks_all : (a b : KnownText) → Consumes a b [] → IsAtEnd b → Lacks a b
lacks_all a b q z = lacks_cut a b [] tt q z

-- a first line that was read as a header
pub header_found : (line kept shown : List ℕ) (limits : Limits) → kept ≡ take 8193 line → length kept ≤ 8192 → shown ≡ kept → MayOpen limits → shown ≡ header_text Trace limits → IsHeader line limits
header_found line kept shown limits e short same may is =
    let whole = kept_whole line kept e short in
    record { may_open = may; short = omega (arith, ap length whole, short); text_is = sym whole ∙ sym same ∙ is }

-- no judge could be opened, for want of memory
pub unopened_judge : {J : Type 0} (Stands : J → TraceState → Type 0) (old new : KnownText) (bytes line : List ℕ) → HasNoNewline line → Consumes old new (line ++ 10 ∷ []) → OpensJudge Stands old new bytes (Err Memory)
unopened_judge Stands old new bytes line free q = (line ++ 10 ∷ [], of_whole_line line free, q)

-- the first line couldn't be read
pub unopened_read : {J : Type 0} (Stands : J → TraceState → Type 0) (old new : KnownText) (bytes kept : List ℕ) (fault : CheckFault) → TakesText old new bytes kept (Err fault) → OpensJudge Stands old new bytes (Err fault)
unopened_read Stands old new bytes kept Memory h = (h.0, of_line h.0 h.1, h.2)
unopened_read Stands old new bytes kept Read h = h

-- a check that goes on: what was taken of the text is a header and a legal trace, for which the judge stands
pub record Going (known b : KnownText) (Stands : TraceState → Type 0) (number : ℕ) : Type 0 where
  pub done : List ℕ
  pub header : List ℕ
  pub texts : List (List ℕ)
  pub limits : Limits
  pub trace : TraceLines
  pub taken : Consumes known b done
  pub comes : Comes done (header ∷ texts)
  pub is_header : IsHeader header limits
  pub told : AreTold texts trace
  pub legal : IsLegalTrace flag_meld limits trace
  pub number_is : number ≡ length texts + 2
  pub few : number ≤ 5000001
  pub stands : Stands (said_by (nothing limits) trace)

-- what was taken are the lines of a legal trace
tells_so : (known b : KnownText) (Stands : TraceState → Type 0) (n : ℕ) (i : Going known b Stands n) → Tell (i.header ∷ i.texts) i.limits i.trace
tells_so known b Stands n i = record {
  header = i.header;
  texts = i.texts;
  lines_are = refl;
  few = omega (arith, i.number_is, i.few);
  is_header = i.is_header;
  told = i.told;
  legal = i.legal;
}

-- nothing behind the next line was taken
takes_next : (known b c : KnownText) (Stands : TraceState → Type 0) (part : List ℕ) (n : ℕ) → Going known b Stands n → Consumes b c part → IsOfLine part → TakesUpTo n known c
takes_next known b c Stands part n i q p =
    let lines = lines_end i.done (i.header ∷ i.texts) i.comes in
    record {
      lines = i.done;
      part = part;
      taken = consumes_then known b c i.done part i.taken q;
      whole = rest_end i.done (i.header ∷ i.texts) i.comes;
      counted = omega (arith, i.number_is, ap length lines);
      partly = p;
    }

-- what was taken is a legal text
legal_so : (known b : KnownText) (Stands : TraceState → Type 0) (n : ℕ) (i : Going known b Stands n) → IsLegalText i.done
legal_so known b Stands n i = (
  i.limits,
  i.trace,
  subst (λ (ls : List (List ℕ)). Tell ls i.limits i.trace) (sym (lines_end i.done (i.header ∷ i.texts) i.comes)) (tells_so known b Stands n i),
  rest_end i.done (i.header ∷ i.texts) i.comes,
)

told_append : (texts : List (List ℕ)) (trace : TraceLines) (text : List ℕ) (told : Told FlagAnd) → AreTold texts trace → TellsTold text told → AreTold (texts ++ text ∷ []) (trace ++ told ∷ [])
told_append [] [] text told h k = (k, tt)
told_append [] (first ∷ trace) text told h k = absurd h
told_append (line ∷ texts) [] text told h k = absurd h
told_append (line ∷ texts) (first ∷ trace) text told h k = (h.0, told_append texts trace text told h.1 k)

-- a judge was opened
pub goes_first : (a b : KnownText) (Stands : TraceState → Type 0) → IsJudgeOpened a b Stands → Going a b Stands 2
goes_first a b Stands k = record {
  done = k.line ++ 10 ∷ [];
  header = k.line;
  texts = [];
  limits = k.limits;
  trace = [];
  taken = k.taken;
  comes = comes_first k.line k.free;
  is_header = k.header;
  told = tt;
  legal = tt;
  number_is = refl;
  few = omega arith;
  stands = k.stands;
}

-- a line was taken
pub goes_on : (known b c : KnownText) (Stood Stands : TraceState → Type 0) (line shown kept : List ℕ) (n : ℕ) (i : Going known b Stood n) → HasNoNewline line → Consumes b c (line ++ 10 ∷ []) → shown ≡ kept → kept ≡ take 8193 line
    → Judged (said_by (nothing i.limits) i.trace) n shown Stands None → Going known c Stands (n + 1)
goes_on known b c Stood Stands line shown kept n i free q same e j =
    let now = said_by (nothing i.limits) i.trace in
    let told = j.1.0 in
    let is = kept_tells n line shown told (same ∙ e) j.1.1 in
    let more = i.trace ++ told ∷ [] in
    let next : j.0 ≡ said_by (nothing i.limits) more = j.1.3 ∙ sym (said_append (nothing i.limits) i.trace (told ∷ [])) in
    record {
      done = i.done ++ (line ++ 10 ∷ []);
      header = i.header;
      texts = i.texts ++ line ∷ [];
      limits = i.limits;
      trace = more;
      taken = consumes_then known b c i.done (line ++ 10 ∷ []) i.taken q;
      comes = comes_on i.done line (i.header ∷ i.texts) i.comes free;
      is_header = i.is_header;
      told = told_append i.texts i.trace line told i.told is.1;
      legal = legal_append flag_meld (nothing i.limits) i.trace (told ∷ []) i.legal (j.1.2, tt);
      number_is = omega (arith, i.number_is, length-append i.texts (line ∷ []));
      few = omega (arith, is.0);
      stands = subst Stands next j.2;
    }

-- there is no further line
pub ended_done : (known b left : KnownText) (Stands : TraceState → Type 0) (ahead : List ℕ) (n : ℕ) → Going known b Stands n → Keeps b (prepend_known ahead left) → IsAtEnd (prepend_known ahead left)
    → ChecksThrough known left ahead (Ok Legal)
ended_done known b left Stands ahead n i k z =
    let c = prepend_known ahead left in
    (i.done, whole_text known c i.done (consumes_keeps known b c i.done i.taken k) z, legal_so known b Stands n i, end_behind ahead left z)

breaks_so : (known b : KnownText) (Stands : TraceState → Type 0) (n : ℕ) (i : Going known b Stands n) (behind : List (List ℕ)) (cut : List ℕ) (why : Why) → IsBadNext (said_by (nothing i.limits) i.trace) n behind cut why
    → BreaksOff ((i.header ∷ i.texts) ++ behind) cut n why
breaks_so known b Stands n i behind cut why bad = record {
  before = i.header ∷ i.texts;
  behind = behind;
  lines_are = refl;
  limits = i.limits;
  trace = i.trace;
  tell = tells_so known b Stands n i;
  number_is = omega (arith, i.number_is);
  bad = bad;
}

some_bytes : (line : List ℕ) → 0 < length line → line ≢ []
some_bytes line some none = absurd (omega (arith, some, ap length none))

-- the text ends inside a line
pub ended_cut : (known b left : KnownText) (Stands : TraceState → Type 0) (ahead line : List ℕ) (n : ℕ) → Going known b Stands n → HasNoNewline line → 0 < length line → Consumes b (prepend_known ahead left) line
    → IsAtEnd (prepend_known ahead left) → ChecksThrough known left ahead (Ok (Illegal n Text))
ended_cut known b left Stands ahead line n i free some q z =
    let c = prepend_known ahead left in
    let lines = i.header ∷ i.texts in
    let breaks = breaks_so known b Stands n i [] line Text (refl, some_bytes line some) in
    let at_lines = subst (λ (ls : List (List ℕ)). BreaksOff ls line n Text) (sym (lines_cut i.done line lines i.comes free)) breaks in (
      i.done ++ line,
      whole_text known c (i.done ++ line) (consumes_then known b c i.done line i.taken q) z,
      inr (subst (λ (r : List ℕ). BreaksOff (lines_from [] (i.done ++ line)) r n Text) (sym (rest_cut i.done line lines i.comes free)) at_lines),
      takes_next known b c Stands line n i q (of_line line free),
    )

-- a line was bad
pub ended_bad : (known b left : KnownText) (Stood Stands : TraceState → Type 0) (ahead line shown kept : List ℕ) (n : ℕ) (why : Why) (i : Going known b Stood n) → HasNoNewline line
    → Consumes b (prepend_known ahead left) (line ++ 10 ∷ []) → shown ≡ kept → kept ≡ take 8193 line → Judged (said_by (nothing i.limits) i.trace) n shown Stands (Some why) → ChecksThrough known left ahead (Ok (Illegal n why))
ended_bad known b left Stood Stands ahead line shown kept n why i free q same e j =
    let c = prepend_known ahead left in
    let now = said_by (nothing i.limits) i.trace in
    let bad = kept_bad now n line shown why (same ∙ e) j.1 in
    let x = text_of known c (i.done ++ (line ++ 10 ∷ [])) (consumes_then known b c i.done (line ++ 10 ∷ []) i.taken q) in
    let text = (i.done ++ (line ++ 10 ∷ [])) ++ x.0 in
    let breaks = breaks_so known b Stood n i (line ∷ lines_from [] x.0) (rest_from [] text) why bad in (
      text,
      x.1,
      inr (
          subst (λ (ls : List (List ℕ)). BreaksOff ls (rest_from [] text) n why)
          (sym (lines_then i.done line x.0 (i.header ∷ i.texts) i.comes free)) breaks
          ),
      takes_next known b c Stood (line ++ 10 ∷ []) n i q (of_whole_line line free),
    )

-- the text has no header
pub ended_lacking : (known left : KnownText) (ahead : List ℕ) → Lacks known (prepend_known ahead left) → ChecksThrough known left ahead (Ok (Illegal 1 Text))
ended_lacking known left ahead lacks = (lacks.0, lacks.1, inl (refl, refl, lacks.2), lacks.3)

-- the check stops inside the next line
stops_inside : (known b c : KnownText) (Stands : TraceState → Type 0) (part : List ℕ) (n : ℕ) (IsPart : Claim) → Going known b Stands n → Consumes b c part → IsPart part → StopsInTrace known c IsPart
stops_inside known b c Stands part n IsPart i q p = record {
  lines = i.done;
  part = part;
  taken = consumes_then known b c i.done part i.taken q;
  right = inr (legal_so known b Stands n i);
  partly = p;
}

-- a line couldn't be read
pub ended_by_read : (known b left : KnownText) (Stands : TraceState → Type 0) (ahead kept : List ℕ) (n : ℕ) (fault : CheckFault) → Going known b Stands n → TakesText b (prepend_known ahead left) ahead kept (Err fault)
    → ChecksThrough known left ahead (Err fault)
ended_by_read known b left Stands ahead kept n Read i k =
    (stops_inside known b left Stands k.0 n HasNoNewline i (taken_of_reader b left ahead k.0 k.2 k.3) k.1, k.2)
ended_by_read known b left Stands ahead kept n Memory i k =
    stops_inside known b (prepend_known ahead left) Stands k.0 n IsOfLine i k.2 (of_line k.0 k.1)

-- memory was refused for a line that was read
pub ended_by_line : (known b left : KnownText) (Stands : TraceState → Type 0) (ahead line : List ℕ) (n : ℕ) → Going known b Stands n → HasNoNewline line → Consumes b (prepend_known ahead left) (line ++ 10 ∷ [])
    → ChecksThrough known left ahead (Err Memory)
ended_by_line known b left Stands ahead line n i free q =
    stops_inside known b (prepend_known ahead left) Stands (line ++ 10 ∷ []) n IsOfLine i q (of_whole_line line free)

-- the check stops inside the first line
stops_first : (known left : KnownText) (part : List ℕ) (IsPart : Claim) → Consumes known left part → IsPart part → StopsInTrace known left IsPart
stops_first known left part IsPart q p = record { lines = []; part = part; taken = q; right = inl refl; partly = p }

-- memory was refused before the first line
pub ended_at_once : (left : KnownText) (ahead : List ℕ) → ChecksThrough (prepend_known ahead left) left ahead (Err Memory)
ended_at_once left ahead =
    let known = prepend_known ahead left in stops_first known known [] IsOfLine (consumes_start known) (of_line [] tt)

-- there is no judge
pub ended_unopened : {J : Type 0} (Stands : J → TraceState → Type 0) (ahead : List ℕ) (known left : KnownText) (fault : CheckFault) → OpensJudge Stands known (prepend_known ahead left) ahead (Err fault) → ChecksThrough known left ahead (Err fault)
ended_unopened Stands ahead known left Memory k = stops_first known (prepend_known ahead left) k.0 IsOfLine k.2 k.1
ended_unopened Stands ahead known left Read k = (stops_first known left k.0 HasNoNewline (taken_of_reader known left ahead k.0 k.2 k.3) k.1, k.2)

-- a check through a buffer that was empty
pub checked_alone : (known left : KnownText) (pending ahead : List ℕ) (result : CheckEnd) → pending ≡ [] → length ahead ≤ 8192 → ChecksThrough (prepend_known pending known) left ahead result → Checks known left result
checked_alone known left pending ahead result e few h =
    let same : prepend_known pending known ≡ known = rw e (prepend_known-nil known) in
    (ahead, few, subst (λ (k : KnownText). ChecksThrough k left ahead result) same h)

-- the buffer itself was refused
pub checked_none : (left : KnownText) → Checks left left (Err Memory)
checked_none left = checked_alone left left [] [] (Err Memory) refl (omega arith) (ended_at_once left [])

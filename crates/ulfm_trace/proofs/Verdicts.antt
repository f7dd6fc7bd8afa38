-- A text is legal or has one first line that is bad, for one reason.
use Rattle.std.proofs.Common.{◌≡◌, ◌≢◌, ℕ, ◌+◌, ◌≤◌, List, [], ◌∷◌, ◌++◌, length, Some, None, Ok, refl, sym, ap, ap₂, subst, ◌∙◌, arith, inl, inr}
use Rattle.ulfm_laws.specs.{Flags.{flag_meld}, declared.flag_and.FlagAnd.{FlagAnd}}
use Rattle.ulfm_model.specs.declared.limits.Limits.{Limits}
use Rattle.ulfm_script.specs.declared.header_kind.HeaderKind.TheVariants.{Trace}
use Rattle.ulfm_script.specs.{Headers.{header_of}, Scripts.{lines_from, rest_from}}
use Rattle.ulfm_script.proofs.HeaderLemmas.{header_again}
use Rattle.ulfm_lines.specs.{LineTexts.{TraceLine}, Stepped.{TraceState}}
use Rattle.ulfm_lines.proofs.ReadLemmas.{one_line}
use Rattle.ulfm_model.specs.declared.line.{Line.TheVariants.{Called, Looked, Happened, Replied}, Why.{Why}, Why.TheVariants.{Text}}
use Rattle.ulfm_model.specs.Traces.{AreLegalAfter, IsBad, MayCome, Told, after, nothing, said_by}
use Rattle.ulfm_model.proofs.Reasons.{one_reason}
use Rattle.ulfm_trace.specs.Texts.{AreTold, BreaksOff, IsBadLine, IsBadNext, IsFirstBad, IsHeader, IsLine, LacksHeader, Tell, TellsTold, TraceLines}

-- what a line of the grammar tells is never bad for its text
pub never_text : (now : TraceState) (group : List ℕ) (line : TraceLine) → ¬ IsBad flag_meld now group line Text
never_text now group (Called asked padded) bad = cc (bad.0)
never_text now group (Looked r count) (inl bad) = cc (bad.0)
never_text now group (Looked r count) (inr bad) = cc (bad.0)
never_text now group (Happened by None) bad = cc (bad)
never_text now group (Happened by (Some event)) (inl bad) = cc (bad.0)
never_text now group (Happened by (Some event)) (inr bad) = cc (bad.0)
never_text now group (Replied by point reply) (inl bad) = cc (bad.0)
never_text now group (Replied by point reply) (inr bad) = cc (bad.0)

-- one text tells one line
one_told : (text : List ℕ) (a b : Told FlagAnd) → TellsTold text a → TellsTold text b → a ≡ b
one_told text a b x y =
    let one = one_line text a.group b.group a.line b.line x y in
    let put : List ℕ → TraceLine → Told FlagAnd = λ group line. record { line = line; group = group } in
    ap₂ put one.1 one.0

-- a line that may come is not bad
not_bad : (now : TraceState) (number : ℕ) (text : List ℕ) (told : Told FlagAnd) (why : Why) → IsLine number text told → MayCome flag_meld now told.group told.line → IsBadLine now number text why → ⊥
not_bad now number text told why is may (inl bad) = bad.1 (told, is)
not_bad now number text told why is may (inr bad) =
    let same = one_told text told bad.0 is.1 bad.1.1 in
    (one_reason flag_meld now bad.0.group bad.0.line).apart why bad.2 (subst (λ (t : Told FlagAnd). MayCome flag_meld now t.group t.line) same may)

-- a bad line is bad for one reason
one_why : (now : TraceState) (number : ℕ) (text : List ℕ) (why other : Why) → IsBadLine now number text why → IsBadLine now number text other → why ≡ other
one_why now number text why other (inl bad) (inl worse) = bad.0 ∙ sym worse.0
one_why now number text why other (inl bad) (inr worse) = absurd (bad.1 (worse.0, worse.1))
one_why now number text why other (inr bad) (inl worse) = absurd (worse.1 (bad.0, bad.1))
one_why now number text why other (inr bad) (inr worse) =
    let same = one_told text bad.0 worse.0 bad.1.1 worse.1.1 in
    (one_reason flag_meld now worse.0.group worse.0.line).one why other (subst (λ (t : Told FlagAnd). IsBad flag_meld now t.group t.line why) same bad.2) worse.2

one_next : (now : TraceState) (number : ℕ) (behind : List (List ℕ)) (cut : List ℕ) (why other : Why) → IsBadNext now number behind cut why → IsBadNext now number behind cut other → why ≡ other
one_next now number [] cut why other bad worse = bad.0 ∙ sym worse.0
one_next now number (text ∷ behind) cut why other bad worse = one_why now number text why other bad worse

-- the lines behind a header, from this number on: the first of them are the lines of a legal trace
pub record Runs (now : TraceState) (number : ℕ) (texts : List (List ℕ)) (trace : TraceLines) : Type 0 where
  pub told : AreTold texts trace
  pub legal : AreLegalAfter flag_meld now trace
  pub few : number + length texts ≤ 5000001

-- the first line of a run may come, and the rest is a run
pub record RunsOn (now : TraceState) (number : ℕ) (text : List ℕ) (texts : List (List ℕ)) (trace : TraceLines) : Type 0 where
  pub first : Told FlagAnd
  pub rest : TraceLines
  pub trace_is : trace ≡ first ∷ rest
  pub is_line : IsLine number text first
  pub may : MayCome flag_meld now first.group first.line
  pub on : Runs (after now first.line) (number + 1) texts rest

runs_on : (now : TraceState) (number : ℕ) (text : List ℕ) (texts : List (List ℕ)) (trace : TraceLines) → Runs now number (text ∷ texts) trace → RunsOn now number text texts trace
runs_on now number text texts [] r = absurd r.told
runs_on now number text texts (told ∷ trace) r = record {
  first = told;
  rest = trace;
  trace_is = refl;
  is_line = (omega (arith, r.few), r.told.0);
  may = r.legal.0;
  on = record { told = r.told.1; legal = r.legal.1; few = omega (arith, r.few) };
}

-- a run that ends where the text does not go on well: what is bad next stands at this number
pub record Breaks (now : TraceState) (number : ℕ) (texts behind : List (List ℕ)) (cut : List ℕ) (at : ℕ) (why : Why) : Type 0 where
  pub trace : TraceLines
  pub runs : Runs now number texts trace
  pub at_is : at ≡ number + length texts
  pub bad : IsBadNext (said_by now trace) at behind cut why

breaks_on : (now : TraceState) (number : ℕ) (text : List ℕ) (texts behind : List (List ℕ)) (cut : List ℕ) (at : ℕ) (why : Why) (b : Breaks now number (text ∷ texts) behind cut at why)
    → (r : RunsOn now number text texts b.trace) → Breaks (after now r.first.line) (number + 1) texts behind cut at why
breaks_on now number text texts behind cut at why b r = record {
  trace = r.rest;
  runs = r.on;
  at_is = omega (arith, b.at_is);
  bad = subst (λ (t : TraceLines). IsBadNext (said_by now t) at behind cut why) r.trace_is b.bad;
}

-- where nothing of a run is left, what is bad next stands at once
bad_empty : (now : TraceState) (number : ℕ) (behind : List (List ℕ)) (cut : List ℕ) (at : ℕ) (why : Why) (trace : TraceLines) → AreTold [] trace → at ≡ number
    → IsBadNext (said_by now trace) at behind cut why → IsBadNext now number behind cut why
bad_empty now number behind cut at why [] told same bad = subst (λ n. IsBadNext now n behind cut why) same bad
bad_empty now number behind cut at why (first ∷ trace) told same bad = absurd told

bad_at_once : (now : TraceState) (number : ℕ) (behind : List (List ℕ)) (cut : List ℕ) (at : ℕ) (why : Why) → Breaks now number [] behind cut at why → (at ≡ number) × IsBadNext now number behind cut why
bad_at_once now number behind cut at why b =
    let same : at ≡ number = omega (arith, b.at_is) in (same, bad_empty now number behind cut at why b.trace b.runs.told same b.bad)

-- nothing is bad inside a run
none_inside : (now : TraceState) (number : ℕ) (text : List ℕ) (more texts behind : List (List ℕ)) (trace : TraceLines) (cut : List ℕ) (why : Why) → behind ≡ text ∷ more → RunsOn now number text texts trace
    → IsBadNext now number behind cut why → ⊥
none_inside now number text more texts behind trace cut why same r bad =
    not_bad now number text r.first why r.is_line r.may (subst (λ (ts : List (List ℕ)). IsBadNext now number ts cut why) same bad)

first_same : (x y : List ℕ) (xs ys : List (List ℕ)) → x ∷ xs ≡ y ∷ ys → x ≡ y
first_same x y xs ys e = cc

rest_same : (x y : List ℕ) (xs ys : List (List ℕ)) → x ∷ xs ≡ y ∷ ys → xs ≡ ys
rest_same x y xs ys e = cc

-- two runs tell the same first line
same_first : (now : TraceState) (number : ℕ) (x y : List ℕ) (xs ys : List (List ℕ)) (one other : TraceLines) → x ≡ y → (r : RunsOn now number x xs one) → (s : RunsOn now number y ys other) → s.first ≡ r.first
same_first now number x y xs ys one other e r s = one_told x s.first r.first (subst (λ (t : List ℕ). TellsTold t s.first) (sym e) s.is_line.1) r.is_line.1

-- what breaks off twice, breaks off at one line for one reason
two_breaks : (now : TraceState) (number : ℕ) (one other behind further : List (List ℕ)) (cut : List ℕ) (n m : ℕ) (why worse : Why) → one ++ behind ≡ other ++ further
    → Breaks now number one behind cut n why → Breaks now number other further cut m worse → (n ≡ m) × (why ≡ worse)
two_breaks now number [] [] behind further cut n m why worse e b d =
    let x = bad_at_once now number behind cut n why b in
    let y = bad_at_once now number further cut m worse d in
    (x.0 ∙ sym y.0, one_next now number further cut why worse (subst (λ (ts : List (List ℕ)). IsBadNext now number ts cut why) e x.1) y.1)
two_breaks now number [] (text ∷ other) behind further cut n m why worse e b d =
    let x = bad_at_once now number behind cut n why b in
    absurd (none_inside now number text (other ++ further) other behind d.trace cut why e (runs_on now number text other d.trace d.runs) x.1)
two_breaks now number (text ∷ one) [] behind further cut n m why worse e b d =
    let y = bad_at_once now number further cut m worse d in
    absurd (none_inside now number text (one ++ behind) one further b.trace cut worse (sym e) (runs_on now number text one b.trace b.runs) y.1)
two_breaks now number (text ∷ one) (line ∷ other) behind further cut n m why worse e b d =
    let r = runs_on now number text one b.trace b.runs in
    let s = runs_on now number line other d.trace d.runs in
    let same = same_first now number text line one other b.trace d.trace (first_same text line (one ++ behind) (other ++ further) e) r s in
    let on = breaks_on now number line other further cut m worse d s in
    two_breaks (after now r.first.line) (number + 1) one other behind further cut n m why worse (rest_same text line (one ++ behind) (other ++ further) e)
    (breaks_on now number text one behind cut n why b r)
    (subst (λ (t : Told FlagAnd). Breaks (after now t.line) (number + 1) other further cut m worse) same on)

-- what is a run to its end breaks off nowhere
legal_or_breaks : (now : TraceState) (number : ℕ) (lines texts behind : List (List ℕ)) (cut : List ℕ) (at : ℕ) (why : Why) (trace : TraceLines) → lines ≡ texts ++ behind
    → Runs now number lines trace → cut ≡ [] → Breaks now number texts behind cut at why → ⊥
legal_or_breaks now number [] [] behind cut at why trace e r none b =
    let bad = subst (λ (ts : List (List ℕ)). IsBadNext now number ts cut why) (sym e) ((bad_at_once now number behind cut at why b).1) in bad.1 none
legal_or_breaks now number (text ∷ lines) [] behind cut at why trace e r none b =
    none_inside now number text lines lines behind trace cut why (sym e) (runs_on now number text lines trace r) ((bad_at_once now number behind cut at why b).1)
legal_or_breaks now number [] (text ∷ texts) behind cut at why trace e r none b = cc
legal_or_breaks now number (line ∷ lines) (text ∷ texts) behind cut at why trace e r none b =
    let s = runs_on now number line lines trace r in
    let t = runs_on now number text texts b.trace b.runs in
    let same = same_first now number line text lines texts trace b.trace (first_same line text lines (texts ++ behind) e) s t in
    let on = breaks_on now number text texts behind cut at why b t in
    legal_or_breaks (after now s.first.line) (number + 1) lines texts behind cut at why s.rest (rest_same line text lines (texts ++ behind) e) s.on none
    (subst (λ (x : Told FlagAnd). Breaks (after now x.line) (number + 1) texts behind cut at why) same on)

-- what is no run to its end isn't without a line where it breaks off
some_break : (now : TraceState) (number : ℕ) (lines : List (List ℕ)) (cut : List ℕ) → number ≤ 5000001 → ((trace : TraceLines) → Runs now number lines trace → cut ≢ [])
    → ((texts behind : List (List ℕ)) (at : ℕ) (why : Why) → lines ≡ texts ++ behind → ¬ Breaks now number texts behind cut at why) → ⊥
some_break now number [] cut few no_run no_break =
    let run : Runs now number [] [] = record { told = tt; legal = tt; few = omega (arith, few) } in
    no_break [] [] number Text refl (record { trace = []; runs = run; at_is = omega arith; bad = (refl, no_run [] run) })
some_break now number (text ∷ lines) cut few no_run no_break =
    let run : Runs now number [] [] = record { told = tt; legal = tt; few = omega (arith, few) } in
    let not_here : (why : Why) → IsBadLine now number text why → ⊥ =
    λ why bad. no_break [] (text ∷ lines) number why refl (record { trace = []; runs = run; at_is = omega arith; bad = bad }) in
    not_here Text (
    inl (
      refl,
      λ line.
          let told = line.0 in
          let is = line.1 in
          (one_reason flag_meld now told.group told.line).some
          (
          λ may. some_break (after now told.line) (number + 1) lines cut (omega (arith, is.0))
          (λ trace run. no_run (told ∷ trace) (record { told = (is.1, run.told); legal = (may, run.legal); few = omega (arith, run.few) }))
          (
          λ texts behind at why e b. no_break (text ∷ texts) behind at why (ap (λ (ts : List (List ℕ)). text ∷ ts) e)
          (
          record {
            trace = told ∷ b.trace;
            runs = record { told = (is.1, b.runs.told); legal = (may, b.runs.legal); few = omega (arith, b.runs.few) };
            at_is = omega (arith, b.at_is);
            bad = b.bad;
          }
          )
          )
          )
          (λ why bad. not_here why (inr (told, is, bad))),
    )
    )

-- one header gives one world
one_header : (text : List ℕ) (a b : Limits) → IsHeader text a → IsHeader text b → a ≡ b
one_header text a b x y =
    let one : header_of Trace text ≡ Ok a = header_again Trace text a x.may_open x.text_is in
    let other : header_of Trace text ≡ Ok b = header_again Trace text b y.may_open y.text_is in
    cc

-- behind its header a legal trace runs to its end
runs_behind : (lines : List (List ℕ)) (limits : Limits) (trace : TraceLines) (t : Tell lines limits trace) → Runs (nothing limits) 2 t.texts trace
runs_behind lines limits trace t =
    let size : length lines ≡ length (t.header ∷ t.texts) = ap length t.lines_are in
    record { told = t.told; legal = t.legal; few = omega (arith, t.few, size) }

-- a trace that breaks off begins with a header
lines_behind : (lines : List (List ℕ)) (cut : List ℕ) (number : ℕ) (why : Why) (b : BreaksOff lines cut number why) → lines ≡ b.tell.header ∷ (b.tell.texts ++ b.behind)
lines_behind lines cut number why b = b.lines_are ∙ ap (λ (ts : List (List ℕ)). ts ++ b.behind) b.tell.lines_are

-- and breaks off behind it
breaks_behind : (lines : List (List ℕ)) (cut : List ℕ) (number : ℕ) (why : Why) (b : BreaksOff lines cut number why) → Breaks (nothing b.limits) 2 b.tell.texts b.behind cut number why
breaks_behind lines cut number why b =
    let size : length b.before ≡ length (b.tell.header ∷ b.tell.texts) = ap length b.tell.lines_are in
    record { trace = b.trace; runs = runs_behind b.before b.limits b.trace b.tell; at_is = omega (arith, b.number_is, size); bad = b.bad }

-- with such a header, the trace breaks off so
breaks_off : (header : List ℕ) (limits : Limits) (texts behind lines : List (List ℕ)) (cut : List ℕ) (number : ℕ) (why : Why) → IsHeader header limits → lines ≡ texts ++ behind
    → Breaks (nothing limits) 2 texts behind cut number why → BreaksOff (header ∷ lines) cut number why
breaks_off header limits texts behind lines cut number why is e b = record {
  before = header ∷ texts;
  behind = behind;
  lines_are = ap (λ (ts : List (List ℕ)). header ∷ ts) e;
  limits = limits;
  trace = b.trace;
  tell = record {
    header = header;
    texts = texts;
    lines_are = refl;
    few = omega (arith, b.runs.few);
    is_header = is;
    told = b.runs.told;
    legal = b.runs.legal;
  };
  number_is = omega (arith, b.at_is);
  bad = b.bad;
}

pub has_header : (lines : List (List ℕ)) (header : List ℕ) (texts : List (List ℕ)) (limits : Limits) → lines ≡ header ∷ texts → IsHeader header limits → ¬ LacksHeader lines
has_header lines header texts limits e is lacks = subst LacksHeader e lacks (limits, is)

-- a legal trace breaks off nowhere
pub legal_stays : (lines : List (List ℕ)) (cut : List ℕ) (number : ℕ) (why : Why) (limits : Limits) (trace : TraceLines) → Tell lines limits trace → cut ≡ [] → BreaksOff lines cut number why → ⊥
legal_stays lines cut number why limits trace t none b =
    let d = b.tell in
    let e = sym t.lines_are ∙ lines_behind lines cut number why b in
    let same : t.header ≡ d.header = first_same t.header d.header t.texts (d.texts ++ b.behind) e in
    let one : b.limits ≡ limits = one_header t.header b.limits limits (subst (λ (h : List ℕ). IsHeader h b.limits) (sym same) d.is_header) t.is_header in
    legal_or_breaks (nothing limits) 2 t.texts d.texts b.behind cut number why trace (rest_same t.header d.header t.texts (d.texts ++ b.behind) e)
    (runs_behind lines limits trace t) none
    (subst (λ (l : Limits). Breaks (nothing l) 2 d.texts b.behind cut number why) one (breaks_behind lines cut number why b))

-- a text breaks off at one line
pub one_break : (lines : List (List ℕ)) (cut : List ℕ) (n m : ℕ) (why other : Why) → BreaksOff lines cut n why → BreaksOff lines cut m other → (n ≡ m) × (why ≡ other)
one_break lines cut n m why other b c =
    let d = b.tell in
    let f = c.tell in
    let e = sym (lines_behind lines cut n why b) ∙ lines_behind lines cut m other c in
    let same : d.header ≡ f.header = first_same d.header f.header (d.texts ++ b.behind) (f.texts ++ c.behind) e in
    let one : c.limits ≡ b.limits = one_header d.header c.limits b.limits (subst (λ (h : List ℕ). IsHeader h c.limits) (sym same) f.is_header) d.is_header in
    two_breaks (nothing b.limits) 2 d.texts f.texts b.behind c.behind cut n m why other (rest_same d.header f.header (d.texts ++ b.behind) (f.texts ++ c.behind) e)
    (breaks_behind lines cut n why b) (subst (λ (l : Limits). Breaks (nothing l) 2 f.texts c.behind cut m other) one (breaks_behind lines cut m other c))

-- lines that are no legal trace aren't without a bad one
pub some_bad : (lines : List (List ℕ)) (cut : List ℕ) → ((limits : Limits) (trace : TraceLines) → Tell lines limits trace → cut ≢ []) → ¬ LacksHeader lines
    → ((number : ℕ) (why : Why) → ¬ BreaksOff lines cut number why) → ⊥
some_bad [] cut no_run has no_break = has tt
some_bad (header ∷ lines) cut no_run has no_break =
    has (
    λ found.
    let limits = found.0 in
    let is = found.1 in
    some_break (nothing limits) 2 lines cut (omega arith)
    (
    λ trace run. no_run limits trace (record {
      header = header;
      texts = lines;
      lines_are = refl;
      few = omega (arith, run.few);
      is_header = is;
      told = run.told;
      legal = run.legal;
    })
    )
    (λ texts behind at why e b. no_break at why (breaks_off header limits texts behind lines cut at why is e b))
    )

lacks_or_breaks : (lines : List (List ℕ)) (cut : List ℕ) (n : ℕ) (why : Why) → LacksHeader lines → BreaksOff lines cut n why → ⊥
lacks_or_breaks lines cut n why lacks b = has_header lines b.tell.header (b.tell.texts ++ b.behind) b.limits (lines_behind lines cut n why b) b.tell.is_header lacks

pub one_verdict : (text : List ℕ) (n m : ℕ) (why other : Why) → IsFirstBad text n why → IsFirstBad text m other → (n ≡ m) × (why ≡ other)
one_verdict text n m why other (inl one) (inl two) = (one.0 ∙ sym two.0, one.1 ∙ sym two.1)
one_verdict text n m why other (inl one) (inr two) = absurd (lacks_or_breaks (lines_from [] text) (rest_from [] text) m other one.2 two)
one_verdict text n m why other (inr one) (inl two) = absurd (lacks_or_breaks (lines_from [] text) (rest_from [] text) n why two.2 one)
one_verdict text n m why other (inr one) (inr two) = one_break (lines_from [] text) (rest_from [] text) n m why other one two

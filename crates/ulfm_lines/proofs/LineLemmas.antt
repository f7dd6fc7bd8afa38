-- A line that tells something is read, and what is read is told by it.
use Rattle.std.proofs.Common.{◌≡◌, ℕ, ◌<◌, List, [], ◌∷◌, ◌++◌, length, Option, Some, None, Result, Ok, Err, Bool, cond, refl, sym, ap, subst, ◌∙◌, append_assoc}
use Rattle.std.specs.{Prelude.{codes}, Fmt.{decimal}, Str.{bytes_eq}}
use Rattle.ulfm_model.specs.declared.event.Caller.{Caller}
use Rattle.ulfm_script.specs.declared.line_kind.LineKind.{LineKind}
use Rattle.ulfm_script.specs.declared.line_kind.LineKind.TheVariants.{Words}
use Rattle.ulfm_script.specs.{Calls.{ScriptCall, call_of}, Spelling.{is_padded}, Steps.{◌>>=◌}, Words.{first_word}}
use Rattle.ulfm_script.proofs.{Spelled.{read_is_spelled, spelled_again, verb_found}, WordLemmas.{joined, joined_word, step_found}}
use Rattle.ulfm_lines.specs.{EventReading.{ReadEvent, event_of}, Fields.{Field, both, caller_field, number_field, point_field, rank_field, whole}, LineReading.{SomeReply, called_line, happened, happened_line, line_from, line_head, line_listing, looked_line, made_by, replied_line, some_reply_of}, LineTexts.{TraceEvent, TraceLine, caller_text, two_text}, Telling.{AreRanks, CallerFits, TellsLine, behind_ranks}}
use Rattle.ulfm_model.specs.declared.line.Line.TheVariants.{Called, Looked, Happened, Replied}
use Rattle.ulfm_lines.proofs.{EventLemmas.{event_again, event_found}, FieldLemmas.{IsField, both_fields, is_caller, is_number, is_point, is_rank, same_field, whole_again, whole_found}, RankLemmas.{nobody}, ReplyLemmas.{IsReadAs, reply_again, reply_found}}

abbrev with_rest : {A : Type 0} → A → Option (List ℕ) → Field A
with_rest x rest = Ok (x, rest)

-- the text tells what was read of it, once the ranks behind it are read
abbrev pub LineListed : List ℕ → TraceLine → Option (List ℕ) → Type 0
LineListed text line rest = (g : List ℕ) → AreRanks g → behind_ranks g ≡ rest → TellsLine text g (line_listing (length g) line)

abbrev Reads : (verb : List ℕ) → (Option (List ℕ) → Field TraceLine) → Type 0
Reads verb line_at = (fields : Option (List ℕ)) (line : TraceLine) (rest : Option (List ℕ)) → line_at fields ≡ Ok (line, rest) → LineListed (joined verb fields) line rest

called_found : Reads (codes "call") called_line
unfolding called_line
called_found None line rest e g ranks behind = absurd cc
called_found (Some text) line rest e g ranks behind =
    let x = step_found (call_of text) (λ asked. with_rest (Called asked (is_padded text asked)) None) (line, rest) e in
    let same = same_field (Called x.0 (is_padded text x.0)) line None rest x.2 in
    subst (λ (l : TraceLine). TellsLine (codes "call" ++ 32 ∷ text) g (line_listing (length g) l)) same.0 (text, refl, record { spells = read_is_spelled text x.0 x.1; padded_is = refl }, nobody g (behind ∙ sym same.1))

is_looking : IsField (both rank_field number_field) (λ x. two_text x.0 x.1) (λ x. (x.0 < 1024) × (x.1 < 10000))
is_looking = both_fields rank_field number_field decimal decimal (λ r. r < 1024) (λ n. n < 10000) is_rank is_number

looked_found : Reads (codes "look") looked_line
unfolding looked_line
looked_found fields line rest e g ranks behind =
    let x = step_found (whole (both rank_field number_field) fields) (λ x. with_rest (Looked x.0 x.1) None) (line, rest) e in
    let same = same_field (Looked x.0.0 x.0.1) line None rest x.2 in
    let f = whole_found (both rank_field number_field) (λ x. two_text x.0 x.1) (λ x. (x.0 < 1024) × (x.1 < 10000)) is_looking fields x.0 x.1 in
    subst (λ (l : TraceLine). TellsLine (joined (codes "look") fields) g (line_listing (length g) l)) same.0 (f.0.0, f.0.1, ap (joined (codes "look")) f.1, nobody g (behind ∙ sym same.1))

happened_found : Reads (codes "event") happened_line
unfolding happened_line
happened_found fields line rest e g ranks behind =
    let x = step_found (happened fields) (λ x. with_rest (Happened x.0 x.1) None) (line, rest) e in
    let by = step_found (caller_field fields) (λ by. made_by by.0 (event_of by.1)) x.0 x.1 in
    let event = step_found (event_of by.0.1) (λ event. made_by by.0.0 (Ok event)) x.0 by.2 in
    let pair : (by.0.0, event.0) ≡ x.0 = cc event.2 in
    let same = same_field (Happened x.0.0 x.0.1) line None rest x.2 in
    let c = is_caller.found fields by.0.0 by.0.1 by.1 in
    let t = event_found by.0.1 event.0 event.1 in
    subst (λ (l : TraceLine). TellsLine (joined (codes "event") fields) g (line_listing (length g) l)) (ap (λ (p : Caller × Option TraceEvent). Happened p.0 p.1) pair ∙ same.0)
    (t.0, c.0, ap (joined (codes "event")) (c.1 ∙ ap (λ (o : Option (List ℕ)). Some (joined (caller_text by.0.0) o)) t.1), t.2, nobody g (behind ∙ sym same.1))

abbrev replied_text : Caller × ℕ → List ℕ
replied_text x = caller_text x.0 ++ 32 ∷ decimal x.1

abbrev replied_fits : Caller × ℕ → Type 0
replied_fits x = CallerFits x.0 × (x.1 < 10000000)

is_replied : IsField (both caller_field point_field) replied_text replied_fits
is_replied = both_fields caller_field point_field caller_text decimal CallerFits (λ n. n < 10000000) is_caller is_point

replied_found : Reads (codes "reply") replied_line
unfolding replied_line
replied_found fields line rest e g ranks behind =
    let x = step_found (both caller_field point_field fields) (λ x. some_reply_of x.1 >>= λ told. with_rest (Replied x.0.0 x.0.1 told.0) told.1) (line, rest) e in
    let r = step_found (some_reply_of x.0.1) (λ told. with_rest (Replied x.0.0.0 x.0.0.1 told.0) told.1) (line, rest) x.2 in
    let same = same_field (Replied x.0.0.0 x.0.0.1 r.0.0) line r.0.1 rest r.2 in
    let f = is_replied.found fields x.0.0 x.0.1 x.1 in
    let t = reply_found x.0.1 r.0.0 r.0.1 r.1 in
    let text : joined (codes "reply") fields ≡ codes "reply " ++ (caller_text x.0.0.0 ++ 32 ∷ (decimal x.0.0.1 ++ 32 ∷ t.0)) =
    ap (joined (codes "reply")) (f.1 ∙ ap (λ (o : Option (List ℕ)). Some (joined (replied_text x.0.0) o)) t.1)
    ∙ ap (λ (w : List ℕ). codes "reply " ++ w) (append_assoc (caller_text x.0.0.0) (32 ∷ decimal x.0.0.1) (32 ∷ t.0)) in
    subst (λ (l : TraceLine). TellsLine (joined (codes "reply") fields) g (line_listing (length g) l)) same.0
    (t.0, f.0.0, f.0.1, text, t.2 g ranks (behind ∙ sym same.1))

verb_listed : (word verb : List ℕ) (fields : Option (List ℕ)) (line_at : Option (List ℕ) → Field TraceLine) (other : Field TraceLine) (line : TraceLine) (rest : Option (List ℕ)) → Reads verb line_at
    → (other ≡ Ok (line, rest) → LineListed (joined word fields) line rest) → cond (bytes_eq word verb) (line_at fields) other ≡ Ok (line, rest) → LineListed (joined word fields) line rest
verb_listed word verb fields line_at other line rest reads = verb_found (λ text x. LineListed text x.0 x.1) word verb fields line_at other (line, rest) (λ behind x. reads behind x.0 x.1)

no_verb : (text : List ℕ) (line : TraceLine) (rest : Option (List ℕ)) → (let r : Field TraceLine = Err Words in r) ≡ Ok (line, rest) → LineListed text line rest
no_verb text line rest e = absurd cc

read_from : (word : List ℕ) (fields : Option (List ℕ)) (line : TraceLine) (rest : Option (List ℕ)) → line_from (word, fields) ≡ Ok (line, rest) → LineListed (joined word fields) line rest
read_from word fields line rest e = verb_listed word (codes "call") fields called_line _ line rest called_found
    (verb_listed word (codes "look") fields looked_line _ line rest looked_found
    (verb_listed word (codes "event") fields happened_line _ line rest happened_found
    (verb_listed word (codes "reply") fields replied_line _ line rest replied_found (no_verb (joined word fields) line rest)))) e

-- what was read is told by the line
pub line_found : (text : List ℕ) (line : TraceLine) (rest : Option (List ℕ)) → line_head text ≡ Ok (line, rest) → LineListed text line rest
unfolding line_head
line_found text line rest e = subst (λ (t : List ℕ). LineListed t line rest) (joined_word text) (read_from (first_word text).0 (first_word text).1 line rest e)

-- a line that tells something is read so
abbrev pub IsLineRead : List ℕ → List ℕ → TraceLine → Type 0
IsLineRead text group told = IsReadAs line_listing (line_head text) group told

-- what is told is read

alone_read : (text group : List ℕ) (told : TraceLine) → group ≡ [] → ((n : ℕ) → line_listing n told ≡ told) → line_head text ≡ with_rest told None → IsLineRead text group told
alone_read text group told none same read = record {
  head = told;
  rest = None;
  ranks = subst AreRanks (sym none) tt;
  behind = ap behind_ranks none;
  listed = same (length group);
  read = read;
}

looked_again : (r count : ℕ) → r < 1024 → count < 10000 → line_head (codes "look " ++ two_text r count) ≡ with_rest (Looked r count) None
unfolding line_head looked_line
looked_again r count h k = ap (λ (x : Result (ℕ × ℕ) LineKind). x >>= λ x. with_rest (Looked x.0 x.1) None) (whole_again (both rank_field number_field) (λ x. two_text x.0 x.1) (λ x. (x.0 < 1024) × (x.1 < 10000)) is_looking (r, count) (h, k))

-- a line that tells something is read
pub line_again : (text group : List ℕ) (told : TraceLine) → TellsLine text group told → IsLineRead text group told
unfolding line_head called_line happened_line replied_line
line_again text group (Called asked padded) h =
    alone_read text group (Called asked padded) h.3 (λ n. refl)
    (ap line_head h.1 ∙ ap (λ (c : Result ScriptCall LineKind). c >>= λ asked. with_rest (Called asked (is_padded h.0 asked)) None) (spelled_again h.0 asked h.2.spells)
    ∙ ap (λ (p : Bool). with_rest (Called asked p) None) (sym h.2.padded_is))
line_again text group (Looked r count) h = alone_read text group (Looked r count) h.3 (λ n. refl) (ap line_head h.2 ∙ looked_again r count h.0 h.1)
line_again text group (Happened by event) h =
    alone_read text group (Happened by event) h.4 (λ n. refl)
    (ap line_head h.2 ∙ ap (λ (c : Field Caller). (c >>= λ by. made_by by.0 (event_of by.1)) >>= λ x. with_rest (Happened x.0 x.1) None) (is_caller.again by (Some h.0) h.1)
    ∙ ap (λ (c : ReadEvent). made_by by c >>= λ x. with_rest (Happened x.0 x.1) None) (event_again h.0 event h.3))
line_again text group (Replied by point told) h =
    let r = reply_again h.0 group told h.4 in
    let x : Caller × ℕ = (by, point) in
    let read : line_head text ≡ with_rest (Replied by point r.head) r.rest =
    ap line_head (h.3 ∙ ap (λ (w : List ℕ). codes "reply " ++ w) (sym (append_assoc (caller_text by) (32 ∷ decimal point) (32 ∷ h.0))))
    ∙ ap (λ (c : Field (Caller × ℕ)). c >>= λ x. some_reply_of x.1 >>= λ told. with_rest (Replied x.0.0 x.0.1 told.0) told.1) (is_replied.again x (Some h.0) (h.1, h.2))
    ∙ ap (λ (c : Field SomeReply). c >>= λ told. with_rest (Replied by point told.0) told.1) r.read in
    record { head = Replied by point r.head; rest = r.rest; ranks = r.ranks; behind = r.behind; listed = ap (λ (t : SomeReply). Replied by point t) r.listed; read = read }

-- What reading a line of a trace gives.
use Rattle.std.proofs.Common.{◌≡◌, ℕ, ◌≤◌, List, [], ◌∷◌, ◌++◌, length, Option, Some, None, Result, Ok, Err, Bool, true, false, refl, sym, ap, subst, ◌∙◌, arith, length-append}
use Rattle.std.specs.{Prelude.{codes}, Fmt.{decimal}}
use Rattle.ulfm_model.specs.declared.reply.Reply.TheVariants as reply
use Rattle.ulfm_script.specs.declared.line_kind.LineKind.{LineKind}
use Rattle.ulfm_script.specs.{Calls.{call_of}, Printed.{ranks_text, reply_text, shrunk_text}, Spelling.{SpellsAs, is_padded, spelled_text}, Steps.{◌>>=◌}}
use Rattle.ulfm_script.proofs.Spelled.{spelled_as}
use Rattle.ulfm_lines.specs.{Fields.{Field, is_word_text}, LineReading.{SomeReply, called_line, happened, happened_line, line_from, line_head, line_listing, looked, looked_line}, LineTexts.{TraceLine, caller_text, event_text, line_text}, Telling.{LineFits, ListsRanks, TextTells, TellsLine, TellsReply}}
use Rattle.ulfm_model.specs.declared.line.Line.TheVariants.{Called, Looked, Happened, Replied}
use Rattle.ulfm_lines.proofs.{Beginnings.{line_ahead}, FieldLemmas.{same_field}, LineLemmas.{line_again, line_found}, RankLemmas.{ranks_few, ranks_once}}

-- what was read is told
pub found_line : (text group : List ℕ) (head : TraceLine) (rest : Option (List ℕ)) → line_head text ≡ Ok (head, rest) → ListsRanks rest group true → length text ≤ 8192
    → TextTells text group (line_listing (length group) head)
found_line text group head rest read lists short = (short, line_found text head rest read group lists.0 lists.1)

-- a line that is told is read, with its ranks
pub only_line : (text group : List ℕ) (head : TraceLine) (rest : Option (List ℕ)) (told : TraceLine) (ranks : List ℕ) → line_head text ≡ Ok (head, rest) → ListsRanks rest group true → TextTells text ranks told
    → (line_listing (length group) head ≡ told) × (group ≡ ranks)
only_line text group head rest told ranks read lists tells =
    let r = line_again text ranks told tells.1 in
    let same = same_field head r.head rest r.rest (sym read ∙ r.read) in
    let one : group ≡ ranks = ranks_once group ranks lists.0 r.ranks (lists.1 ∙ same.1 ∙ sym r.behind) in
    (ap (λ (n : ℕ). line_listing n head) (ap length one) ∙ ap (line_listing (length ranks)) same.0 ∙ r.listed, one)

-- a line that couldn't be read tells nothing
pub no_head : (text : List ℕ) (kind : LineKind) (told : TraceLine) (ranks : List ℕ) → line_head text ≡ Err kind → TextTells text ranks told → ⊥
no_head text kind told ranks read tells =
    let r = line_again text ranks told tells.1 in
    let k : (let x : Field TraceLine = Err kind in x) ≡ Ok (r.head, r.rest) = sym read ∙ r.read in cc

-- nor does one with something else behind it
pub no_ranks : (text group : List ℕ) (head : TraceLine) (rest : Option (List ℕ)) (told : TraceLine) (ranks : List ℕ) → line_head text ≡ Ok (head, rest) → ListsRanks rest group false → TextTells text ranks told → ⊥
no_ranks text group head rest told ranks read lists tells =
    let r = line_again text ranks told tells.1 in
    let same = same_field head r.head rest r.rest (sym read ∙ r.read) in
    lists ranks r.ranks (r.behind ∙ sym same.1)

-- one text tells one line
pub one_line : (text g h : List ℕ) (a b : TraceLine) → TextTells text g a → TextTells text h b → (a ≡ b) × (g ≡ h)
one_line text g h a b x y =
    let r = line_again text g a x.1 in
    let o = only_line text g r.head r.rest b h r.read (r.ranks, r.behind) y in
    (sym r.listed ∙ o.0, o.1)

-- a line of a verb that lists nobody, by what is read behind it
module _ {X : Type 0} (verb text rest : List ℕ) (word : is_word_text verb ≡ true) (ahead : text ≡ verb ++ 32 ∷ rest) (read : Result X LineKind) (line : X → TraceLine)
    (is_line : line_from (verb, Some rest) ≡ (read >>= λ x. let told : Field TraceLine = Ok (line x, None) in told)) where
  abbrev is_head : (found : Result X LineKind) → found ≡ read → line_head text ≡ (found >>= λ x. let told : Field TraceLine = Ok (line x, None) in told)
  is_head found is = sym (line_ahead verb text rest word ahead) ∙ is_line ∙ ap (λ r. r >>= λ x. let told : Field TraceLine = Ok (line x, None) in told) (sym is)

  -- what was read is told, and nothing else is
  pub told_by : (x : X) → length text ≤ 8192 → Ok x ≡ read
      → TextTells text [] (line_listing 0 (line x)) × ((told : TraceLine) → TextTells text [] told → Some (line_listing 0 (line x)) ≡ Some told)
  told_by x short is =
      let found = found_line text [] (line x) None (is_head (Ok x) is) (tt, refl) short in
      (found, λ told tells. ap (λ (t : TraceLine). Some t) (one_line text [] [] (line_listing 0 (line x)) told found tells).0)

  -- where nothing can be read, nothing is told
  pub untold_by : (kind : LineKind) → Err kind ≡ read → (told : TraceLine) → TextTells text [] told → None ≡ Some told
  untold_by kind is told tells = absurd (no_head text kind told [] (is_head (Err kind) is) tells)

-- the lines of calls, looks and events, by what is read behind their verbs
pub is_call : (rest : List ℕ) → line_from (codes "call", Some rest) ≡ (call_of rest >>= λ asked. Ok (Called asked (is_padded rest asked), None))
unfolding called_line
is_call rest = refl

pub is_look : (rest : List ℕ) → line_from (codes "look", Some rest) ≡ (looked (Some rest) >>= λ x. Ok (Looked x.0 x.1, None))
unfolding looked_line
is_look rest = refl

pub is_event : (rest : List ℕ) → line_from (codes "event", Some rest) ≡ (happened (Some rest) >>= λ x. Ok (Happened x.0 x.1, None))
unfolding happened_line
is_event rest = refl

nobody_few : (g : List ℕ) (n : ℕ) → g ≡ [] → length g ≤ n
nobody_few g n e = omega (arith, ap length e)

members_few : (text g : List ℕ) (comm context : ℕ) → text ≡ shrunk_text comm context g → length g ≤ length text
members_few text g comm context e =
    omega (arith, ap length e, ranks_few g, length-append (decimal comm) (codes " context " ++ (decimal context ++ (codes " members" ++ ranks_text g))), length-append (decimal context) (codes " members" ++ ranks_text g))

failed_few : (text g : List ℕ) → text ≡ codes "failed" ++ ranks_text g → length g ≤ length text
failed_few text g e = omega (arith, ap length e, ranks_few g)

reply_few : (text g : List ℕ) (told : SomeReply) → TellsReply text g told → length g ≤ length text
reply_few text g None h = members_few text g h.comm h.context h.text_is
reply_few text g (Some reply.Started) h = nobody_few g (length text) h.0
reply_few text g (Some reply.Pending) h = nobody_few g (length text) h.0
reply_few text g (Some (reply.Agreed raised count value)) h = nobody_few g (length text) h.0.1
reply_few text g (Some (reply.Shrunk comm context size)) h = members_few text g comm context h.1
reply_few text g (Some reply.Done) h = nobody_few g (length text) h.0
reply_few text [] (Some (reply.FailedGroup count)) h = omega arith
reply_few text (r ∷ g) (Some (reply.FailedGroup count)) h = failed_few text (r ∷ g) h.1
reply_few text g (Some (reply.Acked count)) h = nobody_few g (length text) h.0.1
reply_few text g (Some reply.Declared) h = nobody_few g (length text) h.0
reply_few text g (Some reply.AlreadyFailed) h = nobody_few g (length text) h.0
reply_few text g (Some reply.Revoked) h = nobody_few g (length text) h.0
reply_few text g (Some reply.AlreadyRevoked) h = nobody_few g (length text) h.0
reply_few text g (Some (reply.Standing revoked)) h = nobody_few g (length text) h.0
reply_few text g (Some reply.Freed) h = nobody_few g (length text) h.0
reply_few text g (Some (reply.Refused refusal)) h = nobody_few g (length text) h.0.1

lists_few : (text g : List ℕ) (told : TraceLine) → TellsLine text g told → length g ≤ length text
lists_few text g (Called asked padded) h = nobody_few g (length text) h.3
lists_few text g (Looked r count) h = nobody_few g (length text) h.3
lists_few text g (Happened by event) h = nobody_few g (length text) h.4
lists_few text g (Replied by point told) h =
    omega (arith, ap length h.3, reply_few h.0 g told h.4, length-append (caller_text by) (32 ∷ (decimal point ++ 32 ∷ h.0)), length-append (decimal point) (32 ∷ h.0))

-- a line lists fewer ranks than it has bytes
pub few_ranks : (text group : List ℕ) (head : TraceLine) (rest : Option (List ℕ)) → line_head text ≡ Ok (head, rest) → ListsRanks rest group true → length text ≤ 8192 → length group ≤ 8192
few_ranks text group head rest read lists short =
    omega (arith, lists_few text group (line_listing (length group) head) (line_found text head rest read group lists.0 lists.1), short)

printed_line : (group : List ℕ) (line : TraceLine) → LineFits group line → TellsLine (line_text group line) group line
printed_line group (Called asked padded) h = (spelled_text padded asked, refl, subst (λ (t : List ℕ). SpellsAs padded t asked) (spelled_as padded h.0.0 asked h.0.1) h.0.1, h.1)
printed_line group (Looked r count) h = (h.0, h.1, refl, h.2)
printed_line group (Happened by None) h = absurd h
printed_line group (Happened by (Some event)) h = (event_text event, h.0, refl, (h.1, refl), h.2)
printed_line group (Replied by point None) h = absurd h
printed_line group (Replied by point (Some told)) h = (reply_text group told, h.0, h.1, refl, (h.2, refl))

-- what is printed is told
pub printed_told : (group : List ℕ) (line : TraceLine) → LineFits group line → length (line_text group line) ≤ 8192 → TextTells (line_text group line) group line
printed_told group line h short = (short, printed_line group line h)

-- the same, by whether the ranks were read
pub only_read : (text group : List ℕ) (head : TraceLine) (rest : Option (List ℕ)) (read : Bool) → read ≡ true → line_head text ≡ Ok (head, rest) → ListsRanks rest group read → (told : TraceLine) (ranks : List ℕ) → TextTells text ranks told
    → (line_listing (length group) head ≡ told) × (group ≡ ranks)
only_read text group head rest read is is_head lists told ranks tells = only_line text group head rest told ranks is_head (subst (ListsRanks rest group) is lists) tells

pub found_read : (text group : List ℕ) (head : TraceLine) (rest : Option (List ℕ)) (read : Bool) → read ≡ true → line_head text ≡ Ok (head, rest) → ListsRanks rest group read → length text ≤ 8192
    → TextTells text group (line_listing (length group) head)
found_read text group head rest read is is_head lists short = found_line text group head rest is_head (subst (ListsRanks rest group) is lists) short

pub few_read : (text group : List ℕ) (head : TraceLine) (rest : Option (List ℕ)) (read : Bool) → read ≡ true → line_head text ≡ Ok (head, rest) → ListsRanks rest group read → length text ≤ 8192 → length group ≤ 8192
few_read text group head rest read is is_head lists short = few_ranks text group head rest is_head (subst (ListsRanks rest group) is lists) short

pub none_read : (text group : List ℕ) (head : TraceLine) (rest : Option (List ℕ)) (read : Bool) → read ≡ false → line_head text ≡ Ok (head, rest) → ListsRanks rest group read → (told : TraceLine) (ranks : List ℕ) → TextTells text ranks told → ⊥
none_read text group head rest read is is_head lists told ranks tells = no_ranks text group head rest told ranks is_head (subst (ListsRanks rest group) is lists) tells

-- A reply that a line tells is read from it, and one that is read is told by it.
use Rattle.std.proofs.Common.{◌≡◌, ◌≢◌, ℕ, ◌<◌, List, [], ◌∷◌, ◌++◌, length, Option, Some, None, Result, Ok, Err, Bool, true, false, cond, ◌&&◌, refl, sym, ap, subst, ◌∙◌, inl, inr, arith}
use Rattle.std.specs.{Prelude.{◌==◌, ⊤, codes}, Fmt.{decimal}, Str.{bytes_eq}}
use Rattle.std.proofs.lemmas.{Bool.{cases_lt, lt-ltb, le-ltb}, Bool.Decides.{nat_tests}, Slice.Eq.{bytes_eq-Decides}}
use Rattle.ulfm_laws.specs.declared.flag_and.FlagAnd.{FlagAnd}
use Rattle.ulfm_model.specs.declared.{refusal.Refusal.{Refusal}, reply.Reply.{Reply}}
use Rattle.ulfm_model.specs.declared.refusal.Refusal.TheVariants as refusal
use Rattle.ulfm_model.specs.declared.reply.Reply.TheVariants as reply
use Rattle.ulfm_model.specs.Answers.{printed}
use Rattle.ulfm_script.specs.declared.line_kind.LineKind.{LineKind}
use Rattle.ulfm_script.specs.declared.line_kind.LineKind.TheVariants.{Number, Words}
use Rattle.ulfm_script.specs.{Digits.{flag_text, number_in, number_to}, Printed.{ranks_text, reply_text, shrunk_text}, Steps.{◌>>=◌}, Words.{next_word}}
use Rattle.ulfm_script.proofs.{Spelled.{chosen, verb_found}, WordLemmas.{IsWord, done, joined, next_found, same_done, step_found}}
use Rattle.ulfm_lines.specs.{Fields.{Field, both, comm_field, error_field, flag_field, label_field, labelled, number_field, over, rank_field, whole}, LineReading.{SomeReply, acked_reply, read_agreed, alone, failed_reply, listing, made, or_refusal, or_reply, read_plain, refusal_field, read_refusal, refused_reply, reply_from, read_shrunk, some_reply_of, told_listing}, Telling.{AreRanks, ReplyFits, TellsReply, behind_ranks}}
use Rattle.ulfm_lines.proofs.FieldLemmas.{IsField, both_fields, error_word, two_ways, is_comm, is_error, is_flag, is_label, is_labelled, is_number, joined_more, next_joined, over_found, same_field, whole_again, whole_found}
use Rattle.ulfm_lines.proofs.RankLemmas.{nobody, rank_again, somebody}
use Rattle.ulfm_lines.proofs.Literals.{and_true, literal}

-- the text tells what was read of it, once the ranks behind it are read
abbrev pub Listed : List ℕ → SomeReply → Option (List ℕ) → Type 0
Listed text told rest = (g : List ℕ) → AreRanks g → behind_ranks g ≡ rest → TellsReply text g (told_listing (length g) told)

-- what was read, once its ranks are read, is what is told
pub record IsReadAs {A : Type 0} (listing : ℕ → A → A) (reading : Field A) (group : List ℕ) (told : A) : Type 0 where
  pub head : A
  pub rest : Option (List ℕ)
  pub ranks : AreRanks group
  pub behind : behind_ranks group ≡ rest
  pub listed : listing (length group) head ≡ told
  pub read : reading ≡ Ok (head, rest)

-- a text that is told is read so
abbrev pub IsReadBack : List ℕ → List ℕ → SomeReply → Type 0
IsReadBack text group told = IsReadAs told_listing (some_reply_of (Some text)) group told

-- the replies of one word

abbrev IsPlain : List ℕ → Reply FlagAnd → Type 0
IsPlain word one = (word ≡ reply_text [] one) × ((n : ℕ) → told_listing n (Some one) ≡ Some one) × ReplyFits one []

one_reply : (word : List ℕ) (one found : Reply FlagAnd) (other : Result (Reply FlagAnd) LineKind) → ((n : ℕ) → told_listing n (Some one) ≡ Some one) → ReplyFits one []
    → (other ≡ Ok found → IsPlain word found) → or_reply word one other ≡ Ok found → IsPlain word found
one_reply word one found other same fits rest e = elim (chosen (bytes_eq word (reply_text [] one)) (Ok one) other (Ok found) e) [
  | inl this ↦ subst (IsPlain word) (same_done one found this.1) ((bytes_eq-Decides word (reply_text [] one)).0 this.0, same, fits)
  | inr that ↦ rest that.1
]

no_reply : (word : List ℕ) (found : Reply FlagAnd) → (let r : Result (Reply FlagAnd) LineKind = Err Words in r) ≡ Ok found → IsPlain word found
no_reply word found e = absurd cc

plain_found : (word : List ℕ) (found : Reply FlagAnd) → read_plain word ≡ Ok found → IsPlain word found
unfolding read_plain
plain_found word found e = one_reply word reply.Started found _ (λ n. refl) refl (one_reply word reply.Pending found _ (λ n. refl) refl
    (one_reply word reply.Done found _ (λ n. refl) refl (one_reply word reply.Declared found _ (λ n. refl) refl
    (one_reply word reply.AlreadyFailed found _ (λ n. refl) refl (one_reply word reply.Revoked found _ (λ n. refl) refl
    (one_reply word reply.AlreadyRevoked found _ (λ n. refl) refl (one_reply word (reply.Standing true) found _ (λ n. refl) refl
    (one_reply word (reply.Standing false) found _ (λ n. refl) refl (one_reply word reply.Freed found _ (λ n. refl) refl (no_reply word found)))))))))) e

-- refusals

abbrev refusal_text : Refusal → List ℕ
refusal_text one = decimal (printed one).0 ++ 32 ∷ (printed one).1

abbrev IsTold : Refusal → Type 0
IsTold one = one ≢ refusal.OutOfMemory

equal_numbers : (m n : ℕ) → (m == n) ≡ true → m ≡ n
equal_numbers m n e = grind (arith, nat_tests, e)

abbrev IsNamed : ℕ → List ℕ → Refusal → Type 0
IsNamed number name one = (number ≡ (printed one).0) × (name ≡ (printed one).1) × IsTold one

one_refusal : (number : ℕ) (name : List ℕ) (one found : Refusal) (other : Result Refusal LineKind) → IsTold one → (other ≡ Ok found → IsNamed number name found)
    → or_refusal number name one other ≡ Ok found → IsNamed number name found
one_refusal number name one found other told rest e = elim (chosen ((number == (printed one).0) && bytes_eq name (printed one).1) (Ok one) other (Ok found) e) [
  | inl this ↦ (
      let t = and_true (number == (printed one).0) (bytes_eq name (printed one).1) this.0 in
      subst (IsNamed number name) (same_done one found this.1) (equal_numbers number (printed one).0 t.0, (bytes_eq-Decides name (printed one).1).0 t.1, told)
      )
  | inr that ↦ rest that.1
]

no_refusal : (number : ℕ) (name : List ℕ) (found : Refusal) → (let r : Result Refusal LineKind = Err Words in r) ≡ Ok found → IsNamed number name found
no_refusal number name found e = absurd cc

refusal_found : (number : ℕ) (name : List ℕ) (found : Refusal) → read_refusal number name ≡ Ok found → IsNamed number name found
unfolding read_refusal
refusal_found number name found e =
    one_refusal number name refusal.SelfFailed found _ (λ e. cc) (one_refusal number name refusal.NoSuchComm found _ (λ e. cc)
    (one_refusal number name refusal.Busy found _ (λ e. cc) (one_refusal number name refusal.ShrinkOpen found _ (λ e. cc)
    (one_refusal number name refusal.RoundsUsedUp found _ (λ e. cc) (one_refusal number name refusal.Idle found _ (λ e. cc)
    (one_refusal number name refusal.Mismatch found _ (λ e. cc) (one_refusal number name refusal.NoContext found _ (λ e. cc)
    (one_refusal number name refusal.NoRoom found _ (λ e. cc) (one_refusal number name refusal.IsRevoked found _ (λ e. cc)
    (one_refusal number name refusal.ProcFailed found _ (λ e. cc) (one_refusal number name refusal.WorldKept found _ (λ e. cc)
    (one_refusal number name refusal.NoSuchRank found _ (λ e. cc) (one_refusal number name refusal.Twice found _ (λ e. cc)
    (no_refusal number name found)))))))))))))) e

-- the name of a refusal can be a word, and both are read
refusal_again : (one : Refusal) → IsTold one → ((printed one).0 < 10000) × IsWord (printed one).1 × (read_refusal (printed one).0 (printed one).1 ≡ Ok one)
unfolding read_refusal
refusal_again refusal.OutOfMemory h = absurd (h refl)
refusal_again _ h = (omega arith, literal _ refl, refl)

abbrev with_rest : {A : Type 0} → A → Option (List ℕ) → Field A
with_rest x rest = Ok (x, rest)

is_refusal : IsField refusal_field refusal_text IsTold
unfolding refusal_field
is_refusal = record {
  again = λ one rest told.
      let r = refusal_again one told in
      rw (joined_more (decimal (printed one).0) (printed one).1 rest, is_number.again (printed one).0 (Some (joined (printed one).1 rest)) r.0, next_joined (printed one).1 rest r.1, r.2) refl;
  found = λ text one rest e.
      let n = step_found (number_field text) (λ number. next_word number.1 >>= λ name. read_refusal number.0 name.0 >>= λ one. with_rest one name.1) (one, rest) e in
      let w = step_found (next_word n.0.1) (λ name. read_refusal n.0.0 name.0 >>= λ one. with_rest one name.1) (one, rest) n.2 in
      let r = step_found (read_refusal n.0.0 w.0.0) (λ one. with_rest one w.0.1) (one, rest) w.2 in
      let same = same_field r.0 one w.0.1 rest r.2 in
      let f = refusal_found n.0.0 w.0.0 one (r.1 ∙ ap done same.0) in
      let number = is_number.found text n.0.0 n.0.1 n.1 in (
        f.2,
        number.1 ∙ ap (λ (o : Option (List ℕ)). Some (joined (decimal n.0.0) o)) (next_found n.0.1 w.0 w.1) ∙ ap (λ (t : List ℕ). Some t) (sym (joined_more (decimal n.0.0) w.0.0 w.0.1))
            ∙ ap (λ (k : ℕ). Some (joined (decimal k ++ 32 ∷ w.0.0) w.0.1)) f.0 ∙ ap (λ (t : List ℕ). Some (joined (decimal (printed one).0 ++ 32 ∷ t) w.0.1)) f.1
            ∙ ap (λ (o : Option (List ℕ)). Some (joined (refusal_text one) o)) same.1,
      );
}

-- replies of fields that are read whole

abbrev agreed_fields : Option (List ℕ) → Field (FlagAnd × (ℕ × Bool))
agreed_fields text = both flag_field (both (labelled (codes "failed")) error_field) text

abbrev failed_label : ℕ → List ℕ
failed_label n = codes "failed" ++ 32 ∷ decimal n

abbrev agreed_behind : FlagAnd × (ℕ × Bool) → List ℕ
agreed_behind x = flag_text x.0 ++ 32 ∷ (failed_label x.1.0 ++ 32 ∷ error_word x.1.1)

abbrev agreed_fits : FlagAnd × (ℕ × Bool) → Type 0
agreed_fits x = ⊤ × ((x.1.0 < 10000) × ⊤)

failed_word : IsWord (codes "failed")
failed_word = literal _ refl

is_agreed : IsField agreed_fields agreed_behind agreed_fits
is_agreed = both_fields flag_field (both (labelled (codes "failed")) error_field) flag_text (λ x. failed_label x.0 ++ 32 ∷ error_word x.1) (λ flag. ⊤) (λ x. (x.0 < 10000) × ⊤) is_flag
    (both_fields (labelled (codes "failed")) error_field failed_label error_word (λ n. n < 10000) (λ raised. ⊤) (is_labelled (codes "failed") failed_word) is_error)

agreed_line : (value : FlagAnd) (count : ℕ) (raised : Bool) → codes "agreed " ++ agreed_behind (value, (count, raised)) ≡ reply_text [] (reply.Agreed raised count value)
agreed_line value count true = refl
agreed_line value count false = refl

abbrev Reads : (verb : List ℕ) → (Option (List ℕ) → Field SomeReply) → Type 0
Reads verb reply_at = (fields : Option (List ℕ)) (told : SomeReply) (rest : Option (List ℕ)) → reply_at fields ≡ Ok (told, rest) → Listed (joined verb fields) told rest

-- a reply of its fields, which stand behind its verb
fields_found : {X : Type 0} (verb : List ℕ) (fields_at : Option (List ℕ) → Field X) (text_of : X → List ℕ) (Fits : X → Type 0) (make : X → Reply FlagAnd) → IsField fields_at text_of Fits
    → ((x : X) (n : ℕ) → told_listing n (Some (make x)) ≡ Some (make x)) → ((x : X) → Fits x → TellsReply (verb ++ 32 ∷ text_of x) [] (Some (make x)))
    → Reads verb (λ text. alone make (whole fields_at text))
fields_found verb fields_at text_of Fits make is same tells fields told rest e g ranks behind =
    let x = step_found (whole fields_at fields) (λ x. with_rest (Some (make x)) None) (told, rest) e in
    let is_told = same_field (Some (make x.0)) told None rest x.2 in
    let f = whole_found fields_at text_of Fits is fields x.0 x.1 in
    let none : g ≡ [] = nobody g (behind ∙ sym is_told.1) in
    let says : TellsReply (joined verb fields) [] (Some (make x.0)) = subst (λ (t : Option (List ℕ)). TellsReply (joined verb t) [] (Some (make x.0))) (sym f.1) (tells x.0 f.0) in
    let listed : told_listing (length g) told ≡ Some (make x.0) = ap (told_listing (length g)) (sym is_told.0) ∙ same x.0 (length g) in
    subst (TellsReply (joined verb fields) g) (sym listed) (subst (λ (h : List ℕ). TellsReply (joined verb fields) h (Some (make x.0))) (sym none) says)

agreed_found : Reads (codes "agreed") read_agreed
unfolding read_agreed
agreed_found = fields_found (codes "agreed") agreed_fields agreed_behind agreed_fits (λ x. reply.Agreed x.1.1 x.1.0 x.0) is_agreed (λ x n. refl) (λ x h. ((h.1.0, refl), agreed_line x.0 x.1.0 x.1.1))

acked_found : Reads (codes "acked") acked_reply
unfolding acked_reply
acked_found = fields_found (codes "acked") number_field decimal (λ n. n < 10000) reply.Acked is_number (λ x n. refl) (λ x h. ((h, refl), refl))

refused_found : Reads (codes "refused") refused_reply
unfolding refused_reply
refused_found = fields_found (codes "refused") refusal_field refusal_text IsTold reply.Refused is_refusal (λ x n. refl) (λ x h. ((h, refl), refl))

-- replies that list ranks

failed_found : Reads (codes "failed") failed_reply
unfolding failed_reply
failed_found None told rest e g ranks behind = absurd cc
failed_found (Some text) told rest e g ranks behind =
    elim (chosen (bytes_eq text (codes "none")) (with_rest (Some (reply.FailedGroup 0)) None) (with_rest (Some (reply.FailedGroup 0)) (Some text)) (Ok (told, rest)) e) [
      | inl this ↦ (
          let same = same_field (Some (reply.FailedGroup 0)) told None rest this.1 in
          let is : text ≡ codes "none" = (bytes_eq-Decides text (codes "none")).0 this.0 in
          subst (λ (x : SomeReply). TellsReply (codes "failed" ++ 32 ∷ text) g (told_listing (length g) x)) same.0 (nobody_failed text g is (nobody g (behind ∙ sym same.1)))
          )
      | inr that ↦ (
          let same = same_field (Some (reply.FailedGroup 0)) told (Some text) rest that.1 in
          subst (λ (x : SomeReply). TellsReply (codes "failed" ++ 32 ∷ text) g (told_listing (length g) x)) same.0 (some_failed text g ranks (behind ∙ sym same.1))
          )
    ]
  where
    nobody_failed : (text g : List ℕ) → text ≡ codes "none" → g ≡ [] → TellsReply (codes "failed" ++ 32 ∷ text) g (Some (reply.FailedGroup (length g)))
    nobody_failed text g is none = rw (is, none) ((refl, tt), refl)

    some_failed : (text g : List ℕ) → AreRanks g → behind_ranks g ≡ Some text → TellsReply (codes "failed" ++ 32 ∷ text) g (Some (reply.FailedGroup (length g)))
    some_failed text [] ranks e = absurd cc
    some_failed text (r ∷ g) ranks e = ((refl, ranks), ap (λ (t : List ℕ). codes "failed" ++ t) (sym (somebody (r ∷ g) text e).1))

abbrev context_label : ℕ → List ℕ
context_label n = codes "context" ++ 32 ∷ decimal n

abbrev shrunk_fields : Option (List ℕ) → Field (ℕ × (ℕ × Unit {0}))
shrunk_fields text = both comm_field (both (labelled (codes "context")) (label_field (codes "members"))) text

abbrev shrunk_behind : ℕ × (ℕ × Unit {0}) → List ℕ
shrunk_behind x = decimal x.0 ++ 32 ∷ (context_label x.1.0 ++ 32 ∷ codes "members")

abbrev shrunk_fits : ℕ × (ℕ × Unit {0}) → Type 0
shrunk_fits x = (x.0 < 256) × ((x.1.0 < 10000) × ⊤)

is_shrunk : IsField shrunk_fields shrunk_behind shrunk_fits
is_shrunk = both_fields comm_field (both (labelled (codes "context")) (label_field (codes "members"))) decimal (λ x. context_label x.0 ++ 32 ∷ codes "members") (λ c. c < 256) (λ x. (x.0 < 10000) × ⊤) is_comm
    (both_fields (labelled (codes "context")) (label_field (codes "members")) context_label (λ fin. codes "members") (λ n. n < 10000) (λ fin. ⊤)
    (is_labelled (codes "context") (literal _ refl)) (is_label (codes "members") (literal _ refl)))

shrunk_line : (x : ℕ × (ℕ × Unit {0})) (ranks : List ℕ) → joined (shrunk_behind x) (Some ranks) ≡ decimal x.0 ++ (codes " context " ++ (decimal x.1.0 ++ (codes " members" ++ 32 ∷ ranks)))
shrunk_line x ranks =
    joined_more (decimal x.0) (context_label x.1.0 ++ 32 ∷ codes "members") (Some ranks)
    ∙ ap (λ (t : List ℕ). decimal x.0 ++ 32 ∷ t) (joined_more (context_label x.1.0) (codes "members") (Some ranks))

made_tells : (text g : List ℕ) (comm context : ℕ) → comm < 256 → context < 10000 → 0 < length g → AreRanks g → text ≡ shrunk_text comm context g → TellsReply text g (told_listing (length g) (made comm context))
made_tells text g comm context h k some ranks e = elim (cases_lt 255 context) [
  | inl past ↦ rw (lt-ltb 255 context past) (record { comm = comm; context = context; comm_fits = h; context_fits = k; forged = past; some = some; ranks = ranks; text_is = e })
  | inr fits ↦ rw (le-ltb 255 context fits) ((h, omega (arith, fits), some, refl, ranks), e)
]

shrunk_found : Reads (codes "shrunk") read_shrunk
unfolding read_shrunk
shrunk_found fields told rest e g ranks behind =
    let x = step_found (shrunk_fields fields) (λ x. listing (made x.0.0 x.0.1.0) x.1) (told, rest) e in
    let l = listed (made x.0.0.0 x.0.0.1.0) x.0.1 x.2 in
    let f = is_shrunk.found fields x.0.0 x.0.1 x.1 in
    let s = somebody g l.0 (behind ∙ sym l.2.1) in
    let line : joined (codes "shrunk") fields ≡ shrunk_text x.0.0.0 x.0.0.1.0 g =
    ap (joined (codes "shrunk")) (f.1 ∙ ap (λ (o : Option (List ℕ)). Some (joined (shrunk_behind x.0.0) o)) l.1) ∙ ap (λ (t : List ℕ). codes "shrunk " ++ t) (shrunk_line x.0.0 l.0)
    ∙ ap (λ (t : List ℕ). codes "shrunk " ++ (decimal x.0.0.0 ++ (codes " context " ++ (decimal x.0.0.1.0 ++ (codes " members" ++ t))))) (sym s.1) in
    subst (λ (y : SomeReply). TellsReply (joined (codes "shrunk") fields) g (told_listing (length g) y)) l.2.0
    (made_tells (joined (codes "shrunk") fields) g x.0.0.0 x.0.0.1.0 f.0.0 f.0.1.0 s.0 ranks line)
  where
    listed : (one : SomeReply) (behind : Option (List ℕ)) → listing one behind ≡ Ok (told, rest) → (ranks : List ℕ) × (behind ≡ Some ranks) × ((one ≡ told) × (Some ranks ≡ rest))
    listed one None e = absurd cc
    listed one (Some ranks) e = (ranks, refl, same_field one told (Some ranks) rest e)

verb_listed : (word verb : List ℕ) (fields : Option (List ℕ)) (reply_at : Option (List ℕ) → Field SomeReply) (other : Field SomeReply) (told : SomeReply) (rest : Option (List ℕ)) → Reads verb reply_at
    → (other ≡ Ok (told, rest) → Listed (joined word fields) told rest) → cond (bytes_eq word verb) (reply_at fields) other ≡ Ok (told, rest) → Listed (joined word fields) told rest
verb_listed word verb fields reply_at other told rest reads = verb_found (λ text x. Listed text x.0 x.1) word verb fields reply_at other (told, rest) (λ behind x. reads behind x.0 x.1)

last_found : (word : List ℕ) (fields : Option (List ℕ)) (told : SomeReply) (rest : Option (List ℕ)) → (over fields >>= λ fin. alone (λ one. one) (read_plain word)) ≡ Ok (told, rest) → Listed (joined word fields) told rest
last_found word fields told rest e g ranks behind =
    let o = step_found (over fields) (λ fin. alone (λ one. one) (read_plain word)) (told, rest) e in
    let x = step_found (read_plain word) (λ one. with_rest (Some one) None) (told, rest) o.2 in
    let p = plain_found word x.0 x.1 in
    let same = same_field (Some x.0) told None rest x.2 in
    let none : g ≡ [] = nobody g (behind ∙ sym same.1) in
    let says : TellsReply (joined word fields) [] (Some x.0) = (p.2, ap (joined word) (over_found fields o.0 o.1) ∙ p.0) in
    let listed : told_listing (length g) told ≡ Some x.0 = ap (told_listing (length g)) (sym same.0) ∙ p.1 (length g) in
    subst (TellsReply (joined word fields) g) (sym listed) (subst (λ (h : List ℕ). TellsReply (joined word fields) h (Some x.0)) (sym none) says)

read_from : (word : List ℕ) (fields : Option (List ℕ)) (told : SomeReply) (rest : Option (List ℕ)) → reply_from (word, fields) ≡ Ok (told, rest) → Listed (joined word fields) told rest
read_from word fields told rest e = verb_listed word (codes "agreed") fields read_agreed _ told rest agreed_found
    (verb_listed word (codes "shrunk") fields read_shrunk _ told rest shrunk_found
    (verb_listed word (codes "failed") fields failed_reply _ told rest failed_found
    (verb_listed word (codes "acked") fields acked_reply _ told rest acked_found
    (verb_listed word (codes "refused") fields refused_reply _ told rest refused_found (last_found word fields told rest))))) e

-- a reply that was read is told by the text
pub reply_found : (text : Option (List ℕ)) (told : SomeReply) (rest : Option (List ℕ)) → some_reply_of text ≡ Ok (told, rest) → (t : List ℕ) × (text ≡ Some t) × Listed t told rest
unfolding some_reply_of
reply_found text told rest e =
    let w = step_found (next_word text) reply_from (told, rest) e in
    (joined w.0.0 w.0.1, next_found text w.0 w.1, read_from w.0.0 w.0.1 told rest w.2)

-- what is told is read

abbrev starts : List ℕ → Field SomeReply
starts text = next_word (Some text) >>= reply_from

-- fields behind their verb
fields_again : {X : Type 0} (verb : List ℕ) (fields_at : Option (List ℕ) → Field X) (text_of : X → List ℕ) (Fits : X → Type 0) (make : X → Reply FlagAnd) → IsWord verb → IsField fields_at text_of Fits
    → ((fields : Option (List ℕ)) → reply_from (verb, fields) ≡ alone make (whole fields_at fields)) → (x : X) → Fits x → starts (verb ++ 32 ∷ text_of x) ≡ with_rest (Some (make x)) None
fields_again {X} verb fields_at text_of Fits make word is at x fits =
    ap (λ (w : Result (List ℕ × Option (List ℕ)) LineKind). w >>= reply_from) (next_joined verb (Some (text_of x)) word) ∙ at (Some (text_of x))
    ∙ ap (alone make) (whole_again fields_at text_of Fits is x fits)

agreed_again : (x : FlagAnd × (ℕ × Bool)) → agreed_fits x → starts (codes "agreed " ++ agreed_behind x) ≡ with_rest (Some (reply.Agreed x.1.1 x.1.0 x.0)) None
unfolding read_agreed
agreed_again = fields_again (codes "agreed") agreed_fields agreed_behind agreed_fits (λ x. reply.Agreed x.1.1 x.1.0 x.0) (literal _ refl) is_agreed (λ fields. refl)

acked_again : (n : ℕ) → n < 10000 → starts (codes "acked " ++ decimal n) ≡ with_rest (Some (reply.Acked n)) None
unfolding acked_reply
acked_again = fields_again (codes "acked") number_field decimal (λ n. n < 10000) reply.Acked (literal _ refl) is_number (λ fields. refl)

refused_again : (one : Refusal) → IsTold one → starts (codes "refused " ++ refusal_text one) ≡ with_rest (Some (reply.Refused one)) None
unfolding refused_reply
refused_again = fields_again (codes "refused") refusal_field refusal_text IsTold reply.Refused (literal _ refl) is_refusal (λ fields. refl)

name_is_none : (r : ℕ) (rest : Option (List ℕ)) → rank_field (Some (codes "none")) ≡ Ok (r, rest) → ⊥
unfolding rank_field next_word number_to number_in
name_is_none r rest e = let k : (let x : Field ℕ = Err Number in x) ≡ Ok (r, rest) = e in cc

-- a number is no name
not_none : (r : ℕ) (g : List ℕ) → r < 1024 → bytes_eq (decimal r ++ ranks_text g) (codes "none") ≡ false
not_none r g h = elim (two_ways (bytes_eq (decimal r ++ ranks_text g) (codes "none"))) [
  | inl same ↦ absurd (
      let is : decimal r ++ ranks_text g ≡ codes "none" = (bytes_eq-Decides (decimal r ++ ranks_text g) (codes "none")).0 same in
      name_is_none r (behind_ranks g) (sym (ap (λ (t : List ℕ). rank_field (Some t)) is) ∙ rank_again r g h)
      )
  | inr other ↦ other
]

verb_again : (verb rest : List ℕ) → IsWord verb → starts (verb ++ 32 ∷ rest) ≡ reply_from (verb, Some rest)
verb_again verb rest word = ap (λ (w : Result (List ℕ × Option (List ℕ)) LineKind). w >>= reply_from) (next_joined verb (Some rest) word)

nobody_again : starts (codes "failed none") ≡ with_rest (Some (reply.FailedGroup 0)) None
unfolding failed_reply
nobody_again = verb_again (codes "failed") (codes "none") failed_word

somebody_again : (r : ℕ) (g : List ℕ) → r < 1024 → starts (codes "failed" ++ ranks_text (r ∷ g)) ≡ with_rest (Some (reply.FailedGroup 0)) (behind_ranks (r ∷ g))
unfolding failed_reply
somebody_again r g h = verb_again (codes "failed") (decimal r ++ ranks_text g) failed_word ∙ rw (not_none r g h) refl

shrunk_word : IsWord (codes "shrunk")
shrunk_word = literal _ refl

shrunk_again : (comm context r : ℕ) (g : List ℕ) → comm < 256 → context < 10000 → starts (shrunk_text comm context (r ∷ g)) ≡ with_rest (made comm context) (behind_ranks (r ∷ g))
unfolding read_shrunk
shrunk_again comm context r g h k =
    let x : ℕ × (ℕ × Unit {0}) = (comm, (context, tt)) in
    let ranks : List ℕ = decimal r ++ ranks_text g in
    ap (λ (t : List ℕ). starts (codes "shrunk " ++ t)) (sym (shrunk_line x ranks)) ∙ verb_again (codes "shrunk") (joined (shrunk_behind x) (Some ranks)) shrunk_word
    ∙ ap (λ (f : Field (ℕ × (ℕ × Unit {0}))). f >>= λ y. listing (made y.0.0 y.0.1.0) y.1) (is_shrunk.again x (Some ranks) (h, (k, tt)))

plain_word : (word : List ℕ) (one : Reply FlagAnd) → IsWord word → reply_from (word, None) ≡ with_rest (Some one) None → starts word ≡ with_rest (Some one) None
plain_word word one is from = ap (λ (w : Result (List ℕ × Option (List ℕ)) LineKind). w >>= reply_from) (next_joined word None is) ∙ from

-- what is told is read so, where it lists nobody
alone_again : (text group : List ℕ) (one : Reply FlagAnd) → group ≡ [] → ((n : ℕ) → told_listing n (Some one) ≡ Some one) → starts text ≡ with_rest (Some one) None → IsReadBack text group (Some one)
unfolding some_reply_of
alone_again text group one none same read = record {
  head = Some one;
  rest = None;
  ranks = subst AreRanks (sym none) tt;
  behind = ap behind_ranks none;
  listed = same (length group);
  read = read;
}

-- and where it lists ranks
listed_again : (text group : List ℕ) (head told : SomeReply) → AreRanks group → told_listing (length group) head ≡ told → starts text ≡ with_rest head (behind_ranks group) → IsReadBack text group told
unfolding some_reply_of
listed_again text group head told ranks listed read = record { head = head; rest = behind_ranks group; ranks = ranks; behind = refl; listed = listed; read = read }

abbrev plain_at : List ℕ → Reply FlagAnd → Type 0
plain_at word one = starts word ≡ with_rest (Some one) None

started_again : (one : Reply FlagAnd) → reply_from (reply_text [] one, None) ≡ with_rest (Some one) None → IsWord (reply_text [] one) → (text group : List ℕ) → ((n : ℕ) → told_listing n (Some one) ≡ Some one) → group ≡ []
    → text ≡ reply_text group one → IsReadBack text group (Some one)
started_again one from is text group same none e =
    let word : text ≡ reply_text [] one = e ∙ ap (λ (g : List ℕ). reply_text g one) none in
    alone_again text group one none same (ap starts word ∙ plain_word (reply_text [] one) one is from)

failed_again : (text group : List ℕ) (count : ℕ) → count ≡ length group → AreRanks group → text ≡ reply_text group (reply.FailedGroup count) → IsReadBack text group (Some (reply.FailedGroup count))
failed_again text [] count e ranks is =
    listed_again text [] (Some (reply.FailedGroup 0)) (Some (reply.FailedGroup count)) ranks (ap (λ (n : ℕ). some_failed n) (sym e)) (ap starts is ∙ nobody_again)
  where
    some_failed : ℕ → SomeReply
    some_failed n = Some (reply.FailedGroup n)
failed_again text (r ∷ g) count e ranks is =
    listed_again text (r ∷ g) (Some (reply.FailedGroup 0)) (Some (reply.FailedGroup count)) ranks (ap (λ (n : ℕ). some_failed n) (sym e)) (ap starts is ∙ somebody_again r g ranks.0)
  where
    some_failed : ℕ → SomeReply
    some_failed n = Some (reply.FailedGroup n)

made_again : (comm context size : ℕ) → context < 256 → told_listing size (made comm context) ≡ Some (reply.Shrunk comm context size)
made_again comm context size h = rw (le-ltb 255 context (omega (arith, h))) refl

none_made : (comm context size : ℕ) → 255 < context → told_listing size (made comm context) ≡ None
none_made comm context size h = rw (lt-ltb 255 context h) refl

members_again : (text group : List ℕ) (comm context : ℕ) (told : SomeReply) → comm < 256 → context < 10000 → 0 < length group → AreRanks group → text ≡ shrunk_text comm context group
    → told_listing (length group) (made comm context) ≡ told → IsReadBack text group told
members_again text [] comm context told h k some ranks is listed = absurd (omega arith)
members_again text (r ∷ g) comm context told h k some ranks is listed =
    listed_again text (r ∷ g) (made comm context) told ranks listed (ap starts is ∙ shrunk_again comm context r g h k)

-- a reply that is told is read
pub reply_again : (text group : List ℕ) (told : SomeReply) → TellsReply text group told → IsReadBack text group told
unfolding read_plain over
reply_again text group None h = members_again text group h.comm h.context None h.comm_fits h.context_fits h.some h.ranks h.text_is (none_made h.comm h.context (length group) h.forged)
reply_again text group (Some reply.Started) h = started_again reply.Started refl (literal _ refl) text group (λ n. refl) h.0 h.1
reply_again text group (Some reply.Pending) h = started_again reply.Pending refl (literal _ refl) text group (λ n. refl) h.0 h.1
reply_again text group (Some (reply.Agreed raised count value)) h =
    alone_again text group (reply.Agreed raised count value) h.0.1 (λ n. refl) (ap starts (h.1 ∙ sym (agreed_line value count raised)) ∙ agreed_again (value, (count, raised)) (tt, (h.0.0, tt)))
reply_again text group (Some (reply.Shrunk comm context size)) h =
    members_again text group comm context (Some (reply.Shrunk comm context size)) h.0.0 (let k = h.0.1 in omega (arith, k)) (let s = h.0.2 in let e = h.0.3 in omega (arith, s, e)) h.0.4 h.1
    (made_again comm context (length group) h.0.1 ∙ ap (λ (n : ℕ). some_shrunk n) (sym h.0.3))
  where
    some_shrunk : ℕ → SomeReply
    some_shrunk n = Some (reply.Shrunk comm context n)
reply_again text group (Some reply.Done) h = started_again reply.Done refl (literal _ refl) text group (λ n. refl) h.0 h.1
reply_again text group (Some (reply.FailedGroup count)) h = failed_again text group count h.0.0 h.0.1 h.1
reply_again text group (Some (reply.Acked count)) h = alone_again text group (reply.Acked count) h.0.1 (λ n. refl) (ap starts h.1 ∙ acked_again count h.0.0)
reply_again text group (Some reply.Declared) h = started_again reply.Declared refl (literal _ refl) text group (λ n. refl) h.0 h.1
reply_again text group (Some reply.AlreadyFailed) h = started_again reply.AlreadyFailed refl (literal _ refl) text group (λ n. refl) h.0 h.1
reply_again text group (Some reply.Revoked) h = started_again reply.Revoked refl (literal _ refl) text group (λ n. refl) h.0 h.1
reply_again text group (Some reply.AlreadyRevoked) h = started_again reply.AlreadyRevoked refl (literal _ refl) text group (λ n. refl) h.0 h.1
reply_again text group (Some (reply.Standing true)) h = started_again (reply.Standing true) refl (literal _ refl) text group (λ n. refl) h.0 h.1
reply_again text group (Some (reply.Standing false)) h = started_again (reply.Standing false) refl (literal _ refl) text group (λ n. refl) h.0 h.1
reply_again text group (Some reply.Freed) h = started_again reply.Freed refl (literal _ refl) text group (λ n. refl) h.0 h.1
reply_again text group (Some (reply.Refused one)) h = alone_again text group (reply.Refused one) h.0.1 (λ n. refl) (ap starts h.1 ∙ refused_again one h.0.0)

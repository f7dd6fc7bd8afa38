-- Texts that begin with a word and a space, and texts that begin with none of these.
use Rattle.std.proofs.Common.{◌≡◌, ◌≢◌, ℕ, ◌-◌, ◌≤◌, List, [], ◌∷◌, ◌++◌, length, take, drop, Option, Some, None, Result, Ok, Err, Bool, true, false, cond, refl, sym, ap, subst, ◌∙◌, inl, inr, arith}
use Rattle.std.specs.{Prelude.{◌==◌, codes}, Str.{bytes_eq}}
use Rattle.std.proofs.lemmas.{Bool.{eqb-true}, Bool.Decides.{Decides-eqb}, List.{take_all, length-drop}, Slice.Eq.{bytes_eq-Decides, starts_is}}
use Rattle.std.specs.{Cmp.Lexicographic.{pointwise}, Prelude.{nat_eq}}
use Rattle.ulfm_model.specs.declared.reply.Reply.TheVariants as reply
use Rattle.ulfm_script.specs.declared.line_kind.LineKind.{LineKind}
use Rattle.ulfm_script.specs.declared.line_kind.LineKind.TheVariants.{Words}
use Rattle.ulfm_script.specs.{Printed.{reply_text}, Steps.{◌>>=◌}, Words.{Gives, first_word, next_word}}
use Rattle.ulfm_script.proofs.WordLemmas.{done, joined, joined_word, next_before, word_before}
use Rattle.ulfm_model.specs.declared.event.Event.TheVariants.{Arrive, Fail, Revoke}
use Rattle.ulfm_lines.specs.EventReading.{arrive_event, event_from, event_of, read_fail, mark_event, revoke_event, settle_event, spawn_event, told}
use Rattle.ulfm_lines.specs.Fields.{Field, comm_field, caller_field, flag_field, is_word_text, label_field, last, number_field, over, place_field, rank_field}
use Rattle.ulfm_lines.specs.LineReading.{SomeReply, acked_reply, alone, called_line, failed_reply, happened_line, line_from, line_head, looked_line, read_agreed, read_plain, read_shrunk, refusal_field, refused_reply, replied_line, reply_from, some_reply_of}
use Rattle.ulfm_lines.proofs.{FieldLemmas.{two_ways}, Literals.{literal}}

-- a text that doesn't begin so
abbrev pub Lacks : List ℕ → List ℕ → Type 0
Lacks beginning text = (rest : List ℕ) → text ≢ beginning ++ rest

-- what a test of a text's beginning tells
pub begun : (text beginning : List ℕ) (starts : Bool) → starts ≡ pointwise nat_eq beginning (take (length beginning) text) → starts ≡ true
    → text ≡ beginning ++ take (length text - length beginning) (drop (length beginning) text)
begun text beginning starts test holds =
    let few : length (drop (length beginning) text) ≤ length text - length beginning = omega (arith, length-drop (length beginning) text) in
    (starts_is Decides-eqb text beginning starts test).0 holds ∙ ap (λ (rest : List ℕ). beginning ++ rest) (sym (take_all (length text - length beginning) (drop (length beginning) text) few))

pub unbegun : (text beginning : List ℕ) (starts : Bool) → starts ≡ pointwise nat_eq beginning (take (length beginning) text) → starts ≡ false → Lacks beginning text
unbegun text beginning starts test other rest e = let k : true ≡ false = sym ((starts_is Decides-eqb text beginning starts test).1 rest e) ∙ other in cc

-- the first word is another one, where text stands behind it
other_word : (word text rest : List ℕ) → (first_word text).1 ≡ Some rest → Lacks (word ++ 32 ∷ []) text → ((r : List ℕ) → (word ++ 32 ∷ []) ++ r ≡ word ++ 32 ∷ r) → bytes_eq (first_word text).0 word ≡ false
other_word word text rest is lacks same = elim (two_ways (bytes_eq (first_word text).0 word)) [
  | inl it ↦ absurd (lacks rest (sym (joined_word text) ∙ ap (joined (first_word text).0) is ∙ ap (λ (w : List ℕ). joined w (Some rest)) ((bytes_eq-Decides (first_word text).0 word).0 it) ∙ sym (same rest)))
  | inr other ↦ other
]

-- a fault, whether or not a test holds
no_verb : {A : Type 0} (b : Bool) (y : Result A LineKind) → y ≡ Err Words → cond b (Err Words) y ≡ Err Words
no_verb true y e = refl
no_verb false y e = e

-- a fault behind the first word, or before it
no_word : {A : Type 0} (b : Bool) (x : List ℕ × Option (List ℕ)) (f : List ℕ × Option (List ℕ) → Result A LineKind) → f x ≡ Err Words → (cond b (Err Words) (done x) >>= f) ≡ Err Words
no_word true x f e = refl
no_word false x f e = e

-- lines

-- a text that begins with a verb and a space is the line that is read of the verb and what stands behind it
pub line_ahead : (verb text rest : List ℕ) → is_word_text verb ≡ true → text ≡ verb ++ 32 ∷ rest → line_from (verb, Some rest) ≡ line_head text
unfolding line_head
line_ahead verb text rest word e = sym (ap (λ (t : List ℕ). line_from (first_word t)) e ∙ ap line_from (word_before [] verb rest (literal verb word).free))

lineless : (w : List ℕ) → line_from (w, None) ≡ Err Words
unfolding called_line looked_line happened_line replied_line caller_field rank_field next_word
lineless w = no_verb (bytes_eq w (codes "call")) _ (no_verb (bytes_eq w (codes "look")) _ (no_verb (bytes_eq w (codes "event")) _ (no_verb (bytes_eq w (codes "reply")) _ refl)))

line_by : (text : List ℕ) (rest : Option (List ℕ)) → (first_word text).1 ≡ rest → Lacks (codes "call ") text → Lacks (codes "look ") text → Lacks (codes "reply ") text → Lacks (codes "event ") text
    → line_from (first_word text) ≡ Err Words
line_by text None is call look answer event = ap (λ (r : Option (List ℕ)). line_from ((first_word text).0, r)) is ∙ lineless (first_word text).0
line_by text (Some rest) is call look answer event = rw (
  other_word (codes "call") text rest is call (λ r. refl),
  other_word (codes "look") text rest is look (λ r. refl),
  other_word (codes "event") text rest is event (λ r. refl),
  other_word (codes "reply") text rest is answer (λ r. refl),
) refl

-- a text that begins with no verb is no line
pub no_line : (text : List ℕ) → Lacks (codes "call ") text → Lacks (codes "look ") text → Lacks (codes "reply ") text → Lacks (codes "event ") text → line_head text ≡ Err Words
unfolding line_head
no_line text call look answer event = line_by text (first_word text).1 refl call look answer event

-- events

-- so is an event
pub event_ahead : (verb text rest : List ℕ) → is_word_text verb ≡ true → text ≡ verb ++ 32 ∷ rest → event_from (verb, Some rest) ≡ event_of (Some text)
unfolding event_of
event_ahead verb text rest word e = rw (e, next_before verb rest (literal verb word)) refl

-- events of one last field, by what is read behind their verbs
pub arrive_ahead : (text rest : List ℕ) → text ≡ codes "arrive " ++ rest → told (λ x. Arrive x.0 x.1.0 x.1.1) (last (place_field (Some rest))) ≡ event_of (Some text)
unfolding arrive_event
arrive_ahead text rest e = event_ahead (codes "arrive") text rest refl e

pub fail_ahead : (text rest : List ℕ) → text ≡ codes "fail " ++ rest → told Fail (last (rank_field (Some rest))) ≡ event_of (Some text)
unfolding read_fail
fail_ahead text rest e = event_ahead (codes "fail") text rest refl e

pub revoke_ahead : (text rest : List ℕ) → text ≡ codes "revoke " ++ rest → told Revoke (last (comm_field (Some rest))) ≡ event_of (Some text)
unfolding revoke_event
revoke_ahead text rest e = event_ahead (codes "revoke") text rest refl e

eventless : (w : List ℕ) → event_from (w, None) ≡ Err Words
unfolding read_fail settle_event mark_event arrive_event revoke_event spawn_event place_field comm_field rank_field next_word
eventless w = no_verb (bytes_eq w (codes "fail")) _ (no_verb (bytes_eq w (codes "settle")) _ (no_verb (bytes_eq w (codes "mark")) _ (no_verb (bytes_eq w (codes "arrive")) _
    (no_verb (bytes_eq w (codes "revoke")) _ (no_verb (bytes_eq w (codes "spawn")) _ refl)))))

event_by : (text : List ℕ) (rest : Option (List ℕ)) → (first_word text).1 ≡ rest → Lacks (codes "settle ") text → Lacks (codes "arrive ") text → Lacks (codes "mark ") text → Lacks (codes "fail ") text
    → Lacks (codes "revoke ") text → Lacks (codes "spawn ") text → event_from (first_word text) ≡ Err Words
event_by text None is settle arrive mark fail revoke spawn = ap (λ (r : Option (List ℕ)). event_from ((first_word text).0, r)) is ∙ eventless (first_word text).0
event_by text (Some rest) is settle arrive mark fail revoke spawn = rw (
  other_word (codes "fail") text rest is fail (λ r. refl),
  other_word (codes "settle") text rest is settle (λ r. refl),
  other_word (codes "mark") text rest is mark (λ r. refl),
  other_word (codes "arrive") text rest is arrive (λ r. refl),
  other_word (codes "revoke") text rest is revoke (λ r. refl),
  other_word (codes "spawn") text rest is spawn (λ r. refl),
) refl

-- a text that begins with no verb is no event
pub no_event : (text : List ℕ) → Lacks (codes "settle ") text → Lacks (codes "arrive ") text → Lacks (codes "mark ") text → Lacks (codes "fail ") text → Lacks (codes "revoke ") text
    → Lacks (codes "spawn ") text → event_of (Some text) ≡ Err Words
unfolding event_of next_word
no_event text settle arrive mark fail revoke spawn = no_word (length (first_word text).0 == 0) (first_word text) event_from (event_by text (first_word text).1 refl settle arrive mark fail revoke spawn)

pub event_nowhere : event_of None ≡ Err Words
unfolding event_of next_word
event_nowhere = refl

-- replies

-- so is a reply
pub reply_ahead : (verb text rest : List ℕ) → is_word_text verb ≡ true → text ≡ verb ++ 32 ∷ rest → reply_from (verb, Some rest) ≡ some_reply_of (Some text)
unfolding some_reply_of
reply_ahead verb text rest word e = rw (e, next_before verb rest (literal verb word)) refl

-- what is given of the text behind a verb is given of the whole reply
pub reply_gives : {X : Type 0} (see : X → SomeReply × Option (List ℕ)) (given : Result X LineKind) (verb text rest : List ℕ) → is_word_text verb ≡ true → text ≡ verb ++ 32 ∷ rest
    → Gives see given (reply_from (verb, Some rest)) → Gives see given (some_reply_of (Some text))
reply_gives see given verb text rest word e gives = subst (Gives see given) (reply_ahead verb text rest word e) gives

pub reply_nowhere : some_reply_of None ≡ Err Words
unfolding some_reply_of next_word
reply_nowhere = refl

-- what a whole text reads as, as a reply of one word
abbrev pub plain : List ℕ → Field SomeReply
plain text = alone (λ one. one) (read_plain text)

-- a word that is no such reply
no_plain : (w word : List ℕ) (y : Field SomeReply) → plain word ≡ Err Words → y ≡ plain w → cond (bytes_eq w word) (Err Words) y ≡ plain w
no_plain w word y none e = elim (two_ways (bytes_eq w word)) [
  | inl it ↦ rw it (sym (ap plain ((bytes_eq-Decides w word).0 it) ∙ none))
  | inr other ↦ rw other e
]

empty_plain : plain [] ≡ Err Words
unfolding read_plain
empty_plain = refl

plain_none : (word : List ℕ) → read_plain word ≡ Err Words → plain word ≡ Err Words
plain_none word e = rw e refl

reply_alone : (w : List ℕ) → reply_from (w, None) ≡ plain w
unfolding read_agreed read_shrunk failed_reply acked_reply refused_reply refusal_field flag_field comm_field number_field next_word over read_plain
reply_alone w = no_plain w (codes "agreed") _ refl (no_plain w (codes "shrunk") _ refl (no_plain w (codes "failed") _ refl (no_plain w (codes "acked") _ refl
    (no_plain w (codes "refused") _ refl refl))))

word_alone : (b : Bool) (w : List ℕ) → (length w == 0) ≡ b → (cond b (Err Words) (done (w, None)) >>= reply_from) ≡ plain w
word_alone true [] e = sym empty_plain
word_alone true (x ∷ xs) e = absurd (omega (arith, eqb-true (length (x ∷ xs)) 0 e))
word_alone false w e = reply_alone w

-- a text with something behind its first word is no word
spaced : (text rest word : List ℕ) → (first_word text).1 ≡ Some rest → (first_word word).1 ≡ None → bytes_eq text word ≡ false
spaced text rest word is none = elim (two_ways (bytes_eq text word)) [
  | inl it ↦ absurd (let k : Some rest ≡ None = sym is ∙ ap (λ (t : List ℕ). (first_word t).1) ((bytes_eq-Decides text word).0 it) ∙ none in cc)
  | inr other ↦ other
]

no_plain_text : (text rest : List ℕ) → (first_word text).1 ≡ Some rest → plain text ≡ Err Words
unfolding read_plain
no_plain_text text rest is = rw (
  spaced text rest (reply_text [] reply.Started) is refl,
  spaced text rest (reply_text [] reply.Pending) is refl,
  spaced text rest (reply_text [] reply.Done) is refl,
  spaced text rest (reply_text [] reply.Declared) is refl,
  spaced text rest (reply_text [] reply.AlreadyFailed) is refl,
  spaced text rest (reply_text [] reply.Revoked) is refl,
  spaced text rest (reply_text [] reply.AlreadyRevoked) is refl,
  spaced text rest (reply_text [] (reply.Standing true)) is refl,
  spaced text rest (reply_text [] (reply.Standing false)) is refl,
  spaced text rest (reply_text [] reply.Freed) is refl,
) refl

none_of : (text rest : List ℕ) → (first_word text).1 ≡ Some rest → Lacks (codes "agreed ") text → Lacks (codes "shrunk ") text → Lacks (codes "failed ") text → Lacks (codes "acked ") text
    → Lacks (codes "refused ") text → reply_from (first_word text) ≡ Err Words
unfolding over
none_of text rest is agreed shrunk failed acked refused = rw (
  other_word (codes "agreed") text rest is agreed (λ r. refl),
  other_word (codes "shrunk") text rest is shrunk (λ r. refl),
  other_word (codes "failed") text rest is failed (λ r. refl),
  other_word (codes "acked") text rest is acked (λ r. refl),
  other_word (codes "refused") text rest is refused (λ r. refl),
  is,
) refl

reply_by : (text : List ℕ) (rest : Option (List ℕ)) → (first_word text).1 ≡ rest → Lacks (codes "agreed ") text → Lacks (codes "shrunk ") text → Lacks (codes "failed ") text
    → Lacks (codes "acked ") text → Lacks (codes "refused ") text → (cond (length (first_word text).0 == 0) (Err Words) (done (first_word text)) >>= reply_from) ≡ plain text
reply_by text None is agreed shrunk failed acked refused =
    let whole : text ≡ (first_word text).0 = sym (joined_word text) ∙ ap (joined (first_word text).0) is in
    ap (λ (r : Option (List ℕ)). cond (length (first_word text).0 == 0) (Err Words) (done ((first_word text).0, r)) >>= reply_from) is
    ∙ word_alone (length (first_word text).0 == 0) (first_word text).0 refl ∙ ap plain (sym whole)
reply_by text (Some rest) is agreed shrunk failed acked refused =
    no_word (length (first_word text).0 == 0) (first_word text) reply_from (none_of text rest is agreed shrunk failed acked refused) ∙ sym (no_plain_text text rest is)

-- a text that begins with none of these is a reply of one word, or none
pub plain_ahead : (text : List ℕ) → Lacks (codes "agreed ") text → Lacks (codes "shrunk ") text → Lacks (codes "failed ") text → Lacks (codes "acked ") text → Lacks (codes "refused ") text
    → some_reply_of (Some text) ≡ plain text
unfolding some_reply_of next_word
plain_ahead text agreed shrunk failed acked refused = reply_by text (first_word text).1 refl agreed shrunk failed acked refused

-- labels

pub label_before : (label rest : List ℕ) (text : Option (List ℕ)) → is_word_text label ≡ true → text ≡ Some (label ++ 32 ∷ rest) → label_field label text ≡ Ok (tt, Some rest)
unfolding label_field
label_before label rest text is e = rw (e, next_before label rest (literal label is), (bytes_eq-Decides label label).1 refl) refl

-- What is read of a line is spelled so, and what is spelled so is read.
use Rattle.std.proofs.Common.{◌≡◌, ℕ, ◌<◌, List, [], ◌∷◌, ◌++◌, Option, Some, Result, Ok, Err, Bool, true, false, cond, refl, sym, ap, subst, ◌∙◌, append_assoc, inl, inr, arith}
use Rattle.std.specs.{Prelude.{◌⊎◌, codes, IfOk}, Fmt.{decimal}, Str.{bytes_eq}}
use Rattle.std.proofs.lemmas.{List.{append-nil}, Slice.Eq.{bytes_eq-Decides}}
use Rattle.ulfm_laws.specs.declared.flag_and.FlagAnd.{FlagAnd}
use Rattle.ulfm_model.specs.declared.call.Call.TheVariants.{Fail, GetFailed, Ack, FailureAck, FailureGetAcked, Agree, Shrink, Barrier, Poll, Revoke, IsRevoked, Free}
use Rattle.ulfm_script.specs.declared.line_kind.LineKind.{LineKind}
use Rattle.ulfm_script.specs.declared.line_kind.LineKind.TheVariants.{Verb}
use Rattle.ulfm_script.specs.declared.version.Version.{Version}
use Rattle.ulfm_script.specs.declared.version.Version.TheVariants.{First, Second}
use Rattle.ulfm_script.specs.{Calls.{ScriptCall, read_rank_comm, fail_of, ack_of, agree_of, of_second, one_rank, rank_alone, read_plain_call, call_from, call_in, call_of}, Digits.{MayPadIn, read_rank, read_comm, read_number, read_flag_in, spelled_flag}, Spelling.{IsOnComm, Spells, SpellsIn, SpellsAs, is_padded, spelled_text}, Steps.{◌>>=◌}, Words.{first_word, one_of, two_of, three_of}}
use Rattle.ulfm_script.proofs.{Hexadecimal.{flag_in_again, flag_in_found, padded_told}, Numerals.{number_again, number_found, number_to_again, number_to_found}, WordLemmas.{IsWord, decimal_is_word, joined, joined_word, one_again, one_found, same_done, spelled_is_word, step_found, three_again, three_found, two_again, two_found}}

-- a rank that was printed is read
pub rank_again : (rank : ℕ) → rank < 1024 → read_rank (decimal rank) ≡ Ok rank
rank_again rank h = number_to_again 1023 rank (omega arith) (omega (arith, h))

-- and so is a communicator
pub comm_again : (comm : ℕ) → comm < 256 → read_comm (decimal comm) ≡ Ok comm
comm_again comm h = number_to_again 255 comm (omega arith) (omega (arith, h))

-- a number can be a word
pub number_is_word : (n : ℕ) → n < 10000 → IsWord (decimal n)
number_is_word n h = decimal_is_word n (omega (arith, h))

-- a rank is read that stands alone
pub rank_alone_again : {A : Type 0} (made : ℕ → A) (rank : ℕ) → rank < 1024 → rank_alone made (Some (decimal rank)) ≡ Ok (made rank)
rank_alone_again made rank h = rw (one_again (decimal rank) (number_is_word rank (omega (arith, h))), rank_again rank h) refl

fail_again : (version : Version) (rank : ℕ) → rank < 1024 → call_in version (codes "fail " ++ decimal rank) ≡ Ok (Fail rank)
unfolding call_in fail_of
fail_again version rank h = rank_alone_again Fail rank h

-- two words, as a rank and a communicator are written
abbrev place_text : ℕ → ℕ → List ℕ
place_text rank comm = decimal rank ++ 32 ∷ decimal comm

place_again : (rank comm : ℕ) → rank < 1024 → comm < 256 → read_rank_comm (Some (place_text rank comm)) ≡ Ok (rank, comm)
unfolding read_rank_comm
place_again rank comm h k =
    rw (two_again (decimal rank) (decimal comm) (number_is_word rank (omega (arith, h))) (number_is_word comm (omega (arith, k))), rank_again rank h, comm_again comm k) refl

plain_again : (call_at : ℕ → ℕ → ScriptCall) (rank comm : ℕ) → rank < 1024 → comm < 256 → read_plain_call call_at (Some (place_text rank comm)) ≡ Ok (call_at rank comm)
plain_again call_at rank comm h k = rw (place_again rank comm h k) refl

ack_again : (version : Version) (rank comm count : ℕ) → rank < 1024 → comm < 256 → count < 10000 → call_in version (codes "ack " ++ (decimal rank ++ 32 ∷ (decimal comm ++ 32 ∷ decimal count))) ≡ Ok (Ack rank comm count)
unfolding call_in ack_of
ack_again version rank comm count h k l =
    rw (three_again (decimal rank) (decimal comm) (decimal count) (number_is_word rank (omega (arith, h))) (number_is_word comm (omega (arith, k))) (number_is_word count l), rank_again rank h, comm_again comm k, number_again count l) refl

agree_again : (version : Version) (rank comm : ℕ) (padded : Bool) (flag : FlagAnd) → MayPadIn version padded flag → rank < 1024 → comm < 256 → call_in version (codes "agree " ++ (decimal rank ++ 32 ∷ (decimal comm ++ 32 ∷ spelled_flag padded flag))) ≡ Ok (Agree rank comm flag)
unfolding call_in agree_of
agree_again version rank comm padded flag may h k =
    rw (three_again (decimal rank) (decimal comm) (spelled_flag padded flag) (number_is_word rank (omega (arith, h))) (number_is_word comm (omega (arith, k))) (spelled_is_word padded flag), rank_again rank h, comm_again comm k, flag_in_again version padded flag may) refl

plain_line : (verb : List ℕ) (rank comm : ℕ) → verb ++ (decimal rank ++ 32 ∷ (decimal comm ++ [])) ≡ verb ++ (decimal rank ++ 32 ∷ decimal comm)
plain_line verb rank comm = ap (λ (t : List ℕ). verb ++ (decimal rank ++ 32 ∷ t)) (append-nil (decimal comm))

-- what is spelled so is read
pub spelled_in_again : (version : Version) (line : List ℕ) (call : ScriptCall) → SpellsIn version line call → call_in version line ≡ Ok call
unfolding call_in
spelled_in_again version line (Fail rank) h = ap (call_in version) h.1 ∙ fail_again version rank h.0
spelled_in_again version line (GetFailed rank comm) h = ap (call_in version) (h.line_is ∙ plain_line (codes "get ") rank comm) ∙ plain_again GetFailed rank comm h.rank_fits h.comm_fits
spelled_in_again version line (Ack rank comm count) h = ap (call_in version) h.1.line_is ∙ ack_again version rank comm count h.1.rank_fits h.1.comm_fits h.0
spelled_in_again First line (FailureAck rank comm) h = absurd (let e = h.0 in cc e)
spelled_in_again Second line (FailureAck rank comm) h = ap (call_in Second) (h.1.line_is ∙ plain_line (codes "failure_ack ") rank comm) ∙ plain_again FailureAck rank comm h.1.rank_fits h.1.comm_fits
spelled_in_again First line (FailureGetAcked rank comm) h = absurd (let e = h.0 in cc e)
spelled_in_again Second line (FailureGetAcked rank comm) h = ap (call_in Second) (h.1.line_is ∙ plain_line (codes "failure_get_acked ") rank comm) ∙ plain_again FailureGetAcked rank comm h.1.rank_fits h.1.comm_fits
spelled_in_again version line (Agree rank comm flag) h = ap (call_in version) h.2.line_is ∙ agree_again version rank comm h.0 flag h.1 h.2.rank_fits h.2.comm_fits
spelled_in_again version line (Shrink rank comm) h = ap (call_in version) (h.line_is ∙ plain_line (codes "shrink ") rank comm) ∙ plain_again Shrink rank comm h.rank_fits h.comm_fits
spelled_in_again version line (Barrier rank comm) h = ap (call_in version) (h.line_is ∙ plain_line (codes "barrier ") rank comm) ∙ plain_again Barrier rank comm h.rank_fits h.comm_fits
spelled_in_again version line (Poll rank comm) h = ap (call_in version) (h.line_is ∙ plain_line (codes "poll ") rank comm) ∙ plain_again Poll rank comm h.rank_fits h.comm_fits
spelled_in_again version line (Revoke rank comm) h = ap (call_in version) (h.line_is ∙ plain_line (codes "revoke ") rank comm) ∙ plain_again Revoke rank comm h.rank_fits h.comm_fits
spelled_in_again version line (IsRevoked rank comm) h = ap (call_in version) (h.line_is ∙ plain_line (codes "isrevoked ") rank comm) ∙ plain_again IsRevoked rank comm h.rank_fits h.comm_fits
spelled_in_again version line (Free rank comm) h = ap (call_in version) (h.line_is ∙ plain_line (codes "free ") rank comm) ∙ plain_again Free rank comm h.rank_fits h.comm_fits

-- .. in the first version
pub spelled_again : (line : List ℕ) (call : ScriptCall) → Spells line call → call_of line ≡ Ok call
spelled_again line call h = spelled_in_again First line call h

-- a verb whose fields were read stands at the line's beginning
abbrev Reads : Version → (verb : List ℕ) → (Option (List ℕ) → Result ScriptCall LineKind) → Type 0
Reads version verb fields_of = (fields : Option (List ℕ)) (call : ScriptCall) → fields_of fields ≡ Ok call → SpellsIn version (joined verb fields) call

-- a rank that was read alone is all that stands there
pub rank_found : {A : Type 0} (made : ℕ → A) (fields : Option (List ℕ)) (x : A) → rank_alone made fields ≡ Ok x → (rank : ℕ) × (made rank ≡ x) × (rank < 1024) × (fields ≡ Some (decimal rank))
rank_found made fields x e =
    let b = step_found (one_rank fields) (λ rank. Ok (made rank)) x e in
    let a = step_found (one_of fields) read_rank b.0 b.1 in
    let r = number_to_found 1023 b.0 a.0 a.2 in (b.0, same_done (made b.0) x b.2, omega (arith, r.0), one_found fields a.0 a.1 ∙ ap (λ (t : List ℕ). Some t) r.1)

fail_found : (version : Version) → Reads version (codes "fail") fail_of
unfolding fail_of
fail_found version fields call e =
    let r = rank_found Fail fields call e in subst (SpellsIn version (joined (codes "fail") fields)) r.1 (r.2, ap (joined (codes "fail")) r.3)

-- the rank and the communicator of two words
abbrev on_comm : {A : Type 0} → (ℕ → ℕ → Result A LineKind) → List ℕ → List ℕ → Result A LineKind
on_comm then a b = do
  rank ← read_rank a
  comm ← read_comm b
  then rank comm

-- both were read, and stand there
record IsPlace {A : Type 0} (a b : List ℕ) (then : ℕ → ℕ → Result A LineKind) (x : A) : Type 0 where
  rank : ℕ
  comm : ℕ
  rank_fits : rank < 1024
  comm_fits : comm < 256
  a_is : a ≡ decimal rank
  b_is : b ≡ decimal comm
  rest : then rank comm ≡ Ok x

place_found : {A : Type 0} (then : ℕ → ℕ → Result A LineKind) (a b : List ℕ) (x : A) → on_comm then a b ≡ Ok x → IsPlace a b then x
place_found then a b x e =
    let r = step_found (read_rank a) (λ rank. read_comm b >>= λ comm. then rank comm) x e in
    let c = step_found (read_comm b) (λ comm. then r.0 comm) x r.2 in
    let ra = number_to_found 1023 r.0 a r.1 in
    let cb = number_to_found 255 c.0 b c.1 in
    record { rank = r.0; comm = c.0; rank_fits = omega (arith, ra.0); comm_fits = omega (arith, cb.0); a_is = ra.1; b_is = cb.1; rest = c.2 }

two_line : (verb : List ℕ) (fields : Option (List ℕ)) (a b : List ℕ) (rank comm : ℕ) → fields ≡ Some (a ++ 32 ∷ b) → rank < 1024 → comm < 256 → a ≡ decimal rank → b ≡ decimal comm
    → IsOnComm (joined verb fields) (verb ++ 32 ∷ []) rank comm []
two_line verb fields a b rank comm e h k i j = record {
  rank_fits = h;
  comm_fits = k;
  line_is = ap (joined verb) e ∙ ap (λ (t : List ℕ). verb ++ 32 ∷ (t ++ 32 ∷ b)) i ∙ ap (λ (t : List ℕ). verb ++ 32 ∷ (decimal rank ++ 32 ∷ t)) (j ∙ sym (append-nil (decimal comm))) ∙ sym (append_assoc verb (32 ∷ []) (decimal rank ++ 32 ∷ (decimal comm ++ [])));
}

three_line : (verb : List ℕ) (fields : Option (List ℕ)) (a b last text : List ℕ) (rank comm : ℕ) → fields ≡ Some (a ++ 32 ∷ (b ++ 32 ∷ last)) → rank < 1024 → comm < 256 → a ≡ decimal rank → b ≡ decimal comm → last ≡ text
    → IsOnComm (joined verb fields) (verb ++ 32 ∷ []) rank comm (32 ∷ text)
three_line verb fields a b last text rank comm e h k i j l = record {
  rank_fits = h;
  comm_fits = k;
  line_is = ap (joined verb) e ∙ ap (λ (t : List ℕ). verb ++ 32 ∷ (t ++ 32 ∷ (b ++ 32 ∷ last))) i ∙ ap (λ (t : List ℕ). verb ++ 32 ∷ (decimal rank ++ 32 ∷ (t ++ 32 ∷ last))) j ∙ ap (λ (t : List ℕ). verb ++ 32 ∷ (decimal rank ++ 32 ∷ (decimal comm ++ 32 ∷ t))) l ∙ sym (append_assoc verb (32 ∷ []) (decimal rank ++ 32 ∷ (decimal comm ++ 32 ∷ text)));
}

-- its verb is spelled with those alone
abbrev IsPlain : Version → (verb : List ℕ) → (ℕ → ℕ → ScriptCall) → Type 0
IsPlain version verb call_at = (line : List ℕ) (rank comm : ℕ) → IsOnComm line (verb ++ 32 ∷ []) rank comm [] → SpellsIn version line (call_at rank comm)

abbrev pair : ℕ → ℕ → Result (ℕ × ℕ) LineKind
pair rank comm = Ok (rank, comm)

plain_found : (version : Version) (verb : List ℕ) (call_at : ℕ → ℕ → ScriptCall) → IsPlain version verb call_at → Reads version verb (read_plain_call call_at)
unfolding read_rank_comm
plain_found version verb call_at spells fields call e =
    let x = step_found (read_rank_comm fields) (λ place. Ok (call_at place.0 place.1)) call e in
    let w = step_found (two_of fields) (λ w. on_comm pair w.0 w.1) x.0 x.1 in
    let p = place_found pair w.0.0 w.0.1 x.0 w.2 in
    let is : call_at p.rank p.comm ≡ call = ap (λ (at : ℕ × ℕ). call_at at.0 at.1) (same_done (p.rank, p.comm) x.0 p.rest) ∙ same_done (call_at x.0.0 x.0.1) call x.2 in
    subst (SpellsIn version (joined verb fields)) is (spells (joined verb fields) p.rank p.comm (two_line verb fields w.0.0 w.0.1 p.rank p.comm (two_found fields w.0 w.1) p.rank_fits p.comm_fits p.a_is p.b_is))

abbrev ack_rest : List ℕ → ℕ → ℕ → Result ScriptCall LineKind
ack_rest word rank comm = read_number word >>= λ count. Ok (Ack rank comm count)

ack_found : (version : Version) → Reads version (codes "ack") ack_of
unfolding ack_of
ack_found version fields call e =
    let w = step_found (three_of fields) (λ w. on_comm (ack_rest w.2) w.0 w.1) call e in
    let p = place_found (ack_rest w.0.2) w.0.0 w.0.1 call w.2 in
    let n = step_found (read_number w.0.2) (λ count. Ok (Ack p.rank p.comm count)) call p.rest in
    let f = number_found w.0.2 n.0 n.1 in
    subst (SpellsIn version (joined (codes "ack") fields)) (same_done (Ack p.rank p.comm n.0) call n.2)
    (f.0, three_line (codes "ack") fields w.0.0 w.0.1 w.0.2 (decimal n.0) p.rank p.comm (three_found fields w.0 w.1) p.rank_fits p.comm_fits p.a_is p.b_is f.1)

abbrev agree_rest : Version → List ℕ → ℕ → ℕ → Result ScriptCall LineKind
agree_rest version word rank comm = read_flag_in version word >>= λ flag. Ok (Agree rank comm flag)

agree_found : (version : Version) → Reads version (codes "agree") (agree_of version)
unfolding agree_of
agree_found version fields call e =
    let w = step_found (three_of fields) (λ w. on_comm (agree_rest version w.2) w.0 w.1) call e in
    let p = place_found (agree_rest version w.0.2) w.0.0 w.0.1 call w.2 in
    let n = step_found (read_flag_in version w.0.2) (λ flag. Ok (Agree p.rank p.comm flag)) call p.rest in
    let f = flag_in_found version w.0.2 n.0 n.1 in
    subst (SpellsIn version (joined (codes "agree") fields)) (same_done (Agree p.rank p.comm n.0) call n.2)
    (f.padded, f.may_pad, three_line (codes "agree") fields w.0.0 w.0.1 w.0.2 (spelled_flag f.padded n.0) p.rank p.comm (three_found fields w.0 w.1) p.rank_fits p.comm_fits p.a_is p.b_is f.word_is)

-- one of two ways
pub chosen : {A : Type 0} (b : Bool) (x y z : A) → cond b x y ≡ z → ((b ≡ true) × (x ≡ z)) ⊎ ((b ≡ false) × (y ≡ z))
chosen true x y z e = inl (refl, e)
chosen false x y z e = inr (refl, e)

-- a first word that is tested for one verb after another: what stands behind a verb says what the line tells
pub verb_found : {X : Type 0} (Tells : List ℕ → X → Type 0) (word verb : List ℕ) (fields : Option (List ℕ)) (fields_of : Option (List ℕ) → Result X LineKind) (other : Result X LineKind)
    (found : X) → ((behind : Option (List ℕ)) (x : X) → fields_of behind ≡ Ok x → Tells (joined verb behind) x) → (other ≡ Ok found → Tells (joined word fields) found)
    → cond (bytes_eq word verb) (fields_of fields) other ≡ Ok found → Tells (joined word fields) found
verb_found Tells word verb fields fields_of other found reads rest e = elim (chosen (bytes_eq word verb) (fields_of fields) other (Ok found) e) [
  | inl this ↦ subst (λ (w : List ℕ). Tells (joined w fields) found) (sym ((bytes_eq-Decides word verb).0 this.0)) (reads fields found this.1)
  | inr that ↦ rest that.1
]

no_verb : (version : Version) (line : List ℕ) (call : ScriptCall) → (let r : Result ScriptCall LineKind = Err Verb in r) ≡ Ok call → SpellsIn version line call
no_verb version line call e = absurd cc

-- a verb of the second version alone
second_found : (version : Version) (verb : List ℕ) (call_at : ℕ → ℕ → ScriptCall) → IsPlain Second verb call_at → Reads version verb (λ fields. of_second version (read_plain_call call_at fields))
second_found First verb call_at spells fields call e = absurd (cc e)
second_found Second verb call_at spells fields call e = plain_found Second verb call_at spells fields call e

read_from : (version : Version) (word : List ℕ) (fields : Option (List ℕ)) (call : ScriptCall) → call_from version (word, fields) ≡ Ok call → SpellsIn version (joined word fields) call
read_from version word fields call e = verb_found (SpellsIn version) word (codes "fail") fields fail_of _ call (fail_found version)
    (verb_found (SpellsIn version) word (codes "get") fields (read_plain_call GetFailed) _ call (plain_found version (codes "get") GetFailed (λ line rank comm h. h))
    (verb_found (SpellsIn version) word (codes "ack") fields ack_of _ call (ack_found version)
    (verb_found (SpellsIn version) word (codes "agree") fields (agree_of version) _ call (agree_found version)
    (verb_found (SpellsIn version) word (codes "shrink") fields (read_plain_call Shrink) _ call (plain_found version (codes "shrink") Shrink (λ line rank comm h. h))
    (verb_found (SpellsIn version) word (codes "barrier") fields (read_plain_call Barrier) _ call (plain_found version (codes "barrier") Barrier (λ line rank comm h. h))
    (verb_found (SpellsIn version) word (codes "poll") fields (read_plain_call Poll) _ call (plain_found version (codes "poll") Poll (λ line rank comm h. h))
    (verb_found (SpellsIn version) word (codes "revoke") fields (read_plain_call Revoke) _ call (plain_found version (codes "revoke") Revoke (λ line rank comm h. h))
    (verb_found (SpellsIn version) word (codes "isrevoked") fields (read_plain_call IsRevoked) _ call (plain_found version (codes "isrevoked") IsRevoked (λ line rank comm h. h))
    (verb_found (SpellsIn version) word (codes "free") fields (read_plain_call Free) _ call (plain_found version (codes "free") Free (λ line rank comm h. h))
    (verb_found (SpellsIn version) word (codes "failure_ack") fields (λ f. of_second version (read_plain_call FailureAck f)) _ call (second_found version (codes "failure_ack") FailureAck (λ line rank comm h. (refl, h)))
    (verb_found (SpellsIn version) word (codes "failure_get_acked") fields (λ f. of_second version (read_plain_call FailureGetAcked f)) _ call (second_found version (codes "failure_get_acked") FailureGetAcked (λ line rank comm h. (refl, h)))
    (no_verb version (joined word fields) call)))))))))))) e

-- what is read is spelled so
pub read_in_spelled : (version : Version) (line : List ℕ) (call : ScriptCall) → call_in version line ≡ Ok call → SpellsIn version line call
unfolding call_in
read_in_spelled version line call e = subst (λ (t : List ℕ). SpellsIn version t call) (joined_word line) (read_from version (first_word line).0 (first_word line).1 call e)

-- .. in the first version
pub read_is_spelled : (line : List ℕ) (call : ScriptCall) → call_of line ≡ Ok call → Spells line call
read_is_spelled line call e = read_in_spelled First line call e

-- the same at a result
pub found : (version : Version) (line : List ℕ) (r : Result ScriptCall LineKind) → r ≡ call_in version line → IfOk r (λ call. SpellsIn version line call)
found version line (Ok call) e = read_in_spelled version line call (sym e)
found version line (Err kind) e = tt

-- how a line spells its call's flag is told by its length
told_padded : (line : List ℕ) (rank comm : ℕ) (flag : FlagAnd) (h : Spells line (Agree rank comm flag)) → is_padded line (Agree rank comm flag) ≡ h.0
told_padded line rank comm flag h =
    let front : List ℕ = codes "agree " ++ (decimal rank ++ 32 ∷ decimal comm) in
    let digits = spelled_flag h.0 flag in
    let behind : front ++ 32 ∷ digits ≡ codes "agree " ++ (decimal rank ++ 32 ∷ (decimal comm ++ 32 ∷ digits)) =
    append_assoc (codes "agree ") (decimal rank ++ 32 ∷ decimal comm) (32 ∷ digits) ∙ ap (λ (t : List ℕ). codes "agree " ++ t) (append_assoc (decimal rank) (32 ∷ decimal comm) (32 ∷ digits)) in
    padded_told line front h.0 flag h.1 (h.2.line_is ∙ sym behind)

-- a line that spells a call is the call's text, with its flag spelled as it is there
pub spelled_is : (line : List ℕ) (call : ScriptCall) → Spells line call → line ≡ spelled_text (is_padded line call) call
spelled_is line (Fail rank) h = h.1
spelled_is line (GetFailed rank comm) h = h.line_is
spelled_is line (Ack rank comm count) h = h.1.line_is
spelled_is line (FailureAck rank comm) h = h.1.line_is
spelled_is line (FailureGetAcked rank comm) h = h.1.line_is
spelled_is line (Agree rank comm flag) h = h.2.line_is ∙ ap (λ (padded : Bool). spelled_text padded (Agree rank comm flag)) (sym (told_padded line rank comm flag h))
spelled_is line (Shrink rank comm) h = h.line_is
spelled_is line (Barrier rank comm) h = h.line_is
spelled_is line (Poll rank comm) h = h.line_is
spelled_is line (Revoke rank comm) h = h.line_is
spelled_is line (IsRevoked rank comm) h = h.line_is
spelled_is line (Free rank comm) h = h.line_is

-- the same, where it is spelled so
pub spelled_as : (padded : Bool) (line : List ℕ) (call : ScriptCall) → SpellsAs padded line call → line ≡ spelled_text padded call
spelled_as padded line call h = spelled_is line call h.spells ∙ ap (λ (is : Bool). spelled_text is call) (sym h.padded_is)

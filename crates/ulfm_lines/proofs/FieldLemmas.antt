-- A field that is put into a line is read from it, and one that is read stands in it.
use Rattle.std.proofs.Common.{◌≡◌, ℕ, ◌<◌, List, ◌∷◌, ◌++◌, Option, Some, None, Result, Ok, Err, Bool, true, false, if◌then◌else◌, refl, sym, ap, subst, ◌∙◌, append_assoc, inl, inr, arith}
use Rattle.std.specs.{Prelude.{◌⊎◌, ⊤, codes}, Fmt.{decimal}, Str.{bytes_eq}}
use Rattle.std.proofs.lemmas.Slice.Eq.{bytes_eq-Decides}
use Rattle.ulfm_laws.specs.declared.{flag_and.FlagAnd.{FlagAnd}}
use Rattle.ulfm_model.specs.declared.{contribution.Offer.{Offer}, contribution.Offer.TheVariants.{Flag, Ctx}, event.Caller.{Caller}, event.Caller.TheVariants.{Outside, Rank}}
use Rattle.ulfm_script.specs.declared.line_kind.LineKind.{LineKind}
use Rattle.ulfm_script.specs.declared.line_kind.LineKind.TheVariants.{Number, Words}
use Rattle.ulfm_script.specs.{Digits.{read_comm, read_printed_flag, flag_text, number_in, read_number, number_to, read_point, read_rank}, Steps.{◌>>=◌}, Words.{next_word}}
use Rattle.ulfm_script.proofs.{Hexadecimal.{printed_again, printed_found}, Numerals.{number_again, number_found, number_to_found, point_again, point_found}, Spelled.{chosen, comm_again, number_is_word, rank_again}, WordLemmas.{IsWord, decimal_is_word, done, flag_is_word, joined, next_alone, next_before, next_found, same_done, step_found}}
use Rattle.ulfm_lines.specs.{Fields.{Field, both, caller_field, read_caller, comm_field, error_field, error_of, field_by, flag_field, flag_mask, is_word, label_field, labelled, number_field, offer_field, offer_of, over, place_field, point_field, rank_field, whole}, LineTexts.{caller_text, mask_flag, offer_text, place_text}, Telling.{CallerFits, PlaceFits}}
use Rattle.ulfm_lines.proofs.Literals.{literal}

-- a field is read just where it stands
pub record IsField {A : Type 0} (field : Option (List ℕ) → Field A) (text_of : A → List ℕ) (Fits : A → Type 0) : Type 0 where
  pub again : (x : A) (rest : Option (List ℕ)) → Fits x → field (Some (joined (text_of x) rest)) ≡ Ok (x, rest)
  pub found : (text : Option (List ℕ)) (x : A) (rest : Option (List ℕ)) → field text ≡ Ok (x, rest) → Fits x × (text ≡ Some (joined (text_of x) rest))

-- the next word is what stands there
pub next_joined : (word : List ℕ) (rest : Option (List ℕ)) → IsWord word → next_word (Some (joined word rest)) ≡ Ok (word, rest)
next_joined word None h = next_alone word h
next_joined word (Some rest) h = next_before word rest h

-- a longer field, in front of what follows
pub joined_more : (a b : List ℕ) (rest : Option (List ℕ)) → joined (a ++ 32 ∷ b) rest ≡ joined a (Some (joined b rest))
joined_more a b None = refl
joined_more a b (Some rest) = append_assoc a (32 ∷ b) (32 ∷ rest)

abbrev with_rest : {A : Type 0} → A → Option (List ℕ) → Field A
with_rest x rest = Ok (x, rest)

-- what was read is what it is, and so is the rest
pub same_field : {A : Type 0} (x y : A) (r s : Option (List ℕ)) → with_rest x r ≡ Ok (y, s) → (x ≡ y) × (r ≡ s)
same_field {A} x y r s e =
    let h = same_done (x, r) (y, s) e in (ap (λ (p : A × Option (List ℕ)). p.0) h, ap (λ (p : A × Option (List ℕ)). p.1) h)

-- a field of one word
pub field_of_word : {A : Type 0} (read : List ℕ → Result A LineKind) (text_of : A → List ℕ) (Fits : A → Type 0)
    → ((x : A) → Fits x → IsWord (text_of x)) → ((x : A) → Fits x → read (text_of x) ≡ Ok x) → ((w : List ℕ) (x : A) → read w ≡ Ok x → Fits x × (w ≡ text_of x))
    → IsField (field_by read) text_of Fits
field_of_word read text_of Fits words again found = record {
  again = λ x rest h. rw (next_joined (text_of x) rest (words x h), again x h) refl;
  found = λ text x rest e.
      let w = step_found (next_word text) (λ w. read w.0 >>= λ y. with_rest y w.1) (x, rest) e in
      let y = step_found (read w.0.0) (λ y. with_rest y w.0.1) (x, rest) w.2 in
      let same = same_field y.0 x w.0.1 rest y.2 in
      let f = found w.0.0 x (y.1 ∙ ap done same.0) in
      (f.0, next_found text w.0 w.1 ∙ ap (λ (t : List ℕ). Some (joined t w.0.1)) f.1 ∙ ap (λ (r : Option (List ℕ)). Some (joined (text_of x) r)) same.1);
}

-- two fields
pub both_fields : {A B : Type 0} (one : Option (List ℕ) → Field A) (other : Option (List ℕ) → Field B) (text_a : A → List ℕ) (text_b : B → List ℕ)
    (FitsA : A → Type 0) (FitsB : B → Type 0) → IsField one text_a FitsA → IsField other text_b FitsB
    → IsField (both one other) (λ x. text_a x.0 ++ 32 ∷ text_b x.1) (λ x. FitsA x.0 × FitsB x.1)
both_fields {A} {B} one other text_a text_b FitsA FitsB h k = record {
  again = λ x rest fits. rw (joined_more (text_a x.0) (text_b x.1) rest, h.again x.0 (Some (joined (text_b x.1) rest)) fits.0, k.again x.1 rest fits.1) refl;
  found = λ text x rest e.
      let a = step_found (one text) (λ a. other a.1 >>= λ b. with_rest (a.0, b.0) b.1) (x, rest) e in
      let b = step_found (other a.0.1) (λ b. with_rest (a.0.0, b.0) b.1) (x, rest) a.2 in
      let same = same_field (a.0.0, b.0.0) x b.0.1 rest b.2 in
      let fa = h.found text a.0.0 a.0.1 a.1 in
      let fb = k.found a.0.1 b.0.0 b.0.1 b.1 in
      let line : text ≡ Some (joined (text_a a.0.0 ++ 32 ∷ text_b b.0.0) b.0.1) =
      fa.1 ∙ ap (λ (r : Option (List ℕ)). Some (joined (text_a a.0.0) r)) fb.1 ∙ ap (λ (t : List ℕ). Some t) (sym (joined_more (text_a a.0.0) (text_b b.0.0) b.0.1)) in
      let fits : FitsA x.0 × FitsB x.1 = subst (λ (y : A × B). FitsA y.0 × FitsB y.1) same.0 (fa.0, fb.0) in
      (fits, line ∙ ap (λ (y : A × B). Some (joined (text_a y.0 ++ 32 ∷ text_b y.1) b.0.1)) same.0 ∙ ap (λ (r : Option (List ℕ)). Some (joined (text_a x.0 ++ 32 ∷ text_b x.1) r)) same.1);
}

-- nothing stands behind
pub over_found : (text : Option (List ℕ)) (fin : Unit {0}) → over text ≡ Ok fin → text ≡ None
unfolding over
over_found None fin e = refl
over_found (Some text) fin e = absurd cc

-- a last field is read just where nothing stands behind it
pub whole_again : {A : Type 0} (one : Option (List ℕ) → Field A) (text_of : A → List ℕ) (Fits : A → Type 0) → IsField one text_of Fits
    → (x : A) → Fits x → whole one (Some (text_of x)) ≡ Ok x
unfolding over
whole_again one text_of Fits h x fits = rw (h.again x None fits) refl

pub whole_found : {A : Type 0} (one : Option (List ℕ) → Field A) (text_of : A → List ℕ) (Fits : A → Type 0) → IsField one text_of Fits
    → (text : Option (List ℕ)) (x : A) → whole one text ≡ Ok x → Fits x × (text ≡ Some (text_of x))
whole_found {A} one text_of Fits h text x e =
    let a = step_found (one text) (λ a. over a.1 >>= λ fin. done a.0) x e in
    let o = step_found (over a.0.1) (λ fin. done a.0.0) x a.2 in
    let same = same_done a.0.0 x o.2 in
    let none = over_found a.0.1 o.0 o.1 in
    let f = h.found text a.0.0 a.0.1 a.1 in
    (subst Fits same f.0, f.1 ∙ ap (λ (r : Option (List ℕ)). Some (joined (text_of a.0.0) r)) none ∙ ap (λ (y : A). Some (text_of y)) same)

-- the fields of a trace's lines

pub is_rank : IsField rank_field decimal (λ r. r < 1024)
unfolding rank_field
is_rank = field_of_word read_rank decimal (λ r. r < 1024) (λ r h. number_is_word r (omega (arith, h))) rank_again
    (λ w r e. let f = number_to_found 1023 r w e in (omega (arith, f.0), f.1))

pub is_comm : IsField comm_field decimal (λ c. c < 256)
unfolding comm_field
is_comm = field_of_word read_comm decimal (λ c. c < 256) (λ c h. number_is_word c (omega (arith, h))) comm_again
    (λ w c e. let f = number_to_found 255 c w e in (omega (arith, f.0), f.1))

pub is_number : IsField number_field decimal (λ n. n < 10000)
unfolding number_field
is_number = field_of_word read_number decimal (λ n. n < 10000) number_is_word number_again number_found

pub is_point : IsField point_field decimal (λ n. n < 10000000)
unfolding point_field
is_point = field_of_word read_point decimal (λ n. n < 10000000) (λ n h. decimal_is_word n (omega (arith, h))) point_again point_found

pub is_flag : IsField flag_field flag_text (λ flag. ⊤)
unfolding flag_field
is_flag = field_of_word read_printed_flag flag_text (λ flag. ⊤) (λ flag h. flag_is_word flag) (λ flag h. printed_again flag) (λ w flag e. (tt, printed_found w flag e))

caller_is_word : (by : Caller) → CallerFits by → IsWord (caller_text by)
caller_is_word Outside h = literal _ refl
caller_is_word (Rank r) h = number_is_word r (omega (arith, h))

dash_is_none : (r : ℕ) → read_rank (codes "-") ≡ Ok r → ⊥
unfolding number_to number_in
dash_is_none r e = let k : (let x : Result ℕ LineKind = Err Number in x) ≡ Ok r = e in cc

-- a test holds or not
pub two_ways : (b : Bool) → (b ≡ true) ⊎ (b ≡ false)
two_ways true = inl refl
two_ways false = inr refl

-- a number is no dash
no_dash : (r : ℕ) → r < 1024 → bytes_eq (decimal r) (codes "-") ≡ false
no_dash r h = elim (two_ways (bytes_eq (decimal r) (codes "-"))) [
  | inl same ↦ absurd (
      let is : decimal r ≡ codes "-" = (bytes_eq-Decides (decimal r) (codes "-")).0 same in
      dash_is_none r (sym (ap read_rank is) ∙ rank_again r h)
      )
  | inr other ↦ other
]

caller_again : (by : Caller) → CallerFits by → read_caller (caller_text by) ≡ Ok by
unfolding read_caller
caller_again Outside h = refl
caller_again (Rank r) h = rw (no_dash r h, rank_again r h) refl

caller_found : (w : List ℕ) (by : Caller) → read_caller w ≡ Ok by → CallerFits by × (w ≡ caller_text by)
unfolding read_caller
caller_found w by e = elim (chosen (bytes_eq w (codes "-")) (Ok Outside) (read_rank w >>= λ r. Ok (Rank r)) (Ok by) e) [
  | inl this ↦ (
      let is = (bytes_eq-Decides w (codes "-")).0 this.0 in
      subst (λ (x : Caller). CallerFits x × (w ≡ caller_text x)) (same_done Outside by this.1) (tt, is)
      )
  | inr that ↦ (
      let r = step_found (read_rank w) (λ r. Ok (Rank r)) by that.1 in
      let f = number_to_found 1023 r.0 w r.1 in
      subst (λ (x : Caller). CallerFits x × (w ≡ caller_text x)) (same_done (Rank r.0) by r.2) (omega (arith, f.0), f.1)
      )
]

pub is_caller : IsField caller_field caller_text CallerFits
unfolding caller_field
is_caller = field_of_word read_caller caller_text CallerFits caller_is_word caller_again caller_found

word_again : (label : List ℕ) (fin : Unit {0}) → is_word label label ≡ Ok fin
word_again label tt = rw ((bytes_eq-Decides label label).1 refl) refl

word_found : (label w : List ℕ) (fin : Unit {0}) → is_word label w ≡ Ok fin → w ≡ label
word_found label w fin e = elim (chosen (bytes_eq w label) (Ok tt) (Err Words) (Ok fin) e) [
  | inl this ↦ (bytes_eq-Decides w label).0 this.0
  | inr that ↦ absurd (let k : (let r : Result (Unit {0}) LineKind = Err Words in r) ≡ Ok fin = that.1 in cc)
]

-- a label
pub is_label : (label : List ℕ) → IsWord label → IsField (label_field label) (λ fin. label) (λ fin. ⊤)
unfolding label_field
is_label label word = field_of_word (is_word label) (λ fin. label) (λ fin. ⊤) (λ fin h. word) (λ fin h. word_again label fin) (λ w fin e. (tt, word_found label w fin e))

-- a number behind its label
pub is_labelled : (label : List ℕ) → IsWord label → IsField (labelled label) (λ n. label ++ 32 ∷ decimal n) (λ n. n < 10000)
unfolding labelled
is_labelled label word =
    let h = is_label label word in
    record {
      again = λ n rest fits. rw (joined_more label (decimal n) rest, h.again tt (Some (joined (decimal n) rest)) tt, is_number.again n rest fits) refl;
      found = λ text n rest e.
          let a = step_found (label_field label text) (λ a. number_field a.1) (n, rest) e in
          let fa = h.found text a.0.0 a.0.1 a.1 in
          let fb = is_number.found a.0.1 n rest a.2 in
          (fb.0, fa.1 ∙ ap (λ (r : Option (List ℕ)). Some (joined label r)) fb.1 ∙ ap (λ (t : List ℕ). Some t) (sym (joined_more label (decimal n) rest)));
    }

-- a communicator, a round and a rank
pub is_place : IsField place_field (λ x. place_text x.0 x.1.0 x.1.1) (λ x. PlaceFits x.0 x.1.0 x.1.1)
unfolding place_field
is_place = both_fields comm_field (both number_field rank_field) decimal (λ x. decimal x.0 ++ 32 ∷ decimal x.1) (λ c. c < 256) (λ x. (x.0 < 10000) × (x.1 < 1024))
    is_comm (both_fields number_field rank_field decimal decimal (λ n. n < 10000) (λ r. r < 1024) is_number is_rank)

-- what is offered

label_is_flag : IsWord (codes "flag")
label_is_flag = literal _ refl

label_is_ctx : IsWord (codes "ctx")
label_is_ctx = literal _ refl

offer_label : Offer FlagAnd → List ℕ
offer_label (Flag flag) = codes "flag"
offer_label (Ctx mask) = codes "ctx"

offer_again : (offer : Offer FlagAnd) (rest : Option (List ℕ)) → offer_field (Some (joined (offer_text offer) rest)) ≡ Ok (offer, rest)
unfolding offer_field
offer_again (Flag flag) rest =
    rw (joined_more (codes "flag") (flag_text flag) rest, next_joined (codes "flag") (Some (joined (flag_text flag) rest)) label_is_flag, is_flag.again flag rest tt) refl
offer_again (Ctx mask) rest =
    rw (joined_more (codes "ctx") (flag_text (mask_flag mask)) rest, next_joined (codes "ctx") (Some (joined (flag_text (mask_flag mask)) rest)) label_is_ctx, is_flag.again (mask_flag mask) rest tt) refl

offered : (label : List ℕ) (flag : FlagAnd) (offer : Offer FlagAnd) → offer_of label flag ≡ Ok offer → label ++ 32 ∷ flag_text flag ≡ offer_text offer
offered label flag offer e = elim (chosen (bytes_eq label (codes "flag")) (Ok (Flag flag)) (if bytes_eq label (codes "ctx") then Ok (Ctx (flag_mask flag)) else Err Words) (Ok offer) e) [
  | inl this ↦ ap (λ (l : List ℕ). l ++ 32 ∷ flag_text flag) ((bytes_eq-Decides label (codes "flag")).0 this.0) ∙ ap offer_text (same_done (Flag flag) offer this.1)
  | inr that ↦ elim (chosen (bytes_eq label (codes "ctx")) (Ok (Ctx (flag_mask flag))) (Err Words) (Ok offer) that.1) [
    | inl this ↦ ap (λ (l : List ℕ). l ++ 32 ∷ flag_text flag) ((bytes_eq-Decides label (codes "ctx")).0 this.0) ∙ ap offer_text (same_done (Ctx (flag_mask flag)) offer this.1)
    | inr last ↦ absurd (let k : (let r : Result (Offer FlagAnd) LineKind = Err Words in r) ≡ Ok offer = last.1 in cc)
  ]
]

offer_found : (text : Option (List ℕ)) (offer : Offer FlagAnd) (rest : Option (List ℕ)) → offer_field text ≡ Ok (offer, rest) → text ≡ Some (joined (offer_text offer) rest)
unfolding offer_field
offer_found text offer rest e =
    let w = step_found (next_word text) (λ label. flag_field label.1 >>= λ flag. offer_of label.0 flag.0 >>= λ offer. with_rest offer flag.1) (offer, rest) e in
    let f = step_found (flag_field w.0.1) (λ flag. offer_of w.0.0 flag.0 >>= λ offer. with_rest offer flag.1) (offer, rest) w.2 in
    let o = step_found (offer_of w.0.0 f.0.0) (λ offer. with_rest offer f.0.1) (offer, rest) f.2 in
    let same = same_field o.0 offer f.0.1 rest o.2 in
    let flag = is_flag.found w.0.1 f.0.0 f.0.1 f.1 in
    let label = offered w.0.0 f.0.0 offer (o.1 ∙ ap done same.0) in
    next_found text w.0 w.1 ∙ ap (λ (r : Option (List ℕ)). Some (joined w.0.0 r)) flag.1 ∙ ap (λ (t : List ℕ). Some t) (sym (joined_more w.0.0 (flag_text f.0.0) f.0.1))
    ∙ ap (λ (t : List ℕ). Some (joined t f.0.1)) label ∙ ap (λ (r : Option (List ℕ)). Some (joined (offer_text offer) r)) same.1

pub is_offer : IsField offer_field offer_text (λ offer. ⊤)
is_offer = record { again = λ offer rest h. offer_again offer rest; found = λ text offer rest e. (tt, offer_found text offer rest e) }

-- whether an agree raises an error, without the space before it
abbrev pub error_word : Bool → List ℕ
error_word true = codes "raised"
error_word false = codes "clean"

error_is_word : (raised : Bool) → IsWord (error_word raised)
error_is_word true = literal _ refl
error_is_word false = literal _ refl

error_again : (raised : Bool) → error_of (error_word raised) ≡ Ok raised
unfolding error_of
error_again true = refl
error_again false = refl

error_found : (w : List ℕ) (raised : Bool) → error_of w ≡ Ok raised → w ≡ error_word raised
unfolding error_of
error_found w raised e = elim (chosen (bytes_eq w (codes "raised")) (Ok true) (if bytes_eq w (codes "clean") then Ok false else Err Words) (Ok raised) e) [
  | inl this ↦ (bytes_eq-Decides w (codes "raised")).0 this.0 ∙ ap error_word (same_done true raised this.1)
  | inr that ↦ elim (chosen (bytes_eq w (codes "clean")) (Ok false) (Err Words) (Ok raised) that.1) [
    | inl this ↦ (bytes_eq-Decides w (codes "clean")).0 this.0 ∙ ap error_word (same_done false raised this.1)
    | inr last ↦ absurd (let k : (let r : Result Bool LineKind = Err Words in r) ≡ Ok raised = last.1 in cc)
  ]
]

pub is_error : IsField error_field error_word (λ raised. ⊤)
unfolding error_field
is_error = field_of_word error_of error_word (λ raised. ⊤) (λ raised h. error_is_word raised) (λ raised h. error_again raised) (λ w raised e. (tt, error_found w raised e))

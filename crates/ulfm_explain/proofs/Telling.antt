-- Lines that are offered and notes, one behind another.
use Rattle.std.proofs.Common.{◌≡◌, ℕ, List, [], ◌∷◌, ◌++◌, codes, map, refl, sym, ap, ◌∙◌, append_assoc}
use Rattle.std.specs.List.{AllByRecursion}
use Rattle.std.proofs.lemmas.List.{append-nil}
use Rattle.ulfm_explain.specs.Sheets.{IsLegalBehind, Notes, Offers, notes_text, offered_text, shown_byte}

-- no note, and no line that is offered
pub notes_none : (old : List ℕ) → Notes old old
notes_none old = ([], sym (append-nil old))

pub offers_none : (before old : List ℕ) → Offers before old old
offers_none before old = ([], tt, sym (append-nil old))

-- the text of two lots of notes
notes_joined : (xs ys : List (List ℕ)) → notes_text (xs ++ ys) ≡ notes_text xs ++ notes_text ys
notes_joined [] ys = refl
notes_joined (x ∷ xs) ys =
    ap (λ (t : List ℕ). codes "  " ++ (map shown_byte x ++ 10 ∷ t)) (notes_joined xs ys) ∙ ap (λ (t : List ℕ). codes "  " ++ t) (sym (append_assoc (map shown_byte x) (10 ∷ notes_text xs) (notes_text ys)))

offered_joined : (xs ys : List (List ℕ)) → offered_text (xs ++ ys) ≡ offered_text xs ++ offered_text ys
offered_joined [] ys = refl
offered_joined (x ∷ xs) ys =
    ap (λ (t : List ℕ). codes "legal: " ++ (x ++ 10 ∷ t)) (offered_joined xs ys) ∙ ap (λ (t : List ℕ). codes "legal: " ++ t) (sym (append_assoc x (10 ∷ offered_text xs) (offered_text ys)))

all_joined : (P : List ℕ → Type 0) (xs ys : List (List ℕ)) → AllByRecursion P xs → AllByRecursion P ys → AllByRecursion P (xs ++ ys)
all_joined P [] ys a b = b
all_joined P (x ∷ xs) ys a b = (a.0, all_joined P xs ys a.1 b)

-- notes behind others
pub notes_then : (old mid new : List ℕ) → Notes old mid → Notes mid new → Notes old new
notes_then old mid new a b =
    (a.0 ++ b.0, b.1 ∙ ap (λ (t : List ℕ). t ++ notes_text b.0) a.1 ∙ append_assoc old (notes_text a.0) (notes_text b.0) ∙ ap (λ (t : List ℕ). old ++ t) (sym (notes_joined a.0 b.0)))

-- lines that are offered behind others
pub offers_then : (before old mid new : List ℕ) → Offers before old mid → Offers before mid new → Offers before old new
offers_then before old mid new a b = (
  a.0 ++ b.0,
  all_joined (IsLegalBehind before) a.0 b.0 a.1 b.1,
  b.2 ∙ ap (λ (t : List ℕ). t ++ offered_text b.0) a.2 ∙ append_assoc old (offered_text a.0) (offered_text b.0)
      ∙ ap (λ (t : List ℕ). old ++ t) (sym (offered_joined a.0 b.0)),
)

-- a note was put
pub note_put : (old spaced shown new note : List ℕ) → spaced ≡ old ++ codes "  " → shown ≡ spaced ++ map shown_byte note → new ≡ shown ++ 10 ∷ [] → Notes old new
note_put old spaced shown new note a b c = (
  note ∷ [],
  c ∙ ap (λ (t : List ℕ). t ++ 10 ∷ []) (b ∙ ap (λ (t : List ℕ). t ++ map shown_byte note) a ∙ append_assoc old (codes "  ") (map shown_byte note))
      ∙ append_assoc old (codes "  " ++ map shown_byte note) (10 ∷ []),
)

-- a line was offered that is legal
pub offer_put : (before old new line : List ℕ) → IsLegalBehind before line → new ≡ old ++ (codes "legal: " ++ (line ++ 10 ∷ [])) → Offers before old new
offer_put before old new line legal is = (line ∷ [], (legal, tt), is)

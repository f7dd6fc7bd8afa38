-- How a reader goes on: byte by byte, over words, and over texts whose marks are filled in.
use Rattle.std.proofs.lemmas.List.{take_more}
use Rattle.std.proofs.Common.{◌≡◌, ◌∙◌, ℕ, ◌+◌, ◌<◌, length, take, get_or, ◌==◌, Bool, true, false, ◌&&◌, ◌||◌, not, if◌then◌else◌, List, [], ◌∷◌, ◌++◌, append_assoc, codes, map, refl, sym, ap, subst, inl, inr}
use Rattle.ulfm_draw.specs.Markup.{EndsWith, Place, Follows, in_picture, is_plain, is_reserved, plain_of, scan, step}
use Rattle.ulfm_draw.specs.Markup.Place.{Before, Text, Opened, Name, Spaced, Attribute, Equals, Value, Quoted, Slash, Closing, Done, Bad}

-- one text, and then another
pub scan-append : (place : Place) (xs ys : List ℕ) → scan place (xs ++ ys) ≡ scan (scan place xs) ys
scan-append place [] ys = refl
scan-append place (x ∷ xs) ys = scan-append (step place x) xs ys

-- behind what can't be read nothing can
pub scan-bad : (xs : List ℕ) → scan Bad xs ≡ Bad
scan-bad [] = refl
scan-bad (x ∷ xs) = scan-bad xs

-- who follows goes on following
pub follows_step : (p q : Place) (x : ℕ) → Follows p q → Follows (step p x) (step q x)
follows_step p q x (inl e) = inl (ap (λ s. step s x) e)
follows_step p q x (inr b) = inr (ap (λ s. step s x) b)

pub follows_scan : (p q : Place) (xs : List ℕ) → Follows p q → Follows (scan p xs) (scan q xs)
follows_scan p q xs (inl e) = inl (ap (λ s. scan s xs) e)
follows_scan p q xs (inr b) = inr (ap (λ s. scan s xs) b ∙ scan-bad xs)

pub follows_then : (p q r : Place) → Follows p q → Follows q r → Follows p r
follows_then p q r (inl e) (inl f) = inl (e ∙ f)
follows_then p q r (inr b) (inl f) = inr (sym f ∙ b)
follows_then p q r h (inr b) = inr b

-- the three marks are read alike: they stand in a text or in a value
pub marks_alike : (p : Place) → (step p 35 ≡ step p 36) × (step p 64 ≡ step p 36)
marks_alike Before = (refl, refl)
marks_alike (Text names) = (refl, refl)
marks_alike (Opened names) = (refl, refl)
marks_alike (Name name names) = (refl, refl)
marks_alike (Spaced name names) = (refl, refl)
marks_alike (Attribute name names) = (refl, refl)
marks_alike (Equals name names) = (refl, refl)
marks_alike (Value name names) = (refl, refl)
marks_alike (Quoted name names) = (refl, refl)
marks_alike (Slash names) = (refl, refl)
marks_alike (Closing name names) = (refl, refl)
marks_alike Done = (refl, refl)
marks_alike Bad = (refl, refl)

pub number_mark : (p : Place) → step p 35 ≡ step p 36
number_mark p = (marks_alike p).0

pub class_mark : (p : Place) → step p 64 ≡ step p 36
class_mark p = (marks_alike p).1

-- what a plain byte is not
record Parts (a b c d : Bool) : Type 0 where
  pub quote : a ≡ false
  pub less : b ≡ false
  pub greater : c ≡ false
  pub ampersand : d ≡ false

parts : (shown a b c d : Bool) → (shown && not (a || (b || c || d))) ≡ true → Parts a b c d
parts true false false false false h = record { quote = refl; less = refl; greater = refl; ampersand = refl }
parts true true b c d h = let bad : false ≡ true = h in cc
parts true false true c d h = let bad : false ≡ true = h in cc
parts true false false true d h = let bad : false ≡ true = h in cc
parts true false false false true h = let bad : false ≡ true = h in cc
parts false a b c d h = let bad : false ≡ true = h in cc

plain_parts : (x : ℕ) → is_plain x ≡ true → Parts (x == 34) (x == 60) (x == 62) (x == 38)
plain_parts x h = parts _ _ _ _ _ h

text_choice : {A : Type 0} (less greater ampersand : Bool) (a b c : A) → less ≡ false → greater ≡ false → ampersand ≡ false
    → (if less then a else (if less || greater || ampersand then b else c)) ≡ c
text_choice less greater ampersand a b c e f g = rw (e, f, g) refl

value_choice : {A : Type 0} (quote less greater ampersand : Bool) (a b c : A) → quote ≡ false → less ≡ false → greater ≡ false → ampersand ≡ false
    → (if quote then a else (if less || greater || ampersand then b else c)) ≡ c
value_choice quote less greater ampersand a b c d e f g = rw (d, e, f, g) refl

-- a plain byte stands for itself where a mark may stand
plain_stays : (p : Place) (x : ℕ) → is_plain x ≡ true → Follows (step (step p 36) x) (step p 36)
plain_stays (Text names) x h = let k = plain_parts x h in inl (text_choice (x == 60) (x == 62) (x == 38) _ _ _ k.less k.greater k.ampersand)
plain_stays (Value name names) x h =
    let k = plain_parts x h in inl (value_choice (x == 34) (x == 60) (x == 62) (x == 38) _ _ _ k.quote k.less k.greater k.ampersand)
plain_stays Before x h = inr refl
plain_stays (Opened names) x h = inr refl
plain_stays (Name name names) x h = inr refl
plain_stays (Spaced name names) x h = inr refl
plain_stays (Attribute name names) x h = inr refl
plain_stays (Equals name names) x h = inr refl
plain_stays (Quoted name names) x h = inr refl
plain_stays (Slash names) x h = inr refl
plain_stays (Closing name names) x h = inr refl
plain_stays Done x h = inr refl
plain_stays Bad x h = inr refl

-- where a mark may stand, nothing may stand
mark_stays : (p : Place) → Follows p (step p 36)
mark_stays (Text names) = inl refl
mark_stays (Value name names) = inl refl
mark_stays Before = inr refl
mark_stays (Opened names) = inr refl
mark_stays (Name name names) = inr refl
mark_stays (Spaced name names) = inr refl
mark_stays (Attribute name names) = inr refl
mark_stays (Equals name names) = inr refl
mark_stays (Quoted name names) = inr refl
mark_stays (Slash names) = inr refl
mark_stays (Closing name names) = inr refl
mark_stays Done = inr refl
mark_stays Bad = inr refl

-- each byte that is put is plain
plain_choice : (b : Bool) (x : ℕ) → is_plain x ≡ b → is_plain (if b then x else 63) ≡ true
plain_choice true x h = h
plain_choice false x h = refl

made_plain : (x : ℕ) → is_plain (plain_of x) ≡ true
made_plain x = plain_choice (is_plain x) x refl

-- words may stand where their mark stands
plain_follow : (p q : Place) (xs : List ℕ) → Follows q (step p 36) → Follows (scan q (map plain_of xs)) (step p 36)
plain_follow p q [] h = h
plain_follow p q (x ∷ xs) h =
    let y = plain_of x in
    let one = follows_then (step q y) (step (step p 36) y) (step p 36) (follows_step q (step p 36) y h) (plain_stays p y (made_plain x)) in
    plain_follow p (step q y) xs one

pub words_follow : (p : Place) (xs : List ℕ) → Follows (scan p (map plain_of xs)) (step p 36)
words_follow p xs = plain_follow p p xs (mark_stays p)

-- words behind a text
pub words_put : (old new words : List ℕ) → new ≡ old ++ map plain_of words → (p : Place) → Follows (scan p new) (step (scan p old) 36)
words_put old new words e p =
    subst (λ (s : Place). Follows s (step (scan p old) 36)) (sym (ap (scan p) e ∙ scan-append p old (map plain_of words)))
    (words_follow (scan p old) words)

pub class_put : (old new words : List ℕ) → new ≡ old ++ map plain_of words → (p : Place) → Follows (scan p new) (step (scan p old) 64)
class_put old new words e p =
    subst (λ (s : Place). Follows (scan p new) s) (sym (class_mark (scan p old))) (words_put old new words e p)

pub number_put : (old new words : List ℕ) → new ≡ old ++ map plain_of words → (p : Place) → Follows (scan p new) (step (scan p old) 35)
number_put old new words e p =
    subst (λ (s : Place). Follows (scan p new) s) (sym (number_mark (scan p old))) (words_put old new words e p)

-- a byte behind a text
pub byte_put : (old new : List ℕ) (x : ℕ) → new ≡ old ++ x ∷ [] → (p : Place) → Follows (scan p new) (step (scan p old) x)
byte_put old new x e p = inl (ap (scan p) e ∙ scan-append p old (x ∷ []))

-- a reader that was led to a place, and reads on
pub goes_from : (old new piece : List ℕ) (p q r : Place) → new ≡ old ++ piece → scan p old ≡ q → scan q piece ≡ r → scan p new ≡ r
goes_from old new piece p q r e h k = ap (scan p) e ∙ scan-append p old piece ∙ ap (λ s. scan s piece) h ∙ k

-- the same behind a text whose marks are filled in, where that text can be read
pub fills_from : (old new template : List ℕ) (p q r : Place) → ((place : Place) → Follows (scan place new) (scan (scan place old) template)) → scan p old ≡ q
    → scan q template ≡ r → (r ≡ Bad → ⊥) → scan p new ≡ r
fills_from old new template p q r f h k good = ends (f p)
  where
    led : scan (scan p old) template ≡ r
    led = ap (λ s. scan s template) h ∙ k

    ends : Follows (scan p new) (scan (scan p old) template) → scan p new ≡ r
    ends (inl e) = e ∙ led
    ends (inr b) = absurd (good (sym led ∙ b))

-- one more byte of a text with marks
pub filled_on : (old now new template : List ℕ) (i : ℕ) → i < length template
    → ((p : Place) → Follows (scan p now) (scan (scan p old) (take i template)))
    → ((p : Place) → Follows (scan p new) (step (scan p now) (get_or template i 0)))
    → (p : Place) → Follows (scan p new) (scan (scan p old) (take (i + 1) template))
filled_on old now new template i less f g p =
    let more : take (i + 1) template ≡ take i template ++ get_or template i 0 ∷ [] = take_more template i 0 less in
    let to = step (scan (scan p old) (take i template)) (get_or template i 0) in
    let led : scan (scan p old) (take (i + 1) template) ≡ to = ap (scan (scan p old)) more ∙ scan-append (scan p old) (take i template) (get_or template i 0 ∷ []) in
    subst (λ (s : Place). Follows (scan p new) s) (sym led)
    (follows_then (scan p new) (step (scan p now) (get_or template i 0)) to (g p) (follows_step (scan p now) (scan (scan p old) (take i template)) (get_or template i 0) (f p)))

-- a piece that is a text with its marks filled in is read as that text
pub piece_reads : (cleared piece template : List ℕ) (q : Place) → cleared ≡ []
    → ((place : Place) → Follows (scan place piece) (scan (scan place cleared) template)) → scan q template ≡ q → (q ≡ Bad → ⊥) → scan q piece ≡ q
piece_reads cleared piece template q none f k good = fills_from cleared piece template q q q f (ap (scan q) none) k good

-- a piece was put behind a text, or the text is as it was
pub kept_or_more : (put : Bool) (old new piece : List ℕ) (p q : Place) → new ≡ (if put then old ++ piece else old) → scan p old ≡ q → scan q piece ≡ q → scan p new ≡ q
kept_or_more true old new piece p q e h k = goes_from old new piece p q q e h k
kept_or_more false old new piece p q e h k = ap (scan p) e ∙ h

-- where a picture's last words stand
abbrev last_words : Place
last_words = Text (codes "text" ∷ codes "svg" ∷ [])

words_stay : (words : List ℕ) → scan last_words (map plain_of words) ≡ last_words
words_stay words = stay (words_follow last_words words)
  where
    stay : Follows (scan last_words (map plain_of words)) last_words → scan last_words (map plain_of words) ≡ last_words
    stay (inl e) = e
    stay (inr b) = let bad : last_words ≡ Bad = b in cc

-- the last words of a picture, behind what was written before
pub last_put : (old begun opened said ended words : List ℕ) → scan Before old ≡ in_picture
    → ((p : Place) → Follows (scan p begun) (scan (scan p old) (codes "<text class=\"@\" x=\"24\" y=\"#\"")))
    → opened ≡ begun ++ codes ">" → said ≡ opened ++ map plain_of words → ended ≡ said ++ codes "</text>\n</svg>\n" → scan Before ended ≡ Done
last_put old begun opened said ended words h f e1 e2 e3 =
    let quoted : Place = Quoted (codes "text") (codes "svg" ∷ []) in
    let one : scan Before begun ≡ quoted = fills_from old begun (codes "<text class=\"@\" x=\"24\" y=\"#\"") Before in_picture quoted f h refl (λ b. cc) in
    let two : scan Before opened ≡ last_words = goes_from begun opened (codes ">") Before quoted last_words e1 one refl in
    let three : scan Before said ≡ last_words = goes_from opened said (map plain_of words) Before last_words last_words e2 two (words_stay words) in
    goes_from said ended (codes "</text>\n</svg>\n") Before last_words Done e3 three refl

pub last_ends : (begun opened said ended words : List ℕ) → opened ≡ begun ++ codes ">" → said ≡ opened ++ map plain_of words
    → ended ≡ said ++ codes "</text>\n</svg>\n" → EndsWith ended words
last_ends begun opened said ended words e1 e2 e3 =
    let w = map plain_of words in
    let tail = codes "</text>\n</svg>\n" in
    let all : ended ≡ ((begun ++ codes ">") ++ w) ++ tail = e3 ∙ ap (λ (t : List ℕ). t ++ tail) (e2 ∙ ap (λ (t : List ℕ). t ++ w) e1) in
    (begun, all ∙ append_assoc (begun ++ codes ">") w tail ∙ append_assoc begun (codes ">") (w ++ tail))

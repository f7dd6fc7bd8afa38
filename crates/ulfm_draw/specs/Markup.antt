-- A reader of markup: elements that are closed in the order in which they were opened, attributes in quotes, and nothing that has to be escaped.
use Rattle.std.specs.Prelude.{◌≡◌, ◌⊎◌, ℕ, ◌+◌, ◌==◌, Bool, ◌&&◌, ◌||◌, not, nat_le, if◌then◌else◌, List, [], ◌∷◌, ◌++◌, codes, map, slice_index}
use Rattle.std.specs.Fmt.{decimal}
use Rattle.std.specs.Str.{bytes_eq}

-- Where the reader stands: before the root element; in the text of an element; in a tag, at each of its parts; behind the root; or behind what can't
-- be read. It knows the name of the tag, as far as it was read, and the names of the elements that are open, the innermost first.
pub data Place : Type 0 where
  Before : Place
  Text : (open_names : List (List ℕ)) → Place
  Opened : (open_names : List (List ℕ)) → Place
  Name : (name : List ℕ) (open_names : List (List ℕ)) → Place
  Spaced : (name : List ℕ) (open_names : List (List ℕ)) → Place
  Attribute : (name : List ℕ) (open_names : List (List ℕ)) → Place
  Equals : (name : List ℕ) (open_names : List (List ℕ)) → Place
  Value : (name : List ℕ) (open_names : List (List ℕ)) → Place
  Quoted : (name : List ℕ) (open_names : List (List ℕ)) → Place
  Slash : (open_names : List (List ℕ)) → Place
  Closing : (name : List ℕ) (open_names : List (List ℕ)) → Place
  Done : Place
  Bad : Place

-- a letter of a name
abbrev pub is_letter : ℕ → Bool
is_letter x = (nat_le 97 x && nat_le x 122) || (nat_le 65 x && nat_le x 90) || (x == 45) || (x == 58)

-- what stands in a text or in a value only where it is escaped
abbrev pub is_reserved : ℕ → Bool
is_reserved x = (x == 60) || (x == 62) || (x == 38)

-- behind an element: in the text of the one around it, or behind the root
abbrev pub behind : List (List ℕ) → Place
behind [] = Done
behind (name ∷ names) = Text (name ∷ names)

-- behind the tag that closes an element of this name
abbrev pub closed : List ℕ → List (List ℕ) → Place
closed name [] = Bad
closed name (inner ∷ names) = if bytes_eq name inner then behind names else Bad

-- behind the name or behind an attribute of a tag
abbrev pub goes_on : List ℕ → List (List ℕ) → ℕ → Place
goes_on name names x =
    if x == 32 then Spaced name names else (if x == 62 then Text (name ∷ names) else (if x == 47 then Slash names else Bad))

-- a byte more
abbrev pub step : Place → ℕ → Place
step Before x = if x == 60 then Opened [] else Bad
step (Text names) x = if x == 60 then Opened names else (if is_reserved x then Bad else Text names)
step (Opened names) x = if x == 47 then Closing [] names else (if is_letter x then Name (x ∷ []) names else Bad)
step (Name name names) x = if is_letter x then Name (name ++ x ∷ []) names else goes_on name names x
step (Spaced name names) x = if is_letter x then Attribute name names else Bad
step (Attribute name names) x = if is_letter x then Attribute name names else (if x == 61 then Equals name names else Bad)
step (Equals name names) x = if x == 34 then Value name names else Bad
step (Value name names) x = if x == 34 then Quoted name names else (if is_reserved x then Bad else Value name names)
step (Quoted name names) x = goes_on name names x
step (Slash names) x = if x == 62 then behind names else Bad
step (Closing name names) x = if is_letter x then Closing (name ++ x ∷ []) names else (if x == 62 then closed name names else Bad)
step Done x = if x == 10 then Done else Bad
step Bad x = Bad

-- a text more
abbrev pub scan : Place → List ℕ → Place
scan place [] = place
scan place (x ∷ xs) = scan (step place x) xs

-- one element, whose elements are all closed, and newlines behind it
abbrev pub IsWellFormed : List ℕ → Type 0
IsWellFormed text = scan Before text ≡ Done

-- in the picture's own element, and in a group in it
abbrev pub in_picture : Place
in_picture = Text (codes "svg" ∷ [])

abbrev pub in_group : Place
in_group = Text (codes "g" ∷ codes "svg" ∷ [])

-- the reader stands where another text led it, if that one can be read
abbrev pub Follows : Place → Place → Type 0
Follows place other = (place ≡ other) ⊎ (other ≡ Bad)

-- whether a byte stands for itself in a text and in a value
abbrev pub is_plain : ℕ → Bool
is_plain x = ((nat_le 32 x && nat_le x 126) || (x == 10)) && not ((x == 34) || is_reserved x)

-- the byte as it may stand there: a question mark in place of one that doesn't stand for itself
abbrev pub plain_of : ℕ → ℕ
plain_of x = if is_plain x then x else 63

-- what stands in the place of a byte of a text with marks: a class for `@`, words for `$`, and for `#` the number at a place, or 0 where there is none
abbrev pub mark_filled : List ℕ → List ℕ → List ℕ → ℕ → ℕ → List ℕ
mark_filled class numbers words place x =
    if x == 64 then map plain_of class
    else (if x == 36 then map plain_of words else (if x == 35 then map plain_of (decimal (slice_index numbers place)) else x ∷ []))

-- a text with its marks filled in, of which so many were for numbers before
unfoldable pub filled_from : List ℕ → List ℕ → List ℕ → ℕ → List ℕ → List ℕ
filled_from class numbers words place [] = []
filled_from class numbers words place (x ∷ xs) =
    mark_filled class numbers words place x ++ filled_from class numbers words (if x == 35 then place + 1 else place) xs

-- a text with its marks filled in
abbrev pub filled : List ℕ → List ℕ → List ℕ → List ℕ → List ℕ
filled class numbers words text = filled_from class numbers words 0 text

-- these words are the last of a picture: behind them nothing but what is open is closed
abbrev pub EndsWith : List ℕ → List ℕ → Type 0
EndsWith text words = (before : List ℕ) × (text ≡ before ++ (codes ">" ++ (map plain_of words ++ codes "</text>\n</svg>\n")))

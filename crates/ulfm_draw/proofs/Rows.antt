-- Rows of a text form, and the lines that they give.
use Rattle.std.proofs.Common.{◌≡◌, ◌≢◌, ◌⊎◌, inl, inr, ◌∙◌, ℕ, zero, suc, ◌+◌, ◌-◌, ◌≤◌, ◌<◌, arith, length, ◌==◌, ◌||◌, Bool, true, false, if◌then◌else◌, List, [], ◌∷◌, ◌++◌, map, refl, sym, ap, subst, append_assoc, append-nil}
use Rattle.std.proofs.lemmas.Bool.Decides.{eqb_tells}
use Rattle.ulfm_script.specs.{Buffers.{HasNoNewline}, Scripts.{rest_from}}
use Rattle.ulfm_draw.specs.Columns.{Gives, column_of, kept_of, lines_taken, without_columns}

-- two numbers that differ
eqb-other : (a b : ℕ) → a ≢ b → (a == b) ≡ false
eqb-other a b other = tells (eqb_tells a b)
  where
    tells : (((a == b) ≡ true) × (a ≡ b)) ⊎ (((a == b) ≡ false) × (a ≢ b)) → (a == b) ≡ false
    tells (inl h) = absurd (other h.1)
    tells (inr h) = h.0

-- no byte of a column is a tab
column_choice : (tab newline : Bool) (x : ℕ) → (x == 9) ≡ tab → (if tab || newline then 63 else x) == 9 ≡ false
column_choice true newline x e = refl
column_choice false true x e = refl
column_choice false false x e = e

no_tab : (x : ℕ) → (column_of x == 9) ≡ false
no_tab x = column_choice (x == 9) (x == 10) x refl

-- columns give nothing
columns_give : (xs rest : List ℕ) → kept_of false (map column_of xs ++ rest) ≡ kept_of false rest
columns_give [] rest = refl
columns_give (x ∷ xs) rest =
    ap (λ b. kept_of (if b then true else false) (map column_of xs ++ rest)) (no_tab x) ∙ columns_give xs rest

-- a line behind a tab gives itself
line_gives : (line rest : List ℕ) → HasNoNewline line → kept_of true (line ++ 10 ∷ rest) ≡ line ++ 10 ∷ kept_of false rest
line_gives [] rest free = refl
line_gives (x ∷ line) rest free =
    let other : (x == 10) ≡ false = eqb-other x 10 free.0 in
    ap (λ b. x ∷ kept_of (if b then false else true) (line ++ 10 ∷ rest)) other ∙ ap (λ (xs : List ℕ). x ∷ xs) (line_gives line rest free.1)

-- a row gives its line
row_gives : (columns line rest : List ℕ) → HasNoNewline line
    → without_columns (map column_of columns ++ (9 ∷ (line ++ 10 ∷ rest))) ≡ line ++ 10 ∷ without_columns rest
row_gives columns line rest free = columns_give columns (9 ∷ (line ++ 10 ∷ rest)) ∙ line_gives line rest free

-- a row more
pub row_put : (old columned tabbed lined new columns line given : List ℕ) → columned ≡ old ++ map column_of columns → tabbed ≡ columned ++ 9 ∷ []
    → lined ≡ tabbed ++ line → new ≡ lined ++ 10 ∷ [] → HasNoNewline line → Gives old given → Gives new (given ++ (line ++ 10 ∷ []))
row_put old columned tabbed lined new columns line given e1 e2 e3 e4 free h rest =
    let cs = map column_of columns in
    let whole : new ≡ (((old ++ cs) ++ 9 ∷ []) ++ line) ++ 10 ∷ [] =
    e4 ∙ ap (λ (xs : List ℕ). xs ++ 10 ∷ []) (e3 ∙ ap (λ (xs : List ℕ). xs ++ line) (e2 ∙ ap (λ (xs : List ℕ). xs ++ 9 ∷ []) e1)) in
    let split : new ++ rest ≡ old ++ (cs ++ (9 ∷ (line ++ 10 ∷ rest))) = rw whole (simp append_assoc) in
    let there : without_columns (new ++ rest) ≡ given ++ (line ++ 10 ∷ without_columns rest) =
    ap without_columns split ∙ h (cs ++ (9 ∷ (line ++ 10 ∷ rest))) ∙ ap (λ (xs : List ℕ). given ++ xs) (row_gives columns line rest free) in
    there ∙ simp append_assoc

-- a line of words more
pub words_put : (old columned new words given : List ℕ) → columned ≡ old ++ map column_of words → new ≡ columned ++ 10 ∷ [] → Gives old given → Gives new given
words_put old columned new words given e1 e2 h rest =
    let cs = map column_of words in
    let whole : new ≡ (old ++ cs) ++ 10 ∷ [] = e2 ∙ ap (λ (xs : List ℕ). xs ++ 10 ∷ []) e1 in
    let split : new ++ rest ≡ old ++ (cs ++ 10 ∷ rest) = rw whole (simp append_assoc) in
    ap without_columns split ∙ h (cs ++ 10 ∷ rest) ∙ ap (λ (xs : List ℕ). given ++ xs) (columns_give words (10 ∷ rest))

-- nothing written gives nothing
pub gives_none : (sheet : List ℕ) → sheet ≡ [] → Gives sheet []
gives_none sheet e rest = ap (λ (xs : List ℕ). without_columns (xs ++ rest)) e

-- what was written gives its lines, with nothing behind it
pub gives_all : (sheet given : List ℕ) → Gives sheet given → without_columns sheet ≡ given
gives_all sheet given h = ap without_columns (sym (append-nil sheet)) ∙ h [] ∙ append-nil given

-- one line more of a text
pub line_taken : (front line rest : List ℕ) (n : ℕ) → HasNoNewline line → lines_taken front (suc n) (line ++ 10 ∷ rest) ≡ (front ++ (line ++ 10 ∷ [])) ++ lines_taken [] n rest
line_taken front [] rest n free = refl
line_taken front (x ∷ line) rest n free =
    let other : (x == 10) ≡ false = eqb-other x 10 free.0 in
    ap (λ b. if b then (front ++ 10 ∷ []) ++ lines_taken [] n (line ++ 10 ∷ rest) else lines_taken (front ++ x ∷ []) (suc n) (line ++ 10 ∷ rest)) other
    ∙ line_taken (front ++ x ∷ []) line rest n free.1
    ∙ ap (λ (xs : List ℕ). xs ++ lines_taken [] n rest) (append_assoc front (x ∷ []) (line ++ 10 ∷ []))

-- no line is left
pub none_taken : (front text : List ℕ) (n : ℕ) → HasNoNewline text → lines_taken front n text ≡ []
none_taken front text zero free = refl
none_taken front [] (suc n) free = refl
none_taken front (x ∷ text) (suc n) free =
    let other : (x == 10) ≡ false = eqb-other x 10 free.0 in
    ap (λ b. if b then (front ++ 10 ∷ []) ++ lines_taken [] n text else lines_taken (front ++ x ∷ []) (suc n) text) other
    ∙ none_taken (front ++ x ∷ []) text (suc n) free.1

-- rows so far, which give the first lines of a text, of which so many more are to be given
pub record AreRows (sheet left all : List ℕ) (more : ℕ) : Type 0 where
  pub given : List ℕ
  pub gives : Gives sheet given
  pub together : given ++ lines_taken [] more left ≡ all

pub rows_first : (sheet text : List ℕ) (n : ℕ) → Gives sheet [] → AreRows sheet text (lines_taken [] n text) (n - 0)
rows_first sheet text n h = record { given = []; gives = h; together = ap (λ m. lines_taken [] m text) (sub-zero-is n) }
  where
    sub-zero-is : (m : ℕ) → m - 0 ≡ m
    sub-zero-is m = omega arith

pub rows_on : (sheet new left line behind all : List ℕ) (n number : ℕ) → number < n → AreRows sheet left all (n - number) → left ≡ line ++ 10 ∷ behind → HasNoNewline line
    → ((given : List ℕ) → Gives sheet given → Gives new (given ++ (line ++ 10 ∷ []))) → AreRows new behind all (n - (number + 1))
rows_on sheet new left line behind all n number less r e free put =
    let fewer : n - number ≡ suc (n - (number + 1)) = omega (arith, less) in
    let taken : lines_taken [] (n - number) left ≡ (line ++ 10 ∷ []) ++ lines_taken [] (n - (number + 1)) behind =
    ap (λ m. lines_taken [] m left) fewer ∙ ap (lines_taken [] (suc (n - (number + 1)))) e ∙ line_taken [] line behind (n - (number + 1)) free in
    record {
      given = r.given ++ (line ++ 10 ∷ []);
      gives = put r.given r.gives;
      together = append_assoc r.given (line ++ 10 ∷ []) (lines_taken [] (n - (number + 1)) behind) ∙ ap (λ (xs : List ℕ). r.given ++ xs) (sym taken) ∙ r.together;
    }

pub rows_done : (sheet left all : List ℕ) (more : ℕ) → AreRows sheet left all more → lines_taken [] more left ≡ [] → Gives sheet all
rows_done sheet left all more r e =
    subst (Gives sheet) (sym (append-nil r.given) ∙ ap (λ (xs : List ℕ). r.given ++ xs) (sym e) ∙ r.together) r.gives

pub rows_end : (sheet left all : List ℕ) (n number : ℕ) → n ≤ number → AreRows sheet left all (n - number) → Gives sheet all
rows_end sheet left all n number end r =
    let none : n - number ≡ 0 = omega (arith, end) in rows_done sheet left all (n - number) r (ap (λ m. lines_taken [] m left) none)

pub rows_none : (sheet left all : List ℕ) (more : ℕ) → AreRows sheet left all more → HasNoNewline left → Gives sheet all
rows_none sheet left all more r free = rows_done sheet left all more r (none_taken [] left more free)

-- all lines of a text that ends with a newline
pub all_taken : (front text : List ℕ) (n : ℕ) → length text ≤ n → rest_from front text ≡ [] → lines_taken front n text ≡ front ++ text
all_taken front [] zero few e = sym (ap (λ (xs : List ℕ). xs ++ []) e)
all_taken front [] (suc n) few e = sym (ap (λ (xs : List ℕ). xs ++ []) e)
all_taken front (x ∷ xs) zero few e = absurd (omega (arith, few))
all_taken front (x ∷ xs) (suc n) few e =
    elim (eqb_tells x 10) [
      | inl h ↦
          let ends : rest_from [] xs ≡ [] = rw h.0 at e in
          let same : (if true then (front ++ 10 ∷ []) ++ lines_taken [] n xs else lines_taken (front ++ x ∷ []) (suc n) xs) ≡ front ++ x ∷ xs =
          ap (λ (ys : List ℕ). (front ++ 10 ∷ []) ++ ys) (all_taken [] xs n (omega (arith, few)) ends) ∙ append_assoc front (10 ∷ []) xs
          ∙ ap (λ y. front ++ y ∷ xs) (sym h.1) in
          ap (λ (b : Bool). if b then (front ++ 10 ∷ []) ++ lines_taken [] n xs else lines_taken (front ++ x ∷ []) (suc n) xs) h.0 ∙ same
      | inr h ↦
          let ends : rest_from (front ++ x ∷ []) xs ≡ [] = rw h.0 at e in
          let same : (if false then (front ++ 10 ∷ []) ++ lines_taken [] n xs else lines_taken (front ++ x ∷ []) (suc n) xs) ≡ front ++ x ∷ xs =
          all_taken (front ++ x ∷ []) xs (suc n) (omega (arith, few)) ends ∙ append_assoc front (x ∷ []) xs in
          ap (λ (b : Bool). if b then (front ++ 10 ∷ []) ++ lines_taken [] n xs else lines_taken (front ++ x ∷ []) (suc n) xs) h.0 ∙ same
    ]

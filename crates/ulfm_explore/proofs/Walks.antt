-- Lists that are gone through, element by element.
use Rattle.std.proofs.Common.{◌≡◌, ◌∙◌, ℕ, suc, ◌+◌, ◌<◌, Bool, true, false, if◌then◌else◌, List, [], ◌∷◌, ◌++◌, length, get_or, drop, map, Option, Some, refl, sym, ap, add-one}
use Rattle.std.proofs.Math.Seq.{drop-cons}
use Rattle.std.proofs.lemmas.List.{get_or-map, length-map, map-append}
use Rattle.ulfm_schedules.specs.Programs.{text_at}
use Rattle.ulfm_schedules.specs.declared.program.{Find.{Find}, Program.{Program}}
use Rattle.ulfm_schedules.specs.declared.moves.Row.{Row}
use Rattle.ulfm_explore.specs.{Readings.{ranks_to}, Tellings.{Line, Told, answer_to, has_all, has_noted, is_answer, found_to, next_number, outcome_to, outcomes_to, row_to, rows_to, some}, Views.{row_of}}
use Rattle.ulfm_explore.specs.declared.telling.Question.{Question}
use Rattle.std.specs.Prelude.{slice_get}

some_next : (is : ℕ → Bool) (xs : List ℕ) (i : ℕ) → i < length xs → some is (drop i xs) ≡ (if is (get_or xs i 0) then true else some is (drop (i + 1) xs))
some_next is xs i h = rw (add-one, drop-cons xs i 0) refl

-- the element at hand is so
pub some_here : (is : ℕ → Bool) (xs : List ℕ) (i : ℕ) (all : Bool) → i < length xs → is (get_or xs i 0) ≡ true → some is (drop i xs) ≡ all → true ≡ all
some_here is xs i all h holds inv =
    let e : some is (drop i xs) ≡ true = rw holds at (some_next is xs i h) in
    sym e ∙ inv

-- it isn't, and the others are to come
pub some_on : (is : ℕ → Bool) (xs : List ℕ) (i : ℕ) (all : Bool) → i < length xs → is (get_or xs i 0) ≡ false → some is (drop i xs) ≡ all → some is (drop (i + 1) xs) ≡ all
some_on is xs i all h fails inv =
    let e : some is (drop i xs) ≡ some is (drop (i + 1) xs) = rw fails at (some_next is xs i h) in
    sym e ∙ inv

-- the element at hand, as it is seen, and those behind it
pub map_next : {X Y : Type 0} (f : X → Y) (xs : List X) (i : ℕ) (x : X) → i < length xs → x ≡ get_or xs i x → drop i (map f xs) ≡ f x ∷ drop (i + 1) (map f xs)
map_next f xs i x h is =
    let few : i < length (map f xs) = rw length-map h in
    rw (add-one, drop-cons (map f xs) i (f x)) (ap (λ y. y ∷ drop (suc i) (map f xs)) (get_or-map f xs i x (f x) h ∙ ap f (sym is)))

-- the lines of ranks go on
pub rows_on : (out : List ℕ) (n : ℕ) (row : Line) (here rest : List Line) (all : List ℕ) → here ≡ row ∷ rest → rows_to out n here ≡ all → rows_to (row_to out n row) (next_number n) rest ≡ all
rows_on out n row here rest all is inv = sym (ap (rows_to out n) is) ∙ inv

-- outcomes go on
pub outcomes_on : (out : List ℕ) (n : ℕ) (told : Told) (here rest : List Told) (all : List ℕ) → here ≡ told ∷ rest → outcomes_to out n here ≡ all
    → outcomes_to (outcome_to out n told.0) (next_number n) rest ≡ all
outcomes_on out n told here rest all is inv = sym (ap (outcomes_to out n) is) ∙ inv

-- the outcome at hand is the answer
pub answer_here : {A : Type 0} (out : List ℕ) (program : Program A) (question : Question) (is_whole : Bool) (n : ℕ) (told : Told) (here rest : List Told) (all : List ℕ) → here ≡ told ∷ rest
    → is_answer program question told.0 ≡ true → answer_to out program question is_whole n here ≡ all → found_to out n told.1 ≡ all
answer_here out program question is_whole n told here rest all is holds inv =
    let e = ap (answer_to out program question is_whole n) is in
    let f : answer_to out program question is_whole n here ≡ found_to out n told.1 = rw holds at e in
    sym f ∙ inv

-- it isn't, and the others are to come
pub answer_on : {A : Type 0} (out : List ℕ) (program : Program A) (question : Question) (is_whole : Bool) (n : ℕ) (told : Told) (here rest : List Told) (all : List ℕ) → here ≡ told ∷ rest
    → is_answer program question told.0 ≡ false → answer_to out program question is_whole n here ≡ all → answer_to out program question is_whole (next_number n) rest ≡ all
answer_on out program question is_whole n told here rest all is fails inv =
    let e = ap (answer_to out program question is_whole n) is in
    let f : answer_to out program question is_whole n here ≡ answer_to out program question is_whole (next_number n) rest = rw fails at e in
    sym f ∙ inv

-- the rows of one more rank
pub one_row_more : {A : Type 0} (f : ℕ → Option Line) (n : ℕ) (rows new : List (Row A)) (row : Row A) → map Some (map row_of rows) ≡ map f (ranks_to n) → Some (row_of row) ≡ f n
    → new ≡ rows ++ row ∷ [] → map Some (map row_of new) ≡ map f (ranks_to (n + 1))
one_row_more f n rows new row inv is grown = rw (grown, add-one) (simp map-append (cc))

has_all_next : {A : Type 0} (program : Program A) (rows : List Line) (xs : List Find) (i : ℕ) (x : Find) → i < length xs
    → has_all program rows (drop i xs) ≡ (if has_noted (text_at program (get_or xs i x).text) (slice_get rows (get_or xs i x).rank) then has_all program rows (drop (i + 1) xs) else false)
has_all_next program rows xs i x h = rw (add-one, drop-cons xs i x) refl

-- what is looked for first isn't there
pub lacks_one : {A : Type 0} (program : Program A) (rows : List Line) (xs : List Find) (i : ℕ) (x : Find) (all : Bool) → i < length xs
    → has_noted (text_at program (get_or xs i x).text) (slice_get rows (get_or xs i x).rank) ≡ false → has_all program rows (drop i xs) ≡ all → false ≡ all
lacks_one program rows xs i x all h fails inv =
    let e : has_all program rows (drop i xs) ≡ false = rw fails at (has_all_next program rows xs i x h) in
    sym e ∙ inv

-- it is, and the others are to come
pub has_one : {A : Type 0} (program : Program A) (rows : List Line) (xs : List Find) (i : ℕ) (x : Find) (all : Bool) → i < length xs
    → has_noted (text_at program (get_or xs i x).text) (slice_get rows (get_or xs i x).rank) ≡ true → has_all program rows (drop i xs) ≡ all → has_all program rows (drop (i + 1) xs) ≡ all
has_one program rows xs i x all h holds inv =
    let e : has_all program rows (drop i xs) ≡ has_all program rows (drop (i + 1) xs) = rw holds at (has_all_next program rows xs i x h) in
    sym e ∙ inv

-- Tables of the numbers of events tell what walks of a history's beginning would.
use Rattle.std.proofs.Common.{◌≡◌, ◌≤◌, ◌+◌, ◌==◌, ◌||◌, ◌&&◌, ℕ, zero, suc, Bool, true, false, List, [], ◌∷◌, ◌++◌, length, take, filter, filter_map, append-nil, Option, Some, None, is_some, slice_get, nat_lt, if◌then◌else◌, refl, sym, ap, ap₂, ◌∙◌, arith}
use Rattle.std.specs.Option.{option_map}
use Rattle.std.specs.List.{cons_option, list_any}
use Rattle.std.proofs.lemmas.Bool.{and_parts, eqb-true, le-ltb, lt-ltb}
use Rattle.ulfm_model.specs.History.{same_place}
use Rattle.ulfm_numbers.specs.Numbers.{count_by, numbers_from}
use Rattle.ulfm_numbers.specs.Numbers.{before_then, by_then, first_from, first_noted, first_or, number_of, passing}

-- what came first, or else what an event of this number gives
abbrev pub first_else : {Y : Type 0} → Option (ℕ × Y) → Option Y → ℕ → Option (ℕ × Y)
first_else (Some at) o n = Some at
first_else None o n = first_or o n None

module _ {X Y : Type 0} (f : X → Option Y) where
  -- what is given from event n on was not given before
  not_before : (n m : ℕ) (xs : List X) → m ≤ n → by_then m (first_from f n xs) ≡ None
  not_before n m [] le = refl
  not_before n m (x ∷ xs) le = go (f x) (not_before (n + 1) m xs (omega arith))
    where
      go : (o : Option Y) → by_then m (first_from f (n + 1) xs) ≡ None → by_then m (first_or o n (first_from f (n + 1) xs)) ≡ None
      go None later = later
      go (Some y) later = ap (λ (b : Bool). if b then Some y else None) (le-ltb n m le)

  -- what is given first among the first so many events
  pub first_at : (n p : ℕ) (xs : List X) → slice_get (filter_map f (take p xs)) 0 ≡ by_then (n + p) (first_from f n xs)
  first_at n zero [] = refl
  first_at n (suc p) [] = refl
  first_at n zero (x ∷ xs) = sym (not_before n (n + 0) (x ∷ xs) (omega arith))
  first_at n (suc p) (x ∷ xs) = go (f x) (first_at (n + 1) p xs)
    where
      go : (o : Option Y) → slice_get (filter_map f (take p xs)) 0 ≡ by_then (n + 1 + p) (first_from f (n + 1) xs)
          → slice_get (cons_option o (filter_map f (take p xs))) 0 ≡ by_then (n + suc p) (first_or o n (first_from f (n + 1) xs))
      go None later = let same : n + 1 + p ≡ n + suc p = omega arith in later ∙ ap (λ m. by_then m (first_from f (n + 1) xs)) same
      go (Some y) later = sym (ap (λ (b : Bool). if b then Some y else None) (lt-ltb n (n + suc p) (omega arith)))

  -- one more event gives something first only where none did before
  pub first_push : (n : ℕ) (xs : List X) (x : X) → first_from f n (xs ++ x ∷ []) ≡ first_else (first_from f n xs) (f x) (n + length xs)
  first_push n [] x = let same : n ≡ n + 0 = omega arith in ap (λ m. first_or (f x) m None) same
  first_push n (y ∷ ys) x = go (f y) (first_push (n + 1) ys x)
    where
      go : (o : Option Y) → first_from f (n + 1) (ys ++ x ∷ []) ≡ first_else (first_from f (n + 1) ys) (f x) (n + 1 + length ys)
          → first_or o n (first_from f (n + 1) (ys ++ x ∷ [])) ≡ first_else (first_or o n (first_from f (n + 1) ys)) (f x) (n + length (y ∷ ys))
      go None later = let same : n + 1 + length ys ≡ n + length (y ∷ ys) = omega arith in later ∙ ap (first_else (first_from f (n + 1) ys) (f x)) same
      go (Some z) later = refl

-- what passes a test is among some exactly where a first one does
pub any_passing : {X Y : Type 0} (g : X → Option Y) (p : Y → Bool) (xs : List X) → list_any p (filter_map g xs) ≡ is_some (slice_get (filter_map (λ e. passing p (g e)) xs) 0)
any_passing g p [] = refl
any_passing {X} {Y} g p (x ∷ xs) = go (g x) (any_passing g p xs)
  where
    by_test : (b : Bool) (y : Y) → list_any p (filter_map g xs) ≡ is_some (slice_get (filter_map (λ e. passing p (g e)) xs) 0)
        → (b || list_any p (filter_map g xs)) ≡ is_some (slice_get (cons_option (if b then Some y else None) (filter_map (λ e. passing p (g e)) xs)) 0)
    by_test true y rest = refl
    by_test false y rest = rest

    go : (o : Option Y) → list_any p (filter_map g xs) ≡ is_some (slice_get (filter_map (λ e. passing p (g e)) xs) 0)
        → list_any p (cons_option o (filter_map g xs)) ≡ is_some (slice_get (cons_option (passing p o) (filter_map (λ e. passing p (g e)) xs)) 0)
    go None rest = rest
    go (Some y) rest = by_test (p y) y rest

-- whether something had happened by then, by its number
then_some : {Y : Type 0} (point : ℕ) (o : Option (ℕ × Y)) → is_some (by_then point o) ≡ before_then point (number_of o)
then_some point None = refl
then_some point (Some at) = elim (nat_lt (at.0) point) as (λ b. is_some (if b then Some (at.1) else None) ≡ b) [ true ↦ refl | false ↦ refl ]

-- whether one passes a test by then
pub passing_at : {X Y : Type 0} (g : X → Option Y) (p : Y → Bool) (point : ℕ) (h : List X)
    → list_any p (filter_map g (take point h)) ≡ before_then point (number_of (first_from (λ e. passing p (g e)) 0 h))
passing_at g p point h =
    let same : 0 + point ≡ point = omega arith in
    any_passing g p (take point h)
    ∙ (ap is_some (first_at (λ e. passing p (g e)) 0 point h)
    ∙ (ap (λ n. is_some (by_then n (first_from (λ e. passing p (g e)) 0 h))) same ∙ then_some point (first_from (λ e. passing p (g e)) 0 h)))

-- what is given first by then, with numbers counted from 0
pub first_by : {X Y : Type 0} (f : X → Option Y) (point : ℕ) (xs : List X) → slice_get (filter_map f (take point xs)) 0 ≡ by_then point (first_from f 0 xs)
first_by f point xs = let same : 0 + point ≡ point = omega arith in first_at f 0 point xs ∙ ap (λ n. by_then n (first_from f 0 xs)) same

else_none : {Y : Type 0} (o : Option (ℕ × Y)) (n : ℕ) → first_else o None n ≡ o
else_none None n = refl
else_none (Some at) n = refl

-- A table by keys that tells, of each, what w makes of the number and the value of the first event that gives one; and one more event.
module _ {K X Y V : Type 0} (eq : K → K → Bool) (one : (k q : K) → eq k q ≡ true → k ≡ q) (f : K → X → Option Y) (w : Option (ℕ × Y) → Option V) (v : ℕ × Y → V)
    (w_none : w None ≡ None) (w_some : (at : ℕ × Y) → w (Some at) ≡ Some (v at)) (h : List X) (x : X) (old : K → Option V) (tells : (q : K) → old q ≡ w (first_from (f q) 0 h)) where
  abbrev more : K → Option (ℕ × Y)
  more q = first_from (f q) 0 (h ++ x ∷ [])

  pushed : (q : K) (o : Option Y) → f q x ≡ o → more q ≡ first_else (first_from (f q) 0 h) o (0 + length h)
  pushed q o is = first_push (f q) 0 h x ∙ ap (λ p. first_else (first_from (f q) 0 h) p (0 + length h)) is

  -- an event that gives nothing at a key
  pub kept : (q : K) → f q x ≡ None → old q ≡ w (more q)
  kept q none = tells q ∙ ap w (sym (pushed q None none ∙ else_none (first_from (f q) 0 h) (0 + length h)))

  -- a key at which something was given before
  there : (q : K) (z : V) → old q ≡ Some z → old q ≡ w (more q)
  there q z is = go (first_from (f q) 0 h) refl
    where
      go : (o : Option (ℕ × Y)) → first_from (f q) 0 h ≡ o → old q ≡ w (more q)
      go None none = absurd (cc (is, tells q ∙ (ap w none ∙ w_none)))
      go (Some at) some = tells q ∙ ap w (some ∙ sym (pushed q (f q x) refl ∙ ap (λ o. first_else o (f q x) (0 + length h)) some))

  -- one at which nothing was
  fresh : (q : K) (y : Y) → old q ≡ None → f q x ≡ Some y → Some (v (length h, y)) ≡ w (more q)
  fresh q y is gives = go (first_from (f q) 0 h) refl
    where
      go : (o : Option (ℕ × Y)) → first_from (f q) 0 h ≡ o → Some (v (length h, y)) ≡ w (more q)
      go None none =
          let same : length h ≡ 0 + length h = omega arith in
          ap (λ n. Some (v (n, y))) same ∙ (sym (w_some (0 + length h, y)) ∙ ap w (sym (pushed q (Some y) gives ∙ ap (λ o. first_else o (Some y) (0 + length h)) none)))
      go (Some at) some = absurd (cc (is, tells q ∙ (ap w some ∙ w_some at)))

  module _ (k : K) (y : Y) (gives : (q : K) → f q x ≡ (if eq k q then Some y else None)) where
    at_key : (q : K) (b : Bool) → eq k q ≡ b → f q x ≡ (if b then Some y else None)
    at_key q b is = gives q ∙ ap (λ (c : Bool). if c then Some y else None) is

    -- the event's key had something before
    pub stays : (z : V) → old k ≡ Some z → (q : K) → old q ≡ w (more q)
    stays z is q = go (eq k q) refl
      where
        go : (b : Bool) → eq k q ≡ b → old q ≡ w (more q)
        go true same = there q z (ap old (sym (one k q same)) ∙ is)
        go false apart = kept q (at_key q false apart)

    -- it had nothing
    pub grows : old k ≡ None → (new : K → Option V) → ((q : K) → new q ≡ (if eq k q then Some (v (length h, y)) else old q)) → (q : K) → new q ≡ w (more q)
    grows is new puts q = go (eq k q) refl
      where
        go : (b : Bool) → eq k q ≡ b → new q ≡ w (more q)
        go true same = puts q ∙ (ap (λ (c : Bool). if c then Some (v (length h, y)) else old q) same ∙ fresh q y (ap old (sym (one k q same)) ∙ is) (at_key q true same))
        go false apart = puts q ∙ (ap (λ (c : Bool). if c then Some (v (length h, y)) else old q) apart ∙ kept q (at_key q false apart))

-- a table of numbers by key, where one more event gives a key or none
pub noted : {K X : Type 0} (eq : K → K → Bool) (one : (k q : K) → eq k q ≡ true → k ≡ q) (g : X → Option K) (h : List X) (x : X) (old new : K → Option ℕ) (n : ℕ) (given : Option K)
    → given ≡ g x → ((q : K) → new q ≡ first_noted eq old n given q)
    → ((q : K) → old q ≡ number_of (first_from (λ e. passing (λ k. eq k q) (g e)) 0 h)) → n ≡ length h
    → (q : K) → new q ≡ number_of (first_from (λ e. passing (λ k. eq k q) (g e)) 0 (h ++ x ∷ []))
noted {K} eq one g h x old new n None is puts tells count q =
    puts q ∙ kept eq one (λ q e. passing (λ k. eq k q) (g e)) number_of (λ at. at.0) refl (λ at. refl) h x old tells q (ap (passing (λ k. eq k q)) (sym is))
noted {K} eq one g h x old new n (Some k) is puts tells count q = by_old (old k) refl
  where
    gives : (p : K) → passing (λ j. eq j p) (g x) ≡ (if eq k p then Some k else None)
    gives p = ap (passing (λ j. eq j p)) (sym is)

    by_old : (o : Option ℕ) → old k ≡ o → new q ≡ number_of (first_from (λ e. passing (λ j. eq j q) (g e)) 0 (h ++ x ∷ []))
    by_old (Some z) has_one =
        puts q
        ∙ (ap (λ (o : Option ℕ). if is_some o then old q else (if eq k q then Some n else old q)) has_one
        ∙ stays eq one (λ p e. passing (λ j. eq j p) (g e)) number_of (λ at. at.0) refl (λ at. refl) h x old tells k k gives z has_one q)
    by_old None none =
        grows eq one (λ p e. passing (λ j. eq j p) (g e)) number_of (λ at. at.0) refl (λ at. refl) h x old tells k k gives none new
        (λ p. puts p ∙ (ap (λ (o : Option ℕ). if is_some o then old p else (if eq k p then Some n else old p)) none ∙ ap (λ m. if eq k p then Some m else old p) count)) q

-- places that are found to be one are
pub place_is : (k q : ℕ × ℕ × ℕ) → same_place k q ≡ true → k ≡ q
place_is k q same =
    let parts = and_parts ((k.0 == q.0) && (k.1 == q.1)) (k.2 == q.2) same in
    let first = and_parts (k.0 == q.0) (k.1 == q.1) parts.0 in
    let a : k.0 ≡ q.0 = eqb-true (k.0) (q.0) first.0 in
    let b : k.1 ≡ q.1 = eqb-true (k.1) (q.1) first.1 in
    let c : k.2 ≡ q.2 = eqb-true (k.2) (q.2) parts.1 in
    λ i. (a i, b i, c i)

module _ {X Y : Type 0} (f : X → Option Y) where
  -- entries from number n on were not there before
  none_before : (n m : ℕ) (xs : List X) → m ≤ n → count_by m (numbers_from f n xs) ≡ 0
  none_before n m [] le = refl
  none_before n m (x ∷ xs) le = go (f x) (none_before (n + 1) m xs (omega arith))
    where
      go : (o : Option Y) → count_by m (numbers_from f (n + 1) xs) ≡ 0 → count_by m (cons_option (option_map (λ y. n) o) (numbers_from f (n + 1) xs)) ≡ 0
      go None later = later
      go (Some y) later = ap (λ (b : Bool). length (if b then n ∷ filter (λ t. nat_lt t m) (numbers_from f (n + 1) xs) else filter (λ t. nat_lt t m) (numbers_from f (n + 1) xs))) (le-ltb n m le) ∙ later

  -- what the first so many events give
  given_from : (n p : ℕ) (xs : List X) → filter_map f (take p xs) ≡ take (count_by (n + p) (numbers_from f n xs)) (filter_map f xs)
  given_from n zero [] = refl
  given_from n (suc p) [] = refl
  given_from n zero (x ∷ xs) = sym (ap (λ c. take c (filter_map f (x ∷ xs))) (none_before n (n + 0) (x ∷ xs) (omega arith)))
  given_from n (suc p) (x ∷ xs) = go (f x) (given_from (n + 1) p xs)
    where
      same : n + 1 + p ≡ n + suc p
      same = omega arith

      go : (o : Option Y) → filter_map f (take p xs) ≡ take (count_by (n + 1 + p) (numbers_from f (n + 1) xs)) (filter_map f xs)
          → cons_option o (filter_map f (take p xs)) ≡ take (count_by (n + suc p) (cons_option (option_map (λ y. n) o) (numbers_from f (n + 1) xs))) (cons_option o (filter_map f xs))
      go None later = later ∙ ap (λ m. take (count_by m (numbers_from f (n + 1) xs)) (filter_map f xs)) same
      go (Some y) later =
          ap (λ ys. y ∷ ys) (later ∙ ap (λ m. take (count_by m (numbers_from f (n + 1) xs)) (filter_map f xs)) same)
          ∙ sym (ap (λ (b : Bool). take (length (if b then n ∷ filter (λ t. nat_lt t (n + suc p)) (numbers_from f (n + 1) xs) else filter (λ t. nat_lt t (n + suc p)) (numbers_from f (n + 1) xs))) (y ∷ filter_map f xs))
          (lt-ltb n (n + suc p) (omega arith)))

  pub given_at : (point : ℕ) (xs : List X) → filter_map f (take point xs) ≡ take (count_by point (numbers_from f 0 xs)) (filter_map f xs)
  given_at point xs = let same : 0 + point ≡ point = omega arith in given_from 0 point xs ∙ ap (λ m. take (count_by m (numbers_from f 0 xs)) (filter_map f xs)) same

  -- one more event
  pub numbers_more : (n : ℕ) (xs : List X) (x : X) → numbers_from f n (xs ++ x ∷ []) ≡ numbers_from f n xs ++ cons_option (option_map (λ y. n + length xs) (f x)) []
  numbers_more n [] x = let same : n ≡ n + 0 = omega arith in ap (λ m. cons_option (option_map (λ y. m) (f x)) []) same
  numbers_more n (z ∷ xs) x = go (f z) (numbers_more (n + 1) xs x)
    where
      same : n + 1 + length xs ≡ n + length (z ∷ xs)
      same = omega arith

      go : (o : Option Y) → numbers_from f (n + 1) (xs ++ x ∷ []) ≡ numbers_from f (n + 1) xs ++ cons_option (option_map (λ y. n + 1 + length xs) (f x)) []
          → cons_option (option_map (λ y. n) o) (numbers_from f (n + 1) (xs ++ x ∷ []))
          ≡ cons_option (option_map (λ y. n) o) (numbers_from f (n + 1) xs) ++ cons_option (option_map (λ y. n + length (z ∷ xs)) (f x)) []
      go None later = later ∙ ap (λ m. numbers_from f (n + 1) xs ++ cons_option (option_map (λ y. m) (f x)) []) same
      go (Some y) later = ap (λ ys. n ∷ ys) (later ∙ ap (λ m. numbers_from f (n + 1) xs ++ cons_option (option_map (λ y. m) (f x)) []) same)

  given_more : (xs : List X) (x : X) → filter_map f (xs ++ x ∷ []) ≡ filter_map f xs ++ cons_option (f x) []
  given_more [] x = refl
  given_more (z ∷ xs) x = go (f z) (given_more xs x)
    where
      go : (o : Option Y) → filter_map f (xs ++ x ∷ []) ≡ filter_map f xs ++ cons_option (f x) [] → cons_option o (filter_map f (xs ++ x ∷ [])) ≡ cons_option o (filter_map f xs) ++ cons_option (f x) []
      go None later = later
      go (Some y) later = ap (λ ys. y ∷ ys) later

  -- lists of what is given, and of its numbers, after one more event
  pub lists_kept : (given : List Y) (numbers : List ℕ) (xs : List X) (x : X) → f x ≡ None → (given ≡ filter_map f xs) × (numbers ≡ numbers_from f 0 xs)
      → (given ≡ filter_map f (xs ++ x ∷ [])) × (numbers ≡ numbers_from f 0 (xs ++ x ∷ []))
  lists_kept given numbers xs x none tells = (
    tells.0 ∙ sym (given_more xs x ∙ (ap (λ o. filter_map f xs ++ cons_option o []) none ∙ append-nil (filter_map f xs))),
    tells.1 ∙ sym (numbers_more 0 xs x ∙ (ap (λ (o : Option Y). numbers_from f 0 xs ++ cons_option (option_map (λ y. 0 + length xs) o) []) none ∙ append-nil (numbers_from f 0 xs))),
  )

  pub lists_grow : (given more : List Y) (numbers later : List ℕ) (xs : List X) (x : X) (y : Y) (n : ℕ) → f x ≡ Some y → n ≡ length xs → more ≡ given ++ y ∷ [] → later ≡ numbers ++ n ∷ []
      → (given ≡ filter_map f xs) × (numbers ≡ numbers_from f 0 xs) → (more ≡ filter_map f (xs ++ x ∷ [])) × (later ≡ numbers_from f 0 (xs ++ x ∷ []))
  lists_grow given more numbers later xs x y n gives count more_is later_is tells =
      let same : n ≡ 0 + length xs = omega (arith, count) in (
        more_is ∙ (ap (λ ys. ys ++ y ∷ []) tells.0 ∙ sym (given_more xs x ∙ ap (λ o. filter_map f xs ++ cons_option o []) gives)),
        later_is ∙ (ap₂ (λ ns m. ns ++ m ∷ []) tells.1 same
            ∙ sym (numbers_more 0 xs x ∙ ap (λ (o : Option Y). numbers_from f 0 xs ++ cons_option (option_map (λ z. 0 + length xs) o) []) gives)),
      )

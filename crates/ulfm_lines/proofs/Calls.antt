-- Calls that are under way, and whose they are, behind each line of a trace.
use Rattle.std.proofs.Common.{◌≡◌, ℕ, ◌&&◌, ◌||◌, Bool, true, false, not, List, [], ◌∷◌, ◌++◌, filter, find, Option, is_some, Some, None, refl, ap, sym, ◌∙◌, if◌then◌else◌}
use Rattle.ulfm_model.specs.declared.{event.Caller.{Caller}, event.Event.{Event}, reply.Reply.{Reply}}
use Rattle.ulfm_model.specs.Answers.{traits_of}
use Rattle.ulfm_model.specs.declared.line.Line.{Line}
use Rattle.ulfm_model.specs.{Follows.{AreOf, is_of}, Traces.{Told, Traced, Under, after, after_reply, call_by, caller_of, change_by, is_owned, said_by, same_caller, with_event}}
use Rattle.ulfm_model.proofs.Callers.{same_is}

-- no call of this test is found behind those that fail it
pub find_behind : {X : Type 0} (p : X → Bool) (xs : List X) (x : X) → p x ≡ false → find p (xs ++ x ∷ []) ≡ find p xs
find_behind p [] x is = ap (λ (b : Bool). if b then Some x else None) is
find_behind p (y ∷ ys) x is = ap (λ more. if p y then Some y else more) (find_behind p ys x is)

-- another caller's call is found as before a change
pub find_unchanged : {P : Type 0} (by other : Caller) (f : Under P → Under P) → ((u : Under P) → (f u).asked ≡ u.asked) → same_caller by other ≡ false → (xs : List (Under P))
    → find (λ v. same_caller (caller_of v) other) (change_by by f xs) ≡ find (λ v. same_caller (caller_of v) other) xs
find_unchanged by other f keeps differ [] = refl
find_unchanged {P} by other f keeps differ (x ∷ xs) = go (same_caller (caller_of x) by) refl (find_unchanged by other f keeps differ xs)
  where
    go : (b : Bool) → same_caller (caller_of x) by ≡ b → find (λ v. same_caller (caller_of v) other) (change_by by f xs) ≡ find (λ v. same_caller (caller_of v) other) xs
        → find (λ v. same_caller (caller_of v) other) (if b then f x ∷ xs else x ∷ change_by by f xs) ≡ find (λ v. same_caller (caller_of v) other) (x ∷ xs)
    go true here more =
        let is : caller_of x ≡ by = same_is (caller_of x) by here in
        let gone : same_caller (caller_of x) other ≡ false = ap (λ c. same_caller c other) is ∙ differ in
        let gone_too : same_caller (caller_of (f x)) other ≡ false = ap (λ a. same_caller (traits_of a).by other) (keeps x) ∙ gone in
        ap (λ (b : Bool). if b then Some (f x) else find (λ v. same_caller (caller_of v) other) xs) gone_too
        ∙ sym (ap (λ (b : Bool). if b then Some x else find (λ v. same_caller (caller_of v) other) xs) gone)
    go false here more = ap (λ w. if same_caller (caller_of x) other then Some x else w) more

-- another caller's call is found as before one is left out
pub find_kept : {P : Type 0} (by other : Caller) → same_caller by other ≡ false → (xs : List (Under P))
    → find (λ v. same_caller (caller_of v) other) (filter (λ v. not (same_caller (caller_of v) by)) xs) ≡ find (λ v. same_caller (caller_of v) other) xs
find_kept by other differ [] = refl
find_kept {P} by other differ (x ∷ xs) = go (same_caller (caller_of x) by) refl (find_kept by other differ xs)
  where
    go : (b : Bool) → same_caller (caller_of x) by ≡ b → find (λ v. same_caller (caller_of v) other) (filter (λ v. not (same_caller (caller_of v) by)) xs) ≡ find (λ v. same_caller (caller_of v) other) xs
        → find (λ v. same_caller (caller_of v) other) (if not b then x ∷ (filter (λ v. not (same_caller (caller_of v) by)) xs) else (filter (λ v. not (same_caller (caller_of v) by)) xs)) ≡ find (λ v. same_caller (caller_of v) other) (x ∷ xs)
    go true here more =
        let is : caller_of x ≡ by = same_is (caller_of x) by here in
        let gone : same_caller (caller_of x) other ≡ false = ap (λ c. same_caller c other) is ∙ differ in
        more ∙ sym (ap (λ (b : Bool). if b then Some x else find (λ v. same_caller (caller_of v) other) xs) gone)
    go false here more = ap (λ w. if same_caller (caller_of x) other then Some x else w) more

-- a caller's own call isn't found once it is left out
pub find_left_out : {P : Type 0} (by : Caller) (xs : List (Under P)) → find (λ v. same_caller (caller_of v) by) (filter (λ v. not (same_caller (caller_of v) by)) xs) ≡ None
find_left_out by [] = refl
find_left_out {P} by (x ∷ xs) = go (same_caller (caller_of x) by) refl (find_left_out by xs)
  where
    go : (b : Bool) → same_caller (caller_of x) by ≡ b → find (λ v. same_caller (caller_of v) by) (filter (λ v. not (same_caller (caller_of v) by)) xs) ≡ None → find (λ v. same_caller (caller_of v) by) (if not b then x ∷ (filter (λ v. not (same_caller (caller_of v) by)) xs) else (filter (λ v. not (same_caller (caller_of v) by)) xs)) ≡ None
    go true here none = none
    go false here none = ap (λ (b : Bool). if b then Some x else find (λ v. same_caller (caller_of v) by) (filter (λ v. not (same_caller (caller_of v) by)) xs)) here ∙ none

-- an event changes nothing of what was asked
pub keeps_asked : {P : Type 0} (event : Event P) (u : Under P) → (with_event event u).asked ≡ u.asked
keeps_asked {P} event u = go (is_owned u event)
  where
    go : (b : Bool) → (let w : Under P = if b then record u { own = u.own ++ event ∷ [] } else u in w.asked) ≡ u.asked
    go true = refl
    go false = refl

-- whether one of these is this caller's
abbrev has_by : {P : Type 0} → Caller → List (Under P) → Bool
has_by by xs = is_some (find (λ v. same_caller (caller_of v) by) xs)

some_if : {X : Type 0} (b : Bool) (x : X) → is_some (if b then Some x else None) ≡ b
some_if true x = refl
some_if false x = refl

-- it is so behind one more call
has_last : {P : Type 0} (by : Caller) (xs : List (Under P)) (x : Under P) → has_by by (xs ++ x ∷ []) ≡ has_by by xs || same_caller (caller_of x) by
has_last by [] x = some_if (same_caller (caller_of x) by) x
has_last {P} by (y ∷ ys) x = go (same_caller (caller_of y) by) (has_last by ys x)
  where
    go : (b : Bool) → has_by by (ys ++ x ∷ []) ≡ has_by by ys || same_caller (caller_of x) by
        → is_some (if b then Some y else find (λ v. same_caller (caller_of v) by) (ys ++ x ∷ []))
        ≡ is_some (if b then Some y else find (λ v. same_caller (caller_of v) by) ys) || same_caller (caller_of x) by
    go true more = refl
    go false more = more

one_of : {X : Type 0} (b : Bool) (x y : X) (m n : Option X) → is_some m ≡ is_some n → is_some (if b then Some x else m) ≡ is_some (if b then Some y else n)
one_of true x y m n same = refl
one_of false x y m n same = same

-- it is so after a change that keeps what was asked
has_changed : {P : Type 0} (by other : Caller) (f : Under P → Under P) → ((u : Under P) → (f u).asked ≡ u.asked) → (xs : List (Under P))
    → has_by other (change_by by f xs) ≡ has_by other xs
has_changed by other f keeps [] = refl
has_changed {P} by other f keeps (x ∷ xs) = go (same_caller (caller_of x) by) (has_changed by other f keeps xs)
  where
    there : same_caller (caller_of (f x)) other ≡ same_caller (caller_of x) other
    there = ap (λ a. same_caller (traits_of a).by other) (keeps x)

    go : (b : Bool) → has_by other (change_by by f xs) ≡ has_by other xs
        → has_by other (if b then f x ∷ xs else x ∷ change_by by f xs) ≡ has_by other (x ∷ xs)
    go true more =
        ap (λ (b : Bool). is_some (if b then Some (f x) else find (λ v. same_caller (caller_of v) other) xs)) there
        ∙ one_of (same_caller (caller_of x) other) (f x) x (find (λ v. same_caller (caller_of v) other) xs) (find (λ v. same_caller (caller_of v) other) xs) refl
    go false more =
        one_of (same_caller (caller_of x) other) x x (find (λ v. same_caller (caller_of v) other) (change_by by f xs)) (find (λ v. same_caller (caller_of v) other) xs) more

-- whether rank q has a call under way behind a line, where it has or hasn't before
abbrev pub opens : {P : Type 0} → ℕ → Line P → Bool → Bool
opens q (Line.Called asked padded) was = was || same_caller (traits_of asked).by (Caller.Rank q)
opens q (Line.Replied by point (Some reply)) was = not (same_caller by (Caller.Rank q)) && was
opens q _ was = was

-- the same behind lines
abbrev pub opens_all : {P : Type 0} → ℕ → List (Told P) → Bool → Bool
opens_all q [] was = was
opens_all q (told ∷ rest) was = opens_all q rest (opens q told.line was)

module _ {P : Type 0} (q : ℕ) where
  reply_opens : (now : Traced P) (by : Caller) (point : ℕ) (reply : Reply P) (answered : Option (Under P)) → call_by now by ≡ answered
      → is_some (call_by (after_reply now by point reply answered) (Caller.Rank q)) ≡ not (same_caller by (Caller.Rank q)) && is_some (call_by now (Caller.Rank q))
  reply_opens now by point reply answered is = go answered is (same_caller by (Caller.Rank q)) refl
    where
      go : (o : Option (Under P)) → call_by now by ≡ o → (b : Bool) → same_caller by (Caller.Rank q) ≡ b
          → is_some (call_by (after_reply now by point reply o) (Caller.Rank q)) ≡ not b && is_some (call_by now (Caller.Rank q))
      go None none true same = ap (λ c. is_some (call_by now c)) (sym (same_is by (Caller.Rank q) same)) ∙ ap is_some none
      go None none false differ = refl
      go (Some u) some true same =
          ap (λ c. is_some (find (λ v. same_caller (caller_of v) c) (filter (λ v. not (same_caller (caller_of v) by)) now.calls))) (sym (same_is by (Caller.Rank q) same))
          ∙ ap is_some (find_left_out by now.calls)
      go (Some u) some false differ = ap is_some (find_kept by (Caller.Rank q) differ now.calls)

  line_opens : (now : Traced P) (line : Line P) → is_some (call_by (after now line) (Caller.Rank q)) ≡ opens q line (is_some (call_by now (Caller.Rank q)))
  line_opens now (Line.Called asked padded) = has_last (Caller.Rank q) now.calls _
  line_opens now (Line.Looked r count) = has_changed (Caller.Rank r) (Caller.Rank q) (λ u. record u { look = Some count }) (λ u. refl) now.calls
  line_opens now (Line.Happened by None) = refl
  line_opens now (Line.Happened by (Some event)) = has_changed by (Caller.Rank q) (with_event event) (keeps_asked event) now.calls
  line_opens now (Line.Replied by point None) = refl
  line_opens now (Line.Replied by point (Some reply)) = reply_opens now by point reply (call_by now by) refl

  pub said_opens : (now : Traced P) (piece : List (Told P)) → is_some (call_by (said_by now piece) (Caller.Rank q)) ≡ opens_all q piece (is_some (call_by now (Caller.Rank q)))
  said_opens now [] = refl
  said_opens now (told ∷ rest) = said_opens (after now told.line) rest ∙ ap (opens_all q rest) (line_opens now told.line)

  pub opens_append : (xs ys : List (Told P)) (was : Bool) → opens_all q (xs ++ ys) was ≡ opens_all q ys (opens_all q xs was)
  opens_append [] ys was = refl
  opens_append (x ∷ xs) ys was = opens_append xs ys (opens q x.line was)

  outside_line : (line : Line P) (was : Bool) → is_of Caller.Outside line ≡ true → opens q line was ≡ was
  outside_line (Line.Called asked padded) was is = absurd (cc is)
  outside_line (Line.Looked r count) was is = absurd (cc is)
  outside_line (Line.Happened by event) was is = refl
  outside_line (Line.Replied by point None) was is = refl
  outside_line (Line.Replied Caller.Outside point (Some reply)) was is = refl
  outside_line (Line.Replied (Caller.Rank r) point (Some reply)) was is = absurd (cc is)

  -- lines of the outside leave the ranks' calls
  pub outside_opens : (piece : List (Told P)) (was : Bool) → AreOf Caller.Outside piece → opens_all q piece was ≡ was
  outside_opens [] was all = refl
  outside_opens (told ∷ rest) was all = ap (opens_all q rest) (outside_line told.line was all.0) ∙ outside_opens rest was all.1
